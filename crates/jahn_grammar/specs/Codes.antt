-- How a factor of the code is stored, by which a proof tells the lists of them apart.
--   factor_code     as the pair of its atom and its power
use Rattle.std.specs.Prelude.{ℕ, refl}
use Rattle.std.specs.Coded.{Coded, code_by, coded×, coded_ℕ}
use Rattle.jahn_grammar.specs.declared.Atom.{Atom}
use Rattle.jahn_grammar.specs.declared.Factor.{Factor}
use Rattle.jahn_grammar.specs.contracts.Atom as atom

abbrev pub factor_code : Coded Factor
factor_code =
    code_by (Atom × ℕ) (coded× atom.the_row.coded coded_ℕ) (λ f. (f.atom, f.power))
    (λ p. record { atom = p.0; power = p.1 }) (λ _. refl)
