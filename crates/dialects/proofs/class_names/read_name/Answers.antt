use Rattle.std.proofs.Common.{◌≡◌, ◌∙◌, List, ℕ, sym, subst, arith}
use Rattle.std.specs.Prelude.{codes}
use Rattle.tensor_defs.specs.Symbols.{GroupSymbol}
use Rattle.dialects.specs.ClassNames.{class_name, plain_symbol}
use Rattle.dialects.specs.Naming.{IsDialectText}
use Rattle.dialects.specs.Searches.{IsPast, IsThis}
use Rattle.dialects.proofs.FirstNames.{name_is_text, named_none, named_more, named_all, named_found}
use Rattle.dialects.proofs.class_names.read_name.Goals as goal

pub loop-number-init : goal.loop-number-init
loop-number-init c =
    let P : GroupSymbol → Type 0 = λ (t : GroupSymbol). IsPast (IsThis (codes "S6") t) c.args.word.now c.in-Err.fault.place in
    named_none c.args.word.now c.in-Err.fault.place (subst P c.plain_symbol.ensures c.in-Err.ensures)

pub compared-requires-in-loop-number : goal.compared-requires-in-loop-number
compared-requires-in-loop-number c =
    subst IsDialectText (sym c.class_name.ensures) (name_is_text c.loop-number.number (omega arith) (omega arith))

pub returns-in-Ok-compared : goal.returns-in-Ok-compared
returns-in-Ok-compared c =
    let n = c.loop-number.number in
    let h : IsThis c.class_name.result.now c.plain_symbol-in-loop-number.result c.args.word.now c.in-Ok-compared.tree = c.in-Ok-compared.ensures in
    named_found c.args.word.now n c.loop-number.place c.in-Ok-compared.tree (omega arith) (omega arith) c.loop-number.invariant
    (h.0 ∙ c.class_name.ensures, h.1 ∙ c.plain_symbol-in-loop-number.ensures)

pub loop-number-preserved : goal.loop-number-preserved
loop-number-preserved c =
    let n = c.loop-number.number in
    let word = c.args.word.now in
    let P : GroupSymbol → Type 0 = λ (t : GroupSymbol). IsPast (IsThis c.class_name.result.now t) word c.in-Err-compared.fault.place in
    let Q : List ℕ → Type 0 = λ (l : List ℕ). IsPast (IsThis l (plain_symbol n)) word c.in-Err-compared.fault.place in
    let this : IsPast (IsThis (class_name n) (plain_symbol n)) word c.in-Err-compared.fault.place =
    subst Q c.class_name.ensures (subst P c.plain_symbol-in-loop-number.ensures c.in-Err-compared.ensures) in
    rw c.max-place.ensures (named_more word n c.loop-number.place c.in-Err-compared.fault.place c.loop-number.invariant this)

pub returns : goal.returns
returns c =
    let e : c.loop-number.number ≡ 43 = omega arith in
    named_all c.args.word.now c.loop-number.place (rw e at c.loop-number.invariant)
