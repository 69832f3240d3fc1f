use Rattle.std.proofs.Common.{◌≡◌, ℕ, true, arith, sym, subst}
use Rattle.tensor_defs.specs.declared.Setting.{Setting}
use Rattle.tensor_defs.specs.Symbols.{takes_setting}
use Rattle.magnetic_groups.specs.Sets.{In}
use Rattle.group_names.specs.LookUps.{HaveForms, row_of}
use Rattle.group_names.proofs.Matrices.{row_at}
use Rattle.group_names.proofs.RuledOut.{other_row, same_row}
use Rattle.group_names.proofs.name_oriented.Goals as goal

pub returns-then-matrices_at-matrices : goal.returns-then-matrices_at-matrices
returns-then-matrices_at-matrices c =
    other_row c.args.group.now c.args.place c.args.matrices c.matrices_at.result c.requires.listed (omega arith) c.requires.counted c.matrices_at.ensures c.if-matrices_at-matrices.true

pub name_with-requires-clause-takes : goal.name_with-requires-clause-takes
name_with-requires-clause-takes c =
    let P : Setting → Type 0 = λ s. takes_setting c.parent_at.result s ≡ true in
    let Q : ℕ → Type 0 = λ n. takes_setting n (row_of c.args.place).setting ≡ true in
    subst P (sym c.setting_at.ensures) (subst Q (sym c.parent_at.ensures) (row_at c.args.place c.requires.listed).takes)

pub name_with-requires-clause-forms : goal.name_with-requires-clause-forms
name_with-requires-clause-forms c =
    let P : Setting → Type 0 = λ s. HaveForms c.parent_at.result s (In c.args.group.now) in
    let Q : ℕ → Type 0 = λ n. HaveForms n (row_of c.args.place).setting (In c.args.group.now) in
    subst P (sym c.setting_at.ensures) (subst Q (sym c.parent_at.ensures)
    (same_row c.args.group.now c.args.place c.args.matrices c.matrices_at.result c.requires.listed c.requires.counted c.matrices_at.ensures c.if-matrices_at-matrices.false))
