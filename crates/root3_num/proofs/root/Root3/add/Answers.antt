use Rattle.std.proofs.Common.{◌≡◌, sym, subst, inl, inr}
use Rattle.tensor_defs.specs.Number.{Number, Root3, add, PartReaches}
use Rattle.root3_num.specs.Roots.{value_of_root, IsHeldRoot}
use Rattle.root3_num.proofs.Steps.{sum-is, sum-refused}
use Rattle.root3_num.proofs.root.Root3.add.Goals as goal

pub returns-in_err-a : goal.returns-in_err-a
returns-in_err-a c =
    sum-refused _ _ _ _ c.self.view_is c.other.view_is c.self.invariant c.other.invariant _ c.from_residual.ensures.0
    (inl c.in_err-a.ensures)

pub returns-in_err-b : goal.returns-in_err-b
returns-in_err-b c =
    sum-refused _ _ _ _ c.self.view_is c.other.view_is c.self.invariant c.other.invariant _ c.from_residual-in_err-b.ensures.0
    (inr c.in_err-b.ensures)

pub returns : goal.returns
returns c =
    let r : Root3 = record { a = c.self.inside.a; b = c.self.inside.b } in
    let s : Root3 = record { a = c.other.inside.a; b = c.other.inside.b } in
    let x : add (value_of_root r) (value_of_root s) ≡ add (value_of_root c.args.self.now) (value_of_root c.args.other.now) =
    λ i. add (value_of_root (c.self.view_is i)) (value_of_root (c.other.view_is i)) in
    let p = sum-is r s c.in_ok-a.a c.in_ok-b.b c.self.invariant c.other.invariant (c.in_ok-a.ensures) (c.in_ok-b.ensures) in
    let Q : Number → Root3 → Type 0 = λ n v. IsHeldRoot n v × (PartReaches n → ⊥) in
    subst (λ n. Q n c.of.result) x (subst (λ v. Q (add (value_of_root r) (value_of_root s)) v) (sym c.of.ensures.parts) p)
