use Rattle.std.proofs.Common.{◌≡◌, ◌∙◌, ap, sym, subst, inl, inr}
use Rattle.tensor_defs.specs.Number.{Number, Root3, add, mul, whole, value_of, ReachesLimit, ProductReaches}
use lib.IntN.{pos}
use Rattle.exact_frac.specs.Held.{IsHeldAs}
use Rattle.root3_num.specs.Roots.{value_of_root, IsHeldRoot}
use Rattle.root3_num.proofs.Steps.{product-is, product-refused}
use Rattle.root3_num.proofs.root.Root3.mul.Goals as goal

pub returns-in_err-ac : goal.returns-in_err-ac
returns-in_err-ac c =
    product-refused _ _ _ _ c.self.view_is c.other.view_is c.self.invariant c.other.invariant _ c.from_residual.ensures.0
    (inl c.in_err-ac.ensures)

pub returns-in_err-bd : goal.returns-in_err-bd
returns-in_err-bd c =
    product-refused _ _ _ _ c.self.view_is c.other.view_is c.self.invariant c.other.invariant _ c.from_residual-in_err-bd.ensures.0
    (inr (inl c.in_err-bd.ensures))

pub returns-in_err-triple : goal.returns-in_err-triple
returns-in_err-triple c =
    product-refused _ _ _ _ c.self.view_is c.other.view_is c.self.invariant c.other.invariant _ c.from_residual-in_err-triple.ensures.0
    (inr (inr (inl (subst ReachesLimit (λ i. mul (sym c.of_whole.ensures.value.same i) (sym c.in_ok-bd.ensures.same i)) c.in_err-triple.ensures))))

pub returns-in_err-a : goal.returns-in_err-a
returns-in_err-a c =
    let bd = c.in_ok-bd.ensures in
    let t = c.in_ok-triple.ensures in
    product-refused _ _ _ _ c.self.view_is c.other.view_is c.self.invariant c.other.invariant _ c.from_residual-in_err-a.ensures.0
    (inr (inr (inr (inl (subst ReachesLimit (λ i. add (sym c.in_ok-ac.ensures.same i)
    ((sym t.same ∙ (λ j. mul (sym c.of_whole.ensures.value.same j) (sym bd.same j))) i)) c.in_err-a.ensures)))))

pub returns-in_err-ad : goal.returns-in_err-ad
returns-in_err-ad c =
    product-refused _ _ _ _ c.self.view_is c.other.view_is c.self.invariant c.other.invariant _ c.from_residual-in_err-ad.ensures.0
    (inr (inr (inr (inr (inl c.in_err-ad.ensures)))))

pub returns-in_err-bc : goal.returns-in_err-bc
returns-in_err-bc c =
    product-refused _ _ _ _ c.self.view_is c.other.view_is c.self.invariant c.other.invariant _ c.from_residual-in_err-bc.ensures.0
    (inr (inr (inr (inr (inr (inl c.in_err-bc.ensures))))))

pub returns-in_err-b : goal.returns-in_err-b
returns-in_err-b c =
    product-refused _ _ _ _ c.self.view_is c.other.view_is c.self.invariant c.other.invariant _ c.from_residual-in_err-b.ensures.0
    (inr (inr (inr (inr (inr (inr (subst ReachesLimit (λ i. add (sym c.in_ok-ad.ensures.same i) (sym c.in_ok-bc.ensures.same i))
    c.in_err-b.ensures)))))))

pub returns : goal.returns
returns c =
    let r : Root3 = record { a = c.self.inside.a; b = c.self.inside.b } in
    let s : Root3 = record { a = c.other.inside.a; b = c.other.inside.b } in
    let ac = c.in_ok-ac.ensures in
    let bd = c.in_ok-bd.ensures in
    let triple : mul (value_of c.of_whole.result) (value_of c.in_ok-bd.bd) ≡ mul (whole (pos 3)) (mul (value_of r.b) (value_of s.b)) =
    λ i. mul (sym c.of_whole.ensures.value.same i) (sym bd.same i) in
    let t = c.in_ok-triple.ensures in
    let first : add (value_of c.in_ok-ac.ac) (value_of c.in_ok-triple.triple)
    ≡ add (mul (value_of r.a) (value_of s.a)) (mul (whole (pos 3)) (mul (value_of r.b) (value_of s.b))) =
    λ i. add (sym ac.same i) ((sym t.same ∙ triple) i) in
    let ad = c.in_ok-ad.ensures in
    let bc = c.in_ok-bc.ensures in
    let second : add (value_of c.in_ok-ad.ad) (value_of c.in_ok-bc.bc)
    ≡ add (mul (value_of r.a) (value_of s.b)) (mul (value_of r.b) (value_of s.a)) =
    λ i. add (sym ad.same i) (sym bc.same i) in
    let p = product-is r s c.self.invariant c.other.invariant c.in_ok-ac.ac c.in_ok-bd.bd c.in_ok-triple.triple c.in_ok-a.a c.in_ok-ad.ad c.in_ok-bc.bc c.in_ok-b.b
    ac bd (subst (λ x. IsHeldAs x c.in_ok-triple.triple) triple t) (subst (λ x. IsHeldAs x c.in_ok-a.a) first (c.in_ok-a.ensures))
    ad bc (subst (λ x. IsHeldAs x c.in_ok-b.b) second (c.in_ok-b.ensures)) in
    let Q : Number → Number → Root3 → Type 0 = λ x y v. IsHeldRoot (mul x y) v × (ProductReaches x y → ⊥) in
    subst (λ n. Q n (value_of_root c.args.other.now) c.of.result) (ap value_of_root c.self.view_is)
    (subst (λ n. Q (value_of_root r) n c.of.result) (ap value_of_root c.other.view_is)
    (subst (λ v. Q (value_of_root r) (value_of_root s) v) (sym c.of.ensures.parts) p))
