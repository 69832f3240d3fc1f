-- A symbol has one long text.
use Rattle.std.proofs.Common.{◌≡◌, ◌∙◌, ◌<◌, ℕ, Bool, true, false, List, nat_eq, refl, sym, ap, subst, inl, inr}
use Rattle.tensor_defs.specs.Symbols.{GroupSymbol}
use Rattle.std.proofs.lemmas.Bool.{eqb-true, eq-eqb}
use Rattle.list_laws.proofs.Prelude.{all_below, below_told, implied}
use Rattle.op_matrix.proofs.Hexagonal.{implies}
use Rattle.dialects.specs.LongTexts.{form_at, has_form, IsFormText, IsShortText}
use Rattle.dialects.specs.Laws.{OneLongText}
use Rattle.dialects.proofs.Patterns.{one_form_text}

abbrev other_parents : ℕ → Bool
other_parents k = all_below 8 (λ j. implies (nat_eq (form_at k).parent (form_at j).parent) (nat_eq k j))

all_other_parents : all_below 8 other_parents ≡ true
unfolding form_at
all_other_parents = refl

all_have_forms : all_below 8 (λ k. has_form (form_at k).parent) ≡ true
unfolding form_at
all_have_forms = refl

same_form : (k j : ℕ) → k < 8 → j < 8 → (form_at k).parent ≡ (form_at j).parent → k ≡ j
same_form k j h l e =
    eqb-true k j
    (implied (nat_eq (form_at k).parent (form_at j).parent) (nat_eq k j)
    (below_told 8 (λ i. implies (nat_eq (form_at k).parent (form_at i).parent) (nat_eq k i))
    (below_told 8 other_parents all_other_parents k h) j l) (eq-eqb (form_at k).parent (form_at j).parent e))

no_short : (k : ℕ) (a b : List ℕ) (t : GroupSymbol) → IsFormText k a t → IsShortText b t → ⊥
no_short k a b t f h =
    let has : has_form t.parent ≡ true = ap has_form f.parent ∙ below_told 8 (λ j. has_form (form_at j).parent) all_have_forms k f.listed in
    clash (has_form t.parent) has h.other
  where
    clash : (x : Bool) → x ≡ true → x ≡ false → ⊥
    clash x e f = cc

pub one_long_text : OneLongText
one_long_text t a b (inl (k, f)) (inl (j, h)) =
    let same : j ≡ k = same_form j k h.listed f.listed (sym h.parent ∙ f.parent) in
    one_form_text k a b t f (subst (λ (n : ℕ). IsFormText n b t) same h)
one_long_text t a b (inl (k, f)) (inr h) = absurd (no_short k a b t f h)
one_long_text t a b (inr h) (inl (k, f)) = absurd (no_short k b a t f h)
one_long_text t a b (inr h) (inr g) = h.text ∙ sym g.text
