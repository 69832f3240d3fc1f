-- Groups told by marks alone.
--   marked_count    how many operations are marked
--   marked_has      the mark tells membership
--   marked_within   marks among others
--   marked_form     the matrices that are marked
use Rattle.std.proofs.Common.{◌≡◌, ℕ, ◌+◌, ◌*◌, ◌<◌, Bool, true, false, List}
use Rattle.std.proofs.Common.{ap, sym, ◌∙◌, arith, subst, ◌⊎◌, inl, inr}
use Rattle.std.specs.Prelude.{Contains, ◌↔◌, IsTrue}
use Rattle.tensor_defs.specs.Operation.{Operation}
use Rattle.op_matrix.specs.Table.{nth_operation, operation_at, place}
use Rattle.op_matrix.proofs.Facts.{nth_at, place_of_nth}
use Rattle.magnetic_groups.specs.Prelude.{AreWithin, mark_at, marked_below, HasForm, In, IsWithin}
use Rattle.group_closing.proofs.Marked.{Below, contains_told, contains_of}

-- ---- the mark tells membership
told_at : (m : List Bool) (k : ℕ) → k < 128 → Contains (marked_below 128 m) (nth_operation k) → mark_at m k ≡ true
told_at m k h c =
    let b : Below 128 m (nth_operation k) = contains_told 128 m (nth_operation k) c in
    subst (λ x. mark_at m x ≡ true) (sym (place_of_nth b.0 b.1) ∙ ap place (sym b.3) ∙ place_of_nth k h) b.2

pub marked_has : (m : List Bool) (g : Operation) (b : Bool) → b ≡ mark_at m (place g) → place g < 128 →
    g ≡ nth_operation (place g) → IsTrue b ↔ Contains (marked_below 128 m) g
marked_has m g b e h at = (
  λ t. subst (Contains (marked_below 128 m)) (sym at) (contains_of 128 (place g) m h (sym e ∙ t)),
  λ c. e ∙ told_at m (place g) h (subst (Contains (marked_below 128 m)) at c),
)

-- ---- marks among others
pub marked_within : (m m' : List Bool) (b : Bool) → (IsTrue b ↔ AreWithin m m') → IsTrue b ↔ IsWithin (marked_below 128 m) (marked_below 128 m')
marked_within m m' b w = (
  λ t g c. let r : Below 128 m g = contains_told 128 m g c in
      subst (Contains (marked_below 128 m')) (sym r.3) (contains_of 128 r.0 m' r.1 (w.0 t r.0 r.1 r.2)),
  λ v. w.1 (λ k h e. told_at m' k h (v (nth_operation k) (contains_of 128 k m h e))),
)

-- ---- the matrices that are marked
even_form : (c : ℕ) → nth_operation (2 * c) ≡ operation_at c false
even_form c = let s : 2 * c ≡ 2 * c + 0 = omega arith in ap nth_operation s ∙ nth_at c false

odd_form : (c : ℕ) → nth_operation (2 * c + 1) ≡ operation_at c true
odd_form c = nth_at c true

pub marked_form : (m : List Bool) (c : ℕ) (P : Type 0) → c < 64 → (P ↔ ((mark_at m (2 * c) ≡ true) ⊎ (mark_at m (2 * c + 1) ≡ true))) →
    P ↔ HasForm (In (marked_below 128 m)) c
marked_form m c P h w = (λ x. forth (w.0 x), λ f. w.1 (back f.0 f.1))
  where
    forth : (mark_at m (2 * c) ≡ true) ⊎ (mark_at m (2 * c + 1) ≡ true) → HasForm (In (marked_below 128 m)) c
    forth (inl e) = (false, subst (Contains (marked_below 128 m)) (even_form c) (contains_of 128 (2 * c) m (omega arith) e))
    forth (inr e) = (true, subst (Contains (marked_below 128 m)) (odd_form c) (contains_of 128 (2 * c + 1) m (omega arith) e))

    back : (b : Bool) → Contains (marked_below 128 m) (operation_at c b) → (mark_at m (2 * c) ≡ true) ⊎ (mark_at m (2 * c + 1) ≡ true)
    back false d = inl (told_at m (2 * c) (omega arith) (subst (Contains (marked_below 128 m)) (sym (even_form c)) d))
    back true d = inr (told_at m (2 * c + 1) (omega arith) (subst (Contains (marked_below 128 m)) (sym (odd_form c)) d))
