-- Whole numbers, entry by entry.
--   IsTaking    what is left of the whole numbers, and what is taken so far
--   none, small-at, read-back, skip-at, more-at, taking-end    at places of the list
use Rattle.std.proofs.Common.{length, get_or, drop, ◌≡◌, ◌≢◌, ℕ, ◌+◌, ◌<◌, ◌≤◌, inl, inr, List, [], ◌∷◌, ◌++◌, refl, ap, sym, ◌∙◌, subst, nat_eq, cond}
use Rattle.std.proofs.lemmas.Bool.{cases_eq, eq-eqb, ne_eqb}
use Rattle.std.proofs.Math.ListN.{drop_of_length-le}
use Rattle.std.specs.Prelude.{unsigned_abs}
use lib.IntN.{pos}
use Rattle.exact_frac.proofs.Wide.{narrow}
use Rattle.std.proofs.Common.{w64, to_z, of_z}
use Rattle.list_laws.proofs.Prelude.{drop_head, each_map, each_push}
use Rattle.tensor_defs.specs.Prelude.{Each, add, num_zero, whole, value_of, limit, Line}
use Rattle.number_laws.proofs.NumberLaws.{num_add-zero, num_zero-add, num_add_assoc}
use Rattle.sparse_rows.specs.Prelude.{part, coeff, IsEntry, IsRow, whole_part, whole_line, AreWhole, IsWholeRow}
use Rattle.sparse_rows.specs.declared.entry.Entry.{Entry}
use Rattle.sparse_rows.specs.declared.whole.WholeEntry.{WholeEntry}
use Rattle.sparse_rows.proofs.Merging.{part-own, part-other, coeff-snoc, row_snoc}

whole-own : (e : WholeEntry) (u : ℕ) → u ≡ e.unknown → whole_part e u ≡ whole e.number
unfolding whole_part
whole-own e u h =
    ap (λ k. cond (nat_eq k e.unknown) (whole e.number) num_zero) h
    ∙ ap (λ b. cond b (whole e.number) num_zero) (eq-eqb e.unknown e.unknown refl)

whole-other : (e : WholeEntry) (u : ℕ) → u ≢ e.unknown → whole_part e u ≡ num_zero
unfolding whole_part
whole-other e u h = ap (λ b. cond b (whole e.number) num_zero) (ne_eqb u e.unknown h)

-- what is left of the whole numbers, and what is taken so far
pub record IsTaking (ρ : Line) (ws : List WholeEntry) (out : List Entry) : Type 0 where
  pub sum : (u : ℕ) → ρ u ≡ add (coeff out u) (whole_line ws u)
  pub are_whole : AreWhole ws
  pub row_out : IsRow out
  pub below : Each (λ e. Each (λ w. e.unknown < w.unknown) ws) out

pub taking-start : (ws : List WholeEntry) → AreWhole ws → IsTaking (whole_line ws) ws []
taking-start ws h = record { sum = λ u. sym (num_zero-add _); are_whole = h; row_out = tt; below = tt }

below-tail : (w : WholeEntry) (ws : List WholeEntry) (out : List Entry) → Each (λ e. Each (λ x. e.unknown < x.unknown) (w ∷ ws)) out → Each (λ e. Each (λ x. e.unknown < x.unknown) ws) out
below-tail w ws out = each_map (λ e. Each (λ x. e.unknown < x.unknown) (w ∷ ws)) (λ e. Each (λ x. e.unknown < x.unknown) ws) (λ e h. h.1) out

below-head : (w : WholeEntry) (ws : List WholeEntry) (out : List Entry) → Each (λ e. Each (λ x. e.unknown < x.unknown) (w ∷ ws)) out → Each (λ e. e.unknown < w.unknown) out
below-head w ws out = each_map (λ e. Each (λ x. e.unknown < x.unknown) (w ∷ ws)) (λ e. e.unknown < w.unknown) (λ e h. h.0) out

taking-skip : (ρ : Line) (w : WholeEntry) (ws : List WholeEntry) (out : List Entry) → IsTaking ρ (w ∷ ws) out → whole w.number ≡ num_zero → IsTaking ρ ws out
taking-skip ρ w ws out m z = record {
  sum = λ u. m.sum u ∙ ap (add (coeff out u)) (ap (λ x. add x (whole_line ws u)) (none u) ∙ num_zero-add (whole_line ws u));
  are_whole = m.are_whole.2;
  row_out = m.row_out;
  below = below-tail w ws out m.below;
}
  where
    none : (u : ℕ) → whole_part w u ≡ num_zero
    none u = elim (cases_eq u w.unknown) [
      | inl q ↦ whole-own w u q ∙ z
      | inr q ↦ whole-other w u q
    ]

taking-more : (ρ : Line) (w : WholeEntry) (ws : List WholeEntry) (out : List Entry) (e : Entry) → IsTaking ρ (w ∷ ws) out → e.unknown ≡ w.unknown → whole w.number ≡ value_of e.value → IsEntry e → IsTaking ρ ws (out ++ e ∷ [])
taking-more ρ w ws out e m p v z = record {
  sum = λ u. m.sum u ∙ sym (num_add_assoc (coeff out u) (whole_part w u) (whole_line ws u))
      ∙ ap (λ x. add (add (coeff out u) x) (whole_line ws u)) (put u) ∙ ap (λ x. add x (whole_line ws u)) (sym (coeff-snoc out e u));
  are_whole = m.are_whole.2;
  row_out = row_snoc out e m.row_out (subst (λ k. Each (λ x. x.unknown < k) out) (sym p) (below-head w ws out m.below)) z;
  below = each_push (λ x. Each (λ y. x.unknown < y.unknown) ws) out e (below-tail w ws out m.below)
      (subst (λ k. Each (λ y. k < y.unknown) ws) (sym p) m.are_whole.0);
}
  where
    put : (u : ℕ) → whole_part w u ≡ part e u
    put u = elim (cases_eq u w.unknown) [
      | inl q ↦ whole-own w u q ∙ v ∙ sym (part-own e u (q ∙ sym p))
      | inr q ↦ whole-other w u q ∙ sym (part-other e u (λ r. q (r ∙ p)))
    ]

-- ---- at places of the list
taking-at : (ρ : Line) (ws : List WholeEntry) (i : ℕ) (w : WholeEntry) (out : List Entry) → IsTaking ρ (drop i ws) out → i < length ws → w ≡ get_or ws i w → IsTaking ρ (w ∷ drop (i + 1) ws) out
taking-at ρ ws i w out m h e = subst (λ l. IsTaking ρ l out) (drop_head ws i w h e) m

abbrev pub none : WholeEntry
none = record { unknown = 0; number = pos 0 }

pub small-at : (ρ : Line) (ws : List WholeEntry) (i : ℕ) (w : WholeEntry) (out : List Entry) → IsTaking ρ (drop i ws) out → i < length ws → w ≡ get_or ws i w → unsigned_abs w.number < limit
small-at ρ ws i w out m h e = (taking-at ρ ws i w out m h e).are_whole.1

pub read-back : (ρ : Line) (ws : List WholeEntry) (i : ℕ) (w : WholeEntry) (out : List Entry) → IsTaking ρ (drop i ws) out → i < length ws → w ≡ get_or ws i w → whole (to_z w64 (of_z w64 w.number)) ≡ whole w.number
read-back ρ ws i w out m h e = ap whole (narrow w.number (small-at ρ ws i w out m h e))

pub skip-at : (ρ : Line) (ws : List WholeEntry) (i : ℕ) (w : WholeEntry) (out : List Entry) → IsTaking ρ (drop i ws) out → i < length ws → w ≡ get_or ws i w → whole w.number ≡ num_zero → IsTaking ρ (drop (i + 1) ws) out
skip-at ρ ws i w out m h e z = taking-skip ρ w (drop (i + 1) ws) out (taking-at ρ ws i w out m h e) z

pub more-at : (ρ : Line) (ws : List WholeEntry) (i : ℕ) (w : WholeEntry) (out out' : List Entry) (e : Entry) → IsTaking ρ (drop i ws) out → i < length ws → w ≡ get_or ws i w
    → e.unknown ≡ w.unknown → whole w.number ≡ value_of e.value → IsEntry e → out' ≡ out ++ e ∷ [] → IsTaking ρ (drop (i + 1) ws) out'
more-at ρ ws i w out out' e m h p q v z o = subst (IsTaking ρ (drop (i + 1) ws)) (sym o) (taking-more ρ w (drop (i + 1) ws) out e (taking-at ρ ws i w out m h p) q v z)

pub taking-end : (ws : List WholeEntry) (i : ℕ) (out : List Entry) → IsTaking (whole_line ws) (drop i ws) out → length ws ≤ i → IsWholeRow ws out
taking-end ws i out m h =
    let d : drop i ws ≡ [] = drop_of_length-le ws h in
    let s : IsTaking (whole_line ws) [] out = subst (λ l. IsTaking (whole_line ws) l out) d m in
    record { is_row = s.row_out; same = λ j u. sym (s.sum u ∙ num_add-zero (coeff out u)) j }
