-- The parts of a component in a state.
--   IsAddingParts   the sums after the first components from which one takes
--   row_told        the row of a component of a form is that of its table
use Rattle.std.proofs.Common.{◌≡◌, ℕ, ◌+◌, ◌<◌, ◌≤◌, ◌^◌, ◌⊎◌, List, length, drop, refl, ap, sym, ◌∙◌, subst, Ok}
use Rattle.tensor_defs.specs.Prelude.{Number, Root3, add, mul, num_one, PartReaches, ProductReaches, Operation, StateRowGrows, Table, Index, Marks, index_of}
use Rattle.tensor_defs.specs.Prelude.{sign}
use Rattle.tensor_laws.proofs.ComponentNumbers.{number-index_of}
use Rattle.reduced_form.specs.declared.forms.Term.{Term}
use Rattle.reduced_form.specs.Forms.{FormValue, form_table, row_at}
use Rattle.tensor_action.specs.declared.parts.Part.{Part}
use Rattle.tensor_action.specs.Acting.{AddsPart, factor}
use Rattle.tensor_action.specs.Reaching.{AreParts, part_at}
use Rattle.tensor_action.specs.Factors.{product_number}
use Rattle.sign_moves.specs.Signs.{signed}
use Rattle.tensor_defs.specs.declared.Sign.{Sign}
use Rattle.tensor_action.proofs.SumLaws.{IsSummed, summed-calm, summed-end}
use Rattle.tensor_action.proofs.Walks.{IsWalking, number_below, part-factor, part_here, walk-end, walk-grows, walk-more, walk-start}
use Rattle.state_marks.specs.Sums.{AddsRow, IsZeros, RowGrows, column, factor_in, root_at, sum_at}
use Rattle.state_marks.specs.Adding.{AreSummed}

pub record IsAddingParts (m : Marks) (g : Operation) (r : ℕ) (a : Table) (i : Index) (rest : List Part) (sums : List Root3) : Type 0 where
  pub len : length sums ≡ length a.free
  pub walking : IsWalking m g r i (length a.free) (column a) rest (root_at sums)

module _ (m : Marks) (g : Operation) (r : ℕ) (a : Table) (i : Index) (rank : length i ≡ r) where
  pub parts-start : (ps : List Part) (sums : List Root3) → AreParts g i ps → IsZeros (length a.free) sums →
      IsAddingParts m g r a i (drop 0 ps) sums
  parts-start ps sums parts zeros = record {
    len = zeros.len;
    walking = walk-start m g r i rank (length a.free) (column a) ps (root_at sums) parts zeros.zero;
  }

  module _ (ps : List Part) (place : ℕ) (h : place < length ps) (sums : List Root3) (w : IsAddingParts m g r a i (drop place ps) sums) where
    abbrev p : Part
    p = part_at ps place

    pub number_small : p.number < 3 ^ r
    number_small = number_below m g r i rank (length a.free) (column a) ps place h (root_at sums) w.walking

    factor_here : (s : Sign) → sign m g ≡ signed s num_one → signed s (product_number p.product) ≡ factor m g i (index_of r p.number)
    factor_here s e =
        part-factor m g r i rank (length a.free) (column a) s p (signed s (product_number p.product)) e
        (part_here m g r i rank (length a.free) (column a) ps place h (root_at sums) w.walking) refl

    module _ (ts : List Term) (row : (k : ℕ) → factor_in ts k ≡ column a k (index_of r p.number)) (s : Sign) (e : sign m g ≡ signed s num_one) where
      abbrev x : Number
      x = signed s (product_number p.product)

      pub parts-more : (news : List Root3) → AddsRow sums x ts news → IsAddingParts m g r a i (drop (place + 1) ps) news
      parts-more news adds = record {
        len = adds.len ∙ w.len;
        walking = walk-more m g r i rank (length a.free) (column a) ps place h (root_at sums) w.walking x (factor_here s e) (root_at news)
            (λ k l calm. subst (λ y. AddsPart (sum_at sums k) x y (Ok (root_at news k))) (row k)
            (adds.each k (subst (λ b. k < b) (sym w.len) l) calm));
      }

      pub parts-grow : RowGrows sums x ts → StateRowGrows m g a r i
      parts-grow grows =
          let k = grows.place in
          let l : k < length a.free = subst (λ b. k < b) w.len grows.within in (
            k,
            l,
            walk-grows m g r i rank (length a.free) (column a) ps place h (root_at sums) w.walking x (factor_here s e) k l
                (subst (λ y. ProductReaches x y ⊎ PartReaches (add (sum_at sums k) (mul x y))) (row k) grows.reaches),
          )

  pub parts-end : (ps : List Part) (place : ℕ) (sums : List Root3) → length ps ≤ place →
      IsAddingParts m g r a i (drop place ps) sums → AreSummed m g r a i sums
  parts-end ps place sums h w =
      let whole : (k : ℕ) → k < length a.free → IsSummed r (factor m g i) (column a k) (3 ^ r) (sum_at sums k) =
      walk-end m g r i rank (length a.free) (column a) ps place (root_at sums) h w.walking in
      record {
        len = w.len;
        each = λ k l. summed-end r (factor m g i) (column a k) (sum_at sums k) (whole k l);
        calm = λ grows. summed-calm r (factor m g i) (column a grows.0) (sum_at sums grows.0) (whole grows.0 grows.1) grows.2;
      }

-- the row of a component of a form is that of its table
pub row_told : (r : ℕ) (f : FormValue) (ts : List Term) (c n k : ℕ) → ts ≡ row_at f.rows c → c ≡ n → n < 3 ^ r →
    factor_in ts k ≡ column (form_table r f) k (index_of r n)
row_told r f ts c n k e same h =
    ap (λ us. factor_in us k) e ∙ ap (λ d. factor_in (row_at f.rows d) k) (same ∙ sym (number-index_of r n h))
