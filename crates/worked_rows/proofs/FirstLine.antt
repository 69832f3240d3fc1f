-- The line form 2 V isn't refused, and what it is answered with.
--   two_members         the members of the group of 2 are the identity and the twofold rotation about y
--   first_line_not_refused, first_line_answered    the line isn't refused, and has its answer at each number
use Rattle.std.proofs.Common.{◌≡◌, ℕ, ◌<◌, [], refl, ap, sym, arith, ◌⊎◌, inl, inr, subst, get_or, ◌≤◌, lit≤}
use Rattle.std.specs.Prelude.{◌↔◌}
use Rattle.tensor_defs.specs.Prelude.{IsPlain, AllOf, OneUnit, InGroup, Axis, x1, x2, x3, Operation, entry, identity, reversal}
use Rattle.text_defs.specs.Prelude.{RefusalWord, Refuses, RefusesRequest, IsPassed, Request, SpellsRequest, longest_line}
use Rattle.text_defs.specs.Refusals.{Long, Syntax, Primes, Rank, Shape, NotSub, TooLarge}
use Rattle.text_defs.specs.declared.Format.{Format}
use Rattle.text_defs.specs.declared.Format.TheVariants.{One, Two}
use Rattle.text_laws.proofs.RequestUnique.{one_request_spelled}
use Rattle.worked_rows.proofs.FirstRowProof.{first_row, below_first}
use Rattle.worked_rows.proofs.RowProofs.{false_true}
use Rattle.worked_rows.proofs.VectorRow.{two_only, two_y, two_y_in}
use Rattle.worked_rows.specs.Rows.{two_alone, first_line, first_request, FirstLineAnswered, FirstLineNotRefused}

-- the members of the group of 2
pub two_members : (k : Operation) → InGroup two_alone k ↔ ((k ≡ identity) ⊎ (k ≡ two_y))
two_members k = (two_only k, within k)
  where
    within : (k : Operation) → (k ≡ identity) ⊎ (k ≡ two_y) → InGroup two_alone k
    within k (inl e) = ([], tt, e)
    within k (inr e) = subst (InGroup two_alone) (sym e) two_y_in

no_reversal : ¬ InGroup two_alone reversal
no_reversal h = elim (two_only reversal h) [
  | inl e ↦ false_true (sym (ap (λ k. k.primed) e))
  | inr e ↦ false_true (sym (ap (λ k. k.primed) e))
]

pub identity_plain : IsPlain identity
identity_plain = record { rows = rows; columns = columns }
  where
    rows : (i : Axis) → OneUnit (entry identity i x1) (entry identity i x2) (entry identity i x3)
    rows x1 = inl (inl refl, refl, refl)
    rows x2 = inr (inl (refl, inl refl, refl))
    rows x3 = inr (inr (refl, refl, inl refl))

    columns : (j : Axis) → OneUnit (entry identity x1 j) (entry identity x2 j) (entry identity x3 j)
    columns x1 = inl (inl refl, refl, refl)
    columns x2 = inr (inl (refl, inl refl, refl))
    columns x3 = inr (inr (refl, refl, inl refl))

pub two_y_plain : IsPlain two_y
two_y_plain = record { rows = rows; columns = columns }
  where
    rows : (i : Axis) → OneUnit (entry two_y i x1) (entry two_y i x2) (entry two_y i x3)
    rows x1 = inl (inr refl, refl, refl)
    rows x2 = inr (inl (refl, inl refl, refl))
    rows x3 = inr (inr (refl, refl, inr refl))

    columns : (j : Axis) → OneUnit (entry two_y x1 j) (entry two_y x2 j) (entry two_y x3 j)
    columns x1 = inl (inr refl, refl, refl)
    columns x2 = inr (inl (refl, inl refl, refl))
    columns x3 = inr (inr (refl, refl, inr refl))

all_plain : AllOf (InGroup two_alone) IsPlain
all_plain g h = elim (two_only g h) [
  | inl e ↦ subst IsPlain (sym e) identity_plain
  | inr e ↦ subst IsPlain (sym e) two_y_plain
]

-- no refusal applies to the request
not_this : (word : RefusalWord) (column : ℕ) → RefusesRequest first_request word column → ⊥
not_this Long column h = h
not_this Syntax column h = h
not_this Primes column (inl h) = h.0 (inr no_reversal)
not_this Primes column (inr h) = h.1
not_this Rank column (accepted, inl h) = over h.0
  where
    over : 6 < 1 → ⊥
    over h = omega arith
not_this Rank column (accepted, inr h) = h.1
not_this Shape column h = h.2
not_this (NotSub k) column h = h.3
not_this TooLarge column (accepted, ranks, shape, below, inl h) = h.0.1 all_plain
not_this TooLarge column (accepted, ranks, shape, below, inr h) = h.1

of_request : (format : Format) (word : RefusalWord) (column : ℕ) (q : Request) → SpellsRequest format first_line q →
    RefusesRequest q word column → ⊥
of_request format word column q s h =
    not_this word column
    (subst (λ r. RefusesRequest r word column)
    (one_request_spelled format first_line q first_request s (first_row.spelled format)) h)

not_long : (format : Format) → longest_line format < 8 → ⊥
not_long One h = omega arith
not_long Two h = omega arith

not_by : (format : Format) (word : RefusalWord) (column : ℕ) → Refuses format first_line word column → ⊥
not_by format Long column h = not_long format h.0
not_by format Syntax column h = h.2.none (first_request, first_row.spelled format)
not_by format Primes column h = of_request format Primes column h.1 h.2 h.3
not_by format Rank column h = of_request format Rank column h.1 h.2 h.3
not_by format Shape column h = of_request format Shape column h.1 h.2 h.3
not_by format (NotSub k) column h = of_request format (NotSub k) column h.1 h.2 h.3
not_by format TooLarge column h = of_request format TooLarge column h.1 h.2 h.3

pub first_line_not_refused : FirstLineNotRefused
first_line_not_refused format number h = not_by format h.1 h.2 h.3

fifth_differs : (n : ℕ) → 33 ≤ n → 32 ≡ n → ⊥
fifth_differs n h e = omega arith

not_passed : (format : Format) (number : ℕ) → IsPassed format number first_line → ⊥
not_passed format number (inl e) = below_first 0 (lit≤ tt) (ap (λ bs. get_or bs 0 0) e)
not_passed One number (inr (inl h)) = h
not_passed Two number (inr (inl h)) = fifth_differs 97 (lit≤ tt) (ap (λ bs. get_or bs 4 0) h.1)
not_passed One number (inr (inr h)) = h.1
not_passed Two number (inr (inr h)) = below_first 35 (lit≤ tt) (ap (λ bs. get_or bs 0 0) h.1.1)

pub first_line_answered : FirstLineAnswered
first_line_answered format number =
    inr (
      not_passed format number,
      inr (first_line_not_refused format number, first_request, first_row.spelled format, first_row.answered),
    )
