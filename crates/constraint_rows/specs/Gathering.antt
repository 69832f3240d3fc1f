-- The words by their numbers, the components that belong to a word, and the parts of a row gathered from them.
--   letters, word_at    the letters that the digits 1, 2, 3 stand for; the word of a number
--   words_below     the words of the numbers below an end
--   terms_from      the components whose indices go on by a word, each with a power of i
--   raised          a term with its component and its power of i raised
--   turn_sign       the sign in front of 1 or i in a power of i
--   unit            1 or -1
--   IsPlaceFor      where a component belongs among parts in their order
--   added           parts in their order, with a number added at a component
--   gathered        parts with those of terms added: of the even powers of i, or of the odd ones
--   part_row        the even or the odd row of a word
-- Source: this project's own form of the sums of words.
use Rattle.std.specs.Prelude.{◌≡◌, ℕ, zero, suc, ◌+◌, ◌*◌, ◌/◌, ◌%◌, ◌<◌, ◌≤◌, Bool, true, false, List, [], ◌∷◌, ◌++◌, cond, filter, length, get_or, nat_eq, take, drop, unsigned_abs, Option, Some, None}
use lib.IntN.{ℤ, pos, negsuc, ◌+ℤ◌}
use Rattle.tensor_defs.specs.declared.Sign.{Sign}
use Rattle.tensor_defs.specs.declared.Sign.TheVariants.{Plus, Minus}
use Rattle.tensor_defs.specs.Prelude.{Each, IsRising, Number, num_zero, Axis, x1, x2, x3, Index, index_of, Letter, level, plus, minus, Word, belongs, twos}
use Rattle.tensor_defs.specs.Prelude.{minus_twos, power_of_minus_one}
use Rattle.sign_moves.specs.declared.classes.Entry.{Entry}
use Rattle.sign_moves.specs.Signs.{times}
use Rattle.constraint_rows.specs.Classes.{class_at}
use Rattle.constraint_rows.specs.WordRows.{AreParts, AreWordRows, parts_rise}
use Rattle.constraint_rows.specs.declared.rows.Part.{Part}
use Rattle.constraint_rows.specs.declared.words.Term.{Term}

-- ---- words
abbrev pub letter_of : Axis → Letter
letter_of x1 = level
letter_of x2 = plus
letter_of x3 = minus

abbrev pub letters : Index → Word
letters [] = []
letters (i ∷ is) = letter_of i ∷ letters is

abbrev pub word_at : ℕ → ℕ → Word
word_at r n = letters (index_of r n)

abbrev pub words_below : ℕ → ℕ → List Word
words_below r zero = []
words_below r (suc n) = words_below r n ++ word_at r n ∷ []

-- the rows of the words that are chosen, among those with numbers below an end
pub record AreRowsBelow
    (r : ℕ) (before : ℕ → ℕ → Bool) (es : List Entry) (chosen : Word → Bool) (end : ℕ) (rows : List (List Part)) : Type 0 where
  pub gone : AreWordRows r before es (filter chosen (words_below r end)) rows

-- ---- terms
abbrev pub terms_from : ℕ → ℕ → Word → List Term
terms_from n q [] = record { component = n; quarters = q } ∷ []
terms_from n q (level ∷ w) = terms_from (3 * n + 2) q w
terms_from n q (plus ∷ w) = terms_from (3 * n) q w ++ terms_from (3 * n + 1) (q + 1) w
terms_from n q (minus ∷ w) = terms_from (3 * n) q w ++ terms_from (3 * n + 1) (q + 3) w

-- a term with its component and its power of i raised
abbrev pub raised : ℕ → ℕ → Term → Term
raised n q t = record { component = t.component + n; quarters = t.quarters + q }

-- terms as those of five letters at most
pub record AreSmallTerms (ts : List Term) : Type 0 where
  pub each : Each (λ t. (t.component ≤ 243) × (t.quarters ≤ 15)) ts

-- the components are below n
pub record AreTermsBelow (n : ℕ) (ts : List Term) : Type 0 where
  pub each : Each (λ t. t.component < n) ts

abbrev pub turn_sign : ℕ → Sign
turn_sign q = cond (nat_eq (q / 2 % 2) 0) Plus Minus

-- the even row for 0, the odd row for 1
abbrev pub part_row : ℕ → Word → Index → Number
part_row b w is =
    cond (belongs w is)
    (cond (nat_eq (twos is % 2) b) (power_of_minus_one (twos is / 2 + minus_twos w is)) num_zero)
    num_zero

-- ---- parts
abbrev pub unit : Sign → ℤ
unit Plus = pos 1
unit Minus = negsuc 0

abbrev pub is_nothing : ℤ → Bool
is_nothing (pos n) = nat_eq n 0
is_nothing (negsuc n) = false

abbrev pub part : ℕ → ℤ → Part
part d k = record { component = d; number = k }

abbrev pub part_at_place : List Part → ℕ → Part
part_at_place ps i = get_or ps i (part 0 (pos 0))

-- all parts ahead of the place come before the component, and the one there doesn't
pub record IsPlaceFor (before : ℕ → ℕ → Bool) (d : ℕ) (ps : List Part) (place : ℕ) : Type 0 where
  pub within : place ≤ length ps
  pub all : (k : ℕ) → k < place → before (part_at_place ps k).component d ≡ true
  pub stop : place < length ps → before (part_at_place ps place).component d ≡ false

abbrev pub with_front : ℕ → ℤ → List Part → List Part
with_front d k ps = cond (is_nothing k) ps (part d k ∷ ps)

abbrev pub added_here : ℕ → ℤ → Part → List Part → List Part
added_here d k p ps = cond (nat_eq p.component d) (with_front d (p.number +ℤ k) ps) (part d k ∷ p ∷ ps)

abbrev pub added : (ℕ → ℕ → Bool) → ℕ → ℤ → List Part → List Part
added before d k [] = part d k ∷ []
added before d k (p ∷ ps) = cond (before p.component d) (p ∷ added before d k ps) (added_here d k p ps)

abbrev pub class_added : (ℕ → ℕ → Bool) → Option (ℕ × Sign) → Sign → List Part → List Part
class_added before None s ps = ps
class_added before (Some x) s ps = added before x.0 (unit (times x.1 s)) ps

abbrev pub term_added : (ℕ → ℕ → Bool) → List Entry → ℕ → Term → List Part → List Part
term_added before es b t ps =
    cond (nat_eq (t.quarters % 2) b) (class_added before (class_at es t.component) (turn_sign t.quarters) ps) ps

abbrev pub gathered : (ℕ → ℕ → Bool) → List Entry → ℕ → List Term → List Part → List Part
gathered before es b [] ps = ps
gathered before es b (t ∷ ts) ps = gathered before es b ts (term_added before es b t ps)

-- the parts with a number added at a place, or without that place where this gives 0
abbrev pub counted_at : List Part → ℕ → ℤ → List Part
counted_at ps i k =
    take i ps ++ with_front (part_at_place ps i).component ((part_at_place ps i).number +ℤ k) (drop (suc i) ps)

-- components of a rank that rise in an order, with numbers other than 0 that are at most k
pub record AreSmallParts (n : ℕ) (before : ℕ → ℕ → Bool) (k : ℕ) (ps : List Part) : Type 0 where
  pub parts : AreParts n ps
  pub rising : IsRising (parts_rise before) ps
  pub small : Each (λ p. unsigned_abs p.number ≤ k) ps
