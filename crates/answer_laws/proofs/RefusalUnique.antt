-- At most one refusal applies to a line.
--   one_fault_place     a text goes wrong at one place
--   one_outside         one number of the first element outside
--   one_first           the first Jahn word of which a fact holds stands at one column
--   one_refusal_of      at most one refusal applies to a request
--   one_refusal_lem     at most one refusal applies to a line of a format
use Rattle.list_laws.proofs.Kit.{◌≡◌, ℕ, suc, ◌+◌, ◌<◌, ◌≤◌, List, [], ◌∷◌, ◌++◌, length, refl, ap, sym, ◌∙◌, arith, inl, inr, subst, cases_lt}
use Rattle.list_laws.proofs.Lists.{heads, tails}
use Rattle.tensor_defs.specs.Prelude.{InGroup, IsAccepted, rank, Each, Operation, GroupSymbol}
use Rattle.text_defs.specs.Prelude.{IsFaulty, RefusalWord, FirstRefused, HasOtherShape, HasShape, IsOutside, IsNotSub, RefusesRequest, Refuses, FirstAt}
use Rattle.text_defs.specs.Prelude.{JahnGrows, jahns_of, groups_of, GroupAt, JahnAt, Request, SpellsRequest, longest_line, Form, Group, Voigt, States, Pairs}
use Rattle.text_defs.specs.Prelude.{Differ, Same, Comment}
use Rattle.text_defs.specs.Refusals.{Long, Syntax, Primes, Rank, Shape, NotSub, TooLarge}
use Rattle.text_defs.specs.declared.Format.{Format}
use Rattle.text_laws.proofs.RequestUnique.{one_request_spelled}
use Rattle.answer_laws.proofs.Listings.{one_listing_lem}
use Rattle.answer_laws.specs.Laws.{OneRefusal}

-- a text goes wrong at one place
pub one_fault_place : (Text : List ℕ → Type 0) (word : List ℕ) (p q : ℕ) → IsFaulty Text word p →
    IsFaulty Text word q → p ≡ q
one_fault_place Text word p q a b = elim (cases_lt p q) [
  | inl lt ↦ absurd (a.place_is.longest q b.place_is.within lt b.place_is.begins)
  | inr ge ↦ elim (cases_lt q p) [
    | inl lt ↦ absurd (b.place_is.longest p a.place_is.within lt a.place_is.begins)
    | inr le ↦ omega arith
  ]
]

-- ---- the first group that isn't accepted, and the first element outside
one_refused : (gs : List GroupAt) (c d : ℕ) → FirstRefused gs c → FirstRefused gs d → c ≡ d
one_refused [] c d a b = absurd a
one_refused (g ∷ gs) c d (inl a) (inl b) = a.1 ∙ sym b.1
one_refused (g ∷ gs) c d (inl a) (inr b) = absurd (a.0 b.0)
one_refused (g ∷ gs) c d (inr a) (inl b) = absurd (b.0 a.0)
one_refused (g ∷ gs) c d (inr a) (inr b) = one_refused gs c d a.1 b.1

none_refused : (gs : List GroupAt) (c : ℕ) → FirstRefused gs c → Each (λ g. IsAccepted g.symbol) gs → ⊥
none_refused [] c a b = a
none_refused (g ∷ gs) c (inl a) b = a.0 b.0
none_refused (g ∷ gs) c (inr a) b = none_refused gs c a.1 b.1

first_outside : (G : Operation → Type 0) (xs ys us vs : List Operation) (x y : Operation) → Each G xs → Each G ys →
    ¬ G x → ¬ G y → xs ++ x ∷ us ≡ ys ++ y ∷ vs → length xs ≡ length ys
first_outside G [] [] us vs x y p q m n e = refl
first_outside G [] (b ∷ ys) us vs x y p q m n e = absurd (m (subst G (sym (heads e)) q.0))
first_outside G (a ∷ xs) [] us vs x y p q m n e = absurd (n (subst G (heads e) p.0))
first_outside G (a ∷ xs) (b ∷ ys) us vs x y p q m n e =
    ap suc (first_outside G xs ys us vs x y p.1 q.1 m n (tails e))

pub one_outside : (G F : GroupSymbol) (k l : ℕ) → IsOutside G F k → IsOutside G F l → k ≡ l
one_outside G F k l a b =
    let lists : a.elements ≡ b.elements = one_listing_lem F a.elements b.elements a.listing b.listing in
    let lengths : length a.earlier ≡ length b.earlier =
    first_outside (InGroup G) a.earlier b.earlier a.later b.later a.first b.first a.inside b.inside a.outside b.outside
    (sym a.split ∙ lists ∙ b.split) in
    a.place ∙ ap (λ n. n + 1) lengths ∙ sym b.place

one_not_sub : (q : Request) (k l c d : ℕ) → IsNotSub q k c → IsNotSub q l d → (k ≡ l) × (c ≡ d)
one_not_sub (Form g j) k l c d a b = absurd a
one_not_sub (Group g) k l c d a b = absurd a
one_not_sub (Voigt g j w) k l c d a b = absurd a
one_not_sub (States g f) k l c d a b = (one_outside g.symbol f.symbol k l a.0 b.0, a.1 ∙ sym b.1)
one_not_sub (Pairs g f) k l c d a b = (one_outside g.symbol f.symbol k l a.0 b.0, a.1 ∙ sym b.1)
one_not_sub (Differ g f j) k l c d a b = (one_outside g.symbol f.symbol k l a.0 b.0, a.1 ∙ sym b.1)
one_not_sub (Same g h j) k l c d a b = absurd a
one_not_sub Comment k l c d a b = absurd a

-- ---- rank and shape
pub one_first : (Fact : JahnAt → Type 0) (js : List JahnAt) (c d : ℕ) → FirstAt Fact js c → FirstAt Fact js d → c ≡ d
one_first Fact [] c d a b = absurd a
one_first Fact (j ∷ js) c d (inl a) (inl b) = a.1 ∙ sym b.1
one_first Fact (j ∷ js) c d (inl a) (inr b) = absurd (b.0 a.0)
one_first Fact (j ∷ js) c d (inr a) (inl b) = absurd (a.0 b.0)
one_first Fact (j ∷ js) c d (inr a) (inr b) = one_first Fact js c d a.1 b.1

not_both_ranks : (js : List JahnAt) (c : ℕ) → FirstAt (λ j. 6 < rank j.jahn) js c → Each (λ j. rank j.jahn ≤ 6) js → ⊥
not_both_ranks [] c a b = a
not_both_ranks (j ∷ js) c (inl a) b = omega (arith, a.0, b.0)
not_both_ranks (j ∷ js) c (inr a) b = not_both_ranks js c a.1 b.1

one_shape : (q : Request) (c d : ℕ) → HasOtherShape q c → HasOtherShape q d → c ≡ d
one_shape (Form g j) c d a b = absurd a
one_shape (Group g) c d a b = absurd a
one_shape (Voigt g j w) c d a b = a.1 ∙ sym b.1
one_shape (States g f) c d a b = absurd a
one_shape (Pairs g f) c d a b = absurd a
one_shape (Differ g f j) c d a b = absurd a
one_shape (Same g h j) c d a b = absurd a
one_shape Comment c d a b = absurd a

not_both_shapes : (q : Request) (c : ℕ) → HasOtherShape q c → HasShape q → ⊥
not_both_shapes (Form g j) c a b = a
not_both_shapes (Group g) c a b = a
not_both_shapes (Voigt g j w) c a b = a.0 b
not_both_shapes (States g f) c a b = a
not_both_shapes (Pairs g f) c a b = a
not_both_shapes (Differ g f j) c a b = a
not_both_shapes (Same g h j) c a b = a
not_both_shapes Comment c a b = a

-- ---- refusals of a request
abbrev Agree : RefusalWord → RefusalWord → ℕ → ℕ → Type 0
Agree v w c d = (v ≡ w) × (c ≡ d)

pub one_refusal_of : (q : Request) (v w : RefusalWord) (c d : ℕ) → RefusesRequest q v c → RefusesRequest q w d →
    (v ≡ w) × (c ≡ d)
one_refusal_of q Long w c d a b = absurd a
one_refusal_of q Syntax w c d a b = absurd a
one_refusal_of q v Long c d a b = absurd b
one_refusal_of q v Syntax c d a b = absurd b
one_refusal_of q Primes Primes c d a b = (refl, one_refused (groups_of q) c d a b)
one_refusal_of q Primes Rank c d a b = absurd (none_refused (groups_of q) c a b.0)
one_refusal_of q Primes Shape c d a b = absurd (none_refused (groups_of q) c a b.0)
one_refusal_of q Primes (NotSub k) c d a b = absurd (none_refused (groups_of q) c a b.0)
one_refusal_of q Primes TooLarge c d a b = absurd (none_refused (groups_of q) c a b.0)
one_refusal_of q Rank Primes c d a b = absurd (none_refused (groups_of q) d b a.0)
one_refusal_of q Rank Rank c d a b = (refl, one_first (λ j. 6 < rank j.jahn) (jahns_of q) c d a.1 b.1)
one_refusal_of q Rank Shape c d a b = absurd (not_both_ranks (jahns_of q) c a.1 b.1)
one_refusal_of q Rank (NotSub k) c d a b = absurd (not_both_ranks (jahns_of q) c a.1 b.1)
one_refusal_of q Rank TooLarge c d a b = absurd (not_both_ranks (jahns_of q) c a.1 b.1)
one_refusal_of q Shape Primes c d a b = absurd (none_refused (groups_of q) d b a.0)
one_refusal_of q Shape Rank c d a b = absurd (not_both_ranks (jahns_of q) d b.1 a.1)
one_refusal_of q Shape Shape c d a b = (refl, one_shape q c d a.2 b.2)
one_refusal_of q Shape (NotSub k) c d a b = absurd (not_both_shapes q c a.2 b.2)
one_refusal_of q Shape TooLarge c d a b = absurd (not_both_shapes q c a.2 b.2)
one_refusal_of q (NotSub k) Primes c d a b = absurd (none_refused (groups_of q) d b a.0)
one_refusal_of q (NotSub k) Rank c d a b = absurd (not_both_ranks (jahns_of q) d b.1 a.1)
one_refusal_of q (NotSub k) Shape c d a b = absurd (not_both_shapes q d b.2 a.2)
one_refusal_of q (NotSub k) (NotSub l) c d a b =
    let same = one_not_sub q k l c d a.3 b.3 in (ap NotSub same.0, same.1)
one_refusal_of q (NotSub k) TooLarge c d a b = absurd (b.3 k c a.3)
one_refusal_of q TooLarge Primes c d a b = absurd (none_refused (groups_of q) d b a.0)
one_refusal_of q TooLarge Rank c d a b = absurd (not_both_ranks (jahns_of q) d b.1 a.1)
one_refusal_of q TooLarge Shape c d a b = absurd (not_both_shapes q d b.2 a.2)
one_refusal_of q TooLarge (NotSub l) c d a b = absurd (a.3 l d b.3)
one_refusal_of q TooLarge TooLarge c d a b = (refl, one_first (JahnGrows q) (jahns_of q) c d a.4 b.4)

-- ---- refusals of a line
abbrev OfRequest : Format → List ℕ → RefusalWord → ℕ → Type 0
OfRequest format line w c =
    (length line ≤ longest_line format) × (q : Request) × SpellsRequest format line q × RefusesRequest q w c

module _ (format : Format) (line : List ℕ) where
  of_requests : (v w : RefusalWord) (c d : ℕ) → OfRequest format line v c → OfRequest format line w d → (v ≡ w) × (c ≡ d)
  of_requests v w c d a b =
      one_refusal_of b.1 v w c d
      (subst (λ q. RefusesRequest q v c) (one_request_spelled format line a.1 b.1 a.2 b.2) a.3) b.3

  -- how a line is refused: as too long, as no request, or by a request
  data Kind (w : RefusalWord) (c : ℕ) : Type 0 where
    long : w ≡ Long → longest_line format < length line → c ≡ longest_line format + 1 → Kind w c
    none : w ≡ Syntax → Refuses format line Syntax c → Kind w c
    by_request : OfRequest format line w c → Kind w c

  kind_of : (w : RefusalWord) (c : ℕ) → Refuses format line w c → Kind w c
  kind_of Long c a = long refl a.0 a.1
  kind_of Syntax c a = none refl a
  kind_of Primes c a = by_request a
  kind_of Rank c a = by_request a
  kind_of Shape c a = by_request a
  kind_of (NotSub k) c a = by_request a
  kind_of TooLarge c a = by_request a

  not_long : longest_line format < length line → length line ≤ longest_line format → ⊥
  not_long a b = omega arith

  by_kinds : (v w : RefusalWord) (c d : ℕ) → Kind v c → Kind w d → (v ≡ w) × (c ≡ d)
  by_kinds v w c d (long a lt e) (long b gt f) = (a ∙ sym b, e ∙ sym f)
  by_kinds v w c d (long a lt e) (none b s) = absurd (not_long lt s.0)
  by_kinds v w c d (long a lt e) (by_request r) = absurd (not_long lt r.0)
  by_kinds v w c d (none a s) (long b gt f) = absurd (not_long gt s.0)
  by_kinds v w c d (none a s) (none b t) =
      (a ∙ sym b, s.3 ∙ ap (λ n. 1 + n) (one_fault_place _ line s.1 t.1 s.2 t.2) ∙ sym t.3)
  by_kinds v w c d (none a s) (by_request r) = absurd (s.2.none (r.1, r.2))
  by_kinds v w c d (by_request r) (long b gt f) = absurd (not_long gt r.0)
  by_kinds v w c d (by_request r) (none b t) = absurd (t.2.none (r.1, r.2))
  by_kinds v w c d (by_request r) (by_request s) = of_requests v w c d r s

pub one_refusal_lem : OneRefusal
one_refusal_lem format line v w c d a b =
    by_kinds format line v w c d (kind_of format line v c a) (kind_of format line w d b)
