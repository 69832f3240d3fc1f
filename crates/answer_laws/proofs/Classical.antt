-- What is not false: the listing of a group, and the first element outside another.
--   either              not both a fact and its negation fail
--   text_stable         two texts that are not different are the same
--   listed_or           a group of a symbol doesn't lack a listing
--   outside_or_below    a group isn't both not below another and without a first element outside
use Rattle.list_laws.proofs.Kit.{◌≡◌, ℕ, ◌+◌, arith, Bool, true, false, eqb, ◌≢◌, List, [], ◌∷◌, ◌++◌, length, refl, sym, ◌⊎◌, inl, inr, subst, eqb_tells}
use Rattle.list_laws.proofs.Kit.{get_or-replicate}
use Rattle.std.specs.Prelude.{Contains, IsTrue, replicate}
use Rattle.list_laws.proofs.Prelude.{heads, tails, held_here, held_later, held_cases, none_held, each_held, each_from}
use Rattle.tensor_defs.specs.Prelude.{InGroup, IsBelow, Each, IsRising, IsListing, Operation, comes_before, GroupSymbol, IsGroupSymbol}
use Rattle.text_defs.specs.Refusals.{IsOutside}
use Rattle.op_matrix.specs.Table.{place}
use Rattle.op_matrix.proofs.Listed.{Placed}
use Rattle.group_closing.specs.Marks.{marked_below}
use Rattle.group_closing.proofs.Marked.{contains_of, marked_rising}
use Rattle.answer_laws.proofs.Groups.{symbol_placed}

abbrev pub NotFalse : Type 0 → Type 0
NotFalse A = (A → ⊥) → ⊥

pub either : (A : Type 0) → NotFalse (A ⊎ (A → ⊥))
either A fails = fails (inr (λ a. fails (inl a)))

-- ---- texts
text_told : (a b : List ℕ) → (a ≡ b) ⊎ (a ≡ b → ⊥)
text_told [] [] = inl refl
text_told [] (y ∷ b) = inr (λ e. cc)
text_told (x ∷ a) [] = inr (λ e. cc)
text_told (x ∷ a) (y ∷ b) = by_heads (eqb_tells x y) (text_told a b)
  where
    by_heads : ((eqb x y ≡ true) × (x ≡ y)) ⊎ ((eqb x y ≡ false) × (x ≢ y)) → (a ≡ b) ⊎ (a ≡ b → ⊥) →
        (x ∷ a ≡ y ∷ b) ⊎ (x ∷ a ≡ y ∷ b → ⊥)
    by_heads (inl is) (inl e) = inl (λ i. is.1 i ∷ e i)
    by_heads (inl is) (inr n) = inr (λ e. n (tails e))
    by_heads (inr isnt) t = inr (λ e. isnt.1 (heads e))

pub text_stable : (a b : List ℕ) → NotFalse (a ≡ b) → a ≡ b
text_stable a b h = elim (text_told a b) [ inl e ↦ e | inr n ↦ absurd (h n) ]

-- ---- the operations in their order
every_place : List Bool
every_place = replicate 128 true

in_order : List Operation
in_order = marked_below 128 every_place

in_order_rises : IsRising comes_before in_order
unfolding in_order
in_order_rises = marked_rising 128 every_place (omega arith)

placed_held : (g : Operation) → Placed g → Contains in_order g
unfolding in_order every_place
placed_held g p =
    subst (Contains in_order) (sym p.1)
    (contains_of 128 (place g) every_place p.0 (get_or-replicate 128 (place g) true false p.0))

-- ---- listings
-- the members of a list that are in a set
record Selected (S : Operation → Type 0) (xs : List Operation) : Type 0 where
  members : List Operation
  rising : IsRising comes_before members
  from : (g : Operation) → Contains members g → Contains xs g × S g
  held : (g : Operation) → Contains xs g → S g → Contains members g

selected : (S : Operation → Type 0) (xs : List Operation) → IsRising comes_before xs → NotFalse (Selected S xs)
selected S [] r fails = fails (record {
  members = [];
  rising = tt;
  from = λ g c. absurd (none_held g c);
  held = λ g c s. c;
})
selected S (x ∷ xs) r fails =
    selected S xs r.1 (λ rest. either (S x) (λ t. elim t [ inl s ↦ fails (with_it rest s) | inr n ↦ fails (without rest n) ]))
  where
    with_it : Selected S xs → S x → Selected S (x ∷ xs)
    with_it rest s = record {
      members = x ∷ rest.members;
      rising = (
        each_from (λ b. IsTrue (comes_before x b)) rest.members
            (λ g c. each_held (λ b. IsTrue (comes_before x b)) xs r.0 g (rest.from g c).0),
        rest.rising,
      );
      from = λ g c. elim (held_cases g x rest.members c) [
        | inl e ↦ (subst (λ y. Contains (x ∷ xs) y) e (held_here x xs), subst S e s)
        | inr d ↦ (held_later g x xs (rest.from g d).0, (rest.from g d).1)
      ];
      held = λ g c h. elim (held_cases g x xs c) [
        | inl e ↦ subst (λ y. Contains (x ∷ rest.members) y) e (held_here x rest.members)
        | inr d ↦ held_later g x rest.members (rest.held g d h)
      ];
    }

    without : Selected S xs → (S x → ⊥) → Selected S (x ∷ xs)
    without rest n = record {
      members = rest.members;
      rising = rest.rising;
      from = λ g c. (held_later g x xs (rest.from g c).0, (rest.from g c).1);
      held = λ g c h. elim (held_cases g x xs c) [
        | inl e ↦ absurd (n (subst S (sym e) h))
        | inr d ↦ rest.held g d h
      ];
    }

-- a listing of the group of a symbol
pub record Listed (S : Operation → Type 0) : Type 0 where
  pub elements : List Operation
  pub listing : IsListing comes_before S elements

pub listed_or : (t : GroupSymbol) → IsGroupSymbol t → NotFalse (Listed (InGroup t))
listed_or t h fails =
    selected (InGroup t) in_order in_order_rises
    (λ s. fails (record {
      elements = s.members;
      listing = record {
        rising = s.rising;
        members = λ g. (λ c. (s.from g c).1, λ i. s.held g (placed_held g (symbol_placed t h g i)) i);
      };
    }))

-- ---- the first element outside
record FirstOut (G : Operation → Type 0) (xs : List Operation) : Type 0 where
  earlier : List Operation
  first : Operation
  later : List Operation
  split : xs ≡ earlier ++ first ∷ later
  inside : Each G earlier
  outside : ¬ G first

first_or : (G : Operation → Type 0) (xs : List Operation) → NotFalse (Each G xs ⊎ FirstOut G xs)
first_or G [] fails = fails (inl tt)
first_or G (x ∷ xs) fails =
    either (G x) (λ t. elim t [
      | inl s ↦ first_or G xs (λ u. elim u [ inl e ↦ fails (inl (s, e)) | inr o ↦ fails (inr (later_out s o)) ])
      | inr n ↦ fails (inr (record { earlier = []; first = x; later = xs; split = refl; inside = tt; outside = n }))
    ])
  where
    later_out : G x → FirstOut G xs → FirstOut G (x ∷ xs)
    later_out s o = record {
      earlier = x ∷ o.earlier;
      first = o.first;
      later = o.later;
      split = λ i. x ∷ o.split i;
      inside = (s, o.inside);
      outside = o.outside;
    }

pub outside_or_below : (g f : GroupSymbol) → IsGroupSymbol f →
    NotFalse (IsBelow (InGroup f) (InGroup g) ⊎ ((k : ℕ) × IsOutside g f k))
outside_or_below g f h fails =
    listed_or f h (λ l. first_or (InGroup g) l.elements (λ t. elim t [
      | inl e ↦ fails (inl (λ k i. each_held (InGroup g) l.elements e k ((l.listing.members k).1 i)))
      | inr o ↦ fails (inr (
        length o.earlier + 1,
        record {
          elements = l.elements;
          listing = l.listing;
          earlier = o.earlier;
          first = o.first;
          later = o.later;
          split = o.split;
          inside = o.inside;
          outside = o.outside;
          place = refl;
        },
      ))
    ]))
