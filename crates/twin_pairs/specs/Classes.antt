-- Pair classes of the code, and what their parts tell.
--   class_of       a class of the code as a class of the definitions
--   HasNoEarlier   no state before a number lies in a double coset
--   AreMarked      the states that lie in a double coset are marked
--   IsLast         no number past it is marked
--   AreAdded       the first n of some numbers are marked, and no others that weren't
--   AreMembers     the states of a double coset, where a state is the least
--   IsClassFrom    the class of a state that is the least of its class
-- Source: International Tables D 3.4.
use Rattle.std.specs.Prelude.{◌≡◌, ℕ, ◌<◌, ◌≤◌, Bool, true, List, ◌∷◌, length, Contains, ◌↔◌, ◌⊎◌, nat_lt, slice_index_or, Some}
use Rattle.tensor_defs.specs.Prelude.{Each, IsRising, Operation, IsState, InDouble, IsPairClass}
use Rattle.tensor_defs.specs.PairClasses as defs
use Rattle.magnetic_groups.specs.Prelude.{mark_at, In}
use Rattle.coset_states.specs.Numbering.{Cosets, TellsState}
use Rattle.twin_pairs.specs.declared.PairClass.{PairClass}

abbrev pub class_of : PairClass → defs.PairClass
class_of c = record {
  members = c.members;
  swappable = c.swappable;
  pair_group = c.pair_group;
  pair_name = c.pair_name;
  twin_group = c.twin_group;
  twin_name = c.twin_name;
}

abbrev pub HasNoEarlier : Cosets → Operation → ℕ → Type 0
HasNoEarlier c g k = (l : ℕ) (s : Operation) → IsState c.reps l s → l < k → ¬ InDouble (In c.sub) g s

pub record AreMarked (c : Cosets) (g : Operation) (m : List Bool) : Type 0 where
  pub sized : length m ≡ 129
  pub tells : (k : ℕ) (x : Operation) → TellsState c x (Some k) → (mark_at m k ≡ true) ↔ InDouble (In c.sub) g x

abbrev pub IsLast : List Bool → ℕ → Type 0
IsLast m last = (k : ℕ) → mark_at m k ≡ true → k ≤ last

pub record AreAdded (ks : List ℕ) (n : ℕ) (m m' : List Bool) : Type 0 where
  pub kept : (k : ℕ) → mark_at m k ≡ true → mark_at m' k ≡ true
  pub added : (q d : ℕ) → q < n → mark_at m' (slice_index_or ks q d) ≡ true
  pub only : (k : ℕ) → mark_at m' k ≡ true → (mark_at m k ≡ true) ⊎ Contains ks k

pub record AreMembers (c : Cosets) (g : Operation) (k : ℕ) (ms : List ℕ) : Type 0 where
  pub others : List ℕ
  pub begins : ms ≡ k ∷ others
  pub rising : IsRising nat_lt ms
  pub within : Each (λ l. (1 ≤ l) × (l ≤ length c.reps)) ms
  pub members : (l : ℕ) (s : Operation) → IsState c.reps l s → Contains ms l ↔ InDouble (In c.sub) g s

abbrev pub IsClassFrom : Cosets → Operation → ℕ → defs.PairClass → Type 0
IsClassFrom c g k d =
    IsPairClass (In c.whole) (In c.sub) c.reps d × AreMembers c g k d.members
