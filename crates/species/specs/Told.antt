-- What is told of states on the way to their classes.
--   Carries         an operation carries some invariant tensor to another one
--   HasMark         some component is marked in a state
--   AreMarked       for the states before place n, the first of them unmarked, whether some component is
--   AreCarried      for each state, in order, whether its elements carry some invariant tensor to another one
--   TellsOnes, TellsOwn    all members are 1, or some isn't; each is the number of its own place, or some isn't
--   TellsKind       the kind by the leaders
--   AreWithin, HasDifferent    members are numbers of places; how many different members there are
-- Source: International Tables D 3.4.
use Rattle.std.specs.Prelude.{◌≡◌, ◌≢◌, ◌↔◌, ℕ, ◌+◌, ◌-◌, ◌<◌, ◌≤◌, Bool, true, false, List, length, get_or, Contains, IsTrue, nat_lt}
use Rattle.tensor_defs.specs.Prelude.{IsInvariant, JahnSymbol, rank, Each, IsListing, Operation, IsState, Agree, Tensor, act}
use Rattle.state_marks.specs.Told.{MarksValue, StateValue, mark_at, state_at}
use Rattle.species.specs.declared.kinds.Kind.{Kind}
use Rattle.species.specs.declared.kinds.Kind.TheVariants.{Full, Partial, Non}

abbrev pub Carries : JahnSymbol → (Operation → Type 0) → Operation → Type 0
Carries j F g = (t : Tensor) × IsInvariant j F t × ¬ Agree (rank j) (act j.marks g t) t

-- among the components of the numbers below n
abbrev pub HasMark : ℕ → StateValue → Type 0
HasMark n s = (c : ℕ) × (c < n) × IsTrue (mark_at s c)

pub record AreMarked (components : ℕ) (m : MarksValue) (n : ℕ) (flags : List Bool) : Type 0 where
  pub len : length flags ≡ n
  pub first : get_or flags 0 false ≡ false
  pub later : (k : ℕ) → 1 ≤ k → k < n → IsTrue (get_or flags k false) ↔ HasMark components (state_at m (k + 1))

pub record AreCarried (j : JahnSymbol) (F : Operation → Type 0) (reps : List Operation) (flags : List Bool) : Type 0 where
  pub len : length flags ≡ length reps
  pub each : (k : ℕ) (r : Operation) → IsState reps k r → IsTrue (get_or flags (k - 1) false) ↔ Carries j F r

-- ---- leaders
abbrev pub TellsOnes : List ℕ → Bool → Type 0
TellsOnes ls true = (k : ℕ) → k < length ls → get_or ls k 0 ≡ 1
TellsOnes ls false = (k : ℕ) × (k < length ls) × (get_or ls k 0 ≢ 1)

abbrev pub TellsOwn : List ℕ → Bool → Type 0
TellsOwn ls true = (k : ℕ) → k < length ls → get_or ls k 0 ≡ k + 1
TellsOwn ls false = (k : ℕ) × (k < length ls) × (get_or ls k 0 ≢ k + 1)

abbrev pub TellsKind : List ℕ → Kind → Type 0
TellsKind ls Non = TellsOnes ls true
TellsKind ls Full = TellsOnes ls false × TellsOwn ls true
TellsKind ls Partial = TellsOnes ls false × TellsOwn ls false

abbrev pub AreWithin : List ℕ → Type 0
AreWithin ls = Each (λ l. (1 ≤ l) × (l ≤ length ls)) ls

-- the members in their order, each once, are n
abbrev pub HasDifferent : List ℕ → ℕ → Type 0
HasDifferent ls n = (ms : List ℕ) × IsListing nat_lt (λ l. Contains ls l) ms × (n ≡ length ms)
