-- Walks over classes: from the component that stands for a class to each component to which moves carry it. Components
-- that were come to have the component that stands for their class; each other one stands for itself, and comes after
-- the ones that the walk began with.
--   item_at, Lengthens    what a queue of components has at a place; a queue with components appended
--   IsClosed, IsClosedAt  a move leads from a component into no later class, and with the sign that the table says; each move does
--   HasClash        a clash between components that were come to
--   IsPending       a component waits in a queue behind a place
--   IsWalk          a walk over the class of r, whose components from a place of the queue on aren't yet carried by the moves
--   IsWalked        the classes that begin with the components below a number
--   Grows, IsStep, IsVisit     what one move changes; what all moves of one component change
use Rattle.std.specs.Prelude.{◌≡◌, ℕ, ◌+◌, ◌<◌, ◌≤◌, List, length, get_or, true, false, ◌⊎◌}
use Rattle.sign_moves.specs.declared.classes.Entry.{Entry}
use Rattle.sign_moves.specs.Signs.{times}
use Rattle.sign_moves.specs.Moves.{Moves}
use Rattle.sign_moves.specs.Classes.{first_at, sign_at, vanishes_at, IsSound, Clashes, total_of}

abbrev pub item_at : List ℕ → ℕ → ℕ
item_at queue i = get_or queue i 0

pub record Lengthens (old new : List ℕ) : Type 0 where
  pub longer : length old ≤ length new
  pub same : (i : ℕ) → i < length old → item_at new i ≡ item_at old i

-- the move k leads from c into no later class, and with the sign that the table says where the class doesn't vanish
pub record IsClosed (m : Moves) (es : List Entry) (k c : ℕ) : Type 0 where
  pub falls : first_at es (m.carried k c) ≤ first_at es c
  pub clean : vanishes_at es (first_at es c) ≡ false → sign_at es c ≡ times (m.sign k c) (sign_at es (m.carried k c))

-- so does each move
pub record IsClosedAt (m : Moves) (es : List Entry) (c : ℕ) : Type 0 where
  pub each : (k : ℕ) → k < m.count → IsClosed m es k c

-- a clash of the class of r, whose move leads to no later class
pub record HasClash (n : ℕ) (m : Moves) (es : List Entry) (r : ℕ) : Type 0 where
  pub clash : Clashes n m es r
  pub falls : first_at es (m.carried clash.move clash.component) ≤ r

pub record IsPending (queue : List ℕ) (head c : ℕ) : Type 0 where
  pub place : ℕ
  pub after : head ≤ place
  pub inside : place < length queue
  pub is : item_at queue place ≡ c

pub record IsWalk (n : ℕ) (m : Moves) (es : List Entry) (r : ℕ) (queue : List ℕ) (head : ℕ) : Type 0 where
  pub sound : IsSound n m es
  pub own : (d : ℕ) → d < n → r < first_at es d → first_at es d ≡ d
  pub marked : (d : ℕ) → vanishes_at es d ≡ true → d ≤ r
  pub clashing : (d : ℕ) → vanishes_at es d ≡ true → HasClash n m es d
  pub below : (i : ℕ) → head ≤ i → i < length queue → item_at queue i < n
  pub of_class : (i : ℕ) → head ≤ i → i < length queue → first_at es (item_at queue i) ≡ r
  pub closed : (d : ℕ) → d < n → first_at es d ≤ r → IsPending queue head d ⊎ IsClosedAt m es d

-- the classes that begin with the components below end
pub record IsWalked (n : ℕ) (m : Moves) (es : List Entry) (end : ℕ) : Type 0 where
  pub sound : IsSound n m es
  pub own : (d : ℕ) → d < n → end ≤ first_at es d → first_at es d ≡ d
  pub marked : (d : ℕ) → vanishes_at es d ≡ true → d < end
  pub clashing : (d : ℕ) → vanishes_at es d ≡ true → HasClash n m es d
  pub closed : (d : ℕ) → d < n → first_at es d < end → IsClosedAt m es d

-- components are taken over into the class of r; those that were come to and the marks stay
pub record Grows (r : ℕ) (old new : List Entry) : Type 0 where
  pub len : length new ≡ length old
  pub first : (d : ℕ) → first_at old d ≤ r → first_at new d ≡ first_at old d
  pub sign : (d : ℕ) → first_at old d ≤ r → sign_at new d ≡ sign_at old d
  pub falls : (d : ℕ) → first_at new d ≤ first_at old d
  pub vanishes : (d : ℕ) → vanishes_at old d ≡ true → vanishes_at new d ≡ true

-- the component at the head of the queue, carried by the move k
pub record IsStep (n : ℕ) (m : Moves) (old new : List Entry) (r : ℕ) (queue longer : List ℕ) (head k : ℕ) : Type 0 where
  pub walk : IsWalk n m new r longer head
  pub grows : Grows r old new
  pub closed : IsClosed m new k (item_at queue head)
  pub lengthens : Lengthens queue longer
  pub falls : total_of new + length longer ≤ total_of old + length queue

-- the component at the head of the queue, carried by each move
pub record IsVisit (n : ℕ) (m : Moves) (old new : List Entry) (r : ℕ) (queue longer : List ℕ) (head : ℕ) : Type 0 where
  pub walk : IsWalk n m new r longer (head + 1)
  pub lengthens : Lengthens queue longer
  pub falls : total_of new + length longer ≤ total_of old + length queue
