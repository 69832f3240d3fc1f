-- The steps of making a table of classes.
--   single_walked    no walk has begun
--   at_set    what holds of the new entry and of the old ones holds of each entry
--   closed_grows    what is closed stays closed
--   step_marks    the class is marked where the sign differs
--   visit_ends    a component that each move has carried waits no more
use Rattle.list_laws.proofs.Kit.{[], ◌≡◌, ◌≢◌, ℕ, ◌+◌, ◌<◌, ◌≤◌, true, false, List, ◌∷◌, ◌++◌, arith, ap, sym, ◌∙◌, ◌⊎◌, refl, subst, length, le_refl, inl}
use Rattle.list_laws.proofs.Kit.{inr, length-set, get_or-set_other, get_or_push, get_or_append_left, sum_by-set, get_or-set_at, eqb_tells, get_or-eq_default}
use Rattle.list_laws.proofs.Kit.{cases_lt, cases_Bool}
use Rattle.std.proofs.Common.{set}
use Rattle.std.specs.Prelude.{slice_set}
use Rattle.std.proofs.Common.{length-append}
use Rattle.sign_moves.specs.declared.classes.Entry.{Entry}
use Rattle.tensor_defs.specs.declared.Sign.{Sign}
use Rattle.tensor_defs.specs.declared.Sign.TheVariants.{Plus}
use Rattle.sign_moves.specs.Prelude.{times, times-times, times_self, times_plus, Moves, IsReversible, Reaches, stay, move, entry_at, first_at, sign_at}
use Rattle.sign_moves.specs.Prelude.{vanishes_at, total_of, IsSound, IsClassTable, item_at, Lengthens, IsClosed, IsClosedAt, HasClash, IsPending, IsWalk}
use Rattle.sign_moves.specs.Prelude.{IsWalked, Grows, IsStep}
use Rattle.sign_moves.proofs.MoveLaws.{reaches_join, reaches_home}

-- no walk has begun
pub single_walked : (n : ℕ) (m : Moves) (es : List Entry) → length es ≡ n → ((k : ℕ) → k < n → entry_at es k ≡ record { first = k; sign = Plus; vanishes = false }) → IsWalked n m es 0
single_walked n m es len each = record {
  sound = record {
    len = len;
    below = λ c h. rw (each c h, first_at) h;
    lower = λ c h. rw (each c h, first_at) (le_refl c);
    reached = λ c h. rw (each c h, first_at, sign_at) stay;
  };
  own = λ d h e. ap (λ x. x.first) (each d h);
  marked = λ d v. let unset = unmarked d in absurd (cc);
  clashing = λ d v. let unset = unmarked d in absurd (cc);
  closed = λ d h e. absurd (omega arith);
}
  where
    unmarked : (d : ℕ) → vanishes_at es d ≡ false
    unmarked d = elim (cases_lt d n) as (λ _. vanishes_at es d ≡ false) [
      | inl p ↦ ap (λ e. e.vanishes) (each d p)
      | inr p ↦
          let past : length es ≤ d = omega arith in
          ap (λ e. e.vanishes) (get_or-eq_default es (record { first = 0; sign = Plus; vanishes = false }) past)
    ]

-- what holds of the new entry and of the old ones holds of each entry
pub at_set : (P : ℕ → Entry → Type 0) (es : List Entry) (i : ℕ) (e : Entry) → i < length es → P i e → (d : ℕ) → P d (entry_at es d) → P d (entry_at (set es i e) d)
at_set P es i e inside here d there =
    elim (eqb_tells d i) as (λ _. P d (entry_at (set es i e) d)) [
      | inl p ↦
          let Q : Entry → Type 0 = λ x. P d x in
          let at : P d e = let R : ℕ → Type 0 = λ x. P x e in subst R (sym p.1) here in
          subst Q (sym (get_or-set_at es i d e (record { first = 0; sign = Plus; vanishes = false }) p.1 inside)) at
      | inr p ↦
          let Q : Entry → Type 0 = λ x. P d x in
          subst Q (sym (get_or-set_other es i d e (record { first = 0; sign = Plus; vanishes = false }) p.1)) there
    ]

-- the new entry itself
set_here : (es : List Entry) (i : ℕ) (e : Entry) → i < length es → entry_at (set es i e) i ≡ e
set_here es i e inside = get_or-set_at es i i e (record { first = 0; sign = Plus; vanishes = false }) refl inside

-- the sum of the first components with a new entry
set_total : (es : List Entry) (i : ℕ) (e : Entry) → i < length es → total_of (set es i e) + first_at es i ≡ total_of es + e.first
set_total es i e inside = sum_by-set (λ x. x.first) es i e (record { first = 0; sign = Plus; vanishes = false }) inside

pub lengthens_refl : (q : List ℕ) → Lengthens q q
lengthens_refl q = record { longer = le_refl (length q); same = λ i h. refl }

pub lengthens_trans : {a b c : List ℕ} → Lengthens a b → Lengthens b c → Lengthens a c
lengthens_trans {a} {b} {c} f g =
    let first : length a ≤ length b = f.longer in
    let second : length b ≤ length c = g.longer in
    record {
      longer = omega arith;
      same = λ i h. g.same i (omega arith) ∙ f.same i h;
    }

lengthens_push : (q : List ℕ) (x : ℕ) → Lengthens q (q ++ x ∷ [])
lengthens_push q x = record {
  longer = rw (length-append) (omega arith);
  same = λ i h. get_or_append_left q (x ∷ []) 0 i h;
}

grows_refl : (r : ℕ) (es : List Entry) → Grows r es es
grows_refl r es = record { len = refl; first = λ d h. refl; sign = λ d h. refl; falls = λ d. le_refl (first_at es d); vanishes = λ d h. h }

-- what is closed stays closed
pub closed_grows : {m : Moves} {r : ℕ} {a b : List Entry} {k c : ℕ} → Grows r a b → first_at a c ≤ r → IsClosed m a k c → IsClosed m b k c
closed_grows {m} {r} {a} {b} {k} {c} f here h =
    let next : first_at a (m.carried k c) ≤ first_at a c = h.falls in
    let fell : first_at b (m.carried k c) ≤ first_at a (m.carried k c) = f.falls (m.carried k c) in
    let same : first_at b c ≡ first_at a c = f.first c here in
    record {
      falls = omega arith;
      clean = λ v.
          let before : vanishes_at a (first_at a c) ≡ false =
          elim (cases_Bool (vanishes_at a (first_at a c))) as (λ _. vanishes_at a (first_at a c) ≡ false) [
            | inl p ↦
                let still : vanishes_at b (first_at b c) ≡ true = ap (vanishes_at b) same ∙ f.vanishes (first_at a c) p in
                absurd (cc)
            | inr q ↦ q
          ] in
          f.sign c here ∙ h.clean before ∙ ap (times (m.sign k c)) (sym (f.sign (m.carried k c) (omega arith)));
    }

closed_at_grows : {m : Moves} {r : ℕ} {a b : List Entry} {c : ℕ} → Grows r a b → first_at a c ≤ r → IsClosedAt m a c → IsClosedAt m b c
closed_at_grows f here h = record { each = λ k l. closed_grows f here (h.each k l) }

clash_grows : {n r d : ℕ} {m : Moves} {a b : List Entry} → Grows r a b → d ≤ r → HasClash n m a d → HasClash n m b d
clash_grows {n} {r} {d} {m} {a} {b} f low h =
    let c : ℕ = h.clash.component in
    let next : ℕ = m.carried h.clash.move h.clash.component in
    let of_class : first_at a c ≡ d = h.clash.first in
    let there : first_at a next ≤ d = h.falls in
    let fell : first_at b next ≤ first_at a next = f.falls next in
    let here_sign : sign_at b c ≡ sign_at a c = f.sign c (omega arith) in
    let there_sign : sign_at b next ≡ sign_at a next = f.sign next (omega arith) in
    record {
      clash = record {
        move = h.clash.move;
        component = c;
        is_move = h.clash.is_move;
        is_component = h.clash.is_component;
        first = f.first c (omega arith) ∙ of_class;
        differs = λ e. h.clash.differs (sym here_sign ∙ e ∙ ap (times (m.sign h.clash.move c)) there_sign);
      };
      falls = omega arith;
    }

-- no change but of a later component or of a mark keeps the queue's components and the closed ones
module _ {n r head : ℕ} {m : Moves} {a b : List Entry} {q p : List ℕ} (w : IsWalk n m a r q head) (f : Grows r a b) (l : Lengthens q p) where
  pending_longer : {d : ℕ} → IsPending q head d → IsPending p head d
  pending_longer h =
      let inside : h.place < length q = h.inside in
      let longer : length q ≤ length p = l.longer in
      record { place = h.place; after = h.after; inside = omega arith; is = l.same h.place h.inside ∙ h.is }

  closed_longer : (d : ℕ) → d < n → first_at a d ≤ r → IsPending p head d ⊎ IsClosedAt m b d
  closed_longer d below low = elim (w.closed d below low) as (λ _. IsPending p head d ⊎ IsClosedAt m b d) [
    | inl h ↦ inl (pending_longer h)
    | inr h ↦ inr (closed_at_grows f low h)
  ]

  class_longer : (i : ℕ) → head ≤ i → i < length q → first_at b (item_at p i) ≡ r
  class_longer i after inside =
      let before : first_at a (item_at q i) ≡ r = w.of_class i after inside in
      ap (first_at b) (l.same i inside) ∙ f.first (item_at q i) (omega arith) ∙ before

-- the class is marked where the sign differs
pub step_marks : {n r head : ℕ} {m : Moves} {es : List Entry} {q : List ℕ} → IsWalk n m es r q head → head < length q → (k : ℕ) → k < m.count →
    first_at es (m.carried k (item_at q head)) ≤ first_at es (item_at q head) →
    sign_at es (item_at q head) ≢ times (m.sign k (item_at q head)) (sign_at es (m.carried k (item_at q head))) →
    (e : Entry) → r < length es → e.first ≡ first_at es r → e.sign ≡ sign_at es r → e.vanishes ≡ true → IsStep n m es (slice_set es r e) r q q head k
step_marks {n} {r} {head} {m} {es} {q} w inside k is_move falls differs e within first_is sign_is marked =
    let new : List Entry = set es r e in
    let c : ℕ = item_at q head in
    let of_class : first_at es c ≡ r = w.of_class head (le_refl head) inside in
    let first : (d : ℕ) → first_at new d ≡ first_at es d = λ d. at_set (λ x f. f.first ≡ first_at es x) es r e within first_is d refl in
    let sign : (d : ℕ) → sign_at new d ≡ sign_at es d = λ d. at_set (λ x f. f.sign ≡ sign_at es x) es r e within sign_is d refl in
    let grows : Grows r es new = record {
      len = length-set es r e;
      first = λ d h. first d;
      sign = λ d h. sign d;
      falls = λ d. let same = first d in omega arith;
      vanishes = λ d. at_set (λ x f. vanishes_at es x ≡ true → f.vanishes ≡ true) es r e within (λ _. marked) d (λ h. h);
    } in
    let clash : HasClash n m es r = record {
      clash = record { move = k; component = c; is_move = is_move; is_component = w.below head (le_refl head) inside; first = of_class; differs = differs };
      falls = omega arith;
    } in
    let total = set_total es r e within in
    record {
      walk = record {
        sound = record {
          len = length-set es r e ∙ w.sound.len;
          below = λ d l. rw (first d) (w.sound.below d l);
          lower = λ d l. rw (first d) (w.sound.lower d l);
          reached = λ d l. rw (first d, sign d) (w.sound.reached d l);
        };
        own = λ d h l. let same = first d in first d ∙ w.own d h (omega arith);
        marked = λ d. at_set (λ x f. f.vanishes ≡ true → x ≤ r) es r e within (λ _. le_refl r) d (w.marked d);
        clashing = λ d. at_set (λ x f. f.vanishes ≡ true → HasClash n m new x) es r e within
            (λ _. clash_grows grows (le_refl r) clash) d (λ v. clash_grows grows (w.marked d v) (w.clashing d v));
        below = w.below;
        of_class = class_longer w grows (lengthens_refl q);
        closed = λ d h l. let same = first d in closed_longer w grows (lengthens_refl q) d h (omega arith);
      };
      grows = grows;
      closed = record {
        falls = let here = first c in let there = first (m.carried k c) in omega arith;
        clean = λ v.
            let now : vanishes_at new (first_at new c) ≡ true = ap (vanishes_at new) (first c ∙ of_class) ∙ ap (λ x. x.vanishes) (set_here es r e within) ∙ marked in
            absurd (cc);
      };
      lengthens = lengthens_refl q;
      falls = omega arith;
    }

-- a component that no walk has come to joins the class and the queue
module _ {n r head : ℕ} {m : Moves} {es : List Entry} {q : List ℕ} (back : IsReversible n m) (w : IsWalk n m es r q head) (inside : head < length q) (k : ℕ) (is_move : k < m.count) (i : ℕ) (e : Entry)
    (i_is : i ≡ m.carried k (item_at q head)) (later : first_at es (item_at q head) < first_at es i)
    (first_is : e.first ≡ first_at es (item_at q head)) (sign_is : e.sign ≡ times (m.sign k (item_at q head)) (sign_at es (item_at q head))) (unset : e.vanishes ≡ false) where
  abbrev c : ℕ
  c = item_at q head

  abbrev new : List Entry
  new = set es i e

  abbrev longer : List ℕ
  longer = q ++ i ∷ []

  of_class : first_at es c ≡ r
  of_class = w.of_class head (le_refl head) inside

  c_below : c < n
  c_below = w.below head (le_refl head) inside

  i_below : i < n
  i_below = let P : ℕ → Type 0 = λ x. x < n in subst P (sym i_is) (back.stays k c is_move c_below)

  within : i < length es
  within = let P : ℕ → Type 0 = λ x. i < x in subst P (sym w.sound.len) i_below

  joins : e.first ≡ r
  joins = first_is ∙ of_class

  after : r < first_at es i
  after = let P : ℕ → Type 0 = λ x. x < first_at es i in subst P of_class later

  first_low : first_at es i ≤ i
  first_low = w.sound.lower i i_below

  path : Reaches m i e.first e.sign
  path =
      let step : Reaches m c (m.carried k c) (m.sign k c) = move k is_move stay (sym (times_plus (m.sign k c))) in
      let home : Reaches m (m.carried k c) c (m.sign k c) = reaches_home back step c_below in
      let whole : Reaches m (m.carried k c) (first_at es c) (times (m.sign k c) (sign_at es c)) = reaches_join home (w.sound.reached c c_below) in
      rw (i_is, first_is, sign_is) whole

  grows : Grows r es new
  grows = record {
    len = length-set es i e;
    first = λ d. at_set (λ x f. first_at es x ≤ r → f.first ≡ first_at es x) es i e within (λ low. absurd (omega (arith, after))) d (λ _. refl);
    sign = λ d. at_set (λ x f. first_at es x ≤ r → f.sign ≡ sign_at es x) es i e within (λ low. absurd (omega (arith, after))) d (λ _. refl);
    falls = λ d. at_set (λ x f. f.first ≤ first_at es x) es i e within (omega (arith, joins, after)) d (le_refl (first_at es d));
    vanishes = λ d. at_set (λ x f. vanishes_at es x ≡ true → f.vanishes ≡ true) es i e within (λ v. absurd (let low = w.marked i v in omega (arith, after, first_low))) d (λ h. h);
  }

  sound : IsSound n m new
  sound = record {
    len = length-set es i e ∙ w.sound.len;
    below = λ d h. at_set (λ x f. f.first < n) es i e within (rw first_is (w.sound.below c c_below)) d (w.sound.below d h);
    lower = λ d h. at_set (λ x f. f.first ≤ x) es i e within (omega (arith, joins, after, first_low)) d (w.sound.lower d h);
    reached = λ d h. at_set (λ x f. Reaches m x f.first f.sign) es i e within path d (w.sound.reached d h);
  }

  new_here : entry_at new i ≡ e
  new_here = set_here es i e within

  new_pending : IsPending longer head i
  new_pending = record {
    place = length q;
    after = omega (arith, inside);
    inside = rw length-append (omega arith);
    is = get_or_push q i 0 (length q) refl;
  }

  -- the place of the new component, or an earlier one
  place_cases : (j : ℕ) → j < length longer → (j < length q) ⊎ (j ≡ length q)
  place_cases j h =
      let len : length longer ≡ length q + 1 = length-append q (i ∷ []) in
      elim (cases_lt j (length q)) as (λ _. (j < length q) ⊎ (j ≡ length q)) [
        | inl p ↦ inl p
        | inr p ↦ inr (omega arith)
      ]

  new_walk : IsWalk n m new r longer head
  new_walk = record {
    sound = sound;
    own = λ d h. at_set (λ x f. r < f.first → f.first ≡ x) es i e within (λ l. absurd (omega (arith, joins))) d (w.own d h);
    marked = λ d. at_set (λ x f. f.vanishes ≡ true → x ≤ r) es i e within (λ v. absurd (cc)) d (w.marked d);
    clashing = λ d. at_set (λ x f. f.vanishes ≡ true → HasClash n m new x) es i e within (λ v. absurd (cc)) d (λ v. clash_grows grows (w.marked d v) (w.clashing d v));
    below = λ j h l. elim (place_cases j l) as (λ _. item_at longer j < n) [
      | inl p ↦ let P : ℕ → Type 0 = λ x. x < n in subst P (sym ((lengthens_push q i).same j p)) (w.below j h p)
      | inr p ↦ let P : ℕ → Type 0 = λ x. x < n in subst P (sym (get_or_push q i 0 j (sym p))) i_below
    ];
    of_class = λ j h l. elim (place_cases j l) as (λ _. first_at new (item_at longer j) ≡ r) [
      | inl p ↦ class_longer w grows (lengthens_push q i) j h p
      | inr p ↦ ap (first_at new) (get_or_push q i 0 j (sym p)) ∙ ap (λ x. x.first) new_here ∙ joins
    ];
    closed = λ d h low. elim (eqb_tells d i) as (λ _. IsPending longer head d ⊎ IsClosedAt m new d) [
      | inl p ↦ inl (let P : ℕ → Type 0 = λ x. IsPending longer head x in subst P (sym p.1) new_pending)
      | inr p ↦
          let same : first_at new d ≡ first_at es d = ap (λ x. x.first) (get_or-set_other es i d e (record { first = 0; sign = Plus; vanishes = false }) p.1) in
          closed_longer w grows (lengthens_push q i) d h (omega arith)
    ];
  }

  new_closed : IsClosed m new k c
  new_closed =
      let here : first_at new c ≡ r = grows.first c (omega (arith, of_class)) ∙ of_class in
      let there : first_at new (m.carried k c) ≡ r = ap (first_at new) (sym i_is) ∙ ap (λ x. x.first) new_here ∙ joins in
      let sign : sign_at new (m.carried k c) ≡ times (m.sign k c) (sign_at es c) = ap (sign_at new) (sym i_is) ∙ ap (λ x. x.sign) new_here ∙ sign_is in
      record {
        falls = omega arith;
        clean = λ _.
            grows.sign c (omega (arith, of_class))
            ∙ ap (λ s. times s (sign_at es c)) (sym (times_self (m.sign k c)))
            ∙ times-times (m.sign k c) (m.sign k c) (sign_at es c)
            ∙ ap (times (m.sign k c)) (sym sign);
      }

  pub step_joins : IsStep n m es (slice_set es i e) r q (q ++ i ∷ []) head k
  step_joins =
      let total = set_total es i e within in
      let len : length longer ≡ length q + 1 = length-append q (i ∷ []) in
      record {
        walk = new_walk;
        grows = grows;
        closed = new_closed;
        lengthens = lengthens_push q i;
        falls = omega (arith, joins, after);
      }

-- a component that each move has carried waits no more
pub visit_ends : {n r head : ℕ} {m : Moves} {es : List Entry} {q : List ℕ} → IsWalk n m es r q head → IsClosedAt m es (item_at q head) → IsWalk n m es r q (head + 1)
visit_ends {n} {r} {head} {m} {es} {q} w done = record {
  sound = w.sound;
  own = w.own;
  marked = w.marked;
  clashing = w.clashing;
  below = λ i h l. w.below i (omega arith) l;
  of_class = λ i h l. w.of_class i (omega arith) l;
  closed = λ d h low. elim (w.closed d h low) as (λ _. IsPending q (head + 1) d ⊎ IsClosedAt m es d) [
    | inl p ↦ waits d p
    | inr p ↦ inr p
  ];
}
  where
    waits : (d : ℕ) → IsPending q head d → IsPending q (head + 1) d ⊎ IsClosedAt m es d
    waits d p =
        let after : head ≤ p.place = p.after in
        elim (eqb_tells p.place head) as (λ _. IsPending q (head + 1) d ⊎ IsClosedAt m es d) [
          | inl e ↦ inr (let P : ℕ → Type 0 = λ x. IsClosedAt m es x in subst P (ap (item_at q) (sym e.1) ∙ p.is) done)
          | inr e ↦ let differs = e.1 in inl (record { place = p.place; after = omega arith; inside = p.inside; is = p.is })
        ]

-- where no move leads to a later class, none leads to an earlier one, as moves lead back
first_falls : {n : ℕ} {m : Moves} {c d : ℕ} {s : Sign} (es : List Entry) → IsReversible n m → ((k c : ℕ) → k < m.count → c < n → first_at es (m.carried k c) ≤ first_at es c) → Reaches m c d s → c < n → first_at es d ≤ first_at es c
first_falls es r f stay below = omega arith
first_falls {n} {m} {c} {d} es r f (move k is_move path e) below =
    let one : first_at es (m.carried k c) ≤ first_at es c = f k c is_move below in
    let rest : first_at es d ≤ first_at es (m.carried k c) = first_falls es r f path (r.stays k c is_move below) in
    omega arith

pub table_of_walks : {n : ℕ} {m : Moves} {es : List Entry} → IsReversible n m → IsWalked n m es n → IsClassTable n m es
table_of_walks {n} {m} {es} back w = record {
  sound = w.sound;
  fixed = record { fixed = λ k c is l. first_falls es back (λ j d i h. (closed j d i h).falls) (back.back k c is l).1 (back.stays k c is l) };
  clashing = λ r h v. (w.clashing r v).clash;
  clean = λ k c is l. (closed k c is l).clean;
}
  where
    closed : (k c : ℕ) → k < m.count → c < n → IsClosed m es k c
    closed k c is l = (w.closed c l (w.sound.below c l)).each k is
