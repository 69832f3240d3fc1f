-- What a shape's table of classes tells of the component lists with the index symmetry of a symbol.
--   own_exchanges, own_moves, Lands, carried_join, ReachesIndex, carried_reaches ..
--       steps along exchanges of a symbol are moves of component numbers
--   entry_is, first_of_below, none_told, some_told    what is read of a table
use Rattle.list_laws.proofs.Kit.{◌≡◌, ℕ, ◌^◌, ◌<◌, Bool, true, false, List, length, get_or, refl, ap, sym, ◌∙◌, subst}
use Rattle.list_laws.proofs.Kit.{get_or_default, both_ways}
use Rattle.std.specs.Prelude.{Some, None, ◌↔◌}
use Rattle.tensor_defs.specs.Prelude.{JahnSymbol, rank, body_brackets, HasSymmetry, Index, Tensor, component_number, index_of, Each}
use Rattle.tensor_defs.specs.declared.Sign.{Sign}
use Rattle.tensor_defs.specs.declared.Sign.TheVariants.{Plus}
use Rattle.tensor_laws.proofs.ComponentNumbers.{length-index_of, number-index_of}
use Rattle.sign_moves.specs.declared.classes.Entry.{Entry}
use Rattle.sign_moves.specs.Prelude.{IsClassTable, IsFirstOfClass, entry_at, first_at, sign_at, vanishes_at, Moves, IsReversible, IsKept, Reaches, stay, move}
use Rattle.sign_moves.specs.Prelude.{IsForced, IsFirst, times}
use Rattle.sign_moves.proofs.FirstLaws.{tables_tell}
use Rattle.sign_moves.proofs.ClassLaws.{reached_first}
use Rattle.sign_moves.proofs.JoinedLaws.{kept_again}
use Rattle.sign_moves.proofs.MoveLaws.{reaches_join}
use Rattle.tensor_rank.proofs.ExchangeLaws.{exchanged_below}
use Rattle.tensor_rank.specs.declared.exchanges.Exchange.{Exchange}
use Rattle.tensor_rank.specs.Prelude.{Carried, rests, steps, Exchanges, IsZeroAt, IsFirstCarried, TellsClass, exchange_moves, exchanged, index_number_at}
use Rattle.tensor_rank.specs.Prelude.{Ordering, before_of, before_at, IsFirstBelow, exchanges_of, AllWithin, IsWithin, sign_of_exchange}
use Rattle.tensor_rank.proofs.ExchangeIndex.{numbered, symmetric_kept, kept_symmetric, length_exchanged, its_exchange, its_within, exchange_index, can_exchange}
use Rattle.tensor_rank.proofs.ExchangeIndex.{exchange_lands, all_from, each_exchange}
use Rattle.tensor_rank.proofs.NeighbourLaws.{two_reached}

-- ---- steps along exchanges of a symbol are moves of component numbers
abbrev pub own_exchanges : JahnSymbol → List Exchange
own_exchanges j = exchanges_of (body_brackets j.factors 0)

abbrev pub own_moves : JahnSymbol → Moves
own_moves j = exchange_moves (rank j) (own_exchanges j)

pub record Lands (j : JahnSymbol) (e : Exchange) : Type 0 where
  pub lands : IsWithin (rank j) e → (c : ℕ) → c < 3 ^ rank j →
      Carried (Exchanges j) (index_of (rank j) c) (index_of (rank j) (exchanged (rank j) e c))

each_lands : (j : JahnSymbol) → Each (Lands j) (own_exchanges j)
each_lands j = all_from (body_brackets j.factors 0) (Lands j) (λ b is i k l m. record {
  lands = λ w c h.
      let can = can_exchange (rank j) b i k (index_of (rank j) c) l m w (length-index_of (rank j) c) in
      subst (λ x. Carried (Exchanges j) (index_of (rank j) c) x) (sym (exchange_lands (rank j) b i k c h can))
      (steps (record { bracket = b; listed = is; exchange = can.is_exchange }) rests);
})

pub carried_join : {Step : Index → Index → Type 0} {a b c : Index} → Carried Step a b → Carried Step b c → Carried Step a c
carried_join rests second = second
carried_join (steps s rest) second = steps s (carried_join rest second)

pub record ReachesIndex (j : JahnSymbol) (c d : Index) : Type 0 where
  pub sign : Sign
  pub path : Reaches (own_moves j) (component_number c) (component_number d) sign
  pub of_rank : length d ≡ rank j

-- moves reach where an exchange of a symbol leads
exchange_moved : (j : JahnSymbol) {c d : Index} → (x : Exchanges j c d) → length c ≡ rank j →
    Reaches (own_moves j) (component_number c) (component_number d) (sign_of_exchange (its_exchange x.exchange))
exchange_moved j {c} {d} x l =
    let e : Exchange = its_exchange x.exchange in
    let i = x.exchange in
    let path : Reaches (own_moves j) (component_number c) (exchanged (rank j) e (component_number c)) (sign_of_exchange e) =
    two_reached (rank j) (body_brackets j.factors 0) x.bracket x.listed i.i i.j i.ordered i.within (its_within i) (component_number c) in
    let lands : index_of (rank j) (exchanged (rank j) e (component_number c)) ≡ d = exchange_index x.exchange in
    let number : exchanged (rank j) e (component_number c) ≡ component_number d =
    sym (number-index_of (rank j) (exchanged (rank j) e (component_number c)) (exchanged_below (rank j) e (component_number c))) ∙ ap component_number lands in
    subst (λ y. Reaches (own_moves j) (component_number c) y (sign_of_exchange e)) number path

pub carried_reaches : (j : JahnSymbol) {c d : Index} → Carried (Exchanges j) c d → length c ≡ rank j → ReachesIndex j c d
carried_reaches j rests l = record { sign = Plus; path = stay; of_rank = l }
carried_reaches j (steps x rest) l =
    let there = carried_reaches j rest (length_exchanged x.exchange) in
    record {
      sign = times (sign_of_exchange (its_exchange x.exchange)) there.sign;
      path = reaches_join (exchange_moved j x l) there.path;
      of_rank = there.of_rank;
    }

pub record ShapeTells (j : JahnSymbol) (n r : ℕ) (table : List Entry) (c : ℕ) : Type 0 where
  pub zero : (vanishes_at table (first_at table c) ≡ true) ↔ IsZeroAt (HasSymmetry j) (index_of r c)
  pub first : (o : Ordering) (d : ℕ) (s : Sign) → IsFirstOfClass n table (before_at r o) c d s →
      IsFirstCarried (Exchanges j) (HasSymmetry j) (before_of o) (index_of r c) (index_of r d) s

module _ (j : JahnSymbol) (inside : AllWithin (rank j) (own_exchanges j)) (back : IsReversible (3 ^ rank j) (own_moves j)) where
  pub path_carried : {c d : ℕ} {u : Sign} → Reaches (own_moves j) c d u → c < 3 ^ rank j →
      Carried (Exchanges j) (index_of (rank j) c) (index_of (rank j) d)
  path_carried stay h = rests
  path_carried {c} {d} (move k is path e) h =
      carried_join ((each_exchange (Lands j) (own_exchanges j) (each_lands j) k is).lands (inside.each k is) c h)
      (path_carried path (back.stays k c is h))

  pub symmetry_kept : (t : Tensor) → HasSymmetry j t → IsKept (3 ^ rank j) (own_moves j) (numbered (rank j) t)
  symmetry_kept t h = symmetric_kept (rank j) t (body_brackets j.factors 0) inside h

  zero_to : (c : ℕ) → IsForced (3 ^ rank j) (own_moves j) c → IsZeroAt (HasSymmetry j) (index_of (rank j) c)
  zero_to c forced = record { zero = λ t h. forced.zero (numbered (rank j) t) (symmetry_kept t h) }

  zero_from : (c : ℕ) → c < 3 ^ rank j → IsZeroAt (HasSymmetry j) (index_of (rank j) c) → IsForced (3 ^ rank j) (own_moves j) c
  zero_from c h z = record {
    zero = λ t kept.
        let whole : Tensor = λ is. t (component_number is) in
        let same : (d : ℕ) → d < 3 ^ rank j → numbered (rank j) whole d ≡ t d = λ d l. ap t (number-index_of (rank j) d l) in
        sym (same c h)
        ∙ z.zero whole (kept_symmetric (rank j) whole (body_brackets j.factors 0) (kept_again t (numbered (rank j) whole) back same kept));
  }

  first_to : (o : Ordering) (c d : ℕ) (s : Sign) → c < 3 ^ rank j →
      IsFirst (3 ^ rank j) (own_moves j) (before_at (rank j) o) c d s →
      IsFirstCarried (Exchanges j) (HasSymmetry j) (before_of o) (index_of (rank j) c) (index_of (rank j) d) s
  first_to o c d s below h = record {
    reached = path_carried h.reached.1 below;
    first = λ e path less.
        let there = carried_reaches j path (length-index_of (rank j) c) in
        let from_c : Reaches (own_moves j) c (component_number e) there.sign =
        subst (λ x. Reaches (own_moves j) x (component_number e) there.sign) (number-index_of (rank j) c below) there.path in
        let no : before_of o (index_of (rank j) (component_number e)) (index_of (rank j) d) ≡ false = h.first (component_number e) there.sign from_c in
        let here : before_of o e (index_of (rank j) d) ≡ false =
        ap (λ x. before_of o x (index_of (rank j) d)) (sym (index_number_at (rank j) e there.of_rank)) ∙ no in
        both_ways (before_of o e (index_of (rank j) d)) here less;
    same = λ t k. h.same (numbered (rank j) t) (symmetry_kept t k);
  }

  own_told : (table : List Entry) → IsClassTable (3 ^ rank j) (own_moves j) table → (c : ℕ) → c < 3 ^ rank j →
      ShapeTells j (3 ^ rank j) (rank j) table c
  own_told table classes c h =
      let told = tables_tell (3 ^ rank j) (own_moves j) table back classes in
      record {
        zero = (λ v. zero_to c ((told.zero c h).0 v), λ z. (told.zero c h).1 (zero_from c h z));
        first = λ o d s f. first_to o c d s h (told.first (before_at (rank j) o) c d s h f);
      }

-- the same for the numbers of a typed rank
pub shape_told : (n r : ℕ) (xs : List Exchange) (table : List Entry) → n ≡ 3 ^ r → AllWithin r xs →
    IsReversible n (exchange_moves r xs) → IsClassTable n (exchange_moves r xs) table → (j : JahnSymbol) → rank j ≡ r →
    xs ≡ own_exchanges j → (c : ℕ) → c < n → ShapeTells j n r table c
shape_told n r xs table size within back classes j rank_is shown c h =
    let C : ℕ → ℕ → List Exchange → Type 0 = λ n r xs. AllWithin r xs → IsReversible n (exchange_moves r xs) →
    IsClassTable n (exchange_moves r xs) table → c < n → ShapeTells j n r table c in
    let base : C (3 ^ rank j) (rank j) (own_exchanges j) = λ w b t l. own_told j w b table t c l in
    let one : C (3 ^ r) r (own_exchanges j) = subst (λ (x : ℕ). C (3 ^ x) x (own_exchanges j)) rank_is base in
    let two : C n r (own_exchanges j) = subst (λ (x : ℕ). C x r (own_exchanges j)) (sym size) one in
    let three : C n r xs = subst (λ (x : List Exchange). C n r x) (sym shown) two in
    three within back classes h

-- the first component of a class leads to itself
pub root_own : (n : ℕ) (m : Moves) (es : List Entry) → IsReversible n m → IsClassTable n m es → (c : ℕ) → c < n →
    first_at es (first_at es c) ≡ first_at es c
root_own n m es back table c h = sym (reached_first es back table.fixed (table.sound.reached c h) h)

-- ---- what is read of a table
pub entry_is : (es : List Entry) (i : ℕ) (e : Entry) → e ≡ get_or es i e → i < length es → e ≡ entry_at es i
entry_is es i e read h = read ∙ get_or_default es i e (record { first = 0; sign = Plus; vanishes = false }) h

pub first_of_below : {n : ℕ} {es : List Entry} {before : ℕ → ℕ → Bool} {c d : ℕ} {s : Sign} →
    IsFirstBelow n es before (first_at es c) d n → s ≡ times (sign_at es c) (sign_at es d) → IsFirstOfClass n es before c d s
first_of_below h is = record { below = h.below; same_class = h.same_class; first = λ e l same. h.first e l same; sign = is }

pub none_told : {j : JahnSymbol} {n r : ℕ} {table : List Entry} {c : ℕ} → ShapeTells j n r table c → (o : Ordering) →
    vanishes_at table (first_at table c) ≡ true → TellsClass (Exchanges j) (HasSymmetry j) (before_of o) r c None
none_told told o v = record { none = (λ e. told.zero.0 v, λ z. refl); some = tt }

pub some_told : {j : JahnSymbol} {n r : ℕ} {table : List Entry} {c : ℕ} → ShapeTells j n r table c → (o : Ordering) →
    vanishes_at table (first_at table c) ≡ false → (d : ℕ) (s : Sign) → IsFirstOfClass n table (before_at r o) c d s →
    TellsClass (Exchanges j) (HasSymmetry j) (before_of o) r c (Some (d, s))
some_told {table = table} {c = c} told o v d s f = record {
  none = (λ e. absurd (cc), λ z. absurd (both_ways (vanishes_at table (first_at table c)) v (told.zero.1 z)));
  some = told.first o d s f;
}
