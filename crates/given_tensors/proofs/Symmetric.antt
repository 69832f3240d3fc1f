-- A list that is at each component what its index symmetry tells has the symmetry.
--   Told                   what is told of a component, and that the list is so there
--   symmetric_kept         where all components are so
--   symmetric_follows      a list with the symmetry is so at each component
use Rattle.std.proofs.Common.{◌≡◌, ◌≢◌, ℕ, ◌<◌, ◌^◌, Bool, true, false, ◌++◌, length, refl, ap, sym, ◌∙◌, arith, subst, inl, inr, ◌⊎◌, length-append}
use Rattle.std.specs.Prelude.{Contains, Option, Some, None, cond, IsTrue}
use Rattle.list_laws.proofs.Members.{each_from, each_held}
use Rattle.tensor_defs.specs.declared.Sign.{Sign}
use Rattle.tensor_defs.specs.declared.Sign.TheVariants.{Plus, Minus}
use Rattle.tensor_defs.specs.Prelude.{JahnSymbol, rank, Bracket, body_brackets, IsExchange, Respects, HasSymmetry, Number, neg, num_zero, index_before, Index}
use Rattle.tensor_defs.specs.Prelude.{Tensor, component_number, index_of}
use Rattle.tensor_laws.proofs.Prelude.{index_order, index_cases}
use Rattle.sign_moves.specs.Signs.{signed, times}
use Rattle.sign_moves.proofs.SignLaws.{signed-signed, signed_zero, opposite}
use Rattle.tensor_rank.specs.Prelude.{Carried, rests, steps, Exchanges, IsZeroAt, IsFirstCarried, index_number_at, component_below_at}
use Rattle.tensor_rank.proofs.ExchangeIndex.{length_exchanged}
use Rattle.tensor_rank.proofs.ShapeLaws.{carried_join, carried_reaches}
use Rattle.given_tensors.specs.Verdicts.{Tells, Keeps, Follows}

-- ---- exchanges go back
turned : (r : ℕ) (b : Bracket) (is js : Index) → IsExchange r b is js → IsExchange r b js is
turned r b is js x = record {
  i = x.i;
  j = x.j;
  ordered = x.ordered;
  within = x.within;
  before = x.before;
  u = x.v;
  between = x.between;
  v = x.u;
  after = x.after;
  was = x.becomes;
  becomes = x.was;
  starts_i = x.starts_i;
  starts_j = same_length x.before x.u x.between x.v (x.size_u ∙ sym x.size_v) ∙ x.starts_j;
  size_u = x.size_v;
  size_v = x.size_u;
  of_rank = length_exchanged x;
}
  where
    same_length : (a u k v : Index) → length u ≡ length v → length (a ++ v ++ k) ≡ length (a ++ u ++ k)
    same_length a u k v e = simp length-append (omega arith)

-- ---- signs
sign_of : Bool → Sign
sign_of true = Minus
sign_of false = Plus

respects_sign : (n : Bool) (x : Number) → cond n (neg x) x ≡ signed (sign_of n) x
unfolding sign_of
respects_sign true x = refl
respects_sign false x = refl

same_sign : (s u : Sign) → (s ≡ u) ⊎ (s ≢ u)
same_sign Plus Plus = inl refl
same_sign Plus Minus = inr (λ e. cc)
same_sign Minus Plus = inr (λ e. cc)
same_sign Minus Minus = inl refl

same_component : (r : ℕ) (c d : Index) → length c ≡ r → length d ≡ r → ¬ IsTrue (index_before c d) → ¬ IsTrue (index_before d c) → c ≡ d
same_component r c d l k p q = elim (index_cases c d) [
  | inl e ↦ e
  | inr n ↦ absurd (elim ((index_order r).total c d l k n) [ inl a ↦ p a | inr b ↦ q b ])
]

-- what is told of a component, and that the list is so there
data Told (j : JahnSymbol) (t : Tensor) (c : Index) : Type 0 where
  none : IsZeroAt (HasSymmetry j) c → t c ≡ num_zero → Told j t c
  some : ¬ IsZeroAt (HasSymmetry j) c → (d : Index) (s : Sign) →
      IsFirstCarried (Exchanges j) (HasSymmetry j) index_before c d s → t c ≡ signed s (t d) → Told j t c

-- ---- what two components tell that an exchange carries to one another
module _ (j : JahnSymbol) (t : Tensor) (b : Bracket) (listed : Contains (body_brackets j.factors 0) b) where
  tied : (u : Tensor) → HasSymmetry j u → (is js : Index) → IsExchange (rank j) b is js → u js ≡ signed (sign_of b.negates) (u is)
  tied u h is js x = each_held (Respects (rank j) u) (body_brackets j.factors 0) h b listed is js x ∙ respects_sign b.negates (u is)

  zero_there : (is js : Index) → IsExchange (rank j) b is js → IsZeroAt (HasSymmetry j) is → IsZeroAt (HasSymmetry j) js
  zero_there is js x z = record {
    zero = λ u h. tied u h is js x ∙ ap (signed (sign_of b.negates)) (z.zero u h) ∙ signed_zero (sign_of b.negates);
  }

  step : (is js : Index) → IsExchange (rank j) b is js → Carried (Exchanges j) is js
  step is js x = steps (record { bracket = b; listed = listed; exchange = x }) rests

  rank_of : (c : Index) {d : Index} → length c ≡ rank j → Carried (Exchanges j) c d → length d ≡ rank j
  rank_of c l p = (carried_reaches j p l).of_rank

  module _ (is js : Index) (x : IsExchange (rank j) b is js) (c d : Index) (s v : Sign)
      (p : IsFirstCarried (Exchanges j) (HasSymmetry j) index_before is c s)
      (q : IsFirstCarried (Exchanges j) (HasSymmetry j) index_before js d v) where
    first_same : c ≡ d
    first_same =
        same_component (rank j) c d (rank_of is x.of_rank p.reached) (rank_of js (length_exchanged x) q.reached)
        (λ less. q.first c (carried_join (step js is (turned (rank j) b is js x)) p.reached) less)
        (λ less. p.first d (carried_join (step is js x) q.reached) less)

    sign_same : ¬ IsZeroAt (HasSymmetry j) is → v ≡ times (sign_of b.negates) s
    sign_same free = elim (same_sign v (times (sign_of b.negates) s)) [
      | inl e ↦ e
      | inr n ↦ absurd (free (record { zero = zero_at n }))
    ]
      where
        zero_at : v ≢ times (sign_of b.negates) s → (u : Tensor) → HasSymmetry j u → u is ≡ num_zero
        zero_at n u h =
            let at : signed v (u c) ≡ signed (times (sign_of b.negates) s) (u c) =
            ap (λ i. signed v (u i)) first_same ∙ sym (q.same u h) ∙ tied u h is js x
            ∙ ap (signed (sign_of b.negates)) (p.same u h) ∙ signed-signed (sign_of b.negates) s (u c) in
            p.same u h ∙ ap (signed s) (opposite v (times (sign_of b.negates) s) (u c) at n) ∙ signed_zero s

    follows_same : ¬ IsZeroAt (HasSymmetry j) is → t is ≡ signed s (t c) → t js ≡ signed v (t d) →
        t js ≡ signed (sign_of b.negates) (t is)
    follows_same free e f =
        f ∙ ap (λ i. signed v (t i)) (sym first_same) ∙ ap (λ w. signed w (t c)) (sign_same free)
        ∙ sym (signed-signed (sign_of b.negates) s (t c)) ∙ ap (signed (sign_of b.negates)) (sym e)

  -- by what is told of both
  exchanged_same : (is js : Index) → IsExchange (rank j) b is js → Told j t is → Told j t js → t js ≡ signed (sign_of b.negates) (t is)
  exchanged_same is js x (none z e) (none y f) = f ∙ sym (ap (signed (sign_of b.negates)) e ∙ signed_zero (sign_of b.negates))
  exchanged_same is js x (none z e) (some free d v q f) = absurd (free (zero_there is js x z))
  exchanged_same is js x (some free c s p e) (none y f) = absurd (free (zero_there js is (turned (rank j) b is js x) y))
  exchanged_same is js x (some free c s p e) (some free' d v q f) = follows_same is js x c d s v p q free e f

  respected : ((c : Index) → length c ≡ rank j → Told j t c) → Respects (rank j) t b
  respected each is js x =
      exchanged_same is js x (each is x.of_rank) (each js (length_exchanged x)) ∙ sym (respects_sign b.negates (t is))

told_of : (j : JahnSymbol) (t : Tensor) (c : ℕ) (o : Option (ℕ × Sign)) → Tells j (rank j) c o → Keeps (rank j) t c o → Told j t (index_of (rank j) c)
told_of j t c None told kept = none (told.none.0 refl) kept
told_of j t c (Some x) told kept = some (λ z. let e = told.none.1 z in cc) (index_of (rank j) x.0) x.1 told.some kept

-- a list that follows at each component has the symmetry
pub symmetric_kept : (j : JahnSymbol) (r n : ℕ) → n ≡ 3 ^ r → rank j ≡ r → (t : Tensor) → ((c : ℕ) → c < n → Follows j r t c) → HasSymmetry j t
symmetric_kept j r n size is t each =
    each_from (Respects (rank j) t) (body_brackets j.factors 0) (λ b listed. respected j t b listed told)
  where
    told : (c : Index) → length c ≡ rank j → Told j t c
    told c l =
        let k : ℕ = component_number c in
        let below : k < n = subst (λ m. k < m) (sym size) (component_below_at r c (l ∙ is)) in
        let f : Follows j (rank j) t k = subst (λ m. Follows j m t k) (sym is) (each k below) in
        subst (Told j t) (index_number_at (rank j) c l) (told_of j t k f.class f.told f.kept)

-- a list with the symmetry follows wherever something is told
pub symmetric_follows : (j : JahnSymbol) (r : ℕ) (t : Tensor) → HasSymmetry j t → (c : ℕ) (o : Option (ℕ × Sign)) → Tells j r c o → Keeps r t c o
symmetric_follows j r t h c None told = (told.none.0 refl).zero t h
symmetric_follows j r t h c (Some x) told = told.some.same t h
