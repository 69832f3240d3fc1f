-- The exchanges of neighbouring blocks lead wherever the exchange of each two blocks leads, with the same sign.
--   IsListed, listed_left, listed_right, neighbour_listed    the list of the exchanges of brackets
--   two_reached     exchanges of the list lead where that of two blocks does
--   kept_along      a component list that the listed exchanges keep is the same along them, up to the sign
use Rattle.list_laws.proofs.Kit.{◌≡◌, ℕ, zero, suc, ◌+◌, ◌-◌, ◌*◌, ◌^◌, ◌<◌, ◌≤◌, cond, List, [], ◌∷◌, ◌++◌, length, refl}
use Rattle.list_laws.proofs.Kit.{ap, sym, ◌∙◌, arith, subst, inl, inr, cases_lt, get_or_append_left, get_or-append-add}
use Rattle.std.specs.Prelude.{Contains}
use Rattle.std.proofs.Math.Nat.{add-mul, mul-le-mul_right}
use Rattle.std.proofs.lemmas.List.{length-append}
use Rattle.std.proofs.lemmas.List.FromFn.{get_or-map-range_with_len, length-map-range_with_len}
use Rattle.tensor_defs.specs.Prelude.{Number, Bracket}
use Rattle.tensor_defs.specs.declared.Sign.{Sign}
use Rattle.tensor_defs.specs.declared.Sign.TheVariants.{Plus, Minus}
use Rattle.sign_moves.specs.Prelude.{Moves, Reaches, stay, move, IsKept, signed, times, times_plus, times_self}
use Rattle.sign_moves.proofs.MoveLaws.{reaches_join}
use Rattle.sign_moves.proofs.SignLaws.{signed-signed}
use Rattle.tensor_rank.specs.declared.exchanges.Exchange.{Exchange}
use Rattle.tensor_rank.specs.Prelude.{IsWithin, exchange_at, exchange_of, exchanged, exchange_moves, exchanges_of, neighbours, sign_of_exchange}
use Rattle.tensor_rank.proofs.ExchangeLaws.{exchanged_below, exchanged_between}

-- ---- the list of the exchanges of brackets
pub record IsListed (e : Exchange) (es : List Exchange) : Type 0 where
  pub place : ℕ
  pub within : place < length es
  pub at : exchange_at es place ≡ e

pub listed_left : {e : Exchange} {es : List Exchange} (fs : List Exchange) → IsListed e es → IsListed e (es ++ fs)
listed_left {e} {es} fs h =
    let long = length-append es fs in
    let in_es = h.within in
    record {
      place = h.place;
      within = omega (arith, long, in_es);
      at = get_or_append_left es fs _ h.place h.within ∙ h.at;
    }

pub listed_right : {e : Exchange} (es : List Exchange) {fs : List Exchange} → IsListed e fs → IsListed e (es ++ fs)
listed_right {e} es {fs} h =
    let long = length-append es fs in
    let in_fs = h.within in
    record {
      place = length es + h.place;
      within = omega (arith, long, in_fs);
      at = get_or-append-add es fs h.place _ ∙ h.at;
    }

pub neighbour_listed : (b : Bracket) (n i : ℕ) → i + 1 < n → IsListed (exchange_of b i (i + 1)) (neighbours b n)
neighbour_listed b n i h =
    let with_next : ℕ → Exchange = λ k. exchange_of b k (k + 1) in
    let long = length-map-range_with_len with_next 0 (n - 1) in
    record {
      place = i;
      within = omega (arith, long);
      at = get_or-map-range_with_len with_next 0 (n - 1) i i _ (omega arith) (omega arith);
    }

listed_of : (bs : List Bracket) (b : Bracket) → Contains bs b → (i : ℕ) → i + 1 < b.count →
    IsListed (exchange_of b i (i + 1)) (exchanges_of bs)
listed_of [] b m i h = absurd (omega (arith, m.1))
listed_of (x ∷ bs) b (zero, m, s) i h =
    subst (λ y. IsListed (exchange_of y i (i + 1)) (neighbours x x.count ++ exchanges_of bs)) s
    (listed_left (exchanges_of bs) (neighbour_listed x x.count i (subst (λ y. i + 1 < y.count) (sym s) h)))
listed_of (x ∷ bs) b (suc n, m, s) i h = listed_right (neighbours x x.count) (listed_of bs b (n, omega arith, s) i h)

-- ---- where the exchange of two blocks leads
module _ (r : ℕ) (bs : List Bracket) (b : Bracket) (is : Contains bs b) where
  abbrev Leads : ℕ → ℕ → Type 0
  Leads i j = IsWithin r (exchange_of b i j) → (c : ℕ) →
      Reaches (exchange_moves r (exchanges_of bs)) c (exchanged r (exchange_of b i j) c) (cond b.negates Minus Plus)

  neighbour_reached : (i : ℕ) → i + 1 < b.count → Leads i (i + 1)
  neighbour_reached i h w c =
      let l = listed_of bs b is i h in
      subst (λ e. Reaches (exchange_moves r (exchanges_of bs)) c (exchanged r e c) (sign_of_exchange e)) l.at
      (move l.place l.within stay (sym (times_plus (sign_of_exchange (exchange_at (exchanges_of bs) l.place)))))

  -- the exchange of the blocks i and k + 1: of k and k + 1, of i and k, and of k and k + 1 again
  next_reached : (i k : ℕ) → i < k → k + 1 < b.count → Leads i k → Leads i (k + 1)
  next_reached i k l h closer w c =
      let m : Moves = exchange_moves r (exchanges_of bs) in
      let s : Sign = cond b.negates Minus Plus in
      let e : Exchange = exchange_of b k (k + 1) in
      let x : Exchange = exchange_of b i k in
      let before : (i + 1) * b.size ≤ k * b.size = mul-le-mul_right b.size (omega arith) in
      let inside : b.start + (k + 1) * b.size + b.size ≤ r = w.inside in
      let next_block : (k + 1) * b.size ≡ k * b.size + b.size = omega (arith, add-mul k 1 b.size) in
      let apart : b.start + i * b.size + b.size ≤ b.start + k * b.size = omega (arith, before, add-mul i 1 b.size) in
      let touching : b.start + k * b.size + b.size ≡ b.start + (k + 1) * b.size = omega (arith, next_block) in
      let within_e : IsWithin r e = record { apart = omega (arith, touching); inside = inside } in
      let within_x : IsWithin r x = record { apart = apart; inside = omega (arith, inside, next_block) } in
      let path : Reaches m c (exchanged r e (exchanged r x (exchanged r e c))) (times s (times s s)) =
      reaches_join (neighbour_reached k h within_e c)
      (reaches_join (closer within_x (exchanged r e c)) (neighbour_reached k h within_e (exchanged r x (exchanged r e c)))) in
      let there : exchanged r (exchange_of b i (k + 1)) c ≡ exchanged r e (exchanged r x (exchanged r e c)) =
      exchanged_between r (b.start + i * b.size) (b.start + k * b.size) (b.start + (k + 1) * b.size) b.size b.negates apart touching inside c in
      subst (λ d. Reaches m c d s) (sym there)
      (subst (λ u. Reaches m c (exchanged r e (exchanged r x (exchanged r e c))) u) (ap (times s) (times_self s) ∙ times_plus s) path)

  pub two_reached : (i j : ℕ) → i < j → j < b.count → Leads i j
  two_reached i zero l h = absurd (omega arith)
  two_reached i (suc k) l h =
      let next : k + 1 ≡ suc k = omega arith in
      subst (Leads i) next (elim (cases_lt i k) as (λ _. Leads i (k + 1)) [
        | inl p ↦ next_reached i k p (omega arith) (two_reached i k p (omega arith))
        | inr p ↦
            let same : k ≡ i = omega arith in
            subst (λ n. Leads n (k + 1)) same (neighbour_reached k (omega arith))
      ])

pub kept_along : (r : ℕ) (es : List Exchange) {c d : ℕ} {s : Sign} (t : ℕ → Number) → IsKept (3 ^ r) (exchange_moves r es) t →
    Reaches (exchange_moves r es) c d s → c < 3 ^ r → t c ≡ signed s (t d)
kept_along r es t kept stay h = refl
kept_along r es {c} {d} t kept (move {s = s} k below path e) h =
    let first : Exchange = exchange_at es k in
    kept.same k c below h
    ∙ ap (signed (sign_of_exchange first)) (kept_along r es t kept path (exchanged_below r first c))
    ∙ signed-signed (sign_of_exchange first) s (t d)
    ∙ ap (λ x. signed x (t d)) (sym e)
