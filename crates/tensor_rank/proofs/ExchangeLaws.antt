-- An exchange of two blocks is its own inverse, and is made of exchanges of blocks that lie closer.
--   swap            an exchange by where the blocks begin, their width and its sign
use Rattle.list_laws.proofs.Kit.{◌≡◌, ℕ, ◌+◌, ◌*◌, ◌<◌, ◌≤◌, ◌^◌, add-one, Bool, List, zero, suc, arith, lit≤, ap, sym, subst, ◌∙◌, refl, nat_tests}
use Rattle.tensor_rank.specs.declared.exchanges.Exchange.{Exchange}
use Rattle.tensor_rank.specs.Prelude.{digit_of, number_of, number_of-same, number_of-below, number_of-digits, digit_of-number, IsWithin, AllWithin}
use Rattle.tensor_rank.specs.Prelude.{exchange_at, partner, exchanged, exchange_moves, sign_of_exchange}
use Rattle.sign_moves.specs.Prelude.{IsReversible, Reaches, stay, move, times}
use Rattle.tensor_defs.specs.declared.Sign.TheVariants.{Plus}

pub partner_below : (r : ℕ) (e : Exchange) → IsWithin r e → (p : ℕ) → p < r → partner e p < r
partner_below r e h p below = grind (arith, nat_tests, h.apart, h.inside)

pub partner-partner : (r : ℕ) (e : Exchange) → IsWithin r e → (p : ℕ) → partner e (partner e p) ≡ p
partner-partner r e h p = grind (arith, nat_tests, h.apart, h.inside)

abbrev pub swap : ℕ → ℕ → ℕ → Bool → Exchange
swap f s w n = record { first = f; second = s; width = w; negates = n }

-- the block at t follows the one at s: it and the block at f change places by way of that one
partner_between : (f s t w : ℕ) (n : Bool) → f + w ≤ s → s + w ≡ t → (p : ℕ) →
    partner (swap f t w n) p ≡ partner (swap s t w n) (partner (swap f s w n) (partner (swap s t w n) p))
partner_between f s t w n apart touching p = grind (arith, nat_tests)

pub digit_below : (r c p : ℕ) → digit_of r c p < 3
digit_below r c p = omega arith

pub exchanged_below : (r : ℕ) (e : Exchange) → (c : ℕ) → exchanged r e c < 3 ^ r
unfolding exchanged
exchanged_below r e c = number_of-below r (λ p. digit_of r c (partner e p)) (λ p h. digit_below r c (partner e p))

pub exchanged-exchanged : (r : ℕ) (e : Exchange) → IsWithin r e → (c : ℕ) → c < 3 ^ r → exchanged r e (exchanged r e c) ≡ c
unfolding exchanged
exchanged-exchanged r e h c below =
    let digits = λ (p : ℕ). digit_of r c (partner e p) in
    number_of-same r (λ p. digit_of r (number_of r digits) (partner e p)) (digit_of r c) (λ p l.
    digit_of-number r digits (λ q _. digit_below r c (partner e q)) (partner e p) (partner_below r e h p l)
    ∙ ap (digit_of r c) (partner-partner r e h p))
    ∙ number_of-digits r c below

digit_exchanged : (r : ℕ) (e : Exchange) → IsWithin r e → (c p : ℕ) → p < r → digit_of r (exchanged r e c) p ≡ digit_of r c (partner e p)
unfolding exchanged
digit_exchanged r e h c p below = digit_of-number r (λ q. digit_of r c (partner e q)) (λ q _. digit_below r c (partner e q)) p below

pub exchanged_between : (r f s t w : ℕ) (n : Bool) → f + w ≤ s → s + w ≡ t → t + w ≤ r → (c : ℕ) →
    exchanged r (swap f t w n) c ≡ exchanged r (swap s t w n) (exchanged r (swap f s w n) (exchanged r (swap s t w n) c))
unfolding exchanged
exchanged_between r f s t w n apart touching inside c =
    let e : Exchange = swap s t w n in
    let x : Exchange = swap f s w n in
    let within_e : IsWithin r e = record { apart = omega arith; inside = inside } in
    let within_x : IsWithin r x = record { apart = apart; inside = omega arith } in
    number_of-same r (λ p. digit_of r c (partner (swap f t w n) p)) (λ p. digit_of r (exchanged r x (exchanged r e c)) (partner e p)) (λ p below.
    let one : partner e p < r = partner_below r e within_e p below in
    ap (digit_of r c) (partner_between f s t w n apart touching p)
    ∙ sym (digit_exchanged r x within_x (exchanged r e c) (partner e p) one
    ∙ digit_exchanged r e within_e c (partner x (partner e p)) (partner_below r x within_x (partner e p) one)))

pub exchanges_reversible : (n r : ℕ) (es : List Exchange) → n ≡ 3 ^ r → AllWithin r es → IsReversible n (exchange_moves r es)
exchanges_reversible n r es size within = record {
  stays = λ k c is below. rw size (exchanged_below r (exchange_at es k) c);
  back = λ k c is below.
      let P : ℕ → Type 0 = λ x. Reaches (exchange_moves r es) x c Plus in
      let home : Reaches (exchange_moves r es) (exchanged r (exchange_at es k) (exchanged r (exchange_at es k) c)) c Plus = subst P (sym (exchanged-exchanged r (exchange_at es k) (within.each k is) c (rw size at below))) stay in
      (times (sign_of_exchange (exchange_at es k)) Plus, move k is home refl);
}

pub power_small : (k : ℕ) → k ≤ 6 → 3 ^ k ≤ 729
power_small zero h = lit≤ tt
power_small (suc zero) h = lit≤ tt
power_small (suc (suc zero)) h = lit≤ tt
power_small (suc (suc (suc zero))) h = lit≤ tt
power_small (suc (suc (suc (suc zero)))) h = lit≤ tt
power_small (suc (suc (suc (suc (suc zero))))) h = lit≤ tt
power_small (suc (suc (suc (suc (suc (suc zero)))))) h = lit≤ tt
power_small (suc (suc (suc (suc (suc (suc (suc k))))))) h = absurd (omega arith)

-- the digits at the first k places make a small number
pub front_small : (r k c : ℕ) (e : Exchange) → k ≤ 6 → number_of k (λ p. digit_of r c (partner e p)) < 729
front_small r k c e h =
    let below : number_of k (λ p. digit_of r c (partner e p)) < 3 ^ k = number_of-below k (λ p. digit_of r c (partner e p)) (λ p l. digit_below r c (partner e p)) in
    let small : 3 ^ k ≤ 729 = power_small k h in
    omega arith

-- one digit more
pub front_more : (k : ℕ) (f : ℕ → ℕ) (n d : ℕ) → n ≡ number_of k f → d ≡ f k → 3 * n + d ≡ number_of (k + 1) f
unfolding number_of
front_more k f n d e h = rw (add-one, e, h) refl
