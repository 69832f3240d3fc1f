-- The exchanges of index lists are those of component numbers.
--   its_exchange, length_exchanged, its_within, exchange_index, CanExchange, can_exchange
--       an exchange of index lists
--   each_exchange, numbered, symmetric_kept, kept_symmetric ..
--       index symmetry is to be kept by each listed exchange
use Rattle.list_laws.proofs.Kit.{◌≡◌, ℕ, zero, suc, ◌+◌, ◌-◌, ◌*◌, ◌^◌, ◌<◌, ◌≤◌, Bool, true, false, cond, List, [], ◌∷◌, ◌++◌, length, take, drop, refl, ap}
use Rattle.list_laws.proofs.Kit.{sym, ◌∙◌, arith, subst, inl, inr, ◌⊎◌, cases_lt, nat_tests, get_or_append_left, get_or-append-add, length-take-le}
use Rattle.list_laws.proofs.Members.{each_append, each_from}
use Rattle.std.specs.Prelude.{Contains, map}
use Rattle.std.specs.List.{range_with_len}
use Rattle.tensor_defs.specs.Prelude.{Number, neg, x1, Index, Tensor, axis_place, component_number, index_of, Each, Bracket, IsExchange, Respects}
use Rattle.number_laws.proofs.NumberLaws.{num_neg-neg}
use Rattle.tensor_laws.proofs.ComponentNumbers.{length-index_of, number-index_of}
use Rattle.tensor_defs.specs.declared.Sign.TheVariants.{Plus, Minus}
use Rattle.sign_moves.specs.Prelude.{signed, IsKept}
use Rattle.tensor_rank.specs.declared.exchanges.Exchange.{Exchange}
use Rattle.tensor_rank.specs.Prelude.{digit_of, partner, exchanged, sign_of_exchange, exchange_moves, IsWithin, AllWithin, exchange_at, exchange_of}
use Rattle.tensor_rank.specs.Prelude.{exchanges_of, neighbours, nth, index_number_at, component_below_at, digit_list, index_of_digits}
use Rattle.tensor_rank.proofs.ExchangeLaws.{swap, partner_below}
use Rattle.tensor_rank.proofs.NeighbourLaws.{IsListed, listed_left, listed_right, neighbour_listed, two_reached, kept_along}
use Rattle.std.proofs.lemmas.List.{take-append-drop, length-append, length-drop, append_assoc}

-- ---- parts of a list
in_first : (a rest : Index) (p : ℕ) → p < length a → nth (a ++ rest) p ≡ nth a p
in_first a rest p h = get_or_append_left a rest x1 p h

past : (a rest : Index) (p q : ℕ) → p ≡ length a + q → nth (a ++ rest) p ≡ nth rest q
past a rest p q e = ap (nth (a ++ rest)) e ∙ get_or-append-add a rest q x1

in_second : (a b rest : Index) (p q : ℕ) → p ≡ length a + q → q < length b → nth (a ++ (b ++ rest)) p ≡ nth b q
in_second a b rest p q e h = past a (b ++ rest) p q e ∙ in_first b rest q h

in_third : (a b c rest : Index) (p q : ℕ) → p ≡ length a + (length b + q) → q < length c → nth (a ++ (b ++ (c ++ rest))) p ≡ nth c q
in_third a b c rest p q e h = past a (b ++ (c ++ rest)) p (length b + q) e ∙ in_second b c rest (length b + q) q refl h

in_fourth : (a b c d rest : Index) (p q : ℕ) → p ≡ length a + (length b + (length c + q)) → q < length d → nth (a ++ (b ++ (c ++ (d ++ rest)))) p ≡ nth d q
in_fourth a b c d rest p q e h = past a (b ++ (c ++ (d ++ rest))) p (length b + (length c + q)) e ∙ in_third b c d rest (length b + (length c + q)) q refl h

in_fifth : (a b c d rest : Index) (p q : ℕ) → p ≡ length a + (length b + (length c + (length d + q))) → nth (a ++ (b ++ (c ++ (d ++ rest)))) p ≡ nth rest q
in_fifth a b c d rest p q e = past a (b ++ (c ++ (d ++ rest))) p (length b + (length c + (length d + q))) e ∙ past b (c ++ (d ++ rest)) (length b + (length c + (length d + q))) (length c + (length d + q)) refl ∙ past c (d ++ rest) (length c + (length d + q)) (length d + q) refl ∙ past d rest (length d + q) q refl

-- ---- where a place goes
outside : (f s w p : ℕ) (n : Bool) → f + w ≤ s → (p < f) ⊎ (((f + w ≤ p) × (p < s)) ⊎ (s + w ≤ p)) → partner (swap f s w n) p ≡ p
outside f s w p n h (inl l) = grind (arith, nat_tests)
outside f s w p n h (inr (inl l)) = let l0 = l.0 in let l1 = l.1 in grind (arith, nat_tests)
outside f s w p n h (inr (inr l)) = grind (arith, nat_tests)

from_first : (f s w p : ℕ) (n : Bool) → f + w ≤ s → f ≤ p → p < f + w → partner (swap f s w n) p ≡ p + (s - f)
from_first f s w p n h l k = grind (arith, nat_tests)

from_second : (f s w p : ℕ) (n : Bool) → f + w ≤ s → s ≤ p → p < s + w → partner (swap f s w n) p ≡ p - (s - f)
from_second f s w p n h l k = grind (arith, nat_tests)

five : (a u k v z : Index) (f s w : ℕ) (n : Bool) → length a ≡ f → length u ≡ w → length v ≡ w → length a + (length u + length k) ≡ s → (p : ℕ)
    → nth (a ++ (v ++ (k ++ (u ++ z)))) p ≡ nth (a ++ (u ++ (k ++ (v ++ z)))) (partner (swap f s w n) p)
five a u k v z f s w n la lu lv lk p =
    let apart : f + w ≤ s = omega arith in
    elim (cases_lt p f) [
      | inl h ↦
          in_first a (v ++ (k ++ (u ++ z))) p (omega arith) ∙ sym (in_first a (u ++ (k ++ (v ++ z))) p (omega arith))
          ∙ ap (nth (a ++ (u ++ (k ++ (v ++ z))))) (sym (outside f s w p n apart (inl h)))
      | inr h ↦ elim (cases_lt p (f + w)) [
        | inl l ↦
            let goes : partner (swap f s w n) p ≡ p + (s - f) = from_first f s w p n apart h l in
            in_second a v (k ++ (u ++ z)) p (p - f) (omega arith) (omega arith)
            ∙ sym (in_fourth a u k v z (partner (swap f s w n) p) (p - f) (goes ∙ omega arith) (omega arith))
        | inr l ↦ elim (cases_lt p s) [
          | inl m ↦
              in_third a v k (u ++ z) p (p - (f + w)) (omega arith) (omega arith)
              ∙ sym (in_third a u k (v ++ z) p (p - (f + w)) (omega arith) (omega arith))
              ∙ ap (nth (a ++ (u ++ (k ++ (v ++ z))))) (sym (outside f s w p n apart (inr (inl (l, m)))))
          | inr m ↦ elim (cases_lt p (s + w)) [
            | inl q ↦
                let goes : partner (swap f s w n) p ≡ p - (s - f) = from_second f s w p n apart m q in
                in_fourth a v k u z p (p - s) (omega arith) (omega arith)
                ∙ sym (in_second a u (k ++ (v ++ z)) (partner (swap f s w n) p) (p - s) (goes ∙ omega arith) (omega arith))
            | inr q ↦
                in_fifth a v k u z p (p - (s + w)) (omega arith)
                ∙ sym (in_fifth a u k v z p (p - (s + w)) (omega arith))
                ∙ ap (nth (a ++ (u ++ (k ++ (v ++ z))))) (sym (outside f s w p n apart (inr (inr q))))
          ]
        ]
      ]
    ]

-- ---- an exchange of index lists
assoc_5 : (a b c d e : Index) → a ++ b ++ c ++ d ++ e ≡ a ++ (b ++ (c ++ (d ++ e)))
assoc_5 a b c d e = append_assoc (a ++ b ++ c) d e ∙ append_assoc (a ++ b) c (d ++ e) ∙ append_assoc a b (c ++ (d ++ e))

module _ {r : ℕ} {b : Bracket} {is js : Index} (x : IsExchange r b is js) where
  -- the exchange of component numbers
  abbrev pub its_exchange : Exchange
  its_exchange = exchange_of b x.i x.j

  starts_second : length x.before + (length x.u + length x.between) ≡ b.start + x.j * b.size
  starts_second =
      let e : length (x.before ++ x.u ++ x.between) ≡ length x.before + length x.u + length x.between = length-append (x.before ++ x.u) x.between ∙ ap (λ n. n + length x.between) (length-append x.before x.u) in
      let f = x.starts_j in
      omega (arith, e, f)

  length_of : (a c d e f : Index) → length (a ++ c ++ d ++ e ++ f) ≡ length a + length c + length d + length e + length f
  length_of a c d e f = length-append (a ++ c ++ d ++ e) f ∙ ap (λ n. n + length f) (length-append (a ++ c ++ d) e ∙ ap (λ n. n + length e) (length-append (a ++ c) d ∙ ap (λ n. n + length d) (length-append a c)))

  pub length_exchanged : length js ≡ r
  length_exchanged =
      let one : length is ≡ length x.before + length x.u + length x.between + length x.v + length x.after = ap length x.was ∙ length_of x.before x.u x.between x.v x.after in
      let two : length js ≡ length x.before + length x.v + length x.between + length x.u + length x.after = ap length x.becomes ∙ length_of x.before x.v x.between x.u x.after in
      let u = x.size_u in
      let v = x.size_v in
      let whole = x.of_rank in
      omega (arith, one, two, u, v, whole)

  pub its_within : IsWithin r its_exchange
  its_within =
      let one : length is ≡ length x.before + length x.u + length x.between + length x.v + length x.after = ap length x.was ∙ length_of x.before x.u x.between x.v x.after in
      let u = x.size_u in
      let v = x.size_v in
      let whole = x.of_rank in
      let first = x.starts_i in
      let second = starts_second in
      record { apart = omega (arith, u, first, second); inside = omega (arith, one, u, v, whole, second) }

  its_places : (p : ℕ) → nth js p ≡ nth is (partner its_exchange p)
  its_places p =
      ap (λ l. nth l p) (x.becomes ∙ assoc_5 x.before x.v x.between x.u x.after)
      ∙ five x.before x.u x.between x.v x.after (b.start + x.i * b.size) (b.start + x.j * b.size) b.size b.negates x.starts_i x.size_u x.size_v starts_second p
      ∙ ap (λ l. nth l (partner its_exchange p)) (sym (x.was ∙ assoc_5 x.before x.u x.between x.v x.after))

  pub exchange_index : index_of r (exchanged r its_exchange (component_number is)) ≡ js
  unfolding exchanged
  exchange_index = index_of_digits r js (λ p. digit_of r (component_number is) (partner its_exchange p)) length_exchanged (λ p h.
      ap axis_place (its_places p) ∙ sym (digit_list r is x.of_rank (partner its_exchange p) (partner_below r its_exchange its_within p h)))

-- two blocks that lie apart can be exchanged
pub record CanExchange (r : ℕ) (b : Bracket) (i j : ℕ) (is : Index) : Type 0 where
  pub list : Index
  pub is_exchange : IsExchange r b is list
  pub is_i : is_exchange.i ≡ i
  pub is_j : is_exchange.j ≡ j

drop_split : (n : ℕ) (l : Index) → n ≤ length l → (l ≡ take n l ++ drop n l) × (length (take n l) ≡ n) × (length (drop n l) ≡ length l - n)
drop_split n l h = (sym (take-append-drop n l), length-take-le n l h, length-drop n l)

pub can_exchange : (r : ℕ) (b : Bracket) (i j : ℕ) (is : Index) → i < j → j < b.count → IsWithin r (exchange_of b i j) → length is ≡ r → CanExchange r b i j is
can_exchange r b i j is ordered within h l =
    let f = b.start + i * b.size in
    let s = b.start + j * b.size in
    let w = b.size in
    let apart : f + w ≤ s = h.apart in
    let inside : s + w ≤ r = h.inside in
    let p1 = drop_split f is (omega (arith, apart, inside, l)) in
    let r1 = drop f is in
    let p2 = drop_split w r1 (omega (arith, apart, inside, l, p1.2)) in
    let r2 = drop w r1 in
    let p3 = drop_split (s - (f + w)) r2 (omega (arith, apart, inside, l, p1.2, p2.2)) in
    let r3 = drop (s - (f + w)) r2 in
    let p4 = drop_split w r3 (omega (arith, apart, inside, l, p1.2, p2.2, p3.2)) in
    let a = take f is in
    let u = take w r1 in
    let k = take (s - (f + w)) r2 in
    let v = take w r3 in
    let z = drop w r3 in
    let split : is ≡ a ++ (u ++ (k ++ (v ++ z))) = p1.0 ∙ ap (λ x. a ++ x) (p2.0 ∙ ap (λ x. u ++ x) (p3.0 ∙ ap (λ x. k ++ x) p4.0)) in
    record {
      list = a ++ v ++ k ++ u ++ z;
      is_exchange = record {
        i = i;
        j = j;
        ordered = ordered;
        within = within;
        before = a;
        u = u;
        between = k;
        v = v;
        after = z;
        was = split ∙ sym (assoc_5 a u k v z);
        becomes = refl;
        starts_i = p1.1;
        starts_j = length-append (a ++ u) k ∙ ap (λ n. n + length k) (length-append a u) ∙ omega (arith, apart, p1.1, p2.1, p3.1);
        size_u = p2.1;
        size_v = p4.1;
        of_rank = l;
      };
      is_i = refl;
      is_j = refl;
    }

-- what holds of each exchange of a list
pub each_exchange : (P : Exchange → Type 0) (es : List Exchange) → Each P es → (k : ℕ) → k < length es → P (exchange_at es k)
each_exchange P [] p k h = absurd (omega arith)
each_exchange P (e ∷ es) p zero h = p.0
each_exchange P (e ∷ es) p (suc k) h = each_exchange P es p.1 k (omega arith)

each_along : (P : Exchange → Type 0) (b : Bracket) (i n : ℕ) → ((k : ℕ) → k < i + n → P (exchange_of b k (k + 1))) →
    Each P (map (λ k. exchange_of b k (k + 1)) (range_with_len i n))
each_along P b i zero h = tt
each_along P b i (suc n) h = (h i (omega arith), each_along P b (i + 1) n (λ k l. h k (omega arith)))

each_neighbour : (P : Exchange → Type 0) (b : Bracket) → ((i : ℕ) → i + 1 < b.count → P (exchange_of b i (i + 1))) → Each P (neighbours b b.count)
each_neighbour P b h = each_along P b 0 (b.count - 1) (λ k l. h k (omega arith))

-- a tensor's components by number
abbrev pub numbered : ℕ → Tensor → ℕ → Number
numbered r t c = t (index_of r c)

-- an exchange leaves the components the same, up to its sign
pub record Keeps (r : ℕ) (t : Tensor) (e : Exchange) : Type 0 where
  pub keeps : (c : ℕ) → c < 3 ^ r → numbered r t c ≡ signed (sign_of_exchange e) (numbered r t (exchanged r e c))

signed_cond : (n : Bool) (x : Number) → signed (cond n Minus Plus) x ≡ cond n (neg x) x
signed_cond true x = refl
signed_cond false x = refl

cond_back : (n : Bool) (x y : Number) → y ≡ cond n (neg x) x → x ≡ cond n (neg y) y
cond_back true x y e = sym (num_neg-neg x) ∙ ap neg (sym e)
cond_back false x y e = sym e

respected_keeps : (r : ℕ) (t : Tensor) (b : Bracket) (i j : ℕ) → i < j → j < b.count → IsWithin r (exchange_of b i j) → Respects r t b → Keeps r t (exchange_of b i j)
respected_keeps r t b i j ordered within inside h = record {
  keeps = λ c below.
      let is = index_of r c in
      let can = can_exchange r b i j is ordered within inside (length-index_of r c) in
      let told : t can.list ≡ cond b.negates (neg (t is)) (t is) = h is can.list can.is_exchange in
      let number : component_number is ≡ c = number-index_of r c below in
      let there : index_of r (exchanged r (exchange_of b i j) c) ≡ can.list = subst (λ d. index_of r (exchanged r (exchange_of b i j) d) ≡ can.list) number (subst (λ k. index_of r (exchanged r (exchange_of b i k) (component_number is)) ≡ can.list) can.is_j (subst (λ k. index_of r (exchanged r (exchange_of b k can.is_exchange.j) (component_number is)) ≡ can.list) can.is_i (exchange_index can.is_exchange))) in
      cond_back b.negates (t is) (t can.list) told ∙ sym (signed_cond b.negates (t can.list)) ∙ ap (λ x. signed (sign_of_exchange (exchange_of b i j)) (t x)) (sym there);
}

kept_respects : (r : ℕ) (t : Tensor) (b : Bracket) →
    ((i j : ℕ) → i < j → j < b.count → IsWithin r (exchange_of b i j) → Keeps r t (exchange_of b i j)) → Respects r t b
kept_respects r t b h is js x =
    let keeps : Keeps r t (its_exchange x) = h x.i x.j x.ordered x.within (its_within x) in
    let kept : numbered r t (component_number is) ≡
    signed (sign_of_exchange (its_exchange x)) (numbered r t (exchanged r (its_exchange x) (component_number is))) =
    keeps.keeps (component_number is) (component_below_at r is x.of_rank) in
    let here : index_of r (component_number is) ≡ is = index_number_at r is x.of_rank in
    let there : index_of r (exchanged r (its_exchange x) (component_number is)) ≡ js = exchange_index x in
    let told : t is ≡ cond b.negates (neg (t js)) (t js) = ap t (sym here) ∙ kept ∙ signed_cond b.negates (numbered r t (exchanged r (its_exchange x) (component_number is))) ∙ ap (λ l. cond b.negates (neg (t l)) (t l)) there in
    cond_back b.negates (t js) (t is) told

-- index symmetry is to be kept by each exchange
module _ (r : ℕ) (t : Tensor) where
  symmetric_each : (bs : List Bracket) → ((e : Exchange) → IsListed e (exchanges_of bs) → IsWithin r e) → Each (λ b. Respects r t b) bs → Each (λ e. Keeps r t e) (exchanges_of bs)
  symmetric_each [] inside h = tt
  symmetric_each (b ∷ bs) inside h =
      each_append (λ e. Keeps r t e) (neighbours b b.count) (exchanges_of bs)
      (each_neighbour (λ e. Keeps r t e) b (λ i l.
      respected_keeps r t b i (i + 1) (omega arith) l (inside (exchange_of b i (i + 1)) (listed_left (exchanges_of bs) (neighbour_listed b b.count i l))) h.0))
      (symmetric_each bs (λ e l. inside e (listed_right (neighbours b b.count) l)) h.1)

  pub symmetric_kept : (bs : List Bracket) → AllWithin r (exchanges_of bs) → Each (λ b. Respects r t b) bs → IsKept (3 ^ r) (exchange_moves r (exchanges_of bs)) (numbered r t)
  symmetric_kept bs inside h = record {
    same = λ k c is below.
        let each = symmetric_each bs (λ e l. subst (IsWithin r) l.at (inside.each l.place l.within)) h in
        (each_exchange (λ e. Keeps r t e) (exchanges_of bs) each k is).keeps c below;
  }

  pub kept_symmetric : (bs : List Bracket) → IsKept (3 ^ r) (exchange_moves r (exchanges_of bs)) (numbered r t) → Each (λ b. Respects r t b) bs
  kept_symmetric bs h = each_from (λ b. Respects r t b) bs (λ b is. kept_respects r t b (λ i j l m w. record {
    keeps = λ c below. kept_along r (exchanges_of bs) (numbered r t) h (two_reached r bs b is i j l m w c) below;
  }))

-- what an exchange of a list leads to is what the exchange of its number leads to
pub exchange_lands : (r : ℕ) (b : Bracket) (i j c : ℕ) → c < 3 ^ r → (can : CanExchange r b i j (index_of r c)) → index_of r (exchanged r (exchange_of b i j) c) ≡ can.list
exchange_lands r b i j c below can =
    let is = index_of r c in
    subst (λ d. index_of r (exchanged r (exchange_of b i j) d) ≡ can.list) (number-index_of r c below)
    (subst (λ k. index_of r (exchanged r (exchange_of b i k) (component_number is)) ≡ can.list) can.is_j
    (subst (λ k. index_of r (exchanged r (exchange_of b k can.is_exchange.j) (component_number is)) ≡ can.list) can.is_i (exchange_index can.is_exchange)))

pub all_from : (bs : List Bracket) (P : Exchange → Type 0) → ((b : Bracket) → Contains bs b → (i j : ℕ) → i < j → j < b.count → P (exchange_of b i j)) → Each P (exchanges_of bs)
all_from [] P h = tt
all_from (b ∷ bs) P h =
    each_append P (neighbours b b.count) (exchanges_of bs)
    (each_neighbour P b (λ i l. h b (0, omega arith, refl) i (i + 1) (omega arith) l))
    (all_from bs P (λ x is i j l m. h x (suc is.0, (let small = is.1 in omega (arith, small)), is.2) i j l m))
