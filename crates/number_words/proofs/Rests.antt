-- What may follow the first bytes of a magnitude.
--   Whole, Below    the rest of a magnitude behind k digits, of the numerator or of the denominator, and what stands behind it
--   IsBehind        no digit and no / begins what stands behind a magnitude
--   magnitude_ends, magnitude_faulty    behind the magnitude that was read, or where there is none
--   spelled_whole, split_told    magnitudes by their texts
use Rattle.list_laws.proofs.Kit.{◌≡◌, ℕ, zero, suc, ◌+◌, ◌-◌, ◌*◌, ◌<◌, ◌≤◌, ◌⊎◌, inl, inr, List, [], ◌∷◌, ◌++◌, length, get_or, take, drop, min, refl, sym}
use Rattle.list_laws.proofs.Kit.{ap, subst, ◌∙◌, arith, lit<, cases_lt, get_or-take, drop_more, get_or-drop, drop_of_length-le, digits_value_more}
use Rattle.list_laws.proofs.Kit.{digit_value, AllDigits, digits_value, digits_value_after}
use Rattle.std.proofs.Common.{append_assoc, length-drop}
use Rattle.std.proofs.lemmas.List.{length-take}
use Rattle.list_laws.proofs.Lists.{heads, none_some}
use Rattle.text_defs.specs.Languages.{IsFaulty}
use Rattle.text_defs.specs.declared.Fault.{Fault}
use Rattle.fault_places.proofs.Places.{Through, Through-step, Through-stuck, Through-short, Through-near}
use Rattle.number_words.specs.NumberWords.{IsDigits, SpellsMagnitude}
use Rattle.number_words.specs.Runs.{IsRun, StopsBelow, StopsWhole, TellsMagnitude}
use Rattle.number_words.specs.declared.magnitudes.Magnitude.{Magnitude}
use Rattle.std.specs.Prelude.{Ok, Err}

unfoldable pub Below : (List ℕ → Type 0) → ℕ → ℕ → List ℕ → Type 0
Below K k v [] = (1 ≤ k) × (0 < v) × K []
Below K k v (b ∷ z) =
    ((digit_value b < 10) × (k < 18) × Below K (suc k) (v * 10 + digit_value b) z) ⊎ ((1 ≤ k) × (0 < v) × K (b ∷ z))

unfoldable pub Whole : (List ℕ → Type 0) → ℕ → List ℕ → Type 0
Whole K k [] = (1 ≤ k) × K []
Whole K k (b ∷ z) =
    ((digit_value b < 10) × (k < 18) × Whole K (suc k) z) ⊎ ((b ≡ 47) × (1 ≤ k) × Below K 0 0 z) ⊎ ((1 ≤ k) × K (b ∷ z))

pub record IsBehind (K : List ℕ → Type 0) : Type 0 where
  pub live : (z : List ℕ) × K z
  pub no_digit : (b : ℕ) (z : List ℕ) → K (b ∷ z) → digit_value b < 10 → ⊥
  pub no_slash : (z : List ℕ) → K (47 ∷ z) → ⊥

slash_no_digit : (b : ℕ) → b ≡ 47 → digit_value b < 10 → ⊥
slash_no_digit b e h = let l : digit_value 47 < 10 = subst (λ c. digit_value c < 10) e h in omega (arith, l)

one_is_digit : digit_value 49 < 10
one_is_digit = lit< tt

digit_in : (ds : List ℕ) (i : ℕ) → AllDigits 10 ds → i < length ds → digit_value (get_or ds i 0) < 10
digit_in [] i h l = absurd (omega arith)
digit_in (d ∷ ds) zero h l = h.0
digit_in (d ∷ ds) (suc i) h l = digit_in ds i h.1 (omega arith)

run_digit : (w : List ℕ) (v c i : ℕ) → IsRun w v c → i < c → digit_value (get_or w i 0) < 10
run_digit w v c i r l =
    let short : i < length (take c w) = let a = r.within in omega (arith, length-take c w) in
    subst (λ b. digit_value b < 10) (get_or-take c w i 0 l) (digit_in (take c w) i r.digits short)

at_front : (w : List ℕ) (n c : ℕ) (cs : List ℕ) → drop n w ≡ c ∷ cs → (n < length w) × (get_or w n 0 ≡ c)
at_front w n c cs e = elim (cases_lt n (length w)) [
  | inl l ↦ (l, heads (sym (drop_more w n 0 l) ∙ e))
  | inr l ↦ absurd (none_some (sym (drop_of_length-le w l) ∙ e))
]

module _ (K : List ℕ → Type 0) (behind : IsBehind K) where
  below_done : (k v : ℕ) → 1 ≤ k → 0 < v → (z : List ℕ) → K z → Below K k v z
  unfolding Below
  below_done k v a b [] h = (a, b, h)
  below_done k v a b (c ∷ z) h = inr (a, b, h)

  whole_done : (k : ℕ) → 1 ≤ k → (z : List ℕ) → K z → Whole K k z
  unfolding Whole
  whole_done k a [] h = (a, h)
  whole_done k a (c ∷ z) h = inr (inr (a, h))

  below_live : (k v : ℕ) → k < 18 → (z : List ℕ) × Below K k v z
  unfolding Below
  below_live k v h = (
    49 ∷ behind.live.0,
    inl (one_is_digit, h, below_done (suc k) (v * 10 + digit_value 49) (omega arith) (omega arith) behind.live.0 behind.live.1),
  )

  whole_live : (k : ℕ) → k ≤ 18 → (z : List ℕ) × Whole K k z
  unfolding Whole
  whole_live zero h = (49 ∷ behind.live.0, inl (one_is_digit, omega arith, whole_done 1 (omega arith) behind.live.0 behind.live.1))
  whole_live (suc k) h = (behind.live.0, whole_done (suc k) (omega arith) behind.live.0 behind.live.1)

  -- ---- a text that is read to a place
  module _ (Text : List ℕ → Type 0) (w : List ℕ) where
    whole_step : (k n : ℕ) → Through Text (Whole K k) w n → n < length w → digit_value (get_or w n 0) < 10 → k < 18 →
        Through Text (Whole K (suc k)) w (n + 1)
    unfolding Whole
    whole_step k n t l d h =
        Through-step Text (Whole K k) w n t (Whole K (suc k)) l to (λ z x. inl (d, h, x))
      where
        to : (z : List ℕ) → Whole K k (get_or w n 0 ∷ z) → Whole K (suc k) z
        to z (inl x) = x.2
        to z (inr (inl x)) = absurd (slash_no_digit (get_or w n 0) x.0 d)
        to z (inr (inr x)) = absurd (behind.no_digit (get_or w n 0) z x.1 d)

    over_step : (k n : ℕ) → Through Text (Whole K k) w n → n < length w → get_or w n 0 ≡ 47 → 1 ≤ k →
        Through Text (Below K 0 0) w (n + 1)
    unfolding Whole
    over_step k n t l e h =
        Through-step Text (Whole K k) w n t (Below K 0 0) l to (λ z x. inr (inl (e, h, x)))
      where
        to : (z : List ℕ) → Whole K k (get_or w n 0 ∷ z) → Below K 0 0 z
        to z (inl x) = absurd (slash_no_digit (get_or w n 0) e x.0)
        to z (inr (inl x)) = x.2
        to z (inr (inr x)) = absurd (behind.no_slash z (subst (λ b. K (b ∷ z)) e x.1))

    below_step : (k v n : ℕ) → Through Text (Below K k v) w n → n < length w → digit_value (get_or w n 0) < 10 → k < 18 →
        Through Text (Below K (suc k) (v * 10 + digit_value (get_or w n 0))) w (n + 1)
    unfolding Below
    below_step k v n t l d h =
        Through-step Text (Below K k v) w n t (Below K (suc k) (v * 10 + digit_value (get_or w n 0))) l to (λ z x. inl (d, h, x))
      where
        to : (z : List ℕ) → Below K k v (get_or w n 0 ∷ z) → Below K (suc k) (v * 10 + digit_value (get_or w n 0)) z
        to z (inl x) = x.2
        to z (inr x) = absurd (behind.no_digit (get_or w n 0) z x.2 d)

    module _ (start : Through Text (Whole K 0) w 0) where
      whole_run : (v c : ℕ) → IsRun w v c → (i : ℕ) → i ≤ c → Through Text (Whole K i) w i
      whole_run v c r zero h = start
      whole_run v c r (suc i) h =
          let a = r.within in
          let b = r.few in
          let one : i + 1 ≡ suc i = omega arith in
          subst (Through Text (Whole K (suc i)) w) one
          (whole_step i i (whole_run v c r i (omega arith)) (omega arith) (run_digit w v c i r (omega arith)) (omega arith))

      below_run : (num count den more : ℕ) → StopsBelow w num count den more → (i : ℕ) → i ≤ more →
          Through Text (Below K i (digits_value 10 (take i (drop (count + 1) w)))) w (count + 1 + i)
      below_run num count den more s zero h =
          subst (Through Text (Below K 0 0) w) (omega arith)
          (over_step count count (whole_run num count s.run count (omega arith)) s.inside s.slash s.some)
      below_run num count den more s (suc i) h =
          let bs : List ℕ = drop (count + 1) w in
          let a = s.below.within in
          let b = s.below.few in
          let inside = s.inside in
          let short : i < length bs = omega arith in
          let place : get_or bs i 0 ≡ get_or w (count + 1 + i) 0 = get_or-drop (count + 1) w i 0 in
          let l : count + 1 + i < length w = omega (arith, length-drop (count + 1) w) in
          let one : count + 1 + i + 1 ≡ count + 1 + suc i = omega arith in
          let suc_i : i + 1 ≡ suc i = omega arith in
          let value : digits_value 10 (take i bs) * 10 + digit_value (get_or w (count + 1 + i) 0) ≡ digits_value 10 (take (suc i) bs) =
          ap (λ c. digits_value 10 (take i bs) * 10 + digit_value c) (sym place) ∙ sym (digits_value_more 10 bs i short)
          ∙ ap (λ k. digits_value 10 (take k bs)) suc_i in
          subst (Through Text (Below K (suc i) (digits_value 10 (take (suc i) bs))) w) one
          (subst (λ x. Through Text (Below K (suc i) x) w (count + 1 + i + 1)) value
          (below_step i (digits_value 10 (take i bs)) (count + 1 + i) (below_run num count den more s i (omega arith)) l
          (subst (λ c. digit_value c < 10) place (run_digit bs den more i s.below (omega arith))) (omega arith)))

      -- ---- a whole magnitude
      whole_end : (m : Magnitude) → StopsWhole w m → Through Text K w m.end
      unfolding Whole
      whole_end m s =
          Through-near Text (Whole K m.end) K w m.end (whole_run m.num m.end s.run m.end (omega arith)) (whole_done m.end s.some) near
          (last (drop m.end w) refl)
        where
          first : (c : ℕ) (cs : List ℕ) → drop m.end w ≡ c ∷ cs → (m.end < length w) × (get_or w m.end 0 ≡ c)
          first c cs e = at_front w m.end c cs e

          near : (c : ℕ) (cs z : List ℕ) → drop m.end w ≡ c ∷ cs → Whole K m.end (c ∷ z) → K (c ∷ z)
          near c cs z e (inl x) =
              let f = first c cs e in absurd (s.run.stops f.0 x.1 (subst (λ b. digit_value b < 10) (sym f.1) x.0))
          near c cs z e (inr (inl x)) = let f = first c cs e in absurd (s.stops f.0 (f.1 ∙ x.0))
          near c cs z e (inr (inr x)) = x.1

          last : (z : List ℕ) → drop m.end w ≡ z → Whole K m.end z → K z
          last [] e x = x.1
          last (c ∷ cs) e x = near c cs cs e x

      below_end : (num count den more : ℕ) → StopsBelow w num count den more → 0 < den → Through Text K w (count + 1 + more)
      unfolding Below
      below_end num count den more s h =
          Through-near Text (Below K more den) K w (count + 1 + more)
          (subst (λ v. Through Text (Below K more v) w (count + 1 + more)) s.below.value_is (below_run num count den more s more (omega arith)))
          out near (last (drop (count + 1 + more) w) refl)
        where
          some : 1 ≤ more
          some = elim (cases_lt 0 more) [ inl l ↦ l | inr l ↦ absurd (none (omega arith) s.below.value_is) ]
            where
              none : more ≡ 0 → digits_value 10 (take more (drop (count + 1) w)) ≡ den → ⊥
              none e v = let z : 0 ≡ den = subst (λ k. digits_value 10 (take k (drop (count + 1) w)) ≡ den) e v in omega arith

          out : (z : List ℕ) → K z → Below K more den z
          out z x = below_done more den some h z x

          first : (c : ℕ) (cs : List ℕ) → drop (count + 1 + more) w ≡ c ∷ cs →
              (more < length (drop (count + 1) w)) × (get_or (drop (count + 1) w) more 0 ≡ c)
          first c cs e =
              let f = at_front w (count + 1 + more) c cs e in
              let l = f.0 in
              (omega (arith, length-drop (count + 1) w), get_or-drop (count + 1) w more 0 ∙ f.1)

          near : (c : ℕ) (cs z : List ℕ) → drop (count + 1 + more) w ≡ c ∷ cs → Below K more den (c ∷ z) → K (c ∷ z)
          near c cs z e (inl x) =
              let f = first c cs e in absurd (s.below.stops f.0 x.1 (subst (λ b. digit_value b < 10) (sym f.1) x.0))
          near c cs z e (inr x) = x.2

          last : (z : List ℕ) → drop (count + 1 + more) w ≡ z → Below K more den z → K z
          last [] e x = x.2
          last (c ∷ cs) e x = near c cs cs e x

      pub magnitude_ends : (m : Magnitude) → TellsMagnitude w (Ok m) → Through Text K w m.end
      magnitude_ends m (inl s) = whole_end m s
      magnitude_ends m (inr (count, more, s, h, e)) = subst (Through Text K w) (sym e) (below_end m.num count m.den more s h)

      -- ---- no magnitude
      none_faulty : (v : ℕ) → IsRun w v 0 → IsFaulty Text w 0
      unfolding Whole
      none_faulty v r = elim (cases_lt 0 (length w)) [
        | inl l ↦ Through-stuck Text (Whole K 0) w 0 start l (whole_live 0 (omega arith)) (never l)
        | inr l ↦ Through-short Text (Whole K 0) w 0 start l (whole_live 0 (omega arith)) (λ x. let a = x.0 in omega arith)
      ]
        where
          never : 0 < length w → (z : List ℕ) → Whole K 0 (get_or w 0 0 ∷ z) → ⊥
          never l z (inl x) = r.stops l x.1 x.0
          never l z (inr (inl x)) = let a = x.1 in omega arith
          never l z (inr (inr x)) = let a = x.0 in omega arith

      -- the digits of a denominator are all 0
      zero_faulty : (num count more k : ℕ) → StopsBelow w num count 0 more → k < 18 → k ≤ more →
          digits_value 10 (take k (drop (count + 1) w)) ≡ 0 →
          (k < length (drop (count + 1) w) → digit_value (get_or (drop (count + 1) w) k 0) < 10 → (k ≡ 17) × (digit_value (get_or (drop (count + 1) w) k 0) ≡ 0)) →
          IsFaulty Text w (count + 1 + k)
      unfolding Below
      zero_faulty num count more k s few within all_zero next =
          elim (cases_lt (count + 1 + k) (length w)) [
            | inl l ↦ Through-stuck Text (Below K k 0) w (count + 1 + k) through l (below_live k 0 few) (never l)
            | inr l ↦ Through-short Text (Below K k 0) w (count + 1 + k) through l (below_live k 0 few) (λ x. let a = x.1 in omega arith)
          ]
        where
          through : Through Text (Below K k 0) w (count + 1 + k)
          through = subst (λ v. Through Text (Below K k v) w (count + 1 + k)) all_zero (below_run num count 0 more s k within)

          end : (d : ℕ) → d ≡ 0 → (z : List ℕ) → Below K 18 (0 * 10 + d) z → ⊥
          end d e [] x = let a = x.1 in omega arith
          end d e (b ∷ z) (inl x) = let a = x.1 in omega arith
          end d e (b ∷ z) (inr x) = let a = x.1 in omega arith

          never : count + 1 + k < length w → (z : List ℕ) → Below K k 0 (get_or w (count + 1 + k) 0 ∷ z) → ⊥
          never l z (inr x) = let a = x.1 in omega arith
          never l z (inl x) =
              let place : get_or (drop (count + 1) w) k 0 ≡ get_or w (count + 1 + k) 0 = get_or-drop (count + 1) w k 0 in
              let inside : k < length (drop (count + 1) w) = omega (arith, length-drop (count + 1) w) in
              let n = next inside (subst (λ b. digit_value b < 10) (sym place) x.0) in
              let last : suc k ≡ 18 = let e = n.0 in omega arith in
              end (digit_value (get_or w (count + 1 + k) 0)) (ap digit_value (sym place) ∙ n.1) z
              (subst (λ i. Below K i (0 * 10 + digit_value (get_or w (count + 1 + k) 0)) z) last x.2)

      below_faulty : (num count more : ℕ) → StopsBelow w num count 0 more → IsFaulty Text w (count + 1 + min more 17)
      below_faulty num count more s =
          elim (cases_lt more 18) [
            | inl l ↦
                (let e : more ≡ min more 17 = omega arith in
                subst (λ k. IsFaulty Text w (count + 1 + k)) e
                (zero_faulty num count more more s l (omega arith) s.below.value_is (λ inside digit. absurd (s.below.stops inside l digit))))
            | inr l ↦
                (let f = s.below.few in
                let e : 17 ≡ min more 17 = omega arith in
                let all : more ≡ 18 = omega arith in
                let bs : List ℕ = drop (count + 1) w in
                let inside : 17 < length bs = let a = s.below.within in omega arith in
                let zero : digits_value 10 (take 18 bs) ≡ 0 = subst (λ k. digits_value 10 (take k bs) ≡ 0) all s.below.value_is in
                let more_is : digits_value 10 (take (17 + 1) bs) ≡ digits_value 10 (take 17 bs) * 10 + digit_value (get_or bs 17 0) = digits_value_more 10 bs 17 inside in
                subst (λ k. IsFaulty Text w (count + 1 + k)) e
                (zero_faulty num count more 17 s (omega arith) (omega arith) (omega arith) (λ i d. (refl, omega arith))))
          ]

      pub magnitude_faulty : (f : Fault) → TellsMagnitude w (Err f) → IsFaulty Text w f.place
      magnitude_faulty f (inl (v, r, e)) = subst (IsFaulty Text w) (sym e) (none_faulty v r)
      magnitude_faulty f (inr (num, count, more, s, e)) = subst (IsFaulty Text w) (sym e) (below_faulty num count more s)

-- ---- magnitudes by their texts
module _ (K : List ℕ → Type 0) (behind : IsBehind K) where
  below_front : (es : List ℕ) (k v : ℕ) → AllDigits 10 es → k + length es ≤ 18 → (z : List ℕ) →
      Below K (k + length es) (digits_value_after 10 v es) z → Below K k v (es ++ z)
  unfolding Below
  below_front [] k v h few z x = subst (λ n. Below K n v z) (omega arith) x
  below_front (b ∷ es) k v h few z x =
      inl (
        h.0,
        omega arith,
        below_front es (suc k) (v * 10 + digit_value b) h.1 (omega arith) z
            (subst (λ n. Below K n (digits_value_after 10 (v * 10 + digit_value b) es) z) (omega arith) x),
      )

  whole_front : (ds : List ℕ) (k : ℕ) → AllDigits 10 ds → k + length ds ≤ 18 → (z : List ℕ) → Whole K (k + length ds) z → Whole K k (ds ++ z)
  unfolding Whole
  whole_front [] k h few z x = subst (λ n. Whole K n z) (omega arith) x
  whole_front (b ∷ ds) k h few z x =
      inl (h.0, omega arith, whole_front ds (suc k) h.1 (omega arith) z (subst (λ n. Whole K n z) (omega arith) x))

  pub spelled_whole : (m z : List ℕ) (n d : ℕ) → SpellsMagnitude m n d → K z → Whole K 0 (m ++ z)
  unfolding Whole
  spelled_whole m z n d (inl (h, e)) x =
      let a = h.some in
      whole_front m 0 h.digits (omega (arith, h.few)) z (whole_done K behind (0 + length m) (omega arith) z x)
  spelled_whole m z n d (inr q) x =
      let top = q.numerator in
      let below = q.denominator in
      let a = top.some in
      let b = below.some in
      let p : 0 < digits_value 10 q.below = subst (λ v. 0 < v) (sym below.value) q.not_zero in
      let rest : Below K 0 0 (q.below ++ z) =
      below_front q.below 0 0 below.digits (omega (arith, below.few)) z (below_done K behind (0 + length q.below) (digits_value 10 q.below) (omega arith) p z x) in
      subst (Whole K 0) (sym (ap (λ t. t ++ z) q.text_is ∙ append_assoc q.top (47 ∷ q.below) z))
      (whole_front q.top 0 top.digits (omega (arith, top.few)) (47 ∷ q.below ++ z) (inr (inl (refl, omega arith, rest))))

-- a text that begins with a magnitude, and what stands behind it
pub record IsSplit (K : List ℕ → Type 0) (text : List ℕ) : Type 0 where
  pub magnitude : List ℕ
  pub rest : List ℕ
  pub text_is : text ≡ magnitude ++ rest
  pub n : ℕ
  pub d : ℕ
  pub spelled : SpellsMagnitude magnitude n d
  pub behind : K rest

record BelowSplit (K : List ℕ → Type 0) (k v : ℕ) (text : List ℕ) : Type 0 where
  es : List ℕ
  rest : List ℕ
  text_is : text ≡ es ++ rest
  digits : AllDigits 10 es
  some : 1 ≤ k + length es
  few : k + length es ≤ 18
  positive : 0 < digits_value_after 10 v es
  behind : K rest

below_split : (K : List ℕ → Type 0) (k v : ℕ) (z : List ℕ) → k ≤ 18 → Below K k v z → BelowSplit K k v z
unfolding Below
below_split K k v [] few x = record {
  es = [];
  rest = [];
  text_is = refl;
  digits = tt;
  some = let a = x.0 in omega arith;
  few = omega arith;
  positive = x.1;
  behind = x.2;
}
below_split K k v (b ∷ z) few (inr x) = record {
  es = [];
  rest = b ∷ z;
  text_is = refl;
  digits = tt;
  some = let a = x.0 in omega arith;
  few = omega arith;
  positive = x.1;
  behind = x.2;
}
below_split K k v (b ∷ z) few (inl x) =
    let l = x.1 in
    let s = below_split K (suc k) (v * 10 + digit_value b) z (omega arith) x.2 in
    let p = s.some in
    let q = s.few in
    record {
      es = b ∷ s.es;
      rest = s.rest;
      text_is = ap (λ t. b ∷ t) s.text_is;
      digits = (x.0, s.digits);
      some = omega arith;
      few = omega arith;
      positive = s.positive;
      behind = s.behind;
    }

record WholeSplit (K : List ℕ → Type 0) (k : ℕ) (text : List ℕ) : Type 0 where
  ds : List ℕ
  rest : List ℕ
  text_is : text ≡ ds ++ rest
  digits : AllDigits 10 ds
  some : 1 ≤ k + length ds
  few : k + length ds ≤ 18
  behind : K rest ⊎ ((z : List ℕ) × (rest ≡ 47 ∷ z) × Below K 0 0 z)

whole_split : (K : List ℕ → Type 0) (k : ℕ) (z : List ℕ) → k ≤ 18 → Whole K k z → WholeSplit K k z
unfolding Whole
whole_split K k [] few x = record {
  ds = [];
  rest = [];
  text_is = refl;
  digits = tt;
  some = let a = x.0 in omega arith;
  few = omega arith;
  behind = inl x.1;
}
whole_split K k (b ∷ z) few (inr (inr x)) = record {
  ds = [];
  rest = b ∷ z;
  text_is = refl;
  digits = tt;
  some = let a = x.0 in omega arith;
  few = omega arith;
  behind = inl x.1;
}
whole_split K k (b ∷ z) few (inr (inl x)) = record {
  ds = [];
  rest = b ∷ z;
  text_is = refl;
  digits = tt;
  some = let a = x.1 in omega arith;
  few = omega arith;
  behind = inr (z, ap (λ c. c ∷ z) x.0, x.2);
}
whole_split K k (b ∷ z) few (inl x) =
    let l = x.1 in
    let s = whole_split K (suc k) z (omega arith) x.2 in
    let p = s.some in
    let q = s.few in
    record {
      ds = b ∷ s.ds;
      rest = s.rest;
      text_is = ap (λ t. b ∷ t) s.text_is;
      digits = (x.0, s.digits);
      some = omega arith;
      few = omega arith;
      behind = s.behind;
    }

pub split_told : (K : List ℕ → Type 0) (z : List ℕ) → Whole K 0 z → IsSplit K z
split_told K z x = told (whole_split K 0 z (omega arith) x)
  where
    digits_of : (ds : List ℕ) → AllDigits 10 ds → 1 ≤ 0 + length ds → 0 + length ds ≤ 18 → IsDigits ds (digits_value 10 ds)
    digits_of ds h a b = record { some = omega arith; few = omega arith; digits = h; value = refl }

    told : WholeSplit K 0 z → IsSplit K z
    told s = elim s.behind [
      | inl h ↦ record {
        magnitude = s.ds;
        rest = s.rest;
        text_is = s.text_is;
        n = digits_value 10 s.ds;
        d = 1;
        spelled = inl (digits_of s.ds s.digits s.some s.few, refl);
        behind = h;
      }
      | inr h ↦ (let b = below_split K 0 0 h.0 (omega arith) h.2 in
          record {
            magnitude = s.ds ++ 47 ∷ b.es;
            rest = b.rest;
            text_is = s.text_is ∙ ap (λ t. s.ds ++ t) (h.1 ∙ ap (λ t. 47 ∷ t) b.text_is) ∙ sym (append_assoc s.ds (47 ∷ b.es) b.rest);
            n = digits_value 10 s.ds;
            d = digits_value 10 b.es;
            spelled = inr (record {
              top = s.ds;
              below = b.es;
              text_is = refl;
              numerator = digits_of s.ds s.digits s.some s.few;
              denominator = digits_of b.es b.digits b.some b.few;
              not_zero = b.positive;
            });
            behind = b.behind;
          })
    ]
