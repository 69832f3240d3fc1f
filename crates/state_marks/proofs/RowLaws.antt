-- The rows of sums that aren't 0.
--   IsClearing      the sums while those of a row are set to 0
use Rattle.list_laws.proofs.Kit.{◌≡◌, ◌≢◌, ℕ, ◌+◌, ◌<◌, ◌≤◌, ◌⊎◌, inl, inr, List, [], ◌∷◌, ◌++◌, length, map, refl, ap, sym, ◌∙◌, subst, arith, cases_lt}
use Rattle.list_laws.proofs.Kit.{nat_tests, get_or-set_same, get_or-set_other, length-set, get_or_push, length_push, get_or-append}
use Rattle.std.proofs.Common.{set}
use Rattle.std.specs.Prelude.{IsTrue, nat_lt}
use Rattle.tensor_defs.specs.Prelude.{Each, IsRising, Root3, IsRoot3, num_zero, root_places_rise}
use Rattle.root3_num.specs.Roots.{value_of_root}
use Rattle.tensor_action.specs.Acting.{zero_root}
use Rattle.state_marks.specs.declared.rows.RootTerm.{RootTerm}
use Rattle.state_marks.specs.Sums.{IsZeros, ListsSums, PushesSum, root_at, root_term_of, sum_at, term_at}
use Rattle.state_marks.proofs.Factors.{same_or_other}
use Rattle.list_laws.proofs.Members.{each_map, each_push}

-- ---- setting to 0
pub record IsClearing (old : List Root3) (row : List RootTerm) (n : ℕ) (cur : List Root3) : Type 0 where
  pub len : length cur ≡ length old
  pub each : (k : ℕ) → k < length old → (sum_at cur k ≡ num_zero)
      ⊎ ((q : ℕ) × (n ≤ q) × (q < length row) × ((term_at row q).free ≡ k))

module _ (old : List Root3) (row : List RootTerm) where
  pub clearing-start : ListsSums old (length old) row → IsClearing old row 0 old
  clearing-start l = record {
    len = refl;
    each = λ k h. elim (l.whole k h) [
      | inl z ↦ inl z
      | inr q ↦ inr (q.0, omega arith, q.1, q.2)
    ];
  }

  pub clearing-more : (n : ℕ) (cur : List Root3) (v : Root3) → n < length row → (term_at row n).free < length old →
      value_of_root v ≡ num_zero → IsClearing old row n cur → IsClearing old row (n + 1) (set cur (term_at row n).free v)
  clearing-more n cur v h l z a =
      let p = (term_at row n).free in
      let within : p < length cur = subst (λ k. p < k) (sym a.len) l in
      let here : sum_at (set cur p v) p ≡ num_zero = ap value_of_root (get_or-set_same cur p v zero_root within) ∙ z in
      record {
        len = length-set cur p v ∙ a.len;
        each = λ k m. elim (same_or_other p k) as (λ _. (sum_at (set cur p v) k ≡ num_zero)
            ⊎ ((q : ℕ) × (n + 1 ≤ q) × (q < length row) × ((term_at row q).free ≡ k))) [
              | inl e ↦ inl (subst (λ x. sum_at (set cur p v) x ≡ num_zero) e here)
              | inr e ↦
                  (let kept : sum_at (set cur p v) k ≡ sum_at cur k =
                  ap value_of_root (get_or-set_other cur p k v zero_root (λ s. e (sym s))) in
                  elim (a.each k m) as (λ _. (sum_at (set cur p v) k ≡ num_zero)
                  ⊎ ((q : ℕ) × (n + 1 ≤ q) × (q < length row) × ((term_at row q).free ≡ k))) [
                    | inl y ↦ inl (kept ∙ y)
                    | inr q ↦ elim (cases_lt n q.0) as (λ _. (sum_at (set cur p v) k ≡ num_zero)
                        ⊎ ((q : ℕ) × (n + 1 ≤ q) × (q < length row) × ((term_at row q).free ≡ k))) [
                          | inl less ↦ inr (q.0, omega (arith, less), q.2, q.3)
                          | inr more ↦
                              (let low = q.1 in
                              let s : n ≡ q.0 = omega (arith, more, low) in
                              absurd (e (ap (λ x. (term_at row x).free) s ∙ q.3)))
                        ]
                  ])
            ];
      }

  pub clearing-end : (n : ℕ) (cur : List Root3) → length row ≤ n → IsClearing old row n cur → IsZeros (length old) cur
  clearing-end n cur h a = record {
    len = a.len;
    zero = λ k l. elim (a.each k l) as (λ _. sum_at cur k ≡ num_zero) [
      | inl z ↦ z
      | inr q ↦ (let low = q.1 in let high = q.2 in absurd (omega (arith, low, high, h)))
    ];
  }

-- ---- zeros
pub zeros-more : (n : ℕ) (rs ss : List Root3) (v : Root3) → IsZeros n rs → value_of_root v ≡ num_zero → ss ≡ rs ++ v ∷ [] →
    IsZeros (n + 1) ss
zeros-more n rs ss v z e s =
    let l : length rs ≡ n = z.len in
    record {
      len = ap length s ∙ length_push rs v ∙ ap (λ k. k + 1) l;
      zero = λ k h. ap (λ xs. sum_at xs k) s ∙ (elim (cases_lt k n) as (λ _. sum_at (rs ++ v ∷ []) k ≡ num_zero) [
        | inl m ↦ ap value_of_root (get_or-append rs (v ∷ []) zero_root k (omega (arith, m, l))) ∙ z.zero k m
        | inr m ↦ ap value_of_root (get_or_push rs v zero_root k (omega (arith, m, l, h))) ∙ e
      ]);
    }

pub zeros-start : (rs : List Root3) → rs ≡ [] → IsZeros 0 rs
zeros-start rs e = record { len = ap length e; zero = λ k h. absurd (omega (arith, h)) }

-- ---- the sums that aren't 0
rises_last : (ts : List RootTerm) (t : RootTerm) → IsRising root_places_rise (map root_term_of ts) →
    Each (λ s. s.free < t.free) ts → IsRising root_places_rise (map root_term_of (ts ++ t ∷ []))
rises_last [] t r e = (tt, tt)
rises_last (s ∷ ts) t r e = (joined ts r.0, rises_last ts t r.1 e.1)
  where
    before : IsTrue (nat_lt s.free t.free)
    before = let l = e.0 in grind (arith, nat_tests, l)

    joined : (us : List RootTerm) → Each (λ b. IsTrue (root_places_rise (root_term_of s) b)) (map root_term_of us) →
        Each (λ b. IsTrue (root_places_rise (root_term_of s) b)) (map root_term_of (us ++ t ∷ []))
    joined [] q = (before, tt)
    joined (u ∷ us) q = (q.0, joined us q.1)

module _ (rs : List Root3) (n : ℕ) (ts : List RootTerm) (l : ListsSums rs n ts) where
  pub lists-skip : sum_at rs n ≡ num_zero → ListsSums rs (n + 1) ts
  lists-skip z = record {
    rising = l.rising;
    terms = each_map
        (λ t. (t.free < n) × (sum_at rs t.free ≢ num_zero) × IsRoot3 (sum_at rs t.free) t.factor)
        (λ t. (t.free < n + 1) × (sum_at rs t.free ≢ num_zero) × IsRoot3 (sum_at rs t.free) t.factor)
        (λ t p. (let h = p.0 in omega (arith, h), p.1, p.2)) ts l.terms;
    whole = λ k h. elim (cases_lt k n) as (λ _. (sum_at rs k ≡ num_zero) ⊎ ((q : ℕ) × (q < length ts) × ((term_at ts q).free ≡ k))) [
      | inl m ↦ l.whole k m
      | inr m ↦ (let e : n ≡ k = omega (arith, m, h) in inl (subst (λ x. sum_at rs x ≡ num_zero) e z))
    ];
  }

  pub lists-more : (t : RootTerm) (us : List RootTerm) → t.free ≡ n → sum_at rs n ≢ num_zero → IsRoot3 (sum_at rs n) t.factor →
      us ≡ ts ++ t ∷ [] → ListsSums rs (n + 1) us
  lists-more t us e z is s =
      let P : RootTerm → Type 0 = λ t. (t.free < n + 1) × (sum_at rs t.free ≢ num_zero) × IsRoot3 (sum_at rs t.free) t.factor in
      let below : Each (λ s. s.free < t.free) ts =
      each_map (λ t. (t.free < n) × (sum_at rs t.free ≢ num_zero) × IsRoot3 (sum_at rs t.free) t.factor)
      (λ s. s.free < t.free) (λ x p. let h = p.0 in omega (arith, h, e)) ts l.terms in
      let own : P t = (
        omega (arith, e),
        (λ y. z (ap (sum_at rs) (sym e) ∙ y)),
        subst (λ x. IsRoot3 (sum_at rs x) t.factor) (sym e) is,
      ) in
      subst (ListsSums rs (n + 1)) (sym s) (record {
        rising = rises_last ts t l.rising below;
        terms = each_push P ts t (each_map
            (λ t. (t.free < n) × (sum_at rs t.free ≢ num_zero) × IsRoot3 (sum_at rs t.free) t.factor) P
            (λ t p. (let h = p.0 in omega (arith, h), p.1, p.2)) ts l.terms) own;
        whole = λ k h. elim (cases_lt k n) as
            (λ _. (sum_at rs k ≡ num_zero) ⊎ ((q : ℕ) × (q < length (ts ++ t ∷ [])) × ((term_at (ts ++ t ∷ []) q).free ≡ k))) [
              | inl m ↦ elim (l.whole k m) as
                  (λ _. (sum_at rs k ≡ num_zero) ⊎ ((q : ℕ) × (q < length (ts ++ t ∷ [])) × ((term_at (ts ++ t ∷ []) q).free ≡ k))) [
                    | inl y ↦ inl y
                    | inr q ↦
                        (let more = length_push ts t in
                        let low = q.1 in
                        inr (
                          q.0,
                          omega (arith, more, low),
                          ap (λ (x : RootTerm). x.free) (get_or-append ts (t ∷ []) (record { free = 0; factor = zero_root }) q.0 low) ∙ q.2,
                        ))
                  ]
              | inr m ↦
                  (let more = length_push ts t in
                  let at : n ≡ k = omega (arith, m, h) in
                  inr (
                    length ts,
                    omega (arith, more),
                    ap (λ (x : RootTerm). x.free) (get_or_push ts t (record { free = 0; factor = zero_root }) (length ts) refl) ∙ e ∙ at,
                  ))
            ];
      })

pub lists-start : (rs : List Root3) (ts : List RootTerm) → ts ≡ [] → ListsSums rs 0 ts
lists-start rs ts e = subst (ListsSums rs 0) (sym e) (record {
  rising = tt;
  terms = tt;
  whole = λ k h. absurd (omega (arith, h));
})

-- one sum more
pub lists-push : (rs : List Root3) (n : ℕ) (ts us : List RootTerm) (s : Root3) → ListsSums rs n ts → s ≡ root_at rs n →
    PushesSum ts n s us → ListsSums rs (n + 1) us
lists-push rs n ts us s l e (inl p) =
    subst (ListsSums rs (n + 1)) (sym p.1) (lists-skip rs n ts l (ap value_of_root (sym e) ∙ p.0))
lists-push rs n ts us s l e (inr p) =
    lists-more rs n ts l (record { free = n; factor = s }) us refl (λ z. p.0 (ap value_of_root e ∙ z))
    (subst (λ x. IsRoot3 x s) (ap value_of_root e) p.1) p.2
