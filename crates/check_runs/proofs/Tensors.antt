-- The tensor that settings give, setting by setting.
--   AreGiven        all components, with the numbers of the first k settings
--   given_none, given_start, given_more, given_next    no setting, and one more
--   given_all       the tensor of all of them
--   component_is, number_is    what a setting gives
--   no_more         one more setting that gives nothing to a component
--   comes_again, comes_first    whether one of the settings before gives a number to a component
--   twice_stop      the refusal of a component that comes again
--   below_given     the components are below the number of components
use Rattle.std.proofs.Common.{◌≡◌, ◌∙◌, ℕ, suc, ◌+◌, ◌^◌, ◌<◌, ◌⊎◌, List, length, take, set, replicate, get_or, refl, sym, ap, subst, arith, inl, inr}
use Rattle.std.proofs.lemmas.Bool.{cases_eq, cases_lt}
use Rattle.std.proofs.lemmas.List.{get_or-map, get_or-replicate, get_or-set_same, get_or-set_other, get_or-take, length-map, length-replicate, length-set, length-take}
use Rattle.std.proofs.Math.ListN.{get_or-eq_default}
use Rattle.std.proofs.Math.Seq.{take-length}
use Rattle.number_laws.proofs.NumberLaws.{num_add-zero, num_zero-mul}
use Rattle.tensor_defs.specs.Prelude.{Number, Root3, num_zero, root_3, add, mul, value_of, component_number}
use Rattle.exact_frac.specs.Held.{zero_over_one}
use Rattle.root3_num.specs.Roots.{value_of_root}
use Rattle.tensor_action.specs.Acting.{tensor_of, zero_root}
use Rattle.check_runs.specs.Settings.{AreOnce, AreSettings, ComesAgain, Given, IsFirstTwice, component_at, given_tensor, nothing, number_of}
use Rattle.tool_runs.specs.Tools.{Words}
use Rattle.tool_runs.specs.declared.refusals.RefusalName.TheVariants as Name
use Rattle.check_runs.specs.Stops.{IsTwiceStop, given_by, given_by_all}
use Rattle.check_runs.specs.declared.settings.Setting.{Setting}
use Rattle.check_runs.specs.declared.stops.Stop.{Stop}
use Rattle.check_runs.specs.declared.stops.Stop.TheVariants.{Refused}
use Rattle.check_runs.proofs.Gathered.{component_below, number_new, number_old}

pub record AreGiven (ps : List Given) (n k : ℕ) (t : List Root3) : Type 0 where
  pub size : length t ≡ n
  pub once : (m : ℕ) → m < k → ComesAgain ps m → ⊥
  pub numbers : (c : ℕ) → value_of_root (get_or t c zero_root) ≡ number_of (take k ps) c

zero_value : value_of zero_over_one ≡ num_zero → value_of_root zero_root ≡ num_zero
zero_value e =
    ap (λ (x : Number). add x (mul (value_of zero_over_one) root_3)) e ∙ ap (λ (x : Number). add num_zero (mul x root_3)) e
    ∙ ap (λ (x : Number). add num_zero x) (num_zero-mul root_3) ∙ num_add-zero num_zero

pub given_none : (ps : List Given) (n : ℕ) (x : Root3) → x ≡ zero_root → value_of zero_over_one ≡ num_zero → AreGiven ps n 0 (replicate n x)
given_none ps n x is e = record {
  size = length-replicate n x;
  once = λ m less a. absurd (omega (arith, less));
  numbers = λ c. ap value_of_root (at c) ∙ zero_value e;
}
  where
    at : (c : ℕ) → get_or (replicate n x) c zero_root ≡ zero_root
    at c = elim (cases_lt c n) [
      | inl less ↦ get_or-replicate n c x zero_root less ∙ is
      | inr more ↦ get_or-eq_default (replicate n x) zero_root (omega (arith, length-replicate n x, more))
    ]

pub given_more : (ps : List Given) (n k : ℕ) (t : List Root3) (x : Root3) → k < length ps → component_at ps k < n →
    value_of_root x ≡ (get_or ps k nothing).number → (ComesAgain ps k → ⊥) → AreGiven ps n k t →
    AreGiven ps n (k + 1) (set t (component_at ps k) x)
given_more ps n k t x less below is fresh h = record {
  size = length-set t (component_at ps k) x ∙ h.size;
  once = once;
  numbers = λ c. numbers c (cases_eq c (component_at ps k));
}
  where
    once : (m : ℕ) → m < k + 1 → ComesAgain ps m → ⊥
    once m lt a = elim (cases_lt m k) [
      | inl before ↦ h.once m before a
      | inr after ↦ let e : m ≡ k = omega (arith, lt, after) in fresh (subst (ComesAgain ps) e a)
    ]

    step : (c : ℕ) → number_of (take (suc k) ps) c ≡ number_of (take (k + 1) ps) c
    step c = let e : suc k ≡ k + 1 = omega arith in ap (λ (m : ℕ). number_of (take m ps) c) e

    numbers : (c : ℕ) → (c ≡ component_at ps k) ⊎ (c ≡ component_at ps k → ⊥) →
        value_of_root (get_or (set t (component_at ps k) x) c zero_root) ≡ number_of (take (k + 1) ps) c
    numbers c (inl e) =
        ap value_of_root (ap (λ (i : ℕ). get_or (set t (component_at ps k) x) i zero_root) e
        ∙ get_or-set_same t (component_at ps k) x zero_root (omega (arith, h.size, below)))
        ∙ is ∙ sym (number_new ps k less fresh) ∙ ap (λ (i : ℕ). number_of (take (suc k) ps) i) (sym e) ∙ step c
    numbers c (inr absent) =
        ap value_of_root (get_or-set_other t (component_at ps k) c x zero_root absent)
        ∙ h.numbers c ∙ sym (number_old ps k c less (λ e. absent (sym e))) ∙ step c

module _ (ps : List Given) (n k : ℕ) (t : List Root3) (all : k ≡ length ps) (h : AreGiven ps n k t) where
  pub once_all : AreOnce ps
  once_all m less = h.once m (omega (arith, all, less))

  pub given_all : tensor_of t ≡ given_tensor ps
  given_all = λ i is. (h.numbers (component_number is) ∙ ap (λ (l : List Given). number_of l (component_number is)) whole) i
    where
      whole : take k ps ≡ ps
      whole = ap (λ (m : ℕ). take m ps) all ∙ take-length ps

-- ---- settings
pub length_given : (settings : List Setting) → length (given_by_all settings) ≡ length settings
length_given settings = length-map settings given_by

pub component_is : (settings : List Setting) (i : ℕ) (d : Setting) → i < length settings →
    component_at (given_by_all settings) i ≡ (get_or settings i d).component
component_is settings i d less = ap (λ (p : Given). p.component) (get_or-map given_by settings i d nothing less)

pub number_is : (settings : List Setting) (i : ℕ) (d : Setting) → i < length settings →
    value_of_root (get_or settings i d).number ≡ (get_or (given_by_all settings) i nothing).number
number_is settings i d less = sym (ap (λ (p : Given). p.number) (get_or-map given_by settings i d nothing less))

pub no_more : (settings : List Setting) (k c : ℕ) (d : Setting) → k < length settings →
    ((i : ℕ) → i < k → component_at (given_by_all settings) i ≡ c → ⊥) → ((get_or settings k d).component ≡ c → ⊥) →
    (i : ℕ) → i < k + 1 → component_at (given_by_all settings) i ≡ c → ⊥
no_more settings k c d less before absent i lt e = elim (cases_lt i k) [
  | inl lower ↦ before i lower e
  | inr upper ↦
      let same : k ≡ i = omega (arith, lt, upper) in
      absent (sym (component_is settings k d less) ∙ ap (λ (m : ℕ). component_at (given_by_all settings) m) same ∙ e)
]

module _ (settings : List Setting) (k : ℕ) (d : Setting) (less : k < length settings) (is : d ≡ get_or settings k d) where
  here : component_at (given_by_all settings) k ≡ d.component
  here = component_is settings k d less ∙ ap (λ (s : Setting). s.component) (sym is)

  before : (i : ℕ) → i < k → component_at (given_by_all (take k settings)) i ≡ component_at (given_by_all settings) i
  before i lt =
      component_is (take k settings) i d (omega (arith, less, lt, length-take k settings))
      ∙ ap (λ (s : Setting). s.component) (get_or-take k settings i d lt) ∙ sym (component_is settings i d (omega (arith, less, lt)))

  pub comes_again : ((i : ℕ) × (i < length (take k settings)) × (component_at (given_by_all (take k settings)) i ≡ d.component)) →
      ComesAgain (given_by_all settings) k
  comes_again (i, lt, e) =
      let lower : i < k = omega (arith, less, lt, length-take k settings) in
      (i, lower, sym (before i lower) ∙ e ∙ sym here)

  pub comes_first : ((i : ℕ) → i < length (take k settings) → component_at (given_by_all (take k settings)) i ≡ d.component → ⊥) →
      ComesAgain (given_by_all settings) k → ⊥
  comes_first absent (i, lt, e) = absent i (omega (arith, less, lt, length-take k settings)) (before i lt ∙ e ∙ here)

  within : k < length (given_by_all settings)
  within = omega (arith, less, length_given settings)

  pub fits_here : (n m : ℕ) → ((i : ℕ) → i < length settings → component_at (given_by_all settings) i < n) → m ≡ n → d.component < m
  fits_here n m below size = subst (λ (c : ℕ). c < m) here (subst (λ (q : ℕ). component_at (given_by_all settings) k < q) (sym size) (below k less))

  pub given_next : (n : ℕ) (t : List Root3) → ((i : ℕ) → i < length settings → component_at (given_by_all settings) i < n) →
      ((i : ℕ) → i < length (take k settings) → component_at (given_by_all (take k settings)) i ≡ d.component → ⊥) →
      AreGiven (given_by_all settings) n k t → AreGiven (given_by_all settings) n (k + 1) (set t d.component d.number)
  given_next n t below absent h =
      subst (λ (c : ℕ). AreGiven (given_by_all settings) n (k + 1) (set t c d.number)) here
      (given_more (given_by_all settings) n k t d.number within (below k less)
      (ap (λ (s : Setting). value_of_root s.number) is ∙ number_is settings k d less) (comes_first absent) h)

  pub twice_stop : (n : ℕ) (t : List Root3) (stop : Stop) → stop ≡ Refused (record { word = k + 3; column = 1; name = Name.Twice }) →
      AreGiven (given_by_all settings) n k t →
      ((i : ℕ) × (i < length (take k settings)) × (component_at (given_by_all (take k settings)) i ≡ d.component)) →
      IsTwiceStop (given_by_all settings) stop
  twice_stop n t stop e h again = subst (IsTwiceStop (given_by_all settings)) (sym e) (k, first, refl, refl, refl)
    where
      first : IsFirstTwice (given_by_all settings) k
      first = record { within = within; twice = comes_again again; earlier = h.once }

pub given_start : (ps : List Given) (n m : ℕ) (x : Root3) (t : List Root3) → t ≡ replicate m x → m ≡ n → x ≡ zero_root →
    value_of zero_over_one ≡ num_zero → AreGiven ps n 0 t
given_start ps n m x t e f is zero_is =
    subst (AreGiven ps n 0) (sym (e ∙ ap (λ (q : ℕ). replicate q x) f)) (given_none ps n x is zero_is)

pub below_given : (r n : ℕ) (ws : Words) (settings given : List Setting) → given ≡ settings → n ≡ 3 ^ r →
    AreSettings r ws (given_by_all settings) → (k : ℕ) → k < length given → component_at (given_by_all given) k < n
below_given r n ws settings given e power h k less =
    subst (λ (q : ℕ). component_at (given_by_all given) k < q) (sym power)
    (component_below r ws (given_by_all given) k (subst (λ (l : List Setting). AreSettings r ws (given_by_all l)) (sym e) h)
    (omega (arith, less, length_given given)))
