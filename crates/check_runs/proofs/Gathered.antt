-- What words give, word by word.
--   settings_more   one word more
--   each_setting, setting_at, component_below, settings_length    what is known of each
--   one_list        words give one list
--   settings_next, faulty_stop    one more word of a list, and one that gives nothing
--   number_new, number_old    the numbers that the first k settings give, and one more
use Rattle.list_laws.proofs.Kit.{◌≡◌, ◌∙◌, ℕ, zero, suc, ◌+◌, ◌^◌, ◌<◌, List, [], ◌∷◌, ◌++◌, length, map, take, get_or, cond, nat_eq, refl, sym, ap, subst}
use Rattle.list_laws.proofs.Kit.{arith, get_or-map, length-map, map-append, map_more, take-map, ne_eqb}
use Rattle.std.proofs.lemmas.Bool.{eq-eqb}
use Rattle.std.specs.Prelude.{Bool}
use Rattle.tensor_defs.specs.Prelude.{Each, Number, num_zero, JahnSymbol, rank, GroupSymbol}
use Rattle.text_defs.specs.Languages.{IsFaulty}
use Rattle.number_words.specs.Laws.{OneNumber}
use Rattle.tool_runs.specs.Tools.{Words}
use Rattle.tool_runs.specs.declared.refusals.RefusalName.TheVariants as Name
use Rattle.check_runs.specs.Settings.{AreSettings, ComesAgain, Given, IsFirstFaulty, IsSetting, Sets, component_at, nothing, number_of}
use Rattle.check_runs.specs.Stops.{IsStopGiven, given_by, given_by_all}
use Rattle.check_runs.specs.declared.settings.Setting.{Setting}
use Rattle.check_runs.specs.declared.stops.Stop.{Stop}
use Rattle.check_runs.specs.declared.stops.Stop.TheVariants.{Refused}
use Rattle.check_runs.proofs.Names.{one_setting}

pub settings_more : (r : ℕ) (ws : Words) (ps : List Given) (w : List ℕ) (p : Given) → AreSettings r ws ps → Sets r w p →
    AreSettings r (ws ++ w ∷ []) (ps ++ p ∷ [])
settings_more r [] [] w p h s = (s, tt)
settings_more r [] (q ∷ ps) w p h s = absurd h
settings_more r (v ∷ ws) [] w p h s = absurd h
settings_more r (v ∷ ws) (q ∷ ps) w p h s = (h.0, settings_more r ws ps w p h.1 s)

pub each_setting : (r : ℕ) (ws : Words) (ps : List Given) → AreSettings r ws ps → Each (IsSetting r) ws
each_setting r [] ps h = tt
each_setting r (w ∷ ws) [] h = absurd h
each_setting r (w ∷ ws) (p ∷ ps) h = ((p, h.0), each_setting r ws ps h.1)

pub setting_at : (r : ℕ) (ws : Words) (ps : List Given) (k : ℕ) → AreSettings r ws ps → k < length ws → IsSetting r (get_or ws k [])
setting_at r [] ps k h less = absurd (omega arith)
setting_at r (w ∷ ws) [] k h less = absurd h
setting_at r (w ∷ ws) (p ∷ ps) zero h less = (p, h.0)
setting_at r (w ∷ ws) (p ∷ ps) (suc k) h less = setting_at r ws ps k h.1 (omega (arith, less))

pub component_below : (r : ℕ) (ws : Words) (ps : List Given) (k : ℕ) → AreSettings r ws ps → k < length ps → component_at ps k < 3 ^ r
component_below r ws [] k h less = absurd (omega arith)
component_below r [] (p ∷ ps) k h less = absurd h
component_below r (w ∷ ws) (p ∷ ps) zero h less = h.0.below
component_below r (w ∷ ws) (p ∷ ps) (suc k) h less = component_below r ws ps k h.1 (omega (arith, less))

pub one_list : OneNumber → (r : ℕ) (ws : Words) (ps qs : List Given) → AreSettings r ws ps → AreSettings r ws qs → ps ≡ qs
one_list law r [] [] [] h k = refl
one_list law r [] [] (q ∷ qs) h k = absurd k
one_list law r [] (p ∷ ps) qs h k = absurd h
one_list law r (w ∷ ws) [] qs h k = absurd h
one_list law r (w ∷ ws) (p ∷ ps) [] h k = absurd k
one_list law r (w ∷ ws) (p ∷ ps) (q ∷ qs) h k =
    let first : p ≡ q = one_setting law r w p q h.0 k.0 in
    let rest : ps ≡ qs = one_list law r ws ps qs h.1 k.1 in
    λ i. first i ∷ rest i

-- ---- the numbers of components
other : (d c : ℕ) (x y : Number) → (d ≡ c → ⊥) → cond (nat_eq d c) x y ≡ y
other d c x y absent = ap (λ (b : Bool). cond b x y) (ne_eqb d c absent)

same : (d c : ℕ) (x y : Number) → d ≡ c → cond (nat_eq d c) x y ≡ x
same d c x y e = ap (λ (b : Bool). cond b x y) (eq-eqb d c e)

either : (d c : ℕ) (x y z : Number) → y ≡ z → cond (nat_eq d c) x y ≡ cond (nat_eq d c) x z
either d c x y z e = ap (λ (n : Number). cond (nat_eq d c) x n) e

pub number_old : (ps : List Given) (k c : ℕ) → k < length ps → (component_at ps k ≡ c → ⊥) → number_of (take (suc k) ps) c ≡ number_of (take k ps) c
number_old [] k c less absent = absurd (omega arith)
number_old (p ∷ ps) zero c less absent = other p.component c p.number num_zero absent
number_old (p ∷ ps) (suc k) c less absent =
    either p.component c p.number (number_of (take (suc k) ps) c) (number_of (take k ps) c) (number_old ps k c (omega (arith, less)) absent)

pub number_new : (ps : List Given) (k : ℕ) → k < length ps → (ComesAgain ps k → ⊥) →
    number_of (take (suc k) ps) (component_at ps k) ≡ (get_or ps k nothing).number
number_new [] k less absent = absurd (omega arith)
number_new (p ∷ ps) zero less absent = same p.component p.component p.number num_zero refl
number_new (p ∷ ps) (suc k) less absent =
    other p.component (component_at ps k) p.number (number_of (take (suc k) ps) (component_at ps k)) (λ e. absent (0, omega arith, e))
    ∙ number_new ps k (omega (arith, less)) (λ a. absent (suc a.0, (let b = a.1 in omega arith), a.2))

-- ---- one more word of a list
module _ {A : Type 0} (f : A → List ℕ) (ws : List A) (k : ℕ) (d : A) (word : List ℕ) (r : ℕ) (settings : List Setting)
    (less : k < length ws) (is : d ≡ get_or ws k d) (value : word ≡ f d) (h : AreSettings r (map f (take k ws)) (given_by_all settings)) where
  pub settings_next : (s : Setting) (now : List Setting) → Sets r word (given_by s) → now ≡ settings ++ s ∷ [] →
      AreSettings r (map f (take (k + 1) ws)) (given_by_all now)
  settings_next s now sets e =
      subst (λ (l : List Setting). AreSettings r (map f (take (k + 1) ws)) (given_by_all l)) (sym e)
      (subst (λ (ps : List Given). AreSettings r (map f (take (k + 1) ws)) ps) (sym (map-append given_by settings (s ∷ [])))
      (subst (λ (l : Words). AreSettings r l (given_by_all settings ++ given_by s ∷ [])) (sym words)
      (settings_more r (map f (take k ws)) (given_by_all settings) word (given_by s) h sets)))
    where
      words : map f (take (k + 1) ws) ≡ map f (take k ws) ++ word ∷ []
      words = map_more f ws k d less ∙ ap (λ (w : List ℕ). map f (take k ws) ++ w ∷ []) (ap f (sym is) ∙ sym value)

  pub faulty_stop : (g : GroupSymbol) (j : JahnSymbol) (place : ℕ) (stop : Stop) → rank j ≡ r → IsFaulty (IsSetting r) word place →
      stop ≡ Refused (record { word = k + 3; column = place + 1; name = Name.Syntax }) → IsStopGiven g j (map f ws) stop
  faulty_stop g j place stop same faulty e =
      subst (λ (s : Stop). IsStopGiven g j (map f ws) s) (sym e)
      (k, place, subst (λ (q : ℕ). IsFirstFaulty q (map f ws) k place) (sym same) first, refl, refl)
    where
      here : word ≡ get_or (map f ws) k []
      here = value ∙ ap f is ∙ sym (get_or-map f ws k d [] less)

      first : IsFirstFaulty r (map f ws) k place
      first = record {
        within = omega (arith, less, length-map ws f);
        faulty = subst (λ (w : List ℕ). IsFaulty (IsSetting r) w place) here faulty;
        earlier = subst (Each (IsSetting r)) (sym (take-map f k ws)) (each_setting r (map f (take k ws)) (given_by_all settings) h);
      }
