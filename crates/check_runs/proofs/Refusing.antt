-- Words that have an answer are not refused.
use Rattle.list_laws.proofs.Kit.{◌≡◌, ◌∙◌, ℕ, ◌<◌, ◌≤◌, List, ap, sym, subst, arith, length, inl, inr, Result, Ok, Err, IfOk}
use Rattle.tensor_defs.specs.Prelude.{InGroup, IsAccepted, JahnSymbol, rank, Operation, GroupSymbol, Tensor, Root3, IsListing, comes_before}
use Rattle.tensor_action.specs.Acting.{tensor_of}
use Rattle.answer_laws.proofs.Listings.{operations_listed}
use Rattle.number_words.specs.Laws.{OneNumber}
use Rattle.text_laws.specs.Laws.{OneGroupSymbol, OneJahnSymbol}
use Rattle.tool_runs.specs.Tools.{Words}
use Rattle.tool_runs.specs.declared.refusals.RefusalName.{RefusalName}
use Rattle.tool_runs.specs.declared.refusals.RefusalName.TheVariants as Name
use Rattle.tool_runs.proofs.LongWords.{none_first}
use Rattle.tool_runs.proofs.Refusing.{NoneApplies, none_refuses}
use Rattle.check_runs.specs.CheckTexts.{IsCheckText}
use Rattle.check_runs.specs.CheckWords.{Grows, IsAsked, IsFit, IsRefusedGiven, IsTask, RefusesAs, RefusesGiven, group_word, jahn_word, later_words}
use Rattle.check_runs.specs.Settings.{AreOnce, AreSettings, ComesAgain, Given, given_tensor}
use Rattle.check_runs.specs.Stops.{IsAnswered, IsAnsweredGiven, given_by_all}
use Rattle.check_runs.specs.declared.settings.Setting.{Setting}
use Rattle.check_runs.proofs.Gathered.{one_list, setting_at}

module _ (law : OneNumber) (g : GroupSymbol) (j : JahnSymbol) (later : Words) (hs : List Operation) (ps : List Given)
    (task : IsTask g j later hs ps) (calm : Grows j hs (given_tensor ps) → ⊥) where
  not_refused_given : (name : RefusalName) (number column : ℕ) → RefusesGiven name g j later number column → ⊥
  not_refused_given Name.Long number column h = h
  not_refused_given Name.Syntax number column (k, place, f, a, b) = f.faulty.none (setting_at (rank j) later ps k task.settings f.within)
  not_refused_given Name.Primes number column h = h
  not_refused_given Name.Rank number column h = h
  not_refused_given (Name.NotSub first) number column h = h
  not_refused_given Name.TooLarge number column (ks, qs, t, grows, a, b) =
      calm (subst (λ (l : List Operation). Grows j l (given_tensor ps)) (operations_listed (InGroup g) ks hs t.elements task.elements)
      (subst (λ (l : List Given). Grows j ks (given_tensor l)) (one_list law (rank j) later qs ps t.settings task.settings) grows))
  not_refused_given Name.Twice number column (qs, k, s, t, a, b) =
      let same : qs ≡ ps = one_list law (rank j) later qs ps s task.settings in
      task.once k (subst (λ (l : List Given). k < length l) same t.within)
      (subst (λ (l : List Given). ComesAgain l k) same t.twice)
  not_refused_given Name.NoName number column h = h

  pub answered_given : (text : List ℕ) → IsCheckText g j hs (given_tensor ps) text → IsAnsweredGiven g j later text
  answered_given text h = (not_refused_given, (hs, ps, task, h))

module _ (groups : OneGroupSymbol) (jahns : OneJahnSymbol) (words : Words) (g : GroupSymbol) (j : JahnSymbol) (fit : IsFit words g j)
    (calm : (name : RefusalName) (number column : ℕ) → RefusesGiven name g j (later_words words) number column → ⊥) where
  group_same : (h : GroupSymbol) (k : JahnSymbol) → IsAsked words h k → h ≡ g
  group_same h k other = groups (group_word words) h g other.group_is fit.asked.group_is

  symbol_same : (h : GroupSymbol) (k : JahnSymbol) → IsAsked words h k → k ≡ j
  symbol_same h k other = jahns (jahn_word words) k j other.symbol_is fit.asked.symbol_is

  not_given : (name : RefusalName) (number column : ℕ) → IsRefusedGiven name words number column → ⊥
  not_given name number column (h, k, other, r) =
      calm name number column
      (subst (λ (i : JahnSymbol). RefusesGiven name g i (later_words words) number column) (symbol_same h k other.asked)
      (subst (λ (f : GroupSymbol). RefusesGiven name f k (later_words words) number column) (group_same h k other.asked) r))

  pub none_applies : NoneApplies RefusesAs words
  none_applies Name.Long number column h = none_first words 1 number fit.asked.short h.0
  none_applies Name.Syntax number column (inl (none, place, inl f, is)) = f.0.none (g, fit.asked.group_is)
  none_applies Name.Syntax number column (inl (none, place, inr f, is)) = f.1.none (j, fit.asked.symbol_is)
  none_applies Name.Syntax number column (inr h) = not_given Name.Syntax number column h
  none_applies Name.Primes number column (h, k, other, bad, a, b) =
      bad (subst IsAccepted (sym (group_same h k other)) fit.accepted)
  none_applies Name.Rank number column (h, k, other, good, more, a, b) =
      let e : rank k ≡ rank j = ap rank (symbol_same h k other) in
      let f : rank j ≤ 6 = fit.small in
      omega arith
  none_applies (Name.NotSub first) number column h = not_given (Name.NotSub first) number column h
  none_applies Name.TooLarge number column h = not_given Name.TooLarge number column h
  none_applies Name.Twice number column h = not_given Name.Twice number column h
  none_applies Name.NoName number column h = not_given Name.NoName number column h

pub answered_words : {A E : Type 0} (groups : OneGroupSymbol) (jahns : OneJahnSymbol) (words : Words) (g : GroupSymbol) (j : JahnSymbol)
    (fit : IsFit words g j) (items : A → List ℕ) (r : Result A E) → IfOk r (λ x. IsAnsweredGiven g j (later_words words) (items x)) →
    IfOk r (λ x. IsAnswered words (items x))
answered_words groups jahns words g j fit items (Ok x) h = (none_refuses RefusesAs words (none_applies groups jahns words g j fit h.0), (g, j, fit, h.1))
answered_words groups jahns words g j fit items (Err e) h = h

-- the lists are those of the settings and of the tensor that they give
pub answered_tensor : {A E : Type 0} (law : OneNumber) (g : GroupSymbol) (j : JahnSymbol) (later : Words) (hs : List Operation) (r : ℕ)
    (settings given : List Setting) (numbers carried : List Root3) (items : A → List ℕ) (result : Result A E) →
    IsListing comes_before (InGroup g) hs → rank j ≡ r → AreSettings r later (given_by_all settings) → given ≡ settings →
    AreOnce (given_by_all given) → tensor_of numbers ≡ given_tensor (given_by_all given) → carried ≡ numbers →
    IfOk result (λ x. IsCheckText g j hs (tensor_of carried) (items x)) → IfOk result (λ _. Grows j hs (tensor_of carried) → ⊥) →
    IfOk result (λ x. IsAnsweredGiven g j later (items x))
answered_tensor law g j later hs r settings given numbers carried items (Ok x) listed same settled e once tensor f text calm =
    answered_given law g j later hs (given_by_all given) task (subst (λ (t : Tensor). Grows j hs t → ⊥) is calm) (items x)
    (subst (λ (t : Tensor). IsCheckText g j hs t (items x)) is text)
  where
    is : tensor_of carried ≡ given_tensor (given_by_all given)
    is = ap (λ (l : List Root3). tensor_of l) f ∙ tensor

    task : IsTask g j later hs (given_by_all given)
    task = record {
      elements = listed;
      settings = subst (λ (q : ℕ). AreSettings q later (given_by_all given)) (sym same)
          (subst (λ (l : List Setting). AreSettings r later (given_by_all l)) (sym e) settled);
      once = once;
    }
answered_tensor law g j later hs r settings given numbers carried items (Err x) listed same settled e once tensor f text calm = text
