-- Words that have an answer are not refused.
use Rattle.std.proofs.Common.{◌≡◌, ℕ, ◌≤◌, List, [], cond, eqb, length, get_or, refl, ap, sym, subst, ◌∙◌, arith, inl, inr}
use Rattle.tensor_defs.specs.Jahn.{JahnSymbol, rank}
use Rattle.text_laws.specs.Laws.{OneJahnSymbol}
use Rattle.limiting_defs.specs.declared.Curie.{Curie}
use Rattle.limiting_defs.specs.declared.Curie.TheVariants.{Inf, InfM, Inf2, InfOverM, InfOverMM}
use Rattle.limiting_groups.specs.CurieTables.{CurieGrows}
use Rattle.tool_runs.specs.Tools.{Words}
use Rattle.tool_runs.specs.declared.refusals.RefusalName.{RefusalName}
use Rattle.tool_runs.specs.declared.refusals.RefusalName.TheVariants as Name
use Rattle.tool_runs.proofs.LongWords.{none_first}
use Rattle.tool_runs.proofs.Refusing.{NoneApplies}
use Rattle.curie_runs.specs.CurieTexts.{curie_text}
use Rattle.curie_runs.specs.CurieWords.{IsAsked, RefusesAs}

-- a group by its text
abbrev curie_of : List ℕ → Curie
curie_of u =
    cond (eqb (length u) 3) Inf (cond (eqb (get_or u 3 0) 109) InfM (cond (eqb (get_or u 3 0) 50) Inf2
    (cond (eqb (length u) 5) InfOverM InfOverMM)))

read_back : (g : Curie) → curie_of (curie_text g) ≡ g
read_back Inf = refl
read_back InfM = refl
read_back Inf2 = refl
read_back InfOverM = refl
read_back InfOverMM = refl

one_group : (g h : Curie) (word : List ℕ) → word ≡ curie_text g → word ≡ curie_text h → g ≡ h
one_group g h word p q = sym (read_back g) ∙ ap curie_of (sym p ∙ q) ∙ read_back h

module _ (law : OneJahnSymbol) (words : Words) (group : Curie) (j : JahnSymbol) (asked : IsAsked words group j)
    (small : rank j ≤ 6) (calm : CurieGrows j group → ⊥) where
  symbol_same : (h : Curie) (k : JahnSymbol) → IsAsked words h k → j ≡ k
  symbol_same h k other = law (get_or words 1 []) j k asked.symbol_is other.symbol_is

  group_same : (h : Curie) (k : JahnSymbol) → IsAsked words h k → group ≡ h
  group_same h k other = one_group group h (get_or words 0 []) asked.group_is other.group_is

  pub none_applies : NoneApplies RefusesAs words
  none_applies Name.Long number column h = none_first words 1 number asked.short h.0
  none_applies Name.Syntax number column (none, place, first, is) = elim first [
    | inl x ↦ x.0.none (group, asked.group_is)
    | inr x ↦ x.1.none (j, asked.symbol_is)
  ]
  none_applies Name.Primes number column h = h
  none_applies Name.Rank number column (h, k, other, more, p, q) =
      let e : rank j ≡ rank k = ap rank (symbol_same h k other) in omega arith
  none_applies (Name.NotSub first) number column h = h
  none_applies Name.TooLarge number column (h, k, other, less, grows, p, q) =
      calm (subst (λ (g : Curie). CurieGrows j g) (sym (group_same h k other))
      (subst (λ (i : JahnSymbol). CurieGrows i h) (sym (symbol_same h k other)) grows))
  none_applies Name.Twice number column h = h
  none_applies Name.NoName number column h = h
