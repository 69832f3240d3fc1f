use Rattle.list_laws.proofs.Kit.{◌≡◌, ◌-◌, ◌*◌, ◌^◌, ◌<◌, ◌≤◌, ◌++◌, ◌∷◌, [], List, suc, cond, drop, length, map, nat_eq, ap, sym, ◌∙◌, arith, subst, refl, inl, inr}
use Rattle.std.proofs.lemmas.Bool.{cases_eq}
use Rattle.std.proofs.Math.Nat.{pow-suc}
use Rattle.tensor_defs.specs.Prelude.{index_of, Word}
use Rattle.tensor_rank.specs.IndexLaws.{nth}
use Rattle.constraint_rows.specs.Gathering.{AreSmallTerms, letter_of, raised, terms_from, word_at}
use Rattle.constraint_rows.specs.declared.words.Term.{Term}
use Rattle.constraint_rows.proofs.WordLaws.{front_level, front_other, length_rest, letter_one, letter_split_back, no_letter, small_terms, small_weight}
use Rattle.constraint_rows.proofs.words.list_terms.Goals as goal

pub loop-place-init : goal.loop-place-init
loop-place-init g c =
    let r = g.R.Rank.R in
    let none : drop c.R-place.result (word_at r c.args.word) ≡ [] = no_letter r c.args.word c.R-place.result (omega (arith, c.R-place.ensures)) in
    let end : r - c.R-place.result ≡ 0 = omega (arith, c.R-place.ensures) in
    record {
      terms =
          c.in_ok-push.ensures.items ∙ ap (λ (ts : List Term). ts ++ (record { component = 0; quarters = 0 }) ∷ []) c.clear.ensures.items
          ∙ ap (terms_from 0 0) (sym none);
      weight = ap (λ k. 3 ^ k) (sym end);
      within = omega (arith, c.R-place.ensures);
    }

pub put_letter-requires-clause-small : goal.put_letter-requires-clause-small
put_letter-requires-clause-small g c =
    subst AreSmallTerms (sym c.loop-place.invariant.terms)
    (small_terms g.R.Rank.R c.args.word c.loop-place.place (omega (arith, c.loop-place-test.true)) c.loop-place.invariant.within g.R.Rank.small)

pub put_letter-requires-clause-weight : goal.put_letter-requires-clause-weight
put_letter-requires-clause-weight g c =
    let small = small_weight (g.R.Rank.R - c.loop-place.place) (omega (arith, c.loop-place-test.true, g.R.Rank.small)) in
    omega (arith, c.loop-place.invariant.weight, small)

pub overflow_mul-weight : goal.overflow_mul-weight
overflow_mul-weight g c =
    let small = small_weight (g.R.Rank.R - c.loop-place.place) (omega (arith, c.loop-place-test.true, g.R.Rank.small)) in
    omega (arith, c.loop-place.invariant.weight, small)

pub loop-place-preserved : goal.loop-place-preserved
loop-place-preserved g c =
    let r = g.R.Rank.R in
    let p = c.loop-place.place in
    let k = c.loop-place.weight in
    let d = c.digit.result in
    let w : Word = drop p (word_at r c.args.word) in
    let i = nth (index_of r c.args.word) (p - 1) in
    let some : 0 < p = omega (arith, c.loop-place-test.true) in
    let within : p ≤ r = c.loop-place.invariant.within in
    let split : drop (p - 1) (word_at r c.args.word) ≡ letter_of i ∷ w = letter_split_back r c.args.word p (letter_of i) some within refl in
    let weight : k ≡ 3 ^ length w = c.loop-place.invariant.weight ∙ ap (λ n. 3 ^ n) (sym (length_rest r c.args.word p)) in
    let next : suc (r - p) ≡ r - (p - 1) = omega (arith, some, within) in
    record {
      terms = elim (cases_eq d 1) as (λ _. c.put_letter.new.terms.items ≡ terms_from 0 0 (drop (p - 1) (word_at r c.args.word))) [
        | inl e ↦
            c.in_ok-put_letter.ensures.level e ∙ ap (map (raised (2 * k) 0)) c.loop-place.invariant.terms ∙ front_level w k weight
            ∙ ap (terms_from 0 0) (sym (split ∙ ap (λ l. l ∷ w) (letter_one i (sym c.digit.ensures.value ∙ e))))
        | inr e ↦
            let t = cond (nat_eq d 2) 1 3 in
            c.in_ok-put_letter.ensures.other e ∙ (λ j. c.loop-place.invariant.terms j ++ map (raised k t) (c.loop-place.invariant.terms j))
            ∙ front_other i w k t weight (λ one. e (c.digit.ensures.value ∙ one)) (ap (λ x. cond (nat_eq x 2) 1 3) c.digit.ensures.value)
            ∙ ap (terms_from 0 0) (sym split)
      ];
      weight = ap (λ n. n * 3) c.loop-place.invariant.weight ∙ sym (pow-suc 3 (r - p)) ∙ ap (λ n. 3 ^ n) next;
      within = omega (arith, within);
    }
