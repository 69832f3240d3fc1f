use Rattle.std.proofs.Common.{◌≡◌, ◌∙◌, ap, arith, length, refl}
use Rattle.fault_places.proofs.Furthest.{Furthest-start}
use Rattle.limiting_defs.specs.declared.Curie.TheVariants.{Inf}
use Rattle.curie_runs.specs.CurieTexts.{curie_at, curie_text, IsCurieText}
use Rattle.curie_runs.proofs.NameLaws.{all_tried, tried_next}
use Rattle.curie_runs.proofs.names.read_curie.Goals as goal
use Rattle.curie_runs.proofs.names.read_curie.Goals.{else-same-text-via-then-same-text+else-same-word, else-same-text-via-else-same-text}

pub loop-place-init : goal.loop-place-init
loop-place-init c = Furthest-start IsCurieText (λ k z. z ≡ curie_text (curie_at k)) c.args.word.now (curie_text Inf, (Inf, refl))

pub loop-place-preserved : goal.loop-place-preserved
loop-place-preserved c =
    let f = c.common_front-same.ensures in
    let n = c.common_front-same.result in
    let text = c.curie_text-text.result.now in
    let is : text ≡ curie_text (curie_at c.loop-place.place) = c.curie_text-text.ensures ∙ ap curie_text c.curie_at-group.ensures in
    let part : n ≡ length text → n ≡ length c.args.word.now → ⊥ = elim c.else-same-text.branch [
      | else-same-text-via-then-same-text+else-same-word w ↦ λ p q. w.if-same-word.false q
      | else-same-text-via-else-same-text w ↦ λ p q. w.if-same-text.false p
    ] in
    rw c.max-furthest.ensures (tried_next c.args.word.now text c.loop-place.furthest c.loop-place.place n c.loop-place.invariant is
    f.within_a f.within_b f.same f.differ part)

pub returns : goal.returns
returns c =
    let e : c.loop-place.place ≡ 5 = omega arith in
    all_tried c.args.word.now c.loop-place.furthest (rw e at c.loop-place.invariant)
