use Rattle.list_laws.proofs.Kit.{◌≡◌, ℕ, ◌++◌, ◌<◌, ◌≤◌, List, length, get_or, get_or_append_left, ap, arith, ◌∙◌}
use Rattle.list_laws.proofs.Members.{each_read}
use Rattle.constraint_rows.specs.Gathering.{AreSmallTerms}
use Rattle.constraint_rows.specs.declared.words.Term.{Term}
use Rattle.constraint_rows.proofs.words.push_raised.Goals as goal

small : (ts us vs : List Term) (i : ℕ) (t : Term) → AreSmallTerms ts → us ≡ ts ++ vs → i < length ts → t ≡ get_or us i t → (t.component ≤ 243) × (t.quarters ≤ 15)
small ts us vs i t each e h is =
    each_read _ ts each.each i t h (is ∙ ap (λ (xs : List Term). get_or xs i t) e ∙ get_or_append_left ts vs t i h)

pub raised-requires-clause-component : goal.raised-requires-clause-component
raised-requires-clause-component c =
    let h : c.loop-place.place < length c.args.terms.now.items = omega (arith, c.loop-place-test.true, c.len-place-end.ensures) in
    let s = small c.args.terms.now.items c.loop-place.terms.items _ c.loop-place.place c.index-term.result.now c.requires.small c.loop-place.invariant h c.index-term.ensures in
    omega (arith, s.0, c.requires.by)

pub raised-requires-clause-quarters : goal.raised-requires-clause-quarters
raised-requires-clause-quarters c =
    let h : c.loop-place.place < length c.args.terms.now.items = omega (arith, c.loop-place-test.true, c.len-place-end.ensures) in
    let s = small c.args.terms.now.items c.loop-place.terms.items _ c.loop-place.place c.index-term.result.now c.requires.small c.loop-place.invariant h c.index-term.ensures in
    omega (arith, s.1, c.requires.quarters)
