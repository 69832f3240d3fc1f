use Rattle.list_laws.proofs.Kit.{◌≡◌, ℕ, ◌++◌, ◌<◌, ◌≤◌, List, length, map, take, drop, get_or, ap, arith, sym, ◌∙◌}
use Rattle.std.proofs.Common.{add-one}
use Rattle.std.proofs.Math.ListN.{set}
use Rattle.list_laws.proofs.Members.{each_read}
use Rattle.constraint_rows.specs.Gathering.{AreSmallTerms, raised}
use Rattle.constraint_rows.specs.declared.words.Term.{Term}
use Rattle.constraint_rows.proofs.WordLaws.{raised_more, raised_read}
use Rattle.constraint_rows.proofs.words.raise_all.Goals as goal

-- a term of the list is one of those that the list began with
begun : (f : Term → Term) (ts us : List Term) (i : ℕ) (t : Term) → us ≡ map f (take i ts) ++ drop i ts → i < length ts → t ≡ get_or us i t → t ≡ get_or ts i t
begun f ts us i t e h is = is ∙ ap (λ (xs : List Term). get_or xs i t) e ∙ raised_read f ts i t h

small : (f : Term → Term) (ts us : List Term) (i : ℕ) (t : Term) → AreSmallTerms ts → us ≡ map f (take i ts) ++ drop i ts → i < length ts → t ≡ get_or us i t →
    (t.component ≤ 243) × (t.quarters ≤ 15)
small f ts us i t each e h is = each_read _ ts each.each i t h (begun f ts us i t e h is)

pub raised-requires-clause-component : goal.raised-requires-clause-component
raised-requires-clause-component c =
    let h : c.loop-place.place < length c.args.terms.now.items = omega (arith, c.loop-place-test.true, c.len-place-end.ensures) in
    let s = small (raised c.args.by 0) c.args.terms.now.items c.loop-place.terms.items c.loop-place.place c.index.result.now c.requires.small c.loop-place.invariant h c.index.ensures in
    omega (arith, s.0, c.requires.by)

pub raised-requires-clause-quarters : goal.raised-requires-clause-quarters
raised-requires-clause-quarters c =
    let h : c.loop-place.place < length c.args.terms.now.items = omega (arith, c.loop-place-test.true, c.len-place-end.ensures) in
    let s = small (raised c.args.by 0) c.args.terms.now.items c.loop-place.terms.items c.loop-place.place c.index.result.now c.requires.small c.loop-place.invariant h c.index.ensures in
    omega (arith, s.1)

pub loop-place-preserved : goal.loop-place-preserved
loop-place-preserved c =
    let f : Term → Term = raised c.args.by 0 in
    let ts : List Term = c.args.terms.now.items in
    let us : List Term = c.loop-place.terms.items in
    let i = c.loop-place.place in
    let h : i < length ts = omega (arith, c.loop-place-test.true, c.len-place-end.ensures) in
    let t : Term = c.index.result.now in
    (λ j. set (c.loop-place.invariant j) i (c.raised.ensures j)) ∙ raised_more f ts i t h (begun f ts us i t c.loop-place.invariant h c.index.ensures)
    ∙ ap (λ m. map f (take m ts) ++ drop m ts) (sym (add-one i))
