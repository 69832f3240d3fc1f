use Rattle.std.proofs.Common.{◌≡◌, ◌≤◌, List, length, sym, ◌∙◌, subst}
use Rattle.tensor_rank.specs.Orders.{before_at}
use Rattle.constraint_rows.specs.Prelude.{is_chosen, AreTermsBelow, terms_from, word_at, AreParts}
use Rattle.constraint_rows.specs.declared.words.Term.{Term}
use Rattle.constraint_rows.proofs.GatherLaws.{order_total}
use Rattle.constraint_rows.proofs.WordLaws.{word_made, word_terms_below, word_terms_few}
use Rattle.constraint_rows.proofs.words.add_word.Goals as goal

pub gather-requires-clause-below : goal.gather-requires-clause-below
gather-requires-clause-below g c =
    let terms = terms_from 0 0 (word_at g.R.Rank.R c.args.word) in
    let listed : c.deref.result.now ≡ terms = c.deref.ensures.value ∙ c.in_ok-list_terms.ensures in
    subst (AreTermsBelow g.R.Rank.LEN) (sym listed) (word_terms_below g.R.Rank.LEN g.R.Rank.R c.args.word g.R.Rank.power)

pub gather-requires-clause-few : goal.gather-requires-clause-few
gather-requires-clause-few g c =
    let terms = terms_from 0 0 (word_at g.R.Rank.R c.args.word) in
    let listed : c.deref.result.now ≡ terms = c.deref.ensures.value ∙ c.in_ok-list_terms.ensures in
    subst (λ (ts : List Term). length ts ≤ 729) (sym listed) (word_terms_few g.R.Rank.LEN g.R.Rank.R c.args.word g.R.Rank.power g.R.Rank.fits)

pub of_parts-requires : goal.of_parts-requires
of_parts-requires g c = subst (AreParts g.R.Rank.LEN) (sym c.deref-2.ensures.value) c.in_ok-gather.ensures.even_parts

pub of_parts-requires-2 : goal.of_parts-requires-2
of_parts-requires-2 g c = subst (AreParts g.R.Rank.LEN) (sym c.deref-3.ensures.value) c.in_ok-gather.ensures.odd_parts

pub returns : goal.returns
returns g c =
    let terms = terms_from 0 0 (word_at g.R.Rank.R c.args.word) in
    let listed : c.deref.result.now ≡ terms = c.deref.ensures.value ∙ c.in_ok-list_terms.ensures in
    word_made g.R.Rank.LEN g.R.Rank.R g.R.Rank.power g.R.Rank.fits (before_at g.R.Rank.R c.args.order.now)
    (order_total g.R.Rank.LEN g.R.Rank.R g.R.Rank.power c.args.order.now) c.args.classes.now c.requires.sound (is_chosen c.args.rotations) c.args.word
    c.args.rows.now.items _ _ _ _ c.deref.result.now c.deref.result.now (sym c.is_chosen.ensures ∙ c.if-not-is_chosen.false) c.requires.rows
    listed (c.in_ok-of_parts.ensures ∙ c.deref-2.ensures.value ∙ c.in_ok-gather.ensures.even)
    listed (c.in_ok-of_parts-2.ensures ∙ c.deref-3.ensures.value ∙ c.in_ok-gather.ensures.odd) c.in_ok-push.ensures.items c.in_ok-push-2.ensures.items
