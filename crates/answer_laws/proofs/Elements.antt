-- A request for the elements of a group has one answer.
use Rattle.std.proofs.Common.{sym, ap, ◌∙◌}
use Rattle.text_defs.specs.AnswerTexts.{elements_text}
use Rattle.answer_laws.proofs.Listings.{one_listing_lem}
use Rattle.answer_laws.specs.Laws.{OneGroup}

pub one_group_lem : OneGroup
one_group_lem g a b p q =
    p.2 ∙ ap (elements_text g.symbol) (one_listing_lem g.symbol p.0 q.0 p.1 q.1) ∙ sym q.2
