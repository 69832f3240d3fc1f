-- A request for the same tensors has one answer.
use Rattle.std.proofs.Common.{sym, ◌∙◌, inl, inr}
use Rattle.answer_laws.specs.Laws.{OneSame}

pub one_same_lem : OneSame
one_same_lem g h j a b (inl p) (inl q) = p.1 ∙ sym q.1
one_same_lem g h j a b (inl p) (inr q) = absurd (q.0 p.0)
one_same_lem g h j a b (inr p) (inl q) = absurd (p.0 q.0)
one_same_lem g h j a b (inr p) (inr q) = p.1 ∙ sym q.1
