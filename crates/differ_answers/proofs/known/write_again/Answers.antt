use Rattle.list_laws.proofs.Kit.{◌++◌, ◌∷◌, ◌∙◌, [], List, ℕ, ap, slice_range, decimal}
use Rattle.std.specs.Prelude.{codes}
use Rattle.text_defs.specs.AnswerTexts.{line_of}
use Rattle.differ_answers.proofs.StandingLaws.{again_written}
use Rattle.differ_answers.proofs.known.write_again.Goals as goal

pub returns-clause-ok : goal.returns-clause-ok
returns-clause-ok g c = λ a s k.
    let old = c.args.out.now.items in
    again_written g.R.Rank.R a s c.args.number g.R.Rank.LEN c.args.lines old c.write_front.new.out.items c.append_to.new.out.items
    c.append_to-2.new.out.items g.R.Rank.power k
    (c.in_ok-write_front.ensures.ok ∙ ap (λ (n : ℕ). old ++ line_of (codes "state" ∷ decimal c.args.number ∷ codes "differs"
    ∷ decimal c.args.lines.count ∷ codes "of" ∷ decimal n ∷ [])) c.LEN.ensures)
    (c.in_ok-append_to.ensures.ok ∙ ap (λ (xs : List ℕ). xs ++ slice_range c.deref.result.now c.args.lines.start c.args.lines.end) c.new-again.ensures.items
    ∙ ap (λ (xs : List ℕ). slice_range xs c.args.lines.start c.args.lines.end) c.deref.ensures.value)
    (c.in_ok-append_to-2.ensures.ok ∙ ap (λ (xs : List ℕ). c.write_front.new.out.items ++ xs) c.as_slice.ensures.value)
