use Rattle.list_laws.proofs.Kit.{◌≡◌, ◌++◌, ◌∙◌, List, ℕ, length, ap, subst, sym, IfErr-weaker, on_ok_weaker}
use Rattle.text_defs.specs.AnswerTexts.{differ_header}
use Rattle.jahn_grammar.specs.Symbols.{symbol_of}
use Rattle.magnetic_groups.specs.Sets.{In}
use Rattle.reduced_form.specs.Forms.{form_table}
use Rattle.differ_answers.specs.Told.{AreWritten}
use Rattle.differ_answers.proofs.answers.write_text.Goals as goal

pub write_states-requires : goal.write_states-requires
write_states-requires g c = λ i l. c.requires.fits.well_formed i (l ∙ sym c.requires.shape.rank_is)

pub returns-clause-ok : goal.returns-clause-ok
returns-clause-ok g c =
    let r = g.R.Rank.R in
    let j = symbol_of c.args.jahn.now in
    let s = c.args.states.now in
    let a = form_table r c.args.form.now in
    let old = c.args.out.now.items in
    let front : c.write_header.new.out.items ≡ old ++ differ_header c.args.g.now c.args.f.now j (length s.reps) a =
    c.in_ok-write_header.ensures.ok ∙ ap (λ n. old ++ differ_header c.args.g.now c.args.f.now j n a) c.count.ensures.is in
    on_ok_weaker c.write_states.result (λ told. record {
      table = a;
      fits = c.requires.fits;
      written = subst (λ (l : List ℕ). AreWritten j (In s.whole) (In s.sub) a s.reps l c.write_states.new.out.items) front
          (told j c.requires.shape c.requires.fits);
    }) c.write_states.ensures.ok

pub returns-clause-grows : goal.returns-clause-grows
returns-clause-grows g c =
    IfErr-weaker c.write_states.result _ _
    (λ e grows large. grows large (symbol_of c.args.jahn.now) c.requires.shape c.requires.fits) c.write_states.ensures.grows
