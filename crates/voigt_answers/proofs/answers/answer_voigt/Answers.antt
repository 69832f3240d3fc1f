use Rattle.std.proofs.Common.{ℕ, List, ◌∙◌, refl, subst, sym}
use Rattle.std.proofs.lemmas.List.{length-map}
use Rattle.std.proofs.lemmas.Result.{IfOk-weaker, on_ok_weaker}
use Rattle.tensor_defs.specs.Prelude.{InGroup, VoigtGrows}
use Rattle.jahn_grammar.specs.Symbols.{symbol_of}
use Rattle.magnetic_groups.specs.Sets.{In}
use Rattle.tensor_laws.proofs.Sets.{same_back}
use Rattle.table_answers.proofs.Told.{ok_always}
use Rattle.voigt_table.specs.Blocks.{entry_at}
use Rattle.voigt_table.specs.Tables.{voigt_of}
use Rattle.answer_laws.proofs.Voigts.{one_blocks}
use Rattle.voigt_answers.proofs.Told.{fault_grows, fault_plain, fault_shape, grows_voigt, voigt_same, written_shape}
use Rattle.voigt_answers.proofs.answers.answer_voigt.Goals as goal

pub write_voigt-requires : goal.write_voigt-requires
write_voigt-requires c = c.in-Ok.ensures.1.0

pub returns-in-Ok-clause-ok : goal.returns-in-Ok-clause-ok
returns-in-Ok-clause-ok c =
    let j = symbol_of c.args.jahn.now in
    let v = c.in-Ok.table in
    let told = c.in-Ok.ensures in
    on_ok_weaker c.write_voigt.result (λ written. (
      v.sizes,
      told.0,
      voigt_of v,
      voigt_same j (In c.args.group.now) (InGroup c.args.g.now) v.sizes c.args.weights (voigt_of v) c.requires.group.members told.1.2,
      written,
    )) c.write_voigt.ensures.ok

pub returns-in-Ok-clause-calm : goal.returns-in-Ok-clause-calm
returns-in-Ok-clause-calm c =
    let j = symbol_of c.args.jahn.now in
    let H = In c.args.group.now in
    let G = InGroup c.args.g.now in
    let v = c.in-Ok.table in
    let told = c.in-Ok.ensures in
    ok_always c.write_voigt.result (λ bs has grows.
    told.1.3 (subst (λ (cs : List ℕ). VoigtGrows j H cs c.args.weights) (one_blocks j.factors bs v.sizes has told.0)
    (grows_voigt j G H bs c.args.weights (same_back H G c.requires.group.members) grows)))

pub returns-in-Ok-clause-shape : goal.returns-in-Ok-clause-shape
returns-in-Ok-clause-shape c =
    written_shape c.write_voigt.result c.write_voigt.ensures.memory (c.in-Ok.table.sizes, c.in-Ok.ensures.0)

pub returns-in-Err-clause-grows : goal.returns-in-Err-clause-grows
returns-in-Err-clause-grows c = λ large.
    let j = symbol_of c.args.jahn.now in
    let H = In c.args.group.now in
    let G = InGroup c.args.g.now in
    let told = fault_grows j H c.args.weights c.in-Err.fault c.in-Err.ensures large in
    (told.0, told.1, grows_voigt j H G told.0 c.args.weights c.requires.group.members told.2)

pub returns-in-Err-clause-plain : goal.returns-in-Err-clause-plain
returns-in-Err-clause-plain c = λ large.
    fault_plain (symbol_of c.args.jahn.now) (In c.args.group.now) c.args.weights c.in-Err.fault c.in-Err.ensures large

pub returns-in-Err-clause-shape : goal.returns-in-Err-clause-shape
returns-in-Err-clause-shape c =
    fault_shape (symbol_of c.args.jahn.now) (In c.args.group.now) c.args.weights c.in-Err.fault _ refl c.in-Err.ensures

pub returns-in-Ok-clause-free : goal.returns-in-Ok-clause-free
returns-in-Ok-clause-free c =
    let j = symbol_of c.args.jahn.now in
    let v = c.in-Ok.table in
    let told = c.in-Ok.ensures in
    IfOk-weaker c.write_voigt.result _ _ (λ n is. (
      v.sizes,
      told.0,
      voigt_of v,
      voigt_same j (In c.args.group.now) (InGroup c.args.g.now) v.sizes c.args.weights (voigt_of v) c.requires.group.members told.1.2,
      is ∙ sym (length-map v.free (entry_at v.sizes)),
    )) c.write_voigt.ensures.free
