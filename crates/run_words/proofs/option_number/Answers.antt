use Rattle.std.proofs.Common.{◌∙◌, sym}
use Rattle.clap.specs.Words.{found_of, rows_of}
use Rattle.clap.proofs.WalkLemmas.{first_value-rows}
use Rattle.run_words.proofs.Numbers.{none_at, no_number_at}
use Rattle.run_words.proofs.option_number.Goals as goal

pub returns-in-None : goal.returns-in-None
returns-in-None c =
    let f = found_of c.args.matches.now in
    none_at (rows_of f) c.args.id.now (sym (first_value-rows f c.args.id.now) ∙ sym c.in-None.ensures)

pub returns-in-None-read_number : goal.returns-in-None-read_number
returns-in-None-read_number c =
    let f = found_of c.args.matches.now in
    no_number_at (rows_of f) c.args.id.now c.in-Some.text.now
    (sym (first_value-rows f c.args.id.now) ∙ sym c.in-Some.ensures) c.in-None-read_number.ensures

pub returns-in-Some-read_number : goal.returns-in-Some-read_number
returns-in-Some-read_number c =
    let f = found_of c.args.matches.now in
    record {
      text = c.in-Some.text.now;
      given = sym (first_value-rows f c.args.id.now) ∙ sym c.in-Some.ensures;
      is = c.in-Some-read_number.ensures;
    }
