use Rattle.std.specs.Prelude.{codes}
use Rattle.std.specs.Fmt.{decimal}
use Rattle.differ_answers.proofs.TextLaws.{front_written}
use Rattle.differ_answers.proofs.headers.write_front.Goals as goal

pub returns-clause-ok : goal.returns-clause-ok
returns-clause-ok c =
    front_written (codes "state") (decimal c.args.number) (codes "differs") (decimal c.args.marked) (codes "of") (decimal c.args.all)
    c.args.out.now.items c.append_to.new.out.items c.write_number.new.out.items c.append_to-2.new.out.items
    c.write_number-2.new.out.items c.append_to-3.new.out.items c.write_number-3.new.out.items c.append_to-4.new.out.items
    c.in_ok-append_to.ensures.ok c.in_ok-write_number.ensures.ok c.in_ok-append_to-2.ensures.ok c.in_ok-write_number-2.ensures.ok
    c.in_ok-append_to-3.ensures.ok c.in_ok-write_number-3.ensures.ok c.in_ok-append_to-4.ensures.ok
