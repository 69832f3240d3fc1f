use Rattle.generated_runs.proofs.Counting.{summary_is}
use Rattle.generated_runs.proofs.counts.Counts.summary.Goals as goal

pub returns : goal.returns
returns c = λ os are.
    summary_is c.args.lines os c.args.self.now c.new-text.result.items c.write_entry.new.out.items
    c.write_entries.new.out.items c.write_entries-2.new.out.items c.write_entry-2.new.out.items
    c.write_entry-3.new.out.items are c.new-text.ensures.items c.in_ok-write_entry.ensures
    c.in_ok-write_entries.ensures c.in_ok-write_entries-2.ensures c.in_ok-write_entry-2.ensures
    c.in_ok-write_entry-3.ensures
