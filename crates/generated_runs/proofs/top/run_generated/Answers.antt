use Rattle.std.proofs.Common.{◌∙◌, List, ℕ, subst}
use Rattle.tensor_ports.specs.Bytes.{GrowsInPart}
use Rattle.generated_runs.proofs.top.run_generated.Goals as goal

pub returns-clause-leaves : goal.returns-clause-leaves
returns-clause-leaves g c =
    let made = c.in-Ok.ensures in (
      made.0,
      made.1,
      subst
          (λ (bs : List ℕ). GrowsInPart (g.O.Sink.written c.args.sink.now) (g.O.Sink.written c.write_all_of.new.sink) bs)
          (c.deref.ensures.value ∙ c.in-Ok-summary.ensures made.0 made.2) c.in-Err.ensures.part,
    )
