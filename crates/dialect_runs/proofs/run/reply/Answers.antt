use Rattle.std.proofs.Common.{ℕ, Vec, Global, refl}
use Rattle.std.specs.Prelude.{map, string_bytes}
use Rattle.tool_runs.specs.declared.refusals.RefusalName.TheVariants as name
use Rattle.tool_runs.specs.declared.runs.Kind.{Kind}
use Rattle.dialect_runs.proofs.Runs.{answered_run, refused_run, refuses_second}
use Rattle.dialect_runs.proofs.run.reply.Goals as goal

pub returns-in-Some-first_long : goal.returns-in-Some-first_long
returns-in-Some-first_long c =
    refused_run (λ (x : Kind × Vec ℕ Global). x.0) (λ (x : Kind × Vec ℕ Global). x.1.items) (map string_bytes c.args.words.now)
    (record { word = c.in-Some-first_long.word; column = 4001; name = name.Long }) c.refused.result
    (c.in-Some.to, c.in-Some.symbol.now, c.in-Some.ensures) (c.in-Some-first_long.ensures, refl) c.refused.ensures

pub returns-in-Ok : goal.returns-in-Ok
returns-in-Ok c =
    answered_run (map string_bytes c.args.words.now) c.in-Some.to c.in-Some.symbol.now c.in-Ok.text.items c.in_default-first_long.ensures
    c.in-Some.ensures (rw c.in-Ok.is at c.in_ok-text.ensures)

pub returns-in-Err : goal.returns-in-Err
returns-in-Err c =
    refused_run (λ (x : Kind × Vec ℕ Global). x.0) (λ (x : Kind × Vec ℕ Global). x.1.items) (map string_bytes c.args.words.now)
    (record { word = 2; column = c.in-Err.fault.column; name = c.in-Err.fault.name }) c.refused-in-Err.result
    (c.in-Some.to, c.in-Some.symbol.now, c.in-Some.ensures)
    (refuses_second (map string_bytes c.args.words.now) c.in-Some.to c.in-Some.symbol.now c.in-Err.fault.name c.in-Err.fault.column
    c.in_default-first_long.ensures c.in-Some.ensures (rw c.in-Err.is at c.in_ok-text.ensures)) c.refused-in-Err.ensures
