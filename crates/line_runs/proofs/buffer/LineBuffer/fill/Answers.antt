use Rattle.std.proofs.Common.{◌≡◌, ◌+◌, ◌-◌, ◌≤◌, ◌∙◌, ◌++◌, ap, length, arith, take, drop, List, ℕ, length-drop, length-take, sym}
use Rattle.std.proofs.lemmas.List.{length-take-le}
use Rattle.line_runs.proofs.Cuts.{moved, filled, kept}
use Rattle.line_runs.proofs.buffer.LineBuffer.fill.Goals as goal

pub read-requires : goal.read-requires
read-requires g c =
    let inside = c.self.inside in
    let end = inside.end - inside.start in
    let held : length c.args.self.now ≡ end =
    ap length (sym c.self.view_is) ∙ (let it : length (drop inside.start (take inside.end inside.bytes.items)) ≡ end = omega (arith, length-drop inside.start (take inside.end inside.bytes.items), length-take inside.end inside.bytes.items) in it) in
    let size : length c.deref_mut.result.now ≡ 4001 = omega arith in
    let part = drop end c.deref_mut.result.now in
    let same : end + c.min.result - end ≡ c.min.result = omega arith in
    omega (arith, length-take (end + c.min.result - end) part, length-drop end c.deref_mut.result.now)

pub returns-in-Ok-clause-added : goal.returns-in-Ok-clause-added
returns-in-Ok-clause-added g c =
    let inside = c.self.inside in
    let end = inside.end - inside.start in
    let xs = c.deref_mut.result.now in
    let ys = c.read.new.into in
    let count = c.in-Ok.count in
    let room = end + c.min.result - end in
    let size : length xs ≡ 4001 = omega arith in
    let read_size : length ys ≡ room = omega (arith, length-take room (drop end xs), length-drop end xs) in
    let fits : count ≤ length ys = c.in-Ok.ensures.bound.0 in
    let front : take end xs ≡ c.args.self.now =
    ap (λ (l : List ℕ). take end l) c.deref_mut.ensures.value ∙ moved inside.bytes.items c.copy_within.new.self.items inside.start inside.end (omega arith) (omega arith) c.copy_within.ensures.items ∙ c.self.view_is in (
      take count ys,
      length-take-le count ys fits,
      filled xs ys c.copy_within.new.self.items end room c.copy_within.new.self.len count (omega arith) (omega arith) read_size (omega arith) ∙ ap (λ (l : List ℕ). l ++ take count ys) front,
      c.in-Ok.ensures.bytes.0,
    )

pub returns-in-Err-clause-err : goal.returns-in-Err-clause-err
returns-in-Err-clause-err g c =
    let inside = c.self.inside in
    let end = inside.end - inside.start in
    let xs = c.deref_mut.result.now in
    let ys = c.read.new.into in
    let room = end + c.min.result - end in
    let size : length xs ≡ 4001 = omega arith in
    let read_size : length ys ≡ room = omega (arith, length-take room (drop end xs), length-drop end xs) in
    let front : take end xs ≡ c.args.self.now =
    ap (λ (l : List ℕ). take end l) c.deref_mut.ensures.value ∙ moved inside.bytes.items c.copy_within.new.self.items inside.start inside.end (omega arith) (omega arith) c.copy_within.ensures.items ∙ c.self.view_is in (
      kept xs ys c.copy_within.new.self.items end room c.copy_within.new.self.len (omega arith) (omega arith) read_size ∙ front,
      c.in-Err.ensures.bytes,
    )
