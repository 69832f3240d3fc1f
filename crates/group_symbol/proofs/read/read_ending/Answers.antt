use Rattle.std.proofs.Common.{◌≡◌, ◌≢◌, ◌∙◌, ◌<◌, sym, arith, length, get_or, Bool, true, false, take, drop, ◌-◌}
use Rattle.std.proofs.lemmas.List.{take_all, length-drop}
use Rattle.text_defs.specs.Languages.{IsFaulty}
use Rattle.fault_places.proofs.Places.{Through-faulty}
use Rattle.group_symbol.specs.Parts.{IsSuffixText, IsEndingText}
use Rattle.group_symbol.proofs.Endings.{grey_wrong, grey_through, not_grey}
use Rattle.group_symbol.proofs.read.read_ending.Goals as goal
use Rattle.group_symbol.proofs.read.read_ending.Goals.{then-word-lt2-via-then-word-lt2, then-word-lt2-via-else-word-lt2+then-word-ne39, else-plain-via-then-plain+then-word-ge1+else-word-eq49, else-plain-via-then-plain+else-word-ge1, else-plain-via-else-plain}

pub returns-then-word-lt2 : goal.returns-then-word-lt2
returns-then-word-lt2 c =
    let wrong : 1 < length c.args.word.now → get_or c.args.word.now 1 0 ≢ 39 = λ lt. elim c.then-word-lt2.branch [ then-word-lt2-via-then-word-lt2 w ↦ absurd (omega arith) | then-word-lt2-via-else-word-lt2+then-word-ne39 w ↦ w.if-word-ne39.true ] in
    rw c.if-plain.true (grey_wrong c.args.parent c.args.word.now (omega arith) c.if-word-eq49.true wrong)

pub returns-in-Err : goal.returns-in-Err
returns-in-Err c =
    let rest : take (length c.args.word.now - 2) (drop 2 c.args.word.now) ≡ drop 2 c.args.word.now = take_all (length c.args.word.now - 2) (drop 2 c.args.word.now) (omega (arith, length-drop 2 c.args.word.now)) in
    let faulty : IsFaulty (IsSuffixText c.args.parent) (take (length c.args.word.now - 2) (drop 2 c.args.word.now)) c.in-Err.fault.place = c.in-Err.ensures in
    rw c.if-plain.true (Through-faulty (IsEndingText c.args.parent true) (IsSuffixText c.args.parent) c.args.word.now 2 c.in-Err.fault.place (grey_through c.args.parent c.args.word.now (omega arith) c.if-word-eq49.true c.if-word-ne39.false) (rw rest at faulty))

clash : (b : Bool) → b ≡ true → b ≡ false → ⊥
clash b t f = let e : true ≡ false = sym t ∙ f in cc

pub returns-in-Err-read_suffix : goal.returns-in-Err-read_suffix
returns-in-Err-read_suffix c = not_grey c.args.parent c.args.plain c.args.word.now (λ plain some. elim c.else-plain.branch [
  | else-plain-via-then-plain+then-word-ge1+else-word-eq49 w ↦ w.if-word-eq49.false
  | else-plain-via-then-plain+else-word-ge1 w ↦ absurd (omega arith)
  | else-plain-via-else-plain w ↦ absurd (clash c.args.plain plain w.if-plain.false)
]) c.in-Err-read_suffix.fault.place c.in-Err-read_suffix.ensures
