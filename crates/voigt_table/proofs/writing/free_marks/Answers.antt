use Rattle.std.proofs.Common.{◌≡◌, ℕ, zero, suc, false, arith, length, get_or, map, replicate, refl, ap, sym, subst}
use Rattle.form_lines.proofs.TextLaws.{IsMarkedUpTo, marks_start}
use Rattle.voigt_table.specs.Blocks.{sizes_of}
use Rattle.voigt_table.specs.Tables.{IsVoigtValue, VoigtValue}
use Rattle.voigt_table.proofs.KeptLaws.{kept_whole}
use Rattle.voigt_table.proofs.TextLaws.{marks_done}
use Rattle.voigt_table.proofs.writing.free_marks.Goals as goal

none_marked : (n k : ℕ) → get_or (replicate n false) k false ≡ false
none_marked zero k = refl
none_marked (suc n) zero = refl
none_marked (suc n) (suc k) = none_marked n k

pub loop-place-init : goal.loop-place-init
loop-place-init c = record { marks = marks_start 36 c.args.table.now.free (replicate 36 false) refl (none_marked 36) }

pub returns : goal.returns
returns c =
    let v : VoigtValue = c.args.table.now in
    let t = c.table.inside in
    let sizes : v.sizes ≡ sizes_of t.blocks = ap (λ x. x.sizes) (sym c.table.view_is) in
    let whole : IsVoigtValue v =
    subst (λ (x : VoigtValue). IsVoigtValue x) c.table.view_is
    (kept_whole t.blocks t.weights t.free.items (map (λ row. row.items) t.rows.items) c.table.invariant) in
    let stop : c.loop-place.place ≡ length v.free = omega (arith, c.loop-place-test.false, c.free_count-place-end.ensures) in
    marks_done t.blocks v c.loop-place.marks sizes whole.below
    (subst (λ (p : ℕ). IsMarkedUpTo 36 v.free p c.loop-place.marks) stop c.loop-place.invariant.marks)
