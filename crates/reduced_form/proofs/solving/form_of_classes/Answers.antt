use Rattle.std.proofs.Common.{◌≡◌, ℕ, ◌<◌, List, length, sym, subst}
use Rattle.constraint_rows.proofs.GatherLaws.{order_total}
use Rattle.reduced_form.specs.Forms.{free_at}
use Rattle.reduced_form.proofs.FreeLaws.{free_apart}
use Rattle.reduced_form.proofs.solving.form_of_classes.Goals as goal

pub places_of-requires-clause-apart : goal.places_of-requires-clause-apart
places_of-requires-clause-apart g c =
    subst (λ (xs : List ℕ). (i k : ℕ) → i < length xs → k < length xs → free_at xs i ≡ free_at xs k → i ≡ k)
    (sym c.deref.ensures.value) (free_apart (order_total g.R.Rank.LEN g.R.Rank.R g.R.Rank.power c.args.order.now).apart c.in_ok-free.ensures)
