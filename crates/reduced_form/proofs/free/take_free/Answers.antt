use Rattle.list_laws.proofs.Kit.{◌≡◌, ℕ, ◌+◌, ◌<◌, ◌≤◌, List, length, false, true, sym, ◌∙◌, subst, ap, insert}
use Rattle.constraint_rows.proofs.GatherLaws.{order_total}
use Rattle.sign_moves.specs.Classes.{first_at, vanishes_at}
use Rattle.tensor_rank.specs.Orders.{before_at}
use Rattle.reduced_form.specs.Forms.{IsFreeUpTo, free_at}
use Rattle.reduced_form.proofs.FreeLaws.{class_some, free_inserted}
use Rattle.reduced_form.proofs.free.take_free.Goals as goal

pub returns-then-number-c-clause-free : goal.returns-then-number-c-clause-free
returns-then-number-c-clause-free g c =
    let n = g.R.Rank.LEN in
    let before = before_at g.R.Rank.R c.args.order.now in
    let free : List ℕ = c.args.free.now.items in
    let place : ℕ = c.place_for-place.result in
    let lent : c.deref.result.now ≡ free = c.deref.ensures.value in
    let within : place ≤ length free = subst (λ (xs : List ℕ). place ≤ length xs) lent c.place_for-place.ensures.within in
    let after : (k : ℕ) → place ≤ k → k < length free → before c.args.c (free_at free k) ≡ true = subst (λ (xs : List ℕ). (k : ℕ) → place ≤ k → k < length xs → before c.args.c (free_at xs k) ≡ true) lent c.place_for-place.ensures.after in
    let stops : (k : ℕ) → k + 1 ≡ place → before c.args.c (free_at free k) ≡ false = subst (λ (xs : List ℕ). (k : ℕ) → k + 1 ≡ place → before c.args.c (free_at xs k) ≡ false) lent c.place_for-place.ensures.before in
    let told = class_some c.args.classes.now c.at.result _ (sym c.in-Some.ensures) in
    let open_c : vanishes_at c.args.classes.now c.args.c ≡ false = ap (vanishes_at c.args.classes.now) (sym c.at.ensures) ∙ told.0 in
    let first_c : first_at c.args.classes.now c.args.c ≡ c.args.c = ap (first_at c.args.classes.now) (sym c.at.ensures) ∙ told.1 ∙ sym c.number.ensures.same ∙ c.if-number-c.true in
    let items : c.put_free.new.free.items ≡ insert free place c.args.c = c.in_ok-put_free.ensures in
    subst (λ (xs : List ℕ). IsFreeUpTo n before c.args.classes.now xs (c.args.c + 1)) (sym items)
    (free_inserted c.requires.free c.requires.component open_c first_c (order_total n g.R.Rank.R g.R.Rank.power c.args.order.now) place within after stops)
