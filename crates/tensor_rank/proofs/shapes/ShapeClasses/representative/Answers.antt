use Rattle.std.proofs.Common.{◌≡◌, ℕ, ◌<◌, length, List, ap, sym, ◌∙◌, subst}
use Rattle.sign_moves.specs.declared.classes.Entry.{Entry}
use Rattle.sign_moves.specs.Prelude.{entry_at, first_at, sign_at, IsClassTable, IsReversible, times}
use Rattle.tensor_rank.specs.Prelude.{exchange_moves, before_at, IsFirstBelow}
use Rattle.tensor_rank.proofs.ExchangeLaws.{exchanges_reversible}
use Rattle.tensor_rank.proofs.ShapeLaws.{shape_told, root_own, ShapeTells, entry_is, first_of_below, none_told, some_told}
use Rattle.tensor_rank.proofs.shapes.ShapeClasses.representative.Goals as goal

pub returns-then-index : goal.returns-then-index
returns-then-index g c j s =
    let n = g.R.Rank.LEN in
    let r = g.R.Rank.R in
    let xs = c.self.inside.shape.now.exchanges in
    let table : List Entry = c.self.inside.table.items in
    let classes : IsClassTable n (exchange_moves r xs) table = c.self.invariant.1 in
    let back : IsReversible n (exchange_moves r xs) = exchanges_reversible n r xs g.R.Rank.power c.self.invariant.0 in
    let below : c.args.c < n = subst (λ (x : ℕ). x < n) c.number.ensures.same c.number.ensures.in_range in
    let told : ShapeTells j n r table c.args.c =
    shape_told n r xs table g.R.Rank.power c.self.invariant.0 back classes j s.rank_is (ap (λ s. s.exchanges) c.self.view_is ∙ s.exchanges_are) c.args.c below in
    let inside : c.number.result < length table = subst (λ (x : ℕ). c.number.result < x) (sym classes.sound.len) c.number.ensures.in_range in
    let entry : c.index-entry.result.now ≡ entry_at table c.args.c =
    entry_is table c.number.result c.index-entry.result.now c.index-entry.ensures inside ∙ ap (entry_at table) c.number.ensures.same in
    let root : c.index-entry.result.now.first ≡ first_at table c.args.c = ap (λ e. e.first) entry in
    let root_in : first_at table c.args.c < length table = subst (λ (x : ℕ). first_at table c.args.c < x) (sym classes.sound.len) (classes.sound.below c.args.c below) in
    let there : c.index.result.now ≡ entry_at table (first_at table c.args.c) =
    entry_is table c.index-entry.result.now.first c.index.result.now c.index.ensures (subst (λ (x : ℕ). x < length table) (sym root) root_in) ∙ ap (entry_at table) root in
    none_told told c.args.order.now (sym (ap (λ e. e.vanishes) there) ∙ c.if-index.true)

pub first_of_class-first-requires-clause-root : goal.first_of_class-first-requires-clause-root
first_of_class-first-requires-clause-root g c =
    let n = g.R.Rank.LEN in
    let r = g.R.Rank.R in
    let xs = c.self.inside.shape.now.exchanges in
    let table : List Entry = c.self.inside.table.items in
    let classes : IsClassTable n (exchange_moves r xs) table = c.self.invariant.1 in
    let back : IsReversible n (exchange_moves r xs) = exchanges_reversible n r xs g.R.Rank.power c.self.invariant.0 in
    let below : c.args.c < n = subst (λ (x : ℕ). x < n) c.number.ensures.same c.number.ensures.in_range in
    let inside : c.number.result < length table = subst (λ (x : ℕ). c.number.result < x) (sym classes.sound.len) c.number.ensures.in_range in
    let entry : c.index-entry.result.now ≡ entry_at table c.args.c =
    entry_is table c.number.result c.index-entry.result.now c.index-entry.ensures inside ∙ ap (entry_at table) c.number.ensures.same in
    let root : c.at.result ≡ first_at table c.args.c = c.at.ensures ∙ ap (λ e. e.first) entry in
    subst (λ (es : List Entry). first_at es c.at.result ≡ c.at.result) (sym c.deref.ensures.value)
    (ap (first_at table) root ∙ root_own n (exchange_moves r xs) table back classes c.args.c below ∙ sym root)

pub returns : goal.returns
returns g c j s =
    let n = g.R.Rank.LEN in
    let r = g.R.Rank.R in
    let xs = c.self.inside.shape.now.exchanges in
    let table : List Entry = c.self.inside.table.items in
    let classes : IsClassTable n (exchange_moves r xs) table = c.self.invariant.1 in
    let back : IsReversible n (exchange_moves r xs) = exchanges_reversible n r xs g.R.Rank.power c.self.invariant.0 in
    let below : c.args.c < n = subst (λ (x : ℕ). x < n) c.number.ensures.same c.number.ensures.in_range in
    let told : ShapeTells j n r table c.args.c =
    shape_told n r xs table g.R.Rank.power c.self.invariant.0 back classes j s.rank_is (ap (λ s. s.exchanges) c.self.view_is ∙ s.exchanges_are) c.args.c below in
    let inside : c.number.result < length table = subst (λ (x : ℕ). c.number.result < x) (sym classes.sound.len) c.number.ensures.in_range in
    let entry : c.index-entry.result.now ≡ entry_at table c.args.c =
    entry_is table c.number.result c.index-entry.result.now c.index-entry.ensures inside ∙ ap (entry_at table) c.number.ensures.same in
    let root : c.index-entry.result.now.first ≡ first_at table c.args.c = ap (λ e. e.first) entry in
    let root_in : first_at table c.args.c < length table = subst (λ (x : ℕ). first_at table c.args.c < x) (sym classes.sound.len) (classes.sound.below c.args.c below) in
    let there : c.index.result.now ≡ entry_at table (first_at table c.args.c) =
    entry_is table c.index-entry.result.now.first c.index.result.now c.index.ensures (subst (λ (x : ℕ). x < length table) (sym root) root_in) ∙ ap (entry_at table) root in
    let first : IsFirstBelow n table (before_at r c.args.order.now) (first_at table c.args.c) c.first_of_class-first.result n =
    subst (λ (x : ℕ). IsFirstBelow n table (before_at r c.args.order.now) x c.first_of_class-first.result n) (c.at.ensures ∙ root)
    (subst (λ (es : List Entry). IsFirstBelow n es (before_at r c.args.order.now) c.at.result c.first_of_class-first.result n) c.deref.ensures.value c.first_of_class-first.ensures) in
    let second_in : c.number-2.result < length table = subst (λ (x : ℕ). c.number-2.result < x) (sym classes.sound.len) c.number-2.ensures.in_range in
    let second : c.index-2.result.now ≡ entry_at table c.first_of_class-first.result =
    entry_is table c.number-2.result c.index-2.result.now c.index-2.ensures second_in ∙ ap (entry_at table) c.number-2.ensures.same in
    let sign : c.times-sign.result ≡ times (sign_at table c.args.c) (sign_at table c.first_of_class-first.result) =
    c.times-sign.ensures ∙ (λ i. times ((entry i).sign) ((second i).sign)) in
    some_told told c.args.order.now (sym (ap (λ e. e.vanishes) there) ∙ c.if-index.false) c.first_of_class-first.result c.times-sign.result (first_of_below first sign)
