use Rattle.list_laws.proofs.Kit.{◌≡◌, ◌≢◌, ℕ, ◌<◌, ◌≤◌, false, List, ◌++◌, ◌∷◌, [], length, ap, sym, ◌∙◌, refl, subst, le_refl, get_or_default}
use Rattle.std.specs.Prelude.{slice_set}
use denote.Enum.Bare.{differs_true}
use Rattle.tensor_defs.specs.contracts.Sign.{the_type}
use Rattle.sign_moves.specs.declared.classes.Entry.{Entry}
use Rattle.sign_moves.specs.Prelude.{times, Moves, first_at, sign_at, item_at, IsStep}
use Rattle.sign_moves.proofs.EngineLaws.{step_joins, step_marks}
use Rattle.sign_moves.proofs.engine.step.Goals as goal

pub returns-then-here-there : goal.returns-then-here-there
returns-then-here-there g c =
    let n : ℕ = g.M.Moves.size c.args.moves.now in
    let m : Moves = g.M.Moves.moves c.args.moves.now in
    let es : List Entry = c.args.table.now in
    let q : List ℕ = c.args.queue.now.items in
    let item : ℕ = item_at q c.args.head in
    let item_is : c.index.result.now ≡ item = c.index.ensures ∙ get_or_default q c.args.head _ _ c.requires.head in
    let next_is : c.carry-next.result.0 ≡ m.carried c.args.place item = c.carry-next.ensures.component ∙ ap (m.carried c.args.place) item_is in
    let sign_is : c.carry-next.result.1 ≡ m.sign c.args.place item = c.carry-next.ensures.sign ∙ ap (m.sign c.args.place) item_is in
    let later : first_at es item < first_at es c.carry-next.result.0 = subst (λ (x : ℕ). first_at es x < first_at es c.carry-next.result.0) item_is c.if-here-there.true in
    let e : Entry = record { first = first_at es c.index.result.now; sign = c.times.result; vanishes = false } in
    let items : c.push.new.self.items ≡ q ++ c.carry-next.result.0 ∷ [] = c.in_ok-push.ensures.items in
    subst (λ (p : List ℕ). IsStep n m es (slice_set es c.carry-next.result.0 e) c.args.root q p c.args.head c.args.place) (sym items)
    (step_joins c.requires.reversible c.requires.walk c.requires.head c.args.place c.requires.place c.carry-next.result.0 e next_is later (ap (first_at es) item_is)
    (c.times.ensures ∙ (λ i. times (sign_is i) (sign_at es (item_is i)))) refl)

pub returns-then-ne : goal.returns-then-ne
returns-then-ne g c =
    let m : Moves = g.M.Moves.moves c.args.moves.now in
    let es : List Entry = c.args.table.now in
    let q : List ℕ = c.args.queue.now.items in
    let item : ℕ = item_at q c.args.head in
    let item_is : c.index.result.now ≡ item = c.index.ensures ∙ get_or_default q c.args.head _ _ c.requires.head in
    let next_is : c.carry-next.result.0 ≡ m.carried c.args.place item = c.carry-next.ensures.component ∙ ap (m.carried c.args.place) item_is in
    let sign_is : c.carry-next.result.1 ≡ m.sign c.args.place item = c.carry-next.ensures.sign ∙ ap (m.sign c.args.place) item_is in
    let later : first_at es c.carry-next.result.0 ≤ first_at es item = subst (λ (x : ℕ). first_at es c.carry-next.result.0 ≤ first_at es x) item_is c.if-here-there.false in
    let falls : first_at es (m.carried c.args.place item) ≤ first_at es item = subst (λ (x : ℕ). first_at es x ≤ first_at es item) next_is later in
    let product : c.times-2.result ≡ times (m.sign c.args.place item) (sign_at es (m.carried c.args.place item)) = c.times-2.ensures ∙ (λ i. times (sign_is i) (sign_at es (next_is i))) in
    let differs : sign_at es item ≢ times (m.sign c.args.place item) (sign_at es (m.carried c.args.place item)) = λ e. differs_true the_type _ _ (sym c.ne.ensures ∙ c.if-ne.true) (ap (sign_at es) item_is ∙ e ∙ sym product) in
    let of_class : first_at es item ≡ c.args.root = c.requires.walk.of_class c.args.head (le_refl c.args.head) c.requires.head in
    let below : first_at es item < g.M.Moves.size c.args.moves.now = c.requires.walk.sound.below item (c.requires.walk.below c.args.head (le_refl c.args.head) c.requires.head) in
    let inside : c.args.root < length es = subst (λ (x : ℕ). c.args.root < x) (sym c.requires.walk.sound.len) (subst (λ (x : ℕ). x < g.M.Moves.size c.args.moves.now) of_class below) in
    step_marks c.requires.walk c.requires.head c.args.place c.requires.place falls differs _ inside refl refl refl
