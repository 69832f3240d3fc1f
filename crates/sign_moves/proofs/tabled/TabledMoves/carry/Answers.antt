use Rattle.list_laws.proofs.Kit.{rules, ◌≡◌, ℕ, ◌<◌, length, map, List, [], ap, sym, ◌∙◌, subst, get_or-map, get_or_default, length-map}
use Rattle.sign_moves.specs.Prelude.{Moves, IsStepRow, IsTabled, step_at, steps_at}
use Rattle.sign_moves.specs.declared.tabled.Step.{Step}
use Rattle.sign_moves.proofs.tabled.TabledMoves.carry.Goals as goal

pub index-step-requires : goal.index-step-requires
index-step-requires g c =
    let m : Moves = g.M.Moves.moves c.args.self.now.moves.now in
    let told : IsTabled (g.M.Moves.size c.args.self.now.moves.now) m (map (λ row. row.items) c.args.self.now.rows.items) = c.args.self.now.told in
    let inside : c.args.place < length c.args.self.now.rows.items = subst (λ (n : ℕ). c.args.place < n) (sym told.len ∙ length-map c.args.self.now.rows.items (λ row. row.items)) c.requires.place in
    let here : steps_at (map (λ row. row.items) c.args.self.now.rows.items) c.args.place ≡ c.index.result.now.items = get_or-map (λ row. row.items) c.args.self.now.rows.items c.args.place c.index.result.now [] inside ∙ ap (λ row. row.items) (sym c.index.ensures) in
    let row : IsStepRow (g.M.Moves.size c.args.self.now.moves.now) m c.args.place c.index.result.now.items = subst (λ (xs : List Step). IsStepRow (g.M.Moves.size c.args.self.now.moves.now) m c.args.place xs) here (told.each c.args.place c.requires.place) in
    let len : length c.index.result.now.items ≡ g.M.Moves.size c.args.self.now.moves.now = row.len in
    search rules

pub returns-clause-component : goal.returns-clause-component
returns-clause-component g c =
    let m : Moves = g.M.Moves.moves c.args.self.now.moves.now in
    let told : IsTabled (g.M.Moves.size c.args.self.now.moves.now) m (map (λ row. row.items) c.args.self.now.rows.items) = c.args.self.now.told in
    let inside : c.args.place < length c.args.self.now.rows.items = subst (λ (n : ℕ). c.args.place < n) (sym told.len ∙ length-map c.args.self.now.rows.items (λ row. row.items)) c.requires.place in
    let here : steps_at (map (λ row. row.items) c.args.self.now.rows.items) c.args.place ≡ c.index.result.now.items = get_or-map (λ row. row.items) c.args.self.now.rows.items c.args.place c.index.result.now [] inside ∙ ap (λ row. row.items) (sym c.index.ensures) in
    let row : IsStepRow (g.M.Moves.size c.args.self.now.moves.now) m c.args.place c.index.result.now.items = subst (λ (xs : List Step). IsStepRow (g.M.Moves.size c.args.self.now.moves.now) m c.args.place xs) here (told.each c.args.place c.requires.place) in
    let to : (step_at c.index.result.now.items c.args.c).to ≡ m.carried c.args.place c.args.c = row.to c.args.c c.requires.component in
    let len : length c.index.result.now.items ≡ g.M.Moves.size c.args.self.now.moves.now = row.len in
    let short : c.args.c < length c.index.result.now.items = subst (λ (n : ℕ). c.args.c < n) (sym len) c.requires.component in
    ap (λ x. x.to) (c.index-step.ensures ∙ get_or_default c.index.result.now.items c.args.c _ _ short) ∙ to

pub returns-clause-sign : goal.returns-clause-sign
returns-clause-sign g c =
    let m : Moves = g.M.Moves.moves c.args.self.now.moves.now in
    let told : IsTabled (g.M.Moves.size c.args.self.now.moves.now) m (map (λ row. row.items) c.args.self.now.rows.items) = c.args.self.now.told in
    let inside : c.args.place < length c.args.self.now.rows.items = subst (λ (n : ℕ). c.args.place < n) (sym told.len ∙ length-map c.args.self.now.rows.items (λ row. row.items)) c.requires.place in
    let here : steps_at (map (λ row. row.items) c.args.self.now.rows.items) c.args.place ≡ c.index.result.now.items = get_or-map (λ row. row.items) c.args.self.now.rows.items c.args.place c.index.result.now [] inside ∙ ap (λ row. row.items) (sym c.index.ensures) in
    let row : IsStepRow (g.M.Moves.size c.args.self.now.moves.now) m c.args.place c.index.result.now.items = subst (λ (xs : List Step). IsStepRow (g.M.Moves.size c.args.self.now.moves.now) m c.args.place xs) here (told.each c.args.place c.requires.place) in
    let sign : (step_at c.index.result.now.items c.args.c).sign ≡ m.sign c.args.place c.args.c = row.sign c.args.c c.requires.component in
    let len : length c.index.result.now.items ≡ g.M.Moves.size c.args.self.now.moves.now = row.len in
    let short : c.args.c < length c.index.result.now.items = subst (λ (n : ℕ). c.args.c < n) (sym len) c.requires.component in
    ap (λ x. x.sign) (c.index-step.ensures ∙ get_or_default c.index.result.now.items c.args.c _ _ short) ∙ sign
