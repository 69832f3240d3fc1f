use Rattle.list_laws.proofs.Kit.{◌≡◌, ◌<◌, ◌≤◌, ℕ, List, length, true, arith, rules, inl, inr, subst, cases_lt}
use Rattle.tensor_defs.specs.Tensor.{index_of}
use Rattle.tensor_rank.specs.Prelude.{Ordering, before_at, orders_are_orders}
use Rattle.reduced_form.specs.Forms.{free_at}
use Rattle.reduced_form.proofs.free.place_for.Goals as goal

-- what comes before one of rising components comes before all behind it
before_rest : (r : ℕ) (o : Ordering) (free : List ℕ) (c place : ℕ) →
    ((i k : ℕ) → i < k → k < length free → before_at r o (free_at free i) (free_at free k) ≡ true) →
    before_at r o c (free_at free place) ≡ true → (k : ℕ) → place ≤ k → k < length free → before_at r o c (free_at free k) ≡ true
before_rest r o free c place rising hit k l m = elim (cases_lt place k) as (λ _. before_at r o c (free_at free k) ≡ true) [
  | inl p ↦ (orders_are_orders r o).transitive (index_of r c) (index_of r (free_at free place)) (index_of r (free_at free k)) hit (rising place k p m)
  | inr p ↦
      let same : place ≡ k = omega arith in
      subst (λ (x : ℕ). before_at r o c (free_at free x) ≡ true) same hit
]

pub returns-then-place-near-clause-after : goal.returns-then-place-near-clause-after
returns-then-place-near-clause-after g c =
    let inside : c.loop-place.place < c.args.near = search rules in
    before_rest g.R.Rank.R c.args.order.now c.args.free.now c.args.c c.loop-place.place c.requires.rising
    (c.loop-place.invariant.after inside)

pub returns-else-not-before-clause-after : goal.returns-else-not-before-clause-after
returns-else-not-before-clause-after g c =
    let hit : before_at g.R.Rank.R c.args.order.now c.args.c (free_at c.args.free.now c.loop-place-2.place) ≡ true = cc in
    before_rest g.R.Rank.R c.args.order.now c.args.free.now c.args.c c.loop-place-2.place c.requires.rising hit
