use Rattle.std.proofs.Common.{rules, ◌≡◌, ◌<◌, ◌-◌, ◌+◌, ℕ, suc, length, get_or, List, arith, sym, subst}
use Rattle.jahn_grammar.specs.declared.Atom as tree
use Rattle.tensor_defs.specs.Jahn.{Atom, Symmetric, Antisymmetric, Bracketed}
use Rattle.jahn_grammar.specs.Trees.{atom_of}
use Rattle.jahn_grammar.proofs.AtomReads.{Grown, Entered-within, Entered-more, Entered-core, Grown-power_in, Grown-digit, Grown-symmetric, Grown-antisymmetric}
use Rattle.jahn_grammar.proofs.read.read_atom.Goals as goal
use Rattle.jahn_grammar.proofs.read.read_atom.Goals.{then-word-open-eq91, else-word-open-eq91}

pub bounds-word-depth : goal.bounds-word-depth
bounds-word-depth c = Entered-within _ _ c.loop-depth.invariant

pub overflow_add-depth : goal.overflow_add-depth
overflow_add-depth c =
    let lt : c.loop-depth.depth < length c.args.word.now = Entered-within _ _ c.loop-depth.invariant in
    search rules

pub loop-depth-smaller : goal.loop-depth-smaller
loop-depth-smaller c =
    let lt : c.loop-depth.depth < length c.args.word.now = Entered-within _ _ c.loop-depth.invariant in
    omega (arith, lt)

pub loop-depth-preserved : goal.loop-depth-preserved
loop-depth-preserved c = Entered-more _ _ c.loop-depth.invariant c.loop-depth-test.true

pub loop-open-init : goal.loop-open-init
loop-open-init c = Entered-core _ _ c.loop-depth.invariant c.loop-depth-test.false

step_down : (n : ℕ) → 0 < n → n ≡ suc (n - 1)
step_down n h = omega arith

inner : (word : List ℕ) (n at : ℕ) (a : Atom) → 0 < n → Grown word n at a → Grown word (suc (n - 1)) at a
inner word n at a some h = let P : ℕ → Type 0 = λ (k : ℕ). Grown word k at a in subst P (step_down n some) h

pub bounds-word-at : goal.bounds-word-at
bounds-word-at c = Grown-power_in _ _ _ _ (inner _ _ _ _ c.loop-open-test.true c.loop-open.invariant)

pub overflow_sub-power : goal.overflow_sub-power
overflow_sub-power c =
    let digit = Grown-digit _ _ _ _ (inner _ _ _ _ c.loop-open-test.true c.loop-open.invariant) in omega (arith, digit.0)

pub loop-open-preserved : goal.loop-open-preserved
loop-open-preserved c =
    let word = c.args.word.now in
    let i = c.loop-open.open - 1 in
    let at = c.loop-open.at in
    let h = inner word c.loop-open.open at (atom_of c.loop-open.atom) c.loop-open-test.true c.loop-open.invariant in
    let d = get_or word at 0 - 48 in
    let atom = c.loop-open.atom in
    let P : tree.Atom → Type 0 = λ (t : tree.Atom). Grown word i (at + 2) (atom_of t) in
    elim c.if-word-open-eq91.branch [
      | then-word-open-eq91 w ↦ subst P (sym w.atom-is) (
          let Q : tree.Atom → Type 0 = λ (t : tree.Atom). Grown word i (at + 2) (Bracketed Symmetric (atom_of t) d) in
          subst Q (sym c.in_ok-blocks.ensures.ok) (Grown-symmetric word i at (atom_of atom) h w.if-word-open-eq91.true)
          )
      | else-word-open-eq91 w ↦ subst P (sym w.atom-is) (
          let Q : tree.Atom → Type 0 = λ (t : tree.Atom). Grown word i (at + 2) (Bracketed Antisymmetric (atom_of t) d) in
          subst Q (sym c.in_ok-blocks.ensures.ok) (Grown-antisymmetric word i at (atom_of atom) h w.if-word-open-eq91.false)
          )
    ]
