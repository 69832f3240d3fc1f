-- Laws of states that are told apart.
--   ElementsAreFree    each element of the two states tells them apart by the same tensor
--   IsEquivalence, SameIsEquivalence    not to be told apart is an equivalence of the states of a group that holds the
--                      identity
use Rattle.std.specs.Prelude.{ℕ, Contains, List}
use Rattle.tensor_defs.specs.Prelude.{JahnSymbol, rank, Operation, identity, Agree, act}
use Rattle.species.specs.Species.{AreToldApart, InState, IsNumber}

abbrev pub ElementsAreFree : Type 0
ElementsAreFree =
    (j : JahnSymbol) (fs reps : List Operation) (k l : ℕ) (a : AreToldApart j (λ f. Contains fs f) reps k l) (g h : Operation) →
    InState (λ f. Contains fs f) reps k g → InState (λ f. Contains fs f) reps l h →
    ¬ Agree (rank j) (act j.marks g a.tensor) (act j.marks h a.tensor)

pub record IsEquivalence (j : JahnSymbol) (F : Operation → Type 0) (reps : List Operation) : Type 0 where
  pub own : (k : ℕ) → ¬ AreToldApart j F reps k k
  pub back : (k l : ℕ) → ¬ AreToldApart j F reps k l → ¬ AreToldApart j F reps l k
  pub joined : (k l m : ℕ) → IsNumber reps l → ¬ AreToldApart j F reps k l → ¬ AreToldApart j F reps l m →
      ¬ AreToldApart j F reps k m

abbrev pub SameIsEquivalence : Type 0
SameIsEquivalence =
    (j : JahnSymbol) (fs reps : List Operation) → Contains fs identity → IsEquivalence j (λ f. Contains fs f) reps
