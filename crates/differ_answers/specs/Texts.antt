-- The texts of states, piece by piece.
--   named_terms     the terms of a row with the names of their free components
--   gap             what stands before the name at a place: a space, but for the first
--   AreNamed        the terms of each row name free components
--   marked_below, marked_indices    the components of the numbers below a bound, or all, that differ
--   marked_text     the equation of the component of a number, if it differs
-- Source: this project's own.
use Rattle.std.specs.Prelude.{ℕ, zero, suc, ◌<◌, ◌^◌, cond, List, [], ◌∷◌, ◌++◌, map}
use Rattle.tensor_defs.specs.Prelude.{Each, Index, index_of}
use Rattle.text_defs.specs.Prelude.{component_name, equation, NamedTerm}
use Rattle.reduced_form.specs.Forms.{FormValue, free_at}
use Rattle.state_marks.specs.declared.rows.RootTerm.{RootTerm}
use Rattle.state_marks.specs.Told.{StateValue, mark_at, row_at}

abbrev pub named_terms : ℕ → FormValue → List RootTerm → List NamedTerm
named_terms r f ts = map (λ t. record { factor = t.factor; name = component_name (index_of r (free_at f.free t.free)) }) ts

abbrev pub gap : ℕ → List ℕ
gap zero = []
gap (suc place) = 32 ∷ []

-- the rows below n name free components below k
abbrev pub AreNamed : ℕ → ℕ → StateValue → Type 0
AreNamed n k s = (c : ℕ) → c < n → Each (λ t. t.free < k) (row_at s c)

abbrev pub marked_below : ℕ → StateValue → ℕ → List Index
marked_below r s zero = []
marked_below r s (suc n) = marked_below r s n ++ cond (mark_at s n) (index_of r n ∷ []) []

abbrev pub marked_indices : ℕ → StateValue → List Index
marked_indices r s = marked_below r s (3 ^ r)

abbrev pub marked_text : ℕ → FormValue → StateValue → ℕ → List ℕ
marked_text r f s n = cond (mark_at s n) (equation (component_name (index_of r n)) (named_terms r f (row_at s n))) []
