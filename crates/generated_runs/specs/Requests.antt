-- Requests that are made from a seed.
--   name_of, words_of    the word that begins a request of a kind, and from what its other words are drawn
--   kinds, texts_of      the lists that are drawn from
--   next                 the state after a draw
--   line_from, state_after    the line that is made in a state, and the state after it
--   lines_made           so many lines from a state
-- A draw goes on to the next state, and gives the member of a list whose place is that state modulo the length of the list.
-- Source: this project's own; the generator is that of Park and Miller (1988).
use Rattle.std.specs.Prelude.{ℕ, zero, suc, ◌*◌, ◌%◌, List, [], ◌∷◌, ◌++◌, codes, slice_index_or}
use Rattle.tensor_vectors.specs.Types.{type_symbols, jahn_symbols}
use Rattle.generated_runs.specs.declared.draws.Kind.{Kind}
use Rattle.generated_runs.specs.declared.draws.Kind.TheVariants.{Form, Group, Voigt, States, Pairs, Differ, Same}
use Rattle.generated_runs.specs.declared.draws.Choice.{Choice}
use Rattle.generated_runs.specs.declared.draws.Choice.TheVariants.{Symbol, Tensor, Weights}

abbrev pub kinds : List Kind
kinds = Form ∷ Group ∷ Voigt ∷ States ∷ Pairs ∷ Differ ∷ Same ∷ []

abbrev pub name_of : Kind → List ℕ
name_of Form = codes "form"
name_of Group = codes "group"
name_of Voigt = codes "voigt"
name_of States = codes "states"
name_of Pairs = codes "pairs"
name_of Differ = codes "differ"
name_of Same = codes "same"

abbrev pub words_of : Kind → List Choice
words_of Form = Symbol ∷ Tensor ∷ []
words_of Group = Symbol ∷ []
words_of Voigt = Symbol ∷ Tensor ∷ Weights ∷ []
words_of States = Symbol ∷ Symbol ∷ []
words_of Pairs = Symbol ∷ Symbol ∷ []
words_of Differ = Symbol ∷ Symbol ∷ Tensor ∷ []
words_of Same = Symbol ∷ Symbol ∷ Tensor ∷ []

-- the symbols of the 122 types of magnetic point group, those of eight tensors, and the two kinds of weights
abbrev pub texts_of : Choice → List (List ℕ)
texts_of Symbol = type_symbols
texts_of Tensor = jahn_symbols
texts_of Weights = codes "c" ∷ codes "s" ∷ []

-- how many they are
abbrev pub size_of : Choice → ℕ
size_of Symbol = 122
size_of Tensor = 8
size_of Weights = 2

abbrev pub next : ℕ → ℕ
next x = 16807 * x % 2147483647

abbrev pub kind_at : ℕ → Kind
kind_at x = slice_index_or kinds (x % 7) Form

abbrev pub text_at : Choice → ℕ → List ℕ
text_at c x = slice_index_or (texts_of c) (x % size_of c) []

-- the words drawn from the left, each behind a space, and the state after them
abbrev pub words_from : List Choice → ℕ → List ℕ
words_from [] x = []
words_from (c ∷ cs) x = 32 ∷ text_at c (next x) ++ words_from cs (next x)

abbrev pub after_words : List Choice → ℕ → ℕ
after_words [] x = x
after_words (c ∷ cs) x = after_words cs (next x)

abbrev pub line_from : ℕ → List ℕ
line_from x = let k = kind_at (next x) in name_of k ++ words_from (words_of k) (next x)

abbrev pub state_after : ℕ → ℕ
state_after x = after_words (words_of (kind_at (next x))) (next x)

abbrev pub lines_made : ℕ → ℕ → List (List ℕ)
lines_made zero x = []
lines_made (suc n) x = line_from x ∷ lines_made n (state_after x)
