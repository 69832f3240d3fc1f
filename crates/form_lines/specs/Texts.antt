-- The texts of the rows of a table.
--   IsLonger        a list that begins with another
--   takes_plus, placed    a term at a place of a sum: the first as it is, a later one with + unless it begins with -
--   sum_from        the terms of a sum from a place on
--   lines_upto      the lines of the first components by their numbers
--   text_at         the text of a term of a table
--   named_terms     the terms of a row with the names of their free components
--   AreFreeMarks    for each component below n whether it is free
use Rattle.std.specs.Prelude.{◌≡◌, ℕ, zero, suc, ◌<◌, Bool, true, false, List, [], ◌∷◌, ◌++◌, length, get_or, map, ◌==◌, if◌then◌else◌}
use Rattle.tensor_defs.specs.Tensor.{index_of}
use Rattle.text_defs.specs.Prelude.{component_name, has_index, rational, NamedTerm, term_text, joined}
use Rattle.reduced_form.specs.declared.forms.Term.{Term}
use Rattle.reduced_form.specs.Forms.{FormValue, free_at}

pub record IsLonger (old new : List ℕ) : Type 0 where
  pub more : List ℕ
  pub grown : new ≡ old ++ more

-- whether + stands before a term at a place
abbrev pub takes_plus : ℕ → List ℕ → Bool
takes_plus zero text = false
takes_plus (suc n) [] = false
takes_plus (suc n) (b ∷ bs) = if b == 45 then false else true

abbrev pub placed : ℕ → List ℕ → List ℕ
placed zero text = text
placed (suc n) text = joined text

-- terms of a sum from a place on
abbrev pub sum_from : ℕ → List NamedTerm → List ℕ
sum_from n [] = []
sum_from n (t ∷ ts) = placed n (term_text t.factor t.name) ++ sum_from (suc n) ts

unfoldable pub lines_upto : (ℕ → List ℕ) → ℕ → List ℕ
lines_upto f zero = []
lines_upto f (suc n) = lines_upto f n ++ f n

-- the terms of a row with the names of their free components
abbrev pub named_terms : ℕ → FormValue → List Term → List NamedTerm
named_terms r f ts = map (λ t. record { factor = rational t.factor; name = component_name (index_of r (free_at f.free t.free)) }) ts

abbrev pub text_at : ℕ → FormValue → Term → List ℕ
text_at r f t = term_text (rational t.factor) (component_name (index_of r (free_at f.free t.free)))

pub record AreFreeMarks (n r : ℕ) (free : List ℕ) (marks : List Bool) : Type 0 where
  pub len : length marks ≡ n
  pub is : (c : ℕ) → c < n → get_or marks c false ≡ has_index (map (index_of r) free) (index_of r c)
