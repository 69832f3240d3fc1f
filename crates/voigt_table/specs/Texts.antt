-- The texts of the rows of a Voigt table.
--   free_name       the name of a free entry, by its place
--   named_entry, named_entries    a term with the name of its free entry; those of a row
--   entry_text      the text of a term
--   AreFreeMarks    for each number of an entry whether it is free; a table has at most 36
use Rattle.std.specs.Prelude.{◌≡◌, ℕ, ◌<◌, Bool, false, List, length, map, get_or}
use Rattle.text_defs.specs.Prelude.{entry_name, has_entry, rational, NamedTerm, term_text}
use Rattle.reduced_form.specs.declared.forms.Term.{Term}
use Rattle.voigt_table.specs.Blocks.{entry_at, entry_count}
use Rattle.voigt_table.specs.Tables.{VoigtValue}

abbrev pub free_name : VoigtValue → ℕ → List ℕ
free_name v k = entry_name v.weights (entry_at v.sizes (get_or v.free k 0))

abbrev pub named_entry : VoigtValue → Term → NamedTerm
named_entry v t = record { factor = rational t.factor; name = free_name v t.free }

abbrev pub named_entries : VoigtValue → List Term → List NamedTerm
named_entries v ts = map (named_entry v) ts

abbrev pub entry_text : VoigtValue → Term → List ℕ
entry_text v t = term_text (rational t.factor) (free_name v t.free)

pub record AreFreeMarks (v : VoigtValue) (marks : List Bool) : Type 0 where
  pub len : length marks ≡ 36
  pub is : (n : ℕ) → n < entry_count v.sizes → get_or marks n false ≡ has_entry (map (entry_at v.sizes) v.free) (entry_at v.sizes n)
