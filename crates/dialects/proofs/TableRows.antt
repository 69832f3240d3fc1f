-- The table of long forms, read at a place.
use Rattle.std.proofs.Common.{◌≡◌, ℕ, zero, suc, ◌<◌, List, [], ◌∷◌, length, get_or, refl, arith}
use Rattle.std.specs.Prelude.{map}
use Rattle.dialects.specs.LongTexts as defs
use Rattle.dialects.specs.Tables.{form_of}
use Rattle.dialects.specs.declared.forms.LongForm.{LongForm}

pub row_form : (rows : List LongForm) (k : ℕ) (d : LongForm) (e : defs.LongForm) → k < length rows →
    form_of (get_or rows k d) ≡ get_or (map form_of rows) k e
row_form [] k d e lt = absurd (omega arith)
row_form (r ∷ rs) zero d e lt = refl
row_form (r ∷ rs) (suc k) d e lt = row_form rs k d e (omega arith)
