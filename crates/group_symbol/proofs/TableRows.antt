-- The tables of parents and of suffixes, read at a place.
use Rattle.list_laws.proofs.Kit.{◌≡◌, ℕ, zero, suc, ◌<◌, List, [], ◌∷◌, length, get_or, refl, arith, Bor}
use Rattle.std.specs.Prelude.{map}
use Rattle.tensor_defs.specs.declared.OpKind.{OpKind}
use Rattle.tensor_defs.specs.declared.Direction.{Direction}
use Rattle.text_defs.specs.GroupTexts.{no_suffix}
use Rattle.group_symbol.specs.Tables.{operators_of, suffix_of}
use Rattle.group_symbol.specs.declared.suffixes.SuffixRow.{SuffixRow}

-- a row of the table of parents
abbrev pub Row : Type 0
Row = Bor (List ℕ) × Bor (List (OpKind × Direction))

pub row_text : (rows : List Row) (k : ℕ) (d : Row) → k < length rows →
    (get_or rows k d).0.now ≡ get_or (map (λ r. r.0.now) rows) k []
row_text [] k d lt = absurd (omega arith)
row_text (r ∷ rs) zero d lt = refl
row_text (r ∷ rs) (suc k) d lt = row_text rs k d (omega arith)

pub row_operators : (rows : List Row) (k : ℕ) (d : Row) → k < length rows →
    operators_of (get_or rows k d).1.now ≡ get_or (map (λ r. operators_of r.1.now) rows) k []
row_operators [] k d lt = absurd (omega arith)
row_operators (r ∷ rs) zero d lt = refl
row_operators (r ∷ rs) (suc k) d lt = row_operators rs k d (omega arith)

pub row_suffix : (rows : List SuffixRow) (k : ℕ) (d : SuffixRow) → k < length rows →
    suffix_of (get_or rows k d) ≡ get_or (map suffix_of rows) k no_suffix
row_suffix [] k d lt = absurd (omega arith)
row_suffix (r ∷ rs) zero d lt = refl
row_suffix (r ∷ rs) (suc k) d lt = row_suffix rs k d (omega arith)
