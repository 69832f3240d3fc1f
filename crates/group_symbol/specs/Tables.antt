-- The tables of the code, as the definitions see them.
--   operators_of    the operators of a list of kinds and directions
--   takes           whether a class of parents has a parent
--   suffix_of       a row of the table of suffixes
use Rattle.std.specs.Prelude.{ℕ, Bool, true, List, map}
use Rattle.tensor_defs.specs.Symbols.{Operator, is_monoclinic, is_orthorhombic, is_turned_trigonal}
use Rattle.tensor_defs.specs.declared.OpKind.{OpKind}
use Rattle.tensor_defs.specs.declared.Direction.{Direction}
use Rattle.text_defs.specs.GroupTexts.{Suffix}
use Rattle.group_symbol.specs.declared.suffixes.ParentClass.{ParentClass}
use Rattle.group_symbol.specs.declared.suffixes.ParentClass.TheVariants.{All, Monoclinic, Orthorhombic, TurnedTrigonal}
use Rattle.group_symbol.specs.declared.suffixes.SuffixRow.{SuffixRow}

abbrev pub operators_of : List (OpKind × Direction) → List Operator
operators_of os = map (λ o. record { kind = o.0; direction = o.1 }) os

abbrev pub takes : ParentClass → ℕ → Bool
takes All = λ n. true
takes Monoclinic = is_monoclinic
takes Orthorhombic = is_orthorhombic
takes TurnedTrigonal = is_turned_trigonal

abbrev pub suffix_of : SuffixRow → Suffix
suffix_of r = record { text = r.text.now; setting = r.setting; parents = takes r.parents }
