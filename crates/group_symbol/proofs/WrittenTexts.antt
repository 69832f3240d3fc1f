-- The text that is written for a symbol spells it, and is read as it.
use Rattle.std.proofs.Common.{◌≡◌, ℕ, true, Ok, Err, refl, ap, inl, lit<}
use Rattle.tensor_defs.specs.declared.Setting.{Setting}
use Rattle.tensor_defs.specs.declared.Setting.TheVariants.{Default, X, Z, XY, D, P}
use Rattle.tensor_defs.specs.Symbols.{takes_setting}
use Rattle.text_defs.specs.GroupTexts.{IsSuffix, suffix_at, setting_text}
use Rattle.text_laws.proofs.GroupUnique.{one_symbol}
use Rattle.group_symbol.specs.Laws.{WrittenTextSpells, WrittenTextReadsBack}

-- the suffix that is written for a setting says it
written_suffix : (parent : ℕ) (s : Setting) → takes_setting parent s ≡ true → IsSuffix parent (setting_text s) s
unfolding suffix_at
written_suffix parent Default takes = record { place = 0; listed = lit< tt; taken = refl; setting_is = refl; text_is = refl }
written_suffix parent X takes = record { place = 2; listed = lit< tt; taken = takes; setting_is = refl; text_is = refl }
written_suffix parent Z takes = record { place = 3; listed = lit< tt; taken = takes; setting_is = refl; text_is = refl }
written_suffix parent XY takes = record { place = 4; listed = lit< tt; taken = takes; setting_is = refl; text_is = refl }
written_suffix parent D takes = record { place = 5; listed = lit< tt; taken = takes; setting_is = refl; text_is = refl }
written_suffix parent P takes = record { place = 6; listed = lit< tt; taken = takes; setting_is = refl; text_is = refl }

pub written_spells : WrittenTextSpells
written_spells t h = inl (record {
  symbol = h;
  suffix = setting_text t.setting;
  is_suffix = written_suffix t.parent t.setting h.setting;
  text = refl;
})

pub reads_back : WrittenTextReadsBack
reads_back t (Ok u) h spells = ap Ok (one_symbol _ u t spells (written_spells t h))
reads_back t (Err f) h faulty = absurd (faulty.none (t, written_spells t h))
