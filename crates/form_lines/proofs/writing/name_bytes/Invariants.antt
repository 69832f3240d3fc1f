use Rattle.std.proofs.Common.{◌≡◌, ◌+◌, ◌∷◌, length}
use Rattle.std.specs.Prelude.{take, map}
use Rattle.tensor_defs.specs.Tensor.{digit, index_of}
use Rattle.text_defs.specs.AnswerTexts.{digits_text}
use Rattle.form_lines.proofs.writing.name_bytes.Given as goal

abbrev pub invariant-loop-place : goal.invariant-loop-place
invariant-loop-place g l = record {
  len : length l.name ≡ 7;
  bytes : take (l.place + 1) l.name ≡ 84 ∷ digits_text (map digit (take l.place (index_of g.R.Rank.R l.fn.c)));
}
