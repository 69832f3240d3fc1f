-- An input has one list of answers.
--   answers_same        the answers of lines of a format are told by the lines
--   one_output_lem      an input has one output
use Rattle.std.proofs.Common.{◌≡◌, ℕ, ◌+◌, List, [], ◌∷◌, sym, ◌∙◌}
use Rattle.std.specs.Prelude.{◌++◌}
use Rattle.text_defs.specs.declared.Format.{Format}
use Rattle.text_defs.specs.Lines.{AreAnswers, format_of, lines_of}
use Rattle.answer_laws.proofs.Lines.{one_answer_lem}
use Rattle.answer_laws.specs.Laws.{OneOutput}

pub answers_same : (format : Format) (number : ℕ) (ls : List (List ℕ)) (a b : List ℕ) → AreAnswers format number ls a →
    AreAnswers format number ls b → a ≡ b
answers_same format number [] a b p q = p ∙ sym q
answers_same format number (l ∷ ls) a b p q =
    p.4
    ∙ (λ i. one_answer_lem format number l p.0 q.0 p.2 q.2 i ++ answers_same format (number + 1) ls p.1 q.1 p.3 q.3 i)
    ∙ sym q.4

pub one_output_lem : OneOutput
one_output_lem input a b p q = answers_same (format_of input) 1 (lines_of input) a b p q
