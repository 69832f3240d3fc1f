use Rattle.list_laws.proofs.Kit.{◌≡◌, ◌+◌, ◌∷◌, ◌++◌, ℕ, suc, length, arith, rules, ap, ◌∙◌}
use Rattle.tensor_defs.specs.Tensor.{index_of}
use Rattle.text_defs.specs.AnswerTexts.{component_name}
use Rattle.form_lines.proofs.NameLaws.{eight_told, line_last}
use Rattle.form_lines.proofs.writing.plus_line.Goals as goal

pub returns : goal.returns
returns g c =
    let r : ℕ = g.R.Rank.R in
    let long : length c.last_name-last.result ≡ 8 = search rules in
    line_last _ (suc (suc (suc (r + 2)))) c.six_digits-digits.ensures c.number.ensures.same c.number.ensures.in_range g.R.Rank.power
    c.R.ensures g.R.Rank.small (omega arith)
    ∙ ap (λ x. component_name (index_of r c.args.c) ++ 32 ∷ 61 ∷ 32 ∷ x) (eight_told c.last_name-last.result _ (r + 2) long c.last_name-last.ensures)
