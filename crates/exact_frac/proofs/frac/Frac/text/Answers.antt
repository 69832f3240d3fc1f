use Rattle.list_laws.proofs.Kit.{ℕ, List, ◌≤◌, ◌∙◌, ap, length, subst, sym, signed_decimal}
use Rattle.exact_frac.proofs.Texts.{length-den, length-num, length-joined}
use Rattle.exact_frac.proofs.Wide.{narrow}
use Rattle.exact_frac.proofs.frac.Frac.text.Goals as goal

pub returns-then-self-ne1-clause-short : goal.returns-then-self-ne1-clause-short
returns-then-self-ne1-clause-short c =
    let top = c.as_bytes.ensures.value ∙ c.format.ensures.text ∙ ap signed_decimal (narrow c.self.inside.num c.self.invariant.small_num) in
    let bottom = c.as_bytes-then-self-ne1.ensures.value ∙ c.format-then-self-ne1.ensures.text in
    length-joined _ _ _ _ _ _ c.new-out.ensures.items c.append.ensures.items c.push_reserved.ensures.items c.append-then-self-ne1.ensures.items
    (subst (λ (t : List ℕ). length t ≤ 20) (sym top) (length-num c.self.inside.num c.self.invariant.small_num))
    (subst (λ (t : List ℕ). length t ≤ 19) (sym bottom) (length-den c.self.inside.den c.self.invariant.small_den))
