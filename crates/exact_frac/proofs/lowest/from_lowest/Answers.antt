use Rattle.list_laws.proofs.Kit.{◌≡◌, ◌<◌, ◌∙◌, ap, sym, subst, inl, inr, IsGcd}
use Rattle.std.specs.Prelude.{unsigned_abs}
use Rattle.tensor_defs.specs.Number.{limit}
use Rattle.exact_frac.proofs.Signs.{size-signed}
use Rattle.exact_frac.proofs.Parts.{reaches}
use Rattle.exact_frac.proofs.Wide.{narrow}
use Rattle.exact_frac.proofs.lowest.from_lowest.Goals as goal
use Rattle.exact_frac.proofs.lowest.from_lowest.Goals.{then-top-ge-LIMIT-via-then-top-ge-LIMIT, then-top-ge-LIMIT-via-else-top-ge-LIMIT+then-bottom-ge-LIMIT}

pub returns-then-top-ge-LIMIT : goal.returns-then-top-ge-LIMIT
returns-then-top-ge-LIMIT c =
    reaches c.args.negative c.args.top c.args.bottom c.requires.positive c.requires.lowest (elim c.then-top-ge-LIMIT.branch [
      | then-top-ge-LIMIT-via-then-top-ge-LIMIT w ↦ inl w.if-top-ge-LIMIT.true
      | then-top-ge-LIMIT-via-else-top-ge-LIMIT+then-bottom-ge-LIMIT w ↦ inr w.if-bottom-ge-LIMIT.true
    ])

pub of_parts-requires : goal.of_parts-requires
of_parts-requires c =
    let s : unsigned_abs c.with_sign.result ≡ c.args.top = ap unsigned_abs c.with_sign.ensures ∙ size-signed c.args.negative c.args.top in
    let e = ap unsigned_abs (narrow c.with_sign.result (subst (λ x. x < limit) (sym s) c.if-top-ge-LIMIT.false)) ∙ s in
    record {
      terms = record { positive = c.requires.positive; lowest = subst (λ x. IsGcd x c.args.bottom 1) (sym e) c.requires.lowest };
      small_num = subst (λ x. x < limit) (sym e) c.if-top-ge-LIMIT.false;
      small_den = c.if-bottom-ge-LIMIT.false;
    }
