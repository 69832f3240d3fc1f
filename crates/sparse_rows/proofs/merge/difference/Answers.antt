use Rattle.std.proofs.Common.{◌≡◌, ◌∙◌, ap, sym, refl, false, true}
use Rattle.tensor_defs.specs.Number.{add, neg, value_of}
use Rattle.exact_frac.proofs.Parts.{held-not_large}
use Rattle.sparse_rows.proofs.merge.difference.Goals as goal

pub returns-then-is_zero-clause-entry : goal.returns-then-is_zero-clause-entry
returns-then-is_zero-clause-entry c =
    let p = c.in_ok-product.ensures.exact in
    let v = c.in_ok-value.ensures.exact in (
      ap (λ x. add (value_of c.args.a.now.value) (neg x)) p.same ∙ v.same ∙ c.is_zero.ensures.0 c.if-is_zero.true,
      λ r. held-not_large _ c.in_ok-product.product p r,
    )

pub returns-clause-entry : goal.returns-clause-entry
returns-clause-entry c =
    let p = c.in_ok-product.ensures.exact in
    let v = c.in_ok-value.ensures.exact in
    record {
      unknown = refl;
      value = sym v.same ∙ ap (λ x. add (value_of c.args.a.now.value) (neg x)) (sym p.same);
      entry = record {
        held = v.held;
        not_zero = λ e.
            let t : c.is_zero.result ≡ true = c.is_zero.ensures.1 e in
            let h : c.is_zero.result ≡ false = c.if-is_zero.false in
            cc;
      };
      calm = λ r. held-not_large _ c.in_ok-product.product p r;
    }
