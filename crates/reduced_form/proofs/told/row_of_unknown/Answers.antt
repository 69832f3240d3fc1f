use Rattle.list_laws.proofs.Kit.{◌≡◌, ◌<◌, ap, sym, ◌∙◌, subst, length, map, List, ℕ, arith, get_or_default, IfOk-weaker}
use Rattle.std.specs.Prelude.{None, Some}
use Rattle.tensor_defs.specs.Lists.{Each}
use Rattle.reduced_form.specs.Eliminated.{entries_at, entry_term, teller, told_by}
use Rattle.reduced_form.proofs.Numbering.{entries_read}
use Rattle.reduced_form.proofs.told.row_of_unknown.Goals as goal

pub index-requires-in-Some : goal.index-requires-in-Some
index-requires-in-Some c =
    let at = c.args.told.now.tellers.items in
    let told : teller at c.args.place ≡ Some c.in-Some.teller =
    sym (c.index.ensures ∙ get_or_default at c.args.place c.index.result.now None c.requires.unknown) ∙ c.in-Some.is in
    let h : c.in-Some.teller < length c.args.told.now.sums.items = c.requires.told.rows c.args.place c.in-Some.teller told in
    omega (arith, h)

pub terms_of-requires : goal.terms_of-requires
terms_of-requires c =
    let at = c.args.told.now.tellers.items in
    let ss = c.args.told.now.sums.items in
    let t = c.in-Some.teller in
    let told : teller at c.args.place ≡ Some t =
    sym (c.index.ensures ∙ get_or_default at c.args.place c.index.result.now None c.requires.unknown) ∙ c.in-Some.is in
    let h : t < length ss = c.requires.told.rows c.args.place t told in
    let same : entries_at ss t ≡ c.deref.result.now = entries_read ss t c.index-in-Some.result.now h c.index-in-Some.ensures ∙ sym c.deref.ensures.value in
    let long : length at ≡ length c.deref-in-Some.result.now = sym c.requires.told.len ∙ ap (λ (xs : List ℕ). length xs) (sym c.deref-in-Some.ensures.value) in
    subst (λ m. Each (λ e. e.unknown < m) c.deref.result.now) long
    (subst (λ xs. Each (λ e. e.unknown < length at) xs) same (c.requires.told.below t h))

pub returns-in-Some : goal.returns-in-Some
returns-in-Some c =
    let at = c.args.told.now.tellers.items in
    let numbers = c.args.told.now.numbers.items in
    let ss = c.args.told.now.sums.items in
    let t = c.in-Some.teller in
    let told : teller at c.args.place ≡ Some t =
    sym (c.index.ensures ∙ get_or_default at c.args.place c.index.result.now None c.requires.unknown) ∙ c.in-Some.is in
    let h : t < length ss = c.requires.told.rows c.args.place t told in
    let same : entries_at ss t ≡ c.deref.result.now = entries_read ss t c.index-in-Some.result.now h c.index-in-Some.ensures ∙ sym c.deref.ensures.value in
    IfOk-weaker c.terms_of.result _ _ (λ row e.
    e ∙ (λ i. map (entry_term (c.deref-in-Some.ensures.value i) c.args.sign) (sym same i))
    ∙ ap (told_by numbers ss c.args.place c.args.sign) (sym told)) c.terms_of.ensures
