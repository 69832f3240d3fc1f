use Rattle.list_laws.proofs.Kit.{◌≡◌, ◌<◌, ◌≤◌, ◌+◌, ◌-◌, ◌^◌, ℕ, List, [], ◌∷◌, ◌++◌, arith, length, map, get_or, refl, ap, sym, ◌∙◌, subst, take, length-set, take_more_set}
use Rattle.tensor_defs.specs.Prelude.{Index, x1, digit, index_of}
use Rattle.text_defs.specs.AnswerTexts.{digits_text}
use Rattle.form_lines.proofs.NameLaws.{last_digit}
use Rattle.tensor_laws.proofs.ComponentNumbers.{length-index_of}
use Rattle.form_lines.proofs.TextLaws.{name_done, name_grown}
use Rattle.form_lines.proofs.writing.name_bytes.Goals as goal

pub loop-place-preserved : goal.loop-place-preserved
loop-place-preserved g c =
    let r = g.R.Rank.R in
    let p : ℕ = c.loop-place.place in
    let name : List ℕ = c.loop-place.name in
    let long : length (index_of r c.args.c) ≡ r = length-index_of r c.args.c in
    let inside : p < r = omega (arith, c.R-place-end.ensures) in
    let few : r ≤ 6 = g.R.Rank.small in
    let room : p + 1 < length name = omega (arith, c.loop-place.invariant.len) in
    let n : ℕ = c.args.c in
    let is : Index = index_of r n in
    let byte : ℕ = get_or c.six_digits-digits.result (6 - c.R.result + p) 0 in
    let below : n < 3 ^ r = subst (λ (x : ℕ). n < x) g.R.Rank.power (subst (λ (x : ℕ). x < g.R.Rank.LEN) c.number.ensures.same c.number.ensures.in_range) in
    let digits : c.six_digits-digits.result ≡ digits_text (map digit (index_of 6 n)) =
    c.six_digits-digits.ensures ∙ ap (λ m. digits_text (map digit (index_of 6 m))) c.number.ensures.same in
    let value : byte ≡ 48 + digit (get_or is p x1) =
    (λ i. get_or (digits i) (6 - c.R.ensures i + p) 0) ∙ last_digit r n p few below inside in
    record {
      len = length-set name (p + 1) byte ∙ c.loop-place.invariant.len;
      bytes = name_grown is p (digit (get_or is p x1)) (take (p + 1) name) _ (subst (λ (m : ℕ). p < m) (sym long) inside) refl c.loop-place.invariant.bytes
          (take_more_set name (p + 1) byte room ∙ ap (λ x. take (p + 1) name ++ x ∷ []) value);
    }

pub returns : goal.returns
returns g c =
    let r = g.R.Rank.R in
    let end : c.loop-place.place ≡ r = omega (arith, c.R-place-end.ensures) in
    let long : length (index_of r c.args.c) ≤ c.loop-place.place = omega (arith, length-index_of r c.args.c) in
    ap (λ n. take (n + 1) c.loop-place.name) (sym end) ∙ c.loop-place.invariant.bytes ∙ name_done (index_of r c.args.c) c.loop-place.place long
