-- A number a + b√3 has one pair of parts in lowest terms.
use Rattle.std.proofs.Common.{◌≡◌, ℕ, ◌*◌, ◌<◌, ap, sym, ◌∙◌, lit<}
use lib.IntN.{ℤ, pos, ◌+ℤ◌, ◌*ℤ◌, *ℤ_comm, +ℤ_idr, +ℤ_comm}
use Rattle.number_laws.proofs.Fractions.{over-fraction, zero_times}
use Rattle.number_laws.proofs.Gauss.{lowest_same}
use Rattle.number_laws.proofs.Sameness.{numbers_are_same_lem}
use Rattle.tensor_defs.specs.Prelude.{ring_ℤ, mul-zero_ℤ, mul-cancel_ℤ, positive_mul, Number, Same, Triple, number_of, add, mul, add_triple, mul_triple}
use Rattle.tensor_defs.specs.Prelude.{add_at, mul_at, fraction, half_of, root_3, Fraction, IsLowest, Root3, IsRoot3}

zero_plus : (z : ℤ) → pos 0 +ℤ z ≡ z
zero_plus z = +ℤ_comm (pos 0) z ∙ +ℤ_idr z

-- the triple of a/n + (b/m)√3
abbrev fraction_triple : (p : ℤ) (n : ℕ) → 0 < n → Triple
fraction_triple p n h = record { p = p; q = pos 0; n = n; positive = h }

abbrev root_triple : Triple
root_triple = record { p = pos 0; q = pos 2; n = 2; positive = lit< tt }

abbrev whole_triple : (p q : ℤ) (n m : ℕ) → 0 < n → 0 < m → Triple
whole_triple p q n m h k = add_triple (fraction_triple p n h) (mul_triple (fraction_triple q m k) root_triple)

sum_is : (p q : ℤ) (n m : ℕ) (h : 0 < n) (k : 0 < m) → add (fraction p n h) (mul (fraction q m k) root_3)
    ≡ number_of (whole_triple p q n m h k)
unfolding fraction half_of
sum_is p q n m h k =
    ap (add (number_of (fraction_triple p n h))) (mul_at (fraction_triple q m k) root_triple)
    ∙ add_at (fraction_triple p n h) (mul_triple (fraction_triple q m k) root_triple)

-- what the parts of the triple are
first_part : (p q n m : ℤ) → (p *ℤ (m *ℤ pos 2)) +ℤ (((q *ℤ pos 0) +ℤ (pos 3 *ℤ (pos 0 *ℤ pos 2))) *ℤ n)
    ≡ p *ℤ (m *ℤ pos 2)
first_part p q n m =
    ap (λ z. (p *ℤ (m *ℤ pos 2)) +ℤ ((z +ℤ pos 0) *ℤ n)) (mul-zero_ℤ q)
    ∙ ap (λ z. (p *ℤ (m *ℤ pos 2)) +ℤ z) (zero_times n) ∙ +ℤ_idr (p *ℤ (m *ℤ pos 2))

second_part : (q n m : ℤ) → (pos 0 *ℤ (m *ℤ pos 2)) +ℤ (((q *ℤ pos 2) +ℤ (pos 0 *ℤ pos 0)) *ℤ n) ≡ (q *ℤ pos 2) *ℤ n
second_part q n m =
    ap (λ z. z +ℤ (((q *ℤ pos 2) +ℤ pos 0) *ℤ n)) (zero_times (m *ℤ pos 2))
    ∙ zero_plus (((q *ℤ pos 2) +ℤ pos 0) *ℤ n) ∙ ap (λ z. z *ℤ n) (+ℤ_idr (q *ℤ pos 2))

moved_first : (p n m k t : ℤ) → (p *ℤ (m *ℤ t)) *ℤ (n *ℤ (k *ℤ t)) ≡ (p *ℤ n) *ℤ ((m *ℤ t) *ℤ (k *ℤ t))
moved_first p n m k t = simp ring_ℤ

moved_second : (q n l m t : ℤ) → ((q *ℤ t) *ℤ n) *ℤ (l *ℤ (m *ℤ t)) ≡ (q *ℤ m) *ℤ ((n *ℤ t) *ℤ (l *ℤ t))
moved_second q n l m t = simp ring_ℤ

swapped : (a b c : ℤ) → a *ℤ (b *ℤ c) ≡ a *ℤ (c *ℤ b)
swapped a b c = ap (λ z. a *ℤ z) (*ℤ_comm b c)

-- numbers with the same value have the same crosses of both parts
crosses : (p q r s : ℤ) (n m k l : ℕ) (hn : 0 < n) (hm : 0 < m) (hk : 0 < k) (hl : 0 < l) →
    Same (whole_triple p q n m hn hm) (whole_triple r s k l hk hl) →
    (p *ℤ pos k ≡ r *ℤ pos n) × (q *ℤ pos l ≡ s *ℤ pos m)
crosses p q r s n m k l hn hm hk hl same = (
  mul-cancel_ℤ (p *ℤ pos k) (r *ℤ pos n) ((m * 2) * (l * 2)) (positive_mul (positive_mul hm (lit< tt)) (positive_mul hl
      (lit< tt)))
      (sym (moved_first p (pos k) (pos m) (pos l) (pos 2))
      ∙ ap (λ z. z *ℤ (pos k *ℤ (pos l *ℤ pos 2))) (sym (first_part p q (pos n) (pos m)))
      ∙ same.same_p
      ∙ ap (λ z. z *ℤ (pos n *ℤ (pos m *ℤ pos 2))) (first_part r s (pos k) (pos l))
      ∙ moved_first r (pos n) (pos l) (pos m) (pos 2)
      ∙ swapped (r *ℤ pos n) (pos l *ℤ pos 2) (pos m *ℤ pos 2)),
  mul-cancel_ℤ (q *ℤ pos l) (s *ℤ pos m) ((n * 2) * (k * 2)) (positive_mul (positive_mul hn (lit< tt)) (positive_mul hk
      (lit< tt)))
      (sym (moved_second q (pos n) (pos k) (pos l) (pos 2))
      ∙ ap (λ z. z *ℤ (pos k *ℤ (pos l *ℤ pos 2))) (sym (second_part q (pos n) (pos m)))
      ∙ same.same_q
      ∙ ap (λ z. z *ℤ (pos n *ℤ (pos m *ℤ pos 2))) (second_part s (pos k) (pos l))
      ∙ moved_second s (pos k) (pos n) (pos m) (pos 2)
      ∙ swapped (s *ℤ pos m) (pos k *ℤ pos 2) (pos n *ℤ pos 2)),
)

root_number : (x : Number) (r : Root3) (h : IsRoot3 x r) →
    x ≡ number_of (whole_triple r.a.num r.b.num r.a.den r.b.den h.is_a.terms.positive h.is_b.terms.positive)
root_number x r h =
    h.same
    ∙ (λ i. add ((h.is_a.same ∙ over-fraction r.a.num r.a.den h.is_a.terms.positive) i)
    (mul ((h.is_b.same ∙ over-fraction r.b.num r.b.den h.is_b.terms.positive) i) root_3))
    ∙ sum_is r.a.num r.b.num r.a.den r.b.den h.is_a.terms.positive h.is_b.terms.positive

same_fraction : (f g : Fraction) → IsLowest f → IsLowest g → f.num *ℤ pos g.den ≡ g.num *ℤ pos f.den → f ≡ g
same_fraction f g p q e =
    let parts = lowest_same f.num g.num f.den g.den p.positive p.lowest q.lowest e in
    λ i. record { num = parts.0 i; den = parts.1 i }

-- a number has its parts in one way
pub one_root : (x y : Number) (r s : Root3) → x ≡ y → IsRoot3 x r → IsRoot3 y s → r ≡ s
one_root x y r s e h k =
    let ends = crosses r.a.num r.b.num s.a.num s.b.num r.a.den r.b.den s.a.den s.b.den h.is_a.terms.positive
    h.is_b.terms.positive k.is_a.terms.positive k.is_b.terms.positive
    ((numbers_are_same_lem _ _).0 (sym (root_number x r h) ∙ e ∙ root_number y s k)) in
    λ i. record {
      a = same_fraction r.a s.a h.is_a.terms k.is_a.terms ends.0 i;
      b = same_fraction r.b s.b h.is_b.terms k.is_b.terms ends.1 i;
    }
