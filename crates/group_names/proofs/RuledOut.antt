-- The symbols of a parent in a setting that are ruled out together, and those of a row of the oriented parents.
use Rattle.list_laws.proofs.Kit.{◌≡◌, ℕ, zero, suc, ◌+◌, ◌-◌, ◌*◌, ◌/◌, ◌%◌, ◌^◌, ◌<◌, ◌≤◌, true, false, List, [], ◌∷◌, refl, sym, subst, ◌∙◌, arith}
use Rattle.list_laws.proofs.Kit.{pow-succ', pow_pos, false≢true}
use Rattle.std.specs.Prelude.{None, map, ◌↔◌}
use Rattle.tensor_defs.specs.declared.Setting.{Setting}
use Rattle.tensor_defs.specs.Prelude.{Each, up_to, Operation, GroupSymbol, IsGroupSymbol, operator_count, takes_setting, IsNamed, symbols_with, turned_bits}
use Rattle.op_matrix.specs.Table.{operation_at}
use Rattle.magnetic_groups.specs.Sets.{HasForm, In}
use Rattle.group_names.specs.LookUps.{HaveForms, IsFirstNamed, IsNumberOf, oriented, row_of}
use Rattle.group_names.proofs.Matrices.{is_in, matrices_of, same_matrices, IsRow, row_at}
use Rattle.group_names.proofs.Numbers.{digits_below, digits_number, number_agrees, number_same}

small : (m p s : ℕ) → m < 2 → s < p → m * p + s < 2 * p
small zero p s h k = omega arith
small (suc zero) p s h k = omega arith
small (suc (suc m)) p s h k = absurd (omega arith)

turned_below : (k n : ℕ) → turned_bits k n < 2 ^ k
turned_below zero n = omega arith
turned_below (suc k) n = rw (pow-succ' 2 k) (small (n % 2) (2 ^ k) (turned_bits k (n / 2)) (omega arith) (turned_below k (n / 2)))

module _ (H : Operation → Type 0) (n : ℕ) (first : 1 ≤ n) (last : n ≤ 42) where
  module _ (s : Setting) (takes : takes_setting n s ≡ true) (out : (t : GroupSymbol) → IsGroupSymbol t → t.parent ≡ n → t.setting ≡ s → ¬ IsNamed t H) where
    primed_out : (ps : List ℕ) → Each (λ u. ¬ IsNamed u H) (map (λ p. record { parent = n; primes = turned_bits (operator_count n) p; grey = false; setting = s }) ps)
    primed_out [] = tt
    primed_out (p ∷ ps) = (
      out (record { parent = n; primes = turned_bits (operator_count n) p; grey = false; setting = s })
          (record { first = first; last = last; primes = turned_below (operator_count n) p; plain = λ e. absurd (false≢true e); setting = takes }) refl refl,
      primed_out ps,
    )

    -- those with a setting
    pub setting_out : Each (λ u. ¬ IsNamed u H) (symbols_with n s)
    setting_out = (
      out (record { parent = n; primes = 0; grey = false; setting = s })
          (record { first = first; last = last; primes = pow_pos (operator_count n); plain = λ e. refl; setting = takes }) refl refl,
      (
        out (record { parent = n; primes = 0; grey = true; setting = s })
            (record { first = first; last = last; primes = pow_pos (operator_count n); plain = λ e. refl; setting = takes }) refl refl,
        primed_out (up_to (2 ^ operator_count n - 1)),
      ),
    )

-- the number of a row
row_number : (k : ℕ) (t : GroupSymbol) → k < 61 → t.parent ≡ (row_of k).parent → t.setting ≡ (row_of k).setting → IsNumberOf (λ c. is_in (matrices_of t.parent t.setting) c ≡ true) (row_of k).matrices
row_number k t h p s =
    subst (λ x. IsNumberOf (λ c. is_in (matrices_of t.parent x) c ≡ true) (row_of k).matrices) (sym s)
    (subst (λ x. IsNumberOf (λ c. is_in (matrices_of x (row_of k).setting) c ≡ true) (row_of k).matrices) (sym p)
    (subst (IsNumberOf (λ c. is_in (matrices_of (row_of k).parent (row_of k).setting) c ≡ true)) (sym (row_at k h).digits)
    (digits_number (is_in (matrices_of (row_of k).parent (row_of k).setting)))))

-- the symbols of a row of other matrices
pub other_row : (xs : List Operation) (k m n : ℕ) → k < 61 → m < 2 ^ 64 → IsNumberOf (HasForm (In xs)) m → n ≡ (row_of k).matrices → ¬ (n ≡ m) → IsFirstNamed (In xs) (oriented (row_of k)) None
other_row xs k m n h small a e differ = setting_out (In xs) (row_of k).parent r.first r.last (row_of k).setting r.takes out
  where
    r : IsRow (row_of k).parent (row_of k).setting (row_of k).matrices
    r = row_at k h

    out : (t : GroupSymbol) → IsGroupSymbol t → t.parent ≡ (row_of k).parent → t.setting ≡ (row_of k).setting → ¬ IsNamed t (In xs)
    out t i p s named = differ (e ∙ number_same (λ c. is_in (matrices_of t.parent t.setting) c ≡ true) (HasForm (In xs)) (row_of k).matrices m (subst (λ x. x < 2 ^ 64) (sym r.digits) (digits_below (is_in (matrices_of (row_of k).parent (row_of k).setting)) 64)) small (row_number k t h p s) a same)
      where
        same : (c : ℕ) → c < 64 → (is_in (matrices_of t.parent t.setting) c ≡ true) ↔ HasForm (In xs) c
        same c l =
            let f = same_matrices t i c l in (
              λ x. let y = f.0 x in (y.0, (named.1 (operation_at c y.0)).0 y.1),
              λ x. f.1 (x.0, (named.1 (operation_at c x.0)).1 x.1),
            )

-- those of a row of the same matrices
pub same_row : (xs : List Operation) (k m n : ℕ) → k < 61 → IsNumberOf (HasForm (In xs)) m → n ≡ (row_of k).matrices → n ≡ m → HaveForms (row_of k).parent (row_of k).setting (In xs)
same_row xs k m n h a e same t i p s c l =
    let b : IsNumberOf (λ x. is_in (matrices_of t.parent t.setting) x ≡ true) m =
    subst (IsNumberOf (λ x. is_in (matrices_of t.parent t.setting) x ≡ true)) (sym e ∙ same) (row_number k t h p s) in
    let f = same_matrices t i c l in (
      λ x. number_agrees (λ x. is_in (matrices_of t.parent t.setting) x ≡ true) (HasForm (In xs)) m b a c l (f.1 x),
      λ x. f.0 (number_agrees (HasForm (In xs)) (λ x. is_in (matrices_of t.parent t.setting) x ≡ true) m a b c l x),
    )
