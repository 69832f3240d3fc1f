-- The first named symbol of lists that are looked through piece by piece.
--   after_none    none in one list, and the first of another
--   with_more    more after it changes nothing
--   piece_none    one piece more without a name
--   piece_some    the first piece with a name
--   up_to_length, up_to_at    the numbers from 1
--   told_at, primed_piece, below_count, past_count, at_number    the pieces of the look-up
--   plain_named, grey_named, primed_named    the symbols of a parent and a setting
--   row_is, all_oriented, all_named, parent_there    all oriented parents
use Rattle.list_laws.proofs.Kit.{◌≡◌, ℕ, zero, suc, ◌+◌, ◌-◌, ◌^◌, ◌<◌, ◌≤◌, true, false, List, [], ◌∷◌, ◌++◌, length, refl, ap, sym, ◌∙◌, arith}
use Rattle.list_laws.proofs.Kit.{subst, take, add-one, ◌⊎◌, inl, inr, flat_map, length_push, get_or_append_left, get_or_push, get_or_default, flat_map_single}
use Rattle.list_laws.proofs.Kit.{cases_lt}
use Rattle.std.proofs.Common.{append_assoc}
use Rattle.std.specs.Prelude.{Option, Some, None, slice_index_or, map, SomeIff}
use Rattle.tensor_defs.specs.declared.Setting.{Setting}
use Rattle.group_symbol.specs.Readings.{symbol_of}
use Rattle.tensor_defs.specs.Prelude.{Each, up_to, Operation, GroupSymbol, operator_count, parent_operators, IsNamed, IsNameOf, symbols, symbols_with}
use Rattle.tensor_defs.specs.Prelude.{turned_bits}
use Rattle.group_names.specs.declared.oriented.Oriented.{Oriented}
use Rattle.group_names.specs.declared.oriented.TheConstants.{ORIENTED}
use Rattle.group_names.proofs.Matrices.{row_at}
use Rattle.group_names.specs.LookUps.{IsFirstNamed, oriented, pattern, row_of}

pub each_join : (P : GroupSymbol → Type 0) (xs ys : List GroupSymbol) → Each P xs → Each P ys → Each P (xs ++ ys)
each_join P [] ys e f = f
each_join P (x ∷ xs) ys e f = (e.0, each_join P xs ys e.1 f)

each_left : (P : GroupSymbol → Type 0) (xs ys : List GroupSymbol) → Each P (xs ++ ys) → Each P xs
each_left P [] ys e = tt
each_left P (x ∷ xs) ys e = (e.0, each_left P xs ys e.1)

each_right : (P : GroupSymbol → Type 0) (xs ys : List GroupSymbol) → Each P (xs ++ ys) → Each P ys
each_right P [] ys e = e
each_right P (x ∷ xs) ys e = each_right P xs ys e.1

-- none in one list, and the first of another
pub after_none : (H : Operation → Type 0) (xs ys : List GroupSymbol) (o : Option GroupSymbol) → IsFirstNamed H xs None → IsFirstNamed H ys o → IsFirstNamed H (xs ++ ys) o
after_none H xs ys None e f = each_join (λ u. ¬ IsNamed u H) xs ys e f
after_none H xs ys (Some t) e f =
    (xs ++ f.0, f.1, ap (λ zs. xs ++ zs) f.2 ∙ sym (append_assoc xs f.0 (t ∷ f.1)), f.3, each_join (λ u. ¬ IsNamed u H) xs f.0 e f.4)

-- more after it changes nothing
pub with_more : (H : Operation → Type 0) (xs ys : List GroupSymbol) (t : GroupSymbol) → IsFirstNamed H xs (Some t) → IsFirstNamed H (xs ++ ys) (Some t)
with_more H xs ys t f = (f.0, f.1 ++ ys, ap (λ zs. zs ++ ys) f.2 ∙ append_assoc f.0 (t ∷ f.1) ys, f.3, f.4)

module _ {X : Type 0} (H : Operation → Type 0) (g : X → List GroupSymbol) where
  -- one piece more without a name
  pub piece_none : (xs : List X) (i : ℕ) (x : X) → i < length xs → ((d : X) → slice_index_or xs i d ≡ x) → IsFirstNamed H (flat_map g (take i xs)) None → IsFirstNamed H (g x) None → IsFirstNamed H (flat_map g (take (i + 1) xs)) None
  piece_none [] i x h at e f = absurd (omega arith)
  piece_none (y ∷ ys) zero x h at e f = each_join (λ u. ¬ IsNamed u H) (g y) [] (subst (λ z. Each (λ u. ¬ IsNamed u H) (g z)) (sym (at y)) f) tt
  piece_none (y ∷ ys) (suc i) x h at e f =
      subst (λ n. IsFirstNamed H (flat_map g (take n (y ∷ ys))) None) (sym (add-one (suc i)))
      (each_join (λ u. ¬ IsNamed u H) (g y) (flat_map g (take (suc i) ys)) (each_left (λ u. ¬ IsNamed u H) (g y) (flat_map g (take i ys)) e)
      (subst (λ n. IsFirstNamed H (flat_map g (take n ys)) None) (add-one i) (piece_none ys i x (omega arith) at (each_right (λ u. ¬ IsNamed u H) (g y) (flat_map g (take i ys)) e) f)))

  -- the first piece with a name
  pub piece_some : (xs : List X) (i : ℕ) (x : X) (t : GroupSymbol) → i < length xs → ((d : X) → slice_index_or xs i d ≡ x) → IsFirstNamed H (flat_map g (take i xs)) None → IsFirstNamed H (g x) (Some t) → IsFirstNamed H (flat_map g xs) (Some t)
  piece_some [] i x t h at e f = absurd (omega arith)
  piece_some (y ∷ ys) zero x t h at e f = with_more H (g y) (flat_map g ys) t (subst (λ z. IsFirstNamed H (g z) (Some t)) (sym (at y)) f)
  piece_some (y ∷ ys) (suc i) x t h at e f =
      after_none H (g y) (flat_map g ys) (Some t) (each_left (λ u. ¬ IsNamed u H) (g y) (flat_map g (take i ys)) e)
      (piece_some ys i x t (omega arith) at (each_right (λ u. ¬ IsNamed u H) (g y) (flat_map g (take i ys)) e) f)

  pub pieces_all : (xs : List X) (i : ℕ) → length xs ≤ i → IsFirstNamed H (flat_map g (take i xs)) None → IsFirstNamed H (flat_map g xs) None
  pieces_all [] zero h e = e
  pieces_all [] (suc i) h e = e
  pieces_all (y ∷ ys) zero h e = absurd (omega arith)
  pieces_all (y ∷ ys) (suc i) h e =
      each_join (λ u. ¬ IsNamed u H) (g y) (flat_map g ys) (each_left (λ u. ¬ IsNamed u H) (g y) (flat_map g (take i ys)) e)
      (pieces_all ys i (omega arith) (each_right (λ u. ¬ IsNamed u H) (g y) (flat_map g (take i ys)) e))

-- ---- the numbers from 1
pub up_to_length : (n : ℕ) → length (up_to n) ≡ n
up_to_length zero = refl
up_to_length (suc n) = length_push (up_to n) (suc n) ∙ ap (λ x. x + 1) (up_to_length n) ∙ add-one n

at_by : (n i : ℕ) (d : ℕ) (b : (i < n) ⊎ (n ≤ i)) → i < suc n → (i < n → slice_index_or (up_to n) i d ≡ i + 1) → slice_index_or (up_to n ++ suc n ∷ []) i d ≡ i + 1
at_by n i d (inl l) h e = get_or_append_left (up_to n) (suc n ∷ []) d i (rw (up_to_length n) l) ∙ e l
at_by n i d (inr l) h e = let s : i ≡ n = omega arith in get_or_push (up_to n) (suc n) d i (up_to_length n ∙ sym s) ∙ sym (add-one n) ∙ ap (λ x. x + 1) (sym s)

pub up_to_at : (n i : ℕ) → i < n → (d : ℕ) → slice_index_or (up_to n) i d ≡ i + 1
up_to_at zero i h d = absurd (omega arith)
up_to_at (suc n) i h d = at_by n i d (cases_lt i n) h (λ l. up_to_at n i l d)

-- ---- the pieces of the look-up
pub told_at : (H : Operation → Type 0) (ts : List GroupSymbol) (o p : Option GroupSymbol) → o ≡ p → IsFirstNamed H ts o → IsFirstNamed H ts p
told_at H ts o p e f = subst (IsFirstNamed H ts) e f

pub primed_piece : (H : Operation → Type 0) (n primes count p : ℕ) (s : Setting) (o : Option GroupSymbol) → primes ≡ turned_bits count p → count ≡ operator_count n → IsFirstNamed H (symbol_of n primes false s ∷ []) o → IsFirstNamed H (pattern n s p) o
primed_piece H n primes count p s o e f h = subst (λ q. IsFirstNamed H (symbol_of n q false s ∷ []) o) (e ∙ ap (λ c. turned_bits c p) f) h

pub below_count : (place m ops n : ℕ) → place < m - 1 → m ≡ 2 ^ ops → ops ≡ operator_count n → place < length (up_to (2 ^ operator_count n - 1))
below_count place m ops n h e f = rw (up_to_length (2 ^ operator_count n - 1)) (subst (λ x. place < 2 ^ x - 1) f (subst (λ x. place < x - 1) e h))

pub past_count : (place m ops n : ℕ) → m - 1 ≤ place → m ≡ 2 ^ ops → ops ≡ operator_count n → length (up_to (2 ^ operator_count n - 1)) ≤ place
past_count place m ops n h e f = rw (up_to_length (2 ^ operator_count n - 1)) (subst (λ x. 2 ^ x - 1 ≤ place) f (subst (λ x. x - 1 ≤ place) e h))

pub at_number : (n place : ℕ) → place < length (up_to n) → (d : ℕ) → slice_index_or (up_to n) place d ≡ place + 1
at_number n place h d = up_to_at n place (subst (λ x. place < x) (up_to_length n) h) d

-- ---- the symbols of a parent and a setting
abbrev plain_of : ℕ → Setting → GroupSymbol
plain_of n s = symbol_of n 0 false s

abbrev grey_of : ℕ → Setting → GroupSymbol
grey_of n s = symbol_of n 0 true s

abbrev primed_of : ℕ → Setting → List GroupSymbol
primed_of n s = map (λ p. symbol_of n (turned_bits (operator_count n) p) false s) (up_to (2 ^ operator_count n - 1))

pub plain_named : (H : Operation → Type 0) (n : ℕ) (s : Setting) (t : GroupSymbol) → IsFirstNamed H (plain_of n s ∷ []) (Some t) → IsFirstNamed H (symbols_with n s) (Some t)
plain_named H n s t f = with_more H (plain_of n s ∷ []) (grey_of n s ∷ primed_of n s) t f

pub grey_named : (H : Operation → Type 0) (n : ℕ) (s : Setting) (t : GroupSymbol) → IsFirstNamed H (plain_of n s ∷ []) None → IsFirstNamed H (grey_of n s ∷ []) (Some t) → IsFirstNamed H (symbols_with n s) (Some t)
grey_named H n s t e f = after_none H (plain_of n s ∷ []) (grey_of n s ∷ primed_of n s) (Some t) e (with_more H (grey_of n s ∷ []) (primed_of n s) t f)

pub primed_named : (H : Operation → Type 0) (n : ℕ) (s : Setting) (o : Option GroupSymbol) → IsFirstNamed H (plain_of n s ∷ []) None → IsFirstNamed H (grey_of n s ∷ []) None → IsFirstNamed H (flat_map (pattern n s) (up_to (2 ^ operator_count n - 1))) o → IsFirstNamed H (symbols_with n s) o
primed_named H n s o e g f =
    after_none H (plain_of n s ∷ []) (grey_of n s ∷ primed_of n s) o e
    (after_none H (grey_of n s ∷ []) (primed_of n s) o g
    (subst (λ ts. IsFirstNamed H ts o) (flat_map_single (λ p. symbol_of n (turned_bits (operator_count n) p) false s) (up_to (2 ^ operator_count n - 1))) f))

-- ---- all oriented parents
pub row_is : (k : ℕ) → k < 61 → (d : Oriented) → slice_index_or ORIENTED k d ≡ row_of k
unfolding row_of
row_is k h d = get_or_default ORIENTED k d _ h

all_oriented : flat_map oriented ORIENTED ≡ symbols
unfolding symbols parent_operators
all_oriented = refl

pub all_named : (H : Operation → Type 0) (o : Option GroupSymbol) → IsFirstNamed H (flat_map oriented ORIENTED) o → IsNameOf o H
all_named H None f = subst (λ ts. IsFirstNamed H ts None) all_oriented f
all_named H (Some t) f = subst (λ ts. IsFirstNamed H ts (Some t)) all_oriented f

pub parent_there : (k n : ℕ) (o : Option ℕ) → k < 61 → n ≡ (row_of k).parent → SomeIff o ((1 ≤ n) × (n ≤ 42)) n → o ≡ None → ⊥
parent_there k n None h e s q = let r = row_at k h in s (subst (λ x. 1 ≤ x) (sym e) r.first, subst (λ x. x ≤ 42) (sym e) r.last)
parent_there k n (Some p) h e s q = cc
