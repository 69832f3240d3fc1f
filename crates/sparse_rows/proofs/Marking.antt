-- Marks of the unknowns of a row.
--   IsMarking, marking-start, marking-step, marking-end    marking one entry after the other
--   IsPassing, passing-start, passing-step, passing-end    looking at one entry after the other
--   AreMet, met-less, met-same    a row is 0 at each unknown that isn't marked
use Rattle.list_laws.proofs.Kit.{◌≡◌, ◌≢◌, ℕ, ◌+◌, ◌%◌, ◌<◌, ◌≤◌, Bool, true, false, List, length, get_or, drop, ap, sym, ◌∙◌, refl, subst, arith}
use Rattle.list_laws.proofs.Kit.{get_or-set_other, drop_all, length-set, get_or-set_at}
use Rattle.std.specs.Prelude.{slice_set}
use Rattle.list_laws.proofs.Lists.{drop_head}
use Rattle.tensor_defs.specs.Number.{Number, add, mul, neg, num_zero}
use Rattle.sparse_rows.specs.Rows.{coeff, IsDifference}
use Rattle.sparse_rows.specs.Marks.{AreMarked, IsAway, is_marked}
use Rattle.sparse_rows.specs.declared.entry.Entry.{Entry}
use Rattle.sparse_rows.proofs.Merging.{coeff-tail}
use Rattle.sparse_rows.proofs.Lines.{minus_none}

-- the entries before place i are marked
pub record IsMarking (old : List Bool) (row : List Entry) (i : ℕ) (new : List Bool) : Type 0 where
  pub len : length new ≡ 512
  pub kept : (u : ℕ) → is_marked new u ≡ false → is_marked old u ≡ false
  pub zero : (u : ℕ) → is_marked new u ≡ false → coeff row u ≡ coeff (drop i row) u

pub marking-start : (old : List Bool) (row : List Entry) → length old ≡ 512 → IsMarking old row 0 old
marking-start old row h = record { len = h; kept = λ u e. e; zero = λ u e. refl }

module _ (marks : List Bool) (len : length marks ≡ 512) (v : ℕ) where
  inside : v % 512 < length marks
  inside = omega arith

  not_own : (u : ℕ) → is_marked (slice_set marks (v % 512) true) u ≡ false → u % 512 ≢ v % 512
  not_own u e p =
      let own : is_marked (slice_set marks (v % 512) true) u ≡ true = get_or-set_at marks (v % 512) (u % 512) true false p inside in
      let clash : true ≡ false = sym own ∙ e in
      cc

  before : (u : ℕ) → is_marked (slice_set marks (v % 512) true) u ≡ false → is_marked marks u ≡ false
  before u e = sym (get_or-set_other marks (v % 512) (u % 512) true false (not_own u e)) ∙ e

pub marking-step : (old : List Bool) (row : List Entry) (i : ℕ) (marks : List Bool) (x : Entry) → i < length row → x ≡ get_or row i x → IsMarking old row i marks →
    IsMarking old row (i + 1) (slice_set marks (x.unknown % 512) true)
marking-step old row i marks x h e m = record {
  len = length-set marks (x.unknown % 512) true ∙ m.len;
  kept = λ u f. m.kept u (before marks m.len x.unknown u f);
  zero = λ u f.
      m.zero u (before marks m.len x.unknown u f)
      ∙ (λ j. coeff (drop_head row i x h e j) u)
      ∙ coeff-tail x (drop (i + 1) row) u (λ p. not_own marks m.len x.unknown u f (ap (λ n. n % 512) p));
}

pub marking-end : (old : List Bool) (row : List Entry) (i : ℕ) (marks : List Bool) → length old ≡ 512 → length row ≤ i → IsMarking old row i marks → AreMarked old row marks
marking-end old row i marks long h m = record {
  len = m.len ∙ sym long;
  kept = m.kept;
  zero = λ u f. m.zero u f ∙ (λ j. coeff (drop_all i row h j) u);
}

-- the entries before place i aren't marked
pub record IsPassing (marks : List Bool) (row : List Entry) (i : ℕ) : Type 0 where
  pub zero : (u : ℕ) → is_marked marks u ≡ true → coeff row u ≡ coeff (drop i row) u

pub passing-start : (marks : List Bool) (row : List Entry) → IsPassing marks row 0
passing-start marks row = record { zero = λ u e. refl }

pub passing-step : (marks : List Bool) (row : List Entry) (i : ℕ) (x : Entry) → i < length row → x ≡ get_or row i x → is_marked marks x.unknown ≡ false →
    IsPassing marks row i → IsPassing marks row (i + 1)
passing-step marks row i x h e f m = record {
  zero = λ u t.
      m.zero u t
      ∙ (λ j. coeff (drop_head row i x h e j) u)
      ∙ coeff-tail x (drop (i + 1) row) u (λ p. let clash : true ≡ false = sym t ∙ ap (is_marked marks) p ∙ f in cc);
}

pub passing-end : (marks : List Bool) (row : List Entry) (i : ℕ) → length row ≤ i → IsPassing marks row i → IsAway marks row
passing-end marks row i h m = record { zero = λ u t. m.zero u t ∙ (λ j. coeff (drop_all i row h j) u) }

-- a row is 0 at each unknown that isn't marked
pub record AreMet (marks : List Bool) (row : List Entry) : Type 0 where
  pub len : length marks ≡ 512
  pub zero : (u : ℕ) → is_marked marks u ≡ false → coeff row u ≡ num_zero

pub met-less : (old new new' : List Bool) (row other other' left : List Entry) (f : Number) → new' ≡ new → other ≡ other' → AreMet old row → AreMarked old other new → IsDifference (coeff row) f (coeff other') left → AreMet new' left
met-less old new new' row other other' left f e o m a d =
    let b : AreMarked old other' new' = subst (λ (x : List Bool). AreMarked old other' x) (sym e) (subst (λ (x : List Entry). AreMarked old x new) o a) in
    record {
      len = b.len ∙ m.len;
      zero = λ u z.
          d.same u
          ∙ (λ i. add (m.zero u (b.kept u z) i) (neg (mul f (b.zero u z i))))
          ∙ minus_none num_zero f;
    }

pub met-same : (old new : List Bool) (row left : List Entry) → new ≡ old → left ≡ row → AreMet old row → AreMet new left
met-same old new row left e o m = subst (λ (x : List Bool). AreMet x left) (sym e) (subst (λ (x : List Entry). AreMet old x) (sym o) m)
