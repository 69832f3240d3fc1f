-- Answers that wait to be written.
--   owed, owed_none, owed_at, owes    what the sink tells once they are written
--   part_of         a front of what waits, or all of it and a front of the next answer
--   Fails, fails_none    a front of what waits that isn't all is what a write fault leaves
--   settled         all that waited was written
use Rattle.list_laws.proofs.Kit.{◌≡◌, ◌⊎◌, inl, inr, ⊎_elim, ℕ, ◌-◌, Bool, List, [], ◌++◌, length, take, Some, None, refl, sym, ◌∙◌, ap, subst, arith}
use Rattle.list_laws.proofs.Kit.{take-append-le, take-append-add, cases_lt, IfSome}
use Rattle.std.proofs.Common.{append_assoc, length-append}
use Rattle.std.proofs.lemmas.List.{append-nil}
use Rattle.tensor_ports.specs.Bytes.{Grows, GrowsInPart}
use Rattle.text_defs.specs.declared.Format.{Format}
use Rattle.line_runs.specs.Runs.{StopsWriting}
use Rattle.line_runs.specs.Stops.{Waits}
use Rattle.line_runs.proofs.Progress.{SoFar, Bytes}

-- what the sink tells once the answers that wait are written
abbrev pub owed : Bytes → List ℕ → Bytes
owed None waiting = None
owed (Some written) waiting = Some (written ++ waiting)

pub owed_none : (now : Bytes) → owed now [] ≡ now
owed_none None = refl
owed_none (Some written) = ap Some (append-nil written)

behind_owed : (now now' : Bytes) (waiting front : List ℕ) → Grows now now' (waiting ++ front) → Grows (owed now waiting) now' front
behind_owed None None waiting front grows = tt
behind_owed None (Some after) waiting front grows = absurd grows
behind_owed (Some written) None waiting front grows = tt
behind_owed (Some written) (Some after) waiting front grows = grows ∙ sym (append_assoc written waiting front)

-- one answer more waits, or was written with all that waited
pub owes : (now now' : Bytes) (waiting answer all waiting' : List ℕ) → all ≡ waiting ++ answer → Waits all waiting' now now'
    → Grows (owed now waiting) (owed now' waiting') answer
owes now now' waiting answer all waiting' is (inl waits) =
    let same : owed now' waiting' ≡ owed now (waiting ++ answer) =
    ap (λ (b : Bytes). owed b waiting') waits.0 ∙ ap (λ (l : List ℕ). owed now l) (waits.1 ∙ is) in
    subst (λ (b : Bytes). Grows (owed now waiting) b answer) (sym same) (more now)
  where
    more : (now : Bytes) → Grows (owed now waiting) (owed now (waiting ++ answer)) answer
    more None = tt
    more (Some written) = sym (append_assoc written waiting answer)
owes now now' waiting answer all waiting' is (inr written) =
    subst (λ (b : Bytes). Grows (owed now waiting) b answer) (sym (ap (λ (l : List ℕ). owed now' l) written.0 ∙ owed_none now'))
    (behind_owed now now' waiting answer (subst (λ (l : List ℕ). Grows now now' l) is written.1))

-- a front of what waits, or all of it and a front of the answer
pub part_of : (now now' : Bytes) (waiting answer : List ℕ) → GrowsInPart now now' (waiting ++ answer)
    → GrowsInPart now now' waiting ⊎ GrowsInPart (owed now waiting) now' answer
part_of now now' waiting answer (n, less, grows) =
    ⊎_elim
    (λ few. inl (n, few, subst (λ (l : List ℕ). Grows now now' l) (take-append-le n waiting answer (omega (arith, few))) grows))
    (λ many.
    let count = n - length waiting in
    let front : take n (waiting ++ answer) ≡ waiting ++ take count answer =
    ap (λ (m : ℕ). take m (waiting ++ answer)) (omega (arith, many)) ∙ take-append-add waiting answer count in
    inr (
      count,
      omega (arith, less, many, length-append waiting answer),
      behind_owed now now' waiting (take count answer) (subst (λ (l : List ℕ). Grows now now' l) front grows),
    ))
    (cases_lt n (length waiting))

-- a front of what waits that isn't all is what a write fault leaves
abbrev pub Fails : Bytes → Bytes → Bytes → Bytes → List ℕ → Type 0
Fails first left before now waiting =
    (now' : Bytes) → GrowsInPart now now' waiting → IfSome first (λ input. StopsWriting input left before now')

pub fails_none : (first left before now : Bytes) (waiting : List ℕ) → waiting ≡ [] → Fails first left before now waiting
fails_none first left before now waiting none = λ now' part. absurd (omega (arith, part.1, ap length none))

module _ {first left before told : Bytes} {format : Format} {total number : ℕ} {skipping refused : Bool} {held : List ℕ}
    (s : SoFar first left before told format total number skipping refused held) (now : Bytes) (waiting : List ℕ)
    (is : told ≡ owed now waiting) where
  -- all that waited was written
  unfoldable pub settled : (now' : Bytes) → Grows now now' waiting → SoFar first left before now' format total number skipping refused held
  settled now' grows =
      record {
        lines = s.lines;
        part = s.part;
        out = s.out;
        taken = s.taken;
        total_is = s.total_is;
        breaks = s.breaks;
        no_break = s.no_break;
        long = s.long;
        short = s.short;
        answers = s.answers;
        grown = same now now' grows (subst (λ (b : Bytes). Grows before b s.out) is s.grown);
        number_is = s.number_is;
        told = s.told;
        yes = s.yes;
        no = s.no;
      }
    where
      same : (now now' : Bytes) → Grows now now' waiting → Grows before (owed now waiting) s.out → Grows before now' s.out
      same now None grows so = none before
        where
          none : (b : Bytes) → Grows b None s.out
          none None = tt
          none (Some bs) = tt
      same None (Some after) grows so = absurd grows
      same (Some written) (Some after) grows so = subst (λ (l : List ℕ). Grows before (Some l) s.out) (sym grows) so

pub owed_at : {first left before now : Bytes} {format : Format} {total number : ℕ} {skipping refused : Bool} {held : List ℕ}
    → SoFar first left before now format total number skipping refused held → (waiting : List ℕ) → waiting ≡ []
    → SoFar first left before (owed now waiting) format total number skipping refused held
owed_at {first} {left} {before} {now} {format} {total} {number} {skipping} {refused} {held} s waiting none =
    subst (λ (b : Bytes). SoFar first left before b format total number skipping refused held)
    (sym (ap (λ (l : List ℕ). owed now l) none ∙ owed_none now)) s
