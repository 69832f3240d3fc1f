-- How far a run has come, and what it leaves where it stops.
--   consumes_none, consumes_more, consumes_kept    one read after another
--   SoFar, started, read_on, skipped, line_done    the lines that are answered so far, and the part that is held
--   yes_more, no_more    whether some line is refused
--   Next, next_of   before the answer of a line
--   LetGo, let_go, read_end    what is held without a line feed
--   Break, break_at, at_end    a line feed in what is held, and the end
use Rattle.list_laws.proofs.Kit.{◌≡◌, ⊎_elim, inl, ℕ, ◌+◌, ◌<◌, ◌≤◌, Bool, true, false, ◌||◌, IsTrue, ◌↔◌, List, [], ◌∷◌, ◌++◌, length, take, drop, Some}
use Rattle.list_laws.proofs.Kit.{None, Option, refl, sym, ◌∙◌, ap, subst, arith, AllByRecursion, Consumes, Keeps}
use Rattle.std.proofs.Common.{append_assoc, length-append}
use Rattle.std.proofs.lemmas.List.{append-nil}
use Rattle.std.specs.Prelude.{MatchBool}
use Rattle.tensor_ports.specs.Bytes.{Grows}
use Rattle.tensor_ports.proofs.Growing.{grows_none, grows_more}
use Rattle.text_defs.specs.Prelude.{lines_of, ended, format_told, AreAnswers, IsAnswer, IsRefused}
use Rattle.text_defs.specs.declared.Format.{Format}
use Rattle.line_runs.specs.Answering.{IsQuick, AreQuick, IsTold}
use Rattle.line_runs.specs.Runs.{SomeLineRefused, NoLineRefused}
use Rattle.line_runs.specs.Reads.{HasNoBreak, Stands}
use Rattle.line_runs.proofs.LineLemmas.{no_break_append, lines-last, ended-push, length-ended}
use Rattle.line_runs.proofs.AnswerLemmas.{answers-push, refused-append_left, refused-push, refused-of_push, Told, told_push, retold}

abbrev pub Bytes : Type 0
Bytes = Option (List ℕ)

-- ---- one read after another

pub consumes_none : (a : Bytes) → Consumes a a []
consumes_none None = tt
consumes_none (Some xs) = refl

pub consumes_more : (a b c : Bytes) (xs ys : List ℕ) → Consumes a b xs → Consumes b c ys → Consumes a c (xs ++ ys)
consumes_more None b c xs ys first second = tt
consumes_more (Some as') None c xs ys first second = absurd first
consumes_more (Some as') (Some bs) None xs ys first second = absurd second
consumes_more (Some as') (Some bs) (Some cs) xs ys first second = first ∙ ap (λ (l : List ℕ). xs ++ l) second ∙ sym (append_assoc xs ys cs)

pub consumes_kept : (a b : Bytes) → Keeps a b → Consumes a b []
consumes_kept None b kept = tt
consumes_kept (Some as') None kept = absurd kept
consumes_kept (Some as') (Some bs) kept = sym kept

-- ---- lists of lines

all_push : (ls : List (List ℕ)) (line : List ℕ) → AllByRecursion HasNoBreak ls → HasNoBreak line → AllByRecursion HasNoBreak (ls ++ line ∷ [])
all_push [] line all last = (last, tt)
all_push (l ∷ ls) line all last = (all.0, all_push ls line all.1 last)

pub all_at : (format : Format) (number : ℕ) (ls : List (List ℕ)) (line : List ℕ) (more : List (List ℕ))
    → AreQuick format number (ls ++ line ∷ more) → IsQuick format (length ls + number) line
all_at format number [] line more all = subst (λ (n : ℕ). IsQuick format n line) (omega arith) all.0
all_at format number (l ∷ ls) line more all =
    subst (λ (n : ℕ). IsQuick format n line) (omega arith) (all_at format (number + 1) ls line more all.1)

pub lines-one : (line : List ℕ) → 0 < length line → HasNoBreak line → lines_of line ≡ line ∷ []
lines-one [] some none = absurd (omega arith)
lines-one (b ∷ line) some none = lines-last b line none

-- ---- so far

-- What was taken is whole lines, which are answered, a part of a line of more than 4000 bytes that isn't held any
-- more, and what is held.
pub record SoFar (first left before now : Bytes) (format : Format) (total number : ℕ) (skipping refused : Bool) (held : List ℕ) : Type 0 where
  pub lines : List (List ℕ)
  pub part : List ℕ
  pub out : List ℕ
  pub taken : Consumes first left (ended lines ++ (part ++ held))
  pub total_is : total ≡ length (ended lines ++ (part ++ held))
  pub breaks : AllByRecursion HasNoBreak lines
  pub no_break : HasNoBreak part
  pub long : skipping ≡ true → 4000 < length part
  pub short : skipping ≡ false → part ≡ []
  pub answers : AreAnswers format 1 lines out
  pub grown : Grows before now out
  pub number_is : number ≡ length lines + 1
  pub told : Told format lines
  pub yes : refused ≡ true → SomeLineRefused format lines
  pub no : refused ≡ false → NoLineRefused format lines

pub started : (first before : Bytes) (format : Format) → SoFar first first before before format 0 1 false false []
started first before format = record {
  lines = [];
  part = [];
  out = [];
  taken = consumes_none first;
  total_is = refl;
  breaks = tt;
  no_break = tt;
  long = λ is. cc;
  short = λ is. refl;
  answers = refl;
  grown = grows_none before;
  number_is = refl;
  told = inl refl;
  yes = λ is. cc;
  no = λ is some. some;
}

stands : (skipping : Bool) (part line : List ℕ) → (skipping ≡ true → 4000 < length part) → (skipping ≡ false → part ≡ []) → Stands skipping line (part ++ line)
stands true part line long short = omega (arith, long refl, length-append part line)
stands false part line long short = ap (λ (l : List ℕ). l ++ line) (short refl)

pub yes_more : (format : Format) (refused one : Bool) (ls : List (List ℕ)) (line : List ℕ) → (refused ≡ true → SomeLineRefused format ls)
    → (IsTrue one ↔ IsRefused format (length ls + 1) line) → (refused || one) ≡ true → SomeLineRefused format (ls ++ line ∷ [])
yes_more format true one ls line so_far this is = refused-append_left format 1 ls (line ∷ []) (so_far refl)
yes_more format false true ls line so_far this is = refused-push format 1 ls line (this.0 refl)
yes_more format false false ls line so_far this is = cc

pub no_more : (format : Format) (refused one : Bool) (ls : List (List ℕ)) (line : List ℕ)
    → (refused ≡ false → SomeLineRefused format ls → ⊥) → (IsTrue one ↔ IsRefused format (length ls + 1) line)
    → (refused || one) ≡ false → SomeLineRefused format (ls ++ line ∷ []) → ⊥
no_more format true one ls line so_far this is some = cc
no_more format false true ls line so_far this is some = cc
no_more format false false ls line so_far this is some =
    ⊎_elim (λ before. so_far refl before) (λ now. let bad : false ≡ true = this.1 now in cc) (refused-of_push format 1 ls line some)

module _ {first left before now : Bytes} {format : Format} {total number : ℕ} {skipping refused : Bool} {held : List ℕ}
    (s : SoFar first left before now format total number skipping refused held) where
  -- the line of which the held bytes are the end
  pub line_stands : (line : List ℕ) → Stands skipping line (s.part ++ line)
  line_stands line = stands skipping s.part line s.long s.short

  pub number_le : number ≤ total + 1
  number_le = omega (arith, s.number_is, s.total_is, length-ended s.lines, length-append (ended s.lines) (s.part ++ held))

  -- one read more
  pub read_on : (left' : Bytes) (bytes held' : List ℕ) (n : ℕ) → held' ≡ held ++ bytes → length bytes ≡ n →
      Consumes left left' bytes → SoFar first left' before now format (total + n) number skipping refused held'
  read_on left' bytes held' n is size more =
      let front = ended s.lines in
      let all : (front ++ (s.part ++ held)) ++ bytes ≡ front ++ (s.part ++ held') =
      append_assoc front (s.part ++ held) bytes
      ∙ ap (λ (l : List ℕ). front ++ l) (append_assoc s.part held bytes ∙ ap (λ (l : List ℕ). s.part ++ l) (sym is)) in
      record {
        lines = s.lines;
        part = s.part;
        out = s.out;
        taken = subst (λ (l : List ℕ). Consumes first left' l) all (consumes_more first left left' (front ++ (s.part ++ held)) bytes s.taken more);
        total_is = omega (arith, s.total_is, size, length-append (front ++ (s.part ++ held)) bytes, ap length all);
        breaks = s.breaks;
        no_break = s.no_break;
        long = s.long;
        short = s.short;
        answers = s.answers;
        grown = s.grown;
        number_is = s.number_is;
        told = s.told;
        yes = s.yes;
        no = s.no;
      }

  -- the held bytes are let go within a line that is too long
  pub skipped : HasNoBreak held → 4000 < length held → SoFar first left before now format total number true refused []
  skipped none size =
      let all : ended s.lines ++ (s.part ++ held) ≡ ended s.lines ++ ((s.part ++ held) ++ []) =
      ap (λ (l : List ℕ). ended s.lines ++ l) (sym (append-nil (s.part ++ held))) in
      record {
        lines = s.lines;
        part = s.part ++ held;
        out = s.out;
        taken = subst (λ (l : List ℕ). Consumes first left l) all s.taken;
        total_is = s.total_is ∙ ap length all;
        breaks = s.breaks;
        no_break = no_break_append s.part held s.no_break none;
        long = λ is. omega (arith, length-append s.part held, size);
        short = λ is. cc;
        answers = s.answers;
        grown = s.grown;
        number_is = s.number_is;
        told = s.told;
        yes = s.yes;
        no = s.no;
      }

  -- the bytes with one line more set apart
  cut : (line rest : List ℕ) → held ≡ line ++ 10 ∷ rest → ended s.lines ++ (s.part ++ held) ≡ ended (s.lines ++ (s.part ++ line) ∷ []) ++ rest
  cut line rest is =
      ap (λ (l : List ℕ). ended s.lines ++ l) (ap (λ (l : List ℕ). s.part ++ l) is ∙ sym (append_assoc s.part line (10 ∷ rest)))
      ∙ sym (ended-push s.lines (s.part ++ line) rest)

  -- a whole line is answered
  pub line_done : (now' : Bytes) (line rest answer : List ℕ) (one : Bool) → held ≡ line ++ 10 ∷ rest → HasNoBreak line → Grows now now' answer
      → IsAnswer format number (s.part ++ line) answer → (IsTrue one ↔ IsRefused format number (s.part ++ line))
      → Told format (s.lines ++ (s.part ++ line) ∷ [])
      → SoFar first left before now' format total (number + 1) false (refused || one) rest
  line_done now' line rest answer one is none grows answers this told =
      let whole = s.part ++ line in
      let all = cut line rest is in
      record {
        lines = s.lines ++ whole ∷ [];
        part = [];
        out = s.out ++ answer;
        taken = subst (λ (l : List ℕ). Consumes first left l) all s.taken;
        total_is = s.total_is ∙ ap length all;
        breaks = all_push s.lines whole s.breaks (no_break_append s.part line s.no_break none);
        no_break = tt;
        long = λ is. cc;
        short = λ is. refl;
        answers = answers-push format 1 s.lines whole s.out answer s.answers (subst (λ (n : ℕ). IsAnswer format n whole answer) s.number_is answers);
        grown = grows_more before now now' s.out answer s.grown grows;
        number_is = omega (arith, s.number_is, length-append s.lines (whole ∷ []));
        told = told;
        yes = yes_more format refused one s.lines whole s.yes (subst (λ (n : ℕ). IsTrue one ↔ IsRefused format n whole) s.number_is this);
        no = no_more format refused one s.lines whole s.no (subst (λ (n : ℕ). IsTrue one ↔ IsRefused format n whole) s.number_is this);
      }

-- the next line tells the format, where it is the first one
pub record Next (first left before now : Bytes) (format : Format) (total number : ℕ) (skipping refused : Bool) (held line : List ℕ) : Type 0 where
  pub so_far : SoFar first left before now format total number skipping refused held
  pub format_is : (more : List (List ℕ)) → format ≡ format_told (so_far.lines ++ (so_far.part ++ line) ∷ more)

pub next_of : {first left before now : Bytes} {old : Format} {total number : ℕ} {skipping refused : Bool} {held : List ℕ}
    (s : SoFar first left before now old total number skipping refused held) (format : Format) (line : List ℕ)
    → ((whole : List ℕ) → Stands skipping line whole → IsTold number old whole format)
    → Next first left before now format total number skipping refused held line
next_of {old = old} {number = number} {refused = refused} s format line tells =
    let whole = s.part ++ line in
    let told = tells whole (line_stands s line) in
    let same = λ (P : Format → List (List ℕ) → Type 0). retold old number s.lines whole format P s.number_is told in
    record {
      so_far = record {
        lines = s.lines;
        part = s.part;
        out = s.out;
        taken = s.taken;
        total_is = s.total_is;
        breaks = s.breaks;
        no_break = s.no_break;
        long = s.long;
        short = s.short;
        answers = same (λ f ls. AreAnswers f 1 ls s.out) (λ a. a) s.answers;
        grown = s.grown;
        number_is = s.number_is;
        told = same Told (λ t. inl refl) s.told;
        yes = same (λ f ls. refused ≡ true → SomeLineRefused f ls) (λ a. a) s.yes;
        no = same (λ f ls. refused ≡ false → NoLineRefused f ls) (λ a. a) s.no;
      };
      format_is = λ more. told_push old number s.lines whole more format s.number_is s.told told;
    }

-- a full buffer is let go
pub record LetGo (first left before now : Bytes) (format : Format) (total number : ℕ) (skipping refused : Bool) (held : List ℕ) : Type 0 where
  pub so_far : SoFar first left before now format total number skipping refused held
  pub none : HasNoBreak held
  pub room : length held < 4001

pub let_go : {first left before now : Bytes} {format : Format} {total number : ℕ} {skipping refused : Bool}
    {held : List ℕ} → SoFar first left before now format total number skipping refused held → HasNoBreak held
    → (full : Bool) (held' : List ℕ) →
    MatchBool full ((length held ≡ 4001) × (held' ≡ [])) ((length held < 4001) × (held' ≡ held)) →
    LetGo first left before now format total number (skipping || full) refused held'
let_go {first} {left} {before} {now} {format} {total} {number} {skipping} {refused} {held} s none true held' is =
    let same : true ≡ (skipping || true) = sym (or_true skipping) in
    let at : SoFar first left before now format total number true refused [] = skipped s none (omega (arith, is.0)) in
    let there : LetGo first left before now format total number true refused [] = record { so_far = at; none = tt; room = omega arith } in
    subst (λ (b : Bool). LetGo first left before now format total number b refused held') same
    (subst (λ (l : List ℕ). LetGo first left before now format total number true refused l) (sym is.1) there)
  where
    or_true : (b : Bool) → (b || true) ≡ true
    or_true true = refl
    or_true false = refl
let_go {first} {left} {before} {now} {format} {total} {number} {skipping} {refused} {held} s none false held' is =
    let same : skipping ≡ (skipping || false) = sym (or_false skipping) in
    let there : LetGo first left before now format total number skipping refused held = record { so_far = s; none = none; room = is.0 } in
    subst (λ (b : Bool). LetGo first left before now format total number b refused held') same
    (subst (λ (l : List ℕ). LetGo first left before now format total number skipping refused l) (sym is.1) there)
  where
    or_false : (b : Bool) → (b || false) ≡ b
    or_false true = refl
    or_false false = refl

-- a read of nothing
pub read_end : {first left before now : Bytes} {format : Format} {total number : ℕ} {skipping refused : Bool}
    {held : List ℕ} → SoFar first left before now format total number skipping refused held →
    (left' : Bytes) (held' : List ℕ) → held' ≡ held → Consumes left left' []
    → SoFar first left' before now format total number skipping refused held'
read_end {first} {left} {before} {now} {format} {total} {number} {skipping} {refused} {held} s left' held' is none =
    let more : SoFar first left' before now format (total + 0) number skipping refused held' =
    read_on s left' [] held' 0 (is ∙ sym (append-nil held)) refl none in
    let same : total + 0 ≡ total = omega arith in
    subst (λ (n : ℕ). SoFar first left' before now format n number skipping refused held') same more

-- where the held bytes have an LF
pub record Break (held line rest : List ℕ) : Type 0 where
  pub cut : held ≡ line ++ 10 ∷ rest
  pub none : HasNoBreak line

pub break_at : (seen held line : List ℕ) (at : ℕ) → seen ≡ held → line ≡ take at held → HasNoBreak (take at seen) →
    seen ≡ take at seen ++ 10 ∷ drop (at + 1) seen → Break held line (drop (at + 1) held)
break_at seen held line at same is none cut =
    let here : held ≡ take at held ++ 10 ∷ drop (at + 1) held = subst (λ (l : List ℕ). l ≡ take at l ++ 10 ∷ drop (at + 1) l) same cut in
    record {
      cut = subst (λ (l : List ℕ). held ≡ l ++ 10 ∷ drop (at + 1) held) (sym is) here;
      none = subst HasNoBreak (sym is) (subst (λ (l : List ℕ). HasNoBreak (take at l)) same none);
    }

-- the start, and one answer more, at a list that is equal to the held one
pub started_at : (first before : Bytes) (format : Format) (held : List ℕ) → held ≡ [] → SoFar first first before before format 0 1 false false held
started_at first before format held is = subst (λ (l : List ℕ). SoFar first first before before format 0 1 false false l) (sym is) (started first before format)

pub line_done_at : {first left before now : Bytes} {format : Format} {total number : ℕ} {skipping refused : Bool}
    {held : List ℕ} (s : SoFar first left before now format total number skipping refused held) (now' : Bytes)
    (line rest held' answer : List ℕ) (one : Bool) → Break held line rest → held' ≡ rest → Grows now now' answer
    → ((whole : List ℕ) → Stands skipping line whole → IsAnswer format number whole answer) →
    ((whole : List ℕ) → Stands skipping line whole → (IsTrue one ↔ IsRefused format number whole))
    → Told format (s.lines ++ (s.part ++ line) ∷ []) → SoFar first left before now' format total (number + 1) false (refused || one) held'
line_done_at {first} {left} {before} {now} {format} {total} {number} {skipping} {refused} {held} s now' line rest held'
    answer one at is grows answers refuses told =
    let stands_so = line_stands s line in
    let next = line_done s now' line rest answer one at.cut at.none grows (answers (s.part ++ line) stands_so) (refuses (s.part ++ line) stands_so) told in
    subst (λ (l : List ℕ). SoFar first left before now' format total (number + 1) false (refused || one) l) (sym is) next

-- the end of the input
pub at_end : {first left before now : Bytes} {format : Format} {total number : ℕ} {skipping refused : Bool}
    {held : List ℕ} → LetGo first left before now format total number skipping refused held →
    (left' : Bytes) (middle held' : List ℕ) → held' ≡ middle → middle ≡ held → Consumes left left' []
    → LetGo first left' before now format total number skipping refused held'
at_end {held = held} go left' middle held' is is' none =
    let same : held' ≡ held = is ∙ is' in
    record {
      so_far = read_end go.so_far left' held' same none;
      none = subst HasNoBreak (sym same) go.none;
      room = omega (arith, go.room, ap length same);
    }
