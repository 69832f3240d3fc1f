-- What a run leaves where it stops.
--   none_read       no byte read
--   Facing, facing_break, facing_last    the run stands before the answer of a line
--   stops_reading, passes_limit, lacks_memory, stops_writing    it stops in the middle
--   ends, ends_in_line    it stops between lines, and with a line begun
--   stops_at_break, still_fails, stops_at_end    it stops at an answer
--   finish_end, finish_line    the outcome at the end
--   complete, read_fault, write_fault, never_usage    what the outcome tells of the end
use Rattle.list_laws.proofs.Kit.{◌≡◌, ⊎_elim, inl, inr, ℕ, ◌+◌, ◌<◌, ◌≤◌, Bool, true, false, ◌||◌, ◌⊎◌, IsTrue, Ok, Err, ◌↔◌, List, [], ◌∷◌, ◌++◌, length}
use Rattle.list_laws.proofs.Kit.{take, Some, None, refl, sym, ◌∙◌, ap, subst, arith, take_at, IfSome, Consumes, Keeps, IsAtEnd}
use Rattle.std.proofs.Common.{append_assoc}
use Rattle.std.proofs.Common.{length-append}
use Rattle.std.proofs.lemmas.List.{append-nil}
use Rattle.std.specs.declared.result.Result.{Result}
use Rattle.tensor_ports.specs.Bytes.{Grows, GrowsInPart}
use Rattle.tensor_ports.proofs.Growing.{grows_none, grows_more}
use Rattle.text_defs.specs.Prelude.{lines_of, whole_lines, ended, format_told, format_of, AreAnswers, IsAnswer, IsRefused}
use Rattle.text_defs.specs.declared.Format.{Format}
use Rattle.line_runs.specs.Reads.{HasNoBreak, Stands}
use Rattle.line_runs.specs.Answering.{Appends, IsQuick, AreQuick}
use Rattle.line_runs.specs.Runs.{SomeLineRefused, NoLineRefused, IsAnswered, StopsReading, StopsWriting, PassesLimit, LacksMemory, Leaves, IsComplete}
use Rattle.line_runs.specs.declared.outcome.Outcome.{Outcome}
use Rattle.line_runs.specs.declared.outcome.Outcome.TheVariants.{Answered, SomeRefused, Usage, ReadFault, WriteFault}
use Rattle.line_runs.proofs.LineLemmas.{no_break_append, lines-ended, lines-whole, whole-ended, ended-push}
use Rattle.line_runs.proofs.AnswerLemmas.{answers-push, told_in}
use Rattle.line_runs.specs.declared.outcome.Stop.{Stop}
use Rattle.line_runs.specs.declared.outcome.Stop.TheVariants.{Memory, Read, Write, Limit}
use Rattle.line_runs.specs.Outcomes.{outcome_at}
use Rattle.line_runs.specs.Stops.{StopsAt, Waits}
use Rattle.line_runs.proofs.Owed.{owed, owed_none, part_of, Fails, fails_none, settled}
use Rattle.line_runs.proofs.Progress.{SoFar, Break, Bytes, consumes_more, consumes_kept, lines-one, all_at, yes_more, no_more, line_stands}

-- the lines of the input are those that are answered, the next one and others
pub record Facing {first left before now : Bytes} {format : Format} {total number : ℕ} {skipping refused : Bool}
    {held : List ℕ} (s : SoFar first left before now format total number skipping refused held) (input line : List ℕ) : Type 0 where
  pub more : List (List ℕ)
  pub split : lines_of input ≡ s.lines ++ line ∷ more
  pub format_is : format ≡ format_of input

-- what is left at the end
left_at_end : (input bytes : List ℕ) (left : Bytes) → Consumes (Some input) left bytes → IsAtEnd left → (left ≡ Some []) × (input ≡ bytes)
left_at_end input bytes None consumed end = absurd consumed
left_at_end input bytes (Some rest) consumed end = (ap Some end, consumed ∙ ap (λ (l : List ℕ). bytes ++ l) end ∙ append-nil bytes)

-- before the first read
pub none_read : (first before : Bytes) → IfSome first (λ input. LacksMemory input first before before)
none_read None before = tt
none_read (Some input) before = record { count = 0; answers = ([], refl, grows_none before); early = λ all. refl }

-- the answers so far are those in the format of an input that begins with these lines
in_format : {first left before now : Bytes} {format : Format} {total number : ℕ} {skipping refused : Bool} {held : List ℕ}
    (s : SoFar first left before now format total number skipping refused held) (input : List ℕ) (more : List (List ℕ))
    → lines_of input ≡ s.lines ++ more → (P : Format → List (List ℕ) → Type 0) → ((f g : Format) → P f [] → P g [])
    → P format s.lines → P (format_of input) s.lines
in_format {format = format} s input more split P any so =
    subst (λ (ls : List (List ℕ)). P (format_told ls) s.lines) (sym split)
    (told_in format s.lines more P s.told (λ other. any format other) so)

answers_in : {first left before now : Bytes} {format : Format} {total number : ℕ} {skipping refused : Bool} {held : List ℕ}
    (s : SoFar first left before now format total number skipping refused held) (input : List ℕ) (more : List (List ℕ))
    → lines_of input ≡ s.lines ++ more → AreAnswers (format_of input) 1 s.lines s.out
answers_in s input more split = in_format s input more split (λ f ls. AreAnswers f 1 ls s.out) (λ f g a. a) s.answers

module _ {before now : Bytes} {format : Format} {total number : ℕ} {skipping refused : Bool} {held : List ℕ} where
  -- the input begins with the lines that are answered
  begun : (input : List ℕ) (left : Bytes) (s : SoFar (Some input) left before now format total number skipping refused held)
      → (more : List (List ℕ)) × (lines_of input ≡ s.lines ++ more)
  begun input None s = absurd s.taken
  begun input (Some after) s =
      let tail = (s.part ++ held) ++ after in
      (lines_of tail, ap lines_of (s.taken ∙ append_assoc (ended s.lines) (s.part ++ held) after) ∙ lines-ended s.lines tail s.breaks)

  pub stops_reading : (first left left' : Bytes) →
      SoFar first left before now format total number skipping refused held → HasNoBreak held → Keeps left left' →
      IfSome first (λ input. StopsReading input left' before now)
  stops_reading None left left' s none kept = tt
  stops_reading (Some input) left left' s none kept =
      let bytes = ended s.lines ++ (s.part ++ held) in
      let lines : whole_lines bytes ≡ s.lines = whole-ended s.lines (s.part ++ held) s.breaks (no_break_append s.part held s.no_break none) in
      let begins = begun input left s in
      record {
        taken = bytes;
        consumed = subst (λ (l : List ℕ). Consumes (Some input) left' l) (append-nil bytes)
            (consumes_more (Some input) left left' bytes [] s.taken (consumes_kept left left' kept));
        answers = (s.out, subst (λ (ls : List (List ℕ)). AreAnswers (format_of input) 1 ls s.out) (sym lines) (answers_in s input begins.0 begins.1), s.grown);
      }

  pub passes_limit : (limit : ℕ) (first left left' : Bytes) (probe : List ℕ) →
      SoFar first left before now format total number skipping refused held → HasNoBreak held → total ≡ limit →
      length probe ≡ 1 → Consumes left left' probe
      → IfSome first (λ input. PassesLimit limit input left' before now)
  passes_limit limit None left left' probe s none is one more = tt
  passes_limit limit (Some input) None left' probe s none is one more = absurd s.taken
  passes_limit limit (Some input) (Some rest) None probe s none is one more = absurd more
  passes_limit limit (Some input) (Some rest) (Some after) probe s none is one more =
      let bytes = ended s.lines ++ (s.part ++ held) in
      let whole : input ≡ bytes ++ rest = s.taken in
      let next : rest ≡ probe ++ after = more in
      let size : length bytes ≡ limit = sym s.total_is ∙ is in
      let front : take limit input ≡ bytes = ap (λ (l : List ℕ). take limit l) whole ∙ take_at bytes rest limit size in
      let lines : whole_lines (take limit input) ≡ s.lines = ap whole_lines front
      ∙ whole-ended s.lines (s.part ++ held) s.breaks (no_break_append s.part held s.no_break none) in
      let all : input ≡ (bytes ++ probe) ++ after = whole ∙ ap (λ (l : List ℕ). bytes ++ l) next ∙ sym (append_assoc bytes probe after) in
      let longer : take (limit + 1) input ≡ bytes ++ probe = ap (λ (l : List ℕ). take (limit + 1) l) all
      ∙ take_at (bytes ++ probe) after (limit + 1) (omega (arith, size, one, length-append bytes probe)) in
      let begins = begun input (Some rest) s in
      record {
        past = omega (arith, size, one, ap length all, length-append (bytes ++ probe) after, length-append bytes probe);
        consumed = all ∙ ap (λ (l : List ℕ). l ++ after) (sym longer);
        answers = (s.out, subst (λ (ls : List (List ℕ)). AreAnswers (format_of input) 1 ls s.out) (sym lines) (answers_in s input begins.0 begins.1), s.grown);
      }

  -- a line that is held with its LF
  pub facing_break : (input : List ℕ) (left : Bytes)
      (s : SoFar (Some input) left before now format total number skipping refused held) (line rest : List ℕ) →
      held ≡ line ++ 10 ∷ rest → HasNoBreak line
      → ((more : List (List ℕ)) → format ≡ format_told (s.lines ++ (s.part ++ line) ∷ more)) → Facing s input (s.part ++ line)
  facing_break input None s line rest is none tells = absurd s.taken
  facing_break input (Some after) s line rest is none tells =
      let whole = s.part ++ line in
      let tail : (s.part ++ held) ++ after ≡ whole ++ 10 ∷ (rest ++ after) =
      ap (λ (l : List ℕ). (s.part ++ l) ++ after) is
      ∙ ap (λ (l : List ℕ). l ++ after) (sym (append_assoc s.part line (10 ∷ rest)))
      ∙ append_assoc whole (10 ∷ rest) after in
      let bytes : input ≡ ended s.lines ++ (whole ++ 10 ∷ (rest ++ after)) = s.taken
      ∙ append_assoc (ended s.lines) (s.part ++ held) after ∙ ap (λ (l : List ℕ). ended s.lines ++ l) tail in
      let split : lines_of input ≡ s.lines ++ whole ∷ lines_of (rest ++ after) =
      ap lines_of bytes ∙ lines-ended s.lines (whole ++ 10 ∷ (rest ++ after)) s.breaks
      ∙ ap (λ (ls : List (List ℕ)). s.lines ++ ls) (lines-whole whole (rest ++ after) (no_break_append s.part line s.no_break none)) in
      record {
        more = lines_of (rest ++ after);
        split = split;
        format_is = tells (lines_of (rest ++ after)) ∙ ap format_told (sym split);
      }

  -- the last line, without an LF
  pub last_lines : (input : List ℕ) (left : Bytes)
      (s : SoFar (Some input) left before now format total number skipping refused held) → HasNoBreak held →
      0 < length (s.part ++ held) → IsAtEnd left → lines_of input ≡ s.lines ++ (s.part ++ held) ∷ []
  last_lines input left s none some end =
      let is = left_at_end input (ended s.lines ++ (s.part ++ held)) left s.taken end in
      ap lines_of is.1 ∙ lines-ended s.lines (s.part ++ held) s.breaks
      ∙ ap (λ (ls : List (List ℕ)). s.lines ++ ls) (lines-one (s.part ++ held) some (no_break_append s.part held s.no_break none))

  pub facing_last : (input : List ℕ) (left : Bytes)
      (s : SoFar (Some input) left before now format total number skipping refused held) → HasNoBreak held →
      0 < length (s.part ++ held) → IsAtEnd left
      → ((more : List (List ℕ)) → format ≡ format_told (s.lines ++ (s.part ++ held) ∷ more)) → Facing s input (s.part ++ held)
  facing_last input left s none some end tells =
      let split = last_lines input left s none some end in
      record { more = []; split = split; format_is = tells [] ∙ ap format_told (sym split) }

  -- memory was refused for the answer of this line
  pub lacks_memory : (input line : List ℕ) (left : Bytes)
      (s : SoFar (Some input) left before now format total number skipping refused held) → Facing s input line →
      (IsQuick format number line → ⊥) → LacksMemory input left before now
  lacks_memory input line left s facing slow =
      let lines : take (length s.lines) (lines_of input) ≡ s.lines =
      ap (λ (ls : List (List ℕ)). take (length s.lines) ls) facing.split ∙ take_at s.lines (line ∷ facing.more) (length s.lines) refl in
      record {
        count = length s.lines;
        answers = (
          s.out,
          subst (λ (ls : List (List ℕ)). AreAnswers (format_of input) 1 ls s.out) (sym lines)
              (answers_in s input (line ∷ facing.more) facing.split),
          s.grown,
        );
        early = λ all.
            let these : AreQuick format 1 (s.lines ++ line ∷ facing.more) =
            subst (λ (f : Format). AreQuick f 1 (s.lines ++ line ∷ facing.more)) (sym facing.format_is)
            (subst (λ (ls : List (List ℕ)). AreQuick (format_of input) 1 ls) facing.split all) in
            absurd (slow (subst (λ (n : ℕ). IsQuick format n line) (sym s.number_is) (all_at format 1 s.lines line facing.more these)));
      }

  -- its answer was written in part
  pub stops_writing : (input line : List ℕ) (left now' : Bytes)
      (s : SoFar (Some input) left before now format total number skipping refused held) → Facing s input line →
      length s.part ≤ length line → length held ≤ 4001
      → (answer : List ℕ) → IsAnswer format number line answer → GrowsInPart now now' answer → StopsWriting input left before now'
  stops_writing input line left now' s facing longer small answer next grows =
      record {
        whole = s.lines;
        line = line;
        more = facing.more;
        split = facing.split;
        out = s.out;
        answer = answer;
        answers = answers_in s input (line ∷ facing.more) facing.split;
        next = subst (λ (f : Format). IsAnswer f (length s.lines + 1) line answer) facing.format_is
            (subst (λ (n : ℕ). IsAnswer format n line answer) s.number_is next);
        count = grows.0;
        part = grows.1;
        grown = grows_more before now now' s.out (take grows.0 answer) s.grown grows.2;
        taken = ended s.lines ++ (s.part ++ held);
        consumed = s.taken;
        bound = omega (arith, longer, small, length-append (ended s.lines) (s.part ++ held), length-append s.part held, size);
      }
    where
      closed : ended (s.lines ++ line ∷ []) ++ [] ≡ ended s.lines ++ (line ++ 10 ∷ [])
      closed = ended-push s.lines line []

      size : length (ended (s.lines ++ line ∷ [])) ≡ length (ended s.lines) + (length line + 1)
      size = omega (
        arith,
        ap length (append-nil (ended (s.lines ++ line ∷ []))),
        ap length closed,
        length-append (ended s.lines) (line ++ 10 ∷ []),
        length-append line (10 ∷ []),
      )

  -- the input ends behind an LF
  pub ends : (limit : ℕ) (first left : Bytes) (Lines : Format → List (List ℕ) →
      Type 0) (s : SoFar first left before now format total number skipping refused held) → s.part ++ held ≡ [] →
      total ≤ limit → IsAtEnd left → ((f g : Format) → Lines f [] → Lines g []) → Lines format s.lines →
      IfSome first (λ input. IsAnswered limit input left before now Lines)
  ends limit None left Lines s none fits end any such = tt
  ends limit (Some input) left Lines s none fits end any such =
      let bytes = ended s.lines ++ (s.part ++ held) in
      let is = left_at_end input bytes left s.taken end in
      let lines : lines_of input ≡ s.lines = ap lines_of (is.1 ∙ ap (λ (l : List ℕ). ended s.lines ++ l) none)
      ∙ lines-ended s.lines [] s.breaks ∙ append-nil s.lines in
      let begins : lines_of input ≡ s.lines ++ [] = lines ∙ sym (append-nil s.lines) in
      record {
        within = omega (arith, fits, s.total_is, ap length is.1);
        all = is.0;
        answers = (s.out, subst (λ (ls : List (List ℕ)). AreAnswers (format_of input) 1 ls s.out) (sym lines) (answers_in s input [] begins), s.grown);
        lines = subst (λ (ls : List (List ℕ)). Lines (format_of input) ls) (sym lines) (in_format s input [] begins Lines any such);
      }

  -- the last line has no LF, and is answered
  pub ends_in_line : (limit : ℕ) (first left now' : Bytes) (Lines : Format → List (List ℕ) →
      Type 0) (s : SoFar first left before now format total number skipping refused held) → HasNoBreak held →
      0 < length (s.part ++ held) → total ≤ limit → IsAtEnd left
      → (answer : List ℕ) → IsAnswer format number (s.part ++ held) answer → Grows now now' answer
      → ((more : List (List ℕ)) → format ≡ format_told (s.lines ++ (s.part ++ held) ∷ more)) → Lines format (s.lines ++ (s.part ++ held) ∷ [])
      → IfSome first (λ input. IsAnswered limit input left before now' Lines)
  ends_in_line limit None left now' Lines s none some fits end answer next grows tells such = tt
  ends_in_line limit (Some input) left now' Lines s none some fits end answer next grows tells such =
      let bytes = ended s.lines ++ (s.part ++ held) in
      let is = left_at_end input bytes left s.taken end in
      let lines = last_lines input left s none some end in
      let out = s.out ++ answer in
      let answered : AreAnswers format 1 (s.lines ++ (s.part ++ held) ∷ []) out =
      answers-push format 1 s.lines (s.part ++ held) s.out answer s.answers
      (subst (λ (n : ℕ). IsAnswer format n (s.part ++ held) answer) s.number_is next) in
      let told : format ≡ format_of input = tells [] ∙ ap format_told (sym lines) in
      record {
        within = omega (arith, fits, s.total_is, ap length is.1);
        all = is.0;
        answers = (
          out,
          subst (λ (f : Format). AreAnswers f 1 (lines_of input) out) told
              (subst (λ (ls : List (List ℕ)). AreAnswers format 1 ls out) (sym lines) answered),
          grows_more before now now' s.out answer s.grown grows,
        );
        lines = subst (λ (f : Format). Lines f (lines_of input)) told (subst (λ (ls : List (List ℕ)). Lines format ls) (sym lines) such);
      }

-- ---- the run stops at an answer: of a line that is held with its LF, or of the last one; others may wait
module _ {before told : Bytes} {format : Format} {total number : ℕ} {skipping refused : Bool} {held : List ℕ} (now : Bytes)
    (waiting : List ℕ) (is : told ≡ owed now waiting) where
  -- a front of what waits and of the answer was written
  part_stops : (input line bytes all : List ℕ) (left now' : Bytes)
      (s : SoFar (Some input) left before told format total number skipping refused held) → Facing s input line →
      length s.part ≤ length line → length held ≤ 4001 → Stands skipping bytes line → Fails (Some input) left before now waiting
      → Appends format number skipping bytes waiting all → GrowsInPart now now' all → StopsWriting input left before now'
  part_stops input line bytes all left now' s facing longer small at fails adds part =
      ⊎_elim (λ few. fails now' few)
      (λ many. stops_writing input line left now' s facing longer small adds.answer (adds.is_answer line at)
      (subst (λ (b : Bytes). GrowsInPart b now' adds.answer) (sym is) many))
      (part_of now now' waiting adds.answer (subst (λ (l : List ℕ). GrowsInPart now now' l) adds.grown part))

  stops_at : (input line bytes : List ℕ) (left now' : Bytes)
      (s : SoFar (Some input) left before told format total number skipping refused held) → Facing s input line →
      length s.part ≤ length line → length held ≤ 4001 → Stands skipping bytes line → Fails (Some input) left before now waiting
      → (stop : Stop) → StopsAt stop format number skipping bytes waiting now now' → (limit : ℕ)
      → Leaves limit (outcome_at (Err stop)) input left before now'
  unfolding settled
  stops_at input line bytes left now' s facing longer small at fails Memory stopped limit =
      lacks_memory input line left (settled s now waiting is now' stopped.0)
      (record { more = facing.more; split = facing.split; format_is = facing.format_is }) (stopped.1 line at)
  stops_at input line bytes left now' s facing longer small at fails Write (inl part) limit = fails now' part
  stops_at input line bytes left now' s facing longer small at fails Write (inr of) limit =
      part_stops input line bytes of.0 left now' s facing longer small at fails of.1 of.2
  stops_at input line bytes left now' s facing longer small at fails Read stopped limit = absurd stopped
  stops_at input line bytes left now' s facing longer small at fails Limit stopped limit = absurd stopped

  pub stops_at_break : (ended : Result Bool Stop) (stop : Stop) → ended ≡ Err stop → (limit : ℕ) (first left now' : Bytes)
      (s : SoFar first left before told format total number skipping refused held) (line rest : List ℕ) → Break held line rest
      → length held ≤ 4001 → ((more : List (List ℕ)) → format ≡ format_told (s.lines ++ (s.part ++ line) ∷ more))
      → Fails first left before now waiting → StopsAt stop format number skipping line waiting now now'
      → IfSome first (λ input. Leaves limit (outcome_at ended) input left before now')
  stops_at_break ended stop of limit None left now' s line rest at small tells fails stopped = tt
  stops_at_break ended stop of limit (Some input) left now' s line rest at small tells fails stopped =
      subst (λ (e : Result Bool Stop). Leaves limit (outcome_at e) input left before now') (sym of)
      (stops_at input (s.part ++ line) line left now' s (facing_break input left s line rest at.cut at.none tells)
      (omega (arith, length-append s.part line)) small (line_stands s line) fails stop stopped limit)

  -- the next answer waits too, or all were written
  pub still_fails : (first left now' : Bytes) (s : SoFar first left before told format total number skipping refused held)
      (line rest all waiting' : List ℕ) → Break held line rest → length held ≤ 4001
      → ((more : List (List ℕ)) → format ≡ format_told (s.lines ++ (s.part ++ line) ∷ more)) → Fails first left before now waiting
      → Appends format number skipping line waiting all → Waits all waiting' now now' → Fails first left before now' waiting'
  still_fails first left now' s line rest all waiting' at small tells fails adds (inr written) = fails_none first left before now' waiting' written.0
  still_fails None left now' s line rest all waiting' at small tells fails adds (inl waits) = λ after part. tt
  still_fails (Some input) left now' s line rest all waiting' at small tells fails adds (inl waits) = λ after part.
      part_stops input (s.part ++ line) line all left after s (facing_break input left s line rest at.cut at.none tells)
      (omega (arith, length-append s.part line)) small (line_stands s line) fails adds
      (subst (λ (b : Bytes). GrowsInPart b after all) waits.0 (subst (λ (l : List ℕ). GrowsInPart now' after l) waits.1 part))

pub stops_at_end : {before now : Bytes} {format : Format} {total number : ℕ} {skipping refused : Bool} {held : List ℕ}
    (result : Result Bool Stop) (stop : Stop) → result ≡ Err stop → (limit : ℕ) (first left now' : Bytes)
    (s : SoFar first left before now format total number skipping refused held) → HasNoBreak held → 0 < length (s.part ++ held)
    → IsAtEnd left → length held ≤ 4001 → ((more : List (List ℕ)) → format ≡ format_told (s.lines ++ (s.part ++ held) ∷ more))
    → StopsAt stop format number skipping held [] now now' → IfSome first (λ input. Leaves limit (outcome_at result) input left before now')
stops_at_end result stop of limit None left now' s none some end small tells stopped = tt
stops_at_end {before} {now} {held = held} result stop of limit (Some input) left now' s none some end small tells stopped =
    subst (λ (e : Result Bool Stop). Leaves limit (outcome_at e) input left before now') (sym of)
    (stops_at now [] (sym (owed_none now)) input (s.part ++ held) held left now' s (facing_last input left s none some end tells)
    (omega (arith, length-append s.part held)) small (line_stands s held) (fails_none (Some input) left before now [] refl) stop stopped limit)

-- ---- the outcome at the end

choose : (refused : Bool) (P : Outcome → Type 0) → (refused ≡ true → P SomeRefused) → (refused ≡ false → P Answered) → P (outcome_at (Ok refused))
choose true P at_true at_false = at_true refl
choose false P at_true at_false = at_false refl

module _ {first left before now : Bytes} {format : Format} {total number : ℕ} {skipping refused : Bool} {held : List ℕ}
    (s : SoFar first left before now format total number skipping refused held) (limit : ℕ) (fits : total ≤ limit)
    (end : IsAtEnd left) where
  pub finish_end : skipping ≡ false → held ≡ [] → IfSome first (λ input. Leaves limit (outcome_at (Ok refused)) input left before now)
  finish_end short empty =
      let none : s.part ++ held ≡ [] = ap (λ (l : List ℕ). l ++ held) (s.short short) ∙ empty in
      choose refused (λ o. IfSome first (λ input. Leaves limit o input left before now))
      (λ yes. ends limit first left SomeLineRefused s none fits end (λ f g a. a) (s.yes yes))
      (λ no. ends limit first left NoLineRefused s none fits end (λ f g a. a) (s.no no))

  pub finish_line : (now' : Bytes) (one : Bool) → HasNoBreak held → 0 < length (s.part ++ held) → (answer : List ℕ) →
      ((whole : List ℕ) → Stands skipping held whole → IsAnswer format number whole answer) →
      ((whole : List ℕ) → Stands skipping held whole → (IsTrue one ↔ IsRefused format number whole)) → Grows now now' answer
      → ((more : List (List ℕ)) → format ≡ format_told (s.lines ++ (s.part ++ held) ∷ more)) →
      IfSome first (λ input. Leaves limit (outcome_at (Ok (refused || one))) input left before now')
  finish_line now' one none some answer answers refuses grows tells =
      let whole = s.part ++ held in
      let at = line_stands s held in
      let this = subst (λ (n : ℕ). IsTrue one ↔ IsRefused format n whole) s.number_is (refuses whole at) in
      choose (refused || one) (λ o. IfSome first (λ input. Leaves limit o input left before now'))
      (λ yes. ends_in_line limit first left now' SomeLineRefused s none some fits end answer (answers whole at) grows
      tells (yes_more format refused one s.lines whole s.yes this yes))
      (λ no. ends_in_line limit first left now' NoLineRefused s none some fits end answer (answers whole at) grows
      tells (no_more format refused one s.lines whole s.no this no))

-- something of a line was taken
pub some_left : {first left before now : Bytes} {format : Format} {total number : ℕ} {skipping refused : Bool}
    {held : List ℕ} (s : SoFar first left before now format total number skipping refused held) →
    (skipping ≡ true) ⊎ (0 < length held) → 0 < length (s.part ++ held)
some_left {held = held} s (inl skips) = omega (arith, s.long skips, length-append s.part held)
some_left {held = held} s (inr some) = omega (arith, some, length-append s.part held)

-- where nothing failed
complete_one : (limit : ℕ) (ended : Result Bool Stop) (input : List ℕ) (left before now : Bytes) →
    (ended ≡ Err Read → ⊥) → (ended ≡ Err Write → ⊥) → Leaves limit (outcome_at ended) input left before now →
    IsComplete (outcome_at ended) limit input
complete_one limit (Ok true) input left before now read write leaves = leaves.within
complete_one limit (Ok false) input left before now read write leaves = leaves.within
complete_one limit (Err Memory) input left before now read write leaves = tt
complete_one limit (Err Read) input left before now read write leaves = absurd (read refl)
complete_one limit (Err Write) input left before now read write leaves = absurd (write refl)
complete_one limit (Err Limit) input left before now read write leaves = leaves.past

pub complete : (first : Bytes) (limit : ℕ) (outcome : Outcome) (ended : Result Bool Stop) →
    outcome ≡ outcome_at ended → (left before now : Bytes) → (ended ≡ Err Read → ⊥) → (ended ≡ Err Write → ⊥) →
    IfSome first (λ input. Leaves limit (outcome_at ended) input left before now) → IfSome first (λ input. IsComplete outcome limit input)
complete None limit outcome ended of left before now read write leaves = tt
complete (Some input) limit outcome ended of left before now read write leaves =
    subst (λ (o : Outcome). IsComplete o limit input) (sym of) (complete_one limit ended input left before now read write leaves)

-- a fault is the cause of its outcome
pub read_fault : (ended : Result Bool Stop) → outcome_at ended ≡ ReadFault → ended ≡ Err Read
read_fault (Ok true) is = cc
read_fault (Ok false) is = cc
read_fault (Err Memory) is = cc
read_fault (Err Read) is = refl
read_fault (Err Write) is = cc
read_fault (Err Limit) is = cc

pub write_fault : (ended : Result Bool Stop) → outcome_at ended ≡ WriteFault → ended ≡ Err Write
write_fault (Ok true) is = cc
write_fault (Ok false) is = cc
write_fault (Err Memory) is = cc
write_fault (Err Read) is = cc
write_fault (Err Write) is = refl
write_fault (Err Limit) is = cc

pub never_usage : (ended : Result Bool Stop) → outcome_at ended ≡ Usage → ⊥
never_usage (Ok true) is = cc
never_usage (Ok false) is = cc
never_usage (Err Memory) is = cc
never_usage (Err Read) is = cc
never_usage (Err Write) is = cc
never_usage (Err Limit) is = cc
