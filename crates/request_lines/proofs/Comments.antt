-- Comments, and lines that are none.
--   worded_first    no request with a keyword begins as a comment
--   worded_wrong    a line that doesn't begin as a comment goes wrong where it goes wrong as a request with a keyword
--   comment_read    a comment without a line feed is read
--   comment_wrong   it goes wrong at its first line feed
use Rattle.std.proofs.Common.{◌≡◌, ◌≢◌, ℕ, zero, suc, ◌<◌, ◌≤◌, List, [], ◌∷◌, ◌++◌, length, take, get_or, Result, Ok, Err}
use Rattle.std.proofs.Common.{refl, sym, ap, subst, ◌∙◌, inl, inr, arith, lit≤}
use Rattle.std.proofs.lemmas.List.{length-append, length-take, get_or-take, get_or_append_left, append-nil}
use Rattle.tensor_defs.specs.Lists.{Each}
use Rattle.text_defs.specs.Prelude.{IsFaulty, IsComment, IsRequestText, IsNoRequest}
use Rattle.text_defs.specs.declared.Format.{Format}
use Rattle.text_defs.specs.declared.Format.TheVariants.{One, Two}
use Rattle.text_defs.specs.Requests as defs
use Rattle.text_defs.specs.declared.Fault.{Fault}
use Rattle.request_lines.specs.declared.Request.{Request}
use Rattle.request_lines.specs.declared.Request.TheVariants as request
use Rattle.request_lines.specs.declared.keywords.Keyword.{Keyword}
use Rattle.request_lines.specs.declared.keywords.Keyword.TheVariants.{Form, Group, Voigt, States, Pairs, Differ, Same}
use Rattle.request_lines.specs.Keywords.{keyword_text, IsWorded}
use Rattle.request_lines.specs.Parts.{IsCommented}
use Rattle.request_lines.specs.Readings.{ReadsRequest, ReadsWorded}
use Rattle.request_lines.proofs.Requests.{request_of, spells_some}

keyword_first : (k : Keyword) (rest : List ℕ) → 36 ≤ get_or (keyword_text k ++ rest) 0 0
keyword_first Form rest = lit≤ tt
keyword_first Group rest = lit≤ tt
keyword_first Voigt rest = lit≤ tt
keyword_first States rest = lit≤ tt
keyword_first Pairs rest = lit≤ tt
keyword_first Differ rest = lit≤ tt
keyword_first Same rest = lit≤ tt

pub worded_first : (format : Format) (line : List ℕ) → IsWorded format line → get_or line 0 0 ≡ 35 → ⊥
worded_first format line (k, r) e =
    let first : 36 ≤ get_or (keyword_text k ++ r.rest) 0 0 = keyword_first k r.rest in
    let same : get_or line 0 0 ≡ get_or (keyword_text k ++ r.rest) 0 0 = ap (λ (l : List ℕ). get_or l 0 0) r.text in
    omega arith

commented : (format : Format) (line : List ℕ) → IsComment format line → IsCommented format line
commented One line h = absurd h
commented Two line h =
    let P : List ℕ → Type 0 = λ (l : List ℕ). IsCommented Two l in subst P (sym h.1) (omega arith, refl)

pub at_front : (line more : List ℕ) (n k : ℕ) → n ≤ length line → k < n → get_or (take n line ++ more) k 0 ≡ get_or line k 0
at_front line more n k fits lt =
    get_or_append_left (take n line) more 0 k (omega (arith, length-take n line)) ∙ get_or-take n line k 0 lt

-- a front with a byte at least begins as the line does
front_commented : (format : Format) (line more : List ℕ) (n : ℕ) → n ≤ length line → 0 < n →
    IsCommented format (take n line ++ more) → IsCommented format line
front_commented One line more n fits some h = absurd h
front_commented Two line more n fits some h = (omega arith, sym (at_front line more n 0 fits some) ∙ h.1)

pub worded_wrong : (format : Format) (line : List ℕ) (place : ℕ) → (IsCommented format line → ⊥) →
    IsFaulty (IsWorded format) line place → IsNoRequest format line place
worded_wrong format line place other f = record {
  none = λ t. none line (λ h. other h) f.none t;
  place_is = record {
    within = f.place_is.within;
    begins = (f.place_is.begins.0, (let w = f.place_is.begins.1 in spells_some format _ w.0 w.1));
    longest = λ n fits more b.
        none (take n line ++ b.0) (λ h. other (front_commented format line b.0 n fits (omega arith) h))
        (λ w. f.place_is.longest n fits more (b.0, w)) b.1;
  };
}
  where
    none : (z : List ℕ) → (IsCommented format z → ⊥) → (IsWorded format z → ⊥) → IsRequestText format z → ⊥
    none z no_comment no_words t =
        elim (request_of format z t.0 t.1) [ inl c ↦ no_comment (commented format z c) | inr w ↦ no_words w ]

pub worded_read : (format : Format) (line : List ℕ) (r : Result Request Fault) → (IsCommented format line → ⊥) →
    ReadsWorded format line r → ReadsRequest format line r
worded_read format line (Ok q) other h = h
worded_read format line (Err f) other h = worded_wrong format line f.place other h

-- ---- the bytes of a comment
abbrev pub NoFeeds : List ℕ → ℕ → Type 0
NoFeeds line at = (k : ℕ) → 1 ≤ k → k < at → get_or line k 0 ≢ 10

clean_rest : (l : List ℕ) → ((k : ℕ) → k < length l → get_or l k 0 ≢ 10) → Each (λ b. b ≢ 10) l
clean_rest [] h = tt
clean_rest (x ∷ l) h = (h zero (omega arith), clean_rest l (λ k lt. h (suc k) (omega (arith, lt))))

clean_at : (l : List ℕ) (k : ℕ) → Each (λ b. b ≢ 10) l → k < length l → get_or l k 0 ≢ 10
clean_at [] k h lt = absurd (omega arith)
clean_at (x ∷ l) zero h lt = h.0
clean_at (x ∷ l) (suc k) h lt = clean_at l k h.1 (omega (arith, lt))

-- a line that begins with #, without a line feed
comment_of : (line : List ℕ) → IsCommented Two line → NoFeeds line (length line) → IsComment Two line
comment_of [] h feeds = absurd (omega (arith, h.0))
comment_of (b ∷ rest) h feeds =
    (rest, ap (λ (x : ℕ). x ∷ rest) h.1, clean_rest rest (λ k lt. feeds (suc k) (omega arith) (omega (arith, lt))))

pub comment_read : (line : List ℕ) (at : ℕ) → IsCommented Two line → NoFeeds line at → length line ≤ at →
    ReadsRequest Two line (Ok request.Comment)
comment_read line at h feeds le = (defs.Comment, comment_of line h (λ k low lt. feeds k low (omega arith)), tt)

no_feed : (line : List ℕ) (at : ℕ) → IsComment Two line → 1 ≤ at → at < length line → get_or line at 0 ≢ 10
no_feed line zero h low lt = absurd (omega arith)
no_feed line (suc k) h low lt =
    let P : List ℕ → Type 0 = λ (l : List ℕ). suc k < length l → get_or l (suc k) 0 ≢ 10 in
    subst P (sym h.1) (λ below. clean_at h.0 k h.2 (omega (arith, below))) lt

pub comment_wrong : (line : List ℕ) (at : ℕ) → IsCommented Two line → NoFeeds line at → 1 ≤ at → at < length line →
    get_or line at 0 ≡ 10 → IsNoRequest Two line at
comment_wrong line at h feeds low lt feed = record {
  none = none line h lt feed;
  place_is = record {
    within = omega arith;
    begins = ([], (defs.Comment, subst (IsComment Two) (sym (append-nil (take at line))) front));
    longest = λ n fits more b.
        let z = take n line ++ b.0 in
        let inside : at < length z = omega (arith, length-append (take n line) b.0, length-take n line) in
        none z (omega arith, at_front line b.0 n 0 fits (omega arith) ∙ h.1) inside (at_front line b.0 n at fits more ∙ feed) b.1;
  };
}
  where
    front : IsComment Two (take at line)
    front =
        let size : length (take at line) ≡ at = omega (arith, length-take at line) in
        comment_of (take at line) (omega arith, get_or-take at line 0 0 (omega arith) ∙ h.1)
        (λ k one below e. feeds k one (omega arith) (sym (get_or-take at line k 0 (omega arith)) ∙ e))

    none : (z : List ℕ) → IsCommented Two z → at < length z → get_or z at 0 ≡ 10 → IsRequestText Two z → ⊥
    none z begun inside e t =
        elim (request_of Two z t.0 t.1) [
          | inl c ↦ no_feed z at c low inside e
          | inr w ↦ worded_first Two z w begun.1
        ]
