-- What the public readers of lines answer.
--   TellsGroup, TellsJahn    a read word tells a symbol and its column, which is its place counted from 1
--   TellsList       a span tells Jahn words: they stand from its start to the end of the line
--   IsNthWord       the word of a list with a number, counted from 1; none at 0 and past the last word
--   Tells           a read request tells a request: the kind, the symbols with their columns, the weights
--   ReadsRequest    the request of the format that the line spells, or else the place where the line goes wrong
--   ReadsWorded     the same, but where the line goes wrong as a line with a keyword
-- Source: this project's own, over the texts of requests.
use Rattle.std.specs.Prelude.{◌≡◌, ◌⊎◌, ℕ, ◌+◌, ◌-◌, ◌<◌, ◌≤◌, List, ◌∷◌, drop, take, length, get_or, Option, Some, None, Result, Ok, Err}
use Rattle.text_defs.specs.Prelude.{SpellsJahn, IsFaulty, GroupAt, JahnAt, JahnWords, SpellsRequest, IsNoRequest}
use Rattle.text_defs.specs.declared.Format.{Format}
use Rattle.text_defs.specs.Requests as defs
use Rattle.text_defs.specs.declared.Fault.{Fault}
use Rattle.request_lines.specs.Keywords.{IsWorded}
use Rattle.request_lines.specs.declared.Named.{Named}
use Rattle.request_lines.specs.declared.Span.{Span}
use Rattle.request_lines.specs.declared.Request.{Request}
use Rattle.request_lines.specs.declared.Request.TheVariants.{Form, Group, Voigt, States, Pairs, Differ, Same, Comment}

pub record TellsGroup (g : Named) (a : GroupAt) : Type 0 where
  pub symbol : a.symbol ≡ g.tree
  pub column : a.column ≡ g.start + 1

-- the span lies in the line, its bytes spell the symbol, and behind it stands a space or a comma, or the line ends
pub record TellsJahn (line : List ℕ) (j : Span) (b : JahnAt) : Type 0 where
  pub forward : j.start ≤ j.end
  pub within : j.end ≤ length line
  pub spells : SpellsJahn (take (j.end - j.start) (drop j.start line)) b.jahn
  pub ends : j.end < length line → (get_or line j.end 0 ≡ 32) ⊎ (get_or line j.end 0 ≡ 44)
  pub column : b.column ≡ j.start + 1

pub record TellsList (line : List ℕ) (list : Span) (js : List JahnAt) : Type 0 where
  pub within : list.start ≤ length line
  pub end : list.end ≡ length line
  pub words : JahnWords (take list.start line) line js

abbrev pub IsList : List ℕ → Span → Type 0
IsList line list = (js : List JahnAt) × TellsList line list js

pub record NthWord (line : List ℕ) (js : List JahnAt) (n : ℕ) (word : Span) : Type 0 where
  pub jahn : JahnAt
  pub counted : 1 ≤ n
  pub is_nth : drop (n - 1) js ≡ jahn ∷ drop n js
  pub tells : TellsJahn line word jahn

abbrev pub IsNthWord : List ℕ → List JahnAt → ℕ → Option Span → Type 0
IsNthWord line js n (Some word) = NthWord line js n word
IsNthWord line js n None = (n ≡ 0) ⊎ (length js < n)

abbrev pub Tells : List ℕ → Request → defs.Request → Type 0
Tells line (Form g j) (defs.Form a js) = TellsGroup g a × TellsList line j js
Tells line (Group g) (defs.Group a) = TellsGroup g a
Tells line (Voigt g j w) (defs.Voigt a b v) = TellsGroup g a × TellsJahn line j b × (v ≡ w)
Tells line (States g f) (defs.States a c) = TellsGroup g a × TellsGroup f c
Tells line (Pairs g f) (defs.Pairs a c) = TellsGroup g a × TellsGroup f c
Tells line (Differ g f j) (defs.Differ a c js) = TellsGroup g a × TellsGroup f c × TellsList line j js
Tells line (Same g h j) (defs.Same a c b) = TellsGroup g a × TellsGroup h c × TellsJahn line j b
Tells line Comment defs.Comment = Unit {0}
Tells line r q = ⊥

abbrev pub ReadsRequest : Format → List ℕ → Result Request Fault → Type 0
ReadsRequest format line (Ok r) = (q : defs.Request) × SpellsRequest format line q × Tells line r q
ReadsRequest format line (Err f) = IsNoRequest format line f.place

abbrev pub ReadsWorded : Format → List ℕ → Result Request Fault → Type 0
ReadsWorded format line (Ok r) = ReadsRequest format line (Ok r)
ReadsWorded format line (Err f) = IsFaulty (IsWorded format) line f.place
