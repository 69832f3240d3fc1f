-- The request that a line spells, by what was read of it.
--   form_told, group_told, states_told, pairs_told, same_told    the request of each kind
--   differ_near     the groups of a request for distinguishing components begin within the line
--   not_comment     what is read as another kind is no comment
use Rattle.std.proofs.Common.{◌≡◌, ℕ, ◌≤◌, List, [], ◌∷◌, ◌++◌, codes, length, length-append, refl, sym, ◌∙◌, ap, subst, arith}
use Rattle.text_defs.specs.declared.Format.{Format}
use Rattle.text_defs.specs.declared.Format.TheVariants.{One, Two}
use Rattle.text_defs.specs.Requests.{GroupAt, JahnAt, Request, SpellsRequest, JahnWords, longest_line, most_words}
use Rattle.text_defs.specs.Requests.Request.{Form, Group, Voigt, States, Pairs, Differ, Same, Comment}
use Rattle.tensor_defs.specs.declared.Weights.{Weights}
use Rattle.text_laws.proofs.RequestUnique.{one_request_spelled}
use Rattle.request_lines.specs.Readings.{Tells, TellsGroup, TellsJahn, TellsList}
use Rattle.request_lines.specs.declared.Named.{Named}
use Rattle.request_lines.specs.declared.Span.{Span}
use Rattle.request_lines.specs.declared.Request.TheVariants as read
use Rattle.request_lines.specs.declared.Request.{Request as ReadRequest}
use Rattle.line_runs.proofs.LongLines.{at_most}
use Rattle.tensor_cli.specs.Kinds.{IsNear, group_at}

group_same : (a : GroupAt) (g : Named) → TellsGroup g a → a ≡ group_at g
group_same a g t = λ i. record { symbol = t.symbol i; column = t.column i }

most : (format : Format) → most_words format ≤ 8
most One = omega arith
most Two = omega arith

-- what is said of a request holds of each request that the line spells
pub spelled_too : (format : Format) (line : List ℕ) (q p : Request) (P : Request → Type 0) → SpellsRequest format line q → SpellsRequest format line p
    → (r : Request) → p ≡ r → P r → P q
spelled_too format line q p P s s' r is given = subst P (sym (one_request_spelled format line q p s s' ∙ is)) given

pub form_told : (format : Format) (line : List ℕ) (q : Request) (g : Named) (j : Span) → SpellsRequest format line q → Tells line (read.Form g j) q
    → (js : List JahnAt) × (q ≡ Form (group_at g) js) × TellsList line j js × (length js ≤ 8)
form_told format line (Form a js) g j s t =
    (js, ap (λ (x : GroupAt). Form x js) (group_same a g t.0), t.1, omega (arith, s.jahns.0, most format))
form_told format line (Group a) g j s t = absurd t
form_told format line (Voigt a b w) g j s t = absurd t
form_told format line (States a b) g j s t = absurd t
form_told format line (Pairs a b) g j s t = absurd t
form_told format line (Differ a b js) g j s t = absurd t
form_told format line (Same a b k) g j s t = absurd t
form_told format line Comment g j s t = absurd t

pub differ_told : (format : Format) (line : List ℕ) (q : Request) (g f : Named) (j : Span) → SpellsRequest format line q
    → Tells line (read.Differ g f j) q
    → (js : List JahnAt) × (q ≡ Differ (group_at g) (group_at f) js) × TellsList line j js × (length js ≤ 8)
differ_told format line (Differ a b js) g f j s t =
    (js, (λ i. Differ (group_same a g t.0 i) (group_same b f t.1 i) js), t.2, omega (arith, s.jahns.0, most format))
differ_told format line (Form a js) g f j s t = absurd t
differ_told format line (Group a) g f j s t = absurd t
differ_told format line (Voigt a b w) g f j s t = absurd t
differ_told format line (States a b) g f j s t = absurd t
differ_told format line (Pairs a b) g f j s t = absurd t
differ_told format line (Same a b k) g f j s t = absurd t
differ_told format line Comment g f j s t = absurd t

pub group_told : (line : List ℕ) (q : Request) (g : Named) → Tells line (read.Group g) q → q ≡ Group (group_at g)
group_told line (Group a) g t = ap Group (group_same a g t)
group_told line (Form a js) g t = absurd t
group_told line (Voigt a b w) g t = absurd t
group_told line (States a b) g t = absurd t
group_told line (Pairs a b) g t = absurd t
group_told line (Differ a b js) g t = absurd t
group_told line (Same a b k) g t = absurd t
group_told line Comment g t = absurd t

pub voigt_told : (line : List ℕ) (q : Request) (g : Named) (j : Span) (w : Weights) → Tells line (read.Voigt g j w) q
    → (b : JahnAt) × (q ≡ Voigt (group_at g) b w) × TellsJahn line j b
voigt_told line (Voigt a b v) g j w t = (b, (λ i. Voigt (group_same a g t.0 i) b (t.2 i)), t.1)
voigt_told line (Form a js) g j w t = absurd t
voigt_told line (Group a) g j w t = absurd t
voigt_told line (States a b) g j w t = absurd t
voigt_told line (Pairs a b) g j w t = absurd t
voigt_told line (Differ a b js) g j w t = absurd t
voigt_told line (Same a b k) g j w t = absurd t
voigt_told line Comment g j w t = absurd t

pub states_told : (line : List ℕ) (q : Request) (g f : Named) → Tells line (read.States g f) q → q ≡ States (group_at g) (group_at f)
states_told line (States a b) g f t = λ i. States (group_same a g t.0 i) (group_same b f t.1 i)
states_told line (Form a js) g f t = absurd t
states_told line (Group a) g f t = absurd t
states_told line (Voigt a b w) g f t = absurd t
states_told line (Pairs a b) g f t = absurd t
states_told line (Differ a b js) g f t = absurd t
states_told line (Same a b k) g f t = absurd t
states_told line Comment g f t = absurd t

pub pairs_told : (line : List ℕ) (q : Request) (g f : Named) → Tells line (read.Pairs g f) q → q ≡ Pairs (group_at g) (group_at f)
pairs_told line (Pairs a b) g f t = λ i. Pairs (group_same a g t.0 i) (group_same b f t.1 i)
pairs_told line (Form a js) g f t = absurd t
pairs_told line (Group a) g f t = absurd t
pairs_told line (Voigt a b w) g f t = absurd t
pairs_told line (States a b) g f t = absurd t
pairs_told line (Differ a b js) g f t = absurd t
pairs_told line (Same a b k) g f t = absurd t
pairs_told line Comment g f t = absurd t

pub same_told : (line : List ℕ) (q : Request) (g h : Named) (j : Span) → Tells line (read.Same g h j) q
    → (b : JahnAt) × (q ≡ Same (group_at g) (group_at h) b) × TellsJahn line j b
same_told line (Same a b k) g h j t = (k, (λ i. Same (group_same a g t.0 i) (group_same b h t.1 i) k), t.2)
same_told line (Form a js) g h j t = absurd t
same_told line (Group a) g h j t = absurd t
same_told line (Voigt a b w) g h j t = absurd t
same_told line (States a b) g h j t = absurd t
same_told line (Pairs a b) g h j t = absurd t
same_told line (Differ a b js) g h j t = absurd t
same_told line Comment g h j t = absurd t

comment_told : (line : List ℕ) (r : ReadRequest) → Tells line r Comment → r ≡ read.Comment
comment_told line (read.Form g j) t = absurd t
comment_told line (read.Group g) t = absurd t
comment_told line (read.Voigt g j w) t = absurd t
comment_told line (read.States g f) t = absurd t
comment_told line (read.Pairs g f) t = absurd t
comment_told line (read.Differ g f j) t = absurd t
comment_told line (read.Same g h j) t = absurd t
comment_told line read.Comment t = refl

pub not_comment : (line : List ℕ) (r : ReadRequest) (q : Request) → Tells line r q → (r ≡ read.Comment → ⊥) → q ≡ Comment → ⊥
not_comment line r q t other is = other (comment_told line r (subst (λ (x : Request). Tells line r x) is t))

-- ---- both groups of a request for distinguishing components begin within the line
front_within : (front line : List ℕ) (js : List JahnAt) → JahnWords front line js → length front ≤ length line
front_within front line [] h = absurd h
front_within front line (j ∷ []) h = omega (arith, ap length h.line_is, length-append front (h.word ++ []))
front_within front line (j ∷ k ∷ js) h =
    omega (arith, front_within (front ++ (h.0 ++ codes ",")) line (k ∷ js) h.3, length-append front (h.0 ++ codes ","))

pub differ_near : (format : Format) (line : List ℕ) (q : Request) (g f : Named) (j : Span) → SpellsRequest format line q
    → Tells line (read.Differ g f j) q → length line ≤ longest_line format → IsNear g × IsNear f
differ_near format line (Differ a b js) g f j s t short =
    let groups = s.groups in
    let front = codes "differ " ++ (groups.first ++ codes " ") in
    let words = front_within (s.words ++ codes " ") line js s.jahns.1 in (
      omega (arith, t.0.column, groups.first_column, differ_length),
      omega (
        arith,
        t.1.column,
        groups.second.column,
        ap length groups.second.line_is,
        length-append front (groups.second.word ++ []),
        length-append s.words (codes " "),
        words,
        short,
        at_most format,
      ),
    )
  where
    differ_length : length (codes "differ ") ≡ 7
    differ_length = refl
differ_near format line (Form a js) g f j s t short = absurd t
differ_near format line (Group a) g f j s t short = absurd t
differ_near format line (Voigt a b w) g f j s t short = absurd t
differ_near format line (States a b) g f j s t short = absurd t
differ_near format line (Pairs a b) g f j s t short = absurd t
differ_near format line (Same a b k) g f j s t short = absurd t
differ_near format line Comment g f j s t short = absurd t
