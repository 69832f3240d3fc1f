-- Writing a long text.
--   primed_told      whether a symbol's group holds a primed operator, by an element of its list
--   IsBegun          the first pieces are written: what the others give can be put behind them
--   form_text        the pieces, the ending, the grey suffix and the suffix of the setting make the long text
--   no_form          a parent that isn't that of a form has none
--   short_appended   a parent without a form: the text that is written for the symbol
use Rattle.list_laws.proofs.Kit.{◌≡◌, ◌≢◌, ◌↔◌, ◌∙◌, ◌<◌, ◌≤◌, ◌+◌, ◌==◌, ℕ, Bool, true, false, IsTrue, List, [], ◌∷◌, ◌++◌, length, drop, get_or, refl, sym}
use Rattle.list_laws.proofs.Kit.{ap, subst, lit<, Some, Result, Ok, Err, OnOk, inr, ne_eqb, drop_more, drop_of_length-le}
use Rattle.std.proofs.Common.{append_assoc, append-nil}
use Rattle.std.specs.Prelude.{Contains, map}
use Rattle.tensor_defs.specs.Prelude.{IsListing, Operation, comes_before, GroupSymbol, IsGroupSymbol, Operator, InGroup, IsAccepted}
use Rattle.text_defs.specs.GroupTexts.{grey_text, setting_text, group_text}
use Rattle.dialects.specs.LongTexts.{form_at, has_form, HasPrimed, IsOperation, ArePieces, prime_text, IsFormText}
use Rattle.dialects.specs.Answers.{AppendsLong}
use Rattle.dialects.specs.Tables.{piece_of}
use Rattle.dialects.specs.declared.forms.Piece.{Piece}

pub primed_told : (t : GroupSymbol) (o : Operator) (xs : List Operation) (g : Operation) (b : Bool) →
    IsListing comes_before (InGroup t) xs → t.grey ≡ false → IsOperation t o true g → (IsTrue b ↔ Contains xs g) →
    IsTrue b ↔ HasPrimed t o
primed_told t o xs g b l plain is has = (
  λ h. (plain, (g, is, (l.members g).0 (has.0 h))),
  λ h. has.1 ((l.members g).1 (subst (InGroup t) (out (sym h.1.1 ∙ is)) h.1.2)),
)
  where
    out : {a c : Operation} → Some a ≡ Some c → a ≡ c
    out e = cc

-- ---- the pieces, one after another
pub record IsBegun (t : GroupSymbol) (ps : List Piece) (text : List ℕ) (i : ℕ) : Type 0 where
  pub joins : (rest : List ℕ) → ArePieces t (map piece_of (drop i ps)) rest → ArePieces t (map piece_of ps) (text ++ rest)

pub begun_none : (t : GroupSymbol) (ps : List Piece) → IsBegun t ps [] 0
begun_none t ps = record { joins = λ rest a. a }

begun_more : (t : GroupSymbol) (ps : List Piece) (text : List ℕ) (i : ℕ) (p : Piece) (mark : Bool) → IsBegun t ps text i →
    drop i ps ≡ p ∷ drop (i + 1) ps → (IsTrue mark ↔ HasPrimed t (piece_of p).operator) →
    IsBegun t ps (text ++ (p.text.now ++ prime_text mark)) (i + 1)
begun_more t ps text i p mark b e is = record {
  joins = λ rest a.
      let front : ArePieces t (map piece_of (p ∷ drop (i + 1) ps)) (p.text.now ++ (prime_text mark ++ rest)) =
      (mark, rest, is, a, refl) in
      let A : List Piece → Type 0 = λ (l : List Piece). ArePieces t (map piece_of l) (p.text.now ++ (prime_text mark ++ rest)) in
      let whole : ArePieces t (map piece_of ps) (text ++ (p.text.now ++ (prime_text mark ++ rest))) =
      b.joins (p.text.now ++ (prime_text mark ++ rest)) (subst A (sym e) front) in
      subst (ArePieces t (map piece_of ps))
      (sym (append_assoc text (p.text.now ++ prime_text mark) rest ∙ ap (λ (l : List ℕ). text ++ l) (append_assoc p.text.now (prime_text mark) rest)))
      whole;
}

module _ (t : GroupSymbol) (ps : List Piece) (text : List ℕ) (i : ℕ) (d : Piece) (mark : Bool) (b : IsBegun t ps text i)
    (lt : i < length ps) (is : IsTrue mark ↔ HasPrimed t (piece_of (get_or ps i d)).operator) (new : List ℕ)
    (put : new ≡ text ++ (get_or ps i d).text.now) where
  next : (m : Bool) → mark ≡ m → IsBegun t ps (text ++ ((get_or ps i d).text.now ++ prime_text m)) (i + 1)
  next m e = begun_more t ps text i (get_or ps i d) m b (drop_more ps i d lt)
      (subst (λ (x : Bool). IsTrue x ↔ HasPrimed t (piece_of (get_or ps i d)).operator) e is)

  pub begun_marked : mark ≡ true → (final : List ℕ) → final ≡ new ++ 39 ∷ [] → IsBegun t ps final (i + 1)
  begun_marked on final e =
      subst (λ (l : List ℕ). IsBegun t ps l (i + 1))
      (sym (append_assoc text (get_or ps i d).text.now (39 ∷ [])) ∙ ap (λ (l : List ℕ). l ++ 39 ∷ []) (sym put) ∙ sym e) (next true on)

  pub begun_bare : mark ≡ false → IsBegun t ps new (i + 1)
  begun_bare off =
      subst (λ (l : List ℕ). IsBegun t ps l (i + 1))
      (ap (λ (l : List ℕ). text ++ l) (append-nil (get_or ps i d).text.now) ∙ sym put) (next false off)

pub begun_all : (t : GroupSymbol) (ps : List Piece) (text : List ℕ) (i : ℕ) → IsBegun t ps text i → length ps ≤ i →
    ArePieces t (map piece_of ps) text
begun_all t ps text i b le =
    let A : List Piece → Type 0 = λ (l : List Piece). ArePieces t (map piece_of l) [] in
    subst (ArePieces t (map piece_of ps)) (append-nil text) (b.joins [] (subst A (sym (drop_of_length-le ps le)) refl))

-- ---- the whole text
pub form_text : (t : GroupSymbol) (k : ℕ) (signs ending : List ℕ) → k < 8 → IsGroupSymbol t → IsAccepted t →
    t.parent ≡ (form_at k).parent → ArePieces t (form_at k).pieces signs → ending ≡ (form_at k).ending → (grey suffix : List ℕ) →
    grey ≡ grey_text t.grey → suffix ≡ setting_text t.setting → IsFormText k (((signs ++ ending) ++ grey) ++ suffix) t
form_text t k signs ending lt symbol accepted parent pieces is grey suffix grey_is suffix_is = record {
  listed = lt;
  symbol = symbol;
  accepted = accepted;
  parent = parent;
  signs = signs;
  pieces = pieces;
  text = append_assoc (signs ++ ending) grey suffix ∙ append_assoc signs ending (grey ++ suffix)
      ∙ ap (λ (l : List ℕ). signs ++ (l ++ (grey ++ suffix))) is
      ∙ ap (λ (l : List ℕ). signs ++ ((form_at k).ending ++ (l ++ suffix))) grey_is
      ∙ ap (λ (l : List ℕ). signs ++ ((form_at k).ending ++ (grey_text t.grey ++ l))) suffix_is;
}

pub form_text_bare : (t : GroupSymbol) (k : ℕ) (signs ending : List ℕ) → k < 8 → IsGroupSymbol t → IsAccepted t →
    t.parent ≡ (form_at k).parent → ArePieces t (form_at k).pieces signs → ending ≡ (form_at k).ending → (suffix : List ℕ) →
    t.grey ≡ false → suffix ≡ setting_text t.setting → IsFormText k ((signs ++ ending) ++ suffix) t
form_text_bare t k signs ending lt symbol accepted parent pieces is suffix plain suffix_is =
    subst (λ (l : List ℕ). IsFormText k (l ++ suffix) t) (append-nil (signs ++ ending))
    (form_text t k signs ending lt symbol accepted parent pieces is [] suffix (sym (ap grey_text plain)) suffix_is)

-- ---- parents without a long form
other : (n m : ℕ) → m ≢ n → (n == m) ≡ false
other n m ne = ne_eqb n m (λ e. ne (sym e))

pub no_form : (n : ℕ) → ((j : ℕ) → j < 8 → (form_at j).parent ≢ n) → has_form n ≡ false
unfolding form_at
no_form n none = rw (
  other n 10 (none 0 (lit< tt)),
  other n 18 (none 1 (lit< tt)),
  other n 27 (none 2 (lit< tt)),
  other n 28 (none 3 (lit< tt)),
  other n 29 (none 4 (lit< tt)),
  other n 37 (none 5 (lit< tt)),
  other n 39 (none 6 (lit< tt)),
  other n 42 (none 7 (lit< tt)),
) refl

-- the text that is written for a symbol of such a parent
pub short_appended : {A E : Type 0} (r : Result A E) (t : GroupSymbol) (old new : List ℕ) → IsGroupSymbol t → IsAccepted t →
    has_form t.parent ≡ false → OnOk r (new ≡ old ++ group_text t) → OnOk r (AppendsLong t old new)
short_appended (Ok a) t old new symbol accepted other h =
    (group_text t, inr (record { symbol = symbol; accepted = accepted; other = other; text = refl }), h)
short_appended (Err e) t old new symbol accepted other h = h
