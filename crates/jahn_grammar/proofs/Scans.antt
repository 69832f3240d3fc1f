-- The scan of a word, factor by factor.
--   factors_snoc    one factor more behind factors, with its marks
--   Scanned         what is read up to the end of a factor
--   Ready           what is read up to a factor, behind its marks
--   Scanned-end     at the word's end a symbol is spelled
use Rattle.list_laws.proofs.Kit.{◌≡◌, ◌≢◌, ℕ, zero, suc, ◌+◌, ◌*◌, ◌<◌, ◌≤◌, Bool, true, false, List, [], ◌∷◌, ◌++◌, length, get_or, drop, min, refl, sym, ap}
use Rattle.list_laws.proofs.Kit.{subst, ◌∙◌, arith, inl, inr, lit≤, drop_more, cases_lt, drop_of_length-le}
use Rattle.std.proofs.Common.{append_assoc}
use Rattle.std.specs.Prelude.{codes}
use Rattle.std.proofs.lemmas.List.{length-drop, length-append, append-nil}
use mathlib.Core.Bool.{xor}
use Rattle.text_defs.specs.Prelude.{IsFaulty, atom_text, power_text, factor_text, AreMarks, SpellsFactors, SpellsBody, SpellsJahn, IsJahnText, no_marks}
use Rattle.text_defs.specs.Prelude.{together}
use Rattle.fault_places.proofs.Places.{Through, Through-step, Through-stuck, Through-start, Through-skip, Through-first}
use Rattle.fault_places.proofs.Places.{Through-near, Through-faulty, faulty}
use Rattle.tensor_defs.specs.Prelude.{Marks, Atom, Factor, JahnSymbol, IsFactor, AreFactors, atom_rank, factors_rank, V, Bracketed}
use Rattle.list_laws.proofs.Prelude.{heads, none_some, xor_assoc}
use Rattle.jahn_grammar.specs.Views.{HasAtom, HasFactor, IsDigit, MarksAre, AreFactorsText, TakesFactor, FactorFrom}
use Rattle.jahn_grammar.proofs.FactorTexts.{factor_out, factors_wrong}
use Rattle.jahn_grammar.proofs.Marks.{behind_some, marked_some, marked_factor}
use Rattle.jahn_grammar.proofs.Marks.{marks_alone, behind_factor, behind_one, factor_behind, symbol_behind}

-- ---- the front of a word
module _ (word : List ℕ) (front : ℕ) (h : MarksAre word front) where
  abbrev own : Marks
  own = record { axial = h.axial; magnetic = h.magnetic }

  abbrev Behind : List ℕ → Type 0
  Behind z = IsJahnText (h.marks ++ z)

  behind : Through IsJahnText Behind word front
  behind =
      let P : ℕ → Type 0 = λ (k : ℕ). Through IsJahnText Behind word k in
      subst P (none_more (length h.marks)
      ∙ h.size) (Through-skip IsJahnText h.marks IsJahnText word 0
      (Through-start IsJahnText IsJahnText word (λ z t. t) (λ z t. t)) (drop front word) h.text)
    where
      none_more : (n : ℕ) → 0 + n ≡ n
      none_more n = omega arith

  -- the symbol with these marks and no factor
  abbrev pub bare : JahnSymbol
  bare = record { marks = own; factors = [] }

  one : (z : List ℕ) → z ≡ codes "1" → Behind z
  one z e = (bare, record { are_factors = tt; body = (h.marks, h.are, inr (ap (λ (l : List ℕ). h.marks ++ l) e)) })

  module _ (lt : front < length word) where
    here : drop front word ≡ get_or word front 0 ∷ drop (front + 1) word
    here = drop_more word front 0 lt

    pub first_ready : get_or word front 0 ≢ 49 → Through IsJahnText HasFactor word front
    first_ready no_one =
        Through-first IsJahnText Behind HasFactor word front behind (get_or word front 0) (drop (front + 1) word) here
        (λ z t. behind_factor h.marks h.axial h.magnetic h.are (get_or word front 0) (h.next _ _ here) z no_one t)
        (λ z g. symbol_behind h.marks own h.are (get_or word front 0 ∷ z) g) (codes "1", one (codes "1") refl)

    pub one_wrong : get_or word front 0 ≡ 49 → front + 1 < length word → IsFaulty IsJahnText word (front + 1)
    one_wrong is more =
        Through-stuck IsJahnText (λ z. z ≡ []) word (front + 1)
        (Through-step IsJahnText Behind word front behind (λ z. z ≡ []) lt
        (λ z t. behind_one h.marks h.axial h.magnetic h.are (get_or word front 0) (h.next _ _ here) z is t)
        (λ z e. one (get_or word front 0 ∷ z) (ap (λ (b : ℕ). b ∷ z) is ∙ ap (λ (l : List ℕ). 49 ∷ l) e)))
        more ([], refl) (λ z e. none_some (sym e))

    pub one_body : get_or word front 0 ≡ 49 → front + 1 ≡ length word → SpellsJahn word bare
    one_body is all = record {
      are_factors = tt;
      body = (
        h.marks,
        h.are,
        inr (h.text
            ∙ ap (λ (l : List ℕ). h.marks ++ l) (here ∙ ap (λ (b : ℕ). b ∷ drop (front + 1) word) is
            ∙ ap (λ (l : List ℕ). 49 ∷ l) (drop_of_length-le word (omega arith)))),
      );
    }

    pub one_spelled : get_or word front 0 ≡ 49 → front + 1 ≡ length word →
        (j : JahnSymbol) × SpellsJahn word j × (0 ≡ factors_rank j.factors) × (factors_rank j.factors ≤ 6)
    one_spelled is all = (bare, one_body is all, refl, lit≤ tt)

  pub marks_body : length word ≤ front → front ≢ 0 → SpellsJahn word bare
  marks_body le some = record {
    are_factors = tt;
    body = (
      h.marks,
      h.are,
      inl (
        λ none. some (sym h.size ∙ ap length none),
        h.text
            ∙ ap (λ (l : List ℕ). h.marks ++ l) (drop_of_length-le word le) ∙ append-nil h.marks,
      ),
    );
  }

  pub marks_spelled : length word ≤ front → front ≢ 0 → (j : JahnSymbol) × SpellsJahn word j × (0 ≡ factors_rank j.factors) × (factors_rank j.factors ≤ 6)
  marks_spelled le some = (bare, marks_body le some, refl, lit≤ tt)

nothing_spelled : IsJahnText [] → ⊥
nothing_spelled (j, h) = by_body j.factors j.marks h.body
  where
    by_body : (fs : List Factor) (m : Marks) → SpellsBody [] fs m → ⊥
    by_body [] m (k, is, inl e) = e.0 (sym e.1)
    by_body [] m (k, is, inr e) = behind_some k 49 [] e
    by_body (f ∷ fs) m h = marked_some h.0 f h.3 h.6

pub empty_wrong : (word : List ℕ) → length word ≤ 0 → IsFaulty IsJahnText word 0
empty_wrong [] le = faulty IsJahnText [] 0 nothing_spelled (
  refl,
  (codes "1", (record { marks = no_marks; factors = [] }, record { are_factors = tt; body = ([], refl, inr refl) })),
)
empty_wrong (b ∷ bs) le = absurd (omega arith)

-- ---- one factor more

together_assoc : (l m n : Marks) → together (together l m) n ≡ together l (together m n)
together_assoc l m n = λ i. record { axial = xor_assoc l.axial m.axial n.axial i; magnetic = xor_assoc l.magnetic m.magnetic n.magnetic i }

together_none : (m : Marks) → together no_marks m ≡ together m no_marks
unfolding xor
together_none m = λ i. record { axial = by_case m.axial i; magnetic = by_case m.magnetic i }
  where
    by_case : (b : Bool) → xor false b ≡ xor b false
    by_case true = refl
    by_case false = refl

pub factors_snoc : (fs : List Factor) (word marks : List ℕ) (m own : Marks) (f : Factor) → SpellsFactors word fs m →
    AreMarks marks own.axial own.magnetic →
    SpellsFactors (word ++ (marks ++ factor_text f)) (fs ++ (f ∷ [])) (together m own)
factors_snoc [] word marks m own f h are = (
  marks,
  own,
  are,
  [],
  no_marks,
  (refl, refl),
  ap (λ (l : List ℕ). l ++ (marks ++ factor_text f)) h.0 ∙ ap (λ (l : List ℕ). marks ++ l) (sym (append-nil (factor_text f))),
  ap (λ (n : Marks). together n own) h.1 ∙ together_none own,
)
factors_snoc (g ∷ fs) word marks m own f h are =
    let more = marks ++ factor_text f in (
      h.0,
      h.1,
      h.2,
      h.3 ++ more,
      together h.4 own,
      factors_snoc fs h.3 marks h.4 own f h.5 are,
      ap (λ (l : List ℕ). l ++ more) h.6 ∙ append_assoc h.0 (factor_text g ++ h.3) more
          ∙ ap (λ (l : List ℕ). h.0 ++ l) (append_assoc (factor_text g) h.3 more),
      ap (λ (n : Marks). together n own) h.7 ∙ together_assoc h.1 h.4 own,
    )

pub are_snoc : (fs : List Factor) (f : Factor) → AreFactors fs → IsFactor f → AreFactors (fs ++ (f ∷ []))
are_snoc [] f are is = (is, tt)
are_snoc (g ∷ fs) f are is = (are.0, are_snoc fs f are.1 is)

rank_snoc : (fs : List Factor) (f : Factor) → factors_rank (fs ++ (f ∷ [])) ≡ factors_rank fs + f.power * atom_rank f.atom
rank_snoc [] f = plus_none (f.power * atom_rank f.atom)
  where
    plus_none : (n : ℕ) → n + 0 ≡ 0 + n
    plus_none n = omega arith
rank_snoc (g ∷ fs) f = omega (arith, rank_snoc fs f)

capped_sum : (old new a b r : ℕ) → old ≡ min a 7 → r ≡ min b 7 → new ≡ min (old + r) 7 → new ≡ min (a + b) 7
capped_sum old new a b r e f g = omega arith

snoc_some : (fs : List Factor) (f : Factor) → fs ++ (f ∷ []) ≡ [] → ⊥
snoc_some [] f e = some_none e
  where
    some_none : {x : Factor} {xs : List Factor} → x ∷ xs ≡ [] → ⊥
    some_none e = cc
snoc_some (g ∷ fs) f e = some_none e
  where
    some_none : {x : Factor} {xs : List Factor} → x ∷ xs ≡ [] → ⊥
    some_none e = cc

abbrev nothing : List ℕ
nothing = []

past_none : (j : ℕ) → drop j nothing ≡ nothing
past_none j = drop_of_length-le nothing (omega arith)

pub drop_drop : (n k : ℕ) (l : List ℕ) → drop n (drop k l) ≡ drop (k + n) l
drop_drop n zero l = ap (λ (j : ℕ). drop j l) (none_more n)
  where
    none_more : (n : ℕ) → n ≡ 0 + n
    none_more n = omega arith
drop_drop n (suc k) [] = past_none n ∙ sym (past_none (suc k + n))
drop_drop n (suc k) (x ∷ l) = drop_drop n k l ∙ ap (λ (j : ℕ). drop j (x ∷ l)) (suc_out k n)
  where
    suc_out : (k n : ℕ) → suc (k + n) ≡ suc k + n
    suc_out k n = omega arith

-- ---- the factors of a text, up to a place
pub record Spelled (word : List ℕ) (at : ℕ) (fs : List Factor) (m : Marks) : Type 0 where
  pub front : List ℕ
  pub are_factors : AreFactors fs
  pub spells : SpellsFactors front fs m
  pub text : word ≡ front ++ drop at word

pub Spelled-start : (word : List ℕ) → Spelled word 0 [] no_marks
Spelled-start word = record { front = []; are_factors = tt; spells = (refl, refl); text = refl }

-- behind marks
pub record Marked (word : List ℕ) (start : ℕ) (fs : List Factor) (m own : Marks) : Type 0 where
  pub front : List ℕ
  pub marks : List ℕ
  pub are_factors : AreFactors fs
  pub spells : SpellsFactors front fs m
  pub are_marks : AreMarks marks own.axial own.magnetic
  pub text : word ≡ front ++ (marks ++ drop start word)

pub Spelled-marked : (word : List ℕ) (at n : ℕ) (fs : List Factor) (m : Marks) → Spelled word at fs m →
    (h : MarksAre (drop at word) n) → Marked word (at + n) fs m (record { axial = h.axial; magnetic = h.magnetic })
Spelled-marked word at n fs m s h = record {
  front = s.front;
  marks = h.marks;
  are_factors = s.are_factors;
  spells = s.spells;
  are_marks = h.are;
  text = s.text ∙ ap (λ (l : List ℕ). s.front ++ l) (h.text ∙ ap (λ (l : List ℕ). h.marks ++ l) (drop_drop n at word));
}

pub Marked-more : (word : List ℕ) (start used : ℕ) (fs : List Factor) (m own : Marks) (f : Factor) →
    Marked word start fs m own → TakesFactor (drop start word) f used →
    Spelled word (start + used) (fs ++ (f ∷ [])) (together m own)
Marked-more word start used fs m own f h t =
    let rest = drop (start + used) word in
    let split : drop start word ≡ factor_text f ++ rest = t.text ∙ ap (λ (l : List ℕ). factor_text f ++ l) (drop_drop used start word) in
    record {
      front = h.front ++ (h.marks ++ factor_text f);
      are_factors = are_snoc fs f h.are_factors t.is_factor;
      spells = factors_snoc fs h.front h.marks m own f h.spells h.are_marks;
      text = h.text ∙ ap (λ (l : List ℕ). h.front ++ (h.marks ++ l)) split
          ∙ sym (append_assoc h.front (h.marks ++ factor_text f) rest ∙ ap (λ (l : List ℕ). h.front ++ l) (append_assoc h.marks (factor_text f) rest));
    }

-- ---- what may follow
-- behind marks that go no further, before the end of the word, stands a factor
pub factor_next : (v : List ℕ) (n : ℕ) → MarksAre v n → 0 < length v → AreFactorsText v → HasFactor (drop n v)
factor_next v n h some fs = by_rest (drop n v) refl
  where
    late : 0 < length nothing → ⊥
    late lt = omega arith

    by_rest : (z : List ℕ) → drop n v ≡ z → HasFactor z
    by_rest [] e =
        let P : List ℕ → Type 0 = AreFactorsText in
        let Q : List ℕ → Type 0 = λ (l : List ℕ). 0 < length l in
        let is : v ≡ h.marks = h.text ∙ ap (λ (l : List ℕ). h.marks ++ l) e ∙ append-nil h.marks in
        absurd (late (subst Q (is ∙ marks_alone h.marks h.axial h.magnetic h.are (subst P is fs)) some))
    by_rest (c ∷ z) e =
        let P : List ℕ → Type 0 = AreFactorsText in
        marked_factor h.marks h.axial h.magnetic h.are c (h.next c z e) z
        (subst P (h.text ∙ ap (λ (l : List ℕ). h.marks ++ l) e) fs)

left_at : (v : List ℕ) (used c : ℕ) (cs : List ℕ) → drop used v ≡ c ∷ cs → (used < length v) × (get_or v used 0 ≡ c)
left_at v used c cs e =
    elim (cases_lt used (length v)) [
      | inl lt ↦ (lt, heads (sym (drop_more v used 0 lt) ∙ e))
      | inr le ↦ absurd (none_some (sym (drop_of_length-le v le) ∙ e))
    ]

-- behind a factor
pub factors_next : (v : List ℕ) (f : Factor) (used : ℕ) → TakesFactor v f used → (z : List ℕ) →
    ((c : ℕ) (cs : List ℕ) → z ≡ c ∷ cs → (ds : List ℕ) × (drop used v ≡ c ∷ ds)) → HasFactor (factor_text f ++ z) →
    AreFactorsText z
factors_next v f used t z first h = factor_out f z t.is_factor ends h
  where
    ends : f.power ≡ 1 → (b : ℕ) (y : List ℕ) → z ≡ b ∷ y → IsDigit b → ⊥
    ends one b y e digit =
        let here = first b y e in
        let at = left_at v used b here.0 here.1 in
        let P : ℕ → Type 0 = IsDigit in
        t.ends one at.0 (subst P (sym at.1) digit)

-- A factor takes a byte at least.
pub factor_takes : (v : List ℕ) (f : Factor) (used : ℕ) → TakesFactor v f used → 0 < used
factor_takes v f used t =
    let whole : length v ≡ length (factor_text f) + length (drop used v) = ap length t.text ∙ length-append (factor_text f) (drop used v) in
    let both : length (factor_text f) ≡ length (atom_text f.atom) + length (power_text f.power) = length-append (atom_text f.atom) (power_text f.power) in
    omega (arith, whole, both, t.within, length-drop used v, some f.atom)
  where
    some : (b : Atom) → 0 < length (atom_text b)
    some V = omega arith
    some (Bracketed k b p) = omega arith

-- ---- what the loop over the factors keeps
pub record Scanned (word : List ℕ) (at rank : ℕ) : Type 0 where
  pub through : Through IsJahnText AreFactorsText word at
  pub factors : List Factor
  pub marks : Marks
  pub spelled : Spelled word at factors marks
  pub some : factors ≡ [] → ⊥
  pub rank_is : rank ≡ min (factors_rank factors) 7

pub record Ready (word : List ℕ) (start rank : ℕ) : Type 0 where
  pub through : Through IsJahnText HasFactor word start
  pub factors : List Factor
  pub marks : Marks
  pub own : Marks
  pub marked : Marked word start factors marks own
  pub rank_is : rank ≡ min (factors_rank factors) 7

pub Ready-first : (word : List ℕ) (front : ℕ) → MarksAre word front → front < length word → get_or word front 0 ≢ 49 →
    Ready word front 0
Ready-first word front h lt no_one = record {
  through = first_ready word front h lt no_one;
  factors = [];
  marks = no_marks;
  own = record { axial = h.axial; magnetic = h.magnetic };
  marked = record {
    front = [];
    marks = h.marks;
    are_factors = tt;
    spells = (refl, refl);
    are_marks = h.are;
    text = h.text;
  };
  rank_is = refl;
}

module _ (word : List ℕ) (at rank n : ℕ) (s : Scanned word at rank) (lt : at < length word) (h : MarksAre (drop at word) n) where
  abbrev own_marks : Marks
  own_marks = record { axial = h.axial; magnetic = h.magnetic }

  abbrev Marked-text : List ℕ → Type 0
  Marked-text z = AreFactorsText (h.marks ++ z)

  marks_skipped : Through IsJahnText Marked-text word (at + n)
  marks_skipped =
      let P : ℕ → Type 0 = λ (k : ℕ). Through IsJahnText Marked-text word (at + k) in
      subst P h.size (Through-skip IsJahnText h.marks AreFactorsText word at s.through (drop n (drop at word)) h.text)

  marks_near : (c : ℕ) (cs z : List ℕ) → drop (at + n) word ≡ c ∷ cs → Marked-text (c ∷ z) → HasFactor (c ∷ z)
  marks_near c cs z e t = marked_factor h.marks h.axial h.magnetic h.are c (h.next c cs (drop_drop n at word ∙ e)) z t

  marks_whole : Marked-text (drop (at + n) word) → HasFactor (drop (at + n) word)
  marks_whole t =
      let P : List ℕ → Type 0 = AreFactorsText in
      let Q : List ℕ → Type 0 = HasFactor in
      let is : h.marks ++ drop (at + n) word ≡ drop at word = ap (λ (l : List ℕ). h.marks ++ l) (sym (drop_drop n at word)) ∙ sym h.text in
      subst Q (drop_drop n at word) (factor_next (drop at word) n h (omega (arith, length-drop at word)) (subst P is t))

  pub Ready-marks : Ready word (at + n) rank
  Ready-marks = record {
    through = Through-near IsJahnText Marked-text HasFactor word (at + n) marks_skipped
        (λ z g. factor_behind h.marks own_marks h.are z g) marks_near marks_whole;
    factors = s.factors;
    marks = s.marks;
    own = own_marks;
    marked = Spelled-marked word at n s.factors s.marks s.spelled h;
    rank_is = s.rank_is;
  }

module _ (word : List ℕ) (start rank : ℕ) (h : Ready word start rank) where
  pub Ready-wrong : (m : ℕ) → IsFaulty HasAtom (drop start word) m → IsFaulty IsJahnText word (start + m)
  Ready-wrong m f = Through-faulty IsJahnText HasFactor word start m h.through (factors_wrong (drop start word) m f)

  pub Ready-faulty : (place : ℕ) → (m : ℕ) × (place ≡ start + m) × IsFaulty HasAtom (drop start word) m →
      IsFaulty IsJahnText word place
  Ready-faulty place f = let P : ℕ → Type 0 = λ (k : ℕ). IsFaulty IsJahnText word k in subst P (sym f.1) (Ready-wrong f.0 f.2)

  module _ (f : Factor) (used : ℕ) (t : TakesFactor (drop start word) f used) where
    size : length (factor_text f) ≡ used
    size =
        let rest = drop used (drop start word) in
        let whole : length (drop start word) ≡ length (factor_text f) + length rest = ap length t.text ∙ length-append (factor_text f) rest in
        omega (arith, whole, t.within, length-drop used (drop start word))

    abbrev Behind-factor : List ℕ → Type 0
    Behind-factor z = HasFactor (factor_text f ++ z)

    skipped : Through IsJahnText Behind-factor word (start + used)
    skipped =
        let P : ℕ → Type 0 = λ (k : ℕ). Through IsJahnText Behind-factor word (start + k) in
        subst P size (Through-skip IsJahnText (factor_text f) HasFactor word start h.through (drop used (drop start word)) t.text)

    passed : Through IsJahnText AreFactorsText word (start + used)
    passed =
        Through-near IsJahnText Behind-factor AreFactorsText word (start + used) skipped
        (λ z g. (f, t.is_factor, z, refl, g))
        (λ c cs z e g. factors_next (drop start word) f used t (c ∷ z) (λ b bs is. (cs, drop_drop used start word ∙ e ∙ ap (λ (k : ℕ). k ∷ cs) (heads is))) g)
        (λ g. factors_next (drop start word) f used t (drop (start + used) word) (λ b bs is. (bs, drop_drop used start word ∙ is)) g)

  pub Ready-more : (end r new : ℕ) → FactorFrom word start end r → new ≡ min (rank + r) 7 → Scanned word end new
  Ready-more end r new g is =
      let f = g.factor in
      let fs = h.factors in
      let P : ℕ → Type 0 = λ (k : ℕ). Scanned word k new in
      subst P (sym g.end_is) (record {
        through = passed f g.used g.takes;
        factors = fs ++ (f ∷ []);
        marks = together h.marks h.own;
        spelled = Marked-more word start g.used fs h.marks h.own f h.marked g.takes;
        some = snoc_some fs f;
        rank_is = capped_sum rank new (factors_rank fs) (f.power * atom_rank f.atom) r h.rank_is g.rank_is is ∙ ap (λ (k : ℕ). min k 7) (sym (rank_snoc fs f));
      })

  pub Ready-only : (end r : ℕ) → FactorFrom word start end r → rank ≡ 0 → Scanned word end r
  Ready-only end r g none = Ready-more end r r g (ap (λ (k : ℕ). k) g.rank_is ∙ low (g.factor.power * atom_rank g.factor.atom) r g.rank_is none)
    where
      low : (n r : ℕ) → r ≡ min n 7 → rank ≡ 0 → min n 7 ≡ min (rank + r) 7
      low n r e f = omega arith

-- a factor ends behind its start
pub factor_goes : (word : List ℕ) (start end r : ℕ) → FactorFrom word start end r → start < end
factor_goes word start end r g = omega (arith, g.end_is, factor_takes (drop start word) g.factor g.used g.takes)

-- ---- the end
pub Spelled-end : (word : List ℕ) (at : ℕ) (fs : List Factor) (m : Marks) → Spelled word at fs m → length word ≤ at →
    SpellsFactors word fs m
Spelled-end word at fs m s le =
    let P : List ℕ → Type 0 = λ (l : List ℕ). SpellsFactors l fs m in
    let is : word ≡ s.front = s.text ∙ ap (λ (l : List ℕ). s.front ++ l) (drop_of_length-le word le) ∙ append-nil s.front in
    subst P (sym is) s.spells

pub Scanned-end : (word : List ℕ) (at rank : ℕ) → Scanned word at rank → length word ≤ at →
    (j : JahnSymbol) × SpellsJahn word j × (rank ≡ min (factors_rank j.factors) 7)
Scanned-end word at rank h le = (
  record { marks = h.marks; factors = h.factors },
  record {
    are_factors = h.spelled.are_factors;
    body = body h.factors h.some (Spelled-end word at h.factors h.marks h.spelled le);
  },
  h.rank_is,
)
  where
    body : (fs : List Factor) → (fs ≡ [] → ⊥) → SpellsFactors word fs h.marks → SpellsBody word fs h.marks
    body [] some e = absurd (some refl)
    body (f ∷ fs) some e = e
