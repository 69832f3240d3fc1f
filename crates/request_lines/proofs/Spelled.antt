-- The requests that the words at places of a line spell.
--   tells_group, tells_jahn    a read word tells its symbol at its column
--   .._spelled      the line spells a request of this kind
--   read_..         what the reader answers for a kind
--   read_tells      a read request tells the one request that the line spells
use Rattle.std.proofs.Common.{◌≡◌, ℕ, ◌+◌, ◌-◌, ◌≤◌, List, [], ◌∷◌, ◌++◌, length, take, drop, Ok, refl, sym, ap, subst, ◌∙◌, arith, inl}
use Rattle.std.specs.Prelude.{codes}
use Rattle.std.proofs.lemmas.List.{length-append, append-nil}
use Rattle.tensor_defs.specs.declared.Weights.{Weights}
use Rattle.text_defs.specs.Prelude.{SpellsJahn, IsJahnText, GroupAt, JahnAt, JahnWords, SpellsRequest, weights_text, GroupWord, GroupJahn, GroupGroup}
use Rattle.text_defs.specs.Prelude.{GroupJahns, GroupGroupJahn, GroupGroupJahns}
use Rattle.text_laws.proofs.RequestUnique.{one_request_spelled}
use Rattle.request_lines.specs.declared.Request.{Request}
use Rattle.text_defs.specs.declared.Format.{Format}
use Rattle.text_defs.specs.declared.Format.TheVariants.{One}
use Rattle.request_lines.specs.declared.Named.{Named}
use Rattle.request_lines.specs.declared.Span.{Span}
use Rattle.request_lines.specs.Words.{weights_word, words_behind}
use Rattle.request_lines.specs.Parts.{WordEnds, word_at, GroupTaken, GroupLast, JahnTaken, ListLast, WeightsLast}
use Rattle.request_lines.specs.Parts.{ReadsGroupList, ReadsLastGroup, ReadsGroupJahnWeights, ReadsTwoGroups, ReadsTwoGroupsList}
use Rattle.request_lines.specs.Readings.{TellsGroup, TellsJahn, TellsList, Tells, ReadsRequest}
use Rattle.request_lines.specs.Keywords.{BeginsWith}
use Rattle.request_lines.specs.declared.keywords.Keyword.{Keyword}
use Rattle.request_lines.specs.declared.keywords.Keyword.TheVariants.{Form, Group, Voigt, States, Pairs, Differ, Same}
use Rattle.request_lines.specs.declared.Request.TheVariants as request
use Rattle.text_defs.specs.Requests as defs
use Rattle.request_lines.proofs.Positions.{cut_at_end, cut_at_separator, word_size}
use Rattle.request_lines.proofs.Requests.{make_group, make_group_jahn, make_group_group, make_three, weights_are}
use Rattle.request_lines.proofs.Requests.{behind_first, behind_second}
use Rattle.request_lines.proofs.WordLists.{list_words, within_most, take_is}

abbrev pub told : Named → GroupAt
told g = record { symbol = g.tree; column = g.start + 1 }

pub tells_group : (g : Named) → TellsGroup g (told g)
tells_group g = record { symbol = refl; column = refl }

abbrev pub told_jahn : (word : List ℕ) (j : Span) → IsJahnText word → JahnAt
told_jahn word j s = record { jahn = s.0; column = j.start + 1 }

pub tells_jahn : (line : List ℕ) (start : ℕ) (j : Span) → j.start ≡ start → WordEnds 32 line start j.end → (s : IsJahnText (word_at line start j.end)) → TellsJahn line j (told_jahn (word_at line start j.end) j s)
tells_jahn line start j is ends s = record {
  forward = let P : ℕ → Type 0 = λ (n : ℕ). n ≤ j.end in subst P (sym is) ends.forward;
  within = ends.fits;
  spells = let P : ℕ → Type 0 = λ (n : ℕ). SpellsJahn (take (j.end - n) (drop n line)) s.0 in subst P (sym is) s.1;
  ends = λ lt. inl (ends.at_separator lt);
  column = refl;
}

-- the words of a list that ends the line
tells_list : (line : List ℕ) (format : Format) (start : ℕ) (before z : List ℕ) (j : Span) → ListLast format line start j →
    line ≡ before ++ z → start ≡ length before → (js : List JahnAt) → JahnWords before line js → TellsList line j js
tells_list line format start before z j l whole place js words =
    let P : List ℕ → Type 0 = λ (f : List ℕ). JahnWords f line js in record {
      within = omega (arith, l.start_is, l.ends.forward, l.ends.fits);
      end = omega (arith, l.all, l.ends.fits);
      words = subst P (sym (take_is before z line j.start whole (l.start_is ∙ place))) words;
    }

second_place : (front line : List ℕ) (start end next : ℕ) → start ≡ length front → WordEnds 32 line start end → next ≡ end + 1 → next ≡ length (front ++ (word_at line start end ++ codes " "))
second_place front line start end next is ends next_is =
    let u : List ℕ = word_at line start end in
    let size : length (word_at line start end) ≡ end - start = word_size 32 line start end ends in
    let forward : start ≤ end = ends.forward in
    let one : length (codes " ") ≡ 1 = refl in
    let a : length (front ++ (word_at line start end ++ codes " ")) ≡ length front + length (word_at line start end ++ codes " ") = length-append front (word_at line start end ++ codes " ") in
    let b : length (word_at line start end ++ codes " ") ≡ length (word_at line start end) + length (codes " ") = length-append (word_at line start end) (codes " ") in
    omega arith

third_place : (front line : List ℕ) (start end second next third : ℕ) → start ≡ length front → WordEnds 32 line start end → second ≡ end + 1 → WordEnds 32 line second next → third ≡ next + 1 →
    third ≡ length ((front ++ (word_at line start end ++ 32 ∷ word_at line second next)) ++ codes " ")
third_place front line start end second next third is ends second_is later third_is =
    sum front (word_at line start end) (word_at line second next) (word_size 32 line start end ends) (word_size 32 line second next later) ends.forward later.forward
  where
    sum : (f u v : List ℕ) → length u ≡ end - start → length v ≡ next - second → start ≤ end → second ≤ next → third ≡ length ((front ++ (u ++ 32 ∷ v)) ++ codes " ")
    sum f u v size_u size_v forward_u forward_v =
        let one : length (codes " ") ≡ 1 = refl in
        let a : length ((front ++ (u ++ 32 ∷ v)) ++ codes " ") ≡ length (front ++ (u ++ 32 ∷ v)) + length (codes " ") = length-append (front ++ (u ++ 32 ∷ v)) (codes " ") in
        let b : length (front ++ (u ++ 32 ∷ v)) ≡ length front + length (u ++ 32 ∷ v) = length-append front (u ++ 32 ∷ v) in
        let c : length (u ++ 32 ∷ v) ≡ length u + length (32 ∷ v) = length-append u (32 ∷ v) in
        omega arith

column_of : (p q n : ℕ) → p ≡ q → q ≡ n → p + 1 ≡ n + 1
column_of p q n a b = omega arith

module _ (front line : List ℕ) (start : ℕ) (start_is : start ≡ length front) (is : line ≡ front ++ drop start line) where
  pub group_spelled : (g : Named) → GroupLast line start g → GroupWord front [] line (told g)
  group_spelled g h =
      make_group front line (word_at line start h.end) (drop start line) is (told g) h.spells (column_of _ _ _ h.start_is start_is)
      (cut_at_end 32 line start h.end h.ends h.all)

  module _ (g : Named) (next : ℕ) (h : GroupTaken line start g next) where
    column : g.start + 1 ≡ length front + 1
    column = column_of _ _ _ h.start_is start_is

    cut : drop start line ≡ word_at line start h.end ++ 32 ∷ drop (h.end + 1) line
    cut = cut_at_separator 32 line start h.end h.ends h.more

    from_next : drop (h.end + 1) line ≡ drop next line
    from_next = ap (λ (n : ℕ). drop n line) (sym h.next_is)

    next_place : next ≡ length (front ++ (word_at line start h.end ++ codes " "))
    next_place = second_place front line start h.end next start_is h.ends h.next_is

    jahn_spelled : (rest : List ℕ) (j : Span) (s : IsJahnText (word_at line next j.end)) → j.start ≡ next → drop next line ≡ word_at line next j.end ++ rest →
        GroupJahn front rest line (told g) (told_jahn (word_at line next j.end) j s)
    jahn_spelled rest j s place e =
        make_group_jahn front line (word_at line start h.end) (drop start line) is (told g) h.spells column (word_at line next j.end) (drop (h.end + 1) line) cut rest
        (from_next ∙ e) (told_jahn (word_at line next j.end) j s) s.1 (column_of _ _ _ place next_place)

    pub group_list_spelled : (format : Format) (j : Span) → ListLast format line next j →
        (js : List JahnAt) × GroupJahns format front line (told g) js × TellsList line j js
    group_list_spelled format j k =
        let u : List ℕ = word_at line start h.end in
        let z : List ℕ = word_at line next j.end in
        let before : List ℕ = front ++ (u ++ codes " ") in
        let whole : line ≡ before ++ z = behind_first front line u (drop start line) (drop (h.end + 1) line) is cut
        ∙ ap (λ (l : List ℕ). before ++ l) (from_next ∙ cut_at_end 32 line next j.end k.ends k.all ∙ append-nil z) in
        let list = list_words (words_behind format) before z line k.spells whole in (
          list.0,
          record { group = u; spells_group = h.spells; group_column = column; jahns = (within_most format list.0 list.1, list.2) },
          tells_list line format next before z j k whole next_place list.0 list.2,
        )

    pub weights_spelled : (j : Span) (third : ℕ) (k : JahnTaken line next j third) (w : Weights) → WeightsLast line third w → GroupJahn front (weights_text w) line (told g) (told_jahn (word_at line next j.end) j k.spells)
    weights_spelled j third k w l =
        jahn_spelled (weights_text w) j k.spells k.start_is
        (cut_at_separator 32 line next j.end k.ends k.more
        ∙ ap (λ (z : List ℕ). word_at line next j.end ++ z) (ap (λ (z : List ℕ). 32 ∷ z) last ∙ sym (weights_are w)))
      where
        last : drop (j.end + 1) line ≡ weights_word w ++ []
        last =
            ap (λ (n : ℕ). drop n line) (sym k.next_is) ∙ cut_at_end 32 line third l.end l.ends l.all
            ∙ ap (λ (z : List ℕ). z ++ []) l.spells

    pub group_group_spelled : (f : Named) → GroupLast line next f → GroupGroup front [] line (told g) (told f)
    group_group_spelled f k =
        make_group_group front line (word_at line start h.end) (drop start line) is (told g) h.spells column (word_at line next k.end) (drop (h.end + 1) line) cut
        (from_next ∙ cut_at_end 32 line next k.end k.ends k.all) (told f) k.spells (column_of _ _ _ k.start_is next_place)

    pub three_spelled : (f : Named) (third : ℕ) → GroupTaken line next f third → (j : Span) (l : ListLast One line third j) → GroupGroupJahn front line (told g) (told f) (told_jahn (word_at line third j.end) j l.spells)
    three_spelled f third k j l =
        make_three front line (word_at line start h.end) (word_at line next k.end) (word_at line third j.end) (drop start line) (drop (h.end + 1) line) (drop (k.end + 1) line)
        (told g) (told f) (told_jahn (word_at line third j.end) j l.spells) is cut
        (from_next ∙ cut_at_separator 32 line next k.end k.ends k.more)
        (ap (λ (n : ℕ). drop n line) (sym k.next_is) ∙ cut_at_end 32 line third j.end l.ends l.all)
        h.spells column k.spells (column_of _ _ _ k.start_is next_place) l.spells.1
        (column_of _ _ _ l.start_is (third_place front line start h.end next k.end third start_is h.ends h.next_is k.ends k.next_is))

    pub three_list_spelled : (format : Format) (f : Named) (third : ℕ) → GroupTaken line next f third → (j : Span) →
        ListLast format line third j → (js : List JahnAt) × GroupGroupJahns format front line (told g) (told f) js × TellsList line j js
    three_list_spelled format f third k j l =
        let u : List ℕ = word_at line start h.end in
        let v : List ℕ = word_at line next k.end in
        let z : List ℕ = word_at line third j.end in
        let before : List ℕ = (front ++ (u ++ 32 ∷ v)) ++ codes " " in
        let whole : line ≡ before ++ z =
        behind_second front line u v (drop start line) (drop (h.end + 1) line) (drop (k.end + 1) line) is cut
        (from_next ∙ cut_at_separator 32 line next k.end k.ends k.more)
        ∙ ap (λ (l : List ℕ). before ++ l) (ap (λ (n : ℕ). drop n line) (sym k.next_is) ∙ cut_at_end 32 line third j.end l.ends l.all ∙ append-nil z) in
        let list = list_words (words_behind format) before z line l.spells whole in (
          list.0,
          record {
            words = front ++ (u ++ 32 ∷ v);
            groups =
                make_group_group front (front ++ (u ++ 32 ∷ v)) u (u ++ 32 ∷ v) refl (told g) h.spells column v v refl (sym (append-nil v)) (told f)
                k.spells (column_of _ _ _ k.start_is next_place);
            jahns = (within_most format list.0 list.1, list.2);
          },
          tells_list line format third before z j l whole (third_place front line start h.end next k.end third start_is h.ends h.next_is k.ends k.next_is) list.0 list.2,
        )

-- ---- what the reader answers
module _ (k : Keyword) (line : List ℕ) (start : ℕ) (b : BeginsWith k line start) where
  begins : (l : Keyword) → k ≡ l → BeginsWith l line start
  begins l is = let P : Keyword → Type 0 = λ (m : Keyword). BeginsWith m line start in subst P is b

  pub read_form : k ≡ Form → (format : Format) (g : Named) (j : Span) → ReadsGroupList format line start (Ok (g, j)) →
      ReadsRequest format line (Ok (request.Form g j))
  read_form is format g j h =
      let f = begins Form is in
      let list = group_list_spelled (codes "form ") line start f.start_is f.text g h.0 h.1 format j h.2 in
      (defs.Form (told g) list.0, list.1, (tells_group g, list.2))

  pub read_one : k ≡ Group → (format : Format) (g : Named) → ReadsLastGroup line start (Ok g) → ReadsRequest format line (Ok (request.Group g))
  read_one is format g h =
      let f = begins Group is in
      (defs.Group (told g), group_spelled (codes "group ") line start f.start_is f.text g h, tells_group g)

  pub read_voigt : k ≡ Voigt → (format : Format) (g : Named) (j : Span) (w : Weights) → ReadsGroupJahnWeights line start (Ok (g, j, w)) → ReadsRequest format line (Ok (request.Voigt g j w))
  read_voigt is format g j w h =
      let f = begins Voigt is in (
        defs.Voigt (told g) (told_jahn (word_at line h.0 j.end) j h.3.spells) w,
        weights_spelled (codes "voigt ") line start f.start_is f.text g h.0 h.2 j h.1 h.3 w h.4,
        (tells_group g, tells_jahn line h.0 j h.3.start_is h.3.ends h.3.spells, refl),
      )

  pub read_states : k ≡ States → (format : Format) (g f : Named) → ReadsTwoGroups line start (Ok (g, f)) → ReadsRequest format line (Ok (request.States g f))
  read_states is format g f h =
      let b = begins States is in
      (defs.States (told g) (told f), group_group_spelled (codes "states ") line start b.start_is b.text g h.0 h.1 f h.2, (tells_group g, tells_group f))

  pub read_pairs : k ≡ Pairs → (format : Format) (g f : Named) → ReadsTwoGroups line start (Ok (g, f)) → ReadsRequest format line (Ok (request.Pairs g f))
  read_pairs is format g f h =
      let b = begins Pairs is in
      (defs.Pairs (told g) (told f), group_group_spelled (codes "pairs ") line start b.start_is b.text g h.0 h.1 f h.2, (tells_group g, tells_group f))

  pub read_differ : k ≡ Differ → (format : Format) (g f : Named) (j : Span) → ReadsTwoGroupsList format line start (Ok (g, f, j)) →
      ReadsRequest format line (Ok (request.Differ g f j))
  read_differ is format g f j h =
      let b = begins Differ is in
      let list = three_list_spelled (codes "differ ") line start b.start_is b.text g h.0 h.2 format f h.1 h.3 j h.4 in
      (defs.Differ (told g) (told f) list.0, list.1, (tells_group g, tells_group f, list.2))

  pub read_same : k ≡ Same → (format : Format) (g f : Named) (j : Span) → ReadsTwoGroupsList One line start (Ok (g, f, j)) → ReadsRequest format line (Ok (request.Same g f j))
  read_same is format g f j h =
      let b = begins Same is in (
        defs.Same (told g) (told f) (told_jahn (word_at line h.1 j.end) j h.4.spells),
        three_spelled (codes "same ") line start b.start_is b.text g h.0 h.2 f h.1 h.3 j h.4,
        (tells_group g, tells_group f, tells_jahn line h.1 j h.4.start_is h.4.ends h.4.spells),
      )

-- a read request tells the one request that the line spells
pub read_tells : (format : Format) (line : List ℕ) (r : Request) (q : defs.Request) → ReadsRequest format line (Ok r) →
    SpellsRequest format line q → Tells line r q
read_tells format line r q h spells = subst (Tells line r) (one_request_spelled format line h.0 q h.1 spells) h.2
