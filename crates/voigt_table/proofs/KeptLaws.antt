-- What is kept of a component table: free components, and the rows of all components.
--   small_component, small_entry, back, apart    the components of entries, and the entries of components
--   listed_component    the component at a place of the list of them
--   kept_row, kept_free    what is kept tells the rows and the free entries of a Voigt table
--   kept_whole      it is one
--   plain_weighed   with plain weights nothing changes
--   weighed_none, weighed_next    the rows of the first entries weighted
--   IsRowWeighed, row_start, row_next, row_done    the first terms of a row weighted
--   kept_form, kept_weighed, kept_over, weighed_form    all rows weighted; a weighted factor that reaches the limit
use Rattle.std.proofs.Common.{◌≡◌, ◌≢◌, ℕ, suc, ◌+◌, ◌^◌, ◌<◌, ◌≤◌, true, nat_eq, nat_lt, List, [], ◌∷◌, ◌++◌, map, set, take, drop, length, get_or, refl, ap, sym, ◌∙◌, subst, arith, inl, inr}
use Rattle.std.specs.List.{range_with_len, refill}
use Rattle.std.specs.Prelude.{Err, IsErrAnd, Ok, Result}
use Rattle.std.proofs.lemmas.Bool.{cases_lt, eqb-true, ltb-true}
use Rattle.std.proofs.lemmas.Grind.{get_or-set_at}
use Rattle.std.proofs.lemmas.List.{get_or-map, get_or-set_other, get_or_default, length-map, length-set, map-set, take-append-le, take_all}
use Rattle.std.proofs.lemmas.List.Elements.{length_all_zip}
use Rattle.std.proofs.lemmas.List.FromFn.{get_or-map-range_with_len, length-map-range_with_len}
use Rattle.tensor_defs.specs.declared.Weights.{Weights}
use Rattle.tensor_defs.specs.declared.Weights.TheVariants.{Plain}
use Rattle.tensor_defs.specs.Prelude.{Each, Fraction, Number, ReachesLimit, mul, value_of, block_numbers, index_of, VoigtEntry, halved, rank_of_blocks, shift}
use Rattle.tensor_defs.specs.Prelude.{weighted}
use Rattle.exact_frac.specs.Held.{IsHeldAs}
use Rattle.reduced_form.specs.declared.forms.Term.{Term}
use Rattle.reduced_form.specs.declared.memory.SolveFault.{SolveFault}
use Rattle.reduced_form.specs.declared.memory.SolveFault.TheVariants.{TooLarge, NoMemory}
use Rattle.reduced_form.specs.Forms.{FormValue, IsForm, free_at, row_at}
use Rattle.voigt_table.specs.declared.entries.Blocks.{Blocks}
use Rattle.voigt_table.specs.declared.entries.Blocks.TheVariants.{Pair, VectorPair, PairVector, TwoPairs}
use Rattle.voigt_table.specs.Blocks.{component_at, entry_at, entry_count, entry_of, sizes_of}
use Rattle.voigt_table.specs.Tables.{IsVoigtValue, VoigtValue, kept_value}
use Rattle.voigt_table.specs.Weighing.{AreHeld, AreWeighed, AreWeightedTerms, IsWeighed, IsWeighted, TellsWeighed, WeighsOver, WeighsTooMuch, entry_of_place, entry_terms}
use Rattle.list_laws.proofs.Below.{all_below, below_told}
use Rattle.voigt_table.proofs.EntryLaws.{component_told, entry_told}
use Rattle.voigt_table.proofs.TableLaws.{no_term, zipped_named}
use Rattle.voigt_table.proofs.WeightLaws.{even, pow2}

-- ---- components of entries, and entries of components
components_small : (b : Blocks) → all_below (entry_count (sizes_of b)) (λ k. nat_lt (component_at b k) (3 ^ rank_of_blocks (sizes_of b))) ≡ true
components_small Pair = refl
components_small VectorPair = refl
components_small PairVector = refl
components_small TwoPairs = refl

pub small_component : (b : Blocks) (k : ℕ) → k < entry_count (sizes_of b) → component_at b k < 3 ^ rank_of_blocks (sizes_of b)
small_component b k l = ltb-true _ _ (below_told (entry_count (sizes_of b)) _ (components_small b) k l)

entries_small : (b : Blocks) → all_below (3 ^ rank_of_blocks (sizes_of b)) (λ c. nat_lt (entry_of b c) (entry_count (sizes_of b))) ≡ true
entries_small Pair = refl
entries_small VectorPair = refl
entries_small PairVector = refl
entries_small TwoPairs = refl

pub small_entry : (b : Blocks) (c : ℕ) → c < 3 ^ rank_of_blocks (sizes_of b) → entry_of b c < entry_count (sizes_of b)
small_entry b c l = ltb-true _ _ (below_told (3 ^ rank_of_blocks (sizes_of b)) _ (entries_small b) c l)

entries_back : (b : Blocks) → all_below (entry_count (sizes_of b)) (λ k. nat_eq (entry_of b (component_at b k)) k) ≡ true
entries_back Pair = refl
entries_back VectorPair = refl
entries_back PairVector = refl
entries_back TwoPairs = refl

pub back : (b : Blocks) (k : ℕ) → k < entry_count (sizes_of b) → entry_of b (component_at b k) ≡ k
back b k l = eqb-true _ _ (below_told (entry_count (sizes_of b)) _ (entries_back b) k l)

pub apart : (b : Blocks) (i k : ℕ) → i < entry_count (sizes_of b) → k < entry_count (sizes_of b) → component_at b i ≡ component_at b k → i ≡ k
apart b i k l m e = sym (back b i l) ∙ ap (entry_of b) e ∙ back b k m

pub listed_component : (b : Blocks) (k d : ℕ) → k < entry_count (sizes_of b) →
    get_or (map (component_at b) (range_with_len 0 (entry_count (sizes_of b)))) k d ≡ component_at b k
listed_component b k d l = get_or-map-range_with_len (component_at b) 0 (entry_count (sizes_of b)) k k d l (omega arith)

-- ---- what is kept
pub kept_row : (b : Blocks) (rows : List (List Term)) (k : ℕ) → k < entry_count (sizes_of b) →
    row_at (map (λ i. row_at rows (component_at b i)) (range_with_len 0 (entry_count (sizes_of b)))) k ≡ row_at rows (component_at b k)
kept_row b rows k l =
    get_or-map-range_with_len (λ i. row_at rows (component_at b i)) 0 (entry_count (sizes_of b)) k k [] l (omega arith)

pub kept_free : (b : Blocks) (free : List ℕ) (k : ℕ) → k < length free → get_or (map (entry_of b) free) k 0 ≡ entry_of b (free_at free k)
kept_free b free k l = get_or-map (entry_of b) free k 0 0 l

pub kept_whole : (b : Blocks) (w : Weights) (free : List ℕ) (rows : List (List Term)) →
    IsForm (3 ^ rank_of_blocks (sizes_of b)) (record { free = free; rows = rows }) → IsVoigtValue (kept_value w b free rows)
kept_whole b w free rows whole = record {
  len = length-map-range_with_len (λ i. row_at rows (component_at b i)) 0 (entry_count (sizes_of b));
  below = λ k l.
      let inside : k < length free = subst (λ (m : ℕ). k < m) (length-map free (entry_of b)) l in
      subst (λ (x : ℕ). x < entry_count (sizes_of b)) (sym (kept_free b free k inside)) (small_entry b (free_at free k) (whole.below k inside));
  named = λ k l.
      subst (λ (m : ℕ). Each (λ t. t.free < m) (row_at (kept_value w b free rows).rows k)) (sym (length-map free (entry_of b)))
      (subst (λ (ts : List Term). Each (λ t. t.free < length free) ts) (sym (kept_row b rows k l))
      (whole.named (component_at b k) (small_component b k l)));
}

-- ---- plain weights
plain_terms : (frees : ℕ → VoigtEntry) (e : VoigtEntry) (ts : List Term) → AreHeld ts → AreWeightedTerms Plain frees e ts ts
plain_terms frees e [] h = tt
plain_terms frees e (t ∷ ts) h = (
  record { free = refl; factor = record { same = even 0 (value_of t.factor) (omega arith); held = h.0 } },
  plain_terms frees e ts h.1,
)

pub plain_weighed : (b : Blocks) (free : List ℕ) (rows : List (List Term)) → length rows ≡ 3 ^ rank_of_blocks (sizes_of b) →
    ((c : ℕ) → c < length rows → Each (λ t. t.free < length free) (row_at rows c)) → ((c : ℕ) → c < length rows → AreHeld (row_at rows c)) →
    AreWeighed b Plain free rows rows (entry_count (sizes_of b))
plain_weighed b free rows size named held = record {
  len = refl;
  named = named;
  done = λ k l.
      plain_terms _ _ (row_at rows (component_at b k))
      (held (component_at b k) (subst (λ (m : ℕ). component_at b k < m) (sym size) (small_component b k l)));
  rest = λ k h l. refl;
}

-- ---- the rows of the first entries weighted
pub weighed_none : (b : Blocks) (w : Weights) (free : List ℕ) (rows : List (List Term)) →
    ((c : ℕ) → c < length rows → Each (λ t. t.free < length free) (row_at rows c)) → AreWeighed b w free rows rows 0
weighed_none b w free rows named = record {
  len = refl;
  named = named;
  done = λ k l. absurd (omega arith);
  rest = λ k h l. refl;
}

pub weighed_next : (b : Blocks) (w : Weights) (free : List ℕ) (old now new : List (List Term)) (n : ℕ) (row : List Term) →
    length old ≡ 3 ^ rank_of_blocks (sizes_of b) → AreWeighed b w free old now n → n < entry_count (sizes_of b) →
    AreWeightedTerms w (entry_of_place (sizes_of b) (map (entry_of b) free)) (entry_at (sizes_of b) n) (row_at now (component_at b n)) row →
    new ≡ set now (component_at b n) row → AreWeighed b w free old new (n + 1)
weighed_next b w free old now new n row size h l zip is =
    subst (λ (rows : List (List Term)). AreWeighed b w free old rows (n + 1)) (sym is) step
  where
    c : ℕ
    c = component_at b n

    inside : c < length now
    inside = subst (λ (m : ℕ). c < m) (sym (h.len ∙ size)) (small_component b n l)

    at_old : row_at now c ≡ row_at old c
    at_old = h.rest n (omega arith) l

    other : (k : ℕ) → k < entry_count (sizes_of b) → k ≢ n → row_at (set now c row) (component_at b k) ≡ row_at now (component_at b k)
    other k m d = get_or-set_other now c (component_at b k) row [] (λ e. d (apart b k n m l e))

    step : AreWeighed b w free old (set now c row) (n + 1)
    step = record {
      len = length-set now c row ∙ h.len;
      named = λ d m. elim (cases_lt d c) as (λ _. Each (λ t. t.free < length free) (row_at (set now c row) d)) [
        | inl p ↦ subst (λ (ts : List Term). Each (λ t. t.free < length free) ts) (sym (get_or-set_other now c d row [] (λ e. absurd (omega (arith, e, p))))) (h.named d m)
        | inr p ↦ elim (cases_lt c d) as (λ _. Each (λ t. t.free < length free) (row_at (set now c row) d)) [
          | inl q ↦ subst (λ (ts : List Term). Each (λ t. t.free < length free) ts) (sym (get_or-set_other now c d row [] (λ e. absurd (omega (arith, e, q))))) (h.named d m)
          | inr q ↦
              let same : d ≡ c = omega arith in
              subst (λ (ts : List Term). Each (λ t. t.free < length free) ts) (sym (get_or-set_at now c d row [] same inside))
              (zipped_named w _ _ (length free) (row_at now c) row zip (h.named c (subst (λ (m : ℕ). c < m) h.len inside)))
        ]
      ];
      done = λ k m. elim (cases_lt k n) as (λ _. AreWeightedTerms w (entry_of_place (sizes_of b) (map (entry_of b) free)) (entry_at (sizes_of b) k) (row_at old (component_at b k)) (row_at (set now c row) (component_at b k))) [
        | inl p ↦ subst (λ (us : List Term). AreWeightedTerms w (entry_of_place (sizes_of b) (map (entry_of b) free)) (entry_at (sizes_of b) k) (row_at old (component_at b k)) us)
            (sym (other k (omega arith) (λ e. absurd (omega (arith, e, p))))) (h.done k p)
        | inr p ↦
            let same : n ≡ k = omega arith in
            subst (λ (i : ℕ). AreWeightedTerms w (entry_of_place (sizes_of b) (map (entry_of b) free)) (entry_at (sizes_of b) i) (row_at old (component_at b i)) (row_at (set now c row) (component_at b i))) same
            (subst (λ (us : List Term). AreWeightedTerms w (entry_of_place (sizes_of b) (map (entry_of b) free)) (entry_at (sizes_of b) n) (row_at old c) us)
            (sym (get_or-set_at now c c row [] refl inside))
            (subst (λ (ts : List Term). AreWeightedTerms w (entry_of_place (sizes_of b) (map (entry_of b) free)) (entry_at (sizes_of b) n) ts row) at_old zip))
      ];
      rest = λ k m q. other k q (λ e. absurd (omega (arith, e, m))) ∙ h.rest k (omega (arith, m)) q;
    }

-- the same where a slice of the row was written
refilled : (xs ws : List Term) → length ws ≡ length xs → refill (length xs) xs ws ≡ ws
refilled xs ws e =
    ap (λ n. take n (ws ++ drop (length ws) xs)) (sym e)
    ∙ take-append-le (length ws) ws (drop (length ws) xs) (omega arith) ∙ take_all (length ws) ws (omega arith)

pub weighed_set : {X : Type 0} (f : X → List Term) (b : Blocks) (w : Weights) (free : List ℕ) (old : List (List Term)) (rows : List X) (n c : ℕ)
    (x y : X) (row : List Term) → length old ≡ 3 ^ rank_of_blocks (sizes_of b) → AreWeighed b w free old (map f rows) n → n < entry_count (sizes_of b) →
    c ≡ component_at b n → x ≡ get_or rows c x →
    AreWeightedTerms w (entry_of_place (sizes_of b) (map (entry_of b) free)) (entry_at (sizes_of b) n) (f x) row →
    f y ≡ refill (length (f x)) (f x) row → AreWeighed b w free old (map f (set rows c y)) (n + 1)
weighed_set f b w free old rows n c x y row size h l at is zip made =
    let long : length row ≡ length (f x) = sym (length_all_zip _ (f x) row zip) in
    let inside : c < length rows = subst (λ (m : ℕ). c < m) (sym (h.len ∙ size) ∙ length-map rows f) (subst (λ (m : ℕ). m < 3 ^ rank_of_blocks (sizes_of b)) (sym at) (small_component b n l)) in
    weighed_next b w free old (map f rows) (map f (set rows c y)) n row size h l
    (subst (λ (ts : List Term). AreWeightedTerms w (entry_of_place (sizes_of b) (map (entry_of b) free)) (entry_at (sizes_of b) n) ts row)
    (ap f is ∙ sym (get_or-map f rows c x [] inside) ∙ ap (row_at (map f rows)) at) zip)
    (map-set f rows c y ∙ (λ i. set (map f rows) (at i) ((made ∙ refilled (f x) row long) i)))

-- ---- the first terms of a row weighted
pub record IsRowWeighed (w : Weights) (frees : ℕ → VoigtEntry) (e : VoigtEntry) (old new : List Term) (end : ℕ) : Type 0 where
  pub len : length new ≡ length old
  pub done : (k : ℕ) → k < end → IsWeighted w frees e (get_or old k no_term) (get_or new k no_term)
  pub rest : (k : ℕ) → end ≤ k → get_or new k no_term ≡ get_or old k no_term

pub row_start : (w : Weights) (frees : ℕ → VoigtEntry) (e : VoigtEntry) (row : List Term) → IsRowWeighed w frees e row row 0
row_start w frees e row = record { len = refl; done = λ k l. absurd (omega arith); rest = λ k l. refl }

pub row_next : (w : Weights) (frees : ℕ → VoigtEntry) (e : VoigtEntry) (old now new : List Term) (p : ℕ) (u : Term) →
    IsRowWeighed w frees e old now p → p < length old → IsWeighted w frees e (get_or old p no_term) u → new ≡ set now p u →
    IsRowWeighed w frees e old new (p + 1)
row_next w frees e old now new p u h l one is = subst (λ (ts : List Term). IsRowWeighed w frees e old ts (p + 1)) (sym is) (record {
  len = length-set now p u ∙ h.len;
  done = λ k m. elim (cases_lt k p) as (λ _. IsWeighted w frees e (get_or old k no_term) (get_or (set now p u) k no_term)) [
    | inl q ↦ subst (λ (t : Term). IsWeighted w frees e (get_or old k no_term) t) (sym (get_or-set_other now p k u no_term (λ e. absurd (omega (arith, e, q))))) (h.done k q)
    | inr q ↦
        let same : p ≡ k = omega arith in
        let inside : p < length now = subst (λ (m : ℕ). p < m) (sym h.len) l in
        subst (λ (i : ℕ). IsWeighted w frees e (get_or old i no_term) (get_or (set now p u) i no_term)) same
        (subst (λ (t : Term). IsWeighted w frees e (get_or old p no_term) t) (sym (get_or-set_at now p p u no_term refl inside)) one)
  ];
  rest = λ k m. get_or-set_other now p k u no_term (λ e. absurd (omega (arith, e, m))) ∙ h.rest k (omega (arith, m));
})

zipped : (w : Weights) (frees : ℕ → VoigtEntry) (e : VoigtEntry) (ts us : List Term) → length us ≡ length ts →
    ((k : ℕ) → k < length ts → IsWeighted w frees e (get_or ts k no_term) (get_or us k no_term)) → AreWeightedTerms w frees e ts us
zipped w frees e [] [] l h = tt
zipped w frees e [] (u ∷ us) l h = absurd (omega arith)
zipped w frees e (t ∷ ts) [] l h = absurd (omega arith)
zipped w frees e (t ∷ ts) (u ∷ us) l h = (h 0 (omega arith), zipped w frees e ts us (omega arith) (λ k m. h (suc k) (omega arith)))

-- the term at the next place
pub term_here : (w : Weights) (frees : ℕ → VoigtEntry) (e : VoigtEntry) (old now : List Term) (p : ℕ) (t : Term) →
    IsRowWeighed w frees e old now p → p < length old → t ≡ get_or now p t → t ≡ get_or old p no_term
term_here w frees e old now p t h l is =
    let inside : p < length now = subst (λ (m : ℕ). p < m) (sym h.len) l in
    is ∙ get_or_default now p t no_term inside ∙ h.rest p (omega arith)

pub term_weighed : (w : Weights) (frees : ℕ → VoigtEntry) (e : VoigtEntry) (t u : Term) (n m : ℕ) (v : Fraction) (k : ℕ) → t ≡ u →
    n ≡ shift w e → m ≡ shift w (frees t.free) → IsHeldAs (halved m (mul (pow2 n) (value_of t.factor))) v → k ≡ u.free →
    IsWeighted w frees e u (record { free = k; factor = v })
term_weighed w frees e t u n m v k same of_entry of_free held is = record {
  free = is;
  factor = subst (λ (x : Term). IsHeldAs (weighted w e (frees x.free) (value_of x.factor)) v) same
      (subst (λ (x : Number). IsHeldAs x v) (λ i. halved (of_free i) (mul (pow2 (of_entry i)) (value_of t.factor))) held);
}

pub term_over : (w : Weights) (frees : ℕ → VoigtEntry) (e : VoigtEntry) (old : List Term) (p : ℕ) (t : Term) (n m : ℕ) →
    p < length old → t ≡ get_or old p no_term → n ≡ shift w e → m ≡ shift w (frees t.free) →
    ReachesLimit (halved m (mul (pow2 n) (value_of t.factor))) → WeighsTooMuch w frees e old
term_over w frees e old p t n m l same of_entry of_free over = (
  t,
  (p, l, get_or_default old p t no_term l ∙ sym same),
  subst (λ (x : Number). ReachesLimit x) (λ i. halved (of_free i) (mul (pow2 (of_entry i)) (value_of t.factor))) over,
)

pub row_done : (w : Weights) (frees : ℕ → VoigtEntry) (e : VoigtEntry) (old new : List Term) (end : ℕ) → IsRowWeighed w frees e old new end →
    length old ≤ end → AreWeightedTerms w frees e old new
row_done w frees e old new end h l = zipped w frees e old new h.len (λ k m. h.done k (omega (arith, m, l)))

-- ---- what is told
pub told_err : (r : ℕ) (w : Weights) (bs : List ℕ) (f : FormValue) (res : Result VoigtValue SolveFault) (e : SolveFault) →
    IsErrAnd res (λ x. x ≡ e) → (e ≡ TooLarge → WeighsOver r w bs f) → TellsWeighed r w bs f res
told_err r w bs f (Ok v) e h q = absurd h
told_err r w bs f (Err TooLarge) e h q = q (sym h)
told_err r w bs f (Err NoMemory) e h q = tt

-- ---- all rows
module _ (r n : ℕ) (b : Blocks) (w : Weights) (f : FormValue) (rank : rank_of_blocks (sizes_of b) ≡ r) (size : n ≡ 3 ^ r) (whole : IsForm n f) where
  below : (k : ℕ) → k < length f.free → free_at f.free k < 3 ^ rank_of_blocks (sizes_of b)
  below k l = subst (λ (m : ℕ). free_at f.free k < m) (size ∙ ap (λ x. 3 ^ x) (sym rank)) (whole.below k l)

  pub kept_form : IsForm (3 ^ rank_of_blocks (sizes_of b)) f
  kept_form = subst (λ (m : ℕ). IsForm m f) (size ∙ ap (λ x. 3 ^ x) (sym rank)) whole

  frees_told : (k : ℕ) → k < length f.free →
      entry_of_place (sizes_of b) (map (entry_of b) f.free) k ≡ block_numbers (sizes_of b) (index_of r (free_at f.free k))
  frees_told k l =
      ap (entry_at (sizes_of b)) (kept_free b f.free k l) ∙ entry_told b (free_at f.free k) (below k l)
      ∙ ap (λ x. block_numbers (sizes_of b) (index_of x (free_at f.free k))) rank

  pub kept_weighed : (rows : List (List Term)) → AreWeighed b w f.free f.rows rows (entry_count (sizes_of b)) →
      IsWeighed r w (sizes_of b) f (kept_value w b f.free rows)
  kept_weighed rows told = record {
    weights = refl;
    sizes = refl;
    free_len = length-map f.free (entry_of b);
    free = frees_told;
    rows = λ k l.
        subst (λ (us : List Term). AreWeightedTerms w (entry_of_place (sizes_of b) (map (entry_of b) f.free)) (entry_at (sizes_of b) k) (entry_terms (sizes_of b) f k) us)
        (sym (kept_row b rows k l))
        (subst (λ (c : ℕ). AreWeightedTerms w (entry_of_place (sizes_of b) (map (entry_of b) f.free)) (entry_at (sizes_of b) k) (row_at f.rows c) (row_at rows (component_at b k)))
        (component_told b k l) (told.done k l));
  }

  pub kept_over : (k : ℕ) → k < entry_count (sizes_of b) →
      WeighsTooMuch w (entry_of_place (sizes_of b) (map (entry_of b) f.free)) (entry_at (sizes_of b) k) (row_at f.rows (component_at b k)) →
      WeighsOver r w (sizes_of b) f
  kept_over k l over = record {
    frees = map (entry_of b) f.free;
    free = frees_told;
    entry = k;
    below = l;
    over = subst (λ (c : ℕ). WeighsTooMuch w (entry_of_place (sizes_of b) (map (entry_of b) f.free)) (entry_at (sizes_of b) k) (row_at f.rows c)) (component_told b k l) over;
  }

  -- the weighted rows are kept with the same free components
  pub weighed_form : (rows : List (List Term)) → AreWeighed b w f.free f.rows rows (entry_count (sizes_of b)) →
      IsForm (3 ^ rank_of_blocks (sizes_of b)) (record { free = f.free; rows = rows })
  weighed_form rows told = record {
    len = told.len ∙ kept_form.len;
    below = kept_form.below;
    few = kept_form.few;
    named = λ c l. told.named c (subst (λ (m : ℕ). c < m) (sym kept_form.len) l);
  }
