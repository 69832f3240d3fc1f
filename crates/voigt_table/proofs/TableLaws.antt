-- The weighted rows of the table that fits are a Voigt table.
--   component_small the component of an entry is one of the rank
--   zipped_named    weighted terms name the same free entries
--   blocks_told, fault_told, table_told    what is told of the Voigt table of a symbol with known blocks; of any symbol
use Rattle.list_laws.proofs.Kit.{◌≡◌, ℕ, suc, ◌^◌, ◌<◌, ◌≤◌, List, [], ◌∷◌, map, length, get_or, refl, ap, sym, ◌∙◌, subst, arith, inl, inr, get_or-map}
use Rattle.list_laws.proofs.Kit.{length-map, AllZip-get_or}
use Rattle.std.specs.Prelude.{Contains, Result, Ok, Err}
use lib.IntN.{pos}
use Rattle.tensor_defs.specs.declared.Sign.{Sign}
use Rattle.tensor_defs.specs.declared.Weights.{Weights}
use Rattle.tensor_defs.specs.Prelude.{Grows, AllOf, IsPlain, JahnSymbol, rank, Each, Fraction, ReachesLimit, value_of, Operation, block_before, block_numbers}
use Rattle.tensor_defs.specs.Prelude.{Fits, IsProper, Table, factor_of, Index, component_number, index_of, AreWeighted, HasBlocks, IsVoigtTable, VoigtTable}
use Rattle.tensor_defs.specs.Prelude.{VoigtEntry, WeightGrows, component_of, free_entry, rank_of_blocks, shift, weighted}
use Rattle.tensor_defs.specs.Table as defs
use Rattle.tensor_laws.proofs.Prelude.{block_order, number_below, one_table}
use Rattle.magnetic_groups.specs.Sets.{In}
use Rattle.exact_frac.proofs.Parts.{held-not_large}
use Rattle.reduced_form.specs.declared.forms.Term.{Term}
use Rattle.reduced_form.specs.declared.memory.SolveFault.{SolveFault}
use Rattle.reduced_form.specs.declared.memory.SolveFault.TheVariants.{TooLarge, NoMemory}
use Rattle.reduced_form.specs.Forms.{FormValue, HasUnits, IsForm, form_table, free_at, row_at, term_of, unit_fraction}
use Rattle.voigt_table.specs.declared.entries.Blocks.{Blocks}
use Rattle.voigt_table.specs.Blocks.{entry_at, entry_count, entry_number, sizes_of}
use Rattle.voigt_table.specs.Tables.{TellsBlocks, TellsVoigt, VoigtValue}
use Rattle.voigt_table.specs.Weighing.{AreWeightedTerms, IsWeighed, IsWeighted, TellsWeighed, WeighsOver, entry_of_place, entry_terms}
use Rattle.voigt_table.proofs.EntryLaws.{at_listed, component_rank, listed_at, number_told, small_shift}
use Rattle.voigt_table.proofs.ListLaws.{each_at}
use Rattle.voigt_table.proofs.WeightLaws.{proper_stays, unit_small}

pub component_small : (b : Blocks) (k : ℕ) → k < entry_count (sizes_of b) → (r n : ℕ) → rank_of_blocks (sizes_of b) ≡ r → n ≡ 3 ^ r →
    component_number (component_of (sizes_of b) (entry_at (sizes_of b) k)) < n
component_small b k l r n is size =
    let c : Index = component_of (sizes_of b) (entry_at (sizes_of b) k) in
    subst (λ (m : ℕ). component_number c < m)
    (ap (λ (x : ℕ). 3 ^ x) (component_rank b k l ∙ is) ∙ sym size) (number_below c)

pub zipped_named : (w : Weights) (frees : ℕ → VoigtEntry) (e : VoigtEntry) (n : ℕ) (ts us : List Term) → AreWeightedTerms w frees e ts us →
    Each (λ t. t.free < n) ts → Each (λ t. t.free < n) us
zipped_named w frees e n [] [] z h = tt
zipped_named w frees e n [] (u ∷ us) z h = absurd z
zipped_named w frees e n (t ∷ ts) [] z h = absurd z
zipped_named w frees e n (t ∷ ts) (u ∷ us) z h =
    (subst (λ (k : ℕ). k < n) (sym z.0.free) h.0, zipped_named w frees e n ts us z.1 h.1)

-- ---- lists
each_unmapped : {X Y : Type 0} (P : Y → Type 0) (g : X → Y) (xs : List X) → Each P (map g xs) → Each (λ x. P (g x)) xs
each_unmapped P g [] e = tt
each_unmapped P g (x ∷ xs) e = (e.0, each_unmapped P g xs e.1)

maps_same : (g : ℕ → VoigtEntry) (p : Index → VoigtEntry) (q : ℕ → Index) (xs ys : List ℕ) → length xs ≡ length ys →
    ((k : ℕ) → k < length ys → g (get_or xs k 0) ≡ p (q (get_or ys k 0))) → map g xs ≡ map p (map q ys)
maps_same g p q [] [] l h = refl
maps_same g p q [] (y ∷ ys) l h = absurd (omega arith)
maps_same g p q (x ∷ xs) [] l h = absurd (omega arith)
maps_same g p q (x ∷ xs) (y ∷ ys) l h =
    λ i. h 0 (omega arith) i ∷ maps_same g p q xs ys (omega arith) (λ k m. h (suc k) (omega arith)) i

pub no_term : Term
no_term = record { free = 0; factor = record { num = pos 0; den = 1 } }

-- ---- the Voigt table of a table that fits
abbrev kept_table : List ℕ → VoigtValue → VoigtTable
kept_table bs v = record {
  free = map (entry_at bs) v.free;
  terms = λ e. map term_of (row_at v.rows (entry_number bs e));
}

module _ (j : JahnSymbol) (hs : List Operation) (r n : ℕ) (b : Blocks) (w : Weights) (f : FormValue) (rank_is : rank j ≡ r)
    (size : n ≡ 3 ^ r) (blocks : rank_of_blocks (sizes_of b) ≡ r) (whole : IsForm n f)
    (fits : Fits j (In hs) (block_before (sizes_of b)) (form_table r f)) where
  abbrev bs : List ℕ
  bs = sizes_of b

  abbrev a : Table
  a = form_table r f

  free_same : (frees : List ℕ) → ((k : ℕ) → k < length f.free → entry_of_place bs frees k ≡ block_numbers bs (index_of r (free_at f.free k))) →
      (k : ℕ) → k < length f.free → entry_of_place bs frees k ≡ free_entry bs a k
  free_same frees told k l = told k l ∙ ap (block_numbers bs) (sym (get_or-map (index_of r) f.free k 0 [] l))

  entry_rank : (k : ℕ) → k < entry_count bs → length (component_of bs (entry_at bs k)) ≡ rank j
  entry_rank k l = component_rank b k l ∙ blocks ∙ sym rank_is

  named : (k : ℕ) → k < entry_count bs → Each (λ t. t.free < length f.free) (entry_terms bs f k)
  named k l = whole.named (component_number (component_of bs (entry_at bs k))) (component_small b k l r n blocks size)

  proper : (k : ℕ) → k < entry_count bs → Each (λ t. IsProper (term_of t)) (entry_terms bs f k)
  proper k l =
      each_unmapped IsProper term_of (entry_terms bs f k) (fits.well_formed (component_of bs (entry_at bs k)) (entry_rank k l)).0.1

  zip_weighted : (frees : List ℕ) → ((k : ℕ) → k < length f.free → entry_of_place bs frees k ≡ free_entry bs a k) → (e : VoigtEntry) →
      shift w e ≤ 2 → (ts us : List Term) → AreWeightedTerms w (entry_of_place bs frees) e ts us → Each (λ t. t.free < length f.free) ts →
      Each (λ t. IsProper (term_of t)) ts → AreWeighted w bs a e (map term_of ts) (map term_of us)
  zip_weighted frees same e small [] [] z h p = tt
  zip_weighted frees same e small [] (u ∷ us) z h p = absurd z
  zip_weighted frees same e small (t ∷ ts) [] z h p = absurd z
  zip_weighted frees same e small (t ∷ ts) (u ∷ us) z h p = (
    z.0.free,
    record {
      terms = z.0.factor.held.terms;
      not_zero = proper_stays (shift w e) (shift w (entry_of_place bs frees t.free)) t.factor u.factor small
          (small_shift w b (get_or frees t.free 0)) p.0.terms.positive p.0.not_zero z.0.factor;
    },
    sym z.0.factor.same ∙ ap (λ (g : VoigtEntry). weighted w e g (value_of t.factor)) (same t.free h.0),
    zip_weighted frees same e small ts us z.1 h.1 p.1,
  )

  kept_fits : (v : VoigtValue) → IsWeighed r w bs f v → IsVoigtTable j (In hs) bs w (kept_table bs v)
  kept_fits v told = record {
    table = a;
    fits = fits;
    free = maps_same (entry_at bs) (block_numbers bs) (index_of r) v.free f.free told.free_len told.free;
    sums = λ e c.
        let at = listed_at b e c in
        subst (λ (x : VoigtEntry). AreWeighted w bs a x (a.terms (component_of bs x)) (map term_of (row_at v.rows (entry_number bs x)))) at.2
        (subst (λ (k : ℕ). AreWeighted w bs a (entry_at bs at.0) (map term_of (entry_terms bs f at.0)) (map term_of (row_at v.rows k)))
        (sym (number_told b at.0 at.1))
        (zip_weighted v.free (free_same v.free told.free) (entry_at bs at.0) (small_shift w b at.0) (entry_terms bs f at.0)
        (row_at v.rows at.0) (told.rows at.0 at.1) (named at.0 at.1) (proper at.0 at.1)));
  }

  -- no weighted factor of its entries reaches the limit
  not_over_at : (v : VoigtValue) → IsWeighed r w bs f v → (k : ℕ) → k < entry_count bs → (t : defs.Term) →
      Contains (map term_of (entry_terms bs f k)) t →
      ReachesLimit (weighted w (entry_at bs k) (free_entry bs a t.place) (factor_of t)) → ⊥
  not_over_at v told k l t c over =
      let ts = entry_terms bs f k in
      let e : VoigtEntry = entry_at bs k in
      let q : ℕ = c.0 in
      let inside : q < length ts = subst (λ (m : ℕ). q < m) (length-map ts term_of) c.1 in
      let t0 : Term = get_or ts q no_term in
      let u0 : Term = get_or (row_at v.rows k) q no_term in
      let one : IsWeighted w (entry_of_place bs v.free) e t0 u0 =
      AllZip-get_or (IsWeighted w (entry_of_place bs v.free) e) ts (row_at v.rows k) q no_term no_term (told.rows k l) inside in
      let is : t ≡ term_of t0 = sym c.2 ∙ get_or-map term_of ts q no_term t inside in
      let small : t0.free < length f.free = each_at (λ x. x.free < length f.free) no_term ts (named k l) q inside in
      held-not_large _ u0.factor one.factor
      (subst (λ (g : VoigtEntry). ReachesLimit (weighted w e g (value_of t0.factor))) (sym (free_same v.free told.free t0.free small))
      (subst (λ (x : defs.Term). ReachesLimit (weighted w e (free_entry bs a x.place) (factor_of x))) is over))

  not_over : (v : VoigtValue) → IsWeighed r w bs f v → WeightGrows j (In hs) bs w → ⊥
  not_over v told g =
      let e : VoigtEntry = g.2 in
      let t : defs.Term = g.4 in
      let at = listed_at b e g.3 in
      let same = one_table j hs (block_before bs) (block_order (rank j) bs) g.0 a g.1 fits in
      let rank_e : length (component_of bs e) ≡ rank j =
      subst (λ (x : VoigtEntry). length (component_of bs x) ≡ rank j) at.2 (entry_rank at.0 at.1) in
      let there : Contains (a.terms (component_of bs e)) t =
      subst (λ (ts : List defs.Term). Contains ts t) (same.same_terms (component_of bs e) rank_e) g.5 in
      let over : ReachesLimit (weighted w e (free_entry bs a t.place) (factor_of t)) =
      subst (λ (fs : List Index). ReachesLimit (weighted w e (block_numbers bs (get_or fs t.place [])) (factor_of t))) same.same_free g.6 in
      not_over_at v told at.0 at.1 t
      (subst (λ (x : VoigtEntry). Contains (a.terms (component_of bs x)) t) (sym at.2) there)
      (subst (λ (x : VoigtEntry). ReachesLimit (weighted w x (free_entry bs a t.place) (factor_of t))) (sym at.2) over)

  over_grows : WeighsOver r w bs f → WeightGrows j (In hs) bs w
  over_grows o =
      let ts = entry_terms bs f o.entry in
      let e : VoigtEntry = entry_at bs o.entry in
      let t : Term = o.over.0 in
      let c = o.over.1 in
      let small : t.free < length f.free =
      subst (λ (x : Term). x.free < length f.free) c.2 (each_at (λ x. x.free < length f.free) t ts (named o.entry o.below) c.0 c.1) in (
        a,
        fits,
        e,
        at_listed b o.entry o.below,
        term_of t,
        (
          c.0,
          subst (λ (m : ℕ). c.0 < m) (sym (length-map ts term_of)) c.1,
          get_or-map term_of ts c.0 t (term_of t) c.1 ∙ ap term_of c.2,
        ),
        subst (λ (g : VoigtEntry). ReachesLimit (weighted w e g (value_of t.factor))) (free_same o.frees o.free t.free small) o.over.2,
      )

  -- factors 1 and -1 stay small
  units_small : HasUnits n f → WeighsOver r w bs f → ⊥
  units_small units o =
      let ts = entry_terms bs f o.entry in
      let e : VoigtEntry = entry_at bs o.entry in
      let t : Term = o.over.0 in
      let c = o.over.1 in
      let unit = subst (λ (x : Term). (s : Sign) × (x.factor ≡ unit_fraction s)) c.2
      (each_at (λ x. (s : Sign) × (x.factor ≡ unit_fraction s)) t ts
      (units (component_number (component_of bs e)) (component_small b o.entry o.below r n blocks size)) c.0 c.1) in
      unit_small (shift w e) (shift w (entry_of_place bs o.frees t.free)) unit.0 (small_shift w b o.entry)
      (small_shift w b (get_or o.frees t.free 0))
      (subst (λ (x : Fraction). ReachesLimit (weighted w e (entry_of_place bs o.frees t.free) (value_of x))) unit.1 o.over.2)

  pub blocks_told : (Grows j (In hs) (block_before (sizes_of b)) → ⊥) → (AllOf (In hs) IsPlain → HasUnits n f) →
      (res : Result VoigtValue SolveFault) → TellsWeighed r w (sizes_of b) f res → TellsBlocks j (In hs) (sizes_of b) w res
  blocks_told calm units (Ok v) told = (
    told.weights,
    told.sizes,
    subst (λ (ss : List ℕ). IsVoigtTable j (In hs) bs w (kept_table ss v)) (sym told.sizes) (kept_fits v told),
    λ g. elim g as (λ _. ⊥) [ inl x ↦ calm x | inr y ↦ not_over v told y ],
  )
  blocks_told calm units (Err TooLarge) told = (inr (over_grows told), λ plain. units_small (units plain) told)
  blocks_told calm units (Err NoMemory) told = tt

-- what is told where the component table isn't made
pub fault_told : (j : JahnSymbol) (H : Operation → Type 0) (ss : List ℕ) (w : Weights) (e : SolveFault) →
    (e ≡ TooLarge → Grows j H (block_before ss)) → TellsBlocks j H ss w (Err e)
fault_told j H ss w TooLarge grows = let g = grows refl in (inl g, g.1)
fault_told j H ss w NoMemory grows = tt

-- what is told of any symbol
pub table_told : (j : JahnSymbol) (H : Operation → Type 0) (ss : List ℕ) (w : Weights) (v : VoigtValue) → HasBlocks j.factors ss →
    TellsBlocks j H ss w (Ok v) → TellsVoigt j H w (Ok v)
table_told j H ss w v has told =
    subst (λ (xs : List ℕ). HasBlocks j.factors xs × TellsBlocks j H xs w (Ok v)) (sym told.1) (has, told)
