-- A request for a Voigt table has one answer.
--   ShapeFacts, shapes_known    the blocks of a shape are told by its factors, and its entries have components
--   one_blocks          a symbol has its blocks in one way
--   weighted_same       the terms of an entry are told by those of its component
--   one_voigt_lem       a request for a Voigt table has one answer
use Rattle.list_laws.proofs.Kit.{◌≡◌, ℕ, Bool, true, false, cond, List, [], ◌∷◌, ◌++◌, length, replicate, get_or, refl, ap, sym, ◌∙◌, subst, flat_map}
use Rattle.list_laws.proofs.Kit.{decimal}
use Rattle.std.specs.Prelude.{map, codes, nat_eq, Contains}
use Rattle.list_laws.proofs.Members.{each_held, each_from}
use Rattle.number_laws.proofs.Limit.{one_fraction}
use Rattle.tensor_defs.specs.declared.Weights.{Weights}
use Rattle.tensor_defs.specs.Prelude.{InGroup, Atom, V, Bracketed, Factor, JahnSymbol, rank, factors_rank, Each, Operation, GroupSymbol, Term, Table}
use Rattle.tensor_defs.specs.Prelude.{factor_of, block_numbers, block_before, VoigtShape, voigt_shapes, HasBlocks, VoigtEntry, entries, rank_of_blocks}
use Rattle.tensor_defs.specs.Prelude.{component_of, weighted, AreWeighted, VoigtTable, IsVoigtTable}
use Rattle.tensor_laws.proofs.Prelude.{block_order, nat_eq_means, same_free, same_terms}
use Rattle.text_defs.specs.Prelude.{line_of, row_text, weights_word, has_entry, entry_name, named, entry_line, voigt_text, group_text, jahn_text}
use Rattle.answer_laws.proofs.Forms.{flat_map_same}
use Rattle.answer_laws.specs.Laws.{OneVoigt}

-- ---- the six shapes
abbrev blocks_of_factor : Atom → ℕ → List ℕ
blocks_of_factor V n = replicate n 1
blocks_of_factor (Bracketed k V p) n = replicate n 2
blocks_of_factor (Bracketed k (Bracketed l a q) p) n = replicate p 2

abbrev blocks_of : List Factor → List ℕ
blocks_of [] = []
blocks_of (f ∷ fs) = blocks_of_factor f.atom f.power ++ blocks_of fs

abbrev all_of : List VoigtEntry → (VoigtEntry → Bool) → Bool
all_of [] p = true
all_of (e ∷ es) p = cond (p e) (all_of es p) false

abbrev has_rank : List ℕ → VoigtEntry → Bool
has_rank bs e = nat_eq (length (component_of bs e)) (rank_of_blocks bs)

record ShapeFacts (s : VoigtShape) : Type 0 where
  blocks : blocks_of s.factors ≡ s.blocks
  ranks : factors_rank s.factors ≡ rank_of_blocks s.blocks
  components : all_of (entries s.blocks) (has_rank s.blocks) ≡ true

shapes_known : Each ShapeFacts voigt_shapes
shapes_known = (
  record { blocks = refl; ranks = refl; components = refl },
  (
    record { blocks = refl; ranks = refl; components = refl },
    (
      record { blocks = refl; ranks = refl; components = refl },
      (
        record { blocks = refl; ranks = refl; components = refl },
        (
          record { blocks = refl; ranks = refl; components = refl },
          (record { blocks = refl; ranks = refl; components = refl }, tt),
        ),
      ),
    ),
  ),
)

shape_known : (fs : List Factor) (bs : List ℕ) → HasBlocks fs bs → ShapeFacts (record { factors = fs; blocks = bs })
shape_known fs bs h = each_held ShapeFacts voigt_shapes shapes_known (record { factors = fs; blocks = bs }) h

-- a symbol has its blocks in one way
pub one_blocks : (fs : List Factor) (bs cs : List ℕ) → HasBlocks fs bs → HasBlocks fs cs → bs ≡ cs
one_blocks fs bs cs p q = sym (shape_known fs bs p).blocks ∙ (shape_known fs cs q).blocks

each_tested : (bs : List ℕ) (es : List VoigtEntry) → all_of es (has_rank bs) ≡ true →
    Each (λ e. length (component_of bs e) ≡ rank_of_blocks bs) es
each_tested bs [] t = tt
each_tested bs (e ∷ es) t = by_test (has_rank bs e) refl (each_tested bs es) t
  where
    by_test : (b : Bool) → has_rank bs e ≡ b → (all_of es (has_rank bs) ≡ true →
        Each (λ e. length (component_of bs e) ≡ rank_of_blocks bs) es) →
        cond b (all_of es (has_rank bs)) false ≡ true →
        Each (λ e. length (component_of bs e) ≡ rank_of_blocks bs) (e ∷ es)
    by_test true is more t = (nat_eq_means _ _ is, more t)
    by_test false is more t = absurd cc

-- ---- terms
weighted_same : (w : Weights) (bs : List ℕ) (a b : Table) → a.free ≡ b.free → (e : VoigtEntry) (ts us vs : List Term) →
    AreWeighted w bs a e ts us → AreWeighted w bs b e ts vs → us ≡ vs
weighted_same w bs a b f e [] [] [] p q = refl
weighted_same w bs a b f e [] [] (v ∷ vs) p q = absurd q
weighted_same w bs a b f e [] (u ∷ us) vs p q = absurd p
weighted_same w bs a b f e (t ∷ ts) [] vs p q = absurd p
weighted_same w bs a b f e (t ∷ ts) (u ∷ us) [] p q = absurd q
weighted_same w bs a b f e (t ∷ ts) (u ∷ us) (v ∷ vs) p q =
    let places : u.place ≡ v.place = p.0 ∙ sym q.0 in
    let factors : factor_of u ≡ factor_of v = p.2
    ∙ (λ i. weighted w e (block_numbers bs (get_or (f i) t.place [])) (factor_of t)) ∙ sym q.2 in
    let fractions : u.factor ≡ v.factor = one_fraction u.factor v.factor p.1.terms q.1.terms factors in
    let rest : us ≡ vs = weighted_same w bs a b f e ts us vs p.3 q.3 in
    λ i. record { place = places i; factor = fractions i } ∷ rest i

-- ---- tables
entry_line_same : (w : Weights) (v u : VoigtTable) (e : VoigtEntry) → v.free ≡ u.free → v.terms e ≡ u.terms e →
    entry_line w v e ≡ entry_line w u e
entry_line_same w v u e f t =
    λ i. row_text (has_entry (f i) e) (entry_name w e) (named (map (entry_name w) (f i)) (t i))

voigt_text_same : (g : GroupSymbol) (j : JahnSymbol) (w : Weights) (bs : List ℕ) (v u : VoigtTable) →
    v.free ≡ u.free → ((e : VoigtEntry) → Contains (entries bs) e → v.terms e ≡ u.terms e) →
    voigt_text g j w bs v ≡ voigt_text g j w bs u
voigt_text_same g j w bs v u f t =
    let lines : flat_map (entry_line w v) (entries bs) ≡ flat_map (entry_line w u) (entries bs) =
    flat_map_same (entry_line w v) (entry_line w u) (entries bs)
    (each_from (λ e. entry_line w v e ≡ entry_line w u e) (entries bs)
    (λ e c. entry_line_same w v u e f (t e c))) in
    λ i. line_of (codes "voigt" ∷ group_text g ∷ jahn_text j ∷ weights_word w ∷ codes "free" ∷ decimal (length (f i))
    ∷ []) ++ lines i

-- the Voigt tables of one symbol have the same free entries, and the same terms at each entry
module _ (j : JahnSymbol) (H : Operation → Type 0) (bs : List ℕ) (w : Weights) (blocks : HasBlocks j.factors bs)
    (v u : VoigtTable) (p : IsVoigtTable j H bs w v) (q : IsVoigtTable j H bs w u) where
  tables_free : p.table.free ≡ q.table.free
  tables_free = same_free j H (block_before bs) (block_order (rank j) bs) p.table q.table p.fits q.fits

  entries_free : v.free ≡ u.free
  entries_free = p.free ∙ ap (map (block_numbers bs)) tables_free ∙ sym q.free

  entry_terms : (e : VoigtEntry) → Contains (entries bs) e → v.terms e ≡ u.terms e
  entry_terms e c =
      let known : ShapeFacts (record { factors = j.factors; blocks = bs }) = shape_known j.factors bs blocks in
      let long : length (component_of bs e) ≡ rank j = each_held (λ e. length (component_of bs e) ≡ rank_of_blocks bs)
      (entries bs) (each_tested bs (entries bs) known.components) e c ∙ sym known.ranks in
      let terms : p.table.terms (component_of bs e) ≡ q.table.terms (component_of bs e) =
      same_terms j H (block_before bs) (block_order (rank j) bs) p.table q.table p.fits q.fits (component_of bs e) long in
      weighted_same w bs p.table q.table tables_free e (q.table.terms (component_of bs e)) (v.terms e) (u.terms e)
      (subst (λ ts. AreWeighted w bs p.table e ts (v.terms e)) terms (p.sums e c)) (q.sums e c)

pub one_voigt_lem : OneVoigt
one_voigt_lem g j w a b p q =
    let blocks : p.0 ≡ q.0 = one_blocks j.jahn.factors p.0 q.0 p.1 q.1 in
    same_blocks q.0 q.1 q.2 q.3 p.2 (subst (λ bs. IsVoigtTable j.jahn (InGroup g.symbol) bs w p.2) blocks p.3)
    (p.4 ∙ ap (λ bs. voigt_text g.symbol j.jahn w bs p.2) blocks) q.4
  where
    same_blocks : (bs : List ℕ) → HasBlocks j.jahn.factors bs → (u : VoigtTable) →
        IsVoigtTable j.jahn (InGroup g.symbol) bs w u → (v : VoigtTable) →
        IsVoigtTable j.jahn (InGroup g.symbol) bs w v → a ≡ voigt_text g.symbol j.jahn w bs v →
        b ≡ voigt_text g.symbol j.jahn w bs u → a ≡ b
    same_blocks bs h u y v x e f =
        e ∙ voigt_text_same g.symbol j.jahn w bs v u
        (entries_free j.jahn (InGroup g.symbol) bs w h v u x y)
        (entry_terms j.jahn (InGroup g.symbol) bs w h v u x y) ∙ sym f
