-- The listings of spans.
--   kept_listing, span_none, only_identity    the listing of a span, and of that of no generators
--   Joined, joined_frame, joined_span, fits_frame, joined_told, joined_parts    one operation more
--   accepted    a symbol whose group is without time reversal alone
use Rattle.list_laws.proofs.Kit.{◌≡◌, Bool, false, List, [], ◌∷◌, ◌++◌, sym, ◌∙◌, subst, ◌⊎◌, inl, inr}
use Rattle.list_laws.proofs.Kit.{Contains-append_left, Contains-push, Contains-push_cases, false≢true}
use Rattle.std.specs.Prelude.{Contains, ◌↔◌, IsTrue, Option}
use Rattle.list_laws.proofs.Lists.{none_held}
use Rattle.tensor_defs.specs.Prelude.{Operation, IsProduct, identity, IsListing, comes_before, Generated, IsPlain, IsHexagonal}
use Rattle.tensor_laws.proofs.Prelude.{generated_within}
use Rattle.magnetic_groups.specs.Prelude.{HaveFrame, FitsFrame, Spanned, IsKept}
use Rattle.magnetic_groups.specs.Sets.{generators_of}
use Rattle.magnetic_groups.proofs.Held.{kept_by}
use Rattle.group_closing.proofs.Reaching.{spanned_times, spanned_one, spanned_framed}
use Rattle.group_closing.proofs.Spans.{common_product, each_map, span_product}

-- the listing of a span
pub kept_listing : (gens items : List Operation) (m : List Bool) → IsKept gens items m →
    IsListing comes_before (Spanned gens) items
kept_listing gens items m i = record { rising = i.group.rising; members = i.spanned }

-- the span of no generators
pub span_none : (k : Operation) → Spanned [] k ↔ (k ≡ identity)
span_none k = (told k, λ e. ([], tt, e))
  where
    told : (k : Operation) → Spanned [] k → k ≡ identity
    told k ([], e, p) = p
    told k (s ∷ gs, e, p) = absurd (none_held s e.0)

-- the listing of the span of no generators
pub only_identity : (gens : List Operation) → gens ≡ [] → (xs : List Operation) →
    IsListing comes_before (Spanned gens) xs → IsListing comes_before (λ k. k ≡ identity) xs
only_identity gens e xs l = record {
  rising = l.rising;
  members = λ k. let g = subst (λ x. Contains xs k ↔ Spanned x k) e (l.members k) in
      (λ c. (span_none k).0 (g.0 c), λ q. g.1 ((span_none k).1 q));
}

-- ---- one operation more
abbrev pub Joined : List Operation → Operation → Operation → Type 0
Joined items op k = Generated (λ s. Contains items s ⊎ (s ≡ op)) k

pub joined_frame : (gens items : List Operation) (m : List Bool) (op : Operation) → IsKept gens items m →
    HaveFrame (items ++ op ∷ []) → HaveFrame (gens ++ op ∷ [])
joined_frame gens items m op i (inl f) = inl (λ g c. f g (elim (Contains-push_cases gens op g c) [
  | inl h ↦ Contains-append_left items (op ∷ []) g (i.inside g h)
  | inr e ↦
      subst (Contains (items ++ op ∷ [])) e (Contains-push items op)
]))
joined_frame gens items m op i (inr f) = inr (λ g c. f g (elim (Contains-push_cases gens op g c) [
  | inl h ↦ Contains-append_left items (op ∷ []) g (i.inside g h)
  | inr e ↦
      subst (Contains (items ++ op ∷ [])) e (Contains-push items op)
]))

pub joined_span : (gens items : List Operation) (m : List Bool) (op : Operation) → IsKept gens items m →
    HaveFrame (items ++ op ∷ []) → (k : Operation) → Spanned (gens ++ op ∷ []) k ↔ Joined items op k
joined_span gens items m op i f k = (
  λ s. (
    s.0,
    each_map (λ s. Contains (gens ++ op ∷ []) s)
        (λ s. Contains items s ⊎ (s ≡ op)) forth s.0 s.1,
    s.2,
  ),
  generated_within (λ s. Contains items s ⊎ (s ≡ op))
      (Spanned (gens ++ op ∷ [])) (spanned_one (gens ++ op ∷ [])) step k,
)
  where
    forth : (s : Operation) → Contains (gens ++ op ∷ []) s → Contains items s ⊎ (s ≡ op)
    forth s c = elim (Contains-push_cases gens op s c) [ inl h ↦ inl (i.inside s h) | inr e ↦ inr (sym e) ]

    fr : HaveFrame (gens ++ op ∷ [])
    fr = joined_frame gens items m op i f

    step : (s l : Operation) → Contains items s ⊎ (s ≡ op) → Spanned (gens ++ op ∷ []) l → (k : Operation) ×
        Spanned (gens ++ op ∷ []) k × IsProduct s l k
    step s l (inl c) b = let a : Spanned gens s = (i.spanned s).0 c in span_product (gens ++ op ∷ []) fr a.0 s l
        (each_map (λ s. Contains gens s) (λ s. Contains (gens ++ op ∷ []) s)
        (λ s h. Contains-append_left gens (op ∷ []) s h) a.0 a.1) a.2 b
    step s l (inr e) b =
        let c : Contains (gens ++ op ∷ []) s = subst (Contains (gens ++ op ∷ [])) (sym e) (Contains-push gens op) in
        let r : (k : Operation) × IsProduct s l k = common_product s l (spanned_framed (gens ++ op ∷ []) s l fr c b) in
        (r.0, spanned_times (gens ++ op ∷ []) s l r.0 c b r.1, r.1)

pub fits_frame : (xs : List Operation) (g : Operation) → FitsFrame xs g → HaveFrame (xs ++ g ∷ [])
fits_frame xs g (inl f) = inl (λ k c. elim (Contains-push_cases xs g k c)
    [ inl h ↦ f.1 k h | inr e ↦ subst IsPlain e f.0 ])
fits_frame xs g (inr f) = inr (λ k c. elim (Contains-push_cases xs g k c)
    [ inl h ↦ f.1 k h | inr e ↦ subst IsHexagonal e f.0 ])

pub joined_told : (gens items view all : List Operation) (m : List Bool) (op : Operation) → IsKept gens items m →
    items ≡ view → all ≡ gens ++ op ∷ [] → FitsFrame view op → (xs : List Operation) →
    IsListing comes_before (Spanned all) xs → IsListing comes_before (Joined view op) xs
joined_told gens items view all m op i e f fr xs l = record {
  rising = l.rising;
  members = λ k.
      let b : Spanned (gens ++ op ∷ []) k ↔ Joined items op k =
      joined_span gens items m op i (subst (λ ys. HaveFrame (ys ++ op ∷ [])) (sym e) (fits_frame view op fr)) k in
      let h : Contains xs k ↔ Spanned (gens ++ op ∷ []) k = subst (λ ys. Contains xs k ↔ Spanned ys k) f
      (l.members k) in
      let b' : Spanned (gens ++ op ∷ []) k ↔ Joined view op k =
      subst (λ ys. Spanned (gens ++ op ∷ []) k ↔ Joined ys op k) e b in
      (λ x. b'.0 (h.0 x), λ x. h.1 (b'.1 x));
}

-- a symbol that is accepted
pub accepted : (xs gens : List Operation) (g r : Operation) (b : Bool) → IsListing comes_before (Spanned gens) xs →
    g ≡ r → (IsTrue b ↔ Contains xs g) → b ≡ false → ¬ Spanned gens r
accepted xs gens g r b l e t f s = false≢true (sym f ∙ t.1 (subst (Contains xs) (sym e) ((l.members r).1 s)))

-- a group and one operation more: its generators, and the frame of all
pub joined_parts : (held : Option (List Operation)) (gens items view : List Operation) (m : List Bool) (op : Operation) → IsKept (generators_of held items) items m → items ≡ view → ((g : Operation) → Contains gens g → Contains view g) → ((k : Operation) → Contains view k ↔ Spanned gens k) → FitsFrame view op → IsKept gens items m × HaveFrame (gens ++ op ∷ [])
joined_parts held gens items view m op i e w s fits =
    let k : IsKept gens items m = kept_by (generators_of held items) gens items view m i e w s in
    (k, joined_frame gens items m op k (fits_frame items op (subst (λ xs. FitsFrame xs op) (sym e) fits)))
