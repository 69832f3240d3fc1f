-- Tables, growth and invariance over sets of operations with the same members.
use Rattle.std.proofs.Common.{inl, inr}
use Rattle.std.specs.Prelude.{Bool}
use Rattle.tensor_laws.proofs.Sets.{same_back}
use Rattle.tensor_defs.specs.Prelude.{AreRepresentatives, Carrier, Grows, IsDropped, IsFramed, SameSet, AdmitSame, JahnSymbol, Operation, Fits, Table}
use Rattle.tensor_defs.specs.Prelude.{value_at, Index}
use Rattle.constraint_rows.proofs.InvariantLaws.{fewer_suffice}

-- the same operations leave the same tensors unchanged
pub same_admitted : (j : JahnSymbol) (G H : Operation → Type 0) → SameSet G H → AdmitSame j G H
same_admitted j G H s t =
    (fewer_suffice j H G t (λ g h. (s g).1 h), fewer_suffice j G H t (λ g h. (s g).0 h))

pub admitted_same : (j : JahnSymbol) (G G' H H' : Operation → Type 0) → SameSet G G' → SameSet H H' → AdmitSame j G H →
    AdmitSame j G' H'
admitted_same j G G' H H' s u a t = (
  (λ i. (same_admitted j H H' u t).0 ((a t).0 ((same_admitted j G G' s t).1 i))),
  (λ i. (same_admitted j G G' s t).0 ((a t).1 ((same_admitted j H H' u t).1 i))),
)

-- a table fits sets that leave the same tensors unchanged
pub fits_admitted : (j : JahnSymbol) (G H : Operation → Type 0) (before : Index → Index → Bool) (a : Table) →
    AdmitSame j G H → Fits j G before a → Fits j H before a
fits_admitted j G H before a s f = record {
  rising = f.rising;
  of_rank = f.of_rank;
  well_formed = f.well_formed;
  gives = λ v is. (s (value_at a v)).0 (f.gives v is);
  reaches = λ t inv. f.reaches t ((s t).1 inv);
  once = f.once;
  own = f.own;
  earlier = f.earlier;
}

framed_same : (G H : Operation → Type 0) → SameSet G H → IsFramed G → IsFramed H
framed_same G H s framed = elim framed [
  | inl p ↦ inl (λ g h. p g ((s g).1 h))
  | inr q ↦ inr ((λ g h. q.0 g ((s g).1 h)), (λ g e. (s g).0 (q.1 g e)))
]

dropped_same : (j : JahnSymbol) (G H : Operation → Type 0) → SameSet G H → (c : Index) → IsDropped j G c → IsDropped j H c
dropped_same j G H s c dropped = elim dropped [
  | inl p ↦ inl p
  | inr q ↦ inr (q.0, (s q.0).0 q.1, q.2, q.3)
]

representatives_same : (j : JahnSymbol) (G H : Operation → Type 0) (before : Index → Index → Bool) (rep : Carrier) →
    SameSet G H → AreRepresentatives j G before rep → AreRepresentatives j H before rep
representatives_same j G H before rep s r = record {
  none = λ c l. (
    (λ e. dropped_same j G H s c ((r.none c l).0 e)),
    (λ d. (r.none c l).1 (dropped_same j H G (same_back G H s) c d)),
  );
  some = r.some;
}

-- the elimination depends on the members alone
pub grows_same : (j : JahnSymbol) (G H : Operation → Type 0) (before : Index → Index → Bool) → SameSet G H →
    Grows j G before → Grows j H before
grows_same j G H before s w =
    let rest = w.2 in (
      framed_same G H s w.0,
      (λ plain. w.1 (λ g h. plain g ((s g).0 h))),
      (rest.0, rest.1, representatives_same j G H before rest.0 s rest.2, rest.3, rest.4),
    )
