-- The lines of properties.
--   leaders_within  leaders are numbers of places
--   line_same, species_same    over sets with the same members
--   none_grows      no property of the three
use Rattle.list_laws.proofs.Kit.{◌≡◌, ℕ, ◌+◌, ◌<◌, ◌≤◌, List, length, get_or, arith, subst, ap, sym, slice_get-get_or}
use Rattle.std.specs.Prelude.{Some, slice_get}
use Rattle.list_laws.proofs.Members.{each_get}
use Rattle.tensor_defs.specs.Prelude.{SameSet, IsInvariant, JahnSymbol, Operation, GroupSymbol, Tensor}
use Rattle.tensor_laws.proofs.Sets.{same_back}
use Rattle.reduced_form.proofs.SetLaws.{same_admitted}
use Rattle.species.specs.declared.kinds.Kind.{Kind}
use Rattle.species.specs.declared.kinds.Kind.TheVariants.{Full, Partial, Non}
use Rattle.species.specs.declared.properties.Property.{Property}
use Rattle.species.specs.declared.properties.Property.TheVariants.{Electric, Elastic, Magnetic}
use Rattle.species.specs.Species.{AllApart, AreLeaders, AreToldApart, InState, IsKind, IsLeader, NoneApart, property_symbol}
use Rattle.species.specs.Told.{AreWithin}
use Rattle.state_marks.specs.Told.{MarksGrow}
use Rattle.species_runs.specs.SpeciesTexts.{IsPropertyLine, IsSpeciesOver, SomeGrows}

pub leaders_within : (j : JahnSymbol) (F : Operation → Type 0) (reps : List Operation) (ls : List ℕ) → AreLeaders j F reps ls →
    AreWithin ls
leaders_within j F reps ls are =
    each_get (λ l. (1 ≤ l) × (l ≤ length ls)) 0 ls (λ k less.
    let number = (are.each k (get_or ls k 0) (slice_get-get_or ls k 0 less)).number in
    let high = number.1 in
    let len = are.len in
    (number.0, omega (arith, high, len)))

module _ (j : JahnSymbol) (F H : Operation → Type 0) (s : SameSet F H) (reps : List Operation) where
  state_same : (k : ℕ) (g : Operation) → InState F reps k g → InState H reps k g
  state_same k g (r, is, (f, in_f, p)) = (r, is, (f, (s f).0 in_f, p))

  pub apart_same : (k l : ℕ) → AreToldApart j F reps k l → AreToldApart j H reps k l
  apart_same k l a = record {
    tensor = a.tensor;
    invariant = (same_admitted j F H s a.tensor).0 a.invariant;
    g = a.g;
    h = a.h;
    in_k = state_same k a.g a.in_k;
    in_l = state_same l a.h a.in_l;
    differ = a.differ;
  }

module _ (j : JahnSymbol) (F H : Operation → Type 0) (s : SameSet F H) (reps : List Operation) where
  abbrev back : SameSet H F
  back = same_back F H s

  leader_same : (k l : ℕ) → IsLeader j F reps k l → IsLeader j H reps k l
  leader_same k l is = record {
    number = is.number;
    same = λ a. is.same (apart_same j H F back reps k l a);
    least = λ m one less. apart_same j F H s reps k m (is.least m one less);
  }

  pub leaders_same : (ls : List ℕ) → AreLeaders j F reps ls → AreLeaders j H reps ls
  leaders_same ls are = record { len = are.len; each = λ place l is. leader_same (place + 1) l (are.each place l is) }

  none_same : NoneApart j H reps → NoneApart j F reps
  none_same none k l a = none k l (apart_same j F H s reps k l a)

  all_same : AllApart j F reps → AllApart j H reps
  all_same all = (all.0, λ k l h i n. apart_same j F H s reps k l (all.1 k l h i n))

module _ (j : JahnSymbol) (F H : Operation → Type 0) (s : SameSet F H) (reps : List Operation) where
  pub kind_same : (kind : Kind) → IsKind j F reps kind → IsKind j H reps kind
  kind_same Full is = all_same j F H s reps is
  kind_same Non is = none_same j H F (same_back F H s) reps is
  kind_same Partial is = (
    λ all. is.0 (all_same j H F (same_back F H s) reps all),
    λ none. is.1 (none_same j F H s reps none),
  )

pub line_same : (p : Property) (F H : Operation → Type 0) → SameSet F H → (reps : List Operation) (bytes : List ℕ) →
    IsPropertyLine p F reps bytes → IsPropertyLine p H reps bytes
line_same p F H s reps bytes is = record {
  kind = is.kind;
  is_kind = kind_same (property_symbol p) F H s reps is.kind is.is_kind;
  leaders = is.leaders;
  are_leaders = leaders_same (property_symbol p) F H s reps is.leaders is.are_leaders;
  different = is.different;
  are_different = is.are_different;
  text = is.text;
}

pub species_same : (g f : GroupSymbol) (F H : Operation → Type 0) → SameSet F H → (reps : List Operation) (bytes : List ℕ) →
    IsSpeciesOver g f F reps bytes → IsSpeciesOver g f H reps bytes
species_same g f F H s reps bytes is = record {
  electric = is.electric;
  is_electric = line_same Electric F H s reps is.electric is.is_electric;
  elastic = is.elastic;
  is_elastic = line_same Elastic F H s reps is.elastic is.is_elastic;
  magnetic = is.magnetic;
  is_magnetic = line_same Magnetic F H s reps is.magnetic is.is_magnetic;
  text = is.text;
}

pub none_grows : (G F : Operation → Type 0) → (MarksGrow (property_symbol Electric) G F → ⊥) →
    (MarksGrow (property_symbol Elastic) G F → ⊥) → (MarksGrow (property_symbol Magnetic) G F → ⊥) → SomeGrows G F → ⊥
none_grows G F a b c (Electric, h) = a h
none_grows G F a b c (Elastic, h) = b h
none_grows G F a b c (Magnetic, h) = c h
