-- The text of an answer on ferroic species.
--   property_text, kind_text    the words of a property and of a kind
--   property_line   the line of a property: its kind, and how many states are the least of those that aren't told apart
--   species_header  the two groups, and how many states there are
--   IsPropertyLine  the line that the states of a group under a subgroup have for a property
--   IsSpeciesOver   the header, and the lines of the three properties
--   SomeGrows       the components that distinguish the states grow too large, for one of the properties
-- Source: this project's own.
use Rattle.std.specs.Prelude.{◌≡◌, ℕ, List, [], ◌∷◌, ◌++◌, codes, length}
use Rattle.std.specs.Fmt.{decimal}
use Rattle.tensor_defs.specs.Prelude.{Operation, GroupSymbol}
use Rattle.text_defs.specs.Prelude.{line_of, group_text}
use Rattle.state_marks.specs.Told.{MarksGrow}
use Rattle.species.specs.declared.kinds.Kind.{Kind}
use Rattle.species.specs.declared.kinds.Kind.TheVariants.{Full, Partial, Non}
use Rattle.species.specs.declared.properties.Property.{Property}
use Rattle.species.specs.declared.properties.Property.TheVariants.{Electric, Elastic, Magnetic}
use Rattle.species.specs.Species.{AreLeaders, IsKind, property_symbol}
use Rattle.species.specs.Told.{HasDifferent}

abbrev pub property_text : Property → List ℕ
property_text Electric = codes "electric"
property_text Elastic = codes "elastic"
property_text Magnetic = codes "magnetic"

abbrev pub kind_text : Kind → List ℕ
kind_text Full = codes "full"
kind_text Partial = codes "partial"
kind_text Non = codes "non"

abbrev pub property_line : Property → Kind → ℕ → List ℕ
property_line p kind n = line_of (property_text p ∷ kind_text kind ∷ decimal n ∷ [])

abbrev pub species_header : GroupSymbol → GroupSymbol → ℕ → List ℕ
species_header g f n = line_of (codes "species" ∷ group_text g ∷ group_text f ∷ codes "states" ∷ decimal n ∷ [])

pub record IsPropertyLine (p : Property) (F : Operation → Type 0) (reps : List Operation) (bytes : List ℕ) : Type 0 where
  pub kind : Kind
  pub is_kind : IsKind (property_symbol p) F reps kind
  pub leaders : List ℕ
  pub are_leaders : AreLeaders (property_symbol p) F reps leaders
  pub different : ℕ
  pub are_different : HasDifferent leaders different
  pub text : bytes ≡ property_line p kind different

pub record IsSpeciesOver (g f : GroupSymbol) (F : Operation → Type 0) (reps : List Operation) (bytes : List ℕ) : Type 0 where
  pub electric : List ℕ
  pub is_electric : IsPropertyLine Electric F reps electric
  pub elastic : List ℕ
  pub is_elastic : IsPropertyLine Elastic F reps elastic
  pub magnetic : List ℕ
  pub is_magnetic : IsPropertyLine Magnetic F reps magnetic
  pub text : bytes ≡ species_header g f (length reps) ++ electric ++ elastic ++ magnetic

abbrev pub SomeGrows : (Operation → Type 0) → (Operation → Type 0) → Type 0
SomeGrows G F = (p : Property) × MarksGrow (property_symbol p) G F
