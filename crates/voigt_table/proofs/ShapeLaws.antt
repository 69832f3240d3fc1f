-- The six symbols that have a Voigt table.
--   shape_members   their factors are pieces
--   shape_codes     their factors, by numbers, are one of six lists
--   rank_told       their blocks are together the indices of the rank
--   one_factor, two_factors    the factors of a symbol that has one or two
--   one_given, two_given, first_given, both_given    the blocks of one piece and of two; of factors
--   not_first, not_pieces, other_count    what has no Voigt table
use Rattle.std.proofs.Common.{◌≡◌, ℕ, zero, suc, ◌+◌, ◌*◌, ◌==◌, Bool, true, false, List, [], ◌∷◌, map, length, get_or, refl, sym, ◌∙◌, subst, arith, ◌⊎◌, inl, inr}
use Rattle.std.specs.Prelude.{Contains, Option, Some, None, ◌||◌, ◌&&◌}
use Rattle.tensor_defs.specs.Jahn as defs
use Rattle.tensor_defs.specs.Prelude.{Each, HasBlocks, HasVoigtShape, VoigtShape, rank_of_blocks, voigt_shapes}
use Rattle.voigt_table.specs.declared.blocks.Piece.{Piece}
use Rattle.voigt_table.specs.declared.blocks.Piece.TheVariants.{Vector, Pair, TwoPairs, PairOfPairs}
use Rattle.voigt_table.specs.declared.entries.Blocks.{Blocks}
use Rattle.voigt_table.specs.Blocks.{GivesBlocks, TellsPiece, one_blocks, piece_factor, two_blocks}

-- ---- what a symbol with a Voigt table has
-- what holds of each of the six holds of it
each_shape : (P : VoigtShape → Type 0) → Each P voigt_shapes → (s : VoigtShape) → Contains voigt_shapes s → P s
each_shape P all s (zero, l, e) = subst P e all.0
each_shape P all s (suc zero, l, e) = subst P e all.1.0
each_shape P all s (suc (suc zero), l, e) = subst P e all.1.1.0
each_shape P all s (suc (suc (suc zero)), l, e) = subst P e all.1.1.1.0
each_shape P all s (suc (suc (suc (suc zero))), l, e) = subst P e all.1.1.1.1.0
each_shape P all s (suc (suc (suc (suc (suc zero)))), l, e) = subst P e all.1.1.1.1.1.0
each_shape P all s (suc (suc (suc (suc (suc (suc k))))), l, e) = absurd (omega (arith, l))

abbrev IsPiece : defs.Factor → Type 0
IsPiece f = (p : Piece) × (f ≡ piece_factor p)

pub shape_members : (fs : List defs.Factor) → HasVoigtShape fs → Each IsPiece fs
shape_members fs has =
    each_shape (λ s. Each IsPiece s.factors) (
      ((Pair, refl), tt),
      (
        ((Vector, refl), ((Pair, refl), tt)),
        (
          ((Pair, refl), ((Vector, refl), tt)),
          (((Pair, refl), ((Pair, refl), tt)), (((TwoPairs, refl), tt), (((PairOfPairs, refl), tt), tt))),
        ),
      ),
    ) _ has.1

abbrev code : defs.Factor → ℕ
code f = 10 * f.power + defs.atom_rank f.atom

-- the codes of the factors of one of the six symbols
abbrev has_codes : List ℕ → Bool
has_codes [] = false
has_codes (m ∷ []) = (m == 12) || ((m == 22) || (m == 14))
has_codes (m ∷ n ∷ []) = ((m == 11) && (n == 12)) || (((m == 12) && (n == 11)) || ((m == 12) && (n == 12)))
has_codes (m ∷ n ∷ p ∷ ns) = false

pub shape_codes : (fs : List defs.Factor) → HasVoigtShape fs → has_codes (map code fs) ≡ true
shape_codes fs has =
    each_shape (λ s. has_codes (map code s.factors) ≡ true) (refl, (refl, (refl, (refl, (refl, (refl, tt)))))) _ has.1

pub no_codes : (fs : List defs.Factor) → has_codes (map code fs) ≡ false → HasVoigtShape fs → ⊥
no_codes fs e has = let clash : false ≡ true = sym e ∙ shape_codes fs has in cc

-- the blocks are together as many indices as the rank
pub rank_told : (fs : List defs.Factor) (bs : List ℕ) → HasBlocks fs bs → rank_of_blocks bs ≡ defs.factors_rank fs
rank_told fs bs has =
    each_shape (λ s. rank_of_blocks s.blocks ≡ defs.factors_rank s.factors) (refl, (refl, (refl, (refl, (refl, (refl, tt)))))) _ has

-- ---- lists of one or two factors
pub one_factor : {X Y : Type 0} (f : X → Y) (xs : List X) (x : X) → length xs ≡ 1 → x ≡ get_or xs 0 x → map f xs ≡ f x ∷ []
one_factor f [] x l e = absurd (omega arith)
one_factor f (y ∷ []) x l e = λ i. f (sym e i) ∷ []
one_factor f (y ∷ z ∷ ys) x l e = absurd (omega arith)

pub two_factors : {X Y : Type 0} (f : X → Y) (xs : List X) (x y : X) → length xs ≡ 2 → x ≡ get_or xs 0 x → y ≡ get_or xs 1 y →
    map f xs ≡ f x ∷ f y ∷ []
two_factors f [] x y l e d = absurd (omega arith)
two_factors f (u ∷ []) x y l e d = absurd (omega arith)
two_factors f (u ∷ v ∷ []) x y l e d = λ i. f (sym e i) ∷ f (sym d i) ∷ []
two_factors f (u ∷ v ∷ w ∷ ys) x y l e d = absurd (omega arith)

-- ---- blocks of pieces
pub one_given : (p : Piece) → GivesBlocks (piece_factor p ∷ []) (one_blocks p)
one_given Vector = no_codes _ refl
one_given Pair = (0, omega arith, refl)
one_given TwoPairs = (4, omega arith, refl)
one_given PairOfPairs = (5, omega arith, refl)

pub two_given : (p q : Piece) → GivesBlocks (piece_factor p ∷ piece_factor q ∷ []) (two_blocks p q)
two_given Vector Vector = no_codes _ refl
two_given Vector Pair = (1, omega arith, refl)
two_given Vector TwoPairs = no_codes _ refl
two_given Vector PairOfPairs = no_codes _ refl
two_given Pair Vector = (2, omega arith, refl)
two_given Pair Pair = (3, omega arith, refl)
two_given Pair TwoPairs = no_codes _ refl
two_given Pair PairOfPairs = no_codes _ refl
two_given TwoPairs Vector = no_codes _ refl
two_given TwoPairs Pair = no_codes _ refl
two_given TwoPairs TwoPairs = no_codes _ refl
two_given TwoPairs PairOfPairs = no_codes _ refl
two_given PairOfPairs Vector = no_codes _ refl
two_given PairOfPairs Pair = no_codes _ refl
two_given PairOfPairs TwoPairs = no_codes _ refl
two_given PairOfPairs PairOfPairs = no_codes _ refl

-- the blocks of factors, by what is told of each
pub first_given : (f : defs.Factor) (p : Piece) (o : Option Blocks) → f ≡ piece_factor p → o ≡ one_blocks p → GivesBlocks (f ∷ []) o
first_given f p o e d = subst (λ (x : Option Blocks). GivesBlocks (f ∷ []) x) (sym d)
    (subst (λ (x : defs.Factor). GivesBlocks (x ∷ []) (one_blocks p)) (sym e) (one_given p))

pub both_given : (f h : defs.Factor) (p q : Piece) (o : Option Blocks) → f ≡ piece_factor p → h ≡ piece_factor q → o ≡ two_blocks p q →
    GivesBlocks (f ∷ h ∷ []) o
both_given f h p q o e d s = subst (λ (x : Option Blocks). GivesBlocks (f ∷ h ∷ []) x) (sym s)
    (subst (λ (x : defs.Factor). GivesBlocks (x ∷ h ∷ []) (two_blocks p q)) (sym e)
    (subst (λ (x : defs.Factor). GivesBlocks (piece_factor p ∷ x ∷ []) (two_blocks p q)) (sym d) (two_given p q)))

-- no Voigt table
pub not_first : (f : defs.Factor) → ((p : Piece) → f ≡ piece_factor p → ⊥) → (fs : List defs.Factor) → HasVoigtShape (f ∷ fs) → ⊥
not_first f away fs has =
    let piece = (shape_members (f ∷ fs) has).0 in
    away piece.0 piece.1

pub not_second : (f h : defs.Factor) → ((p : Piece) → h ≡ piece_factor p → ⊥) → HasVoigtShape (f ∷ h ∷ []) → ⊥
not_second f h away has =
    let piece = (shape_members (f ∷ h ∷ []) has).1.0 in
    away piece.0 piece.1

pub not_pieces : (f h : defs.Factor) (o u : Option Piece) → TellsPiece f o → TellsPiece h u → (o ≡ None) ⊎ (u ≡ None) → HasVoigtShape (f ∷ h ∷ []) → ⊥
not_pieces f h None u t s e has = not_first f t (h ∷ []) has
not_pieces f h (Some p) None t s e has = not_second f h s has
not_pieces f h (Some p) (Some q) t s (inl e) has = cc
not_pieces f h (Some p) (Some q) t s (inr e) has = cc

-- some other number of factors
pub other_count : (fs : List defs.Factor) → (length fs ≡ 1 → ⊥) → (length fs ≡ 2 → ⊥) → HasVoigtShape fs → ⊥
other_count [] one two = no_codes [] refl
other_count (f ∷ []) one two = absurd (one refl)
other_count (f ∷ h ∷ []) one two = absurd (two refl)
other_count (f ∷ h ∷ i ∷ fs) one two = no_codes (f ∷ h ∷ i ∷ fs) refl
