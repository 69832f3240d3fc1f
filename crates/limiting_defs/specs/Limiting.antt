-- Limiting groups about z, and the tensors that they leave unchanged.
--   IsRational      the number is a fraction
--   rotation        the matrix of the rotation about z whose cosine and sine are c and s
--   IsRotation      a rational rotation about z
--   IsNamed         the operations that a limiting group has besides the rotations
--   InLimiting      the members of a limiting group
--   IsCurieInvariant    the index symmetry, and each member leaves the list the same
--   diagonal_symbol     the point group of the diagonal members
-- Source: P. Curie, J. Phys. Theor. Appl. 3 (1894) 393; International Tables D 1.1 for invariance. The axes are this
-- project's own.
use Rattle.std.specs.Prelude.{◌≡◌, ℕ, ◌<◌, ◌⊎◌, false, List}
use lib.IntN.{ℤ}
use Rattle.tensor_defs.specs.declared.OpKind.TheVariants.{Two, Mirror}
use Rattle.tensor_defs.specs.declared.Direction.TheVariants.{X, Z}
use Rattle.tensor_defs.specs.declared.Setting.TheVariants as setting
use Rattle.tensor_defs.specs.Prelude.{IsThe, JahnSymbol, rank, HasSymmetry, Each, Number, add, mul, neg, num_zero, num_one, fraction, x1, x2, x3, Operation}
use Rattle.tensor_defs.specs.Prelude.{value, GroupSymbol, operation_of, Tensor, Agree}
use Rattle.limiting_defs.specs.Matrices.{Matrix, SameEntries, product_of, act_by}
use Rattle.limiting_defs.specs.declared.Curie.{Curie}
use Rattle.limiting_defs.specs.declared.Curie.TheVariants.{Inf, InfM, Inf2, InfOverM, InfOverMM}

-- ---- rotations
pub record IsRational (x : Number) : Type 0 where
  pub num : ℤ
  pub den : ℕ
  pub positive : 0 < den
  pub same : x ≡ fraction num den positive

-- the rows are c -s 0, s c 0, 0 0 1
abbrev pub rotation : Number → Number → Matrix
rotation c s x1 x1 = c
rotation c s x1 x2 = neg s
rotation c s x1 x3 = num_zero
rotation c s x2 x1 = s
rotation c s x2 x2 = c
rotation c s x2 x3 = num_zero
rotation c s x3 x1 = num_zero
rotation c s x3 x2 = num_zero
rotation c s x3 x3 = num_one

-- c and s are fractions with c² + s² = 1
pub record IsRotation (a : Matrix) : Type 0 where
  pub c : Number
  pub s : Number
  pub rational_c : IsRational c
  pub rational_s : IsRational s
  pub unit : add (mul c c) (mul s s) ≡ num_one
  pub entries : SameEntries a (rotation c s)

-- ---- groups
abbrev pub IsNamed : Curie → Operation → Type 0
IsNamed Inf g = ⊥
IsNamed InfM g = IsThe (operation_of Mirror X false) g
IsNamed Inf2 g = IsThe (operation_of Two X false) g
IsNamed InfOverM g = IsThe (operation_of Mirror Z false) g
IsNamed InfOverMM g = IsThe (operation_of Mirror X false) g ⊎ IsThe (operation_of Mirror Z false) g

-- a rotation, or the matrix of one of those operations
abbrev pub IsFactor : Curie → Matrix → Type 0
IsFactor group a = IsRotation a ⊎ ((g : Operation) × IsNamed group g × SameEntries a (value g))

pub record IsProductOfFactors (group : Curie) (a : Matrix) : Type 0 where
  pub factors : List Matrix
  pub each : Each (IsFactor group) factors
  pub entries : SameEntries a (product_of factors)

-- the rotations alone, or all products of finite lists
abbrev pub InLimiting : Curie → Matrix → Type 0
InLimiting Inf a = IsRotation a
InLimiting group a = IsProductOfFactors group a

-- ---- tensors
pub record IsCurieInvariant (j : JahnSymbol) (group : Curie) (t : Tensor) : Type 0 where
  pub symmetric : HasSymmetry j t
  pub unchanged : (a : Matrix) → InLimiting group a → Agree (rank j) (act_by j.marks a t) t

-- 2@z, mm2, 222, 2/m@z and mmm: the members whose matrices are diagonal
abbrev pub diagonal_symbol : Curie → GroupSymbol
diagonal_symbol Inf = record { parent = 3; primes = 0; grey = false; setting = setting.Z }
diagonal_symbol InfM = record { parent = 7; primes = 0; grey = false; setting = setting.Default }
diagonal_symbol Inf2 = record { parent = 6; primes = 0; grey = false; setting = setting.Default }
diagonal_symbol InfOverM = record { parent = 5; primes = 0; grey = false; setting = setting.Z }
diagonal_symbol InfOverMM = record { parent = 10; primes = 0; grey = false; setting = setting.Default }
