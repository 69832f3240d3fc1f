-- The 122 types of magnetic point group, as they are tried: a symbol for each, and the order of its group.
--   CrystalClass    the types of one crystal class
--   crystal_classes    the 32 crystal classes
--   type_symbols    the symbols of all types, class by class; type 1 stands first
--   type_orders     the orders of their groups
--   jahn_symbols    the symbols of eight kinds of tensor
-- Source: International Tables for Crystallography D 1.1. The spellings and the numbers of the types are this project's own.
use Rattle.std.specs.Prelude.{ℕ, ◌*◌, List, [], ◌∷◌, codes, map}
use Rattle.std.specs.List.{flat_map}

-- A crystal class: the order of its group without time reversal, and the symbols of its types, in this order: without time reversal,
-- grey, then the others.
pub record CrystalClass : Type 0 where
  pub order : ℕ
  pub symbols : List (List ℕ)

abbrev pub of_order : ℕ → List (List ℕ) → CrystalClass
of_order n ts = record { order = n; symbols = ts }

unfoldable pub crystal_classes : List CrystalClass
crystal_classes =
    of_order 1 (codes "1" ∷ codes "11'" ∷ [])
    ∷ of_order 2 (codes "-1" ∷ codes "-11'" ∷ codes "-1'" ∷ [])
    ∷ of_order 2 (codes "2" ∷ codes "21'" ∷ codes "2'" ∷ [])
    ∷ of_order 2 (codes "m" ∷ codes "m1'" ∷ codes "m'" ∷ [])
    ∷ of_order 4 (codes "2/m" ∷ codes "2/m1'" ∷ codes "2'/m" ∷ codes "2/m'" ∷ codes "2'/m'" ∷ [])
    ∷ of_order 4 (codes "222" ∷ codes "2221'" ∷ codes "2'2'2" ∷ [])
    ∷ of_order 4 (codes "mm2" ∷ codes "mm21'" ∷ codes "m'm2'" ∷ codes "m'm'2" ∷ [])
    ∷ of_order 8 (codes "mmm" ∷ codes "mmm1'" ∷ codes "m'mm" ∷ codes "m'm'm" ∷ codes "m'm'm'" ∷ [])
    ∷ of_order 4 (codes "4" ∷ codes "41'" ∷ codes "4'" ∷ [])
    ∷ of_order 4 (codes "-4" ∷ codes "-41'" ∷ codes "-4'" ∷ [])
    ∷ of_order 8 (codes "4/m" ∷ codes "4/m1'" ∷ codes "4'/m" ∷ codes "4/m'" ∷ codes "4'/m'" ∷ [])
    ∷ of_order 8 (codes "422" ∷ codes "4221'" ∷ codes "4'22'" ∷ codes "42'2'" ∷ [])
    ∷ of_order 8 (codes "4mm" ∷ codes "4mm1'" ∷ codes "4'mm'" ∷ codes "4m'm'" ∷ [])
    ∷ of_order 8 (codes "-42m" ∷ codes "-42m1'" ∷ codes "-4'2'm" ∷ codes "-4'2m'" ∷ codes "-42'm'" ∷ [])
    ∷ of_order 16 (codes "4/mmm" ∷ codes "4/mmm1'" ∷ codes "4/m'mm" ∷ codes "4'/mmm'" ∷ codes "4'/m'mm'"
    ∷ codes "4/mm'm'" ∷ codes "4/m'm'm'" ∷ [])
    ∷ of_order 3 (codes "3" ∷ codes "31'" ∷ [])
    ∷ of_order 6 (codes "-3" ∷ codes "-31'" ∷ codes "-3'" ∷ [])
    ∷ of_order 6 (codes "32" ∷ codes "321'" ∷ codes "32'" ∷ [])
    ∷ of_order 6 (codes "3m" ∷ codes "3m1'" ∷ codes "3m'" ∷ [])
    ∷ of_order 12 (codes "-3m" ∷ codes "-3m1'" ∷ codes "-3'm" ∷ codes "-3'm'" ∷ codes "-3m'" ∷ [])
    ∷ of_order 6 (codes "6" ∷ codes "61'" ∷ codes "6'" ∷ [])
    ∷ of_order 6 (codes "-6" ∷ codes "-61'" ∷ codes "-6'" ∷ [])
    ∷ of_order 12 (codes "6/m" ∷ codes "6/m1'" ∷ codes "6'/m" ∷ codes "6/m'" ∷ codes "6'/m'" ∷ [])
    ∷ of_order 12 (codes "622" ∷ codes "6221'" ∷ codes "6'22'" ∷ codes "62'2'" ∷ [])
    ∷ of_order 12 (codes "6mm" ∷ codes "6mm1'" ∷ codes "6'mm'" ∷ codes "6m'm'" ∷ [])
    ∷ of_order 12 (codes "-6m2" ∷ codes "-6m21'" ∷ codes "-6'm'2" ∷ codes "-6'm2'" ∷ codes "-6m'2'" ∷ [])
    ∷ of_order 24 (codes "6/mmm" ∷ codes "6/mmm1'" ∷ codes "6/m'mm" ∷ codes "6'/mmm'" ∷ codes "6'/m'mm'"
    ∷ codes "6/mm'm'" ∷ codes "6/m'm'm'" ∷ [])
    ∷ of_order 12 (codes "23" ∷ codes "231'" ∷ [])
    ∷ of_order 24 (codes "m-3" ∷ codes "m-31'" ∷ codes "m'-3'" ∷ [])
    ∷ of_order 24 (codes "432" ∷ codes "4321'" ∷ codes "4'32'" ∷ [])
    ∷ of_order 24 (codes "-43m" ∷ codes "-43m1'" ∷ codes "-4'3m'" ∷ [])
    ∷ of_order 48 (codes "m-3m" ∷ codes "m-3m1'" ∷ codes "m'-3'm" ∷ codes "m-3m'" ∷ codes "m'-3'm'" ∷ [])
    ∷ []

-- The symbols of all types. Type 1 is the first.
unfoldable pub type_symbols : List (List ℕ)
type_symbols = flat_map (λ c. c.symbols) crystal_classes

-- A grey group has twice as many elements as the group without time reversal, any other as many.
abbrev pub orders_in : ℕ → List (List ℕ) → List ℕ
orders_in n (plain ∷ grey ∷ others) = n ∷ 2 * n ∷ map (λ _. n) others
orders_in n _ = []

unfoldable pub type_orders : List ℕ
type_orders = flat_map (λ c. orders_in c.order c.symbols) crystal_classes

-- Eight kinds of tensor: vectors, symmetric and antisymmetric tensors of rank 2, magnetisation, the magnetoelectric and the
-- piezoelectric tensor, elasticity, and gyration.
unfoldable pub jahn_symbols : List (List ℕ)
jahn_symbols =
    codes "V" ∷ codes "[V2]" ∷ codes "aeV" ∷ codes "aeV2" ∷ codes "V[V2]" ∷ codes "{V2}" ∷ codes "[[V2]2]" ∷ codes "e[V2]" ∷ []
