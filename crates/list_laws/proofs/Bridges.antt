-- `Each` and the words of std for a fact of each element.
--   each_all, all_each            `All`, by places
--   each_recursion, recursion_each    `AllByRecursion`
use Rattle.std.proofs.Common.{suc, List, [], ◌∷◌, arith}
use Rattle.std.specs.List.{All, AllByRecursion}
use Rattle.tensor_defs.specs.Lists.{Each}
use Rattle.list_laws.proofs.Members.{each_at}

pub each_all : {X : Type 0} (P : X → Type 0) (xs : List X) → Each P xs → All P xs
each_all P xs e k d h = each_at P xs e k d h

pub all_each : {X : Type 0} (P : X → Type 0) (xs : List X) → All P xs → Each P xs
all_each P [] a = tt
all_each P (x ∷ xs) a = (a 0 x (omega arith), all_each P xs (λ k d h. a (suc k) d (omega arith)))

pub each_recursion : {X : Type 0} (P : X → Type 0) (xs : List X) → Each P xs → AllByRecursion P xs
each_recursion P [] e = tt
each_recursion P (x ∷ xs) e = (e.0, each_recursion P xs e.1)

pub recursion_each : {X : Type 0} (P : X → Type 0) (xs : List X) → AllByRecursion P xs → Each P xs
recursion_each P [] e = tt
recursion_each P (x ∷ xs) e = (e.0, recursion_each P xs e.1)
