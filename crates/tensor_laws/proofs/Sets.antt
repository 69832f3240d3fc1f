-- Sets of operations with the same members.
--   same_back, same_joined    the other way round, and one after another
--   named_same, name_same     they have the same name
use Rattle.std.proofs.Common.{List}
use Rattle.std.specs.Prelude.{Option, Some, None}
use Rattle.list_laws.proofs.Members.{each_map}
use Rattle.tensor_defs.specs.Prelude.{InGroup, SameSet, Each, IsNamed, IsNameOf, Operation, GroupSymbol}

pub same_back : (S T : Operation → Type 0) → SameSet S T → SameSet T S
same_back S T e k = ((e k).1, (e k).0)

pub same_joined : (S T U : Operation → Type 0) → SameSet S T → SameSet T U → SameSet S U
same_joined S T U d e k = (λ h. (e k).0 ((d k).0 h), λ h. (d k).1 ((e k).1 h))

pub named_same : (S T : Operation → Type 0) (t : GroupSymbol) → SameSet S T → IsNamed t S → IsNamed t T
named_same S T t e n = (n.0, same_joined (InGroup t) S T n.1 e)

not_named : (S T : Operation → Type 0) (ts : List GroupSymbol) → SameSet S T → Each (λ u. ¬ IsNamed u S) ts →
    Each (λ u. ¬ IsNamed u T) ts
not_named S T ts e =
    each_map (λ u. ¬ IsNamed u S) (λ u. ¬ IsNamed u T) (λ u a b. a (named_same T S u (same_back S T e) b)) ts

pub name_same : (S T : Operation → Type 0) (o : Option GroupSymbol) → SameSet S T → IsNameOf o S → IsNameOf o T
name_same S T (Some t) e n = (n.0, n.1, n.2, named_same S T t e n.3, not_named S T n.0 e n.4)
name_same S T None e n = not_named S T _ e n
