-- Left cosets of a group of operations.
use Rattle.std.proofs.Common.{List, subst, inl, inr}
use Rattle.std.specs.Prelude.{Contains, ◌↔◌}
use Rattle.tensor_defs.specs.Prelude.{Operation, IsProduct, identity, HaveCommonFrame, Times}
use Rattle.tensor_laws.proofs.Prelude.{product_unique, product_assoc}
use Rattle.op_matrix.proofs.Listed.{plain_one, hex_one, OneTimes}
use Rattle.magnetic_groups.specs.Sets.{HaveFrame, IsGroup, In, InverseIn}

-- each element of a group has its inverse there
pub group_inverse : (items : List Operation) → IsGroup items → (g : Operation) → Contains items g →
    InverseIn (In items) g
group_inverse items i g c = i.inverses g c

-- ---- cosets
pub group_common : (items : List Operation) (g h : Operation) → IsGroup items → Contains items g → Contains items h →
    HaveCommonFrame g h
group_common items g h i a b = by i.frame
  where
    by : HaveFrame items → HaveCommonFrame g h
    by (inl f) = inl (f g a, f h b)
    by (inr f) = inr (f g a, f h b)

pub group_one : (items : List Operation) (g : Operation) → IsGroup items → Contains items g → OneTimes g
group_one items g i a = by i.frame
  where
    by : HaveFrame items → OneTimes g
    by (inl f) = plain_one g (f g a)
    by (inr f) = hex_one g (f g a)

-- the product of two elements is an element
pub group_product : (items : List Operation) (g h k : Operation) → IsGroup items → Contains items g → Contains items h →
    IsProduct g h k → Contains items k
group_product items g h k i a b p = let r : (k : Operation) × Contains items k × IsProduct g h k =
    i.closed g h a b in subst (Contains items) (product_unique g h r.0 k r.2 p) r.1

abbrev pub Coset : List Operation → Operation → Operation → Type 0
Coset fs r k = Times r (λ s. Contains fs s) k

-- both ways round: (g·h)·k is g·(h·k), where the outer products are given
pub assoc_back : (items : List Operation) (g h k a b c : Operation) → IsGroup items → Contains items g →
    Contains items h → Contains items k → IsProduct g h a → IsProduct h k c → IsProduct g c b → IsProduct a k b
assoc_back items g h k a b c i u v w p q r =
    let t : (x : Operation) × Contains items x × IsProduct a k x = i.closed a k (group_product items g h a i u v p) w in
    subst (IsProduct a k) (product_unique g c t.0 b (product_assoc g h k a t.0 c p t.2 q) r) t.2

-- an element is in its own coset
pub coset_self : (gs fs : List Operation) (r : Operation) → IsGroup gs → IsGroup fs → Contains gs r → Coset fs r r
coset_self gs fs r i j c = (identity, j.one, (group_one gs r i c).1)

pub coset_within : (gs fs : List Operation) (r k : Operation) → IsGroup gs →
    ((g : Operation) → Contains fs g → Contains gs g) → Contains gs r → Coset fs r k → Contains gs k
coset_within gs fs r k i w c t = group_product gs r t.0 k i c (w t.0 t.1) t.2

-- k in rF gives r in kF
pub coset_sym : (gs fs : List Operation) (r k : Operation) → IsGroup gs → IsGroup fs →
    ((g : Operation) → Contains fs g → Contains gs g) → Contains gs r → Coset fs r k → Coset fs k r
coset_sym gs fs r k i j w c t =
    let v : (x : Operation) × Contains fs x × IsProduct t.0 x identity × IsProduct x t.0 identity =
    group_inverse fs j t.0 t.1 in
    (v.0, v.1, assoc_back gs r t.0 v.0 k r identity i c (w t.0 t.1) (w v.0 v.1) t.2 v.2 (group_one gs r i c).1)

-- k in rF and l in kF give l in rF
pub coset_trans : (gs fs : List Operation) (r k l : Operation) → IsGroup gs → IsGroup fs →
    ((g : Operation) → Contains fs g → Contains gs g) → Contains gs r → Coset fs r k → Coset fs k l → Coset fs r l
coset_trans gs fs r k l i j w c t u =
    let v : (x : Operation) × Contains fs x × IsProduct t.0 u.0 x = j.closed t.0 u.0 t.1 u.1 in
    (v.0, v.1, product_assoc r t.0 u.0 k l v.0 t.2 u.2 v.2)

-- h·rF is the coset of h·r
pub coset_moved : (gs fs : List Operation) (h r m k : Operation) → IsGroup gs →
    ((g : Operation) → Contains fs g → Contains gs g) → Contains gs h → Contains gs r → IsProduct h r m →
    Times h (Coset fs r) k ↔ Coset fs m k
coset_moved gs fs h r m k i w a b p = (forth, back)
  where
    forth : Times h (Coset fs r) k → Coset fs m k
    forth (s, (f, c, q), u) = (f, c, assoc_back gs h r f m k s i a b (w f c) p q u)

    back : Coset fs m k → Times h (Coset fs r) k
    back (f, c, q) =
        let t : (x : Operation) × Contains gs x × IsProduct r f x = i.closed r f b (w f c) in
        (t.0, (f, c, t.2), product_assoc h r f m k t.0 p q t.2)
