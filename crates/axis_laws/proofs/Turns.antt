-- A list that diagonal members and the threefold rotation leave the same is left the same by each hexagonal member.
--   hexagonal_kept  a hexagonal member is a power of the threefold rotation times a diagonal one
use Rattle.list_laws.proofs.Kit.{◌≡◌, ℕ, ◌<◌, Bool, true, false, refl, sym, ◌∙◌, subst, lit<, inl, inr, eqb-true}
use Rattle.std.specs.Prelude.{nat_eq}
use Rattle.list_laws.proofs.Prelude.{all_below, below_told, either_told, implied, both, plain_xor}
use Rattle.op_matrix.proofs.Frames.{also, either}
use Rattle.op_matrix.proofs.Hexagonal.{implies, hex_common, hex_kept_at, diagonal_at_told}
use Rattle.op_matrix.proofs.Listed.{hex_listed}
use Rattle.op_matrix.proofs.Products.{product_code, frame_code, product_at, product_code_below}
use Rattle.op_matrix.specs.Prelude.{operation_at, hex_frame, both_frame}
use Rattle.tensor_defs.specs.Prelude.{IsDiagonal, IsHexagonal, Operation, IsProduct, Tensor, Marks, Agree, act}
use Rattle.tensor_laws.proofs.Prelude.{acts_in_turn, act-agree}
use Rattle.tensor_laws.specs.Laws.{three_z}

-- matrix 52 is the threefold rotation, and matrix 50 its square, which undo each other
three_at : three_z ≡ operation_at 52 false
unfolding operation_at
three_at = refl

square_is : product_code 52 52 ≡ 50
unfolding product_code
square_is = refl

three_hex : hex_frame (frame_code 52) ≡ true
unfolding frame_code
three_hex = refl

square_hex : hex_frame (frame_code 50) ≡ true
unfolding frame_code
square_hex = refl

-- matrix u times n is diagonal, and t times that is n again
abbrev by_turn : ℕ → ℕ → ℕ → Bool
by_turn t u n = also (nat_eq (product_code t (product_code u n)) n) (both_frame (frame_code (product_code u n)))

abbrev turned_right : ℕ → Bool
turned_right n = implies (hex_frame (frame_code n))
    (either (both_frame (frame_code n)) (either (by_turn 52 50 n) (by_turn 50 52 n)))

turned_all : all_below 64 turned_right ≡ true
unfolding product_code frame_code
turned_all = refl

module _ (m : Marks) (r : ℕ) (t : Tensor) where
  -- the operation leaves the list the same
  abbrev Keeps : Operation → Type 0
  Keeps g = Agree r (act m g t) t

  keeps_product : (g h k : Operation) → IsProduct g h k → Keeps g → Keeps h → Keeps k
  keeps_product g h k p a b is n =
      acts_in_turn m g h k p t is ∙ act-agree m g r (act m h t) t b is n ∙ a is n

  module _ (S : Operation → Type 0) (closed : (g h k : Operation) → S g → S h → IsProduct g h k → S k)
      (three : S three_z) (diagonals : (d : Operation) → S d → IsDiagonal d → Keeps d) (turn : Keeps three_z) where
    square : IsProduct (operation_at 52 false) (operation_at 52 false) (operation_at 50 false)
    square = subst (λ k. IsProduct (operation_at 52 false) (operation_at 52 false) (operation_at k false)) square_is
        (product_at 52 52 false false false (lit< tt) (lit< tt)
        (hex_common (frame_code 52) (frame_code 52) three_hex three_hex) (plain_xor false))

    in_52 : S (operation_at 52 false)
    in_52 = subst S three_at three

    in_50 : S (operation_at 50 false)
    in_50 = closed (operation_at 52 false) (operation_at 52 false) (operation_at 50 false) in_52 in_52 square

    keeps_52 : Keeps (operation_at 52 false)
    keeps_52 = subst Keeps three_at turn

    keeps_50 : Keeps (operation_at 50 false)
    keeps_50 =
        keeps_product (operation_at 52 false) (operation_at 52 false) (operation_at 50 false) square keeps_52 keeps_52

    kept_by_turn : (a b n : ℕ) (q : Bool) → a < 64 → b < 64 → n < 64 → hex_frame (frame_code a) ≡ true →
        hex_frame (frame_code b) ≡ true → hex_frame (frame_code n) ≡ true → S (operation_at b false) →
        Keeps (operation_at a false) → S (operation_at n q) → by_turn a b n ≡ true → Keeps (operation_at n q)
    kept_by_turn a b n q la lb ln ha hb hn sb ka sn e =
        let k : ℕ = product_code b n in
        let u = both (nat_eq (product_code a k) n) (both_frame (frame_code k)) e in
        let lk : k < 64 = product_code_below b n lb ln in
        let to : IsProduct (operation_at b false) (operation_at n q) (operation_at k q) =
        product_at b n false q q lb ln (hex_common (frame_code b) (frame_code n) hb hn) (plain_xor q) in
        let from : IsProduct (operation_at a false) (operation_at k q) (operation_at n q) =
        subst (λ x. IsProduct (operation_at a false) (operation_at k q) (operation_at x q))
        (eqb-true (product_code a k) n u.0) (product_at a k false q q la lk
        (hex_common (frame_code a) (frame_code k) ha (hex_kept_at b n lb ln hb hn)) (plain_xor q)) in
        keeps_product (operation_at a false) (operation_at k q) (operation_at n q) from ka
        (diagonals (operation_at k q) (closed (operation_at b false) (operation_at n q) (operation_at k q) sb sn to)
        (diagonal_at_told k q lk u.1))

    kept_at : (n : ℕ) (q : Bool) → n < 64 → hex_frame (frame_code n) ≡ true → S (operation_at n q) →
        Keeps (operation_at n q)
    kept_at n q l h s =
        let e = implied (hex_frame (frame_code n)) _ (below_told 64 turned_right turned_all n l) h in
        elim (either_told (both_frame (frame_code n)) (either (by_turn 52 50 n) (by_turn 50 52 n)) e) [
          | inl d ↦ diagonals (operation_at n q) s (diagonal_at_told n q l d)
          | inr f ↦ elim (either_told (by_turn 52 50 n) (by_turn 50 52 n) f) [
            | inl b ↦ kept_by_turn 52 50 n q (lit< tt) (lit< tt) l three_hex square_hex h in_50 keeps_52 s b
            | inr b ↦ kept_by_turn 50 52 n q (lit< tt) (lit< tt) l square_hex three_hex h in_52 keeps_50 s b
          ]
        ]

    pub hexagonal_kept : (g : Operation) → S g → IsHexagonal g → Keeps g
    hexagonal_kept g s h =
        let c = hex_listed g h in
        subst Keeps (sym c.3) (kept_at c.0 g.primed c.1 c.2 (subst S c.3 s))
