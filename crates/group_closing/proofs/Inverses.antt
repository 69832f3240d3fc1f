-- A closed set of operations of one frame holds their inverses, since the twelfth power of each is the identity.
--   inverse_in, closed_inverse    the twelfth power of each matrix is the identity
use Rattle.list_laws.proofs.Kit.{◌≡◌, ℕ, zero, suc, ◌<◌, Bool, true, false, List, refl, ap, sym, ◌∙◌, subst, lit<, inl, inr, eqb-true}
use Rattle.std.specs.Prelude.{Contains, nat_eq}
use Rattle.list_laws.proofs.Prelude.{all_below, below_told, both}
use mathlib.Core.Bool.{xor}
use Rattle.tensor_defs.specs.Operation.{Operation, IsProduct, identity}
use Rattle.tensor_laws.proofs.Products.{product_unique}
use Rattle.op_matrix.specs.Prelude.{operation_at, hex_frame, plain_frame}
use Rattle.op_matrix.specs.declared.entry.Frame.{Frame}
use Rattle.op_matrix.proofs.Frames.{also}
use Rattle.op_matrix.proofs.Products.{product_code, frame_code, common, product_at, product_code_below}
use Rattle.op_matrix.proofs.Hexagonal.{hex_common, plain_common, hex_kept_at, plain_kept_at, identity_at, zero_hex}
use Rattle.op_matrix.proofs.Listed.{Coded, plain_listed, hex_listed, zero_plain}
use Rattle.group_closing.specs.Sets.{In, HaveFrame, InverseIn}

-- ---- the twelfth power of each matrix is the identity
unfoldable power_code : ℕ → ℕ → ℕ
power_code n zero = 0
power_code n (suc k) = product_code n (power_code n k)

abbrev twelfth : ℕ → Bool
twelfth n = also (nat_eq (product_code n (power_code n 11)) 0) (nat_eq (product_code (power_code n 11) n) 0)

twelfth_all : all_below 64 twelfth ≡ true
unfolding product_code power_code
twelfth_all = refl

abbrev mark_power : Bool → ℕ → Bool
mark_power p zero = false
mark_power p (suc k) = xor p (mark_power p k)

no_mark : (p : Bool) → false ≡ xor p (mark_power p 11)
unfolding xor
no_mark true = refl
no_mark false = refl

no_mark_left : (p : Bool) → false ≡ xor (mark_power p 11) p
unfolding xor
no_mark_left true = refl
no_mark_left false = refl

-- an operation whose powers are all in a closed set has its inverse there
module _ (F : Operation → Type 0) (one : F identity) (closed : (g h : Operation) → F g → F h → (k : Operation) × F k ×
    IsProduct g h k)
    (fr : Frame → Bool) (meet : (f f' : Frame) → fr f ≡ true → fr f' ≡ true → common f f' ≡ true)
    (kept : (n m : ℕ) → n < 64 → m < 64 → fr (frame_code n) ≡ true → fr (frame_code m) ≡ true →
    fr (frame_code (product_code n m)) ≡ true) (zero_in : fr (frame_code 0) ≡ true) where
  abbrev PowerIn : ℕ → Bool → ℕ → Type 0
  PowerIn n p k = (power_code n k < 64) × (fr (frame_code (power_code n k)) ≡ true) ×
      F (operation_at (power_code n k) (mark_power p k))

  power_in : (n : ℕ) (p : Bool) → n < 64 → fr (frame_code n) ≡ true → F (operation_at n p) → (k : ℕ) → PowerIn n p k
  unfolding power_code
  power_in n p h f m zero = (lit< tt, zero_in, subst F identity_at one)
  power_in n p h f m (suc k) =
      let r : PowerIn n p k = power_in n p h f m k in
      let c : (x : Operation) × F x × IsProduct (operation_at n p) (operation_at (power_code n k) (mark_power p k)) x =
      closed (operation_at n p) (operation_at (power_code n k) (mark_power p k)) m r.2 in
      let d : IsProduct (operation_at n p) (operation_at (power_code n k) (mark_power p k))
      (operation_at (product_code n (power_code n k)) (xor p (mark_power p k))) =
      product_at n (power_code n k) p (mark_power p k) (xor p (mark_power p k)) h r.0
      (meet (frame_code n) (frame_code (power_code n k)) f r.1) refl in (
        product_code_below n (power_code n k) h r.0,
        kept n (power_code n k) h r.0 f r.1,
        subst F
            (product_unique (operation_at n p) (operation_at (power_code n k) (mark_power p k)) c.0
            (operation_at (product_code n (power_code n k)) (xor p (mark_power p k))) c.2 d) c.1,
      )

  inverse_at : (n : ℕ) (p : Bool) → n < 64 → fr (frame_code n) ≡ true → F (operation_at n p) →
      InverseIn F (operation_at n p)
  inverse_at n p h f m =
      let r : PowerIn n p 11 = power_in n p h f m 11 in
      let t : (_ ≡ true) × (_ ≡ true) = both (nat_eq (product_code n (power_code n 11)) 0)
      (nat_eq (product_code (power_code n 11) n) 0) (below_told 64 twelfth twelfth_all n h) in
      let k : Operation = operation_at (power_code n 11) (mark_power p 11) in (
        k,
        r.2,
        subst (IsProduct (operation_at n p) k) (ap (λ x. operation_at x false)
            (eqb-true (product_code n (power_code n 11)) 0 t.0) ∙ sym identity_at)
            (product_at n (power_code n 11) p (mark_power p 11) false h r.0
            (meet (frame_code n) (frame_code (power_code n 11)) f r.1) (no_mark p)),
        subst (IsProduct k (operation_at n p)) (ap (λ x. operation_at x false)
            (eqb-true (product_code (power_code n 11) n) 0 t.1) ∙ sym identity_at)
            (product_at (power_code n 11) n (mark_power p 11) p false r.0 h
            (meet (frame_code (power_code n 11)) (frame_code n) r.1 f) (no_mark_left p)),
      )

  pub inverse_in : (g : Operation) → Coded fr g → F g → InverseIn F g
  inverse_in g a m = subst (InverseIn F) (sym a.3) (inverse_at a.0 g.primed a.1 a.2 (subst F a.3 m))

pub closed_inverse : (items : List Operation) → Contains items identity →
    ((g h : Operation) → Contains items g → Contains items h → (k : Operation) × Contains items k × IsProduct g h k) →
    HaveFrame items → (g : Operation) → Contains items g → InverseIn (In items) g
closed_inverse items one closed (inl f) g c =
    inverse_in (In items) one closed plain_frame plain_common plain_kept_at zero_plain g (plain_listed g (f g c)) c
closed_inverse items one closed (inr f) g c =
    inverse_in (In items) one closed hex_frame hex_common hex_kept_at zero_hex g (hex_listed g (f g c)) c
