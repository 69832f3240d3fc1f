-- The group of a symbol is a group.
--   symbol_group        the products of the symbol's operations are a group
--   symbol_placed       each of them has its place among the 128 operations
--   spelled_symbol      a text spells symbols that keep the rules
use Rattle.std.proofs.Common.{ℕ, List, inl, inr, refl, sym, subst, lit<, lit≤}
use Rattle.tensor_defs.specs.Prelude.{InGroup, Operation, IsProduct, generators, parent_operators, GroupSymbol, IsGroupSymbol}
use Rattle.tensor_laws.proofs.Groups.{IsGroup}
use Rattle.text_defs.specs.GroupTexts.{SpellsGroup, grey_one}
use Rattle.op_matrix.specs.View.{hex_frame, plain_frame}
use Rattle.op_matrix.proofs.Hexagonal.{hex_common, plain_common, hex_kept_at, plain_kept_at, zero_hex}
use Rattle.op_matrix.proofs.Listed.{Placed, plain_listed, hex_listed, plain_placed, hex_placed, zero_plain}
use Rattle.magnetic_groups.specs.Sets.{HaveFrame, InverseIn, Spanned}
use Rattle.group_closing.proofs.Inverses.{inverse_in}
use Rattle.group_closing.proofs.Reaching.{spanned_one, spanned_plain, spanned_hex}
use Rattle.group_closing.proofs.Spans.{span_product}
use Rattle.magnetic_groups.proofs.SymbolFrames.{generators_framed}

-- ---- the span of operations of one frame
module _ (gens : List Operation) (framed : HaveFrame gens) where
  product : (g h : Operation) → Spanned gens g → Spanned gens h → (k : Operation) × Spanned gens k × IsProduct g h k
  product g h p q = span_product gens framed p.0 g h p.1 p.2 q

  inverse : (g : Operation) → Spanned gens g → InverseIn (Spanned gens) g
  inverse g p = by framed
    where
      by : HaveFrame gens → InverseIn (Spanned gens) g
      by (inl f) =
          inverse_in (Spanned gens) (spanned_one gens) product plain_frame plain_common plain_kept_at zero_plain g
          (plain_listed g (spanned_plain gens f g p)) p
      by (inr f) =
          inverse_in (Spanned gens) (spanned_one gens) product hex_frame hex_common hex_kept_at zero_hex g
          (hex_listed g (spanned_hex gens f g p)) p

  span_group : IsGroup (Spanned gens)
  span_group = record { one = spanned_one gens; product = product; inverse = inverse }

  span_placed : (g : Operation) → Spanned gens g → Placed g
  span_placed g p = by framed
    where
      by : HaveFrame gens → Placed g
      by (inl f) = plain_placed g (spanned_plain gens f g p)
      by (inr f) = hex_placed g (spanned_hex gens f g p)

-- ---- the group of a symbol
pub symbol_group : (t : GroupSymbol) → IsGroupSymbol t → IsGroup (InGroup t)
symbol_group t h = span_group (generators t) (generators_framed t h)

pub symbol_placed : (t : GroupSymbol) → IsGroupSymbol t → (g : Operation) → InGroup t g → Placed g
symbol_placed t h = span_placed (generators t) (generators_framed t h)

grey_symbol : IsGroupSymbol grey_one
unfolding parent_operators
grey_symbol = record { first = lit≤ tt; last = lit≤ tt; primes = lit< tt; plain = λ e. refl; setting = refl }

pub spelled_symbol : (word : List ℕ) (t : GroupSymbol) → SpellsGroup word t → IsGroupSymbol t
spelled_symbol word t (inl h) = h.symbol
spelled_symbol word t (inr h) = subst IsGroupSymbol (sym h.1) grey_symbol
