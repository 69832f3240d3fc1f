-- The representatives, the unknowns and the rows are told by the symbol, the set and the order.
use Rattle.std.proofs.Common.{◌≡◌, ℕ, Bool, List, [], ◌∷◌, length, refl, ap, sym, ◌∙◌}
use Rattle.std.specs.Prelude.{Option, Some, None, Contains}
use Rattle.list_laws.proofs.Prelude.{rising_same, each_held}
use Rattle.number_laws.proofs.NumberLaws.{num_one-mul}
use Rattle.tensor_defs.specs.Prelude.{Carrier, AreUnknowns, share, by_place, carried, rows_of, rank, Number, num_one, Index, sum_indices, Word, even_row}
use Rattle.tensor_defs.specs.Prelude.{odd_row}
use Rattle.tensor_laws.proofs.Agreeing.{sum_indices-agree}
use Rattle.axis_laws.proofs.Links.{linked_self, moved, carriers_linked}
use Rattle.axis_laws.specs.Laws.{OneElimination}

moved-one : (o : Option (Index × Number)) → moved num_one o ≡ o
moved-one None = refl
moved-one (Some p) = λ i. Some (p.0, num_one-mul p.1 i)

-- ---- unknowns and rows
pub same_members : (r : ℕ) (before : Index → Index → Bool) (rep other : Carrier) (us vs : List Index) →
    ((c : Index) → length c ≡ r → rep c ≡ other c) → AreUnknowns r before rep us → AreUnknowns r before other vs →
    (c : Index) → Contains us c → Contains vs c
same_members r before rep other us vs e p q c h =
    let n : length c ≡ r = each_held (λ d. length d ≡ r) us p.of_rank c h in
    (q.members c n).1 (sym (e c n) ∙ (p.members c n).0 h)

same_line : (r : ℕ) (rep other : Carrier) (us : List Index) (k : Index → Number) →
    ((c : Index) → length c ≡ r → rep c ≡ other c) → carried rep r us k ≡ carried other r us k
same_line r rep other us k e =
    let sums : (u : Index) → sum_indices r (λ c. share (rep c) (k c) u) ≡ sum_indices r (λ c. share (other c) (k c) u) =
    λ u. sum_indices-agree r (λ c. share (rep c) (k c) u) (λ c. share (other c) (k c) u)
    (λ c n. ap (λ o. share o (k c) u) (e c n)) in
    λ i. by_place us (λ u. sums u i)

same_rows : (r : ℕ) (rep other : Carrier) (us : List Index) → ((c : Index) → length c ≡ r → rep c ≡ other c) →
    (ws : List Word) → rows_of rep r us ws ≡ rows_of other r us ws
same_rows r rep other us e [] = refl
same_rows r rep other us e (w ∷ ws) =
    λ i. same_line r rep other us (even_row w) e i ∷ same_line r rep other us (odd_row w) e i
    ∷ same_rows r rep other us e ws i

pub one_elimination_lem : OneElimination
one_elimination_lem j hs before rep other us vs order p q m n ws =
    let e : (c : Index) → length c ≡ rank j → rep c ≡ other c =
    λ c l. sym (carriers_linked j (λ g. Contains hs g) before order rep other p q num_one c c (linked_self j c l)
    ∙ moved-one (rep c)) in
    let same : us ≡ vs = rising_same before order.irreflexive order.transitive us vs m.rising n.rising
    (same_members (rank j) before rep other us vs e m n)
    (same_members (rank j) before other rep vs us (λ c l. sym (e c l)) n m) in
    (same, same_rows (rank j) rep other us e ws ∙ ap (λ xs. rows_of other (rank j) xs ws) same)
