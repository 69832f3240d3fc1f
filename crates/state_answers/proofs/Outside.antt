-- The first element of a group outside another, and that there is none.
use Rattle.std.proofs.Common.{◌≡◌, ℕ, zero, suc, ◌+◌, ◌-◌, ◌<◌, ◌≤◌, refl, ap, sym, ◌∙◌, subst, arith, List, [], ◌∷◌, ◌++◌, length, take, drop}
use Rattle.std.specs.Prelude.{Contains, slice_index_or}
use Rattle.std.proofs.lemmas.List.{drop_more, take-append-drop, length-take-le}
use Rattle.std.proofs.lemmas.List.Elements.{Contains-append_right}
use Rattle.tensor_defs.specs.Prelude.{Each, IsListing, Operation, identity, comes_before, GroupSymbol, InGroup}
use Rattle.text_defs.specs.Refusals.{IsOutside}
use Rattle.magnetic_groups.specs.Sets.{IsWithin, IsFirstOutside}
use Rattle.coset_states.specs.declared.StateFault.{StateFault}
use Rattle.coset_states.specs.declared.StateFault.TheVariants.{NotSubgroup}
use Rattle.coset_states.specs.Refusals.{IsRefusal}

each_before : (P : Operation → Type 0) (xs : List Operation) (m : ℕ) → ((j : ℕ) → j < m → P (slice_index_or xs j identity)) → Each P (take m xs)
each_before P [] zero h = tt
each_before P [] (suc m) h = tt
each_before P (x ∷ xs) zero h = tt
each_before P (x ∷ xs) (suc m) h = (h 0 (omega arith), each_before P xs m (λ j l. h (suc j) (omega arith)))

member_at : (xs ys : List Operation) (x : Operation) → Contains (xs ++ x ∷ ys) x
member_at xs ys x = Contains-append_right xs (x ∷ ys) x (0, omega arith, refl)

module _ (g f : GroupSymbol) (gs fs : List Operation) (lg : IsListing comes_before (InGroup g) gs) (lf : IsListing comes_before (InGroup f) fs) where
  pub none_outside : IsWithin fs gs → (k : ℕ) → ¬ IsOutside g f k
  none_outside w k o =
      let listed : Contains o.elements o.first = subst (λ xs. Contains xs o.first) (sym o.split) (member_at o.earlier o.later o.first) in
      o.outside ((lg.members o.first).0 (w o.first ((lf.members o.first).1 ((o.listing.members o.first).0 listed))))

  first_outside : (k : ℕ) → 1 ≤ k → IsFirstOutside fs gs (k - 1) → IsOutside g f k
  first_outside k one i =
      let below = i.below in
      let short : k - 1 ≤ length fs = omega (arith, below) in
      let long : length (take (k - 1) fs) ≡ k - 1 = length-take-le (k - 1) fs short in
      record {
        elements = fs;
        listing = lf;
        earlier = take (k - 1) fs;
        first = slice_index_or fs (k - 1) identity;
        later = drop (k - 1 + 1) fs;
        split = sym (take-append-drop (k - 1) fs) ∙ ap (λ l. take (k - 1) fs ++ l) (drop_more fs (k - 1) identity below);
        inside = each_before (InGroup g) fs (k - 1) (λ j l. (lg.members (slice_index_or fs j identity)).0 (i.earlier j identity l));
        outside = λ h. i.outside identity ((lg.members (slice_index_or fs (k - 1) identity)).1 h);
        place = omega (arith, long, one);
      }

  pub refusal_told : (e : StateFault) → IsRefusal gs fs e → (k : ℕ) → e ≡ NotSubgroup k → IsOutside g f k
  refusal_told e r k is = let t : IsRefusal gs fs (NotSubgroup k) = subst (IsRefusal gs fs) is r in first_outside k t.0 t.1
