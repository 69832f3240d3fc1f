-- Going through the elements of a group, and taking those that aren't products of the ones taken before.
--   takes_past, takes_more, IsTaking, taking_none, taking_past, taking_more ..    one operation more
use Rattle.list_laws.proofs.Kit.{◌≡◌, ℕ, ◌+◌, ◌<◌, ◌≤◌, Bool, true, false, List, [], ◌∷◌, ◌++◌, length, ap, sym, ◌∙◌, arith, subst, ◌⊎◌, inl, inr, take}
use Rattle.list_laws.proofs.Kit.{take_more, take_all, get_or_default, Contains-push, Contains-push_cases, Contains-get_or, cases_lt}
use Rattle.std.specs.Prelude.{slice_index_or, Contains, ◌↔◌}
use Rattle.list_laws.proofs.Lists.{none_held}
use Rattle.tensor_defs.specs.Operation.{Operation}
use Rattle.tensor_laws.proofs.Products.{generated_within}
use Rattle.op_matrix.specs.Table.{place}
use Rattle.op_matrix.proofs.Order.{placed}
use Rattle.group_closing.specs.Prelude.{mark_at, Reached, Grows, HaveFrame, Spanned, IsGroup, IsSpan, TakesFrom, IsGreedy}
use Rattle.group_closing.proofs.Reaching.{reached_spanned, reached_more, reached_all, unreached}
use Rattle.group_closing.proofs.Spans.{member_framed, span_member}

-- ---- one operation more
pub takes_past : (before xs all : List Operation) (g : Operation) → TakesFrom before xs all → Spanned all g → TakesFrom before (xs ++ g ∷ []) all
takes_past before [] all g e s = inl (subst (λ ys. Spanned ys g) e s, e)
takes_past before (x ∷ xs) all g (inl t) s = inl (t.0, takes_past before xs all g t.1 s)
takes_past before (x ∷ xs) all g (inr t) s = inr (t.0, takes_past (before ++ x ∷ []) xs all g t.1 s)

pub takes_more : (before xs all : List Operation) (g : Operation) → TakesFrom before xs all → ¬ Spanned all g → TakesFrom before (xs ++ g ∷ []) (all ++ g ∷ [])
takes_more before [] all g e s = inr (λ t. s (subst (λ ys. Spanned ys g) (sym e) t), ap (λ ys. ys ++ g ∷ []) e)
takes_more before (x ∷ xs) all g (inl t) s = inl (t.0, takes_more before xs all g t.1 s)
takes_more before (x ∷ xs) all g (inr t) s = inr (t.0, takes_more (before ++ x ∷ []) xs all g t.1 s)

-- the first n elements were gone through
pub record IsTaking (items : List Operation) (n : ℕ) (gens : List Operation) (m : List Bool) (f : List Operation) : Type 0 where
  pub span : IsSpan gens m f
  pub takes : TakesFrom [] (take n items) gens
  pub inside : (g : Operation) → Contains gens g → Contains items g
  pub held : (j : ℕ) (d : Operation) → j < n → Reached m (slice_index_or items j d)

pub taking_none : (items gens f : List Operation) (m : List Bool) → gens ≡ [] → IsSpan gens m f → IsTaking items 0 gens m f
taking_none items gens f m e i = record {
  span = i;
  takes = e;
  inside = λ g c. absurd (none_held g (subst (λ x. Contains x g) e c));
  held = λ j d h. absurd (omega arith);
}

element_at : (items : List Operation) (n : ℕ) (g : Operation) → n < length items → g ≡ slice_index_or items n g → Contains items g
element_at items n g h e = subst (Contains items) (sym e) (Contains-get_or items n g h)

next_taken : (items : List Operation) (n : ℕ) (g : Operation) → n < length items → g ≡ slice_index_or items n g → take (n + 1) items ≡ take n items ++ g ∷ []
next_taken items n g h e = take_more items n g h ∙ ap (λ x. take n items ++ x ∷ []) (sym e)

held_more : (items : List Operation) (m m' : List Bool) (n : ℕ) (g : Operation) → n < length items → g ≡ slice_index_or items n g → ((k : ℕ) → mark_at m k ≡ true → mark_at m' k ≡ true) → ((j : ℕ) (d : Operation) → j < n → Reached m (slice_index_or items j d)) → Reached m' g → (j : ℕ) (d : Operation) → j < n + 1 → Reached m' (slice_index_or items j d)
held_more items m m' n g h e w b r j d l = by (cases_lt j n)
  where
    by : (j < n) ⊎ (n ≤ j) → Reached m' (slice_index_or items j d)
    by (inl a) = reached_more m m' (slice_index_or items j d) w (b j d a)
    by (inr a) =
        let s : n ≡ j = omega arith in
        subst (Reached m') (e ∙ get_or_default items n g d h ∙ ap (λ x. slice_index_or items x d) s) r

pub taking_past : (items gens f : List Operation) (m : List Bool) (n : ℕ) (g : Operation) (b : Bool) → IsGroup items → IsTaking items n gens m f → n < length items → g ≡ slice_index_or items n g → b ≡ mark_at m (place g) → b ≡ true → IsTaking items (n + 1) gens m f
taking_past items gens f m n g b i t h e q y = record {
  span = t.span;
  takes = subst (λ xs. TakesFrom [] xs gens) (sym (next_taken items n g h e)) (takes_past [] (take n items) gens g t.takes (reached_spanned gens f m g t.span.closed.closing r));
  inside = t.inside;
  held = held_more items m m n g h e (λ k a. a) t.held r;
}
  where
    r : Reached m g
    r = let p = placed g (member_framed items g i.frame (element_at items n g h e)) in (place g, p.0, sym q ∙ y, p.1)

pub taking_more : (items gens gens' f f' : List Operation) (m m' : List Bool) (n : ℕ) (g : Operation) (b : Bool) → IsTaking items n gens m f → n < length items → g ≡ slice_index_or items n g → b ≡ mark_at m (place g) → b ≡ false → gens' ≡ gens ++ g ∷ [] → IsSpan gens' m' f' → Grows m f m' f' → IsTaking items (n + 1) gens' m' f'
taking_more items gens gens' f f' m m' n g b t h e q y z i w = record {
  span = i;
  takes = subst (λ xs. TakesFrom [] xs gens') (sym (next_taken items n g h e)) (subst (TakesFrom [] (take n items ++ g ∷ [])) (sym z) (takes_more [] (take n items) gens g t.takes (λ s. unreached m g (sym q ∙ y) (reached_all gens (length f) m f t.span.closed (omega arith) g s))));
  inside = λ k c. elim (Contains-push_cases gens g k (subst (λ x. Contains x k) z c)) [ inl a ↦ t.inside k a | inr a ↦ subst (Contains items) a (element_at items n g h e) ];
  held = held_more items m m' n g h e w.marks t.held (reached_all gens' (length f') m' f' i.closed (omega arith) g (span_member gens' g i.frame (subst (λ x. Contains x g) (sym z) (Contains-push gens g))));
}

-- the new operation fits the ones taken
pub taking_frame : (items gens f : List Operation) (m : List Bool) (n : ℕ) (g : Operation) → IsGroup items → IsTaking items n gens m f → n < length items → g ≡ slice_index_or items n g → HaveFrame (gens ++ g ∷ [])
taking_frame items gens f m n g i t h e = by i.frame
  where
    inside : (k : Operation) → Contains (gens ++ g ∷ []) k → Contains items k
    inside k c = elim (Contains-push_cases gens g k c) [ inl a ↦ t.inside k a | inr a ↦ subst (Contains items) a (element_at items n g h e) ]

    by : HaveFrame items → HaveFrame (gens ++ g ∷ [])
    by (inl a) = inl (λ k c. a k (inside k c))
    by (inr a) = inr (λ k c. a k (inside k c))

pub taking_greedy : (items gens f : List Operation) (m : List Bool) (n : ℕ) → IsTaking items n gens m f → length items ≤ n → IsGreedy items gens
taking_greedy items gens f m n t h = subst (λ xs. TakesFrom [] xs gens) (take_all n items h) t.takes

pub taking_spans : (items gens f : List Operation) (m : List Bool) (n : ℕ) → IsGroup items → IsTaking items n gens m f → length items ≤ n → (k : Operation) → Contains items k ↔ Spanned gens k
taking_spans items gens f m n i t h k = (
  λ c. let l = c.1 in reached_spanned gens f m k t.span.closed.closing (subst (Reached m) c.2 (t.held c.0 k (omega arith))),
  generated_within (λ s. Contains gens s) (λ s. Contains items s) i.one (λ s l c p. i.closed s l (t.inside s c) p) k,
)
