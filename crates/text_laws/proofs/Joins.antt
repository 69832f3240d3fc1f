-- Lines joined from their parts.
--   equation_joined, free_joined    the line of an equation, and of a free component, behind an earlier text
--   spaced_joined   the words of two lists with one space between two
use Rattle.std.proofs.Common.{◌≡◌, ℕ, List, [], ◌∷◌, ◌++◌, refl, ap, sym, ◌∙◌, append_assoc}
use Rattle.std.specs.Prelude.{codes}
use Rattle.text_defs.specs.NumberTexts.{spaced}

pub equation_joined : (old name sum : List ℕ) →
    (((old ++ name) ++ (32 ∷ 61 ∷ 32 ∷ [])) ++ sum) ++ 10 ∷ [] ≡ old ++ ((name ++ 32 ∷ (61 ∷ 32 ∷ sum)) ++ 10 ∷ [])
equation_joined old name sum = simp append_assoc

pub free_joined : (old name : List ℕ) →
    (old ++ name) ++ (32 ∷ (codes "free" ++ 10 ∷ [])) ≡ old ++ ((name ++ 32 ∷ codes "free") ++ 10 ∷ [])
free_joined old name =
    append_assoc old name (32 ∷ (codes "free" ++ 10 ∷ []))
    ∙ ap (λ x. old ++ x) (sym (append_assoc name (32 ∷ codes "free") (10 ∷ [])))

pub spaced_joined : (w : List ℕ) (ws : List (List ℕ)) (v : List ℕ) (vs : List (List ℕ)) →
    spaced (w ∷ (ws ++ v ∷ vs)) ≡ spaced (w ∷ ws) ++ 32 ∷ spaced (v ∷ vs)
spaced_joined w [] v vs = refl
spaced_joined w (x ∷ ws) v vs =
    ap (λ t. w ++ 32 ∷ t) (spaced_joined x ws v vs)
    ∙ sym (append_assoc w (32 ∷ spaced (x ∷ ws)) (32 ∷ spaced (v ∷ vs)))
