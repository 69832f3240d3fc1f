-- What is told of tables, carried over to the groups of symbols.
use Rattle.std.proofs.Common.{◌≡◌, ◌↔◌, ◌⊎◌, ℕ, Bool, true, false, List, ◌++◌, ◌∷◌, [], refl, ap, ◌∙◌, inl, inr}
use Rattle.std.specs.Prelude.{Result, Ok, Err, IfErr, IfOk, OnOk, IsTrue, codes}
use Rattle.std.proofs.lemmas.List.{append_assoc}
use Rattle.tensor_defs.specs.Prelude.{Grows, JahnSymbol, Operation, index_before, GroupSymbol, Fits}
use Rattle.text_defs.specs.Prelude.{same_text, yes_no, group_text, jahn_text}
use Rattle.reduced_form.specs.declared.memory.SolveFault.{SolveFault}
use Rattle.reduced_form.specs.declared.memory.SolveFault.TheVariants.{TooLarge, NoMemory}
use Rattle.reduced_form.specs.Forms.{FormValue, form_table}
use Rattle.table_answers.specs.Tables.{TellsSame, TellsTable}

pub ok_always : {T E P : Type 0} (r : Result T E) → P → OnOk r P
ok_always (Ok x) p = p
ok_always (Err e) p = tt

-- the table that fits, where no elimination grows
pub table_told : (j : JahnSymbol) (r : ℕ) (H : Operation → Type 0) (res : Result FormValue SolveFault) →
    IfOk res (λ f. Fits j H index_before (form_table r f)) → IfOk res (λ _. Grows j H index_before → ⊥) →
    IfErr res (λ e. e ≡ TooLarge → Grows j H index_before) → TellsTable j r H res
table_told j r H (Ok f) fits calm grows = (fits, calm)
table_told j r H (Err TooLarge) fits calm grows = grows refl
table_told j r H (Err NoMemory) fits calm grows = tt

-- after an error
pub table_grows : (j : JahnSymbol) (r : ℕ) (H : Operation → Type 0) (e : SolveFault) → TellsTable j r H (Err e) →
    e ≡ TooLarge → Grows j H index_before
table_grows j r H TooLarge told is = told
table_grows j r H NoMemory told is = cc

-- an error of one of two tables
pub first_fails : (j : JahnSymbol) (r : ℕ) (G H : Operation → Type 0) (e : SolveFault) → TellsTable j r G (Err e) →
    TellsSame j G H (Err e)
first_fails j r G H TooLarge told = inl told
first_fails j r G H NoMemory told = tt

pub second_fails : (j : JahnSymbol) (r : ℕ) (G H : Operation → Type 0) (e : SolveFault) → TellsTable j r H (Err e) →
    TellsSame j G H (Err e)
second_fails j r G H TooLarge told = inr told
second_fails j r G H NoMemory told = tt

pub same_grows : (j : JahnSymbol) (G H : Operation → Type 0) (e : SolveFault) → TellsSame j G H (Err e) →
    e ≡ TooLarge → Grows j G index_before ⊎ Grows j H index_before
same_grows j G H TooLarge told is = told
same_grows j G H NoMemory told is = cc

-- what is written where the sets admit the same tensors, or don't
pub written_as : (P : Type 0) (Written : Bool → Type 0) (same : Bool) → IsTrue same ↔ P → Written same →
    (P × Written true) ⊎ ((P → ⊥) × Written false)
written_as P Written true told w = inl (told.0 refl, w)
written_as P Written false told w = inr ((λ p. let clash : false ≡ true = told.1 p in cc), w)

-- ---- texts
same_joined : (old g h j end : List ℕ) →
    (old ++ (codes "same" ++ 32 ∷ []) ++ g ++ 32 ∷ [] ++ h ++ 32 ∷ [] ++ j ++ 32 ∷ (end ++ 10 ∷ []))
    ≡ old ++ ((codes "same" ++ 32 ∷ (g ++ 32 ∷ (h ++ 32 ∷ (j ++ 32 ∷ end)))) ++ 10 ∷ [])
same_joined old g h j end = simp append_assoc

pub same_written : (g h : GroupSymbol) (j : JahnSymbol) (same : Bool) (old l1 l2 l3 l4 l5 l6 new : List ℕ) →
    l1 ≡ old ++ (codes "same" ++ 32 ∷ []) → l2 ≡ l1 ++ group_text g → l3 ≡ l2 ++ 32 ∷ [] → l4 ≡ l3 ++ group_text h →
    l5 ≡ l4 ++ 32 ∷ [] → l6 ≡ l5 ++ jahn_text j → new ≡ l6 ++ 32 ∷ (yes_no same ++ 10 ∷ []) →
    new ≡ old ++ same_text g h j same
same_written g h j same old l1 l2 l3 l4 l5 l6 new e1 e2 e3 e4 e5 e6 e7 =
    e7
    ∙ ap (λ l. l ++ 32 ∷ (yes_no same ++ 10 ∷ []))
    (e6 ∙ ap (λ l. l ++ jahn_text j)
    (e5 ∙ ap (λ l. l ++ 32 ∷ [])
    (e4 ∙ ap (λ l. l ++ group_text h)
    (e3 ∙ ap (λ l. l ++ 32 ∷ []) (e2 ∙ ap (λ l. l ++ group_text g) e1)))))
    ∙ same_joined old (group_text g) (group_text h) (jahn_text j) (yes_no same)
