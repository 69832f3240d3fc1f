-- The answers to requests of each kind, by what their parts give.
--   elements_grown, forms_grown, voigt_grown, differ_grown, states_grown, pairs_grown, same_grown    a list grew by the answer
use Rattle.std.proofs.Common.{◌≡◌, ◌⊎◌, inl, inr, ⊎_elim, ℕ, ◌≤◌, true, false, List, ◌++◌, length, refl, sym, subst}
use Rattle.tensor_defs.specs.Prelude.{Grows, InGroup, IsAccepted, AdmitSame, JahnSymbol, rank, Each, IsListing, Operation, comes_before, index_before}
use Rattle.tensor_defs.specs.Prelude.{PairClass, ArePairClasses, AreStates, HasBlocks, IsVoigtTable, VoigtGrows, VoigtTable}
use Rattle.tensor_defs.specs.declared.Weights.{Weights}
use Rattle.state_marks.specs.Told.{MarksGrow}
use Rattle.text_defs.specs.Prelude.{elements_text, pairs_text, same_text, states_text, voigt_text, IsDifferText, IsFormText, IsOutside, JahnAt, Form, Group}
use Rattle.text_defs.specs.Prelude.{Voigt, States, Pairs, Differ, Same}
use Rattle.request_lines.specs.declared.Named.{Named}
use Rattle.tensor_cli.specs.Kinds.{IsGrownBy, IsJoinedOnto, group_at}
use Rattle.tensor_cli.proofs.Words.{none_first}

pub elements_grown : (g : Named) (old new : List ℕ) (hs : List Operation) → IsAccepted g.tree → IsListing comes_before (InGroup g.tree) hs
    → new ≡ old ++ elements_text g.tree hs → IsGrownBy (Group (group_at g)) old new
elements_grown g old new hs accepted listing grown = record {
  answer = elements_text g.tree hs;
  answers = (hs, listing, refl);
  is_open = record { accepted = (accepted, tt); in_rank = tt; has_shape = tt; within = λ k c n. n; calm = λ c n. n };
  grown = grown;
}

pub forms_grown : (g : Named) (old new : List ℕ) (js : List JahnAt) → IsAccepted g.tree → Each (λ j. rank j.jahn ≤ 6) js
    → IsJoinedOnto (IsFormText g.tree) old new js → Each (λ j. Grows j.jahn (InGroup g.tree) index_before → ⊥) js
    → IsGrownBy (Form (group_at g) js) old new
forms_grown g old new js accepted in_rank joined calm = record {
  answer = joined.0;
  answers = joined.1;
  is_open = record {
    accepted = (accepted, tt);
    in_rank = in_rank;
    has_shape = tt;
    within = λ k c n. n;
    calm = λ c first. none_first (λ j. Grows j.jahn (InGroup g.tree) index_before) js c calm first;
  };
  grown = joined.2;
}

pub voigt_grown : (g : Named) (old new : List ℕ) (b : JahnAt) (tree : JahnSymbol) (w : Weights) → b.jahn ≡ tree → IsAccepted g.tree → rank tree ≤ 6
    → ((bs : List ℕ) → HasBlocks tree.factors bs → VoigtGrows tree (InGroup g.tree) bs w → ⊥)
    → (bs : List ℕ) × HasBlocks tree.factors bs × (v : VoigtTable) × IsVoigtTable tree (InGroup g.tree) bs w v
    × (new ≡ old ++ voigt_text g.tree tree w bs v)
    → IsGrownBy (Voigt (group_at g) b w) old new
voigt_grown g old new b tree w is accepted in_rank calm t = by_table
    (subst (λ (j : JahnSymbol). rank j ≤ 6) (sym is) in_rank)
    (subst (λ (j : JahnSymbol). (bs : List ℕ) → HasBlocks j.factors bs → VoigtGrows j (InGroup g.tree) bs w → ⊥) (sym is) calm)
    (subst (λ (j : JahnSymbol). (bs : List ℕ) × HasBlocks j.factors bs × (v : VoigtTable) × IsVoigtTable j (InGroup g.tree) bs w v
    × (new ≡ old ++ voigt_text g.tree j w bs v)) (sym is) t)
  where
    by_table : rank b.jahn ≤ 6 → ((bs : List ℕ) → HasBlocks b.jahn.factors bs → VoigtGrows b.jahn (InGroup g.tree) bs w → ⊥)
        → (bs : List ℕ) × HasBlocks b.jahn.factors bs × (v : VoigtTable) × IsVoigtTable b.jahn (InGroup g.tree) bs w v
        × (new ≡ old ++ voigt_text g.tree b.jahn w bs v)
        → IsGrownBy (Voigt (group_at g) b w) old new
    by_table ranked none made = record {
      answer = voigt_text g.tree b.jahn w made.0 made.2;
      answers = (made.0, made.1, made.2, made.3, refl);
      is_open = record {
        accepted = (accepted, tt);
        in_rank = (ranked, tt);
        has_shape = (made.0, made.1);
        within = λ k c n. n;
        calm = λ c first. ⊎_elim (λ here. none here.0.0 here.0.1 here.0.2) (λ later. later.1) first;
      };
      grown = made.4;
    }

pub differ_grown : (g f : Named) (old new : List ℕ) (js : List JahnAt) → IsAccepted g.tree → IsAccepted f.tree
    → ((k : ℕ) → IsOutside g.tree f.tree k → ⊥) → Each (λ j. rank j.jahn ≤ 6) js
    → IsJoinedOnto (IsDifferText g.tree f.tree) old new js → Each (λ j. MarksGrow j.jahn (InGroup g.tree) (InGroup f.tree) → ⊥) js
    → IsGrownBy (Differ (group_at g) (group_at f) js) old new
differ_grown g f old new js accepted other within in_rank joined calm = record {
  answer = joined.0;
  answers = joined.1;
  is_open = record {
    accepted = (accepted, (other, tt));
    in_rank = in_rank;
    has_shape = tt;
    within = λ k c n. within k n.0;
    calm = λ c first. none_first (λ j. MarksGrow j.jahn (InGroup g.tree) (InGroup f.tree)) js c calm first;
  };
  grown = joined.2;
}

pub states_grown : (g f : Named) (old new : List ℕ) → IsAccepted g.tree → IsAccepted f.tree → ((k : ℕ) → IsOutside g.tree f.tree k → ⊥)
    → (reps : List Operation) × AreStates (InGroup g.tree) (InGroup f.tree) reps × (new ≡ old ++ states_text g.tree f.tree reps)
    → IsGrownBy (States (group_at g) (group_at f)) old new
states_grown g f old new accepted other within t = record {
  answer = states_text g.tree f.tree t.0;
  answers = (t.0, t.1, refl);
  is_open = record { accepted = (accepted, (other, tt)); in_rank = tt; has_shape = tt; within = λ k c n. within k n.0; calm = λ c n. n };
  grown = t.2;
}

pub pairs_grown : (g f : Named) (old new : List ℕ) → IsAccepted g.tree → IsAccepted f.tree → ((k : ℕ) → IsOutside g.tree f.tree k → ⊥)
    → (reps : List Operation) × AreStates (InGroup g.tree) (InGroup f.tree) reps
    × (cs : List PairClass) × ArePairClasses (InGroup g.tree) (InGroup f.tree) reps cs
    × (new ≡ old ++ pairs_text g.tree f.tree (length reps) cs)
    → IsGrownBy (Pairs (group_at g) (group_at f)) old new
pairs_grown g f old new accepted other within t = record {
  answer = pairs_text g.tree f.tree (length t.0) t.2;
  answers = (t.0, t.1, t.2, t.3, refl);
  is_open = record { accepted = (accepted, (other, tt)); in_rank = tt; has_shape = tt; within = λ k c n. within k n.0; calm = λ c n. n };
  grown = t.4;
}

pub same_grown : (g h : Named) (old new : List ℕ) (b : JahnAt) (tree : JahnSymbol) → b.jahn ≡ tree → IsAccepted g.tree → IsAccepted h.tree
    → rank tree ≤ 6 → (Grows tree (InGroup g.tree) index_before → ⊥) → (Grows tree (InGroup h.tree) index_before → ⊥)
    → (AdmitSame tree (InGroup g.tree) (InGroup h.tree) × (new ≡ old ++ same_text g.tree h.tree tree true))
    ⊎ ((AdmitSame tree (InGroup g.tree) (InGroup h.tree) → ⊥) × (new ≡ old ++ same_text g.tree h.tree tree false))
    → IsGrownBy (Same (group_at g) (group_at h) b) old new
same_grown g h old new b tree is accepted other in_rank calm calm' t = by_answer
    (subst (λ (j : JahnSymbol). rank j ≤ 6) (sym is) in_rank)
    (subst (λ (j : JahnSymbol). Grows j (InGroup g.tree) index_before → ⊥) (sym is) calm)
    (subst (λ (j : JahnSymbol). Grows j (InGroup h.tree) index_before → ⊥) (sym is) calm')
    (subst (λ (j : JahnSymbol). (AdmitSame j (InGroup g.tree) (InGroup h.tree) × (new ≡ old ++ same_text g.tree h.tree j true))
    ⊎ ((AdmitSame j (InGroup g.tree) (InGroup h.tree) → ⊥) × (new ≡ old ++ same_text g.tree h.tree j false))) (sym is) t)
  where
    by_answer : rank b.jahn ≤ 6 → (Grows b.jahn (InGroup g.tree) index_before → ⊥) → (Grows b.jahn (InGroup h.tree) index_before → ⊥)
        → (AdmitSame b.jahn (InGroup g.tree) (InGroup h.tree) × (new ≡ old ++ same_text g.tree h.tree b.jahn true))
        ⊎ ((AdmitSame b.jahn (InGroup g.tree) (InGroup h.tree) → ⊥) × (new ≡ old ++ same_text g.tree h.tree b.jahn false))
        → IsGrownBy (Same (group_at g) (group_at h) b) old new
    by_answer ranked one two (inl is_same) = record {
      answer = same_text g.tree h.tree b.jahn true;
      answers = inl (is_same.0, refl);
      is_open = record {
        accepted = (accepted, (other, tt));
        in_rank = (ranked, tt);
        has_shape = tt;
        within = λ k c n. n;
        calm = λ c first. ⊎_elim (λ here. ⊎_elim one two here.0) (λ later. later.1) first;
      };
      grown = is_same.1;
    }
    by_answer ranked one two (inr other_one) = record {
      answer = same_text g.tree h.tree b.jahn false;
      answers = inr (other_one.0, refl);
      is_open = record {
        accepted = (accepted, (other, tt));
        in_rank = (ranked, tt);
        has_shape = tt;
        within = λ k c n. n;
        calm = λ c first. ⊎_elim (λ here. ⊎_elim one two here.0) (λ later. later.1) first;
      };
      grown = other_one.1;
    }
