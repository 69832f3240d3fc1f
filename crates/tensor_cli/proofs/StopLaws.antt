-- What stops a request, by its symbols.
--   first_unaccepted, second_unaccepted    a group that isn't accepted
--   rank_stop, in_rank_memory, first_large, none_over, ranks_stop    a tensor, or the first of a list, of a rank above 6
--   large_stop, one_large, states_stop    what comes behind accepted groups and tensors within rank
--   tensor_told, spelled_told    the symbol of a word that was read, or a fact of the symbol that it spells
use Rattle.std.proofs.Common.{◌≡◌, inl, inr, ℕ, ◌+◌, ◌-◌, take, drop, ◌<◌, ◌≤◌, List, [], ◌∷◌, refl, arith, sym, ap, subst}
use Rattle.std.specs.Prelude.{IfOk, OnOk, Ok, Err}
use Rattle.std.specs.declared.result.Result.{Result}
use Rattle.tensor_defs.specs.Prelude.{IsAccepted, JahnSymbol, rank, Each}
use Rattle.text_defs.specs.Prelude.{AreAccepted, FirstAt, FirstRefused, HasShape, InRank, IsNotSub, JahnGrows, RefusalWord, RefusesRequest, jahns_of, GroupAt}
use Rattle.text_defs.specs.Prelude.{JahnAt, Request, SpellsJahn}
use Rattle.text_laws.proofs.JahnUnique.{one_jahn}
use Rattle.jahn_grammar.specs.Symbols.{symbol_of}
use Rattle.jahn_grammar.specs.declared.Jahn.{Jahn}
use Rattle.coset_states.specs.declared.StateFault.{StateFault}
use Rattle.coset_states.specs.declared.StateFault.TheVariants as state_fault
use Rattle.request_lines.specs.Readings.{TellsJahn}
use Rattle.request_lines.specs.declared.Named.{Named}
use Rattle.request_lines.specs.declared.Span.{Span}
use Rattle.line_runs.specs.Words.{word_of}
use Rattle.line_runs.specs.declared.refusals.Refusal.{Refusal}
use Rattle.line_runs.specs.declared.refusals.Word.{Word}
use Rattle.line_runs.specs.declared.refusals.Word.TheVariants as word
use Rattle.tensor_cli.specs.Kinds.{IsFirstStop, IsGroupStop, IsOverRank, IsStateStop, IsStop, IsTooLarge, IsUnaccepted, jahn_at}
use Rattle.tensor_cli.proofs.Words.{nth_first}
use Rattle.tensor_cli.specs.declared.stops.NoAnswer.{NoAnswer}
use Rattle.tensor_cli.specs.declared.stops.NoAnswer.TheVariants.{Refused, NoMemory}

pub as_refusal : (q : Request) (r s : Refusal) → r ≡ s → RefusesRequest q (word_of s.word) s.column → RefusesRequest q (word_of r.word) r.column
as_refusal q r s e h = subst (λ (x : Refusal). RefusesRequest q (word_of x.word) x.column) (sym e) h

pub as_stop : (q : Request) (e s : NoAnswer) → e ≡ s → IsStop q s → IsStop q e
as_stop q e s same h = subst (λ (x : NoAnswer). IsStop q x) (sym same) h

pub first_unaccepted : (g : Named) (gs : List Named) (e : NoAnswer) → IsUnaccepted g e → IsGroupStop (g ∷ gs) e
first_unaccepted g gs (Refused r) u = λ q more is.
    as_refusal q r (record { word = word.Primes; column = g.start + 1 }) u.0
    (subst (λ (l : List GroupAt). FirstRefused l (g.start + 1)) (sym is) (inl (u.1, refl)))
first_unaccepted g gs NoMemory u = λ q more is. tt

pub second_unaccepted : (g h : Named) (e : NoAnswer) → IsAccepted g.tree → IsUnaccepted h e → IsGroupStop (g ∷ h ∷ []) e
second_unaccepted g h (Refused r) accepted u = λ q more is.
    as_refusal q r (record { word = word.Primes; column = h.start + 1 }) u.0
    (subst (λ (l : List GroupAt). FirstRefused l (h.start + 1)) (sym is) (inr (accepted, inl (u.1, refl))))
second_unaccepted g h NoMemory accepted u = λ q more is. tt

pub rank_stop : (line : List ℕ) (j : Span) (e : NoAnswer) → IsOverRank line j e → (b : JahnAt) → TellsJahn line j b → (q : Request)
    → jahns_of q ≡ b ∷ [] → AreAccepted q → IsStop q e
rank_stop line j (Refused r) o b told q one accepted =
    as_refusal q r (record { word = word.Rank; column = j.start + 1 }) o.0
    (accepted, subst (λ (l : List JahnAt). FirstAt (λ i. 6 < rank i.jahn) l (j.start + 1)) (sym one) (inl (o.1 b told, sym told.column)))
rank_stop line j NoMemory o b told q one accepted = tt

-- a tensor that is within rank isn't refused
pub in_rank_memory : (line : List ℕ) (j : Span) (e : NoAnswer) → IsOverRank line j e → (b : JahnAt) × TellsJahn line j b × (rank b.jahn ≤ 6)
    → (Grown : Type 0) (column : ℕ) → IsTooLarge Grown column e
in_rank_memory line j (Refused r) o within Grown column = absurd (omega (arith, o.1 within.0 within.1, within.2))
in_rank_memory line j NoMemory o within Grown column = tt

pub first_large : (Fact : JahnAt → Type 0) (js : List JahnAt) (k : ℕ) (j : JahnAt) (more : List JahnAt) (e : NoAnswer) → drop k js ≡ j ∷ more
    → Each (λ i. Fact i → ⊥) (take k js) → IsTooLarge (Fact j) j.column e → IsFirstStop word.TooLarge Fact e js
first_large Fact js k j more (Refused r) is none large = (
  ap (λ (x : Refusal). x.word) large.0,
  subst (λ (n : ℕ). FirstAt Fact js n) (sym (ap (λ (x : Refusal). x.column) large.0)) (nth_first Fact js k j more is none large.1),
)
first_large Fact js k j more NoMemory is none large = tt

pub none_over : (js : List JahnAt) → Each (λ j. rank j.jahn ≤ 6) js → Each (λ j. 6 < rank j.jahn → ⊥) js
none_over [] all = tt
none_over (j ∷ js) all = (λ over. omega (arith, all.0, over), none_over js all.1)

pub ranks_stop : (q : Request) (e : NoAnswer) → AreAccepted q → IsFirstStop word.Rank (λ j. 6 < rank j.jahn) e (jahns_of q) → IsStop q e
ranks_stop q (Refused r) accepted s =
    subst (λ (w : Word). RefusesRequest q (word_of w) r.column) (sym s.0) (accepted, s.1)
ranks_stop q NoMemory accepted s = tt

pub large_stop : (q : Request) (e : NoAnswer) → AreAccepted q → InRank q → HasShape q → ((k c : ℕ) → IsNotSub q k c → ⊥)
    → IsFirstStop word.TooLarge (JahnGrows q) e (jahns_of q) → IsStop q e
large_stop q (Refused r) accepted in_rank shape within s =
    subst (λ (w : Word). RefusesRequest q (word_of w) r.column) (sym s.0) (accepted, in_rank, shape, within, s.1)
large_stop q NoMemory accepted in_rank shape within s = tt

-- of the one tensor of a request
pub one_large : (q : Request) (b : JahnAt) (column : ℕ) → jahns_of q ≡ b ∷ [] → b.column ≡ column → AreAccepted q → InRank q → HasShape q
    → ((k c : ℕ) → IsNotSub q k c → ⊥) → JahnGrows q b → RefusesRequest q RefusalWord.TooLarge column
one_large q b column one at accepted in_rank shape within grows =
    (accepted, in_rank, shape, within, subst (λ (l : List JahnAt). FirstAt (JahnGrows q) l column) (sym one) (inl (grows, sym at)))

pub states_stop : (q : Request) (f : Named) (fault : StateFault) (e : NoAnswer) → AreAccepted q → InRank q → HasShape q
    → ((k : ℕ) → fault ≡ state_fault.NotSubgroup k → IsNotSub q k (f.start + 1)) → IsStateStop fault f e → IsStop q e
states_stop q f (state_fault.NotSubgroup k) e accepted in_rank shape outside is =
    as_stop q e (Refused (record { word = word.NotSub k; column = f.start + 1 })) is (accepted, in_rank, shape, outside k refl)
states_stop q f state_fault.NoMemory e accepted in_rank shape outside is = as_stop q e NoMemory is tt

-- ---- words that are Jahn symbols
pub tensor_told : (line : List ℕ) (j : Span) (tree : Jahn) (b : JahnAt) →
    SpellsJahn (take (j.end - j.start) (drop j.start line)) (symbol_of tree) × (rank (symbol_of tree) ≤ 6) →
    TellsJahn line j b → b ≡ jahn_at j (symbol_of tree)
tensor_told line j tree b read t =
    λ i. record { jahn = one_jahn _ b.jahn (symbol_of tree) t.spells read.0 i; column = t.column i }

pub spelled_told : (P : JahnSymbol → Type 0) (line : List ℕ) (j : Span) (b : JahnAt) →
    (k : JahnSymbol) × SpellsJahn (take (j.end - j.start) (drop j.start line)) k × P k → TellsJahn line j b → P b.jahn
spelled_told P line j b read t = subst P (one_jahn _ read.0 b.jahn read.1 t.spells) read.2

pub known_told : (line : List ℕ) (j : Span) (b : JahnAt) (n : ℕ) →
    (k : JahnSymbol) × SpellsJahn (take (j.end - j.start) (drop j.start line)) k × ((n ≡ rank k) × (rank k ≤ 6)) → TellsJahn line j b →
    rank b.jahn ≤ 6
known_told line j b n read t = spelled_told (λ k. rank k ≤ 6) line j b (read.0, read.1, read.2.1) t

pub if_ok_on : {T E : Type 0} {P : T → Type 0} {Q : Type 0} (r : Result T E) → ((x : T) → P x → Q) → IfOk r P → OnOk r Q
if_ok_on (Ok x) given p = given x p
if_ok_on (Err e) given p = tt
