-- A parse fails exactly where the words have a fault, or for want of memory.
use Rattle.std.proofs.Common.{◌≡◌, ◌∙◌, sym, inl, inr, [], ◌∷◌, Ok, Err, Result, IfOk, IfErr}
use Rattle.clap.specs.Words.{FailsBy, Kinds, HasKind, kind_of}
use Rattle.clap.specs.declared.error.Error.{Error}
use Rattle.clap.specs.declared.error.ErrorKind.TheVariants.{OutOfMemory}

pub faultless_ok : {T : Type 0} (r : Result T Error) (kinds named : Kinds) → kinds ≡ named → FailsBy kinds r → IfOk r (λ _. named ≡ [])
faultless_ok (Ok x) kinds named is fails = sym is ∙ fails
faultless_ok (Err e) kinds named is fails = tt

none_among : (e : Error) (kinds : Kinds) → kinds ≡ [] → HasKind kinds e → kind_of e ≡ OutOfMemory
none_among e kinds none (inl memory) = memory
none_among e [] none (inr among) = absurd among
none_among e (k ∷ ks) none (inr among) = cc

pub faulty_err : {T : Type 0} (r : Result T Error) (kinds named : Kinds) → kinds ≡ named → FailsBy kinds r → IfErr r (λ e. named ≡ [] → kind_of e ≡ OutOfMemory)
faulty_err (Ok x) kinds named is fails = tt
faulty_err (Err e) kinds named is fails = λ none. none_among e kinds (is ∙ none) fails
