use Rattle.std.proofs.Common.{◌≡◌, ◌∙◌, ap, sym, map, string_bytes, List, ℕ}
use Rattle.clap.specs.Words.{found_of, rows_of, matches_of, fault_of}
use Rattle.run_words.specs.Words.{tensors_app, given_words}
use Rattle.run_words.proofs.Numbers.{asks_words}
use Rattle.run_words.proofs.read_words.Goals as goal

pub returns-in-Ok-read_matches-clause-asks : goal.returns-in-Ok-read_matches-clause-asks
returns-in-Ok-read_matches-clause-asks c =
    let words = map string_bytes c.args.words.now in
    let same : map (λ s. s.now) c.as_slice.result.now ≡ given_words words =
    ap (λ (l : List _). map (λ s. s.now) l) c.as_slice.ensures.value ∙ c.in-Ok.ensures in
    asks_words words (rows_of (found_of c.in-Ok-read_matches.matches)) c.run_of.result
    (ap (λ (ws : List (List ℕ)). fault_of tensors_app ws) (sym same) ∙ c.in-Ok-read_matches.ensures.faultless)
    (c.in-Ok-read_matches.ensures.ok ∙ ap (λ (ws : List (List ℕ)). matches_of tensors_app ws) same)
    c.run_of.ensures
