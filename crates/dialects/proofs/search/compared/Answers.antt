use Rattle.std.proofs.Common.{◌≡◌, length}
use Rattle.dialects.proofs.Past.{past_this}
use Rattle.dialects.proofs.search.compared.Goals as goal
use Rattle.dialects.proofs.search.compared.Goals.{else-place-text-via-then-place-text+else-place-word, else-place-text-via-else-place-text}

pub returns-else-place-text : goal.returns-else-place-text
returns-else-place-text c =
    let f = c.common_front-place.ensures in
    let part : c.common_front-place.result ≡ length c.args.text.now → c.common_front-place.result ≡ length c.args.word.now → ⊥ =
    λ text word. elim c.else-place-text.branch [
      | else-place-text-via-then-place-text+else-place-word w ↦ w.if-place-word.false word
      | else-place-text-via-else-place-text w ↦ w.if-place-text.false text
    ]
    in
    past_this c.args.text.now c.args.word.now c.args.tree c.common_front-place.result c.requires f.within_a f.within_b f.same f.differ part
