use Rattle.std.proofs.lemmas.Result.{IfErr-weaker, IfOk-weaker, on_ok_weaker}
use Rattle.tensor_cli.specs.Kinds.{IsFreeOf, IsGrownBy, IsStop}
use Rattle.tensor_cli.proofs.ToldRequests.{differ_near, differ_told, form_told, group_told, pairs_told, same_told, spelled_too, states_told, voigt_told}
use Rattle.tensor_cli.proofs.Words.{none_add_up}
use Rattle.tensor_cli.proofs.answers.try_answer.Goals as goal

pub returns-in-Form-clause-ok : goal.returns-in-Form-clause-ok
returns-in-Form-clause-ok c =
    let read = c.requires.read in
    let told = form_told c.args.format c.args.line.now read.0 c.in-Form.g c.in-Form.j read.1 (rw (c.in-Form.is) at read.2) in
    on_ok_weaker c.forms.result (λ given q s. spelled_too c.args.format c.args.line.now q read.0
    (λ x. IsGrownBy x c.args.out.now.items c.forms.new.out.items) s read.1 _ told.1 (given told.0 told.2 told.3)) c.forms.ensures.ok

pub returns-in-Form-clause-stop : goal.returns-in-Form-clause-stop
returns-in-Form-clause-stop c =
    let read = c.requires.read in
    let told = form_told c.args.format c.args.line.now read.0 c.in-Form.g c.in-Form.j read.1 (rw (c.in-Form.is) at read.2) in
    IfErr-weaker c.forms.result _ _ (λ e given q s. spelled_too c.args.format c.args.line.now q read.0 (λ x. IsStop x e) s read.1 _ told.1
    (given told.0 told.2 told.3)) c.forms.ensures.stop

pub returns-in-Group-clause-ok : goal.returns-in-Group-clause-ok
returns-in-Group-clause-ok c =
    let read = c.requires.read in
    let told = group_told c.args.line.now read.0 c.in-Group.g (rw (c.in-Group.is) at read.2) in
    on_ok_weaker c.elements.result (λ given q s. spelled_too c.args.format c.args.line.now q read.0
    (λ x. IsGrownBy x c.args.out.now.items c.elements.new.out.items) s read.1 _ told (given)) c.elements.ensures.ok

pub returns-in-Group-clause-stop : goal.returns-in-Group-clause-stop
returns-in-Group-clause-stop c =
    let read = c.requires.read in
    let told = group_told c.args.line.now read.0 c.in-Group.g (rw (c.in-Group.is) at read.2) in
    IfErr-weaker c.elements.result _ _ (λ e given q s. spelled_too c.args.format c.args.line.now q read.0 (λ x. IsStop x e) s read.1 _ told
    (given)) c.elements.ensures.stop

pub returns-in-States-clause-ok : goal.returns-in-States-clause-ok
returns-in-States-clause-ok c =
    let read = c.requires.read in
    let told = states_told c.args.line.now read.0 c.in-States.g c.in-States.f (rw (c.in-States.is) at read.2) in
    on_ok_weaker c.states.result (λ given q s. spelled_too c.args.format c.args.line.now q read.0
    (λ x. IsGrownBy x c.args.out.now.items c.states.new.out.items) s read.1 _ told (given)) c.states.ensures.ok

pub returns-in-States-clause-stop : goal.returns-in-States-clause-stop
returns-in-States-clause-stop c =
    let read = c.requires.read in
    let told = states_told c.args.line.now read.0 c.in-States.g c.in-States.f (rw (c.in-States.is) at read.2) in
    IfErr-weaker c.states.result _ _ (λ e given q s. spelled_too c.args.format c.args.line.now q read.0 (λ x. IsStop x e) s read.1 _ told
    (given)) c.states.ensures.stop

pub returns-in-Pairs-clause-ok : goal.returns-in-Pairs-clause-ok
returns-in-Pairs-clause-ok c =
    let read = c.requires.read in
    let told = pairs_told c.args.line.now read.0 c.in-Pairs.g c.in-Pairs.f (rw (c.in-Pairs.is) at read.2) in
    on_ok_weaker c.pairs.result (λ given q s. spelled_too c.args.format c.args.line.now q read.0
    (λ x. IsGrownBy x c.args.out.now.items c.pairs.new.out.items) s read.1 _ told (given)) c.pairs.ensures.ok

pub returns-in-Pairs-clause-stop : goal.returns-in-Pairs-clause-stop
returns-in-Pairs-clause-stop c =
    let read = c.requires.read in
    let told = pairs_told c.args.line.now read.0 c.in-Pairs.g c.in-Pairs.f (rw (c.in-Pairs.is) at read.2) in
    IfErr-weaker c.pairs.result _ _ (λ e given q s. spelled_too c.args.format c.args.line.now q read.0 (λ x. IsStop x e) s read.1 _ told
    (given)) c.pairs.ensures.stop

pub returns-in-Same-clause-ok : goal.returns-in-Same-clause-ok
returns-in-Same-clause-ok c =
    let read = c.requires.read in
    let told = same_told c.args.line.now read.0 c.in-Same.g c.in-Same.h c.in-Same.j (rw (c.in-Same.is) at read.2) in
    on_ok_weaker c.same.result (λ given q s. spelled_too c.args.format c.args.line.now q read.0
    (λ x. IsGrownBy x c.args.out.now.items c.same.new.out.items) s read.1 _ told.1 (given told.0 told.2)) c.same.ensures.ok

pub returns-in-Same-clause-stop : goal.returns-in-Same-clause-stop
returns-in-Same-clause-stop c =
    let read = c.requires.read in
    let told = same_told c.args.line.now read.0 c.in-Same.g c.in-Same.h c.in-Same.j (rw (c.in-Same.is) at read.2) in
    IfErr-weaker c.same.result _ _ (λ e given q s. spelled_too c.args.format c.args.line.now q read.0 (λ x. IsStop x e) s read.1 _ told.1
    (given told.0 told.2)) c.same.ensures.stop

pub returns-in-Voigt-clause-ok : goal.returns-in-Voigt-clause-ok
returns-in-Voigt-clause-ok c =
    let read = c.requires.read in
    let told = voigt_told c.args.line.now read.0 c.in-Voigt.g c.in-Voigt.j c.in-Voigt.weights (rw (c.in-Voigt.is) at read.2) in
    on_ok_weaker c.voigt.result (λ given q s. spelled_too c.args.format c.args.line.now q read.0
    (λ x. IsGrownBy x c.args.out.now.items c.voigt.new.out.items) s read.1 _ told.1 (given told.0 told.2)) c.voigt.ensures.ok

pub returns-in-Voigt-clause-stop : goal.returns-in-Voigt-clause-stop
returns-in-Voigt-clause-stop c =
    let read = c.requires.read in
    let told = voigt_told c.args.line.now read.0 c.in-Voigt.g c.in-Voigt.j c.in-Voigt.weights (rw (c.in-Voigt.is) at read.2) in
    IfErr-weaker c.voigt.result _ _ (λ e given q s. spelled_too c.args.format c.args.line.now q read.0 (λ x. IsStop x e) s read.1 _ told.1
    (given told.0 told.2)) c.voigt.ensures.stop

pub returns-in-Differ-clause-ok : goal.returns-in-Differ-clause-ok
returns-in-Differ-clause-ok c =
    let read = c.requires.read in
    let told = differ_told c.args.format c.args.line.now read.0 c.in-Differ.g c.in-Differ.f c.in-Differ.j read.1 (rw (c.in-Differ.is) at read.2) in
    on_ok_weaker c.differ.result (λ given q s. spelled_too c.args.format c.args.line.now q read.0
    (λ x. IsGrownBy x c.args.out.now.items c.differ.new.out.items) s read.1 _ told.1 (given told.0 told.2 told.3)) c.differ.ensures.ok

pub returns-in-Differ-clause-stop : goal.returns-in-Differ-clause-stop
returns-in-Differ-clause-stop c =
    let read = c.requires.read in
    let told = differ_told c.args.format c.args.line.now read.0 c.in-Differ.g c.in-Differ.f c.in-Differ.j read.1 (rw (c.in-Differ.is) at read.2) in
    IfErr-weaker c.differ.result _ _ (λ e given q s. spelled_too c.args.format c.args.line.now q read.0 (λ x. IsStop x e) s read.1 _ told.1
    (given told.0 told.2 told.3)) c.differ.ensures.stop

pub differ-requires-clause-near : goal.differ-requires-clause-near
differ-requires-clause-near c =
    let read = c.requires.read in
    differ_near c.args.format c.args.line.now read.0 c.in-Differ.g c.in-Differ.f c.in-Differ.j read.1 (rw (c.in-Differ.is) at read.2) c.requires.short

pub returns-in-Form-clause-free : goal.returns-in-Form-clause-free
returns-in-Form-clause-free c =
    let read = c.requires.read in
    let told = form_told c.args.format c.args.line.now read.0 c.in-Form.g c.in-Form.j read.1 (rw (c.in-Form.is) at read.2) in
    IfOk-weaker c.forms.result _ _ (λ n given q s. spelled_too c.args.format c.args.line.now q read.0 (λ x. IsFreeOf x n) s read.1 _ told.1
    (given told.0 told.2 told.3)) c.forms.ensures.free

pub returns-in-Group-clause-free : goal.returns-in-Group-clause-free
returns-in-Group-clause-free c =
    let read = c.requires.read in
    let told = group_told c.args.line.now read.0 c.in-Group.g (rw (c.in-Group.is) at read.2) in
    IfOk-weaker c.elements.result _ _ (λ n given q s. spelled_too c.args.format c.args.line.now q read.0 (λ x. IsFreeOf x n) s read.1 _ told
    (given)) c.elements.ensures.free

pub returns-in-Voigt-clause-free : goal.returns-in-Voigt-clause-free
returns-in-Voigt-clause-free c =
    let read = c.requires.read in
    let told = voigt_told c.args.line.now read.0 c.in-Voigt.g c.in-Voigt.j c.in-Voigt.weights (rw (c.in-Voigt.is) at read.2) in
    IfOk-weaker c.voigt.result _ _ (λ n given q s. spelled_too c.args.format c.args.line.now q read.0 (λ x. IsFreeOf x n) s read.1 _ told.1
    (given told.0 told.2)) c.voigt.ensures.free

pub returns-in-States-clause-free : goal.returns-in-States-clause-free
returns-in-States-clause-free c =
    let read = c.requires.read in
    let told = states_told c.args.line.now read.0 c.in-States.g c.in-States.f (rw (c.in-States.is) at read.2) in
    IfOk-weaker c.states.result _ _ (λ n given q s. spelled_too c.args.format c.args.line.now q read.0 (λ x. IsFreeOf x n) s read.1 _ told
    (given)) c.states.ensures.free

pub returns-in-Pairs-clause-free : goal.returns-in-Pairs-clause-free
returns-in-Pairs-clause-free c =
    let read = c.requires.read in
    let told = pairs_told c.args.line.now read.0 c.in-Pairs.g c.in-Pairs.f (rw (c.in-Pairs.is) at read.2) in
    IfOk-weaker c.pairs.result _ _ (λ n given q s. spelled_too c.args.format c.args.line.now q read.0 (λ x. IsFreeOf x n) s read.1 _ told
    (given)) c.pairs.ensures.free

pub returns-in-Differ-clause-free : goal.returns-in-Differ-clause-free
returns-in-Differ-clause-free c =
    let read = c.requires.read in
    let told = differ_told c.args.format c.args.line.now read.0 c.in-Differ.g c.in-Differ.f c.in-Differ.j read.1 (rw (c.in-Differ.is) at read.2) in
    IfOk-weaker c.differ.result _ _ (λ n given q s. spelled_too c.args.format c.args.line.now q read.0 (λ x. IsFreeOf x n) s read.1 _ told.1
    (none_add_up told.0 n (given told.0 told.2 told.3))) c.differ.ensures.free

pub returns-in-Same-clause-free : goal.returns-in-Same-clause-free
returns-in-Same-clause-free c =
    let read = c.requires.read in
    let told = same_told c.args.line.now read.0 c.in-Same.g c.in-Same.h c.in-Same.j (rw (c.in-Same.is) at read.2) in
    IfOk-weaker c.same.result _ _ (λ n given q s. spelled_too c.args.format c.args.line.now q read.0 (λ x. IsFreeOf x n) s read.1 _ told.1
    (given)) c.same.ensures.free
