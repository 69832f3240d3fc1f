use Rattle.std.proofs.lemmas.Result.{err_from_is_err_and}
use Rattle.request_lines.specs.declared.keywords.Keyword.TheVariants.{Form, Group, Voigt, States, Pairs, Differ, Same}
use Rattle.request_lines.proofs.KeywordTexts.{body_wrong}
use Rattle.request_lines.proofs.Spelled.{read_form, read_one, read_voigt, read_states, read_pairs, read_differ, read_same}
use Rattle.request_lines.proofs.read.read_worded.Goals as goal

pub returns-in_err-g-in-Form : goal.returns-in_err-g-in-Form
returns-in_err-g-in-Form c =
    let p = err_from_is_err_and c.from_residual-in_err-g-in-Form.result c.from_residual-in_err-g-in-Form.ensures.1 in
    rw (p.1, p.2) (body_wrong c.args.format c.in_ok-keyword.keyword Form c.in-Form.is c.args.line.now c.in_ok-keyword.start c.in_err-g-in-Form.field-0.0.place c.in_ok-keyword.ensures.reads c.in_err-g-in-Form.ensures)

pub returns-in_ok-g-in-Form : goal.returns-in_ok-g-in-Form
returns-in_ok-g-in-Form c =
    read_form c.in_ok-keyword.keyword c.args.line.now c.in_ok-keyword.start c.in_ok-keyword.ensures.reads c.in-Form.is c.args.format c.in_ok-g-in-Form.g c.in_ok-g-in-Form.j c.in_ok-g-in-Form.ensures

pub returns-in_err-g-in-Group : goal.returns-in_err-g-in-Group
returns-in_err-g-in-Group c =
    let p = err_from_is_err_and c.from_residual-in_err-g-in-Group.result c.from_residual-in_err-g-in-Group.ensures.1 in
    rw (p.1, p.2) (body_wrong c.args.format c.in_ok-keyword.keyword Group c.in-Group.is c.args.line.now c.in_ok-keyword.start c.in_err-g-in-Group.field-0.0.place c.in_ok-keyword.ensures.reads c.in_err-g-in-Group.ensures)

pub returns-in_ok-g-in-Group : goal.returns-in_ok-g-in-Group
returns-in_ok-g-in-Group c =
    read_one c.in_ok-keyword.keyword c.args.line.now c.in_ok-keyword.start c.in_ok-keyword.ensures.reads c.in-Group.is c.args.format c.in_ok-g-in-Group.g c.in_ok-g-in-Group.ensures

pub returns-in_err-g-in-Voigt : goal.returns-in_err-g-in-Voigt
returns-in_err-g-in-Voigt c =
    let p = err_from_is_err_and c.from_residual-in_err-g-in-Voigt.result c.from_residual-in_err-g-in-Voigt.ensures.1 in
    rw (p.1, p.2) (body_wrong c.args.format c.in_ok-keyword.keyword Voigt c.in-Voigt.is c.args.line.now c.in_ok-keyword.start c.in_err-g-in-Voigt.field-0.0.place c.in_ok-keyword.ensures.reads c.in_err-g-in-Voigt.ensures)

pub returns-in_ok-g-in-Voigt : goal.returns-in_ok-g-in-Voigt
returns-in_ok-g-in-Voigt c =
    read_voigt c.in_ok-keyword.keyword c.args.line.now c.in_ok-keyword.start c.in_ok-keyword.ensures.reads c.in-Voigt.is c.args.format c.in_ok-g-in-Voigt.g c.in_ok-g-in-Voigt.j c.in_ok-g-in-Voigt.weights c.in_ok-g-in-Voigt.ensures

pub returns-in_err-g-in-States : goal.returns-in_err-g-in-States
returns-in_err-g-in-States c =
    let p = err_from_is_err_and c.from_residual-in_err-g-in-States.result c.from_residual-in_err-g-in-States.ensures.1 in
    rw (p.1, p.2) (body_wrong c.args.format c.in_ok-keyword.keyword States c.in-States.is c.args.line.now c.in_ok-keyword.start c.in_err-g-in-States.field-0.0.place c.in_ok-keyword.ensures.reads c.in_err-g-in-States.ensures)

pub returns-in_ok-g-in-States : goal.returns-in_ok-g-in-States
returns-in_ok-g-in-States c =
    read_states c.in_ok-keyword.keyword c.args.line.now c.in_ok-keyword.start c.in_ok-keyword.ensures.reads c.in-States.is c.args.format c.in_ok-g-in-States.g c.in_ok-g-in-States.f c.in_ok-g-in-States.ensures

pub returns-in_err-g-in-Pairs : goal.returns-in_err-g-in-Pairs
returns-in_err-g-in-Pairs c =
    let p = err_from_is_err_and c.from_residual-in_err-g-in-Pairs.result c.from_residual-in_err-g-in-Pairs.ensures.1 in
    rw (p.1, p.2) (body_wrong c.args.format c.in_ok-keyword.keyword Pairs c.in-Pairs.is c.args.line.now c.in_ok-keyword.start c.in_err-g-in-Pairs.field-0.0.place c.in_ok-keyword.ensures.reads c.in_err-g-in-Pairs.ensures)

pub returns-in_ok-g-in-Pairs : goal.returns-in_ok-g-in-Pairs
returns-in_ok-g-in-Pairs c =
    read_pairs c.in_ok-keyword.keyword c.args.line.now c.in_ok-keyword.start c.in_ok-keyword.ensures.reads c.in-Pairs.is c.args.format c.in_ok-g-in-Pairs.g c.in_ok-g-in-Pairs.f c.in_ok-g-in-Pairs.ensures

pub returns-in_err-g-in-Differ : goal.returns-in_err-g-in-Differ
returns-in_err-g-in-Differ c =
    let p = err_from_is_err_and c.from_residual-in_err-g-in-Differ.result c.from_residual-in_err-g-in-Differ.ensures.1 in
    rw (p.1, p.2) (body_wrong c.args.format c.in_ok-keyword.keyword Differ c.in-Differ.is c.args.line.now c.in_ok-keyword.start c.in_err-g-in-Differ.field-0.0.place c.in_ok-keyword.ensures.reads c.in_err-g-in-Differ.ensures)

pub returns-in_ok-g-in-Differ : goal.returns-in_ok-g-in-Differ
returns-in_ok-g-in-Differ c =
    read_differ c.in_ok-keyword.keyword c.args.line.now c.in_ok-keyword.start c.in_ok-keyword.ensures.reads c.in-Differ.is c.args.format c.in_ok-g-in-Differ.g c.in_ok-g-in-Differ.f c.in_ok-g-in-Differ.j c.in_ok-g-in-Differ.ensures

pub returns-in_err-g-in-Same : goal.returns-in_err-g-in-Same
returns-in_err-g-in-Same c =
    let p = err_from_is_err_and c.from_residual-in_err-g-in-Same.result c.from_residual-in_err-g-in-Same.ensures.1 in
    rw (p.1, p.2) (body_wrong c.args.format c.in_ok-keyword.keyword Same c.in-Same.is c.args.line.now c.in_ok-keyword.start c.in_err-g-in-Same.field-0.0.place c.in_ok-keyword.ensures.reads c.in_err-g-in-Same.ensures)

pub returns-in_ok-g-in-Same : goal.returns-in_ok-g-in-Same
returns-in_ok-g-in-Same c =
    read_same c.in_ok-keyword.keyword c.args.line.now c.in_ok-keyword.start c.in_ok-keyword.ensures.reads c.in-Same.is c.args.format c.in_ok-g-in-Same.g c.in_ok-g-in-Same.h c.in_ok-g-in-Same.j c.in_ok-g-in-Same.ensures

pub returns-in_err-keyword : goal.returns-in_err-keyword
returns-in_err-keyword c =
    let p = err_from_is_err_and c.from_residual.result c.from_residual.ensures.1 in
    rw (p.1, p.2) (c.in_err-keyword.ensures.reads c.args.format)
