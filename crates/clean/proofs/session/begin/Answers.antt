use Rattle.std.proofs.Common.{◌≡◌, ◌∙◌, arith, rules}
use Rattle.std.specs.Prelude.{Ok, Err}
use Rattle.clean.specs.declared.ran.NotRun.TheVariants.{FileSize}
use Rattle.clean.proofs.Begin.{start_refuses, start_carries, start_on}
use Rattle.clean.proofs.session.begin.Goals as goal

pub returns-in_err-begun : goal.returns-in_err-begun
returns-in_err-begun c =
    let g = c.args in
    let x = c.start-started in
    let refused : c.from_residual.result ≡ Err FileSize = search rules in
    rw refused
    (start_refuses g.release g.receiver.identity g.file.now _ g.image.now (omega arith) g.limit g.resends g.receiver c.requires.image_value
    x.result _ x.ensures c.in_err-begun.ensures.variant)

pub carry-requires : goal.carry-requires
carry-requires c =
    let g = c.args in
    let x = c.start-started in
    let is : x.result ≡ Ok c.in_ok-begun.begun = search rules in
    start_on g.release g.receiver.identity g.file.now _ g.image.now (omega arith) g.limit g.resends g.receiver c.requires.image_value
    x.result _ x.ensures c.in_ok-begun.begun is c.requires.wide (omega arith)

pub returns : goal.returns
returns c =
    let g = c.args in
    let x = c.start-started in
    let is : x.result ≡ Ok c.in_ok-begun.begun = search rules in
    c.carry.ensures
    ∙ start_carries g.release g.receiver.identity g.file.now _ g.image.now (omega arith) g.limit g.resends g.receiver c.requires.image_value
    x.result _ x.ensures c.in_ok-begun.begun is
