use Rattle.std.proofs.Common.{◌≡◌, ◌∙◌, length, sym, subst, rules}
use Rattle.std.specs.Prelude.{Ok, Err}
use Rattle.silence.specs.Settings.{out_of_limits}
use Rattle.wire.specs.declared.response.Identity.{Identity}
use Rattle.receiver_rules.specs.Session.{receiver_start_of}
use Rattle.clean.specs.declared.ran.NotRun.TheVariants.{Settings}
use Rattle.clean.proofs.Starts.{refused_29, same_identity, made_begun}
use Rattle.clean.proofs.session.run.Goals as goal

pub returns-in_err-receiver : goal.returns-in_err-receiver
returns-in_err-receiver c =
    let g = c.args in
    let started : receiver_start_of g.limit g.resends g.identity (length g.image.now) ≡ Err out_of_limits = search rules in
    let refused : c.from_residual.result ≡ Err Settings = search rules in
    rw refused (refused_29 g.limit g.resends g.identity g.release g.file.now g.image.now started)

pub begin-requires-clause-image_value : goal.begin-requires-clause-image_value
begin-requires-clause-image_value c =
    let g = c.args in
    let r = c.in_ok-receiver.receiver in
    let made : receiver_start_of g.limit g.resends g.identity (length g.image.now) ≡ Ok r = search rules in
    let same = same_identity g.limit g.resends g.identity g.release g.file.now g.image.now r made in
    subst (λ (i : Identity). receiver_start_of g.limit g.resends i (length g.image.now) ≡ Ok r) (sym same) made

pub returns : goal.returns
returns c =
    let g = c.args in
    let made : receiver_start_of g.limit g.resends g.identity (length g.image.now) ≡ Ok c.in_ok-receiver.receiver = search rules in
    c.begin.ensures
    ∙ made_begun g.limit g.resends g.identity g.release g.file.now g.image.now c.in_ok-receiver.receiver made
