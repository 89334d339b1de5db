use Rattle.std.proofs.Common.{◌∙◌, sym, ap, le-ltb}
use Rattle.basis.specs.Left.{Left, answers, leaves}
use Rattle.basis.specs.Pick.{pick_no}
use Rattle.std.specs.Prelude.{Result}
use Rattle.receiver_rules.proofs.Hearing.{request_parts, heard_room}
use Rattle.receiver_state.specs.declared.answer.Answer.{Answer}
use Rattle.receiver_state.specs.declared.step.Heard.{Heard}
use Rattle.receiver.proofs.request_call.request.Goals as goal

pub returns-in-Err : goal.returns-in-Err
returns-in-Err c = rw (request_parts _ _ _ _ _ _, ← c.hear-heard.ensures, c.in-Err.is, c.unwritten.ensures)

pub returns-in-Ok : goal.returns-in-Ok
returns-in-Ok c =
    let room = heard_room _ _ _ _ _ _ _ _ (ap (λ (x : Left (Result Heard Answer)). x.answer) (sym c.hear-heard.ensures) ∙ c.in-Ok.is) in
    let sent = c.respond-written.ensures ∙ pick_no _ _ _ (le-ltb _ _ room) in
    rw (request_parts _ _ _ _ _ _, ← c.hear-heard.ensures, c.in-Ok.is, answers sent, leaves sent)
