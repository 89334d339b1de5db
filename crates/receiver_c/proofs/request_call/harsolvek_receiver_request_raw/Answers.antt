use Rattle.std.proofs.Common.{◌∙◌, sym}
use Rattle.basis.specs.Pick.{pick}
use Rattle.receiver_c.proofs.Narrowing.{request_narrow}
use Rattle.receiver_c.proofs.Requested.{requested_kept, requested_done}
use Rattle.receiver_c.specs.Calls.{harsolvek_receiver_request}
use Rattle.receiver_c.proofs.request_call.harsolvek_receiver_request_raw.Goals as goal

pub returns-in-Err : goal.returns-in-Err
unfolding harsolvek_receiver_request pick
returns-in-Err c =
    let is = sym c.is_session.ensures ∙ c.if-not-is_session.false in
    rw (← c.is_session.ensures, c.if-not-is_session.false, c.from.ensures, c.number.ensures, ← (request_narrow _ _ _ _ _ _ _), ← c.to_byte.ensures, ← c.to_byte-later.ensures, ← c.verdict_of.ensures)
    (sym (requested_kept _ _ _ _ _ _ _ c.unpack_phase-phase.ensures _ _ c.hear-heard.ensures is _ c.in-Err.is))

pub returns-in-Ok : goal.returns-in-Ok
unfolding harsolvek_receiver_request pick
returns-in-Ok c =
    rw (← c.is_session.ensures, c.if-not-is_session.false, c.from-in-Ok.ensures, c.number-in-Ok.ensures, c.store.ensures, ← (request_narrow _ _ _ _ _ _ _), ← c.to_byte.ensures, ← c.to_byte-later.ensures, ← c.verdict_of.ensures)
    (sym (requested_done _ _ _ _ _ _ _ c.unpack_phase-phase.ensures _ _ c.hear-heard.ensures _ c.in-Ok.is _ _ (rw c.store.ensures at c.respond.ensures)))
