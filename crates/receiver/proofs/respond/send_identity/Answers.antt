use Rattle.std.proofs.Common.{ap, ◌∙◌, ℕ}
use Rattle.lent.specs.Written.{returns_written}
use Rattle.wire.specs.Written.{response_bytes}
use Rattle.wire.specs.declared.response.Response.TheVariants.{GetFwId}
use Rattle.receiver_rules.proofs.Hearing.{front_sent}
use Rattle.receiver_rules.specs.Hearing.{identity_sent_of}
use Rattle.receiver_rules.specs.Respond.{reply_bytes}
use Rattle.receiver_state.specs.Answer.{get_fw_id_reply}
use Rattle.receiver.proofs.respond.send_identity.Goals as goal

pub returns : goal.returns
unfolding identity_sent_of get_fw_id_reply reply_bytes
returns c =
    let front = c.in-Some.ensures.cases in
    front_sent (get_fw_id_reply c.args.identity) _ _ _ _ front.enough front.same
    (c.write.ensures ∙ ap (λ (s : ℕ). returns_written (response_bytes (GetFwId s c.args.identity)) c.in-Some.room.now) c.from-status.ensures)
