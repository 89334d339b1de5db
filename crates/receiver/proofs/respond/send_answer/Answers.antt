use Rattle.std.proofs.Common.{ap, ◌∙◌}
use Rattle.receiver_state.specs.Answer.{reply_of}
use Rattle.receiver_rules.proofs.Hearing.{front_sent}
use Rattle.receiver_rules.specs.Hearing.{sent_of, answer_sent_of}
use Rattle.receiver_rules.specs.Respond.{reply_bytes}
use Rattle.receiver.proofs.respond.send_answer.Goals as goal

pub returns : goal.returns
unfolding answer_sent_of
returns c =
    let front = c.in-Some.ensures.cases in
    front_sent _ _ _ _ _ front.enough front.same c.deliver.ensures
    ∙ ap (λ x. sent_of (reply_bytes x) c.args.out.now) (c.reply.ensures ∙ ap (λ i. reply_of i c.args.capacity c.args.answer) c.no_identity.ensures)
