use Rattle.std.proofs.Common.{◌∙◌, sym}
use Rattle.receiver_rules.proofs.Hearing.{sends_identity, sends_answer}
use Rattle.receiver_c.specs.Words.{session_at}
use Rattle.receiver_c.proofs.request_call.respond.Goals as goal

pub returns-then-has_identity : goal.returns-then-has_identity
unfolding session_at
returns-then-has_identity c =
    rw (← c.unpack_identity.ensures) (c.send_identity.ensures ∙ sends_identity _ _ _ _ (sym c.has_identity.ensures ∙ c.if-has_identity.true))

pub returns : goal.returns
unfolding session_at
returns c = c.send_answer.ensures ∙ sends_answer _ _ _ _ (sym c.has_identity.ensures ∙ c.if-has_identity.false)
