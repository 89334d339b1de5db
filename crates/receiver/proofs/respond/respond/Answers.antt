use Rattle.std.proofs.Common.{◌∙◌, sym}
use Rattle.receiver_rules.proofs.Hearing.{sends_identity, sends_answer}
use Rattle.receiver.proofs.respond.respond.Goals as goal

pub returns-then-has_identity : goal.returns-then-has_identity
returns-then-has_identity c = c.send_identity.ensures ∙ sends_identity _ _ _ _ (sym c.has_identity.ensures ∙ c.if-has_identity.true)

pub returns : goal.returns
returns c = c.send_answer.ensures ∙ sends_answer _ _ _ _ (sym c.has_identity.ensures ∙ c.if-has_identity.false)
