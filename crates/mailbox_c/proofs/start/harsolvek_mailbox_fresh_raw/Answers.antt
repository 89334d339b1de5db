use Rattle.std.proofs.Common.{◌∙◌}
use Rattle.mailbox_c.proofs.Fresh.{fresh_refuses, fresh_makes}
use Rattle.mailbox_c.proofs.start.harsolvek_mailbox_fresh_raw.Goals as goal

pub returns-in-Ok : goal.returns-in-Ok
returns-in-Ok c = rw c.from.ensures (fresh_makes c.args.connectors _ (c.count.ensures ∙ rw c.to_byte.ensures) _ c.in-Ok.is)

pub returns-in-Err : goal.returns-in-Err
returns-in-Err c =
    rw (c.from-in-Err.ensures, c.number.ensures) (fresh_refuses c.args.connectors _ (c.count.ensures ∙ rw c.to_byte.ensures) _ c.in-Err.is)
