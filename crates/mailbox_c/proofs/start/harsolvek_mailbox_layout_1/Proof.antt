use mathlib.Core.Path.{refl}
use Rattle.mailbox_c.proofs.start.harsolvek_mailbox_layout_1.Statement.{statement}
use Rattle.mailbox_c.proofs.start.harsolvek_mailbox_layout_1.Tie as tie

pub harsolvek_mailbox_layout_1_spec : {M : Type 1} → statement M
harsolvek_mailbox_layout_1_spec = tie.close (tie.spec (λ c. refl))
