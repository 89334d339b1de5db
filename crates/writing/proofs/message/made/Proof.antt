use Rattle.basis.specs.Left.{leaves}
use Rattle.lent.proofs.Laws.{put_leads}
use Rattle.writing.specs.Message.{message_of}
use mathlib.Core.Path.{◌∙◌}
use native.Mathlib.Omega.{arith}
use lib.ListN.{replicate}
use borrow.Author.Rules.{rules}
use Rattle.writing.proofs.message.made.Statement.{statement}
use Rattle.writing.proofs.message.made.Tie as tie

pub made_spec : {M : Type 1} → statement M
unfolding message_of
made_spec =
    tie.close
    (tie.spec
    (λ c. search rules)
    (λ c κs. search rules)
    (λ c. rw (leaves (c.before.put.ensures ∙ put_leads c.before.before.before.before.args.bytes.now (replicate 22 0) (omega arith)))))
