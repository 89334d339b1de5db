use Rattle.std.proofs.Common.{◌-◌, length}
use Rattle.mailbox_rules.specs.Mailbox.{mailbox}
use Rattle.playing.proofs.Mid.{Mid}
use Rattle.playing.proofs.part.play.Given as goal

abbrev pub invariant-loop-found : goal.invariant-loop-found
invariant-loop-found l = Mid (mailbox l.initial.state l.initial.message) l.part l.initial.out (mailbox l.state l.message) l.taken l.written l.out

abbrev pub decreases-loop-found : goal.decreases-loop-found
decreases-loop-found l = length l.part - l.taken
