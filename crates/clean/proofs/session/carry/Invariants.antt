use Rattle.clean.proofs.On.{Mid}
use Rattle.clean.proofs.session.carry.Given as goal

abbrev pub invariant-loop-requests : goal.invariant-loop-requests
invariant-loop-requests l = Mid l.file l.fn.image l.fn.begun.indoor.plan.release l.fn.begun.receiver.identity l.ends l.image l.up l.down l.requests
