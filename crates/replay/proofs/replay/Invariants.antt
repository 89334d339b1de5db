use Rattle.replay.proofs.Run.{Going}
use Rattle.replay.proofs.replay.Given as goal

abbrev pub invariant-loop : goal.invariant-loop
invariant-loop l = Going l.progress l.buffer
