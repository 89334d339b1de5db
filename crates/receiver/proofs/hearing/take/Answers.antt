use Rattle.receiver_rules.proofs.HasBlock.{decide_has}
use Rattle.receiver.proofs.hearing.take.Goals as goal

pub apply-requires : goal.apply-requires
apply-requires c =
    let a = c.args in
    rw c.decide-step.ensures (decide_has a.request.now a.valid a.capacity c.requires a.phase a.given.readiness a.given.verdict)
