use Rattle.std.proofs.Common.{arith}
use Rattle.clean.proofs.On.{mid_turn, mid_rests, mid_ends}
use Rattle.clean.proofs.session.carry.Goals as goal

pub returns-then-ends-eq0 : goal.returns-then-ends-eq0
returns-then-ends-eq0 c =
    let g = c.args in
    let l = c.loop-requests in
    rw c.ended.ensures
    (mid_rests g.file.now g.image.now g.begun.indoor.plan.release g.begun.receiver.identity l.ends l.image l.up l.down l.requests l.invariant c.if-ends-eq0.true)

pub loop-requests-preserved : goal.loop-requests-preserved
loop-requests-preserved c =
    let g = c.args in
    let l = c.loop-requests in
    mid_turn g.file.now g.image.now g.begun.indoor.plan.release g.begun.receiver.identity l.ends l.image l.up l.down l.requests l.invariant
    c.if-ends-eq0.false _ _ _ _ c.turn-ends.ensures

pub returns : goal.returns
returns c =
    let g = c.args in
    let l = c.loop-requests in
    rw c.ended-2.ensures
    (mid_ends g.file.now g.image.now g.begun.indoor.plan.release g.begun.receiver.identity l.ends l.image l.up l.down l.requests l.invariant (omega arith))
