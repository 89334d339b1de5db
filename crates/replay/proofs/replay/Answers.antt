use Rattle.std.proofs.Common.{rules, ◌≡◌, None}
use Rattle.replay.proofs.Run.{going_begins, going_on}
use Rattle.replay.proofs.replay.Goals as goal

pub loop-init : goal.loop-init
loop-init c = rw c.begin-progress.ensures (going_begins _)

pub loop-preserved : goal.loop-preserved
loop-preserved c =
    let l = c.loop in
    let turn = c.turn-progress in
    let runs : l.progress.end ≡ None = search rules in
    going_on l.progress l.buffer l.out turn.result _ _ l.invariant runs turn.ensures.held_le_held_most_2 turn.ensures.turned
