use Rattle.std.proofs.Common.{rules, arith, ◌≡◌, length, take}
use Rattle.std.proofs.Math.Seq.{take_at, length-take-le}
use Rattle.replay.proofs.Answers.{turned}
use Rattle.replay.proofs.progress.Progress.turn.Goals as goal

pub returns-clause-turned : goal.returns-clause-turned
returns-clause-turned c =
    let g = c.args in
    let held = g.self.held in
    let room : length g.buffer.now ≡ 65536 = search rules in
    let few = c.requires.held_le_held_most in
    let kept = take_at (take held g.buffer.now) _ held (length-take-le held g.buffer.now (omega (arith, room, few))) in
    turned c.read-got.result g.self g.buffer.now _ g.out.now c.came.result _ _ kept c.came.ensures.came
