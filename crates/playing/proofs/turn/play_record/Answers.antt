use Rattle.playing.proofs.Steps.{turn_is}
use Rattle.playing.proofs.turn.play_record.Goals as goal

pub returns : goal.returns
returns c = turn_is c.args.mailbox c.args.«record» c.step_of-step.result c.step_of-step.ensures _ _ c.line_after-line.ensures c.settle_zeros.ensures
