use Rattle.lossy_ends.proofs.Stays.{delivered_same}
use Rattle.lossy_session.proofs.Judges.{judge_same, same_judge, judge_done}
use Rattle.update.proofs.report.judge.Goals as goal

pub returns-clause-same : goal.returns-clause-same
returns-clause-same c = rw c.judge.ensures (judge_same c.args.file.now c.args.ends c.args.image.now)

pub returns-clause-same_value : goal.returns-clause-same_value
returns-clause-same_value c = rw c.judge.ensures (same_judge c.args.file.now c.args.ends c.args.image.now)

pub returns-clause-same_value_2 : goal.returns-clause-same_value_2
returns-clause-same_value_2 c =
    let file = c.args.file.now in
    let image = c.args.image.now in
    let ends = c.args.ends in
    rw c.judge.ensures (λ done. same_judge file ends image (delivered_same file ends image (judge_done file ends image c.requires done)))
