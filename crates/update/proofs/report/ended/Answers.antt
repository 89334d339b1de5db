use Rattle.lossy_ends.proofs.Stays.{done_delivered}
use Rattle.update.proofs.report.ended.Goals as goal

pub judge-judged-requires : goal.judge-judged-requires
judge-judged-requires c = done_delivered _ _ _ _ _ c.requires
