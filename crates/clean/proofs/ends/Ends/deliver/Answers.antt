use Rattle.clean.proofs.Turn.{answer_fits}
use Rattle.clean.proofs.ends.Ends.deliver.Goals as goal

pub answer-requires : goal.answer-requires
answer-requires c = answer_fits _ _ _ _ _ _ c.request-heard.result _ _ c.request-heard.ensures
