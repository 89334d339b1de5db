use Rattle.lossy.proofs.Arrives.{carry_over}
use Rattle.lossy_session.proofs.Passes.{pass_over}
use Rattle.update.proofs.turn.Session.step.Goals as goal

-- What is carried and what time does leave both ends over the line.
pub returns-clause-over : goal.returns-clause-over
returns-clause-over c =
    let carry = c.carry-carried in
    let pass = c.pass-passed in
    pass_over _ _ _ _ _ (carry_over _ _ _ _ _ c.requires _ carry.result _ _ _ carry.ensures) _ pass.result _ _ pass.ensures
