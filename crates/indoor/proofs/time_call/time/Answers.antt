use Rattle.std.proofs.Common.{sym, ◌∙◌}
use Rattle.indoor_rules.proofs.Answers.{time_step}
use Rattle.indoor_rules.proofs.Front.{done_in_front}
use Rattle.indoor.proofs.time_call.time.Goals as goal

pub returns : goal.returns
returns c =
    let a = c.args in
    let front = c.in-Some.ensures.cases in
    done_in_front a.session.plan a.out.now front.enough _ a.file.now _ _ (rw (← c.pass-step.ensures, ← front.same) c.carry_out.ensures)
    ∙ sym (time_step a.session a.file.now a.elapsed a.out.now c.if-file-session.false front.enough)
