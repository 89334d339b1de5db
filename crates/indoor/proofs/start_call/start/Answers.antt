use Rattle.std.proofs.Common.{rules, arith, sym, ◌∙◌}
use Rattle.indoor_rules.specs.Start.{indoor_started_of}
use Rattle.indoor_rules.proofs.Beginning.{begins}
use Rattle.indoor_rules.proofs.Front.{begun_in_front}
use Rattle.indoor.proofs.start_call.start.Goals as goal

pub returns : goal.returns
unfolding indoor_started_of
returns c =
    let a = c.args in
    let settings = c.in_ok-settings.settings in
    let front = c.in-Some.ensures.cases in
    rw (← c.in_ok-settings.ensures)
    (begun_in_front _ a.out.now front.enough _ _ (rw (← front.same) c.begun.ensures)
    ∙ sym (begins settings a.release a.file.now a.out.now (search rules) (omega arith) front.enough))
