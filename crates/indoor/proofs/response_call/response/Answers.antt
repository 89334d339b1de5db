use Rattle.std.proofs.Common.{sym, ◌∙◌}
use Rattle.std.proofs.lemmas.List.{take-append-drop}
use Rattle.wire.specs.Codes.{longest}
use Rattle.indoor_rules.proofs.Answers.{response_20, response_step}
use Rattle.indoor_rules.proofs.Front.{done_in_front}
use Rattle.indoor.proofs.response_call.response.Goals as goal

pub returns-in_default-read_response : goal.returns-in_default-read_response
returns-in_default-read_response c =
    let a = c.args in
    let front = c.in-Some.ensures.cases in
    let said = sym c.read_response.ensures ∙ c.in_default-read_response.is in
    rw (
      c.unwritten-in_default-read_response.ensures,
      front.same,
      take-append-drop longest a.out.now,
      response_20 a.session a.file.now a.response.now a.out.now c.if-file-session.false front.enough said,
    )

pub returns : goal.returns
returns c =
    let a = c.args in
    let front = c.in-Some.ensures.cases in
    let said = sym c.read_response.ensures ∙ c.in-Ok.is in
    done_in_front a.session.plan a.out.now front.enough _ a.file.now _ _ (rw (← c.decide-step.ensures, ← front.same) c.carry_out.ensures)
    ∙ sym (response_step a.session a.file.now a.response.now a.out.now c.if-file-session.false front.enough _ said)
