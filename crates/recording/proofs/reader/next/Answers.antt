use Rattle.std.proofs.Common.{rules, sym, ◌∙◌, ◌≡◌, ◌<◌, ◌^◌, arith, length, Err}
use Rattle.recording.proofs.ByKind.{nothing_there}
use Rattle.recording.proofs.Cases.{found_past}
use Rattle.recording.proofs.Moved.{next_from}
use Rattle.recording.proofs.reader.next.Goals as goal

pub returns-in_default : goal.returns-in_default
returns-in_default c = sym (nothing_there c.args.recording.now c.args.at (search rules))

pub returns-in_err-first : goal.returns-in_err-first
returns-in_err-first c =
    let e : c.from_residual.result ≡ Err c.in_err-first.field-0.0 = search rules in
    e ∙ next_from c.args.recording.now c.in-Some.rest.now c.args.at (search rules) _ (sym c.in_err-first.was ∙ c.first.ensures)

pub overflow_add-result : goal.overflow_add-result
overflow_add-result c =
    let past = found_past c.args.recording.now c.args.at c.in_ok-first.first.«record» _ (sym (next_from c.args.recording.now c.in-Some.rest.now c.args.at (search rules) _ (sym c.in_ok-first.was ∙ c.first.ensures))) in
    let l : length c.args.recording.now < 2 ^ 64 = search rules in
    omega (arith, past)

pub returns : goal.returns
returns c = next_from c.args.recording.now c.in-Some.rest.now c.args.at (search rules) _ (sym c.in_ok-first.was ∙ c.first.ensures)
