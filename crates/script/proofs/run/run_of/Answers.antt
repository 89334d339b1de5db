use Rattle.std.proofs.Common.{rules, ◌∙◌, ap, drop}
use Rattle.basis.specs.Lists.{tail_all}
use Rattle.basis.specs.Pick.{tests}
use Rattle.script.specs.Runs.{byte_run_of, times_of, behind_byte}
use Rattle.script.proofs.run.run_of.Goals as goal

pub returns : goal.returns
unfolding byte_run_of
returns c =
    let w = c.args.w.now in
    let byte = c.in_ok-byte_of.field-0 in
    let e = c.times_of.ensures ∙ ap (times_of byte) (tail_all 2 w) ∙ ap (behind_byte (drop 2 w)) c.in_ok-byte_of.ensures in
    search (rules, tests)
