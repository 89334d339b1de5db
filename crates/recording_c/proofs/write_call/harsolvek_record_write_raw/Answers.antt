use Rattle.std.proofs.Common.{rules, sym, ◌∙◌}
use Rattle.recording_c.proofs.Wrote.{counted, wrote_known, wrote_no_kind}
use Rattle.recording_c.proofs.write_call.harsolvek_record_write_raw.Goals as goal

pub returns-in_default : goal.returns-in_default
returns-in_default c =
    let a = c.args in
    sym (wrote_no_kind a.kind a.reason a.connector a.length a.control.now a.out.now (search rules) (sym c.in_default.ensures))

pub returns : goal.returns
returns c =
    rw (c.from.ensures, c.number.ensures, c.unwrap_or.ensures ∙ counted c.write-done.result)
    (wrote_known _ _ _ _ _ _ (search rules) _ _ _ (sym c.in-Some.ensures) c.write-done.ensures)
