use Rattle.std.proofs.Common.{ap, sym, ◌∙◌}
use Rattle.basis.specs.Left.{answers, leaves}
use Rattle.basis.specs.Pick.{pick}
use Rattle.indoor_c.specs.Calls.{harsolvek_indoor_time, indoor_left}
use Rattle.indoor_c.proofs.Counting.{counts, grown_fits}
use Rattle.indoor_c.proofs.Wide.{time_read}
use Rattle.indoor_c.proofs.time_call.harsolvek_indoor_time_raw.Goals as goal

pub returns-then-not-is_session : goal.returns-then-not-is_session
unfolding harsolvek_indoor_time pick
returns-then-not-is_session c = rw (← c.is_session.ensures, c.if-not-is_session.true)

pub overflow_add-words : goal.overflow_add-words
overflow_add-words c =
    let a = c.args in
    let ok = sym c.is_session.ensures ∙ c.if-not-is_session.false in
    let yes = sym c.only_counts.ensures ∙ c.if-only_counts.true in
    grown_fits a.words.now ok a.file.now a.elapsed a.out.now yes

pub returns-then-only_counts : goal.returns-then-only_counts
returns-then-only_counts c =
    let a = c.args in
    let ok = sym c.is_session.ensures ∙ c.if-not-is_session.false in
    let yes = sym c.only_counts.ensures ∙ c.if-only_counts.true in
    sym (counts a.words.now ok a.file.now a.elapsed a.out.now yes)

pub returns : goal.returns
unfolding harsolvek_indoor_time pick
returns c =
    let w = c.args.words.now in
    let ok = sym c.is_session.ensures ∙ c.if-not-is_session.false in
    rw (answers c.leave.ensures, leaves c.leave.ensures, ← c.is_session.ensures, c.if-not-is_session.false)
    (ap (indoor_left w) (c.time-outcome.ensures ∙ time_read w ok _ c.session_at-session.ensures _ _ _ _ c.to_half.ensures))
