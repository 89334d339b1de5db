use Rattle.std.proofs.Common.{◌∙◌, sym}
use Rattle.basis.specs.Pick.{pick}
use Rattle.receiver_c.proofs.Counting.{sum_fits, counts_when, counts}
use Rattle.receiver_c.proofs.Sessions.{session_valid}
use Rattle.receiver_c.specs.Calls.{harsolvek_receiver_time}
use Rattle.receiver_c.proofs.time_call.harsolvek_receiver_time_raw.Goals as goal

pub overflow_cast-words : goal.overflow_cast-words
overflow_cast-words c =
    let is = sym c.is_session.ensures ∙ c.if-not-is_session.false in
    let counted = sym c.only_counts.ensures ∙ c.if-only_counts.true in
    sum_fits _ _ (counts_when _ _ _ _ counted).below (session_valid _ is).within.high

pub returns-then-only_counts : goal.returns-then-only_counts
unfolding harsolvek_receiver_time pick
returns-then-only_counts c =
    let is = sym c.is_session.ensures ∙ c.if-not-is_session.false in
    let counted = sym c.only_counts.ensures ∙ c.if-only_counts.true in
    rw (← c.is_session.ensures, c.if-not-is_session.false) (sym (counts _ is _ _ _ c.grown-silence.ensures (counts_when _ _ _ _ counted)))
