-- The line that a record prints, and what kind 3 leaves in MESSAGE_IN (01, Replay program).
use Prim.Native.Nat.{ℕ, ◌+◌, ◌-◌, ◌<◌, ◌≤◌}
use mathlib.Core.Bool.{true}
use mathlib.Core.Path.{◌≡◌, refl, ◌∙◌, ap}
use native.Mathlib.Omega.{arith}
use lib.ListN.{length, get_or, replicate, length-replicate, replicate-append-replicate}
use Rattle.std.specs.Prelude.{Ok, Err}
use Rattle.printing.specs.Line.{line_longest, text_of}
use Rattle.printing.specs.Digits.{figure, decimal_of}
use Rattle.printing.proofs.Digits.{Figures, decimal_figures}
use Rattle.printing.proofs.Texts.{line_sized, Says, line_says, no_zero_in_front}
use Rattle.recording.specs.declared.record.Record.{Record}
use Rattle.recording.specs.declared.record.Record.TheVariants.{Success}
use Rattle.mailbox_state.specs.Answer.{Answer, mailbox_number_of}
use Rattle.mailbox_state.specs.declared.mailbox.Mailbox.{Mailbox}
use Rattle.mailbox_state.specs.Status.{runs_of}
use Rattle.mailbox_state.specs.declared.answer.Refusal.TheVariants.{ControlLength, NotificationsOff, CommandRuns, AcknowledgementDue, NothingToClear, NothingToCancel, NothingRuns, DataTooLong, NoSuchConnector}
use Rattle.mailbox_rules.specs.History.{Reached}
use Rattle.mailbox_rules.specs.Mailbox.{mailbox_cci_of, message_in_of}
use Rattle.mailbox_rules.proofs.Message.{success_fills}
use Rattle.mailbox_rules.proofs.Reached.{reached_next, reached_width}
use Rattle.playing.specs.Turn.{event_in, outcome_of, printed, turn_of}

-- 11 to 13 bytes.
pub printed_sized : (m : Mailbox) (r : Record) → (11 ≤ length (printed (outcome_of m r))) × (length (printed (outcome_of m r)) ≤ line_longest)
unfolding printed
printed_sized m r = line_sized (mailbox_cci_of (outcome_of m r).mailbox) (mailbox_number_of (outcome_of m r).answer)

-- The line that a turn returns is that of its own mailbox and answer.
pub turn_line : (m : Mailbox) (r : Record) → (turn_of m r).line ≡ text_of (mailbox_cci_of (turn_of m r).mailbox) (mailbox_number_of (turn_of m r).answer)
unfolding turn_of printed
turn_line m r = refl

number_small : (a : Answer) → mailbox_number_of a < 256
number_small (Ok taken) = omega arith
number_small (Err ControlLength) = omega arith
number_small (Err NotificationsOff) = omega arith
number_small (Err CommandRuns) = omega arith
number_small (Err AcknowledgementDue) = omega arith
number_small (Err NothingToClear) = omega arith
number_small (Err NothingToCancel) = omega arith
number_small (Err NothingRuns) = omega arith
number_small (Err DataTooLong) = omega arith
number_small (Err NoSuchConnector) = omega arith

-- So what is read in it, after any history, is CCI and the answer's number.
pub turn_says : {count : ℕ} {m : Mailbox} → Reached count m → (r : Record)
    → Says (mailbox_cci_of (turn_of m r).mailbox) (mailbox_number_of (turn_of m r).answer) (turn_of m r).line
unfolding turn_of outcome_of
turn_says {count} {m} reached r =
    rw (turn_line m r) (line_says _ _ (reached_width (reached_next count m (event_in r) reached)) (number_small (turn_of m r).answer))

-- The answer's number has figures alone, and no zero in front.
pub turn_figures : (m : Mailbox) (r : Record) → Figures (decimal_of (mailbox_number_of (turn_of m r).answer))
turn_figures m r = let small = number_small (turn_of m r).answer in decimal_figures (mailbox_number_of (turn_of m r).answer) (omega (arith, small))

pub turn_no_zero : (m : Mailbox) (r : Record) → 1 < length (decimal_of (mailbox_number_of (turn_of m r).answer))
    → figure 0 < get_or (decimal_of (mailbox_number_of (turn_of m r).answer)) 0 0
turn_no_zero m r =
    let small = number_small (turn_of m r).answer in
    no_zero_in_front (mailbox_number_of (turn_of m r).answer) (omega (arith, small))

-- That many zero bytes: all 256 are zero.
pub success_zeros : (m : Mailbox) (n : ℕ) → runs_of m.state.status ≡ true → n ≤ 255 → message_in_of (outcome_of m (Success n)).mailbox ≡ replicate 256 0
unfolding outcome_of event_in
success_zeros m n r h =
    let l : length (replicate {A = ℕ} n 0) ≡ n = length-replicate n 0 in
    let all : n + (256 - n) ≡ 256 = omega arith in
    success_fills m (replicate n 0) r (rw l h) ∙ rw l (replicate-append-replicate n (256 - n) 0 ∙ ap (λ (k : ℕ). replicate k 0) all)
