-- The order of the refusals said back, class by class, in every situation (01, Numbers we answer: PPM_RESET, 2, 3, 4, 5, 6).
use mathlib.Core.Bool.{Bool, true, false}
use mathlib.Core.Path.{◌≡◌, refl}
use Rattle.std.specs.Prelude.{Ok, Err}
use Rattle.std.proofs.Math.Bool.{and-false}
use Rattle.basis.specs.Pick.{pick}
use Rattle.commands.specs.declared.table.Class.TheVariants.{Reset, Cancel, Acknowledge, Enable, Run, NotSupported}
use Rattle.mailbox_state.specs.declared.answer.Refusal.TheVariants.{NotificationsOff, CommandRuns, AcknowledgementDue, NothingToClear, NothingToCancel}
use Rattle.mailbox_state.specs.declared.situation.Situation.{Situation}
use Rattle.mailbox_rules.specs.Refusal.{refusal_of}

-- PPM_RESET: accepted always.
pub reset_taken : (s : Situation) → refusal_of Reset s ≡ Ok tt
unfolding refusal_of pick
reset_taken s = refl

-- 2: notifications off, not PPM_RESET or 0x05.
pub record Off (s : Situation) : Type 0 where
  pub cancel : refusal_of Cancel s ≡ Err NotificationsOff
  pub acknowledge : refusal_of Acknowledge s ≡ Err NotificationsOff
  pub run : refusal_of Run s ≡ Err NotificationsOff
  pub not_supported : refusal_of NotSupported s ≡ Err NotificationsOff

pub off_2 : (s : Situation) → s.off ≡ true → Off s
unfolding refusal_of pick
off_2 s off = record { cancel = rw off; acknowledge = rw off; run = rw off; not_supported = rw off }

-- 3: running, not CANCEL. 2 comes before it, but not for 0x05.
pub record Running (s : Situation) : Type 0 where
  pub enable : refusal_of Enable s ≡ Err CommandRuns
  pub acknowledge : s.off ≡ false → refusal_of Acknowledge s ≡ Err CommandRuns
  pub run : s.off ≡ false → refusal_of Run s ≡ Err CommandRuns
  pub not_supported : s.off ≡ false → refusal_of NotSupported s ≡ Err CommandRuns
  pub cancel : s.off ≡ false → s.due ≡ false → refusal_of Cancel s ≡ Ok tt

pub running_3 : (s : Situation) → s.runs ≡ true → Running s
unfolding refusal_of pick
running_3 s runs =
    record {
      enable = rw (and-false s.off, runs);
      acknowledge = λ on. rw (on, runs);
      run = λ on. rw (on, runs);
      not_supported = λ on. rw (on, runs);
      cancel = λ on not. rw (on, runs, not);
    }

-- 4: acknowledgement due, not ACK with bit 17. 2 comes before it, but not for 0x05.
pub record Due (s : Situation) : Type 0 where
  pub enable : refusal_of Enable s ≡ Err AcknowledgementDue
  pub cancel : s.off ≡ false → refusal_of Cancel s ≡ Err AcknowledgementDue
  pub run : s.off ≡ false → refusal_of Run s ≡ Err AcknowledgementDue
  pub not_supported : s.off ≡ false → refusal_of NotSupported s ≡ Err AcknowledgementDue
  pub acknowledge : s.off ≡ false → s.completed ≡ false → refusal_of Acknowledge s ≡ Err AcknowledgementDue

pub due_4 : (s : Situation) → s.runs ≡ false → s.due ≡ true → Due s
unfolding refusal_of pick
due_4 s still due =
    record {
      enable = rw (and-false s.off, still, due);
      cancel = λ on. rw (on, still, due);
      run = λ on. rw (on, still, due);
      not_supported = λ on. rw (on, still, due);
      acknowledge = λ on unset. rw (on, still, due, unset);
    }

-- 5: ACK with neither bit, or a bit with nothing to clear; else it is taken.
pub record Acknowledged (s : Situation) : Type 0 where
  pub neither : s.due ≡ false → s.change ≡ false → s.completed ≡ false → refusal_of Acknowledge s ≡ Err NothingToClear
  pub nothing_due : s.due ≡ false → s.completed ≡ true → refusal_of Acknowledge s ≡ Err NothingToClear
  pub none_shown_lem : s.due ≡ false → s.shown ≡ false → s.change ≡ true → s.completed ≡ false → refusal_of Acknowledge s ≡ Err NothingToClear
  pub none_shown_due : s.due ≡ true → s.shown ≡ false → s.change ≡ true → s.completed ≡ true → refusal_of Acknowledge s ≡ Err NothingToClear
  pub change : s.due ≡ false → s.shown ≡ true → s.change ≡ true → s.completed ≡ false → refusal_of Acknowledge s ≡ Ok tt
  pub completed : s.due ≡ true → s.change ≡ false → s.completed ≡ true → refusal_of Acknowledge s ≡ Ok tt
  pub both : s.due ≡ true → s.shown ≡ true → s.change ≡ true → s.completed ≡ true → refusal_of Acknowledge s ≡ Ok tt

-- Bit 17 with nothing due clears nothing, whatever bit 16 does.
nothing_due_5 : (s : Situation) → s.off ≡ false → s.runs ≡ false → s.due ≡ false → s.completed ≡ true → (change shown : Bool) → s.change ≡ change → s.shown ≡ shown
    → refusal_of Acknowledge s ≡ Err NothingToClear
unfolding refusal_of pick
nothing_due_5 s on still d c true true p q = rw (on, still, d, c, p, q)
nothing_due_5 s on still d c true false p q = rw (on, still, d, c, p, q)
nothing_due_5 s on still d c false shown p q = rw (on, still, d, c, p)

pub acknowledged : (s : Situation) → s.off ≡ false → s.runs ≡ false → Acknowledged s
unfolding refusal_of pick
acknowledged s on still =
    record {
      neither = λ d b c. rw (on, still, d, b, c);
      nothing_due = λ d c. nothing_due_5 s on still d c s.change s.shown refl refl;
      none_shown_lem = λ d h b c. rw (on, still, d, h, b);
      none_shown_due = λ d h b c. rw (on, still, d, h, b, c);
      change = λ d h b c. rw (on, still, d, h, b, c);
      completed = λ d b c. rw (on, still, d, b, c);
      both = λ d h b c. rw (on, still, d, h, b, c);
    }

-- 6: CANCEL, none running. Every other command is taken.
pub record Free (s : Situation) : Type 0 where
  pub enable : refusal_of Enable s ≡ Ok tt
  pub cancel : s.off ≡ false → refusal_of Cancel s ≡ Err NothingToCancel
  pub run : s.off ≡ false → refusal_of Run s ≡ Ok tt
  pub not_supported : s.off ≡ false → refusal_of NotSupported s ≡ Ok tt

pub free : (s : Situation) → s.runs ≡ false → s.due ≡ false → Free s
unfolding refusal_of pick
free s still not =
    record {
      enable = rw (and-false s.off, still, not);
      cancel = λ on. rw (on, still, not);
      run = λ on. rw (on, still, not);
      not_supported = λ on. rw (on, still, not);
    }
