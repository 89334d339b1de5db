-- A fresh mailbox has eight places for those that wait, 256 bytes of MESSAGE_IN and a data length of one byte, and every event keeps them
-- (01, The mailbox).
use Prim.Native.Nat.{ℕ, ◌≤◌}
use mathlib.Core.Bool.{Bool, true, false}
use mathlib.Core.List.{List}
use mathlib.Core.Path.{◌≡◌, refl, sym, ◌∙◌, ap, subst}
use native.Mathlib.Omega.{arith}
use borrow.Author.Tests.{ltb-false}
use lib.ListN.{length, length-set, length-replicate}
use Rattle.std.specs.Prelude.{Result, Ok, Err}
use Rattle.basis.specs.Pick.{pick_all}
use Rattle.commands.specs.Control.{control_of}
use Rattle.commands.specs.Table.{entry_of}
use Rattle.commands.specs.declared.control.Control.{Control}
use Rattle.commands.specs.declared.control.WrongLength.{WrongLength}
use Rattle.commands.specs.declared.table.Class.{Class}
use Rattle.commands.specs.declared.table.Class.TheVariants as class
use Rattle.lent.proofs.Laws.{put_length}
use Rattle.mailbox_state.specs.declared.mailbox.Mailbox.{Mailbox}
use Rattle.mailbox_state.specs.declared.state.Changes.{Changes}
use Rattle.mailbox_state.specs.declared.state.State.{State}
use Rattle.mailbox_state.specs.declared.status.CommandStatus.{CommandStatus}
use Rattle.mailbox_state.specs.declared.status.CommandStatus.TheVariants.{Nothing, ResetDone, Busy, Completed, Failed, NotSupported, Cancelled, Acknowledged}
use Rattle.mailbox_state.specs.declared.step.MessageEffect.{MessageEffect}
use Rattle.mailbox_state.specs.declared.step.MessageEffect.TheVariants.{Kept, ZeroedAtReset, ZeroedAtCancel, ZeroedAtCompletion, Filled}
use Rattle.mailbox_state.specs.declared.step.Step.{Step}
use Rattle.mailbox_rules.specs.Changes.{lowest_of, marked_of, noted_of, next_shown_of}
use Rattle.mailbox_rules.specs.Events.{Event, writes, succeeds, fails, changes, parsed_step_of, event_step_of, port_bytes, event_of}
use Rattle.mailbox_rules.specs.Mailbox.{fresh_mailbox}
use Rattle.mailbox_rules.specs.MessageIn.{zero_message_in, filled_of, settled_of}
use Rattle.mailbox_rules.specs.Report.{data_most, success_step_of, failure_step_of}
use Rattle.mailbox_rules.specs.WellFormed.{LengthFits, Sizes}
use Rattle.mailbox_rules.specs.Write.{starts_command, taken_step_of}
use Rattle.mailbox_rules.proofs.Command.{judged_all}
use Rattle.mailbox_rules.proofs.Noted.{change_alters}
use Rattle.mailbox_rules.proofs.Steps.{event_changes}

-- There are always eight places for those that wait, so that one who is marked waits.
abbrev Eight : Changes → Type 0
Eight now = length now.waiting ≡ 8

module _ (now : Changes) (eight : Eight now) where
  marked_eight : (c : ℕ) (b : Bool) → length (marked_of now.waiting c b) ≡ 8
  unfolding marked_of
  marked_eight c b =
      pick_all (λ (w : List Bool). length w ≡ 8) _ _ _ (λ y. eight)
      (λ n. pick_all (λ (w : List Bool). length w ≡ 8) _ _ _ (λ y. eight) (λ m. length-set now.waiting _ b ∙ eight))

  noted_eight : (c : ℕ) → Eight (noted_of now c)
  unfolding noted_of
  noted_eight c = pick_all Eight _ _ _ (λ y. eight) (λ n. marked_eight c true)

  next_eight : Eight (next_shown_of now)
  unfolding next_shown_of
  next_eight = marked_eight (lowest_of now.waiting) false

-- MESSAGE_IN is always 256 bytes.
zeros_256 : length zero_message_in ≡ 256
unfolding zero_message_in
zeros_256 = length-replicate {A = ℕ} 256 0

settled_256 : (message : List ℕ) (effect : MessageEffect) (bytes : List ℕ) → length message ≡ 256 → length (settled_of message effect bytes) ≡ 256
unfolding settled_of filled_of
settled_256 message Kept bytes e = e
settled_256 message ZeroedAtReset bytes e = zeros_256
settled_256 message ZeroedAtCancel bytes e = zeros_256
settled_256 message ZeroedAtCompletion bytes e = zeros_256
settled_256 message Filled bytes e = put_length zero_message_in 0 bytes ∙ zeros_256

-- A data length is that of a success, at most 255, or 0.
abbrev length_in : CommandStatus → ℕ
length_in Nothing = 0
length_in ResetDone = 0
length_in (Busy command) = 0
length_in (Completed n) = n
length_in Failed = 0
length_in NotSupported = 0
length_in Cancelled = 0
length_in Acknowledged = 0

short : (status : CommandStatus) → length_in status ≤ 255 → LengthFits status
short status h n e = let same = ap length_in e in omega (arith, same, h)

module _ (state : State) where
  abbrev Fits : Step → Type 0
  Fits step = LengthFits step.state.status

  taken_short : (class : Class) (needs : Bool) (control : Control) → Fits (taken_step_of state class needs control)
  unfolding taken_step_of starts_command
  taken_short class.Reset needs control = short ResetDone (omega arith)
  taken_short class.Cancel needs control = short Cancelled (omega arith)
  taken_short class.Acknowledge needs control = short Acknowledged (omega arith)
  taken_short class.Enable needs control = short (Completed 0) (omega arith)
  taken_short class.Run needs control = pick_all Fits _ _ _ (λ absent. short Failed (omega arith)) (λ there. short (Busy _) (omega arith))
  taken_short class.NotSupported needs control = short NotSupported (omega arith)

  module _ (h : LengthFits state.status) where
    parsed_short : (parsed : Result Control WrongLength) → Fits (parsed_step_of state parsed)
    unfolding parsed_step_of
    parsed_short (Ok control) =
        judged_all Fits state (entry_of control.code) control _ (λ refusal e. h) (λ e. taken_short (entry_of control.code).class _ control)
    parsed_short (Err wrong) = h

    success_short : (n : ℕ) → Fits (success_step_of state n)
    unfolding success_step_of
    success_short n =
        pick_all Fits _ _ _ (λ none. h)
        (λ runs. pick_all Fits _ _ _ (λ long. h) (λ few. short (Completed n) (ltb-false data_most n few)))

    failure_short : Fits (failure_step_of state)
    unfolding failure_step_of
    failure_short = pick_all Fits _ _ _ (λ none. h) (λ runs. short Failed (omega arith))

    event_short : (e : Event) → Fits (event_step_of state e)
    event_short (writes control) = parsed_short (control_of control)
    event_short (succeeds bytes) = success_short (length bytes)
    event_short fails = failure_short
    event_short (changes c reason) = subst (λ (s : State). LengthFits s.status) (sym (change_alters state c reason).others) h

pub event_sizes : (m : Mailbox) (e : Event) → Sizes m → Sizes (event_of m e).mailbox
event_sizes m e s =
    let now = m.state.changes in
    record {
      eight = event_changes Eight refl m.state (next_eight now) (λ c low high eight. noted_eight now eight c) s.eight e;
      message_in = settled_256 m.message (event_step_of m.state e).effect (port_bytes e) s.message_in;
      data_length = event_short m.state s.data_length e;
    }

pub fresh_sizes : (count : ℕ) → Sizes (fresh_mailbox count)
unfolding fresh_mailbox
fresh_sizes count = record { eight = refl; message_in = zeros_256; data_length = short Nothing (omega arith) }
