-- Every event leaves a state that fits, and so does the start.
use Prim.Native.Nat.{ℕ, zero, suc, ◌*◌, ◌≤◌, ◌<◌, ◌^◌}
use mathlib.Core.Bool.{Bool}
use mathlib.Core.List.{List}
use mathlib.Core.Path.{◌≡◌, refl, sym, ap, subst}
use native.Mathlib.Numerals.{unary_clauses}
use native.Mathlib.Omega.{arith}
use Rattle.basis.specs.Pick.{pick_all}
use Rattle.commands.specs.Control.{bit, field, fields_of, control_of}
use Rattle.commands.specs.Table.{entry_of}
use Rattle.commands.specs.declared.control.Control.{Control}
use Rattle.commands.specs.declared.control.WrongLength.{WrongLength}
use Rattle.std.specs.Prelude.{Result}
use Rattle.commands.specs.declared.table.Class.{Class}
use Rattle.commands.specs.declared.table.Class.TheVariants as class
use Rattle.mailbox_state.specs.declared.state.State.{State}
use Rattle.mailbox_state.specs.declared.status.CommandStatus.{CommandStatus}
use Rattle.mailbox_state.specs.declared.status.CommandStatus.TheVariants.{Nothing, ResetDone, Busy, Completed, Failed, NotSupported, Cancelled, Acknowledged}
use Rattle.mailbox_state.specs.declared.step.Step.{Step}
use Rattle.mailbox_rules.specs.Events.{Event, writes, succeeds, fails, changes, parsed_step_of, event_step_of}
use Rattle.mailbox_rules.specs.Mailbox.{mailbox, fresh_mailbox}
use Rattle.mailbox_rules.specs.MessageIn.{zero_message_in}
use Rattle.mailbox_rules.specs.Report.{success_step_of, failure_step_of}
use Rattle.mailbox_rules.specs.WellFormed.{LengthFits}
use Rattle.mailbox_rules.specs.Write.{starts_command, taken_step_of}
use Rattle.mailbox_rules.proofs.Command.{judged_all}
use Rattle.mailbox_rules.proofs.Noted.{change_alters}
use Rattle.mailbox_rules.proofs.Sizes.{event_sizes, fresh_sizes}
use Rattle.mailbox_c.specs.Notifying.{mask_of}
use Rattle.mailbox_c.specs.Status.{data_length_of, running_of}
use Rattle.mailbox_c.specs.Fits.{Fits}

-- So many bits are a number of so many bits.
field_small : (b : List ℕ) (size offset : ℕ) → field b offset size < 2 ^ size
field_small b zero offset = omega arith
field_small b (suc size) offset =
    let rest = field_small b size (suc offset) in
    let one : bit b offset ≤ 1 = omega arith in
    let twice : 2 ^ suc size ≡ 2 ^ size * 2 = simp unary_clauses in
    rw twice (omega arith)

mask_most : (n : ℕ) → n < 65536 → n ≤ 65535
mask_most n h = omega arith

type_most : (n : ℕ) → n < 2 → n ≤ 255
type_most n h = omega arith

-- A mask of 16 bits, and a reset type of 8.
pub record Wide (state : State) : Type 0 where
  pub mask : mask_of state.notifications ≤ 65535
  pub type : (running_of state.status).reset_type ≤ 255

module _ (state : State) (h : Wide state) where
  abbrev WideStep : Step → Type 0
  WideStep step = Wide step.state

  module _ (control : Control) (mask : control.mask ≤ 65535) (type : control.reset_type ≤ 255) where
    taken_wide : (class : Class) (needs : Bool) → WideStep (taken_step_of state class needs control)
    unfolding taken_step_of starts_command
    taken_wide class.Reset needs = record { mask = omega arith; type = omega arith }
    taken_wide class.Cancel needs = record { mask = h.mask; type = omega arith }
    taken_wide class.Acknowledge needs = record { mask = h.mask; type = omega arith }
    taken_wide class.Enable needs = record { mask = mask; type = omega arith }
    taken_wide class.Run needs =
        pick_all WideStep _ _ _ (λ absent. record { mask = h.mask; type = omega arith })
        (λ there. record { mask = h.mask; type = pick_all (λ (n : ℕ). n ≤ 255) _ _ _ (λ reset. type) (λ other. omega arith) })
    taken_wide class.NotSupported needs = record { mask = h.mask; type = omega arith }

  write_wide : (b : List ℕ) → WideStep (parsed_step_of state (control_of b))
  unfolding control_of parsed_step_of fields_of
  write_wide b =
      pick_all (λ (parsed : Result Control WrongLength). WideStep (parsed_step_of state parsed)) _ _ _ (λ wrong. h)
      (λ right.
      judged_all WideStep state (entry_of (fields_of b).code) (fields_of b) _ (λ refusal e. h) (λ taken. taken_wide (fields_of b) (mask_most _ (field_small b 16 16)) (type_most _ (field_small b 1 23)) (entry_of (fields_of b).code).class _))

  event_wide : (e : Event) → WideStep (event_step_of state e)
  unfolding success_step_of failure_step_of
  event_wide (writes control) = write_wide control
  event_wide (succeeds bytes) =
      pick_all WideStep _ _ _ (λ none. h) (λ runs. pick_all WideStep _ _ _ (λ long. h) (λ few. record { mask = h.mask; type = omega arith }))
  event_wide fails = pick_all WideStep _ _ _ (λ none. h) (λ runs. record { mask = h.mask; type = omega arith })
  event_wide (changes c reason) = subst Wide (sym (change_alters state c reason).others) (record { mask = h.mask; type = h.type })

short_fits : (t : CommandStatus) → data_length_of t ≤ 255 → LengthFits t
short_fits t h n e = let same = ap data_length_of e in omega (arith, same)

fits_short : (t : CommandStatus) → LengthFits t → data_length_of t ≤ 255
fits_short Nothing h = omega arith
fits_short ResetDone h = omega arith
fits_short (Busy command) h = omega arith
fits_short (Completed n) h = h n refl
fits_short Failed h = omega arith
fits_short NotSupported h = omega arith
fits_short Cancelled h = omega arith
fits_short Acknowledged h = omega arith

pub event_fits : (state : State) (e : Event) → Fits state → Fits (event_step_of state e).state
unfolding fresh_mailbox
event_fits state e f =
    let sizes = event_sizes (mailbox state zero_message_in) e
    (record { eight = f.eight; message_in = (fresh_sizes 0).message_in; data_length = short_fits state.status f.data_length }) in
    let wide = event_wide state (record { mask = f.mask; type = f.type }) e in
    record {
      mask = wide.mask;
      eight = sizes.eight;
      data_length = fits_short (event_step_of state e).state.status sizes.data_length;
      type = wide.type;
    }

pub fresh_fits : (count : ℕ) → Fits (fresh_mailbox count).state
unfolding fresh_mailbox
fresh_fits count = record { mask = omega arith; eight = refl; data_length = omega arith; type = omega arith }
