-- A session of the receiver: how it starts, and what a call returns.
use Rattle.std.specs.Prelude.{ℕ, ltb, Ok, Err}
use Rattle.basis.specs.Pick.{pick}
use Rattle.lent.specs.Outcome.{returns}
use Rattle.silence.specs.Settings.{Checked, out_of_limits, settings_of}
use Rattle.wire.specs.Codes.{image_size_most}
use Rattle.wire.specs.declared.response.Identity.{Identity}
use Rattle.receiver_state.specs.declared.answer.Answer.{Answer}
use Rattle.receiver_state.specs.declared.phase.Phase.{Phase}
use Rattle.receiver_state.specs.declared.phase.Phase.TheVariants.{Idle}
use Rattle.receiver_state.specs.declared.session.Receiver.{Receiver}
use Rattle.receiver_state.specs.Session.{Outcome, Started}

-- Settings outside their limits: 29, no session. A fresh session is in Idle.
unfoldable pub receiver_fresh_of : Checked → Identity → ℕ → Started
receiver_fresh_of (Err refusal) identity capacity = Err refusal
receiver_fresh_of (Ok settings) identity capacity =
    Ok (record { settings = settings; identity = identity; capacity = capacity; phase = Idle; silence = 0; resends = 0 })

-- Capacity is the lent image memory's length; above 1,048,575: 29; 0 is allowed (01, Sizes and numbers).
unfoldable pub receiver_start_of : ℕ → ℕ → Identity → ℕ → Started
receiver_start_of limit resends identity capacity =
    pick (ltb image_size_most capacity) (Err out_of_limits) (receiver_fresh_of (settings_of limit resends) identity capacity)

-- The session after a call, its answer, and how many bytes it wrote.
abbrev pub receiver_returns : Receiver → Answer → ℕ → Outcome
receiver_returns r answer written = returns r answer written

-- The session with another phase, silence and count of resends.
abbrev pub receiver_moved : Receiver → Phase → ℕ → ℕ → Receiver
receiver_moved r phase silence resends = record {
  settings = r.settings;
  identity = r.identity;
  capacity = r.capacity;
  phase = phase;
  silence = silence;
  resends = resends;
}
