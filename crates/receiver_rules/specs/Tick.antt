-- Time: in Transfer and Await, silence grows. At the limit, while resends are left, a DATA response is sent; with none left: Idle
-- (01, The receiver's phases).
use Rattle.std.specs.Prelude.{ℕ}
use Rattle.silence.specs.Expiry.{grown_of}
use Rattle.silence.specs.declared.Settings.{Settings}
use Rattle.silence.specs.declared.Grown.{Grown}
use Rattle.silence.specs.declared.Event.{Event}
use Rattle.silence.specs.declared.Event.TheVariants.{Quiet, Resend, NoneLeft}
use Rattle.receiver_state.specs.declared.phase.Phase.{Phase}
use Rattle.receiver_state.specs.declared.phase.Phase.TheVariants.{Idle, Transfer, Await, Good}
use Rattle.receiver_state.specs.declared.answer.Answer.{Answer}
use Rattle.receiver_state.specs.declared.answer.Answer.TheVariants.{Asking, Closed, Passed}
use Rattle.receiver_state.specs.declared.step.Tick.{Tick}

abbrev pub tick : Phase → ℕ → ℕ → Answer → Tick
tick phase silence resends answer = record { phase = phase; silence = silence; resends = resends; answer = answer }

-- Below the limit nothing is sent; at it, while resends are left, the DATA response `again`; with none left: Idle.
unfoldable pub receiver_on_event : Phase → Answer → Grown → Event → Tick
receiver_on_event phase again grown Quiet = tick phase grown.silence grown.resends Passed
receiver_on_event phase again grown Resend = tick phase grown.silence grown.resends again
receiver_on_event phase again grown NoneLeft = tick Idle grown.silence grown.resends Passed

unfoldable pub receiver_silence_of : Phase → Answer → Grown → Tick
receiver_silence_of phase again grown = receiver_on_event phase again grown grown.event

-- Transfer asks for the next number with wait 0, Await repeats the closing answer; in Idle and Good nothing changes. `made` is how many
-- resends were made.
unfoldable pub receiver_tick_of : Phase → ℕ → ℕ → ℕ → Settings → Tick
receiver_tick_of Idle silence elapsed made settings = tick Idle silence made Passed
receiver_tick_of (Transfer p) silence elapsed made settings =
    receiver_silence_of (Transfer p) (Asking 0 p.accepted.blocks) (grown_of silence elapsed made settings)
receiver_tick_of (Await a) silence elapsed made settings = receiver_silence_of (Await a) (Closed a.blocks) (grown_of silence elapsed made settings)
receiver_tick_of (Good a) silence elapsed made settings = tick (Good a) silence made Passed
