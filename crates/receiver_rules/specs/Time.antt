-- What one time call does: the outcome and the output buffer, for every session, elapsed time and buffer.
use Rattle.std.specs.Prelude.{ℕ, List, ltb, length}
use Rattle.basis.specs.Pick.{pick}
use Rattle.basis.specs.Left.{Left, left}
use Rattle.lent.specs.Written.{written_into}
use Rattle.wire.specs.Codes.{longest}
use Rattle.receiver_rules.specs.Tick.{receiver_tick_of}
use Rattle.receiver_state.specs.declared.answer.Answer.TheVariants.{BufferShort}
use Rattle.receiver_state.specs.declared.step.Tick.{Tick}
use Rattle.receiver_rules.specs.Session.{receiver_returns, receiver_moved}
use Rattle.receiver_rules.specs.Respond.{receiver_bytes_of}
use Rattle.receiver_state.specs.declared.session.Receiver.{Receiver}
use Rattle.receiver_state.specs.Session.{Outcome}

-- What the call returns and leaves once its tick is decided.
abbrev pub receiver_ticked_of : Receiver → Tick → List ℕ → Left Outcome
receiver_ticked_of r tick out =
    left (receiver_returns (receiver_moved r tick.phase tick.silence tick.resends) tick.answer (length (receiver_bytes_of r tick.answer)))
    (written_into (receiver_bytes_of r tick.answer) out)

-- What time does, by the session's phase
unfoldable pub receiver_elapsed_of : Receiver → ℕ → List ℕ → Left Outcome
receiver_elapsed_of r elapsed out = receiver_ticked_of r (receiver_tick_of r.phase r.silence elapsed r.resends r.settings) out

-- 27, or what time does
unfoldable pub receiver_time_of : Receiver → ℕ → List ℕ → Left Outcome
receiver_time_of r elapsed out = pick (ltb (length out) longest) (left (receiver_returns r BufferShort 0) out) (receiver_elapsed_of r elapsed out)
