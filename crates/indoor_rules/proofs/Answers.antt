-- The order of the refusals in the paper's own numbers: 28, 27, 20, and then the step (01, Numbers we answer).
use Prim.Native.Nat.{ℕ, ◌<◌, ◌≤◌}
use mathlib.Core.Path.{◌≡◌}
use mathlib.Core.List.{List}
use borrow.Author.Tests.{lt-ltb, le-ltb}
use lib.ListN.{length}
use Rattle.basis.specs.Pick.{pick, eq_differ, ne_differ}
use Rattle.basis.specs.Left.{Left, left}
use Rattle.lent.specs.Written.{written_into}
use Rattle.wire.specs.Response as message
use Rattle.wire.specs.declared.response.Response.{Response}
use Rattle.indoor_rules.specs.Decide.{indoor_decide_of}
use Rattle.indoor_rules.specs.Tick.{indoor_tick_of}
use Rattle.indoor_state.specs.declared.answer.Answer.TheVariants.{Malformed, BufferShort, FileLength}
use Rattle.indoor_rules.specs.Session.{indoor_returns}
use Rattle.indoor_rules.specs.Send.{indoor_bytes_of}
use Rattle.indoor_rules.specs.Response.{response_read_of, indoor_response_of}
use Rattle.indoor_rules.specs.Time.{indoor_time_of}
use Rattle.indoor_state.specs.declared.step.Step.{Step}
use Rattle.indoor_state.specs.declared.session.Indoor.{Indoor}
use Rattle.indoor_state.specs.Session.{IndoorOutcome}
use Rattle.std.specs.Prelude.{Ok}
use Rattle.wire.specs.Header.{malformed}

-- What a call returns and leaves of a step, each field under its own name.
abbrev stepped : Indoor → List ℕ → List ℕ → Step → Left IndoorOutcome
stepped s file out step =
    left (record {
      session = record { plan = s.plan; state = step.state };
      answer = step.answer;
      written = length (indoor_bytes_of s.plan file step.answer);
    }) (written_into (indoor_bytes_of s.plan file step.answer) out)

module _ (s : Indoor) (file response out : List ℕ) where
  pub response_28 : (length file ≡ s.plan.length → ⊥) → indoor_response_of s file response out ≡ left (indoor_returns s FileLength 0) out
  unfolding indoor_response_of pick
  response_28 h = rw (ne_differ (length file) s.plan.length h)

  module _ (lent : length file ≡ s.plan.length) where
    pub response_27 : length out < 260 → indoor_response_of s file response out ≡ left (indoor_returns s BufferShort 0) out
    unfolding indoor_response_of pick
    response_27 h = rw (eq_differ (length file) s.plan.length lent, lt-ltb (length out) 260 h)

    module _ (room : 260 ≤ length out) where
      pub response_20 : message.parsed_response_of response ≡ malformed → indoor_response_of s file response out ≡ left (indoor_returns s Malformed 0) out
      unfolding indoor_response_of response_read_of pick
      response_20 e = rw (eq_differ (length file) s.plan.length lent, le-ltb (length out) 260 room, e)

      -- What is decided is handed on, and what is sent is in the buffer's first bytes.
      pub response_step : (r : Response) → message.parsed_response_of response ≡ Ok r
          → indoor_response_of s file response out ≡ stepped s file out (indoor_decide_of s.plan s.state r)
      unfolding indoor_response_of response_read_of pick
      response_step r e = rw (eq_differ (length file) s.plan.length lent, le-ltb (length out) 260 room, e)

module _ (s : Indoor) (file : List ℕ) (elapsed : ℕ) (out : List ℕ) where
  pub time_28 : (length file ≡ s.plan.length → ⊥) → indoor_time_of s file elapsed out ≡ left (indoor_returns s FileLength 0) out
  unfolding indoor_time_of pick
  time_28 h = rw (ne_differ (length file) s.plan.length h)

  module _ (lent : length file ≡ s.plan.length) where
    pub time_27 : length out < 260 → indoor_time_of s file elapsed out ≡ left (indoor_returns s BufferShort 0) out
    unfolding indoor_time_of pick
    time_27 h = rw (eq_differ (length file) s.plan.length lent, lt-ltb (length out) 260 h)

    pub time_step : 260 ≤ length out → indoor_time_of s file elapsed out ≡ stepped s file out (indoor_tick_of s.plan s.state elapsed)
    unfolding indoor_time_of pick
    time_step room = rw (eq_differ (length file) s.plan.length lent, le-ltb (length out) 260 room)
