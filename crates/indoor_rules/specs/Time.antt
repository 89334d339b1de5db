-- What one time call does: the outcome and the output buffer, for every session, file, elapsed time and buffer.
use Rattle.std.specs.Prelude.{ℕ, List, ltb, length}
use Rattle.basis.specs.Pick.{pick, differ}
use Rattle.basis.specs.Left.{Left}
use Rattle.wire.specs.Codes.{longest}
use Rattle.indoor_rules.specs.Tick.{indoor_tick_of}
use Rattle.indoor_state.specs.declared.answer.Answer.TheVariants.{BufferShort, FileLength}
use Rattle.indoor_rules.specs.Session.{indoor_kept, indoor_done}
use Rattle.indoor_state.specs.declared.session.Indoor.{Indoor}
use Rattle.indoor_state.specs.Session.{IndoorOutcome}

-- 28, 27, or what time does
unfoldable pub indoor_time_of : Indoor → List ℕ → ℕ → List ℕ → Left IndoorOutcome
indoor_time_of s file elapsed out =
    pick (differ (length file) s.plan.length) (indoor_kept s FileLength out)
    (pick (ltb (length out) longest) (indoor_kept s BufferShort out)
    (indoor_done s.plan (indoor_tick_of s.plan s.state elapsed) file out))
