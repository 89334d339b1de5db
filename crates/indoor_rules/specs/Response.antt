-- What one response does: the outcome and the output buffer, for every session, file, response and buffer.
use Rattle.std.specs.Prelude.{ℕ, List, ltb, length}
use Rattle.basis.specs.Pick.{pick, differ}
use Rattle.basis.specs.Left.{Left}
use Rattle.wire.specs.Codes.{longest}
use Rattle.wire.specs.Response as message
use Rattle.wire.specs.Response.{Parsed}
use Rattle.indoor_rules.specs.Decide.{indoor_decide_of}
use Rattle.indoor_state.specs.declared.answer.Answer.TheVariants.{Malformed, BufferShort, FileLength}
use Rattle.indoor_rules.specs.Session.{indoor_kept, indoor_done}
use Rattle.indoor_state.specs.declared.session.Indoor.{Indoor}
use Rattle.indoor_state.specs.Session.{IndoorOutcome}
use Rattle.std.specs.Prelude.{Ok, Err}

-- 20, and then what the response asks for
unfoldable pub response_read_of : Indoor → Parsed → List ℕ → List ℕ → Left IndoorOutcome
response_read_of s (Err refusal) file out = indoor_kept s Malformed out
response_read_of s (Ok valid) file out = indoor_done s.plan (indoor_decide_of s.plan s.state valid) file out

-- 28, 27, 20, and then what the response asks for
unfoldable pub indoor_response_of : Indoor → List ℕ → List ℕ → List ℕ → Left IndoorOutcome
indoor_response_of s file response out =
    pick (differ (length file) s.plan.length) (indoor_kept s FileLength out)
    (pick (ltb (length out) longest) (indoor_kept s BufferShort out)
    (response_read_of s (message.parsed_response_of response) file out))
