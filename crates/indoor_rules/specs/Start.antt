-- How a session starts: the answer and the output buffer, for every number, file and buffer (01, Numbers we answer: 29, 46, 27).
use Rattle.std.specs.Prelude.{ℕ, List, ltb, eqb, length, Ok, Err}
use Rattle.basis.specs.Pick.{pick}
use Rattle.basis.specs.Left.{Left, left}
use Rattle.lent.specs.Written.{written_into}
use Rattle.silence.specs.Settings.{settings_of}
use Rattle.silence.specs.declared.Settings as silence
use Rattle.silence.specs.Settings.{Checked}
use Rattle.wire.specs.Codes.{longest, image_size_most}
use Rattle.wire.specs.Written.{request_bytes}
use Rattle.wire.specs.declared.request.Request.TheVariants as Req
use Rattle.indoor_state.specs.Phase.{indoor_state}
use Rattle.indoor_state.specs.Session.{IndoorStart, indoor_made}
use Rattle.indoor_state.specs.declared.plan.Release.{Release}
use Rattle.indoor_state.specs.declared.plan.Plan.{Plan}
use Rattle.indoor_state.specs.declared.phase.Phase.TheVariants.{Identify}
use Rattle.indoor_rules.specs.Session.{indoor}
use Rattle.indoor_state.specs.declared.session.StartRefused.TheVariants.{Settings, FileSize, BufferShort}

abbrev pub indoor_plan : silence.Settings → Release → ℕ → Plan
indoor_plan settings release length = record { settings = settings; release = release; length = length }

-- The start writes GET_FW_ID.
abbrev pub indoor_begun : Plan → List ℕ → Left IndoorStart
indoor_begun plan out =
    left (indoor_made (indoor plan (indoor_state Identify 0 0)) (length (request_bytes Req.GetFwId))) (written_into (request_bytes Req.GetFwId) out)

-- 46, 27, or a session
unfoldable pub indoor_begin_of : silence.Settings → Release → List ℕ → List ℕ → Left IndoorStart
indoor_begin_of settings release file out =
    pick (eqb (length file) 0) (left (Err FileSize) out)
    (pick (ltb image_size_most (length file)) (left (Err FileSize) out)
    (pick (ltb (length out) longest) (left (Err BufferShort) out)
    (indoor_begun (indoor_plan settings release (length file)) out)))

unfoldable pub indoor_started_of : Checked → Release → List ℕ → List ℕ → Left IndoorStart
indoor_started_of (Err refusal) release file out = left (Err Settings) out
indoor_started_of (Ok settings) release file out = indoor_begin_of settings release file out

-- 29, and then 46, 27
abbrev pub indoor_start_of : ℕ → ℕ → Release → List ℕ → List ℕ → Left IndoorStart
indoor_start_of limit resends release file out = indoor_started_of (settings_of limit resends) release file out
