-- Any calls from a fresh session, and the requests that were written, the newest first. A call is lent the file, or one of another length,
-- which it refuses (28).
use Rattle.std.specs.Prelude.{ℕ, ◌≤◌, ◌≡◌, List, [], ◌∷◌, length, take, drop}
use Rattle.basis.specs.Left.{Left, left}
use Rattle.lent.specs.Sent.{with_sent}
use Rattle.image.specs.Blocks.{blocks_of, block_at}
use Rattle.wire.specs.Codes.{data_head}
use Rattle.wire.specs.Request as message
use Rattle.wire.specs.Written.{head_bytes}
use Rattle.wire.specs.declared.request.Versions.{Versions}
use Rattle.wire.specs.declared.request.Request.TheVariants as Req
use Rattle.wire.specs.Request.{Parsed}
use Rattle.indoor_state.specs.declared.plan.Release.{Release}
use Rattle.indoor_state.specs.Session.{indoor_made, IndoorOutcome}
use Rattle.indoor_rules.specs.Start.{indoor_start_of}
use Rattle.indoor_rules.specs.Response.{indoor_response_of}
use Rattle.indoor_rules.specs.Time.{indoor_time_of}
use Rattle.indoor_state.specs.declared.session.Indoor.{Indoor}
use Rattle.std.specs.Prelude.{Ok, Err}

-- What a call wrote is one request.
abbrev pub sent_after : Left IndoorOutcome → List (List ℕ) → List (List ℕ)
sent_after x sent = with_sent x.answer.written x.memory sent

module _ (file : List ℕ) where
  pub data Reached : Release → Indoor → List (List ℕ) → Type 0 where
    starts : (limit resends : ℕ) (release : Release) (out : List ℕ) (s : Indoor) (written : ℕ) (out' : List ℕ)
        → indoor_start_of limit resends release file out ≡ left (indoor_made s written) out'
        → Reached release s (take written out' ∷ [])
    hears : {release : Release} {s : Indoor} {sent : List (List ℕ)} → Reached release s sent → (lent response out : List ℕ)
        → (length lent ≡ length file → lent ≡ file)
        → Reached release (indoor_response_of s lent response out).answer.session (sent_after (indoor_response_of s lent response out) sent)
    passes : {release : Release} {s : Indoor} {sent : List (List ℕ)} → Reached release s sent → (lent : List ℕ) (elapsed : ℕ) (out : List ℕ)
        → (length lent ≡ length file → lent ≡ file)
        → Reached release (indoor_time_of s lent elapsed out).answer.session (sent_after (indoor_time_of s lent elapsed out) sent)

-- GET_FW_ID, INITIATE with the file's versions, a DATA whose number j ≤ n carries exactly block j of the file, VALIDATE or ABORT, as a reader
-- finds it in the bytes.
abbrev pub Genuine : Versions → List ℕ → List ℕ → Parsed → Type 0
Genuine versions file m (Ok Req.GetFwId) = Unit
Genuine versions file m (Ok (Req.Initiate v)) = v ≡ versions
Genuine versions file m (Ok (Req.Data number size)) = (number ≤ blocks_of (length file)) × (drop data_head m ≡ block_at file number)
Genuine versions file m (Ok Req.Validate) = Unit
Genuine versions file m (Ok Req.Abort) = Unit
Genuine versions file m (Ok Req.NotBuilt) = ⊥
Genuine versions file m (Err refusal) = ⊥

abbrev pub AllGenuine : Versions → List ℕ → List (List ℕ) → Type 0
AllGenuine versions file [] = Unit
AllGenuine versions file (m ∷ sent) = Genuine versions file m (message.parsed_request_of m) × AllGenuine versions file sent

-- The empty block: 01 83 and the number n.
abbrev pub empty_block : List ℕ → List ℕ
empty_block file = head_bytes (blocks_of (length file))
