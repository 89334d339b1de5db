-- Any calls from a fresh session, each lent the same memory or one of another length, and the blocks that were accepted: found by the requests,
-- the numbers answered and the phases alone, never by the receiver's own counts (01, Programs that should not pass: accepted is tied to bytes in
-- place).
use Rattle.std.specs.Prelude.{ℕ, Bool, false, ◌&&◌, ◌≡◌, List, [], ◌∷◌, ◌++◌, ltb, eqb, length, drop, Ok, Err}
use Rattle.basis.specs.Pick.{pick}
use Rattle.wire.specs.Codes.{data_head}
use Rattle.wire.specs.Request as message
use Rattle.wire.specs.declared.request.Request.TheVariants as Req
use Rattle.wire.specs.Request.{Parsed}
use Rattle.wire.specs.declared.response.Identity.{Identity}
use Rattle.receiver_state.specs.Answer.{receiver_number_of}
use Rattle.receiver_state.specs.declared.phase.Phase.{Phase}
use Rattle.receiver_state.specs.declared.phase.Phase.TheVariants.{Idle, Transfer, Await, Good}
use Rattle.receiver_state.specs.declared.verdict.Verdict.{Verdict}
use Rattle.receiver_rules.specs.Session.{receiver_start_of}
use Rattle.receiver_rules.specs.Request.{receiver_request_of}
use Rattle.receiver_rules.specs.Time.{receiver_time_of}
use Rattle.receiver_state.specs.declared.session.Receiver.{Receiver}
use Rattle.receiver_state.specs.Session.{Outcome}

-- A DATA request with a non-empty block that was answered 0.
abbrev pub block_answered : Parsed → ℕ → Bool
block_answered (Err refusal) answered = false
block_answered (Ok Req.GetFwId) answered = false
block_answered (Ok (Req.Initiate versions)) answered = false
block_answered (Ok (Req.Data number size)) answered = eqb answered 0 && ltb 0 size
block_answered (Ok Req.Validate) answered = false
block_answered (Ok Req.Abort) answered = false
block_answered (Ok Req.NotBuilt) answered = false

-- In Transfer that block is accepted; in Await the same answer is the closing answer again.
abbrev pub accepts_block : Phase → Parsed → ℕ → Bool
accepts_block Idle message answered = false
accepts_block (Transfer p) message answered = block_answered message answered
accepts_block (Await a) message answered = false
accepts_block (Good a) message answered = false

-- Going to Idle sets accepted to zero.
abbrev pub forgets : Phase → List (List ℕ) → List (List ℕ)
forgets Idle taken = []
forgets (Transfer p) taken = taken
forgets (Await a) taken = taken
forgets (Good a) taken = taken

-- One request call: the phase before it, what a reader finds in the request, the request from its fifth byte on, the number that was answered,
-- and the phase after it.
pub record RequestCall : Type 0 where
  pub before : Phase
  pub message : Parsed
  pub block : List ℕ
  pub answered : ℕ
  pub after : Phase

-- The accepted blocks after a request call, the newest first; `taken` are those before it.
abbrev pub taken_by : RequestCall → List (List ℕ) → List (List ℕ)
taken_by call taken = forgets call.after (pick (accepts_block call.before call.message call.answered) (call.block ∷ taken) taken)

abbrev pub taken_after : Receiver → List ℕ → Outcome → List (List ℕ) → List (List ℕ)
taken_after r request outcome taken = taken_by (record {
  before = r.phase;
  message = message.parsed_request_of request;
  block = drop data_head request;
  answered = receiver_number_of outcome.answer;
  after = outcome.session.phase;
}) taken

-- The accepted blocks in order, one after the other.
abbrev pub in_order : List (List ℕ) → List ℕ
in_order [] = []
in_order (block ∷ taken) = in_order taken ++ block

-- A session, the image, and the accepted blocks, the newest first, after any calls. A call that is lent memory of another length (28) does not
-- touch the image.
pub data Reached : Receiver → List ℕ → List (List ℕ) → Type 0 where
  starts : (limit resends : ℕ) (identity : Identity) (capacity : ℕ) (r : Receiver) (image : List ℕ) → receiver_start_of limit resends identity capacity ≡ Ok r → Reached r image []
  asks : {r : Receiver} {image : List ℕ} {taken : List (List ℕ)} → Reached r image taken → (request : List ℕ) (readiness : ℕ) (verdict : Verdict) (out : List ℕ)
      → Reached (receiver_request_of r image request readiness verdict out).outcome.session (receiver_request_of r image request readiness verdict out).image
      (taken_after r request (receiver_request_of r image request readiness verdict out).outcome taken)
  asks_with_other : {r : Receiver} {image : List ℕ} {taken : List (List ℕ)} → Reached r image taken → (lent : List ℕ) → (length lent ≡ r.capacity → ⊥)
      → (request : List ℕ) (readiness : ℕ) (verdict : Verdict) (out : List ℕ)
      → Reached (receiver_request_of r lent request readiness verdict out).outcome.session image
      (taken_after r request (receiver_request_of r lent request readiness verdict out).outcome taken)
  passes : {r : Receiver} {image : List ℕ} {taken : List (List ℕ)} → Reached r image taken → (elapsed : ℕ) (out : List ℕ)
      → Reached (receiver_time_of r elapsed out).answer.session image (forgets (receiver_time_of r elapsed out).answer.session.phase taken)
