-- Demand 3: both ends over a line. What one call does is the definition that the contract of that call cites, on the very bytes that were
-- sent; there is no other model of an end. This file is the whole statement, and `demand3` in proofs/Demand3.antt is its proof.
use Rattle.std.specs.Prelude.{ℕ, suc, ◌+◌, ◌*◌, ◌≤◌, ◌<◌, true, ◌⊎◌, ◌≡◌, refl, length, take, drop, Ok}
use Rattle.std.proofs.Common.{inl, inr}
use mathlib.Core.List.{List, [], ◌∷◌, ◌++◌, Memᴰ}
use Rattle.basis.specs.Left.{Left, left}
use Rattle.lent.specs.Sent.{with_sent}
use Rattle.silence.specs.Within.{Within}
use Rattle.image.specs.Blocks.{blocks_of}
use Rattle.wire.specs.Codes.{longest, image_size_most}
use Rattle.wire.specs.Fields.{Words}
use Rattle.wire.specs.Request.{parsed_request_of}
use Rattle.wire.specs.declared.request.Request.TheVariants.{Validate}
use Rattle.wire.specs.declared.response.Identity.{Identity}
use Rattle.receiver_state.specs.declared.phase.Accepted.{Accepted}
use Rattle.receiver_state.specs.declared.phase.Phase.TheVariants.{Good}
use Rattle.receiver_state.specs.declared.verdict.Verdict.{Verdict}
use Rattle.receiver_state.specs.declared.verdict.Verdict.TheVariants as Ver
use Rattle.receiver_rules.specs.Range.{Timely}
use Rattle.receiver_rules.specs.Session.{receiver_start_of}
use Rattle.receiver_rules.specs.Request.{Effect, receiver_request_of}
use Rattle.receiver_rules.specs.Time.{receiver_time_of}
use Rattle.receiver_state.specs.declared.session.Receiver.{Receiver}
use Rattle.receiver_state.specs.Session.{Outcome as ReceiverOutcome}
use Rattle.indoor_state.specs.declared.plan.Release.{Release}
use Rattle.indoor_state.specs.declared.phase.Phase.TheVariants.{Done}
use Rattle.indoor_rules.specs.Newer.{newer_of}
use Rattle.indoor_rules.specs.Start.{indoor_start_of}
use Rattle.indoor_rules.specs.Response.{indoor_response_of}
use Rattle.indoor_rules.specs.Time.{indoor_time_of}
use Rattle.indoor_state.specs.declared.session.Indoor.{Indoor}
use Rattle.indoor_state.specs.Session.{IndoorOutcome, indoor_made}

-- Both ends, the image memory, and every request and every response that was ever sent, as bytes, the newest first.
pub record World : Type 0 where
  pub receiver : Receiver
  pub indoor : Indoor
  pub image : List ℕ
  pub requests : List (List ℕ)
  pub responses : List (List ℕ)

-- Memory of another length, which a call refuses (28).
abbrev pub Other : List ℕ → List ℕ → Type 0
Other own lent = length lent ≡ length own → ⊥

-- What a call is lent: the memory itself, or one of another length.
abbrev pub Lent : List ℕ → List ℕ → Type 0
Lent own lent = (lent ≡ own) ⊎ Other own lent

-- The memory itself after a call that left `lent'` in what it was lent: a call that was lent another one does not touch it.
abbrev pub own_after : (own lent lent' : List ℕ) → Lent own lent → List ℕ
own_after own lent lent' (inl same) = lent'
own_after own lent lent' (inr other) = own

-- The world after a request to the receiver, after time there, and after a call of the indoor end. What a call wrote was sent.
abbrev pub after_request : (w : World) (lent : List ℕ) → Lent w.image lent → Effect → World
after_request w lent which e = record {
  receiver = e.outcome.session;
  indoor = w.indoor;
  image = own_after w.image lent e.image which;
  requests = w.requests;
  responses = with_sent e.outcome.written e.out w.responses;
}

abbrev pub after_receiver_time : World → Left ReceiverOutcome → World
after_receiver_time w x = record {
  receiver = x.answer.session;
  indoor = w.indoor;
  image = w.image;
  requests = w.requests;
  responses = with_sent x.answer.written x.memory w.responses;
}

abbrev pub after_indoor_call : World → Left IndoorOutcome → World
after_indoor_call w x = record {
  receiver = w.receiver;
  indoor = x.answer.session;
  image = w.image;
  requests = with_sent x.answer.written x.memory w.requests;
  responses = w.responses;
}

-- A line with the messages that are on their way, the oldest first: requests up to the roof, responses down.
pub record Line : Type 0 where
  pub world : World
  pub up : List (List ℕ)
  pub down : List (List ℕ)

abbrev pub line : World → List (List ℕ) → List (List ℕ) → Line
line w up down = record { world = w; up = up; down = down }

-- A message that is on its way is delivered, and what the call wrote is on its way then.
abbrev pub carried_up : Line → List (List ℕ) → Effect → Line
carried_up l later e = line (after_request l.world l.world.image (inl refl) e) later (l.down ++ with_sent e.outcome.written e.out [])

abbrev pub carried_down : Line → List (List ℕ) → Left IndoorOutcome → Line
carried_down l later x = line (after_indoor_call l.world x) (l.up ++ with_sent x.answer.written x.memory []) later

-- A time call takes nothing off the line, and what it wrote is on its way then.
abbrev pub passed_at_receiver : Line → Left ReceiverOutcome → Line
passed_at_receiver l x = line (after_receiver_time l.world x) l.up (l.down ++ with_sent x.answer.written x.memory [])

abbrev pub passed_at_indoor : Line → Left IndoorOutcome → Line
passed_at_indoor l x = carried_down l l.down x

-- Nothing is on its way.
pub record AtRest (l : Line) : Type 0 where
  pub up : l.up ≡ []
  pub down : l.down ≡ []

-- Only VALIDATE looks at the verdict: it is good there, and with any other request any that 26 does not refuse.
pub record GoodVerdict (request : List ℕ) (verdict : Verdict) : Type 0 where
  pub in_range : Timely verdict
  pub good : parsed_request_of request ≡ Ok Validate → verdict ≡ Ver.Good

-- The fields that go over the line are as wide as their types, two bytes, as in every value of the code.
pub record Wide (release : Release) (identity : Identity) : Type 0 where
  pub vendor : identity.vendor < 65536
  pub product : identity.product < 65536
  pub reported : Words identity.versions
  pub offered : Words release.versions

-- One session of one file: its bytes, the image memory as it lay before, the file's vendor, product and versions, and the receiver's identity.
module _ (file memory : List ℕ) (release : Release) (identity : Identity) where
  -- Both ends start fresh, the receiver with the first two settings and the indoor end with the others, and the line holds nothing but the
  -- request that the indoor end's start wrote.
  pub record Fresh (limit resends limit' resends' : ℕ) (w : World) : Type 0 where
    pub receiver : receiver_start_of limit resends identity (length memory) ≡ Ok w.receiver
    pub out : List ℕ
    pub written : ℕ
    pub out' : List ℕ
    pub indoor : indoor_start_of limit' resends' release file out ≡ left (indoor_made w.indoor written) out'
    pub image : w.image ≡ memory
    pub requests : w.requests ≡ take written out' ∷ []
    pub responses : w.responses ≡ []

  -- Every world that a session can come to over any line: a step hands an end any bytes that were ever sent to it, so that messages are
  -- lost, repeated, delayed and reordered, and none is added or altered; or it lets any time pass at an end.
  pub data Reached : World → Type 0 where
    begins : (limit resends limit' resends' : ℕ) (w : World) → Fresh limit resends limit' resends' w → Reached w
    to_receiver : {w : World} → Reached w → (request : List ℕ) → Memᴰ request w.requests
        → (lent : List ℕ) (which : Lent w.image lent) (readiness : ℕ) (verdict : Verdict) (out : List ℕ)
        → Reached (after_request w lent which (receiver_request_of w.receiver lent request readiness verdict out))
    to_indoor : {w : World} → Reached w → (response : List ℕ) → Memᴰ response w.responses
        → (lent : List ℕ) → Lent file lent → (out : List ℕ)
        → Reached (after_indoor_call w (indoor_response_of w.indoor lent response out))
    at_receiver : {w : World} → Reached w → (elapsed : ℕ) (out : List ℕ) → Reached (after_receiver_time w (receiver_time_of w.receiver elapsed out))
    at_indoor : {w : World} → Reached w → (lent : List ℕ) → Lent file lent → (elapsed : ℕ) (out : List ℕ)
        → Reached (after_indoor_call w (indoor_time_of w.indoor lent elapsed out))

  -- One delivery of a clean line: the oldest message, once, with no wait, a good verdict, and lent memory and buffers of the right size.
  pub data Next (l : Line) : Line → Type 0 where
    up : (request : List ℕ) (later : List (List ℕ)) → l.up ≡ request ∷ later
        → (verdict : Verdict) → GoodVerdict request verdict → (out : List ℕ) → longest ≤ length out
        → Next l (carried_up l later (receiver_request_of l.world.receiver l.world.image request 0 verdict out))
    down : (response : List ℕ) (later : List (List ℕ)) → l.down ≡ response ∷ later → (out : List ℕ) → longest ≤ length out
        → Next l (carried_down l later (indoor_response_of l.world.indoor file response out))

  -- Every line that delivers each message once, in the order sent, before any time passes, after so many deliveries. At any moment there may be
  -- time calls with 0 ms elapsed at either end, which is no time passing.
  pub data Clean : ℕ → Line → Type 0 where
    begins : (limit resends limit' resends' : ℕ) (w : World) → Fresh limit resends limit' resends' w → Clean 0 (line w w.requests [])
    delivers : {k : ℕ} {l : Line} → Clean k l → (then : Line) → Next l then → Clean (suc k) then
    at_receiver : {k : ℕ} {l : Line} → Clean k l → (out : List ℕ) → longest ≤ length out → Clean k (passed_at_receiver l (receiver_time_of l.world.receiver 0 out))
    at_indoor : {k : ℕ} {l : Line} → Clean k l → (out : List ℕ) → longest ≤ length out → Clean k (passed_at_indoor l (indoor_time_of l.world.indoor file 0 out))

  -- As many bytes are accepted as the file has, and the image memory begins with exactly the file; what lies behind it is as it lay.
  pub record Holds (a : Accepted) (w : World) : Type 0 where
    pub counted : a.bytes ≡ length file
    pub bytes : take (length file) w.image ≡ file
    pub behind : drop (length file) w.image ≡ drop (length file) memory

  -- The receiver has marked the file good and holds it.
  pub record MarkedGood (w : World) : Type 0 where
    pub accepted : Accepted
    pub good : w.receiver.phase ≡ Good accepted
    pub holds : Holds accepted w

  abbrev pub n : ℕ
  n = blocks_of (length file)

  -- The indoor end is done, and the history holds n + 4 requests.
  pub record Finished (l : Line) : Type 0 where
    pub done : l.world.indoor.state.phase ≡ Done
    pub requests : length l.world.requests ≡ n + 4

  -- What is promised of the session.
  pub record Promised : Type 0 where
    -- The receiver never marks good an image that differs from the file in length or any byte.
    pub never_wrong : (w : World) → Reached w → (a : Accepted) → w.receiver.phase ≡ Good a → Holds a w
    -- When the indoor end reports done, the receiver has marked it good and still holds it.
    pub done_is_good : (w : World) → Reached w → w.indoor.state.phase ≡ Done → MarkedGood w
    -- A clean line is one of the lines above. It begins with every file, memory and settings within the limits.
    pub clean_reached : (k : ℕ) (l : Line) → Clean k l → Reached l.world
    pub clean_begins : (limit resends limit' resends' : ℕ) → Within limit resends → Within limit' resends'
        → 1 ≤ length file → length file ≤ image_size_most → length memory ≤ image_size_most
        → (w : World) × Fresh limit resends limit' resends' w
    -- It comes to rest: where a message is on its way it goes on, and after 2 × (n + 4) deliveries there is none.
    pub clean_goes_on : (k : ℕ) (l : Line) → Clean k l → AtRest l ⊎ ((then : Line) × Next l then)
    pub clean_rests : (k : ℕ) (l : Line) → Clean k l → 2 * (n + 4) ≤ k → AtRest l
    -- At rest, with a newer file that fits, the indoor end is done after exactly n + 4 requests.
    pub clean_finishes : (k : ℕ) (l : Line) → Clean k l → newer_of release identity ≡ true → length file ≤ length memory → AtRest l → Finished l

-- Of every session.
abbrev pub Demand3 : Type 0
Demand3 = (file memory : List ℕ) (release : Release) (identity : Identity) → Wide release identity → Promised file memory release identity
