-- One lost message: both ends on a line in every millisecond, and the silence limits that make the loss good (docs/HAZARDS.md, part 6). What
-- one call does is the definition that the contract of that call cites, as in crates/line/specs/Line.antt. This file is the whole statement,
-- and `made_good` in proofs/MadeGood.antt is its proof.
use Rattle.std.specs.Prelude.{ℕ, suc, ◌+◌, ◌*◌, ◌≤◌, ◌<◌, Bool, true, false, ◌⊎◌, ◌≡◌, refl, List, [], ◌∷◌, ◌++◌, eqb, length, take}
use Rattle.std.proofs.Common.{inl}
use Rattle.basis.specs.Pick.{pick}
use Rattle.basis.specs.Left.{Left}
use Rattle.image.specs.Blocks.{blocks_of}
use Rattle.wire.specs.Codes.{longest}
use Rattle.wire.specs.declared.response.Identity.{Identity}
use Rattle.receiver_state.specs.declared.verdict.Verdict.TheVariants as Ver
use Rattle.receiver_rules.specs.Request.{Effect, receiver_request_of}
use Rattle.receiver_rules.specs.Time.{receiver_time_of}
use Rattle.receiver_state.specs.Session.{Outcome as ReceiverOutcome}
use Rattle.indoor_state.specs.declared.plan.Release.{Release}
use Rattle.indoor_state.specs.declared.phase.Reason.{Reason}
use Rattle.indoor_state.specs.declared.phase.Phase.TheVariants.{Done, Failed}
use Rattle.indoor_rules.specs.Newer.{newer_of}
use Rattle.indoor_rules.specs.Response.{indoor_response_of}
use Rattle.indoor_rules.specs.Time.{indoor_time_of}
use Rattle.indoor_state.specs.Session.{IndoorOutcome}
use Rattle.line.specs.Line.{World, after_request, after_receiver_time, after_indoor_call, Wide, Fresh, MarkedGood}

-- A message on its way, and for how many milliseconds it has been.
pub record Going : Type 0 where
  pub message : List ℕ
  pub age : ℕ

abbrev pub going : List ℕ → ℕ → Going
going message age = record { message = message; age = age }

-- Both ends, the messages that are on their way, the oldest first, requests up to the roof and responses down, and whether one was lost.
pub record Timed : Type 0 where
  pub world : World
  pub up : List Going
  pub down : List Going
  pub lost : Bool

abbrev pub timed : World → List Going → List Going → Bool → Timed
timed world up down lost = record { world = world; up = up; down = down; lost = lost }

-- What a call wrote is on its way then, behind the others.
abbrev pub sends : List Going → ℕ → List ℕ → List Going
sends on written out = pick (eqb written 0) on (on ++ going (take written out) 0 ∷ [])

-- The same messages a millisecond later.
abbrev pub older : List Going → List Going
older [] = []
older (g ∷ on) = going g.message (g.age + 1) ∷ older on

-- None of them has been on its way for so long.
abbrev pub Younger : ℕ → List Going → Type 0
Younger most [] = Unit
Younger most (g ∷ on) = (g.age < most) × Younger most on

-- The oldest message has arrived, and a call has answered it.
abbrev pub arrived_up : Timed → List Going → Effect → Timed
arrived_up l later e = timed (after_request l.world l.world.image (inl refl) e) later (sends l.down e.outcome.written e.out) l.lost

abbrev pub arrived_down : Timed → List Going → Left IndoorOutcome → Timed
arrived_down l later x = timed (after_indoor_call l.world x) (sends l.up x.answer.written x.memory) later l.lost

-- A millisecond has passed at both ends.
abbrev pub passed : Timed → Left ReceiverOutcome → Left IndoorOutcome → Timed
passed l r i =
    timed (after_indoor_call (after_receiver_time l.world r) i) (sends (older l.up) i.answer.written i.memory)
    (sends (older l.down) r.answer.written r.memory) l.lost

-- The bounds on the receiver's limit and resends, and on the indoor end's, over the longest way up and the longest way down, in ms.
pub record Bounds (limit resends limit' resends' up down : ℕ) : Type 0 where
  -- The receiver's resend comes before the indoor end's limit ..
  pub heals : limit + (up + down) < limit'
  -- .. and the receiver is in Await still when VALIDATE comes again.
  pub lasts : limit' + (up + down) < limit * (resends + 1)
  -- GET_FW_ID, INITIATE and VALIDATE can go out again.
  pub again : 1 ≤ resends'
  -- What the receiver sends again was lost, and is not only late.
  pub prompt : up + down < limit

-- One session of one file, as in demand 3, on a line with its longest way up and its longest way down.
module _ (file memory : List ℕ) (release : Release) (identity : Identity) (up down : ℕ) where
  -- What happens between two milliseconds: the oldest message arrives, with no wait and a good verdict, or it is lost, if none was.
  pub data Next (l : Timed) : Timed → Type 0 where
    rises : (request : List ℕ) (age : ℕ) (later : List Going) → l.up ≡ going request age ∷ later → (out : List ℕ) → longest ≤ length out
        → Next l (arrived_up l later (receiver_request_of l.world.receiver l.world.image request 0 Ver.Good out))
    falls : (response : List ℕ) (age : ℕ) (later : List Going) → l.down ≡ going response age ∷ later → (out : List ℕ) → longest ≤ length out
        → Next l (arrived_down l later (indoor_response_of l.world.indoor file response out))
    loses_up : (g : Going) (later : List Going) → l.up ≡ g ∷ later → l.lost ≡ false → Next l (timed l.world later l.down true)
    loses_down : (g : Going) (later : List Going) → l.down ≡ g ∷ later → l.lost ≡ false → Next l (timed l.world l.up later true)

  module _ (limit resends limit' resends' : ℕ) where
    -- Every line, after so many ms, that brings the messages in the order sent, each once and within its longest way, but for one that it may
    -- lose. Both ends are called in every millisecond. The first two settings are the receiver's.
    pub data Lossy : ℕ → Timed → Type 0 where
      begins : (w : World) (f : Fresh file memory release identity limit resends limit' resends' w) → Lossy 0 (timed w (going (take f.written f.out') 0 ∷ []) [] false)
      goes : {ms : ℕ} {l : Timed} → Lossy ms l → (then : Timed) → Next l then → Lossy ms then
      passes : {ms : ℕ} {l : Timed} → Lossy ms l → Younger up l.up → Younger down l.down
          → (out out' : List ℕ) → longest ≤ length out → longest ≤ length out'
          → Lossy (suc ms) (passed l (receiver_time_of l.world.receiver 1 out) (indoor_time_of l.world.indoor file 1 out'))

    abbrev pub n : ℕ
    n = blocks_of (length file)

    -- What is promised of a newer file that fits.
    pub record MadeGood : Type 0 where
      -- The line goes on: the oldest message can arrive, or a millisecond can pass, since none has been on its way for too long.
      pub goes_on : (ms : ℕ) (l : Timed) → Lossy ms l → ((then : Timed) × Next l then) ⊎ (Younger up l.up × Younger down l.down)
      -- The indoor end does not fail, and after a round trip for each request and one silence limit it is done, and the receiver holds the file.
      pub never_fails : (ms : ℕ) (l : Timed) → Lossy ms l → (reason : Reason) → l.world.indoor.state.phase ≡ Failed reason → ⊥
      pub done_in_time : (ms : ℕ) (l : Timed) → Lossy ms l → (n + 4) * (up + down) + limit' < ms
          → (l.world.indoor.state.phase ≡ Done) × MarkedGood file memory release identity l.world

-- Of every session.
abbrev pub OneLost : Type 0
OneLost = (file memory : List ℕ) (release : Release) (identity : Identity) → Wide release identity → newer_of release identity ≡ true → length file ≤ length memory
    → (limit resends limit' resends' up down : ℕ) → Bounds limit resends limit' resends' up down
    → MadeGood file memory release identity up down limit resends limit' resends'
