-- A reader finds in the bytes that go out with an answer just the request that was meant.
use Prim.Native.Nat.{ℕ, ◌≤◌, ◌<◌}
use Rattle.std.specs.Prelude.{Option, Some, None}
use mathlib.Core.Path.{◌≡◌, refl}
use mathlib.Core.List.{List, [], append-nil}
use native.Mathlib.Omega.{arith}
use lib.ListN.{length, drop}
use Rattle.image.specs.Blocks.{blocks_of, block_at}
use Rattle.image.proofs.Laws.{least}
use Rattle.wire.specs.Codes.{image_size_most}
use Rattle.wire.specs.Request as message
use Rattle.wire.specs.Written.{request_bytes, head_bytes}
use Rattle.wire.specs.Fields.{Words, Sendable}
use Rattle.wire.specs.declared.request.Versions.{Versions}
use Rattle.wire.specs.declared.request.Request.{Request}
use Rattle.wire.specs.declared.request.Request.TheVariants as Req
use Rattle.wire.specs.Request.{Parsed}
use Rattle.wire.proofs.RoundTrip.{request_back}
use Rattle.indoor_state.specs.Answer.{sends_of}
use Rattle.indoor_state.specs.declared.plan.Plan.{Plan}
use Rattle.indoor_state.specs.declared.answer.Answer.{Answer}
use Rattle.indoor_state.specs.declared.answer.Sends.{Sends}
use Rattle.indoor_state.specs.declared.answer.Sends.TheVariants.{GetFwId, Initiate, Block, Validate, Abort}
use Rattle.indoor_rules.proofs.Owes.{Within}
use Rattle.indoor_rules.specs.Send.{block_bytes, sends_bytes, indoor_bytes_of}
use Rattle.indoor_rules.specs.History.{Genuine}
use Rattle.indoor_rules.proofs.Block.{block_most}
use Rattle.std.specs.Prelude.{Ok}

-- A request without a block is read as what it is.
pub whole_read : (r : Request) → Sendable r [] → message.parsed_request_of (request_bytes r) ≡ Ok r
whole_read r can = rw (append-nil (request_bytes r)) at (request_back r [] can)

module _ (versions : Versions) (file : List ℕ) where
  read_as : (m : List ℕ) (p : Parsed) → message.parsed_request_of m ≡ p → Genuine versions file m p → Genuine versions file m (message.parsed_request_of m)
  read_as m p e h = rw e h

  -- DATA is read as the number and the size of its block.
  pub block_read : (number : ℕ) → number < 65536 → message.parsed_request_of (block_bytes file number) ≡ Ok (Req.Data number (length (block_at file number)))
  unfolding block_bytes
  block_read number low = request_back (Req.Data number (length (block_at file number))) (block_at file number) (low, refl, block_most file number)

  block_carried : (number : ℕ) → drop 4 (block_bytes file number) ≡ block_at file number
  unfolding block_bytes request_bytes head_bytes
  block_carried number = refl

  block_genuine : (number : ℕ) → length file ≤ image_size_most → number ≤ blocks_of (length file) → Genuine versions file (block_bytes file number) (message.parsed_request_of (block_bytes file number))
  block_genuine number most h =
      let low = least (length file) 4096 (omega arith) in
      read_as (block_bytes file number) (Ok (Req.Data number (length (block_at file number)))) (block_read number (omega arith)) (h, block_carried number)

  whole_genuine : (r : Request) → Sendable r [] → Genuine versions file (request_bytes r) (Ok r)
      → Genuine versions file (request_bytes r) (message.parsed_request_of (request_bytes r))
  whole_genuine r can h = read_as (request_bytes r) (Ok r) (whole_read r can) h

  sends_genuine : (plan : Plan) (sends : Option Sends) → Words versions → plan.length ≡ length file → length file ≤ image_size_most → Within plan sends → (length (sends_bytes versions file sends) ≡ 0 → ⊥)
      → Genuine versions file (sends_bytes versions file sends) (message.parsed_request_of (sends_bytes versions file sends))
  unfolding sends_bytes
  sends_genuine plan None words lent most h some = absurd (some refl)
  sends_genuine plan (Some GetFwId) words lent most h some = whole_genuine Req.GetFwId refl tt
  sends_genuine plan (Some Initiate) words lent most h some = whole_genuine (Req.Initiate versions) (refl, words) refl
  sends_genuine plan (Some (Block number)) words lent most h some = block_genuine number most (rw (← lent) h)
  sends_genuine plan (Some Validate) words lent most h some = whole_genuine Req.Validate refl tt
  sends_genuine plan (Some Abort) words lent most h some = whole_genuine Req.Abort refl tt

-- What goes out with an answer, where anything does, is genuine.
pub bytes_genuine : (plan : Plan) (file : List ℕ) (answer : Answer) → Words plan.release.versions → plan.length ≡ length file → length file ≤ image_size_most
    → Within plan (sends_of answer)
    → (length (indoor_bytes_of plan file answer) ≡ 0 → ⊥)
    → Genuine plan.release.versions file (indoor_bytes_of plan file answer) (message.parsed_request_of (indoor_bytes_of plan file answer))
bytes_genuine plan file answer words lent most within some =
    sends_genuine plan.release.versions file plan (sends_of answer) words lent most within some
