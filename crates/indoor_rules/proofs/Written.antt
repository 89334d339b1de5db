-- What is written into the lent buffer: at most one request a call, in the first bytes (01, Numbers we answer).
use Prim.Native.Nat.{ℕ, ◌≤◌}
use Rattle.std.specs.Prelude.{Option, Some, None}
use mathlib.Core.Path.{◌≡◌, refl}
use mathlib.Core.List.{List}
use native.Mathlib.Omega.{arith}
use lib.ListN.{length, take, drop, length-append, length-drop}
use lib.Seq.{take-append_seam, drop-append_seam}
use Rattle.basis.specs.Left.{Left}
use Rattle.lent.specs.Written.{written_into}
use Rattle.image.specs.Blocks.{block_at}
use Rattle.wire.proofs.Fits.{request_fits}
use Rattle.wire.specs.Codes.{longest}
use Rattle.wire.specs.declared.request.Versions.{Versions}
use Rattle.wire.specs.declared.request.Request.TheVariants as Req
use Rattle.indoor_state.specs.Answer.{sends_of}
use Rattle.indoor_rules.specs.Decide.{indoor_decide_of}
use Rattle.indoor_rules.specs.Tick.{indoor_tick_of}
use Rattle.indoor_state.specs.declared.plan.Plan.{Plan}
use Rattle.indoor_state.specs.declared.answer.Answer.{Answer}
use Rattle.indoor_state.specs.declared.answer.Sends.{Sends}
use Rattle.indoor_state.specs.declared.answer.Sends.TheVariants.{GetFwId, Initiate, Block, Validate, Abort}
use Rattle.indoor_rules.specs.Send.{block_bytes, sends_bytes, indoor_bytes_of}
use Rattle.indoor_rules.specs.Response.{indoor_response_of}
use Rattle.indoor_rules.specs.Time.{indoor_time_of}
use Rattle.indoor_state.specs.declared.session.Indoor.{Indoor}
use Rattle.indoor_state.specs.Session.{IndoorOutcome}
use Rattle.indoor_rules.proofs.Block.{block_most, head_four}
use Rattle.indoor_rules.proofs.Walk.{response_walk, time_walk}

module _ (versions : Versions) (file : List ℕ) where
  block_fits : (number : ℕ) → length (block_bytes file number) ≤ 260
  unfolding block_bytes
  block_fits number =
      let four = head_four file number (length (block_at file number)) in
      let most = block_most file number in
      simp length-append (omega arith)

  sends_fit : (sends : Option Sends) → length (sends_bytes versions file sends) ≤ 260
  unfolding sends_bytes
  sends_fit None = omega arith
  sends_fit (Some GetFwId) = let fits = request_fits Req.GetFwId in omega arith
  sends_fit (Some Initiate) = let fits = request_fits (Req.Initiate versions) in omega arith
  sends_fit (Some (Block number)) = block_fits number
  sends_fit (Some Validate) = let fits = request_fits Req.Validate in omega arith
  sends_fit (Some Abort) = let fits = request_fits Req.Abort in omega arith

-- A message is at most 260 bytes (01, Sizes and numbers).
pub bytes_most : (plan : Plan) (file : List ℕ) (answer : Answer) → length (indoor_bytes_of plan file answer) ≤ 260
bytes_most plan file answer = sends_fit plan.release.versions file (sends_of answer)

written_length : (plan : Plan) (file : List ℕ) (answer : Answer) (out : List ℕ) → longest ≤ length out → length (written_into (indoor_bytes_of plan file answer) out) ≡ length out
written_length plan file answer out room =
    let fits = bytes_most plan file answer in
    simp (length-append, length-drop) (omega arith)

-- The buffer begins with the answer's one request, or with none; behind it all is as it was.
pub record Leads (plan : Plan) (file out : List ℕ) (x : Left IndoorOutcome) : Type 0 where
  pub first : x.memory ≡ written_into (indoor_bytes_of plan file x.answer.answer) out
  pub written : x.answer.written ≡ length (indoor_bytes_of plan file x.answer.answer)

module _ (plan : Plan) (file out : List ℕ) (x : Left IndoorOutcome) (l : Leads plan file out x) where
  pub written_most : x.answer.written ≤ 260
  written_most =
      let fits = bytes_most plan file x.answer.answer in
      let n = l.written in
      omega arith

  pub first_bytes : take x.answer.written x.memory ≡ indoor_bytes_of plan file x.answer.answer
  first_bytes = rw (l.written, l.first) (take-append_seam (indoor_bytes_of plan file x.answer.answer) (drop (length (indoor_bytes_of plan file x.answer.answer)) out))

  pub rest_kept : drop x.answer.written x.memory ≡ drop x.answer.written out
  rest_kept = rw (l.written, l.first) (drop-append_seam (indoor_bytes_of plan file x.answer.answer) (drop (length (indoor_bytes_of plan file x.answer.answer)) out))

module _ (s : Indoor) (file response out : List ℕ) where
  pub response_leads : Leads s.plan file out (indoor_response_of s file response out)
  unfolding sends_bytes
  response_leads =
      response_walk s file response out (Leads s.plan file out)
      (record { first = refl; written = refl })
      (record { first = refl; written = refl })
      (record { first = refl; written = refl })
      (λ _ _ _ _. record { first = refl; written = refl })

  -- The buffer is neither longer nor shorter afterwards.
  pub response_length : length (indoor_response_of s file response out).memory ≡ length out
  response_length =
      response_walk s file response out (λ x. length x.memory ≡ length out) refl refl refl
      (λ r _ room _. written_length s.plan file (indoor_decide_of s.plan s.state r).answer out room)

module _ (s : Indoor) (file : List ℕ) (elapsed : ℕ) (out : List ℕ) where
  pub time_leads : Leads s.plan file out (indoor_time_of s file elapsed out)
  unfolding sends_bytes
  time_leads =
      time_walk s file elapsed out (Leads s.plan file out)
      (record { first = refl; written = refl })
      (record { first = refl; written = refl })
      (λ _ _. record { first = refl; written = refl })

  pub time_length : length (indoor_time_of s file elapsed out).memory ≡ length out
  time_length =
      time_walk s file elapsed out (λ x. length x.memory ≡ length out) refl refl
      (λ _ room. written_length s.plan file (indoor_tick_of s.plan s.state elapsed).answer out room)
