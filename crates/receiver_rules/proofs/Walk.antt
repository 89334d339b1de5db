-- Every request call is one of five: kept and answered 28, 27, 26 or 20, or a step that was decided and done.
use Prim.Native.Nat.{ℕ, ◌≤◌}
use mathlib.Core.Path.{◌≡◌, refl}
use mathlib.Core.List.{List}
use borrow.Author.Tests.{ltb-false}
use lib.Dec.{ltb}
use lib.ListN.{length}
use Rattle.basis.specs.Pick.{pick_all, differ, differ_false}
use Rattle.basis.specs.Left.{Left, left}
use Rattle.wire.specs.Codes.{longest}
use Rattle.wire.specs.Request as message
use Rattle.wire.specs.declared.request.Request.{Request}
use Rattle.wire.specs.Request.{Parsed}
use Rattle.receiver_state.specs.declared.answer.Answer.TheVariants.{Malformed, OutOfRange, BufferShort, ImageLength}
use Rattle.receiver_rules.specs.Range.{out_of_range}
use Rattle.receiver_rules.specs.Decide.{receiver_decide_of}
use Rattle.receiver_rules.specs.Tick.{receiver_tick_of}
use Rattle.receiver_state.specs.declared.verdict.Verdict.{Verdict}
use Rattle.receiver_rules.specs.Session.{receiver_returns}
use Rattle.receiver_rules.specs.Request.{Effect, request_kept, request_done, request_read_of, receiver_request_of}
use Rattle.receiver_rules.specs.Time.{receiver_ticked_of, receiver_elapsed_of, receiver_time_of}
use Rattle.receiver_state.specs.declared.session.Receiver.{Receiver}
use Rattle.receiver_state.specs.Session.{Outcome}
use Rattle.std.specs.Prelude.{Ok, Err}
use Rattle.wire.specs.Header.{malformed}

module _ (r : Receiver) (image request : List ℕ) (readiness : ℕ) (verdict : Verdict) (out : List ℕ) where
  -- The effect of the step that a well-formed request asks for.
  abbrev pub heard : Request → Effect
  heard q = request_done r (receiver_decide_of r.phase q r.capacity readiness verdict) image request out

  read_walk : (P : Effect → Type 0) (m : Parsed) → (m ≡ malformed → P (request_kept r Malformed image out)) → ((q : Request) → m ≡ Ok q → P (heard q))
      → P (request_read_of r m image request readiness verdict out)
  unfolding request_read_of
  read_walk P (Err refusal) bad good = bad refl
  read_walk P (Ok q) bad good = good q refl

  pub request_walk : (P : Effect → Type 0)
      → P (request_kept r ImageLength image out)
      → P (request_kept r BufferShort image out)
      → P (request_kept r OutOfRange image out)
      → P (request_kept r Malformed image out)
      → ((q : Request) → length image ≡ r.capacity → longest ≤ length out → message.parsed_request_of request ≡ Ok q → P (heard q))
      → P (receiver_request_of r image request readiness verdict out)
  unfolding receiver_request_of
  request_walk P length-bad short range bad good =
      pick_all P (differ (length image) r.capacity) _ _ (λ _. length-bad)
      (λ a. pick_all P (ltb (length out) longest) _ _ (λ _. short)
      (λ b. pick_all P (out_of_range readiness verdict) _ _ (λ _. range)
      (λ _. read_walk P (message.parsed_request_of request) (λ _. bad)
      (λ q e. good q (differ_false (length image) r.capacity a) (ltb-false (length out) longest b) e))))

module _ (r : Receiver) (elapsed : ℕ) (out : List ℕ) where
  pub time_walk : (P : Left Outcome → Type 0)
      → P (left (receiver_returns r BufferShort 0) out)
      → (longest ≤ length out → P (receiver_ticked_of r (receiver_tick_of r.phase r.silence elapsed r.resends r.settings) out))
      → P (receiver_time_of r elapsed out)
  unfolding receiver_time_of receiver_elapsed_of
  time_walk P short passed = pick_all P (ltb (length out) longest) _ _ (λ _. short) (λ t. passed (ltb-false (length out) longest t))
