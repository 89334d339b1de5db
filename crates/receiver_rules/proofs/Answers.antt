-- The order of the refusals in the paper's own numbers: 28, 27, 26, 20, and then the step (01, Numbers we answer).
use Prim.Native.Nat.{ℕ, ◌≤◌, ◌<◌}
use mathlib.Core.Bool.{true, false}
use mathlib.Core.Path.{◌≡◌}
use mathlib.Core.List.{List}
use borrow.Author.Tests.{lt-ltb, le-ltb}
use lib.ListN.{length, take}
use Rattle.std.specs.Prelude.{Ok, Err}
use Rattle.wire.specs.Header.{malformed}
use Rattle.basis.specs.Pick.{pick, eq_differ, ne_differ}
use Rattle.lent.specs.Written.{written_into}
use Rattle.image.specs.Sum as sums
use Rattle.wire.specs.Request as message
use Rattle.wire.specs.declared.request.Request.{Request}
use Rattle.receiver_state.specs.Phase.{accepted_of}
use Rattle.receiver_state.specs.declared.answer.Answer.TheVariants.{Malformed, OutOfRange, BufferShort, ImageLength}
use Rattle.receiver_rules.specs.Range.{out_of_range}
use Rattle.receiver_rules.specs.Decide.{receiver_decide_of}
use Rattle.receiver_state.specs.declared.verdict.Verdict.{Verdict}
use Rattle.receiver_rules.specs.Session.{receiver_returns}
use Rattle.receiver_rules.specs.Request.{effect, image_after, request_read_of, receiver_request_of}
use Rattle.receiver_rules.specs.Respond.{receiver_bytes_of}
use Rattle.receiver_rules.specs.Sum.{receiver_sum_of}
use Rattle.receiver_state.specs.declared.session.Receiver.{Receiver}

module _ (r : Receiver) (image request : List ℕ) (readiness : ℕ) (verdict : Verdict) (out : List ℕ) where
  pub answers_28 : (length image ≡ r.capacity → ⊥) → receiver_request_of r image request readiness verdict out ≡ effect (receiver_returns r ImageLength 0) image out
  unfolding receiver_request_of pick
  answers_28 h = rw (ne_differ (length image) r.capacity h)

  module _ (lent : length image ≡ r.capacity) where
    pub answers_27 : length out < 260 → receiver_request_of r image request readiness verdict out ≡ effect (receiver_returns r BufferShort 0) image out
    unfolding receiver_request_of pick
    answers_27 h = rw (eq_differ (length image) r.capacity lent, lt-ltb (length out) 260 h)

    module _ (room : 260 ≤ length out) where
      pub answers_26 : out_of_range readiness verdict ≡ true → receiver_request_of r image request readiness verdict out ≡ effect (receiver_returns r OutOfRange 0) image out
      unfolding receiver_request_of pick
      answers_26 h = rw (eq_differ (length image) r.capacity lent, le-ltb (length out) 260 room, h)

      pub answers_20 : out_of_range readiness verdict ≡ false → message.parsed_request_of request ≡ malformed
          → receiver_request_of r image request readiness verdict out ≡ effect (receiver_returns r Malformed 0) image out
      unfolding receiver_request_of request_read_of pick
      answers_20 h e = rw (eq_differ (length image) r.capacity lent, le-ltb (length out) 260 room, h, e)

      -- What is decided is handed on, each field under its own name; silence and resends are zero, and what is sent is in the buffer's first bytes.
      pub answers_step : (q : Request) → out_of_range readiness verdict ≡ false → message.parsed_request_of request ≡ Ok q
          → let step = receiver_decide_of r.phase q r.capacity readiness verdict in
          receiver_request_of r image request readiness verdict out
          ≡ effect (record {
            session = record {
              settings = r.settings;
              identity = r.identity;
              capacity = r.capacity;
              phase = step.phase;
              silence = 0;
              resends = 0;
            };
            answer = step.answer;
            written = length (receiver_bytes_of r step.answer);
          }) (image_after step.store image request) (written_into (receiver_bytes_of r step.answer) out)
      unfolding receiver_request_of request_read_of pick
      answers_step q h e = rw (eq_differ (length image) r.capacity lent, le-ltb (length out) 260 room, h, e)

-- The sum: 28, or the sum of the accepted bytes.
module _ (r : Receiver) (image : List ℕ) where
  pub sum_28 : (length image ≡ r.capacity → ⊥) → receiver_sum_of r image ≡ Err (record {})
  unfolding receiver_sum_of pick
  sum_28 h = rw (ne_differ (length image) r.capacity h)

  pub sum_0 : length image ≡ r.capacity → receiver_sum_of r image ≡ Ok (sums.sum_of (take (accepted_of r.phase).bytes image))
  unfolding receiver_sum_of pick
  sum_0 h = rw (eq_differ (length image) r.capacity h)
