-- What one request does: everything that the call returns and leaves, for every session, image, request, readiness, verdict and buffer.
use Rattle.std.specs.Prelude.{ℕ, ◌≤◌, List, Option, Some, None, ltb, length, drop}
use Rattle.basis.specs.Pick.{pick, differ}
use Rattle.lent.specs.Written.{written_into}
use Rattle.image.specs.Blocks.{put_block_of}
use Rattle.wire.specs.Codes.{longest, data_head}
use Rattle.wire.specs.Request as message
use Rattle.wire.specs.Request.{Parsed}
use Rattle.receiver_rules.specs.Range.{out_of_range}
use Rattle.receiver_rules.specs.Decide.{receiver_decide_of}
use Rattle.receiver_state.specs.declared.verdict.Verdict.{Verdict}
use Rattle.receiver_state.specs.declared.answer.Answer.{Answer}
use Rattle.receiver_state.specs.declared.answer.Answer.TheVariants.{Malformed, OutOfRange, BufferShort, ImageLength}
use Rattle.receiver_state.specs.declared.step.Step.{Step}
use Rattle.receiver_rules.specs.Session.{receiver_returns, receiver_moved}
use Rattle.receiver_rules.specs.Respond.{receiver_bytes_of}
use Rattle.receiver_state.specs.declared.session.Receiver.{Receiver}
use Rattle.receiver_state.specs.Session.{Outcome}
use Rattle.std.specs.Prelude.{Ok, Err}

-- What a request call returns, and the image and the output buffer that it leaves.
pub record Effect : Type 0 where
  pub outcome : Outcome
  pub image : List ℕ
  pub out : List ℕ

abbrev pub effect : Outcome → List ℕ → List ℕ → Effect
effect outcome image out = record { outcome = outcome; image = image; out = out }

-- Kept: nothing changes.
abbrev pub request_kept : Receiver → Answer → List ℕ → List ℕ → Effect
request_kept r answer image out = effect (receiver_returns r answer 0) image out

-- The block is the part of the request from its fifth byte.
unfoldable pub image_after : Option ℕ → List ℕ → List ℕ → List ℕ
image_after None image request = image
image_after (Some number) image request = (put_block_of image number (drop data_head request)).memory

-- A request whose block is put into the image has the four bytes before the block.
abbrev pub HasBlock : Option ℕ → List ℕ → Type 0
HasBlock None request = Unit
HasBlock (Some number) request = data_head ≤ length request

-- A well-formed request sets silence and resends to zero, also one that is answered 21 to 25.
abbrev pub request_done : Receiver → Step → List ℕ → List ℕ → List ℕ → Effect
request_done r step image request out =
    effect (receiver_returns (receiver_moved r step.phase 0 0) step.answer (length (receiver_bytes_of r step.answer)))
    (image_after step.store image request)
    (written_into (receiver_bytes_of r step.answer) out)

-- 20, and then what the request asks for
unfoldable pub request_read_of : Receiver → Parsed → List ℕ → List ℕ → ℕ → Verdict → List ℕ → Effect
request_read_of r (Err refusal) image request readiness verdict out = request_kept r Malformed image out
request_read_of r (Ok valid) image request readiness verdict out =
    request_done r (receiver_decide_of r.phase valid r.capacity readiness verdict) image request out

-- 28, 27, 26, 20, and then what the request asks for
unfoldable pub receiver_request_of : Receiver → List ℕ → List ℕ → ℕ → Verdict → List ℕ → Effect
receiver_request_of r image request readiness verdict out =
    pick (differ (length image) r.capacity) (request_kept r ImageLength image out)
    (pick (ltb (length out) longest) (request_kept r BufferShort image out)
    (pick (out_of_range readiness verdict) (request_kept r OutOfRange image out)
    (request_read_of r (message.parsed_request_of request) image request readiness verdict out)))
