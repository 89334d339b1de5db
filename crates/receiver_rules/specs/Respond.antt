-- The bytes of the response that goes out with an answer (01, Numbers we answer).
use Rattle.std.specs.Prelude.{ℕ, List, [], Option, Some, None}
use Rattle.wire.specs.Written.{response_bytes}
use Rattle.receiver_state.specs.Answer.{reply_of}
use Rattle.receiver_state.specs.declared.answer.Answer.{Answer}
use Rattle.wire.specs.declared.response.Response.{Response}
use Rattle.receiver_state.specs.declared.session.Receiver.{Receiver}

unfoldable pub reply_bytes : Option Response → List ℕ
reply_bytes None = []
reply_bytes (Some response) = response_bytes response

abbrev pub receiver_bytes_of : Receiver → Answer → List ℕ
receiver_bytes_of r answer = reply_bytes (reply_of r.identity r.capacity answer)
