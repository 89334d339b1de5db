-- Each public contract leaves one answer and one state of the lent memory. Written from the contracts by tools/contracts.
use Rattle.std.specs.Prelude.{List, ℕ, Result, ◌≡◌}
use Rattle.basis.specs.Left.{left}
use Rattle.basis.specs.Only.{only}
use Rattle.wire.specs.Written.{request_bytes, response_bytes}
use Rattle.wire.specs.declared.request.Request.{Request}
use Rattle.wire.specs.declared.response.Response.{Response}
use Rattle.writing.specs.Message.{send_of, message_of}
use Rattle.writing.specs.declared.message.Message.{Message}
use Rattle.writing.specs.declared.message.TooShort.{TooShort}

pub one_send : (self : Message) (out : List ℕ) (r r' : Result ℕ TooShort) (out_left out_left' : List ℕ)
    → left r out_left ≡ send_of self out
    → left r' out_left' ≡ send_of self out
    → left r out_left ≡ left r' out_left'
one_send self out r r' out_left out_left' is is' = only is is'

pub one_write_request : (request : Request) (r r' : Message)
    → r ≡ message_of (request_bytes request)
    → r' ≡ message_of (request_bytes request)
    → r ≡ r'
one_write_request request r r' is is' = only is is'

pub one_write_response : (response : Response) (r r' : Message)
    → r ≡ message_of (response_bytes response)
    → r' ≡ message_of (response_bytes response)
    → r ≡ r'
one_write_response response r r' is is' = only is is'
