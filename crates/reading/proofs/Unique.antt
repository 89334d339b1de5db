-- Each public contract leaves one answer and one state of the lent memory. Written from the contracts by tools/contracts.
use Rattle.std.specs.Prelude.{List, ℕ, Result, ◌≡◌}
use Rattle.basis.specs.Only.{only}
use Rattle.wire.specs.Request.{parsed_request_of}
use Rattle.wire.specs.Response.{parsed_response_of}
use Rattle.wire.specs.declared.malformed.Malformed.{Malformed}
use Rattle.wire.specs.declared.request.Request.{Request}
use Rattle.wire.specs.declared.response.Response.{Response}

pub one_read_request : (msg : List ℕ) (r r' : Result Request Malformed)
    → r ≡ parsed_request_of msg
    → r' ≡ parsed_request_of msg
    → r ≡ r'
one_read_request msg r r' is is' = only is is'

pub one_read_response : (msg : List ℕ) (r r' : Result Response Malformed)
    → r ≡ parsed_response_of msg
    → r' ≡ parsed_response_of msg
    → r ≡ r'
one_read_response msg r r' is is' = only is is'
