-- The bytes of the request that goes out with an answer (01, Numbers we answer).
use Rattle.std.specs.Prelude.{ℕ, List, [], ◌++◌, length, Option, Some, None}
use Rattle.image.specs.Blocks.{block_at}
use Rattle.wire.specs.Written.{request_bytes}
use Rattle.wire.specs.declared.request.Versions.{Versions}
use Rattle.wire.specs.declared.request.Request.TheVariants as Req
use Rattle.indoor_state.specs.Answer.{sends_of}
use Rattle.indoor_state.specs.declared.plan.Plan.{Plan}
use Rattle.indoor_state.specs.declared.answer.Answer.{Answer}
use Rattle.indoor_state.specs.declared.answer.Sends.{Sends}
use Rattle.indoor_state.specs.declared.answer.Sends.TheVariants.{GetFwId, Initiate, Block, Validate, Abort}

-- DATA carries block j of the lent file; block n is the empty one.
unfoldable pub block_bytes : List ℕ → ℕ → List ℕ
block_bytes file number = request_bytes (Req.Data number (length (block_at file number))) ++ block_at file number

unfoldable pub sends_bytes : Versions → List ℕ → Option Sends → List ℕ
sends_bytes versions file None = []
sends_bytes versions file (Some GetFwId) = request_bytes Req.GetFwId
sends_bytes versions file (Some Initiate) = request_bytes (Req.Initiate versions)
sends_bytes versions file (Some (Block number)) = block_bytes file number
sends_bytes versions file (Some Validate) = request_bytes Req.Validate
sends_bytes versions file (Some Abort) = request_bytes Req.Abort

abbrev pub indoor_bytes_of : Plan → List ℕ → Answer → List ℕ
indoor_bytes_of plan file answer = sends_bytes plan.release.versions file (sends_of answer)
