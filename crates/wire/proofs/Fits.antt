-- How long a message without its block is (001 T5-18 is the longest).
use Prim.Native.Nat.{◌≤◌}
use native.Mathlib.Omega.{arith}
use lib.ListN.{length}
use Rattle.wire.specs.Written.{request_bytes, response_bytes, bare_bytes, initiate_bytes, head_bytes, identified_bytes, initiated_bytes, receipt_bytes, validated_bytes}
use Rattle.wire.specs.declared.request.Request.{Request}
use Rattle.wire.specs.declared.request.Request.TheVariants as Req
use Rattle.wire.specs.declared.response.Response.{Response}
use Rattle.wire.specs.declared.response.Response.TheVariants as Res

pub request_fits : (r : Request) → length (request_bytes r) ≤ 22
unfolding request_bytes bare_bytes initiate_bytes head_bytes
request_fits Req.GetFwId = omega arith
request_fits (Req.Initiate v) = omega arith
request_fits (Req.Data n size) = omega arith
request_fits Req.Validate = omega arith
request_fits Req.Abort = omega arith
request_fits Req.NotBuilt = omega arith

pub response_fits : (r : Response) → length (response_bytes r) ≤ 22
unfolding response_bytes identified_bytes initiated_bytes receipt_bytes validated_bytes
response_fits (Res.GetFwId st i) = omega arith
response_fits (Res.Initiate st w size) = omega arith
response_fits (Res.Data st w n) = omega arith
response_fits (Res.Validate st w success) = omega arith
response_fits Res.NotBuilt = omega arith
