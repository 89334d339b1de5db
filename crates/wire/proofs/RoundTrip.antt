-- Reading what was written gives back the fields as sent, for every request and every response.
use Prim.Native.Nat.{ℕ, ◌/◌, ◌%◌, ◌<◌, ◌≤◌}
use mathlib.Core.Bool.{true, false}
use mathlib.Core.Path.{◌≡◌, refl}
use mathlib.Core.List.{List, ◌++◌}
use lib.ListN.{length}
use Rattle.basis.specs.Pick.{pick, differ}
use Rattle.wire.specs.Header.{headed}
use Rattle.wire.specs.Identity.{cleared}
use Rattle.wire.specs.Request as request
use Rattle.wire.specs.Response as response
use Rattle.wire.specs.Written.{bare_bytes, initiate_bytes, head_bytes, identified_bytes, initiated_bytes, receipt_bytes, validated_bytes, request_bytes, response_bytes}
use Rattle.wire.specs.Fields.{Words, Sendable, Answerable, as_read}
use Rattle.wire.specs.declared.request.Versions.{Versions}
use Rattle.wire.specs.declared.request.Request.{Request}
use Rattle.wire.specs.declared.request.Request.TheVariants as Req
use Rattle.wire.specs.declared.response.Identity.{Identity}
use Rattle.wire.specs.declared.response.Response.{Response}
use Rattle.wire.specs.declared.response.Response.TheVariants as Res
use Rattle.wire.proofs.LayoutRead.{data_reads}
use Rattle.wire.proofs.Halves.{word_back, size_back, upper_twice, rest_twice}
use Rattle.std.specs.Prelude.{Ok}

initiate_back : (v : Versions) → Words v → request.parsed_request_of (initiate_bytes v) ≡ Ok (Req.Initiate v)
unfolding request.parsed_request_of headed initiate_bytes request.request_of_type request.initiate_in pick differ
initiate_back v w = rw (word_back v.first w.0, word_back v.second w.1, word_back v.third w.2, word_back v.fourth w.3)

data_back : (n : ℕ) (b : List ℕ) → n < 65536 → length b ≤ 256 → request.parsed_request_of (head_bytes n ++ b) ≡ Ok (Req.Data n (length b))
unfolding head_bytes
data_back n b h k = rw (word_back n h) at (data_reads (n % 256) (n / 256 % 256) b k)

pub request_back : (r : Request) (block : List ℕ) → Sendable r block → request.parsed_request_of (request_bytes r ++ block) ≡ Ok r
unfolding request_bytes bare_bytes initiate_bytes request.parsed_request_of headed request.request_of_type request.bare_in pick differ
request_back Req.GetFwId b e = rw e
request_back (Req.Initiate v) b h = rw h.0 (initiate_back v h.1)
request_back (Req.Data n size) b h = rw (← h.1) (data_back n b h.0 (rw h.1 h.2))
request_back Req.Validate b e = rw e
request_back Req.Abort b e = rw e
request_back Req.NotBuilt b h = absurd h

identity_back : (st : ℕ) (i : Identity) → Answerable (Res.GetFwId st i) → response.parsed_response_of (identified_bytes st i) ≡ Ok (Res.GetFwId st (cleared i))
unfolding response.parsed_response_of headed identified_bytes response.response_of_type response.identified_in pick differ
identity_back st i h =
    let v = i.versions in
    let w = h.2 in
    simp (
      word_back i.vendor h.0,
      word_back i.product h.1,
      word_back v.first w.0,
      word_back v.second w.1,
      word_back v.third w.2,
      word_back v.fourth w.3,
      upper_twice,
      rest_twice 16,
      rest_twice 4,
      rest_twice 32,
    )

pub response_back : (r : Response) → Answerable r → response.parsed_response_of (response_bytes r) ≡ Ok (as_read r)
unfolding response_bytes initiated_bytes receipt_bytes validated_bytes response.parsed_response_of headed response.response_of_type response.initiated_in response.receipt_in response.validated_in pick differ
response_back (Res.GetFwId st i) h = identity_back st i h
response_back (Res.Initiate st w size) h = rw (size_back size h)
response_back (Res.Data st w n) h = rw (word_back n h)
response_back (Res.Validate st w true) _ = refl
response_back (Res.Validate st w false) _ = refl
response_back Res.NotBuilt h = absurd h
