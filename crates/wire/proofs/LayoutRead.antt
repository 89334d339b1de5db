-- What each message is read as, byte by byte: with our version, a known type and the length of that type, every message of 2 to 260 bytes is
-- read (01, Numbers we answer: 20; 001 T5-3 to T5-12, T5-16 to T5-24). Of what is known and not built, any body is.
use borrow.Author.Tests.{le-ltb}
use Prim.Native.Nat.{ℕ, ◌+◌, ◌-◌, ◌*◌, ◌/◌, ◌%◌, ◌≤◌}
use mathlib.Core.Bool.{true}
use mathlib.Core.Path.{◌≡◌, refl}
use mathlib.Core.List.{List, [], ◌∷◌, map, Memᴰ}
use native.Mathlib.Omega.{arith}
use lib.ListN.{length}
use lib.Dec.{eqb}
use Rattle.basis.specs.Pick.{pick, differ}
use Rattle.wire.specs.Codes.{requests_not_built, responses_not_built}
use Rattle.wire.specs.Header.{headed}
use Rattle.wire.specs.Request as request
use Rattle.wire.specs.Response as response
use Rattle.wire.specs.declared.request.Request.TheVariants as Req
use Rattle.wire.specs.declared.response.Response.TheVariants as Res
use Rattle.wire.proofs.Walk.{says_header}
use Rattle.std.specs.Prelude.{Ok}

pub bare_reads :
    map request.parsed_request_of ((0x01 ∷ 0x81 ∷ []) ∷ (0x01 ∷ 0x85 ∷ []) ∷ (0x01 ∷ 0x86 ∷ []) ∷ [])
    ≡ Ok Req.GetFwId
    ∷ Ok Req.Validate
    ∷ Ok Req.Abort
    ∷ []
unfolding request.parsed_request_of headed request.request_of_type request.bare_in pick differ
bare_reads = refl

pub initiate_reads : (a b c d e f g h : ℕ)
    → request.parsed_request_of (0x01 ∷ 0x82 ∷ a ∷ b ∷ c ∷ d ∷ e ∷ f ∷ g ∷ h ∷ [])
    ≡ Ok (Req.Initiate (record { first = a + 256 * b; second = c + 256 * d; third = e + 256 * f; fourth = g + 256 * h }))
unfolding request.parsed_request_of headed request.request_of_type request.initiate_in pick differ
initiate_reads a b c d e f g h = refl

-- A body of up to 258 bytes behind our version and a type.
module _ (t : ℕ) (body : List ℕ) (most : length body ≤ 258) where
  begins : headed (0x01 ∷ t ∷ body) ≡ true
  begins = says_header (0x01 ∷ t ∷ body) (record { long = omega arith; short = omega arith; version = refl })

  request_body : request.parsed_request_of (0x01 ∷ t ∷ body) ≡ request.request_of_type (0x01 ∷ t ∷ body) t
  unfolding request.parsed_request_of pick
  request_body = rw begins

  response_body : response.parsed_response_of (0x01 ∷ t ∷ body) ≡ response.response_of_type (0x01 ∷ t ∷ body) t
  unfolding response.parsed_response_of pick
  response_body = rw begins

pub data_reads : (a b : ℕ) (block : List ℕ) → length block ≤ 256
    → request.parsed_request_of (0x01 ∷ 0x83 ∷ a ∷ b ∷ block) ≡ Ok (Req.Data (a + 256 * b) (length block))
unfolding request.request_of_type request.data_in pick
data_reads a b block most =
    let rest : length (0x01 ∷ 0x83 ∷ a ∷ b ∷ block) - 4 ≡ length block = omega arith in
    rw (request_body 0x83 (a ∷ b ∷ block) (omega arith), le-ltb (length (0x01 ∷ 0x83 ∷ a ∷ b ∷ block)) 4 (omega arith), rest)

module _ (body : List ℕ) (most : length body ≤ 258) where
  pub request_not_built_reads : (t : ℕ) → Memᴰ t requests_not_built → request.parsed_request_of (0x01 ∷ t ∷ body) ≡ Ok Req.NotBuilt
  unfolding request.request_of_type pick
  request_not_built_reads t (Memᴰ.head e) = rw e (request_body _ body most)
  request_not_built_reads t (Memᴰ.tail (Memᴰ.head e)) = rw e (request_body _ body most)
  request_not_built_reads t (Memᴰ.tail (Memᴰ.tail (Memᴰ.head e))) = rw e (request_body _ body most)
  request_not_built_reads t (Memᴰ.tail (Memᴰ.tail (Memᴰ.tail h))) = elim h [ ]

  pub response_not_built_reads : (t : ℕ) → Memᴰ t responses_not_built → response.parsed_response_of (0x01 ∷ t ∷ body) ≡ Ok Res.NotBuilt
  unfolding response.response_of_type pick
  response_not_built_reads t (Memᴰ.head e) = rw e (response_body _ body most)
  response_not_built_reads t (Memᴰ.tail (Memᴰ.head e)) = rw e (response_body _ body most)
  response_not_built_reads t (Memᴰ.tail (Memᴰ.tail h)) = elim h [ ]

pub identity_reads : (status a b c d hardware silicon e f g h i j k l bank flags1 flags2 flags3 flags4 : ℕ)
    → response.parsed_response_of (
    0x01 ∷ 0x01 ∷ status ∷ a ∷ b ∷ c ∷ d ∷ hardware ∷ silicon ∷ e ∷ f ∷ g ∷ h ∷ i ∷ j ∷ k ∷ l ∷ bank ∷ flags1 ∷ flags2 ∷ flags3 ∷ flags4 ∷ []
    )
    ≡ Ok (Res.GetFwId status (record {
      vendor = a + 256 * b;
      product = c + 256 * d;
      hardware = hardware;
      silicon = silicon / 16 * 16;
      versions = record { first = e + 256 * f; second = g + 256 * h; third = i + 256 * j; fourth = k + 256 * l };
      bank = bank;
      flags1 = flags1 % 16;
      flags2 = flags2 % 4;
      flags3 = flags3 % 32;
      flags4 = flags4 % 16;
    }))
unfolding response.parsed_response_of headed response.response_of_type response.identified_in pick differ
identity_reads status a b c d hardware silicon e f g h i j k l bank flags1 flags2 flags3 flags4 = refl

-- MaxImageSize 23:20 and Flags 7:1 are reserved, and NumDataNR is not looked at.
module _ (status wait a b c : ℕ) where
  pub initiated_reads : response.parsed_response_of (0x01 ∷ 0x02 ∷ status ∷ wait ∷ a ∷ b ∷ c ∷ []) ≡ Ok (Res.Initiate status wait (a + 256 * b + 65536 * (c % 16)))
  unfolding response.parsed_response_of headed response.response_of_type response.initiated_in pick differ
  initiated_reads = refl

  pub receipt_reads : response.parsed_response_of (0x01 ∷ 0x03 ∷ status ∷ wait ∷ a ∷ b ∷ c ∷ []) ≡ Ok (Res.Data status wait (b + 256 * c))
  unfolding response.parsed_response_of headed response.response_of_type response.receipt_in pick differ
  receipt_reads = refl

  pub validated_reads : response.parsed_response_of (0x01 ∷ 0x05 ∷ status ∷ wait ∷ a ∷ []) ≡ Ok (Res.Validate status wait (eqb (a % 2) 1))
  unfolding response.parsed_response_of headed response.response_of_type response.validated_in pick differ
  validated_reads = refl
