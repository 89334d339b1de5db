-- 001 T5-3 and T5-16 row by row, whatever else the message holds: what each type is read as, and that every other type is refused.
use Prim.Native.Nat.{ℕ}
use mathlib.Core.Path.{◌≡◌, refl}
use mathlib.Core.List.{List, [], ◌∷◌, map}
use lib.ListN.{replicate}
use Rattle.basis.specs.Pick.{pick}
use Rattle.basis.specs.Table.{tabulate}
use Rattle.wire.specs.Request as request
use Rattle.wire.specs.Response as response
use Rattle.wire.specs.declared.request.Request.TheVariants as Req
use Rattle.wire.specs.declared.response.Response.TheVariants as Res
use Rattle.std.specs.Prelude.{Ok}
use Rattle.wire.specs.Header.{malformed}

-- n types from t on
abbrev from : ℕ → ℕ → List ℕ
from t n = tabulate (λ u. u) t n

module _ (m : List ℕ) where
  -- 81h to 87h, FFh
  pub request_types :
      map (request.request_of_type m) (0x81 ∷ 0x82 ∷ 0x83 ∷ 0x84 ∷ 0x85 ∷ 0x86 ∷ 0x87 ∷ 0xFF ∷ [])
      ≡ request.bare_in m Req.GetFwId
      ∷ request.initiate_in m
      ∷ request.data_in m
      ∷ Ok Req.NotBuilt
      ∷ request.bare_in m Req.Validate
      ∷ request.bare_in m Req.Abort
      ∷ Ok Req.NotBuilt
      ∷ Ok Req.NotBuilt
      ∷ []
  unfolding request.request_of_type pick
  request_types = refl

  -- 00h to 7Fh are responses' and 80h is reserved; so are 88h to FEh
  pub request_types_low : map (request.request_of_type m) (from 0x00 129) ≡ replicate 129 malformed
  unfolding request.request_of_type pick
  request_types_low = refl

  pub request_types_high : map (request.request_of_type m) (from 0x88 119) ≡ replicate 119 malformed
  unfolding request.request_of_type pick
  request_types_high = refl

  -- 00h to 07h, 04h and 06h being reserved, and 7Fh
  pub response_types :
      map (response.response_of_type m) (0x00 ∷ 0x01 ∷ 0x02 ∷ 0x03 ∷ 0x04 ∷ 0x05 ∷ 0x06 ∷ 0x07 ∷ 0x7F ∷ [])
      ≡ malformed
      ∷ response.identified_in m
      ∷ response.initiated_in m
      ∷ response.receipt_in m
      ∷ malformed
      ∷ response.validated_in m
      ∷ malformed
      ∷ Ok Res.NotBuilt
      ∷ Ok Res.NotBuilt
      ∷ []
  unfolding response.response_of_type pick
  response_types = refl

  -- 08h to 7Eh are reserved and 80h to FFh are requests'
  pub response_types_low : map (response.response_of_type m) (from 0x08 119) ≡ replicate 119 malformed
  unfolding response.response_of_type pick
  response_types_low = refl

  pub response_types_high : map (response.response_of_type m) (from 0x80 128) ≡ replicate 128 malformed
  unfolding response.response_of_type pick
  response_types_high = refl
