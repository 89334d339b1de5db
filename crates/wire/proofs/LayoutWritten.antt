-- The bytes of every message that is written, place by place in the standard's own numbers (001 T5-4 to T5-12, T5-18, T5-20, T5-22, T5-24).
-- Numbers go low byte first (01, Sizes and numbers).
use Prim.Native.Nat.{ℕ, ◌*◌, ◌/◌, ◌%◌}
use mathlib.Core.Bool.{true, false}
use mathlib.Core.Path.{◌≡◌, refl}
use mathlib.Core.List.{List, [], ◌∷◌, map}
use Rattle.wire.specs.Codes.{unable}
use Rattle.wire.specs.Written.{bare_bytes, initiate_bytes, head_bytes, identified_bytes, initiated_bytes, receipt_bytes, validated_bytes, request_bytes, response_bytes}
use Rattle.wire.specs.declared.request.Versions.{Versions}
use Rattle.wire.specs.declared.request.Request.TheVariants as Req
use Rattle.wire.specs.declared.response.Identity.{Identity}
use Rattle.wire.specs.declared.response.Response.TheVariants as Res

-- Of DATA it is the head: the block follows from place 4 on.
pub request_rows : (v : Versions) (number size : ℕ)
    → map request_bytes (Req.GetFwId ∷ Req.Initiate v ∷ Req.Data number size ∷ Req.Validate ∷ Req.Abort ∷ Req.NotBuilt ∷ [])
    ≡ (0x01 ∷ 0x81 ∷ [])
    ∷ (
    0x01
    ∷ 0x82
    ∷ v.first % 256
    ∷ v.first / 256 % 256
    ∷ v.second % 256
    ∷ v.second / 256 % 256
    ∷ v.third % 256
    ∷ v.third / 256 % 256
    ∷ v.fourth % 256
    ∷ v.fourth / 256 % 256
    ∷ [])
    ∷ (0x01 ∷ 0x83 ∷ number % 256 ∷ number / 256 % 256 ∷ [])
    ∷ (0x01 ∷ 0x85 ∷ [])
    ∷ (0x01 ∷ 0x86 ∷ [])
    ∷ []
    ∷ []
unfolding request_bytes bare_bytes initiate_bytes head_bytes
request_rows v number size = refl

-- 001 T5-18: Status, VID, PID, HWVersion, SiVersion 7:4, FWVersion1 to 4, ImageBank, Flags1 3:0, Flags2 1:0, Flags3 4:0, Flags4 3:0.
pub identity_row : (status : ℕ) (i : Identity)
    → response_bytes (Res.GetFwId status i)
    ≡ 0x01
    ∷ 0x01
    ∷ status
    ∷ i.vendor % 256
    ∷ i.vendor / 256 % 256
    ∷ i.product % 256
    ∷ i.product / 256 % 256
    ∷ i.hardware
    ∷ i.silicon / 16 * 16
    ∷ i.versions.first % 256
    ∷ i.versions.first / 256 % 256
    ∷ i.versions.second % 256
    ∷ i.versions.second / 256 % 256
    ∷ i.versions.third % 256
    ∷ i.versions.third / 256 % 256
    ∷ i.versions.fourth % 256
    ∷ i.versions.fourth / 256 % 256
    ∷ i.bank
    ∷ i.flags1 % 16
    ∷ i.flags2 % 4
    ∷ i.flags3 % 32
    ∷ i.flags4 % 16
    ∷ []
unfolding response_bytes identified_bytes
identity_row status i = refl

-- 001 T5-20: Status, WaitTime, MaxImageSize 19:0. 001 T5-22: Status, WaitTime, NumDataNR, DataBlockNum. 001 T5-24: Status, WaitTime, Flags.
pub response_rows : (status wait size number : ℕ)
    → map response_bytes (Res.Initiate status wait size ∷ Res.Data status wait number ∷ Res.Validate status wait true ∷ Res.Validate status wait false ∷ Res.NotBuilt ∷ [])
    ≡ (0x01 ∷ 0x02 ∷ status ∷ wait ∷ size % 256 ∷ size / 256 % 256 ∷ size / 65536 % 16 ∷ [])
    ∷ (0x01 ∷ 0x03 ∷ status ∷ wait ∷ 0 ∷ number % 256 ∷ number / 256 % 256 ∷ [])
    ∷ (0x01 ∷ 0x05 ∷ status ∷ wait ∷ 0x01 ∷ [])
    ∷ (0x01 ∷ 0x05 ∷ status ∷ wait ∷ 0x00 ∷ [])
    ∷ []
    ∷ []
unfolding response_bytes initiated_bytes receipt_bytes validated_bytes
response_rows status wait size number = refl

-- An answer with a status other than OK has WaitTime 255 and its later fields zero (01, The receiver's phases).
pub unable_rows : (status : ℕ)
    → map response_bytes (Res.Initiate status unable 0 ∷ Res.Data status unable 0 ∷ Res.Validate status unable false ∷ [])
    ≡ (0x01 ∷ 0x02 ∷ status ∷ 0xFF ∷ 0 ∷ 0 ∷ 0 ∷ [])
    ∷ (0x01 ∷ 0x03 ∷ status ∷ 0xFF ∷ 0 ∷ 0 ∷ 0 ∷ [])
    ∷ (0x01 ∷ 0x05 ∷ status ∷ 0xFF ∷ 0 ∷ [])
    ∷ []
unfolding response_bytes initiated_bytes receipt_bytes validated_bytes
unable_rows status = refl
