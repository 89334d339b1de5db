-- The bytes of each message that is written. Reserved bits are zero (001 section 1.4.2.8), and what is not built has none.
use Rattle.std.specs.Prelude.{ℕ, ◌/◌, ◌%◌, Bool, true, false, List, [], ◌∷◌}
use Rattle.wire.specs.Codes.{version, get_fw_id, initiate, datum, validate, abort, get_fw_id_response, initiate_response, data_response, validate_response}
use Rattle.wire.specs.Numbers.{low, high}
use Rattle.wire.specs.Identity.{cleared}
use Rattle.wire.specs.declared.request.Versions.{Versions}
use Rattle.wire.specs.declared.request.Request.{Request}
use Rattle.wire.specs.declared.request.Request.TheVariants as Req
use Rattle.wire.specs.declared.response.Identity.{Identity}
use Rattle.wire.specs.declared.response.Response.{Response}
use Rattle.wire.specs.declared.response.Response.TheVariants as Res

-- 001 T5-4, T5-11, T5-12
unfoldable pub bare_bytes : ℕ → List ℕ
bare_bytes t = version ∷ t ∷ []

-- FWVersion1 to FWVersion4 (001 T5-6, T5-18)
abbrev pub version_bytes : Versions → List ℕ → List ℕ
version_bytes v rest = low v.first ∷ high v.first ∷ low v.second ∷ high v.second ∷ low v.third ∷ high v.third ∷ low v.fourth ∷ high v.fourth ∷ rest

-- 001 T5-6
unfoldable pub initiate_bytes : Versions → List ℕ
initiate_bytes v = version ∷ initiate ∷ version_bytes v []

-- 001 T5-8: what comes before the block
unfoldable pub head_bytes : ℕ → List ℕ
head_bytes n = version ∷ datum ∷ low n ∷ high n ∷ []

-- 001 T5-18
abbrev pub identity_bytes : Identity → List ℕ
identity_bytes i =
    low i.vendor ∷ high i.vendor ∷ low i.product ∷ high i.product ∷ i.hardware ∷ i.silicon ∷ version_bytes i.versions
    (i.bank ∷ i.flags1 ∷ i.flags2 ∷ i.flags3 ∷ i.flags4 ∷ [])

unfoldable pub identified_bytes : ℕ → Identity → List ℕ
identified_bytes st i = version ∷ get_fw_id_response ∷ st ∷ identity_bytes (cleared i)

-- 001 T5-20: MaxImageSize 23:20 are reserved
unfoldable pub initiated_bytes : ℕ → ℕ → ℕ → List ℕ
initiated_bytes st w size = version ∷ initiate_response ∷ st ∷ w ∷ low size ∷ high size ∷ size / 65536 % 16 ∷ []

-- 001 T5-22: NumDataNR is always 0 (01, The receiver's phases)
unfoldable pub receipt_bytes : ℕ → ℕ → ℕ → List ℕ
receipt_bytes st w n = version ∷ data_response ∷ st ∷ w ∷ 0 ∷ low n ∷ high n ∷ []

-- 001 T5-24: success is bit 0 of Flags
abbrev pub flag_of : Bool → ℕ
flag_of true = 1
flag_of false = 0

unfoldable pub validated_bytes : ℕ → ℕ → Bool → List ℕ
validated_bytes st w success = version ∷ validate_response ∷ st ∷ w ∷ flag_of success ∷ []

-- Of a DATA request these are the head alone: the block follows it.
unfoldable pub request_bytes : Request → List ℕ
request_bytes Req.GetFwId = bare_bytes get_fw_id
request_bytes (Req.Initiate v) = initiate_bytes v
request_bytes (Req.Data n size) = head_bytes n
request_bytes Req.Validate = bare_bytes validate
request_bytes Req.Abort = bare_bytes abort
request_bytes Req.NotBuilt = []

unfoldable pub response_bytes : Response → List ℕ
response_bytes (Res.GetFwId st i) = identified_bytes st i
response_bytes (Res.Initiate st w size) = initiated_bytes st w size
response_bytes (Res.Data st w n) = receipt_bytes st w n
response_bytes (Res.Validate st w success) = validated_bytes st w success
response_bytes Res.NotBuilt = []
