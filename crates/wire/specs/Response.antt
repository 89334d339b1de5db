-- What a response says. It is malformed if its length, version, type or body length is wrong, in this order (01, Numbers we answer: 20).
-- Reserved bits are ignored (001 section 1.4.2.8).
use Rattle.std.specs.Prelude.{ℕ, ◌+◌, ◌*◌, ◌%◌, not, List, length, eqb, Result, Ok}
use Rattle.basis.specs.Pick.{pick, differ}
use Rattle.wire.specs.Codes.{get_fw_id_response, initiate_response, data_response, validate_response, data_pause_response, vendor_specific_response, get_fw_id_response_length, initiate_response_length, data_response_length, validate_response_length}
use Rattle.wire.specs.Header.{malformed, headed}
use Rattle.basis.specs.Bytes.{byte_at}
use Rattle.wire.specs.Numbers.{word_at}
use Rattle.wire.specs.Identity.{cleared, identity_in}
use Rattle.wire.specs.declared.response.Response.TheVariants.{GetFwId, Initiate, Data, Validate, NotBuilt}
use Rattle.wire.specs.declared.malformed.Malformed.{Malformed}
use Rattle.wire.specs.declared.response.Response.{Response}

abbrev pub Parsed : Type 0
Parsed = Result Response Malformed

-- 001 T5-18
unfoldable pub identified_in : List ℕ → Parsed
identified_in m = pick (differ (length m) get_fw_id_response_length) malformed (Ok (GetFwId (byte_at m 2) (cleared (identity_in m))))

-- 001 T5-20: MaxImageSize is its bits 19:0
unfoldable pub initiated_in : List ℕ → Parsed
initiated_in m = pick (differ (length m) initiate_response_length) malformed (Ok (Initiate (byte_at m 2) (byte_at m 3) (word_at m 4 + 65536 * (byte_at m 6 % 16))))

-- 001 T5-22: NumDataNR is not looked at
unfoldable pub receipt_in : List ℕ → Parsed
receipt_in m = pick (differ (length m) data_response_length) malformed (Ok (Data (byte_at m 2) (byte_at m 3) (word_at m 5)))

-- 001 T5-24: success is bit 0 of Flags
unfoldable pub validated_in : List ℕ → Parsed
validated_in m = pick (differ (length m) validate_response_length) malformed (Ok (Validate (byte_at m 2) (byte_at m 3) (eqb (byte_at m 4 % 2) 1)))

-- 001 T5-16: any other type is wrong
unfoldable pub response_of_type : List ℕ → ℕ → Parsed
response_of_type m t =
    pick (eqb t get_fw_id_response) (identified_in m)
    (pick (eqb t initiate_response) (initiated_in m)
    (pick (eqb t data_response) (receipt_in m)
    (pick (eqb t validate_response) (validated_in m)
    (pick (eqb t data_pause_response) (Ok NotBuilt)
    (pick (eqb t vendor_specific_response) (Ok NotBuilt) malformed)))))

unfoldable pub parsed_response_of : List ℕ → Parsed
parsed_response_of m = pick (not (headed m)) malformed (response_of_type m (byte_at m 1))
