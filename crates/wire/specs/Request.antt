-- What a request says. It is malformed if its length, version, type or body length is wrong, in this order (01, Numbers we answer: 20).
use Rattle.std.specs.Prelude.{ℕ, ◌-◌, not, List, length, ltb, eqb, Result, Ok}
use Rattle.basis.specs.Pick.{pick, differ}
use Rattle.wire.specs.Codes.{header, initiate_length, data_head, get_fw_id, initiate, datum, data_nr, validate, abort, data_pause, vendor_specific}
use Rattle.wire.specs.Header.{malformed, headed}
use Rattle.basis.specs.Bytes.{byte_at}
use Rattle.wire.specs.Numbers.{word_at}
use Rattle.wire.specs.Identity.{versions_at}
use Rattle.wire.specs.declared.request.Request.{Request}
use Rattle.wire.specs.declared.request.Request.TheVariants.{GetFwId, Initiate, Data, Validate, Abort, NotBuilt}
use Rattle.wire.specs.declared.malformed.Malformed.{Malformed}

abbrev pub Parsed : Type 0
Parsed = Result Request Malformed

-- 001 T5-4, T5-11, T5-12: a header alone
unfoldable pub bare_in : List ℕ → Request → Parsed
bare_in m r = pick (differ (length m) header) malformed (Ok r)

-- 001 T5-6
unfoldable pub initiate_in : List ℕ → Parsed
initiate_in m = pick (differ (length m) initiate_length) malformed (Ok (Initiate (versions_at m 2)))

-- 001 T5-8
unfoldable pub data_in : List ℕ → Parsed
data_in m = pick (ltb (length m) data_head) malformed (Ok (Data (word_at m 2) (length m - data_head)))

-- 001 T5-3: any other type is wrong
unfoldable pub request_of_type : List ℕ → ℕ → Parsed
request_of_type m t =
    pick (eqb t get_fw_id) (bare_in m GetFwId)
    (pick (eqb t initiate) (initiate_in m)
    (pick (eqb t datum) (data_in m)
    (pick (eqb t validate) (bare_in m Validate)
    (pick (eqb t abort) (bare_in m Abort)
    (pick (eqb t data_nr) (Ok NotBuilt)
    (pick (eqb t data_pause) (Ok NotBuilt)
    (pick (eqb t vendor_specific) (Ok NotBuilt) malformed)))))))

unfoldable pub parsed_request_of : List ℕ → Parsed
parsed_request_of m = pick (not (headed m)) malformed (request_of_type m (byte_at m 1))
