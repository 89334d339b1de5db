-- Every byte string that is read as a request is the bytes that writing it gives, with the block behind its head, exactly where it is built,
-- and can then be sent; else its type is one of those that are known and not built.
use borrow.Author.Tests.{ltb-false}
use Prim.Native.Nat.{ℕ, ◌≤◌}
use mathlib.Core.Path.{◌≡◌, refl, ◌∙◌}
use mathlib.Core.List.{List, [], ◌++◌, Memᴰ}
use native.Mathlib.Omega.{arith}
use lib.ListN.{length, drop, length-drop}
use lib.Dec.{ltb}
use Rattle.basis.specs.Pick.{pick_all}
use Rattle.basis.specs.Lists.{spell, spelled, spelled_all}
use Rattle.wire.specs.Codes.{get_fw_id, initiate, datum, validate, abort, data_nr, data_pause, vendor_specific, requests_not_built}
use Rattle.basis.specs.Bytes.{Bytes, byte_at}
use Rattle.wire.specs.Numbers.{word_at}
use Rattle.wire.specs.Identity.{versions_at}
use Rattle.wire.specs.Request.{parsed_request_of, request_of_type, bare_in, initiate_in, data_in}
use Rattle.wire.specs.Written.{request_bytes, bare_bytes, initiate_bytes, head_bytes}
use Rattle.wire.specs.Fields.{BuiltRequest, Sendable, block_in}
use Rattle.wire.specs.declared.request.Request.{Request}
use Rattle.wire.specs.declared.request.Request.TheVariants.{GetFwId, Validate, Abort, NotBuilt}
use Rattle.wire.specs.Request.{Parsed}
use Rattle.wire.proofs.Walk.{Headed, Reader, HoldsOf, refused, valid_holds, of_length, of_type, with_header}
use Rattle.wire.proofs.Halves.{bytes_low, bytes_high, bytes_word}
use Rattle.std.specs.Prelude.{Ok}
use Rattle.wire.specs.Header.{malformed}

-- How the bytes of m agree with the request r that they are read as.
pub record Same (m : List ℕ) (r : Request) : Type 0 where
  pub header : Headed m
  pub there : BuiltRequest r → request_bytes r ++ block_in m r ≡ m
  pub back : request_bytes r ++ block_in m r ≡ m → BuiltRequest r
  pub fields : BuiltRequest r → Sendable r (block_in m r)
  pub type : (BuiltRequest r → ⊥) → Memᴰ (byte_at m 1) requests_not_built

pub inner : (a b : Request) → ◌≡◌ {A = Parsed} (Ok a) (Ok b) → a ≡ b
inner a b e = cc

pub apart : (r : Request) → ◌≡◌ {A = Parsed} malformed (Ok r) → ⊥
apart r e = let z : ◌≡◌ {A = ℕ} 0 1 = cc in omega arith

abbrev pub requests : Reader Request Parsed
requests = record { valid = Ok; malformed = malformed; inner = inner; apart = apart }

bare_same : (m : List ℕ) (t : ℕ) → byte_at m 0 ≡ 1 → byte_at m 1 ≡ t → length m ≡ 2 → bare_bytes t ++ [] ≡ m
unfolding bare_bytes spell
bare_same m t v e n = cc (spelled_all 0 2 m n, v, e)

initiate_same : (m : List ℕ) → Bytes m → byte_at m 0 ≡ 1 → byte_at m 1 ≡ initiate → length m ≡ 10 → initiate_bytes (versions_at m 2) ++ [] ≡ m
unfolding initiate_bytes spell
initiate_same m small v e n =
    let low = bytes_low m small in
    let high = bytes_high m small in
    rw (low 2 3, high 2 3, low 4 5, high 4 5, low 6 7, high 6 7, low 8 9, high 8 9) (cc (spelled_all 0 10 m n, v, e))

data_same : (m : List ℕ) → Bytes m → byte_at m 0 ≡ 1 → byte_at m 1 ≡ datum → 4 ≤ length m → head_bytes (word_at m 2) ++ drop 4 m ≡ m
unfolding head_bytes spell
data_same m small v e n =
    rw (bytes_low m small 2 3, bytes_high m small 2 3) (cc (spelled 0 4 m 0 4 refl n, v, e))

module _ (m : List ℕ) (small : Bytes m) (h : Headed m) where
  built : (r : Request) → BuiltRequest r → request_bytes r ++ block_in m r ≡ m → Sendable r (block_in m r) → Same m r
  built r b w f = record { header = h; there = λ _. w; back = λ _. b; fields = λ _. f; type = λ n. absurd (n b) }

  bare_read : (q : Request) (t : ℕ) → byte_at m 1 ≡ t → request_bytes q ++ block_in m q ≡ bare_bytes t ++ [] → BuiltRequest q → Sendable q (block_in m q)
      → HoldsOf requests (Same m) (bare_in m q)
  unfolding bare_in
  bare_read q t e w b f = of_length requests (Same m) m 2 q (λ n. built q b (w ∙ bare_same m t h.version e n) f)

  initiate_read : byte_at m 1 ≡ initiate → HoldsOf requests (Same m) (initiate_in m)
  unfolding initiate_in request_bytes
  initiate_read e =
      let word = bytes_word m small in
      of_length requests (Same m) m 10 _ (λ n. built _ tt (initiate_same m small h.version e n) (refl, (word 2, word 4, word 6, word 8)))

  data_read : byte_at m 1 ≡ datum → HoldsOf requests (Same m) (data_in m)
  unfolding data_in request_bytes
  data_read e =
      pick_all (HoldsOf requests (Same m)) (ltb (length m) 4) _ _ (λ _. refused requests (Same m))
      (λ f.
      let four = ltb-false (length m) 4 f in
      let short = h.short in
      valid_holds requests (Same m) _ (built _ tt (data_same m small h.version e four) (bytes_word m small 2, length-drop 4 m, omega arith)))

  not_built : Memᴰ (byte_at m 1) requests_not_built → HoldsOf requests (Same m) (Ok NotBuilt)
  unfolding request_bytes
  not_built known =
      let long = h.long in
      valid_holds requests (Same m) NotBuilt (record {
        header = h;
        there = λ b. absurd b;
        back = λ e. let l : length m ≡ 0 = rw (← e) in omega arith;
        fields = λ b. absurd b;
        type = λ _. known;
      })

  typed_read : HoldsOf requests (Same m) (request_of_type m (byte_at m 1))
  unfolding request_of_type request_bytes
  typed_read =
      let by = of_type requests (Same m) (byte_at m 1) in
      by get_fw_id _ _ (λ e. bare_read GetFwId get_fw_id e refl tt refl)
      (by initiate _ _ initiate_read
      (by datum _ _ data_read
      (by validate _ _ (λ e. bare_read Validate validate e refl tt refl)
      (by abort _ _ (λ e. bare_read Abort abort e refl tt refl)
      (by data_nr _ _ (λ e. not_built (Memᴰ.head e))
      (by data_pause _ _ (λ e. not_built (Memᴰ.tail (Memᴰ.head e)))
      (by vendor_specific _ _ (λ e. not_built (Memᴰ.tail (Memᴰ.tail (Memᴰ.head e)))) (refused requests (Same m)))))))))

pub request_same : (m : List ℕ) → Bytes m → (r : Request) → parsed_request_of m ≡ Ok r → Same m r
unfolding parsed_request_of HoldsOf
request_same m small = with_header requests (Same m) m (request_of_type m (byte_at m 1)) (typed_read m small)
