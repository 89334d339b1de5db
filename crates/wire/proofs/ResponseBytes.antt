-- Every byte string that is read as a response is the bytes that writing it gives, exactly where it is built and its reserved bits and NumDataNR
-- are zero. What is built can be sent, reserved bits cleared; else its type is one of those that are known and not built.
use Prim.Native.Nat.{ℕ, zero, suc, ◌+◌, ◌*◌, ◌/◌, ◌%◌, ◌<◌, ◌≤◌}
use mathlib.Core.Bool.{Bool, true, false}
use mathlib.Core.Path.{◌≡◌, refl, ◌∙◌, ap}
use mathlib.Core.List.{List, Memᴰ}
use native.Mathlib.Omega.{arith}
use lib.ListN.{length}
use lib.Dec.{eqb}
use Rattle.basis.specs.Lists.{spell, spelled_all}
use Rattle.wire.specs.Codes.{get_fw_id_response, initiate_response, data_response, validate_response, data_pause_response, vendor_specific_response, responses_not_built}
use Rattle.basis.specs.Bytes.{Bytes, byte_at}
use Rattle.wire.specs.Numbers.{word_at}
use Rattle.wire.specs.Identity.{cleared, identity_in}
use Rattle.wire.specs.Response.{parsed_response_of, response_of_type, identified_in, initiated_in, receipt_in, validated_in}
use Rattle.wire.specs.Written.{response_bytes, identified_bytes, initiated_bytes, receipt_bytes, validated_bytes, flag_of}
use Rattle.wire.specs.Fields.{BuiltResponse, Plain, Answerable, as_read}
use Rattle.wire.specs.declared.response.Response.{Response}
use Rattle.wire.specs.declared.response.Response.TheVariants.{GetFwId, Initiate, Data, Validate, NotBuilt}
use Rattle.wire.specs.Response.{Parsed}
use Rattle.wire.proofs.Walk.{Headed, Reader, HoldsOf, refused, valid_holds, of_length, of_type, with_header}
use Rattle.wire.proofs.RoundTrip.{response_back}
use Rattle.wire.proofs.Halves.{bytes_low, bytes_high, bytes_word, upper_twice, rest_twice, first_back, second_back, third_back}
use Rattle.std.specs.Prelude.{Ok}
use Rattle.wire.specs.Header.{malformed}

-- How the bytes of m agree with the response r that they are read as.
pub record Same (m : List ℕ) (r : Response) : Type 0 where
  pub header : Headed m
  pub there : Plain m r → response_bytes r ≡ m
  pub back : response_bytes r ≡ m → Plain m r
  pub fields : BuiltResponse r → Answerable r
  pub cleared_already : as_read r ≡ r
  pub type : (BuiltResponse r → ⊥) → Memᴰ (byte_at m 1) responses_not_built

inner : (a b : Response) → ◌≡◌ {A = Parsed} (Ok a) (Ok b) → a ≡ b
inner a b e = cc

apart : (r : Response) → ◌≡◌ {A = Parsed} malformed (Ok r) → ⊥
apart r e = let z : ◌≡◌ {A = ℕ} 0 1 = cc in omega arith

abbrev responses : Reader Response Parsed
responses = record { valid = Ok; malformed = malformed; inner = inner; apart = apart }

flag_back : (x : ℕ) → x < 2 → flag_of (eqb (x % 2) 1) ≡ x
flag_back zero h = refl
flag_back (suc zero) h = refl
flag_back (suc (suc x)) h = absurd (omega arith)

flag_small : (t : Bool) → flag_of t < 2
flag_small true = omega arith
flag_small false = omega arith

-- Two equal byte strings have the same byte at each place.
byte_same : (l m : List ℕ) (i : ℕ) → l ≡ m → byte_at l i ≡ byte_at m i
byte_same l m i e = ap (λ (x : List ℕ). byte_at x i) e

module _ (m : List ℕ) (small : Bytes m) (h : Headed m) where
  identity_same : byte_at m 1 ≡ get_fw_id_response → length m ≡ 22 → Same m (GetFwId (byte_at m 2) (cleared (identity_in m)))
  unfolding response_bytes identified_bytes spell
  identity_same e n =
      let low = bytes_low m small in
      let high = bytes_high m small in
      let word = bytes_word m small in
      record {
        header = h;
        there = λ p.
            let p0 = p.0 in
            let p1 = p.1 in
            let p2 = p.2 in
            let p3 = p.3 in
            let p4 = p.4 in
            let g0 : byte_at m 8 / 16 * 16 / 16 * 16 ≡ byte_at m 8 = omega arith in
            let g1 : byte_at m 18 % 16 % 16 ≡ byte_at m 18 = omega arith in
            let g2 : byte_at m 19 % 4 % 4 ≡ byte_at m 19 = omega arith in
            let g3 : byte_at m 20 % 32 % 32 ≡ byte_at m 20 = omega arith in
            let g4 : byte_at m 21 % 16 % 16 ≡ byte_at m 21 = omega arith in
            rw (low 3 4, high 3 4, low 5 6, high 5 6, low 9 10, high 9 10, low 11 12, high 11 12, low 13 14, high 13 14, low 15 16, high 15 16, g0, g1, g2, g3, g4)
            (cc (spelled_all 0 22 m n, h.version, e));
        back = λ w.
            let b0 : byte_at m 8 / 16 * 16 / 16 * 16 ≡ byte_at m 8 = byte_same _ m 8 w in
            let b1 : byte_at m 18 % 16 % 16 ≡ byte_at m 18 = byte_same _ m 18 w in
            let b2 : byte_at m 19 % 4 % 4 ≡ byte_at m 19 = byte_same _ m 19 w in
            let b3 : byte_at m 20 % 32 % 32 ≡ byte_at m 20 = byte_same _ m 20 w in
            let b4 : byte_at m 21 % 16 % 16 ≡ byte_at m 21 = byte_same _ m 21 w in
            (omega arith, omega arith, omega arith, omega arith, omega arith);
        fields = λ _. (word 3, word 5, (word 9, word 11, word 13, word 15));
        cleared_already = simp (upper_twice, rest_twice 16, rest_twice 4, rest_twice 32);
        type = λ n. absurd (n tt);
      }

  ready_same : byte_at m 1 ≡ initiate_response → length m ≡ 7 → Same m (Initiate (byte_at m 2) (byte_at m 3) (word_at m 4 + 65536 * (byte_at m 6 % 16)))
  unfolding response_bytes initiated_bytes spell
  ready_same e n =
      let s4 = small 4 in
      let s5 = small 5 in
      let s6 : byte_at m 6 % 16 < 16 = omega arith in
      let one = first_back (byte_at m 4) (byte_at m 5) (byte_at m 6 % 16) s4 s5 s6 in
      let two = second_back (byte_at m 4) (byte_at m 5) (byte_at m 6 % 16) s4 s5 s6 in
      let three = third_back (byte_at m 4) (byte_at m 5) (byte_at m 6 % 16) s4 s5 s6 in
      record {
        header = h;
        there = λ p.
            let g : byte_at m 6 % 16 ≡ byte_at m 6 = omega arith in
            rw (one, two, three, g) (cc (spelled_all 0 7 m n, h.version, e));
        back = λ w.
            let b : (word_at m 4 + 65536 * (byte_at m 6 % 16)) / 65536 % 16 ≡ byte_at m 6 = byte_same _ m 6 w in
            omega arith;
        fields = λ _. omega arith;
        cleared_already = refl;
        type = λ n. absurd (n tt);
      }

  receipt_same : byte_at m 1 ≡ data_response → length m ≡ 7 → Same m (Data (byte_at m 2) (byte_at m 3) (word_at m 5))
  unfolding response_bytes receipt_bytes spell
  receipt_same e n = record {
    header = h;
    there = λ z. rw (bytes_low m small 5 6, bytes_high m small 5 6) (cc (spelled_all 0 7 m n, h.version, e, z));
    back = λ w. let b : 0 ≡ byte_at m 4 = byte_same _ m 4 w in omega arith;
    fields = λ _. bytes_word m small 5;
    cleared_already = refl;
    type = λ n. absurd (n tt);
  }

  validated_same : byte_at m 1 ≡ validate_response → length m ≡ 5 → Same m (Validate (byte_at m 2) (byte_at m 3) (eqb (byte_at m 4 % 2) 1))
  unfolding response_bytes validated_bytes spell
  validated_same e n = record {
    header = h;
    there = λ z. rw (flag_back (byte_at m 4) z) (cc (spelled_all 0 5 m n, h.version, e));
    back = λ w.
        let b : flag_of (eqb (byte_at m 4 % 2) 1) ≡ byte_at m 4 = byte_same _ m 4 w in
        rw b at (flag_small (eqb (byte_at m 4 % 2) 1));
    fields = λ _. tt;
    cleared_already = refl;
    type = λ n. absurd (n tt);
  }

  not_built : Memᴰ (byte_at m 1) responses_not_built → HoldsOf responses (Same m) (Ok NotBuilt)
  unfolding response_bytes
  not_built known =
      let long = h.long in
      valid_holds responses (Same m) NotBuilt (record {
        header = h;
        there = λ p. absurd p;
        back = λ e. let l : length m ≡ 0 = rw (← e) in omega arith;
        fields = λ b. absurd b;
        cleared_already = refl;
        type = λ _. known;
      })

  typed_read : HoldsOf responses (Same m) (response_of_type m (byte_at m 1))
  unfolding response_of_type identified_in initiated_in receipt_in validated_in
  typed_read =
      let by = of_type responses (Same m) (byte_at m 1) in
      let sized = of_length responses (Same m) m in
      by get_fw_id_response _ _ (λ e. sized 22 _ (identity_same e))
      (by initiate_response _ _ (λ e. sized 7 _ (ready_same e))
      (by data_response _ _ (λ e. sized 7 _ (receipt_same e))
      (by validate_response _ _ (λ e. sized 5 _ (validated_same e))
      (by data_pause_response _ _ (λ e. not_built (Memᴰ.head e))
      (by vendor_specific_response _ _ (λ e. not_built (Memᴰ.tail (Memᴰ.head e))) (refused responses (Same m)))))))

pub response_same : (m : List ℕ) → Bytes m → (r : Response) → parsed_response_of m ≡ Ok r → Same m r
unfolding parsed_response_of HoldsOf
response_same m small = with_header responses (Same m) m (response_of_type m (byte_at m 1)) (typed_read m small)

-- Reserved bits are ignored: a response that is written anew, without them, is read as it was read with them.
pub response_again : (m : List ℕ) → Bytes m → (r : Response) → parsed_response_of m ≡ Ok r → BuiltResponse r → parsed_response_of (response_bytes r) ≡ Ok r
response_again m small r e b =
    let s = response_same m small r e in
    response_back r (s.fields b) ∙ ap Ok s.cleared_already
