-- A request is what it does, and then its response.
use Prim.Native.Nat.{ℕ, ◌≤◌}
use mathlib.Core.Bool.{Bool, true, false, true≢false}
use mathlib.Core.Path.{◌≡◌, refl, sym, ap, ◌∙◌}
use mathlib.Core.List.{List, ◌++◌}
use borrow.Author.Tests.{le-ltb, ltb-false}
use native.Mathlib.Omega.{arith}
use lib.Dec.{ltb}
use lib.ListN.{length, take, drop}
use Rattle.std.specs.Prelude.{Option, Result, Ok, Err}
use Rattle.basis.specs.Left.{Left, left}
use Rattle.basis.specs.Pick.{pick, pick_all, pick_no, differ}
use Rattle.lent.specs.Written.{written_into, returns_written}
use Rattle.wire.specs.Codes.{longest}
use Rattle.wire.specs.Request.{Parsed}
use Rattle.wire.specs.declared.response.Identity.{Identity}
use Rattle.wire.specs.declared.response.Response.{Response}
use Rattle.lent.proofs.Front.{front_written}
use Rattle.receiver_rules.proofs.Written.{reply_fits}
use Rattle.receiver_state.specs.Answer.{get_fw_id_reply, reply_of}
use Rattle.receiver_state.specs.declared.answer.Answer.{Answer}
use Rattle.receiver_state.specs.declared.answer.Answer.TheVariants.{Identified, Offered, Asking, Closed, Success, Later, Aborted, Passed, Malformed, UnexpectedInitiate, UnexpectedData, UnexpectedValidate, Unexpected, NotDue, PassesCapacity, WrongFile, VerdictBad, OutOfRange, BufferShort, ImageLength}
use Rattle.receiver_state.specs.declared.phase.Phase.{Phase}
use Rattle.receiver_state.specs.declared.verdict.Verdict.{Verdict}
use Rattle.receiver_state.specs.declared.session.Receiver.{Receiver}
use Rattle.receiver_rules.specs.Request.{Effect, effect, request_kept, request_read_of, receiver_request_of}
use Rattle.receiver_rules.specs.Respond.{reply_bytes, receiver_bytes_of}
use Rattle.receiver_rules.specs.Session.{receiver_returns, receiver_moved}
use Rattle.receiver_rules.specs.Hearing.{receiver_kept, heard_read_of, heard_of, has_identity, no_identity, sent_of, identity_sent_of, answer_sent_of}
use Rattle.receiver_state.specs.declared.step.Heard.{Heard}

-- What is left of a session by what was heard, once the response is written.
abbrev pub answered_by : Receiver → Result Heard Answer → List ℕ → List ℕ → Effect
answered_by r (Err answer) image out = effect (receiver_returns r answer 0) image out
answered_by r (Ok h) image out =
    effect (receiver_returns (receiver_moved r h.phase 0 0) h.answer (length (receiver_bytes_of r h.answer))) image
    (written_into (receiver_bytes_of r h.answer) out)

abbrev pub answered : Receiver → Left (Result Heard Answer) → List ℕ → Effect
answered r h out = answered_by r h.answer h.memory out

module _ (r : Receiver) (image request : List ℕ) (readiness : ℕ) (verdict : Verdict) (out : List ℕ) where
  read_parts : (m : Parsed)
      → request_read_of r m image request readiness verdict out
      ≡ answered r (heard_read_of r.phase r.capacity m image request readiness verdict) out
  unfolding request_read_of heard_read_of pick
  read_parts (Err refusal) = refl
  read_parts (Ok q) = refl

  tested_parts : (lengths short range : Bool) (m : Parsed)
      → pick lengths (request_kept r ImageLength image out)
      (pick short (request_kept r BufferShort image out)
      (pick range (request_kept r OutOfRange image out)
      (request_read_of r m image request readiness verdict out)))
      ≡ answered r
      (pick lengths (left (receiver_kept ImageLength) image)
      (pick short (left (receiver_kept BufferShort) image)
      (pick range (left (receiver_kept OutOfRange) image)
      (heard_read_of r.phase r.capacity m image request readiness verdict))))
      out
  unfolding pick
  tested_parts true short range m = refl
  tested_parts false true range m = refl
  tested_parts false false true m = refl
  tested_parts false false false m = read_parts m

  pub request_parts : receiver_request_of r image request readiness verdict out
      ≡ answered r (heard_of r.phase r.capacity image request readiness verdict (length out)) out
  unfolding receiver_request_of heard_of
  request_parts = tested_parts _ _ _ _

kept_heard : (answer : Answer) (heard : Heard) → receiver_kept answer ≡ Ok heard → ⊥
kept_heard answer heard e = let z : ◌≡◌ {A = ℕ} 0 1 = cc in omega arith

module _ (phase : Phase) (capacity : ℕ) (image request : List ℕ) (readiness : ℕ) (verdict : Verdict) (room : ℕ) where
  -- A request that does something has an output buffer that is long enough.
  pub heard_room : (heard : Heard) → (heard_of phase capacity image request readiness verdict room).answer ≡ Ok heard → longest ≤ room
  unfolding heard_of
  heard_room heard =
      let P : Left (Result Heard Answer) → Type 0 = λ h. h.answer ≡ Ok heard → longest ≤ room in
      pick_all P (differ (length image) capacity) _ _ (λ _ e. absurd (kept_heard ImageLength heard e))
      (λ _. pick_all P (ltb room longest) _ _ (λ _ e. absurd (kept_heard BufferShort heard e))
      (λ b _. ltb-false room longest b))

-- No other response has the identity.
same_reply : (i j : Identity) (capacity : ℕ) (answer : Answer) → has_identity answer ≡ false → reply_of i capacity answer ≡ reply_of j capacity answer
unfolding reply_of
same_reply i j capacity Identified e = absurd (true≢false e)
same_reply i j capacity (Offered wait) e = refl
same_reply i j capacity (Asking wait number) e = refl
same_reply i j capacity (Closed number) e = refl
same_reply i j capacity Success e = refl
same_reply i j capacity (Later wait) e = refl
same_reply i j capacity Aborted e = refl
same_reply i j capacity Passed e = refl
same_reply i j capacity Malformed e = refl
same_reply i j capacity UnexpectedInitiate e = refl
same_reply i j capacity UnexpectedData e = refl
same_reply i j capacity UnexpectedValidate e = refl
same_reply i j capacity Unexpected e = refl
same_reply i j capacity (NotDue due) e = refl
same_reply i j capacity PassesCapacity e = refl
same_reply i j capacity WrongFile e = refl
same_reply i j capacity VerdictBad e = refl
same_reply i j capacity OutOfRange e = refl
same_reply i j capacity BufferShort e = refl
same_reply i j capacity ImageLength e = refl

identity_reply : (identity : Identity) (capacity : ℕ) (answer : Answer) → has_identity answer ≡ true → get_fw_id_reply identity ≡ reply_of identity capacity answer
unfolding reply_of
identity_reply identity capacity Identified e = refl
identity_reply identity capacity (Offered wait) e = absurd (true≢false (sym e))
identity_reply identity capacity (Asking wait number) e = absurd (true≢false (sym e))
identity_reply identity capacity (Closed number) e = absurd (true≢false (sym e))
identity_reply identity capacity Success e = absurd (true≢false (sym e))
identity_reply identity capacity (Later wait) e = absurd (true≢false (sym e))
identity_reply identity capacity Aborted e = absurd (true≢false (sym e))
identity_reply identity capacity Passed e = absurd (true≢false (sym e))
identity_reply identity capacity Malformed e = absurd (true≢false (sym e))
identity_reply identity capacity UnexpectedInitiate e = absurd (true≢false (sym e))
identity_reply identity capacity UnexpectedData e = absurd (true≢false (sym e))
identity_reply identity capacity UnexpectedValidate e = absurd (true≢false (sym e))
identity_reply identity capacity Unexpected e = absurd (true≢false (sym e))
identity_reply identity capacity (NotDue due) e = absurd (true≢false (sym e))
identity_reply identity capacity PassesCapacity e = absurd (true≢false (sym e))
identity_reply identity capacity WrongFile e = absurd (true≢false (sym e))
identity_reply identity capacity VerdictBad e = absurd (true≢false (sym e))
identity_reply identity capacity OutOfRange e = absurd (true≢false (sym e))
identity_reply identity capacity BufferShort e = absurd (true≢false (sym e))
identity_reply identity capacity ImageLength e = absurd (true≢false (sym e))

module _ (identity : Identity) (capacity : ℕ) (answer : Answer) (out : List ℕ) where
  pub sends_identity : has_identity answer ≡ true → identity_sent_of identity out ≡ sent_of (reply_bytes (reply_of identity capacity answer)) out
  unfolding identity_sent_of
  sends_identity e = ap (λ x. sent_of (reply_bytes x) out) (identity_reply identity capacity answer e)

  pub sends_answer : has_identity answer ≡ false → answer_sent_of capacity answer out ≡ sent_of (reply_bytes (reply_of identity capacity answer)) out
  unfolding answer_sent_of
  sends_answer e = ap (λ x. sent_of (reply_bytes x) out) (same_reply no_identity identity capacity answer e)

-- A response is written into the front of the buffer, which has room for every one.
pub front_sent : (reply : Option Response) (out front front' : List ℕ) (written : ℕ) → longest ≤ length out → front ≡ take longest out
    → left written front' ≡ returns_written (reply_bytes reply) front
    → left written (front' ++ drop longest out) ≡ sent_of (reply_bytes reply) out
front_sent reply out front front' written enough same did =
    let bytes = reply_bytes reply in
    let fits = reply_fits reply in
    ap (λ (x : Left ℕ). left x.answer (x.memory ++ drop longest out)) did
    ∙ ap (λ (x : List ℕ). left (length bytes) (written_into bytes x ++ drop longest out)) same
    ∙ ap (λ (x : List ℕ). left (length bytes) x) (front_written bytes out longest (omega arith) enough)
    ∙ sym (pick_no _ _ _ (le-ltb (length out) longest enough))
