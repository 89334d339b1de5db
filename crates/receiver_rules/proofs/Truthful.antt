-- A response with the success bit comes from a receiver in Good, and from no other (01, The receiver's phases: VALIDATE).
use Prim.Native.Nat.{ℕ}
use mathlib.Core.Bool.{true, true≢false}
use mathlib.Core.Path.{◌≡◌, refl, sym, ap, ◌∙◌}
use mathlib.Core.List.{List}
use lib.ListN.{take}
use Rattle.basis.specs.Pick.{pick, differ}
use Rattle.wire.specs.Header.{headed}
use Rattle.wire.specs.Response.{identified_in, initiated_in, receipt_in, validated_in, response_of_type, parsed_response_of}
use Rattle.wire.specs.Written.{response_bytes, identified_bytes, initiated_bytes, receipt_bytes, validated_bytes}
use Rattle.wire.specs.declared.response.Response.TheVariants as Res
use Rattle.wire.specs.Response.{Parsed}
use Rattle.receiver_state.specs.Answer.{get_fw_id_reply, initiate_reply, data_reply, validate_reply, reply_of}
use Rattle.receiver_state.specs.declared.answer.Answer.{Answer}
use Rattle.receiver_state.specs.declared.answer.Answer.TheVariants.{Identified, Offered, Asking, Closed, Success, Later, Aborted, Passed, Malformed, UnexpectedInitiate, UnexpectedData, UnexpectedValidate, Unexpected, NotDue, PassesCapacity, WrongFile, VerdictBad, OutOfRange, BufferShort, ImageLength}
use Rattle.receiver_state.specs.declared.phase.Accepted.{Accepted}
use Rattle.receiver_state.specs.declared.phase.Phase.{Phase}
use Rattle.receiver_state.specs.declared.phase.Phase.TheVariants.{Idle, Transfer, Await, Good}
use Rattle.receiver_state.proofs.Truth.{IsGood, GoodIfSuccess}
use Rattle.receiver_rules.specs.Decide.{receiver_decide_of}
use Rattle.receiver_state.specs.declared.verdict.Verdict.{Verdict}
use Rattle.receiver_rules.proofs.Owes.{decide_row}
use Rattle.receiver_rules.specs.Tick.{receiver_tick_of}
use Rattle.receiver_rules.proofs.Elapsed.{pass_ticks}
use Rattle.receiver_rules.specs.Request.{receiver_request_of}
use Rattle.receiver_rules.specs.Respond.{reply_bytes, receiver_bytes_of}
use Rattle.receiver_rules.specs.Time.{receiver_time_of}
use Rattle.receiver_state.specs.declared.session.Receiver.{Receiver}
use Rattle.receiver_rules.proofs.Walk.{request_walk, time_walk}
use Rattle.receiver_rules.proofs.Laws.{good_stays}
use Rattle.receiver_rules.proofs.TimeLaws.{time_good}
use Rattle.receiver_rules.proofs.Written.{first_bytes, request_leads, time_leads}
use Rattle.std.specs.Prelude.{Ok, Err}

-- A VALIDATE response with the success bit.
abbrev pub Succeeds : Parsed → Type 0
Succeeds (Ok (Res.GetFwId status reported)) = ⊥
Succeeds (Ok (Res.Initiate status wait size)) = ⊥
Succeeds (Ok (Res.Data status wait number)) = ⊥
Succeeds (Ok (Res.Validate status wait success)) = success ≡ true
Succeeds (Ok Res.NotBuilt) = ⊥
Succeeds (Err refusal) = ⊥

-- A message from a receiver in this phase has the success bit only where the phase is Good.
abbrev pub Truthful : Phase → List ℕ → Type 0
Truthful phase m = Succeeds (parsed_response_of m) → IsGood phase

module _ (r : Receiver) (phase : Phase) where
  bytes_truthful : (answer : Answer) → GoodIfSuccess answer phase → Truthful phase (receiver_bytes_of r answer)
  unfolding reply_bytes reply_of get_fw_id_reply initiate_reply data_reply validate_reply response_bytes identified_bytes initiated_bytes receipt_bytes validated_bytes parsed_response_of headed response_of_type identified_in initiated_in receipt_in validated_in pick differ
  bytes_truthful Identified h e = absurd e
  bytes_truthful (Offered wait) h e = absurd e
  bytes_truthful (Asking wait number) h e = absurd e
  bytes_truthful (Closed number) h e = absurd e
  bytes_truthful Success h e = h
  bytes_truthful (Later wait) h e = absurd (true≢false (sym e))
  bytes_truthful Aborted h e = absurd e
  bytes_truthful Passed h e = absurd e
  bytes_truthful Malformed h e = absurd e
  bytes_truthful UnexpectedInitiate h e = absurd e
  bytes_truthful UnexpectedData h e = absurd e
  bytes_truthful UnexpectedValidate h e = absurd (true≢false (sym e))
  bytes_truthful Unexpected h e = absurd e
  bytes_truthful (NotDue due) h e = absurd e
  bytes_truthful PassesCapacity h e = absurd e
  bytes_truthful WrongFile h e = absurd e
  bytes_truthful VerdictBad h e = absurd (true≢false (sym e))
  bytes_truthful OutOfRange h e = absurd e
  bytes_truthful BufferShort h e = absurd e
  bytes_truthful ImageLength h e = absurd e

good_carried : (before next : Phase) → ((a : Accepted) → before ≡ Good a → next ≡ Good a) → IsGood before → IsGood next
good_carried Idle next h g = absurd g
good_carried (Transfer p) next h g = absurd g
good_carried (Await a) next h g = absurd g
good_carried (Good a) next h g = rw (h a refl) tt

module _ (r : Receiver) (image request : List ℕ) (readiness : ℕ) (verdict : Verdict) (out : List ℕ) where
  abbrev then : Phase
  then = (receiver_request_of r image request readiness verdict out).outcome.session.phase

  answer_truthful : Truthful then (receiver_bytes_of r (receiver_request_of r image request readiness verdict out).outcome.answer)
  answer_truthful =
      request_walk r image request readiness verdict out (λ x. Truthful x.outcome.session.phase (receiver_bytes_of r x.outcome.answer))
      (bytes_truthful r r.phase ImageLength tt)
      (bytes_truthful r r.phase BufferShort tt)
      (bytes_truthful r r.phase OutOfRange tt)
      (bytes_truthful r r.phase Malformed tt)
      (λ q _ _ _.
      let s = receiver_decide_of r.phase q r.capacity readiness verdict in
      bytes_truthful r s.phase s.answer (decide_row r.phase q r.capacity readiness verdict).success)

  pub request_truthful : Truthful then (take (receiver_request_of r image request readiness verdict out).outcome.written (receiver_request_of r image request readiness verdict out).out)
  request_truthful = rw (first_bytes r out _ _ (request_leads r image request readiness verdict out)) answer_truthful

  -- Success that was answered stays true: Good is never left.
  pub request_stays_good : IsGood r.phase → IsGood then
  request_stays_good = good_carried r.phase then (good_stays r image request readiness verdict out)

module _ (r : Receiver) (elapsed : ℕ) (out : List ℕ) where
  abbrev passed : Phase
  passed = (receiver_time_of r elapsed out).answer.session.phase

  tick_truthful : Truthful passed (receiver_bytes_of r (receiver_time_of r elapsed out).answer.answer)
  tick_truthful =
      time_walk r elapsed out (λ x. Truthful x.answer.session.phase (receiver_bytes_of r x.answer.answer))
      (bytes_truthful r r.phase BufferShort tt)
      (λ _.
      let t = receiver_tick_of r.phase r.silence elapsed r.resends r.settings in
      bytes_truthful r t.phase t.answer (pass_ticks r.phase r.silence elapsed r.resends r.settings).success)

  pub time_truthful : Truthful passed (take (receiver_time_of r elapsed out).answer.written (receiver_time_of r elapsed out).memory)
  time_truthful = rw (first_bytes r out _ _ (time_leads r elapsed out)) tick_truthful

  pub time_stays_good : IsGood r.phase → IsGood passed
  time_stays_good = good_carried r.phase passed (λ a e. ap (λ (x : Receiver). x.phase) (time_good r elapsed out a e) ∙ e)
