-- What a receiver writes that calls lead to is one response, in which a reader finds what was sent (01, Numbers we answer).
use Prim.Native.Nat.{ℕ, ◌≤◌, ◌<◌}
use mathlib.Core.Path.{◌≡◌, subst}
use mathlib.Core.List.{List}
use native.Mathlib.Omega.{arith}
use lib.ListN.{take}
use Rattle.basis.specs.Pick.{pick_all, differ_false}
use Rattle.silence.specs.declared.Event.{Event}
use Rattle.silence.specs.declared.Event.TheVariants.{Quiet, Resend, NoneLeft}
use Rattle.silence.specs.declared.Grown.{Grown}
use Rattle.silence.specs.declared.Settings.{Settings}
use Rattle.wire.specs.Codes.{image_size_most}
use Rattle.wire.specs.Fields.{Words, Answerable, as_read}
use Rattle.wire.specs.Response.{parsed_response_of}
use Rattle.wire.specs.declared.request.Request.{Request}
use Rattle.wire.specs.declared.request.Request.TheVariants as Req
use Rattle.wire.specs.declared.response.Identity.{Identity}
use Rattle.wire.specs.declared.response.Response.{Response}
use Rattle.receiver_state.specs.Answer.{get_fw_id_reply, initiate_reply, data_reply, validate_reply, reply_of}
use Rattle.receiver_state.specs.Phase.{accepted_of}
use Rattle.receiver_state.specs.declared.answer.Answer.{Answer}
use Rattle.receiver_state.specs.declared.answer.Answer.TheVariants.{Identified, Offered, Asking, Closed, Success, Later, Aborted, Passed, Malformed, UnexpectedInitiate, UnexpectedData, UnexpectedValidate, Unexpected, NotDue, PassesCapacity, WrongFile, VerdictBad, OutOfRange, BufferShort, ImageLength}
use Rattle.std.specs.Prelude.{Option, Some, None, Ok}
use Rattle.receiver_state.specs.declared.phase.Accepted.{Accepted}
use Rattle.receiver_state.specs.declared.phase.Phase.{Phase}
use Rattle.receiver_state.specs.declared.phase.Phase.TheVariants.{Idle, Transfer, Await, Good}
use Rattle.receiver_state.specs.declared.phase.Progress.{Progress}
use Rattle.receiver_state.specs.Session.{Outcome}
use Rattle.receiver_state.specs.declared.session.Receiver.{Receiver}
use Rattle.receiver_state.specs.declared.step.Step.{Step}
use Rattle.receiver_state.specs.declared.verdict.Verdict.{Verdict}
use Rattle.receiver_state.specs.declared.verdict.Verdict.TheVariants as Ver
use Rattle.receiver_rules.specs.Decide.{receiver_offer_of, initiate_in_transfer_of, receiver_initiate_of, close_transfer_of, take_block_of, receiver_transfer_of, receiver_data_of, receiver_verdict_of, receiver_validate_of, receiver_abort_of, receiver_decide_of}
use Rattle.receiver_rules.specs.History.{Reached}
use Rattle.receiver_rules.specs.Request.{receiver_request_of}
use Rattle.receiver_rules.specs.Tick.{receiver_on_event, receiver_silence_of, receiver_tick_of}
use Rattle.receiver_rules.specs.Time.{receiver_time_of}
use Rattle.receiver_rules.proofs.InPlace.{limits}
use Rattle.receiver_rules.proofs.Walk.{request_walk, time_walk}
use Rattle.receiver_rules.proofs.Written.{Leads, read_back, request_leads, time_leads}

-- The block numbers of an answer have 16 bits.
abbrev Numbered : Answer → Type 0
Numbered Identified = Unit
Numbered (Offered wait) = Unit
Numbered (Asking wait number) = number < 65536
Numbered (Closed number) = number < 65536
Numbered Success = Unit
Numbered (Later wait) = Unit
Numbered Aborted = Unit
Numbered Passed = Unit
Numbered Malformed = Unit
Numbered UnexpectedInitiate = Unit
Numbered UnexpectedData = Unit
Numbered UnexpectedValidate = Unit
Numbered Unexpected = Unit
Numbered (NotDue due) = due < 65536
Numbered PassesCapacity = Unit
Numbered WrongFile = Unit
Numbered VerdictBad = Unit
Numbered OutOfRange = Unit
Numbered BufferShort = Unit
Numbered ImageLength = Unit

abbrev StepNumbered : Step → Type 0
StepNumbered s = Numbered s.answer

-- With at most 4,096 blocks accepted they do.
abbrev Few : Accepted → Type 0
Few a = a.blocks ≤ 4096

initiate_numbered : (phase : Phase) (readiness : ℕ) → StepNumbered (receiver_initiate_of phase readiness)
unfolding receiver_initiate_of initiate_in_transfer_of receiver_offer_of
initiate_numbered Idle readiness = pick_all StepNumbered _ _ _ (λ _. tt) (λ _. tt)
initiate_numbered (Transfer p) readiness = pick_all StepNumbered _ _ _ (λ _. tt) (λ _. pick_all StepNumbered _ _ _ (λ _. tt) (λ _. tt))
initiate_numbered (Await a) readiness = tt
initiate_numbered (Good a) readiness = tt

transfer_numbered : (p : Progress) (number size capacity readiness : ℕ) → Few p.accepted → StepNumbered (receiver_transfer_of p number size capacity readiness)
unfolding receiver_transfer_of close_transfer_of take_block_of
transfer_numbered p number size capacity readiness few =
    pick_all StepNumbered _ _ _ (λ _. omega (arith, few))
    (λ due. pick_all StepNumbered _ _ _ (λ _. pick_all StepNumbered _ _ _ (λ _. tt) (λ _. omega (arith, few)))
    (λ _. pick_all StepNumbered _ _ _ (λ _. tt)
    (λ _. pick_all StepNumbered _ _ _ (λ _. tt) (λ _. let same = differ_false number p.accepted.blocks due in omega (arith, few, same)))))

data_numbered : (phase : Phase) (number size capacity readiness : ℕ) → Few (accepted_of phase) → StepNumbered (receiver_data_of phase number size capacity readiness)
unfolding receiver_data_of
data_numbered Idle number size capacity readiness few = tt
data_numbered (Transfer p) number size capacity readiness few = transfer_numbered p number size capacity readiness few
data_numbered (Await a) number size capacity readiness few = omega (arith, few)
data_numbered (Good a) number size capacity readiness few = tt

verdict_numbered : (a : Accepted) (verdict : Verdict) → StepNumbered (receiver_verdict_of a verdict)
unfolding receiver_verdict_of
verdict_numbered a Ver.Good = tt
verdict_numbered a Ver.Bad = tt
verdict_numbered a (Ver.Later wait) = tt

validate_numbered : (phase : Phase) (verdict : Verdict) → StepNumbered (receiver_validate_of phase verdict)
unfolding receiver_validate_of
validate_numbered Idle verdict = tt
validate_numbered (Transfer p) verdict = tt
validate_numbered (Await a) verdict = verdict_numbered a verdict
validate_numbered (Good a) verdict = tt

abort_numbered : (phase : Phase) → StepNumbered (receiver_abort_of phase)
unfolding receiver_abort_of
abort_numbered Idle = tt
abort_numbered (Transfer p) = tt
abort_numbered (Await a) = tt
abort_numbered (Good a) = tt

decide_numbered : (phase : Phase) (q : Request) (capacity readiness : ℕ) (verdict : Verdict) → Few (accepted_of phase)
    → StepNumbered (receiver_decide_of phase q capacity readiness verdict)
unfolding receiver_decide_of
decide_numbered phase Req.GetFwId capacity readiness verdict few = tt
decide_numbered phase (Req.Initiate v) capacity readiness verdict few = initiate_numbered phase readiness
decide_numbered phase (Req.Data number size) capacity readiness verdict few = data_numbered phase number size capacity readiness few
decide_numbered phase Req.Validate capacity readiness verdict few = validate_numbered phase verdict
decide_numbered phase Req.Abort capacity readiness verdict few = abort_numbered phase
decide_numbered phase Req.NotBuilt capacity readiness verdict few = tt

silence_numbered : (phase : Phase) (again : Answer) (grown : Grown) (e : Event) → Numbered again → Numbered (receiver_on_event phase again grown e).answer
unfolding receiver_on_event
silence_numbered phase again grown Quiet h = tt
silence_numbered phase again grown Resend h = h
silence_numbered phase again grown NoneLeft h = tt

tick_numbered : (phase : Phase) (silence elapsed made : ℕ) (settings : Settings) → Few (accepted_of phase)
    → Numbered (receiver_tick_of phase silence elapsed made settings).answer
unfolding receiver_tick_of receiver_silence_of
tick_numbered Idle silence elapsed made settings few = tt
tick_numbered (Transfer p) silence elapsed made settings few = silence_numbered (Transfer p) (Asking 0 p.accepted.blocks) _ _ (omega (arith, few))
tick_numbered (Await a) silence elapsed made settings few = silence_numbered (Await a) (Closed a.blocks) _ _ (omega (arith, few))
tick_numbered (Good a) silence elapsed made settings few = tt

-- The identity's vendor, product and versions have 16 bits, as the code's types have them.
abbrev pub Sixteen : Identity → Type 0
Sixteen i = (i.vendor < 65536) × (i.product < 65536) × Words i.versions

abbrev Readable : Option Response → Type 0
Readable None = Unit
Readable (Some sent) = Answerable sent

module _ (identity : Identity) (words : Sixteen identity) (capacity : ℕ) (room : capacity ≤ image_size_most) where
  reply_readable : (answer : Answer) → Numbered answer → Readable (reply_of identity capacity answer)
  unfolding reply_of get_fw_id_reply initiate_reply data_reply validate_reply
  reply_readable Identified h = words
  reply_readable (Offered wait) h = room
  reply_readable (Asking wait number) h = h
  reply_readable (Closed number) h = h
  reply_readable Success h = tt
  reply_readable (Later wait) h = tt
  reply_readable Aborted h = tt
  reply_readable Passed h = tt
  reply_readable Malformed h = tt
  reply_readable UnexpectedInitiate h = omega arith
  reply_readable UnexpectedData h = omega arith
  reply_readable UnexpectedValidate h = tt
  reply_readable Unexpected h = tt
  reply_readable (NotDue due) h = h
  reply_readable PassesCapacity h = omega arith
  reply_readable WrongFile h = omega arith
  reply_readable VerdictBad h = tt
  reply_readable OutOfRange h = tt
  reply_readable BufferShort h = tt
  reply_readable ImageLength h = tt

-- What an answer sends, a reader finds in the bytes.
abbrev pub Finds : Receiver → Outcome → List ℕ → Type 0
Finds r outcome out = (sent : Response) → reply_of r.identity r.capacity outcome.answer ≡ Some sent
    → parsed_response_of (take outcome.written out) ≡ Ok (as_read sent)

module _ {r : Receiver} {image₀ : List ℕ} {taken : List (List ℕ)} (reached : Reached r image₀ taken) (words : Sixteen r.identity) where
  finds : (out : List ℕ) (outcome : Outcome) (out' : List ℕ) → Leads r out outcome out' → Numbered outcome.answer → Finds r outcome out'
  finds out outcome out' leads numbered sent e =
      let readable = subst Readable e (reply_readable r.identity words r.capacity (limits reached).2 outcome.answer numbered) in
      read_back r out outcome out' leads sent e readable

  pub request_finds : (image request : List ℕ) (readiness : ℕ) (verdict : Verdict) (out : List ℕ)
      → Finds r (receiver_request_of r image request readiness verdict out).outcome (receiver_request_of r image request readiness verdict out).out
  request_finds image request readiness verdict out =
      finds out _ _ (request_leads r image request readiness verdict out)
      (request_walk r image request readiness verdict out (λ x. Numbered x.outcome.answer) tt tt tt tt
      (λ q _ _ _. decide_numbered r.phase q r.capacity readiness verdict (limits reached).0))

  pub time_finds : (elapsed : ℕ) (out : List ℕ) → Finds r (receiver_time_of r elapsed out).answer (receiver_time_of r elapsed out).memory
  time_finds elapsed out =
      finds out _ _ (time_leads r elapsed out)
      (time_walk r elapsed out (λ x. Numbered x.answer.answer) tt
      (λ _. tick_numbered r.phase r.silence elapsed r.resends r.settings (limits reached).0))
