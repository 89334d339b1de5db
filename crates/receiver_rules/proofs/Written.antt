-- What is written into the lent buffer: at most one response a call, in the first bytes (01, Numbers we answer).
use Prim.Native.Nat.{ℕ, ◌≤◌}
use mathlib.Core.Path.{◌≡◌, refl, sym, ◌∙◌}
use mathlib.Core.List.{List, []}
use native.Mathlib.Omega.{arith}
use lib.ListN.{length, take, drop, length-append, length-drop}
use lib.Seq.{take-append_seam, drop-append_seam}
use Rattle.lent.specs.Written.{written_into}
use Rattle.wire.proofs.Fits.{response_fits}
use Rattle.wire.proofs.RequestBytes.{inner}
use Rattle.wire.specs.Codes.{longest}
use Rattle.wire.specs.Request as message
use Rattle.wire.specs.Response as response
use Rattle.wire.specs.Fields.{Answerable, as_read}
use Rattle.wire.proofs.RoundTrip.{response_back}
use Rattle.wire.specs.declared.request.Request.{Request}
use Rattle.wire.specs.declared.request.Request.TheVariants as Req
use Rattle.wire.specs.declared.response.Response.{Response}
use Rattle.receiver_state.specs.Answer.{reply_of}
use Rattle.receiver_state.specs.declared.answer.Answer.{Answer}
use Rattle.std.specs.Prelude.{Option, Some, None, Ok}
use Rattle.receiver_rules.specs.Decide.{receiver_decide_of, receiver_abort_of}
use Rattle.receiver_rules.specs.Tick.{receiver_tick_of}
use Rattle.receiver_state.specs.declared.phase.Phase.{Phase}
use Rattle.receiver_state.specs.declared.phase.Phase.TheVariants.{Idle, Transfer, Await, Good}
use Rattle.receiver_state.specs.declared.verdict.Verdict.{Verdict}
use Rattle.receiver_rules.specs.Respond.{reply_bytes, receiver_bytes_of}
use Rattle.receiver_rules.specs.Request.{receiver_request_of}
use Rattle.receiver_rules.specs.Time.{receiver_time_of}
use Rattle.receiver_state.specs.declared.session.Receiver.{Receiver}
use Rattle.receiver_state.specs.Session.{Outcome}
use Rattle.receiver_rules.proofs.Walk.{request_walk, time_walk}

pub reply_fits : (reply : Option Response) → length (reply_bytes reply) ≤ 22
unfolding reply_bytes
reply_fits None = omega arith
reply_fits (Some sent) = response_fits sent

written_length : (r : Receiver) (answer : Answer) (out : List ℕ) → longest ≤ length out → length (written_into (receiver_bytes_of r answer) out) ≡ length out
written_length r answer out room =
    let fits = reply_fits (reply_of r.identity r.capacity answer) in
    simp (length-append, length-drop) (omega arith)

-- The buffer begins with the answer's one response, or with none; behind it all is as it was.
pub record Leads (r : Receiver) (out : List ℕ) (outcome : Outcome) (out' : List ℕ) : Type 0 where
  pub first : out' ≡ written_into (receiver_bytes_of r outcome.answer) out
  pub written : outcome.written ≡ length (receiver_bytes_of r outcome.answer)

module _ (r : Receiver) (out : List ℕ) (outcome : Outcome) (out' : List ℕ) (l : Leads r out outcome out') where
  -- A message is at most 260 bytes (01, Sizes and numbers); ours are at most 22.
  pub written_most : (outcome.written ≤ 22) × (outcome.written ≤ 260)
  written_most =
      let fits = reply_fits (reply_of r.identity r.capacity outcome.answer) in
      let n = l.written in
      (omega arith, omega arith)

  pub first_bytes : take outcome.written out' ≡ receiver_bytes_of r outcome.answer
  first_bytes = rw (l.written, l.first) (take-append_seam (receiver_bytes_of r outcome.answer) (drop (length (receiver_bytes_of r outcome.answer)) out))

  -- What was written is one message: a reader finds the answer's response in it.
  pub read_back : (sent : Response) → reply_of r.identity r.capacity outcome.answer ≡ Some sent → Answerable sent
      → response.parsed_response_of (take outcome.written out') ≡ Ok (as_read sent)
  unfolding reply_bytes
  read_back sent e can = rw (first_bytes, e) (response_back sent can)

  pub rest_kept : drop outcome.written out' ≡ drop outcome.written out
  rest_kept = rw (l.written, l.first) (drop-append_seam (receiver_bytes_of r outcome.answer) (drop (length (receiver_bytes_of r outcome.answer)) out))

module _ (r : Receiver) (image request : List ℕ) (readiness : ℕ) (verdict : Verdict) (out : List ℕ) where
  pub request_leads : Leads r out (receiver_request_of r image request readiness verdict out).outcome (receiver_request_of r image request readiness verdict out).out
  unfolding reply_bytes reply_of
  request_leads =
      request_walk r image request readiness verdict out (λ x. Leads r out x.outcome x.out)
      (record { first = refl; written = refl })
      (record { first = refl; written = refl })
      (record { first = refl; written = refl })
      (record { first = refl; written = refl })
      (λ _ _ _ _. record { first = refl; written = refl })

  -- The buffer is neither longer nor shorter afterwards.
  pub request_length : length (receiver_request_of r image request readiness verdict out).out ≡ length out
  request_length =
      request_walk r image request readiness verdict out (λ x. length x.out ≡ length out)
      refl refl refl refl
      (λ q _ room _. written_length r (receiver_decide_of r.phase q r.capacity readiness verdict).answer out room)

  -- What is written lies in the buffer, however long that is.
  pub request_within : (receiver_request_of r image request readiness verdict out).outcome.written ≤ length (receiver_request_of r image request readiness verdict out).out
  request_within =
      request_walk r image request readiness verdict out (λ x. x.outcome.written ≤ length x.out)
      (omega arith) (omega arith) (omega arith) (omega arith)
      (λ q _ room _.
      let answer = (receiver_decide_of r.phase q r.capacity readiness verdict).answer in
      let fits = reply_fits (reply_of r.identity r.capacity answer) in
      let long = written_length r answer out room in
      omega arith)

pub time_length : (r : Receiver) (elapsed : ℕ) (out : List ℕ) → length (receiver_time_of r elapsed out).memory ≡ length out
time_length r elapsed out =
    time_walk r elapsed out (λ x. length x.memory ≡ length out) refl
    (λ room. written_length r (receiver_tick_of r.phase r.silence elapsed r.resends r.settings).answer out room)

pub time_leads : (r : Receiver) (elapsed : ℕ) (out : List ℕ) → Leads r out (receiver_time_of r elapsed out).answer (receiver_time_of r elapsed out).memory
unfolding reply_bytes reply_of
time_leads r elapsed out =
    time_walk r elapsed out (λ x. Leads r out x.answer x.memory)
    (record { first = refl; written = refl })
    (λ _. record { first = refl; written = refl })

-- ABORT, and the types that are known and not built: DATA_NR, DATA_PAUSE, VENDOR_SPECIFIC.
abbrev pub Unanswered : Request → Type 0
Unanswered Req.GetFwId = ⊥
Unanswered (Req.Initiate v) = ⊥
Unanswered (Req.Data number size) = ⊥
Unanswered Req.Validate = ⊥
Unanswered Req.Abort = Unit
Unanswered Req.NotBuilt = Unit

unanswered_silent : (r : Receiver) (q : Request) (readiness : ℕ) (verdict : Verdict) (before : Phase) → Unanswered q
    → receiver_bytes_of r (receiver_decide_of before q r.capacity readiness verdict).answer ≡ []
unfolding receiver_decide_of receiver_abort_of reply_bytes reply_of
unanswered_silent r Req.GetFwId readiness verdict before h = absurd h
unanswered_silent r (Req.Initiate v) readiness verdict before h = absurd h
unanswered_silent r (Req.Data number size) readiness verdict before h = absurd h
unanswered_silent r Req.Validate readiness verdict before h = absurd h
unanswered_silent r Req.Abort readiness verdict Idle h = refl
unanswered_silent r Req.Abort readiness verdict (Transfer p) h = refl
unanswered_silent r Req.Abort readiness verdict (Await a) h = refl
unanswered_silent r Req.Abort readiness verdict (Good a) h = refl
unanswered_silent r Req.NotBuilt readiness verdict before h = refl

module _ (r : Receiver) (image request : List ℕ) (readiness : ℕ) (verdict : Verdict) (out : List ℕ) where
  -- Nothing is written for them, whatever the phase and the answer.
  pub nothing_written : (q : Request) → message.parsed_request_of request ≡ Ok q → Unanswered q
      → ((receiver_request_of r image request readiness verdict out).out ≡ out) × ((receiver_request_of r image request readiness verdict out).outcome.written ≡ 0)
  nothing_written q e h =
      request_walk r image request readiness verdict out (λ x. (x.out ≡ out) × (x.outcome.written ≡ 0))
      (refl, refl) (refl, refl) (refl, refl) (refl, refl)
      (λ q' _ _ e'.
      let same : q' ≡ q = inner q' q (sym e' ∙ e) in
      let none : receiver_bytes_of r (receiver_decide_of r.phase q' r.capacity readiness verdict).answer ≡ [] = rw same (unanswered_silent r q readiness verdict r.phase h) in
      (rw none, rw none))
