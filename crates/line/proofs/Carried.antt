-- What one delivery does to a clean line that has one message on its way, and that a call with 0 ms elapsed does nothing.
use Prim.Native.Nat.{ℕ, ◌+◌, ◌≤◌}
use mathlib.Core.Path.{◌≡◌, sym, ◌∙◌, ap}
use mathlib.Core.List.{List, [], ◌∷◌, ◌++◌, append-nil}
use native.Mathlib.Omega.{arith}
use lib.Dec.{eqb}
use lib.ListN.{length, take, drop}
use lib.Seq.{take-append_seam}
use Rattle.basis.specs.Pick.{pick}
use Rattle.basis.specs.Left.{Left}
use Rattle.lent.specs.Written.{written_into}
use Rattle.lent.specs.Sent.{with_sent}
use Rattle.wire.specs.Codes.{longest}
use Rattle.wire.specs.Request as message
use Rattle.wire.specs.Response as answer
use Rattle.wire.specs.declared.request.Request.{Request}
use Rattle.wire.specs.declared.response.Response.{Response}
use Rattle.wire.specs.declared.response.Identity.{Identity}
use Rattle.receiver_state.specs.Answer.{reply_of}
use Rattle.receiver_state.specs.declared.answer.Answer.{Answer}
use Rattle.receiver_state.specs.declared.phase.Phase as receiver
use Rattle.receiver_rules.specs.Range.{Timely}
use Rattle.receiver_rules.specs.Decide.{receiver_decide_of}
use Rattle.receiver_state.specs.declared.verdict.Verdict.{Verdict}
use Rattle.std.specs.Prelude.{Option, None}
use Rattle.receiver_state.specs.declared.step.Step.{Step}
use Rattle.receiver_rules.specs.Time.{receiver_time_of}
use Rattle.receiver_rules.specs.Request.{Effect, image_after, request_done, receiver_request_of}
use Rattle.receiver_rules.specs.Respond.{reply_bytes, receiver_bytes_of}
use Rattle.receiver_rules.proofs.RangeLaws.{in_range_lem}
use Rattle.receiver_rules.proofs.Answers.{answers_step}
use Rattle.receiver_rules.proofs.TimeLaws as receiverTime
use Rattle.receiver_rules.proofs.Reached as receiverReached
use Rattle.indoor_state.specs.Phase.{indoor_state}
use Rattle.indoor_state.specs.Answer.{sends_of}
use Rattle.indoor_state.specs.Step.{indoor_step}
use Rattle.indoor_state.specs.declared.plan.Release.{Release}
use Rattle.indoor_state.specs.declared.phase.State.{State}
use Rattle.indoor_state.specs.declared.phase.Phase as indoor
use Rattle.indoor_state.specs.declared.answer.Answer as indoorAnswer
use Rattle.indoor_rules.specs.Decide as rules
use Rattle.indoor_rules.specs.Send.{sends_bytes}
use Rattle.indoor_rules.specs.Session.{indoor_done as indoorDoneOf}
use Rattle.indoor_rules.specs.Response.{indoor_response_of}
use Rattle.indoor_rules.specs.Time.{indoor_time_of}
use Rattle.indoor_state.specs.Session.{IndoorOutcome}
use Rattle.indoor_state.specs.declared.step.Step.{Step as IndoorStep}
use Rattle.indoor_rules.proofs.Answers.{response_step}
use Rattle.indoor_rules.proofs.Laws as indoorLaws
use Rattle.indoor_rules.proofs.Reached.{reach_holds}
use Rattle.indoor_rules.proofs.Reached as indoorReached
use Rattle.line.specs.Line.{Line, Wide, carried_up, carried_down, passed_at_receiver, passed_at_indoor}
use Rattle.line.proofs.Sent.{sent_length}
use Rattle.line.proofs.AnyLine.{Safe}
use Rattle.std.specs.Prelude.{Ok}

-- One message where there are bytes, and none where there are none.
abbrev pub one : List ℕ → List (List ℕ)
one bytes = pick (eqb (length bytes) 0) [] (bytes ∷ [])

-- The message sent is the one that was written into the first bytes of the buffer.
one_sent : (bytes out : List ℕ) → with_sent (length bytes) (written_into bytes out) [] ≡ one bytes
one_sent bytes out = rw (take-append_seam bytes (drop (length bytes) out))

pub first_same : (x y : List ℕ) (l m : List (List ℕ)) → x ∷ l ≡ y ∷ m → x ≡ y
first_same x y l m e = cc

later_same : (x y : List ℕ) (l m : List (List ℕ)) → x ∷ l ≡ y ∷ m → l ≡ m
later_same x y l m e = cc

state_at_lem : (state : State) (g : indoor.Phase) → state.phase ≡ g → state ≡ indoor_state g state.silence state.resends
state_at_lem state g e = ap (λ (y : indoor.Phase). indoor_state y state.silence state.resends) e

-- The phases of both ends, what is on its way up and down, and how many requests were sent.
pub record At (x : Line) (p : receiver.Phase) (g : indoor.Phase) (up down : List (List ℕ)) (count : ℕ) : Type 0 where
  pub receiver : x.world.receiver.phase ≡ p
  pub indoor : x.world.indoor.state.phase ≡ g
  pub rising : x.up ≡ up
  pub falling : x.down ≡ down
  pub sent : length x.world.requests ≡ count

-- The same with an equal count.
pub counted : {x : Line} {p : receiver.Phase} {g : indoor.Phase} {up down : List (List ℕ)} {count count' : ℕ} → At x p g up down count → count ≡ count' → At x p g up down count'
counted at e = record { receiver = at.receiver; indoor = at.indoor; rising = at.rising; falling = at.falling; sent = at.sent ∙ e }

module _ (file memory : List ℕ) (release : Release) (identity : Identity) where
  -- What goes out with an answer of each end.
  abbrev pub says : Answer → List ℕ
  says a = reply_bytes (reply_of identity (length memory) a)

  abbrev pub asks : indoorAnswer.Answer → List ℕ
  asks a = sends_bytes release.versions file (sends_of a)

  module _ (x : Line) (s : Safe file memory release identity x.world) (out : List ℕ) (room : longest ≤ length out) where
    module _ (verdict : Verdict) (in_range : Timely verdict) where
      abbrev pub call : List ℕ → Effect
      call request = receiver_request_of x.world.receiver x.world.image request 0 verdict out

      done : (m : List ℕ) (p : receiver.Phase) (q : Request) (then : Step) → x.world.receiver.phase ≡ p → message.parsed_request_of m ≡ Ok q
          → receiver_decide_of p q (length memory) 0 verdict ≡ then
          → call m ≡ request_done x.world.receiver then x.world.image m out
      done m p q then e r d =
          let decided : receiver_decide_of x.world.receiver.phase q x.world.receiver.capacity 0 verdict ≡ then = rw (e, s.capacity) d in
          answers_step x.world.receiver x.world.image m 0 verdict out (s.size ∙ sym s.capacity) room q (in_range_lem 0 verdict (omega arith) in_range) r
          ∙ ap (λ (t : Step). request_done x.world.receiver t x.world.image m out) decided

      -- A request is delivered: the receiver goes on, and its answer is on its way.
      pub heard : (m : List ℕ) (p : receiver.Phase) (g : indoor.Phase) (q : Request) (then : Step) (count : ℕ) → At x p g (m ∷ []) [] count
          → message.parsed_request_of m ≡ Ok q → receiver_decide_of p q (length memory) 0 verdict ≡ then
          → (request : List ℕ) (later : List (List ℕ)) → x.up ≡ request ∷ later
          → At (carried_up x later (call request)) then.phase g [] (one (says then.answer)) count
      heard m p g q then count at r d request later e =
          let same : request ≡ m = first_same request m later [] (sym e ∙ at.rising) in
          let did : call request ≡ request_done x.world.receiver then x.world.image m out = ap call same ∙ done m p q then at.receiver r d in
          let bytes : receiver_bytes_of x.world.receiver then.answer ≡ says then.answer = rw (s.who, s.capacity) in
          record {
            receiver = ap (λ (y : Effect). y.outcome.session.phase) did;
            indoor = at.indoor;
            rising = later_same request m later [] (sym e ∙ at.rising);
            falling = ap (λ (l : List (List ℕ)). l ++ with_sent (call request).outcome.written (call request).out []) at.falling
                ∙ ap (λ (y : Effect). with_sent y.outcome.written y.out []) did
                ∙ one_sent (receiver_bytes_of x.world.receiver then.answer) out ∙ ap one bytes;
            sent = at.sent;
          }

      -- A request that puts no block leaves the image as it was.
      pub heard_lies : (m : List ℕ) (p : receiver.Phase) (q : Request) (then : Step) → x.world.receiver.phase ≡ p → x.up ≡ m ∷ []
          → message.parsed_request_of m ≡ Ok q → receiver_decide_of p q (length memory) 0 verdict ≡ then → then.store ≡ None → x.world.image ≡ memory
          → (request : List ℕ) (later : List (List ℕ)) → x.up ≡ request ∷ later → (call request).image ≡ memory
      unfolding image_after
      heard_lies m p q then e rising r d nowhere lies request later f =
          let same : request ≡ m = first_same request m later [] (sym f ∙ rising) in
          ap (λ (y : Effect). y.image) (ap call same ∙ done m p q then e r d) ∙ ap (λ (y : Option ℕ). image_after y x.world.image m) nowhere ∙ lies

    abbrev pub reply : List ℕ → Left IndoorOutcome
    reply response = indoor_response_of x.world.indoor file response out

    -- A response is delivered: the indoor end goes on, and its next request is on its way.
    pub answered : Wide release identity → (m : List ℕ) (p : receiver.Phase) (g g' : indoor.Phase) (r : Response) (a : indoorAnswer.Answer) (count : ℕ) → At x p g [] (m ∷ []) count
        → answer.parsed_response_of m ≡ Ok r
        → rules.indoor_decide_of x.world.indoor.plan (indoor_state g x.world.indoor.state.silence x.world.indoor.state.resends) r ≡ indoor_step (indoor_state g' 0 0) a
        → (response : List ℕ) (later : List (List ℕ)) → x.down ≡ response ∷ later
        → At (carried_down x later (reply response)) p g' (one (asks a)) [] (count + length (one (asks a)))
    answered wide m p g g' r a count at e d response later f =
        let i = x.world.indoor in
        let h = reach_holds file release i x.world.requests wide.offered s.sent in
        let same : response ≡ m = first_same response m later [] (sym f ∙ at.falling) in
        let decided : rules.indoor_decide_of i.plan i.state r ≡ indoor_step (indoor_state g' 0 0) a = ap (λ (y : State). rules.indoor_decide_of i.plan y r) (state_at_lem i.state g at.indoor) ∙ d in
        let did : reply response ≡ indoorDoneOf i.plan (indoor_step (indoor_state g' 0 0) a) file out =
        ap reply same ∙ response_step i file m out (sym h.lent) room r e ∙ ap (λ (y : IndoorStep). indoorDoneOf i.plan y file out) decided in
        let bytes : sends_bytes i.plan.release.versions file (sends_of a) ≡ asks a = rw h.offered in
        let new : with_sent (reply response).answer.written (reply response).memory [] ≡ one (asks a) =
        ap (λ (y : Left IndoorOutcome). with_sent y.answer.written y.memory []) did
        ∙ one_sent (sends_bytes i.plan.release.versions file (sends_of a)) out ∙ ap one bytes in
        let more = sent_length (eqb (reply response).answer.written 0) (take (reply response).answer.written (reply response).memory) x.world.requests in
        record {
          receiver = at.receiver;
          indoor = ap (λ (y : Left IndoorOutcome). y.answer.session.state.phase) did;
          rising = ap (λ (l : List (List ℕ)). l ++ with_sent (reply response).answer.written (reply response).memory []) at.rising ∙ new;
          falling = later_same response m later [] (sym f ∙ at.falling);
          sent = more ∙ ap (λ (l : List (List ℕ)). length x.world.requests + length l) new ∙ ap (λ (c : ℕ). c + length (one (asks a))) at.sent;
        }

  -- A call with 0 ms elapsed moves nothing, and nothing more is on its way.
  module _ (x : Line) (s : Safe file memory release identity x.world) (out : List ℕ) where
    pub receiver_still : passed_at_receiver x (receiver_time_of x.world.receiver 0 out) ≡ x
    unfolding pick
    receiver_still =
        let kept = receiverTime.no_time x.world.receiver out (receiverReached.reached_below s.accepted.reached) in
        rw (kept.0, kept.2, append-nil x.down)

    pub indoor_still : passed_at_indoor x (indoor_time_of x.world.indoor file 0 out) ≡ x
    unfolding pick
    indoor_still =
        let kept = indoorLaws.no_time x.world.indoor file out (indoorReached.reached_below s.sent) in
        rw (kept.0, kept.2, append-nil x.up)
