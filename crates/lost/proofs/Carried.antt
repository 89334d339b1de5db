-- What one step does to a line of which both ends, and what is on its way, are known.
use Prim.Native.Nat.{ℕ, ◌≤◌}
use mathlib.Core.Path.{◌≡◌, refl, sym, ◌∙◌, ap}
use mathlib.Core.List.{List, [], ◌∷◌, ◌++◌}
use lib.Dec.{eqb}
use lib.ListN.{length, drop}
use lib.Seq.{take-append_seam}
use Rattle.basis.specs.Pick.{pick}
use Rattle.basis.specs.Left.{Left}
use Rattle.lent.specs.Written.{written_into}
use Rattle.silence.specs.declared.Settings.{Settings}
use Rattle.wire.specs.Codes.{longest}
use Rattle.wire.specs.Request as message
use Rattle.wire.specs.Response as answer
use Rattle.wire.specs.declared.request.Request.{Request}
use Rattle.wire.specs.declared.response.Response.{Response}
use Rattle.wire.specs.declared.response.Identity.{Identity}
use Rattle.receiver_state.specs.Answer.{reply_of}
use Rattle.receiver_state.specs.declared.answer.Answer.{Answer}
use Rattle.receiver_state.specs.declared.phase.Phase as receiver
use Rattle.receiver_rules.specs.Range.{verdict_outside, out_of_range}
use Rattle.receiver_rules.specs.Decide.{receiver_decide_of}
use Rattle.receiver_rules.specs.Tick.{tick, receiver_tick_of}
use Rattle.receiver_state.specs.declared.verdict.Verdict.TheVariants as Ver
use Rattle.receiver_state.specs.declared.step.Step.{Step}
use Rattle.receiver_state.specs.declared.step.Tick.{Tick}
use Rattle.receiver_rules.specs.Request.{Effect, request_done, receiver_request_of}
use Rattle.receiver_rules.specs.Time.{receiver_ticked_of, receiver_time_of}
use Rattle.receiver_rules.specs.Respond.{reply_bytes}
use Rattle.receiver_rules.proofs.Answers.{answers_step}
use Rattle.receiver_rules.proofs.TimeLaws.{time_passes}
use Rattle.receiver_state.specs.declared.session.Receiver.{Receiver}
use Rattle.receiver_state.specs.Session.{Outcome as ReceiverOutcome}
use Rattle.indoor_state.specs.Phase.{indoor_state}
use Rattle.indoor_state.specs.Answer.{sends_of}
use Rattle.indoor_state.specs.Step.{indoor_step}
use Rattle.indoor_state.specs.declared.plan.Release.{Release}
use Rattle.indoor_state.specs.declared.plan.Plan.{Plan}
use Rattle.indoor_state.specs.declared.phase.Phase as indoor
use Rattle.indoor_state.specs.declared.answer.Answer as indoorAnswer
use Rattle.indoor_state.specs.declared.step.Step.{Step as IndoorStep}
use Rattle.indoor_rules.specs.Decide.{indoor_decide_of}
use Rattle.indoor_rules.specs.Tick.{indoor_tick_of}
use Rattle.indoor_rules.specs.Send.{sends_bytes}
use Rattle.indoor_rules.specs.Session.{indoor as indoorSession, indoor_done}
use Rattle.indoor_rules.specs.Start.{indoor_plan}
use Rattle.indoor_rules.specs.Response.{indoor_response_of}
use Rattle.indoor_rules.specs.Time.{indoor_time_of}
use Rattle.indoor_rules.proofs.Answers.{response_step, time_step}
use Rattle.indoor_state.specs.declared.session.Indoor.{Indoor}
use Rattle.indoor_state.specs.Session.{IndoorOutcome}
use Rattle.lost.specs.Lost.{Going, going, Timed, sends, older, arrived_up, arrived_down, passed}
use Rattle.std.specs.Prelude.{Ok}

-- The bytes of an answer on their way behind the others, if there are any.
abbrev pub with : List Going → List ℕ → List Going
with on bytes = pick (eqb (length bytes) 0) on (on ++ going bytes 0 ∷ [])

sent_whole : (on : List Going) (bytes out : List ℕ) → sends on (length bytes) (written_into bytes out) ≡ with on bytes
sent_whole on bytes out = rw (take-append_seam bytes (drop (length bytes) out))

message_same : (g h : Going) (l m : List Going) → g ∷ l ≡ h ∷ m → g.message ≡ h.message
message_same g h l m e = cc

pub later_same : (g h : Going) (l m : List Going) → g ∷ l ≡ h ∷ m → l ≡ m
later_same g h l m e = cc

-- One session: the settings of the receiver and of the indoor end, and the longest way up and down, in ms.
pub record Given : Type 0 where
  pub file : List ℕ
  pub memory : List ℕ
  pub release : Release
  pub identity : Identity
  pub outdoor : Settings
  pub indoor : Settings
  pub up : ℕ
  pub down : ℕ

module _ (x : Given) where
  abbrev pub plan : Plan
  plan = indoor_plan x.indoor x.release (length x.file)

  -- Both ends, by what changes in them: phase, silence and resends made.
  abbrev pub roof : receiver.Phase → ℕ → ℕ → Receiver
  roof phase silence made =
      record { settings = x.outdoor; identity = x.identity; capacity = length x.memory; phase = phase; silence = silence; resends = made }

  abbrev pub indoors : indoor.Phase → ℕ → ℕ → Indoor
  indoors phase silence made = indoorSession plan (indoor_state phase silence made)

  -- What goes out with an answer of each end.
  abbrev pub says : Answer → List ℕ
  says a = reply_bytes (reply_of x.identity (length x.memory) a)

  abbrev pub asks : indoorAnswer.Answer → List ℕ
  asks a = sends_bytes x.release.versions x.file (sends_of a)

  pub record At (l : Timed) (r : Receiver) (i : Indoor) (up down : List Going) : Type 0 where
    pub receiver : l.world.receiver ≡ r
    pub indoor : l.world.indoor ≡ i
    pub rising : l.up ≡ up
    pub falling : l.down ≡ down

  module _ (l : Timed) (out : List ℕ) (room : longest ≤ length out) where
    -- A request arrives.
    pub heard : (size : length l.world.image ≡ length x.memory) (m : List ℕ) (age : ℕ) (p : receiver.Phase) (s made : ℕ) (i : Indoor) (up down : List Going)
        → At l (roof p s made) i (going m age ∷ up) down
        → (q : Request) (then : Step) → message.parsed_request_of m ≡ Ok q → receiver_decide_of p q (length x.memory) 0 Ver.Good ≡ then
        → (request : List ℕ) (age' : ℕ) (later : List Going) → l.up ≡ going request age' ∷ later
        → At (arrived_up l later (receiver_request_of l.world.receiver l.world.image request 0 Ver.Good out)) (roof then.phase 0 0) i up (with down (says then.answer))
    unfolding out_of_range verdict_outside pick
    heard size m age p s made i up down at q then parsed decided request age' later e =
        let r : Receiver = roof p s made in
        let whole = sym e ∙ at.rising in
        let same : request ≡ m = message_same (going request age') (going m age) later up whole in
        let did : receiver_request_of l.world.receiver l.world.image request 0 Ver.Good out ≡ request_done r then l.world.image m out =
        ap (λ (y : Receiver). receiver_request_of y l.world.image request 0 Ver.Good out) at.receiver
        ∙ ap (λ (y : List ℕ). receiver_request_of r l.world.image y 0 Ver.Good out) same
        ∙ answers_step r l.world.image m 0 Ver.Good out size room q refl parsed
        ∙ ap (λ (t : Step). request_done r t l.world.image m out) decided in
        record {
          receiver = ap (λ (y : Effect). y.outcome.session) did;
          indoor = at.indoor;
          rising = later_same (going request age') (going m age) later up whole;
          falling = ap (λ (y : Effect). sends l.down y.outcome.written y.out) did ∙ sent_whole l.down (says then.answer) out
              ∙ ap (λ (on : List Going). with on (says then.answer)) at.falling;
        }

    -- A response arrives.
    pub answered : (m : List ℕ) (age : ℕ) (r : Receiver) (g g' : indoor.Phase) (s made s' made' : ℕ) (up down : List Going)
        → At l r (indoors g s made) up (going m age ∷ down)
        → (q : Response) (a : indoorAnswer.Answer) → answer.parsed_response_of m ≡ Ok q
        → indoor_decide_of plan (indoor_state g s made) q ≡ indoor_step (indoor_state g' s' made') a
        → (response : List ℕ) (age' : ℕ) (later : List Going) → l.down ≡ going response age' ∷ later
        → At (arrived_down l later (indoor_response_of l.world.indoor x.file response out)) r (indoors g' s' made') (with up (asks a)) down
    answered m age r g g' s made s' made' up down at q a parsed decided response age' later e =
        let i : Indoor = indoors g s made in
        let whole = sym e ∙ at.falling in
        let same : response ≡ m = message_same (going response age') (going m age) later down whole in
        let did : indoor_response_of l.world.indoor x.file response out ≡ indoor_done plan (indoor_step (indoor_state g' s' made') a) x.file out =
        ap (λ (y : Indoor). indoor_response_of y x.file response out) at.indoor
        ∙ ap (λ (y : List ℕ). indoor_response_of i x.file y out) same
        ∙ response_step i x.file m out refl room q parsed
        ∙ ap (λ (t : IndoorStep). indoor_done plan t x.file out) decided in
        record {
          receiver = at.receiver;
          indoor = ap (λ (y : Left IndoorOutcome). y.answer.session) did;
          rising = ap (λ (y : Left IndoorOutcome). sends l.up y.answer.written y.memory) did ∙ sent_whole l.up (asks a) out
              ∙ ap (λ (on : List Going). with on (asks a)) at.rising;
          falling = later_same (going response age') (going m age) later down whole;
        }

    -- A millisecond passes at both ends.
    pub ticked : (out' : List ℕ) → longest ≤ length out'
        → (p p' : receiver.Phase) (s made s' made' : ℕ) (g g' : indoor.Phase) (t sent t' sent' : ℕ) (up down : List Going)
        → At l (roof p s made) (indoors g t sent) up down
        → (a : Answer) (b : indoorAnswer.Answer)
        → receiver_tick_of p s 1 made x.outdoor ≡ tick p' s' made' a
        → indoor_tick_of plan (indoor_state g t sent) 1 ≡ indoor_step (indoor_state g' t' sent') b
        → At (passed l (receiver_time_of l.world.receiver 1 out) (indoor_time_of l.world.indoor x.file 1 out')) (roof p' s' made') (indoors g' t' sent') (with (older up) (asks b)) (with (older down) (says a))
    ticked out' room' p p' s made s' made' g g' t sent t' sent' up down at a b tocked ticking =
        let r : Receiver = roof p s made in
        let i : Indoor = indoors g t sent in
        let did : receiver_time_of l.world.receiver 1 out ≡ receiver_ticked_of r (tick p' s' made' a) out =
        ap (λ (y : Receiver). receiver_time_of y 1 out) at.receiver
        ∙ time_passes r 1 out room
        ∙ ap (λ (y : Tick). receiver_ticked_of r y out) tocked in
        let done : indoor_time_of l.world.indoor x.file 1 out' ≡ indoor_done plan (indoor_step (indoor_state g' t' sent') b) x.file out' =
        ap (λ (y : Indoor). indoor_time_of y x.file 1 out') at.indoor
        ∙ time_step i x.file 1 out' refl room'
        ∙ ap (λ (y : IndoorStep). indoor_done plan y x.file out') ticking in
        record {
          receiver = ap (λ (y : Left ReceiverOutcome). y.answer.session) did;
          indoor = ap (λ (y : Left IndoorOutcome). y.answer.session) done;
          rising = ap (λ (y : Left IndoorOutcome). sends (older l.up) y.answer.written y.memory) done ∙ sent_whole (older l.up) (asks b) out'
              ∙ ap (λ (on : List Going). with (older on) (asks b)) at.rising;
          falling = ap (λ (y : Left ReceiverOutcome). sends (older l.down) y.answer.written y.memory) did ∙ sent_whole (older l.down) (says a) out
              ∙ ap (λ (on : List Going). with (older on) (says a)) at.falling;
        }
