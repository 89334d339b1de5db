-- What a call leaves of a session whose blocks, silence and resends fit their fields fits them too.
use Prim.Native.Nat.{ℕ, ◌≤◌}
use mathlib.Core.List.{List}
use native.Mathlib.Omega.{arith}
use lib.Dec.{eqb}
use Rattle.basis.specs.Pick.{pick_all, differ}
use Rattle.silence.specs.Expiry.{grown_of}
use Rattle.silence.specs.declared.Grown.{Grown}
use Rattle.silence.specs.declared.Settings.{Settings}
use Rattle.silence.proofs.Laws.{grown_all}
use Rattle.wire.specs.declared.request.Request.{Request}
use Rattle.wire.specs.declared.request.Request.TheVariants as Req
use Rattle.receiver_state.specs.Phase.{accepted_of}
use Rattle.receiver_state.specs.declared.answer.Answer.{Answer}
use Rattle.receiver_state.specs.declared.phase.Accepted.{Accepted}
use Rattle.receiver_state.specs.declared.phase.Progress.{Progress}
use Rattle.receiver_state.specs.declared.phase.Phase.{Phase}
use Rattle.receiver_state.specs.declared.phase.Phase.TheVariants.{Idle, Transfer, Await, Good}
use Rattle.receiver_state.specs.declared.session.Receiver.{Receiver}
use Rattle.receiver_state.specs.declared.step.Step.{Step}
use Rattle.receiver_state.specs.declared.step.Tick.{Tick}
use Rattle.receiver_state.specs.declared.verdict.Verdict.{Verdict}
use Rattle.receiver_state.specs.declared.verdict.Verdict.TheVariants as Ver
use Rattle.receiver_rules.specs.Decide.{receiver_offer_of, initiate_in_transfer_of, receiver_initiate_of, passes_capacity, close_transfer_of, take_block_of, receiver_transfer_of, receiver_data_of, receiver_verdict_of, receiver_validate_of, receiver_abort_of, receiver_decide_of}
use Rattle.receiver_rules.specs.Request.{receiver_request_of}
use Rattle.receiver_rules.specs.Tick.{receiver_on_event, receiver_silence_of, receiver_tick_of}
use Rattle.receiver_rules.specs.Time.{receiver_time_of}
use Rattle.receiver_rules.proofs.Within.{within}
use Rattle.receiver_rules.proofs.Walk.{request_walk, time_walk}

abbrev Few : Phase → Type 0
Few phase = (accepted_of phase).blocks ≤ 65535

pub record Small (phase : Phase) (silence resends : ℕ) : Type 0 where
  pub few_blocks : Few phase
  pub short_silence : silence ≤ 65535
  pub few_resends : resends ≤ 255

abbrev Then : Step → Type 0
Then s = Few s.phase

offer_few : (phase : Phase) (readiness : ℕ) → Few phase → Then (receiver_offer_of phase readiness)
unfolding receiver_offer_of
offer_few phase readiness h = pick_all Then (eqb readiness 0) _ _ (λ _. omega arith) (λ _. h)

initiate_few : (phase : Phase) (readiness : ℕ) → Few phase → Then (receiver_initiate_of phase readiness)
unfolding receiver_initiate_of initiate_in_transfer_of
initiate_few Idle readiness h = offer_few Idle readiness h
initiate_few (Transfer p) readiness h =
    pick_all Then (differ p.accepted.blocks 0) _ _ (λ _. h) (λ _. offer_few (Transfer p) readiness h)
initiate_few (Await a) readiness h = h
initiate_few (Good a) readiness h = h

close_few : (a : Accepted) → a.blocks ≤ 65535 → Then (close_transfer_of a)
unfolding close_transfer_of
close_few a h = pick_all Then (eqb a.blocks 0) _ _ (λ _. omega arith) (λ _. h)

transfer_few : (p : Progress) (number size capacity readiness : ℕ) → p.accepted.blocks ≤ 65535 → Then (receiver_transfer_of p number size capacity readiness)
unfolding receiver_transfer_of take_block_of
transfer_few p number size capacity readiness h =
    pick_all Then (differ number p.accepted.blocks) _ _ (λ _. h)
    (λ _. pick_all Then (eqb size 0) _ _ (λ _. close_few p.accepted h)
    (λ _. pick_all Then p.short _ _ (λ _. omega arith)
    (λ _. pick_all Then (passes_capacity number size capacity) _ _ (λ _. omega arith)
    (λ t. let low = (within number size capacity t).0 in omega arith))))

data_few : (phase : Phase) (number size capacity readiness : ℕ) → Few phase → Then (receiver_data_of phase number size capacity readiness)
unfolding receiver_data_of
data_few Idle number size capacity readiness h = h
data_few (Transfer p) number size capacity readiness h = transfer_few p number size capacity readiness h
data_few (Await a) number size capacity readiness h = h
data_few (Good a) number size capacity readiness h = h

verdict_few : (a : Accepted) (verdict : Verdict) → a.blocks ≤ 65535 → Then (receiver_verdict_of a verdict)
unfolding receiver_verdict_of
verdict_few a Ver.Good h = h
verdict_few a Ver.Bad h = omega arith
verdict_few a (Ver.Later wait) h = h

validate_few : (phase : Phase) (verdict : Verdict) → Few phase → Then (receiver_validate_of phase verdict)
unfolding receiver_validate_of
validate_few Idle verdict h = h
validate_few (Transfer p) verdict h = h
validate_few (Await a) verdict h = verdict_few a verdict h
validate_few (Good a) verdict h = h

abort_few : (phase : Phase) → Few phase → Then (receiver_abort_of phase)
unfolding receiver_abort_of
abort_few Idle h = h
abort_few (Transfer p) h = omega arith
abort_few (Await a) h = omega arith
abort_few (Good a) h = h

decide_few : (phase : Phase) (q : Request) (capacity readiness : ℕ) (verdict : Verdict) → Few phase → Then (receiver_decide_of phase q capacity readiness verdict)
unfolding receiver_decide_of
decide_few phase Req.GetFwId capacity readiness verdict h = h
decide_few phase (Req.Initiate versions) capacity readiness verdict h = initiate_few phase readiness h
decide_few phase (Req.Data number size) capacity readiness verdict h = data_few phase number size capacity readiness h
decide_few phase Req.Validate capacity readiness verdict h = validate_few phase verdict h
decide_few phase Req.Abort capacity readiness verdict h = abort_few phase h
decide_few phase Req.NotBuilt capacity readiness verdict h = h

abbrev SmallSession : Receiver → Type 0
SmallSession r = Small r.phase r.silence r.resends

pub request_small : (r : Receiver) (image request : List ℕ) (readiness : ℕ) (verdict : Verdict) (out : List ℕ) → SmallSession r
    → SmallSession (receiver_request_of r image request readiness verdict out).outcome.session
request_small r image request readiness verdict out h =
    request_walk r image request readiness verdict out (λ e. SmallSession e.outcome.session) h h h h
    (λ q _ _ _.
    record { few_blocks = decide_few r.phase q r.capacity readiness verdict h.few_blocks; short_silence = omega arith; few_resends = omega arith })

abbrev SmallTick : Tick → Type 0
SmallTick t = Small t.phase t.silence t.resends

module _ (silence elapsed made : ℕ) (settings : Settings) (high : settings.limit ≤ 10000) (few : settings.resends ≤ 10) where
  wait_small : (phase : Phase) (again : Answer) → Small phase silence made → SmallTick (receiver_silence_of phase again (grown_of silence elapsed made settings))
  unfolding receiver_silence_of receiver_on_event
  wait_small phase again h =
      let blocks = h.few_blocks in
      let resends = h.few_resends in
      grown_all silence elapsed made settings (λ (g : Grown). SmallTick (receiver_on_event phase again g g.event))
      (λ below. record { few_blocks = blocks; short_silence = omega arith; few_resends = resends })
      (λ _ left. record { few_blocks = blocks; short_silence = omega arith; few_resends = omega arith })
      (λ _ _. record { few_blocks = omega arith; short_silence = omega arith; few_resends = resends })

  tick_small : (phase : Phase) → Small phase silence made → SmallTick (receiver_tick_of phase silence elapsed made settings)
  unfolding receiver_tick_of
  tick_small Idle h = h
  tick_small (Transfer p) h = wait_small (Transfer p) _ h
  tick_small (Await a) h = wait_small (Await a) _ h
  tick_small (Good a) h = h

pub time_small : (r : Receiver) (elapsed : ℕ) (out : List ℕ) → r.settings.limit ≤ 10000 → r.settings.resends ≤ 10 → SmallSession r
    → SmallSession (receiver_time_of r elapsed out).answer.session
time_small r elapsed out high few h =
    time_walk r elapsed out (λ x. SmallSession x.answer.session) h
    (λ _. tick_small r.silence elapsed r.resends r.settings high few r.phase h)
