-- What time does to the receiver, case by case (01, The receiver's phases: Time; 01, Sizes and numbers).
use Prim.Native.Nat.{ℕ, ◌+◌, ◌<◌, ◌≤◌}
use mathlib.Core.Path.{◌≡◌, refl}
use native.Mathlib.Omega.{arith}
use Rattle.silence.specs.Expiry.{grown_of}
use Rattle.silence.specs.declared.Grown.{Grown}
use Rattle.silence.proofs.Laws.{below_quiet, left_resends, none_left_expires, one_expiry, many_limits, grown_below, no_time}
use Rattle.silence.specs.declared.Settings.{Settings}
use Rattle.silence.specs.declared.Event.{Event}
use Rattle.silence.specs.declared.Event.TheVariants.{Quiet, Resend, NoneLeft}
use Rattle.receiver_state.proofs.Truth.{GoodIfSuccess}
use Rattle.receiver_state.specs.Answer.{receiver_number_of}
use Rattle.receiver_state.specs.declared.answer.Answer.{Answer}
use Rattle.receiver_state.specs.declared.answer.Answer.TheVariants.{Asking, Closed, Passed}
use Rattle.receiver_rules.specs.Tick.{tick, receiver_on_event, receiver_silence_of, receiver_tick_of}
use Rattle.receiver_state.specs.declared.phase.Accepted.{Accepted}
use Rattle.receiver_state.specs.declared.phase.Progress.{Progress}
use Rattle.receiver_state.specs.declared.phase.Phase.{Phase}
use Rattle.receiver_state.specs.declared.phase.Phase.TheVariants.{Idle, Transfer, Await, Good}
use Rattle.receiver_state.specs.declared.step.Tick.{Tick}

module _ (silence elapsed made : ℕ) (settings : Settings) where
  abbrev then : Phase → Tick
  then phase = receiver_tick_of phase silence elapsed made settings

  module _ (below : silence + elapsed < settings.limit) where
    wait_quiet : (phase : Phase) (again : Answer) → receiver_silence_of phase again (grown_of silence elapsed made settings) ≡ tick phase (silence + elapsed) made Passed
    unfolding receiver_silence_of receiver_on_event
    wait_quiet phase again = rw (below_quiet silence elapsed made settings below)

    -- Silence grows.
    pub transfer_quiet : (p : Progress) → then (Transfer p) ≡ tick (Transfer p) (silence + elapsed) made Passed
    unfolding receiver_tick_of
    transfer_quiet p = wait_quiet (Transfer p) _

    pub await_quiet : (a : Accepted) → then (Await a) ≡ tick (Await a) (silence + elapsed) made Passed
    unfolding receiver_tick_of
    await_quiet a = wait_quiet (Await a) _

  module _ (limit : settings.limit ≤ silence + elapsed) (left : made < settings.resends) where
    wait_again : (phase : Phase) (again : Answer) → receiver_silence_of phase again (grown_of silence elapsed made settings) ≡ tick phase 0 (made + 1) again
    unfolding receiver_silence_of receiver_on_event
    wait_again phase again = rw (left_resends silence elapsed made settings limit left)

    -- Transfer asks for the next number with wait 0.
    pub transfer_asks : (p : Progress) → then (Transfer p) ≡ tick (Transfer p) 0 (made + 1) (Asking 0 p.accepted.blocks)
    unfolding receiver_tick_of
    transfer_asks p = wait_again (Transfer p) (Asking 0 p.accepted.blocks)

    -- Await repeats the closing answer.
    pub await_repeats : (a : Accepted) → then (Await a) ≡ tick (Await a) 0 (made + 1) (Closed a.blocks)
    unfolding receiver_tick_of
    await_repeats a = wait_again (Await a) (Closed a.blocks)

  module _ (limit : settings.limit ≤ silence + elapsed) (none : settings.resends ≤ made) where
    silence_idle : (phase : Phase) (again : Answer) → receiver_silence_of phase again (grown_of silence elapsed made settings) ≡ tick Idle 0 made Passed
    unfolding receiver_silence_of receiver_on_event
    silence_idle phase again = rw (none_left_expires silence elapsed made settings limit none)

    -- With none left: Idle.
    pub transfer_idle : (p : Progress) → then (Transfer p) ≡ tick Idle 0 made Passed
    unfolding receiver_tick_of
    transfer_idle p = silence_idle (Transfer p) _

    pub await_idle : (a : Accepted) → then (Await a) ≡ tick Idle 0 made Passed
    unfolding receiver_tick_of
    await_idle a = silence_idle (Await a) _

  -- In Idle and Good nothing changes.
  pub idle_still : then Idle ≡ tick Idle silence made Passed
  unfolding receiver_tick_of
  idle_still = refl

  pub good_still : (a : Accepted) → then (Good a) ≡ tick (Good a) silence made Passed
  unfolding receiver_tick_of
  good_still a = refl

-- Time leaves a phase as it is or goes to Idle.
abbrev pub Lasts : Phase → Phase → Type 0
Lasts before Idle = Unit
Lasts before (Transfer p) = Transfer p ≡ before
Lasts before (Await a) = Await a ≡ before
Lasts before (Good a) = Good a ≡ before

-- Answered 0; and one call, however long, is at most one expiry.
pub record Ticks (before : Phase) (made : ℕ) (t : Tick) : Type 0 where
  pub taken : receiver_number_of t.answer ≡ 0
  pub lasts : Lasts before t.phase
  pub once : t.resends ≤ made + 1
  pub success : GoodIfSuccess t.answer t.phase

module _ (made : ℕ) (g : Grown) (once : g.resends ≤ made + 1) where
  transfer_ticks : (p : Progress) (number : ℕ) (event : Event) → Ticks (Transfer p) made (receiver_on_event (Transfer p) (Asking 0 number) g event)
  unfolding receiver_on_event
  transfer_ticks p number Quiet = search
  transfer_ticks p number Resend = search
  transfer_ticks p number NoneLeft = search

  await_ticks : (a : Accepted) (number : ℕ) (event : Event) → Ticks (Await a) made (receiver_on_event (Await a) (Closed number) g event)
  unfolding receiver_on_event
  await_ticks a number Quiet = search
  await_ticks a number Resend = search
  await_ticks a number NoneLeft = search

pub pass_ticks : (before : Phase) (silence elapsed made : ℕ) (settings : Settings) → Ticks before made (receiver_tick_of before silence elapsed made settings)
unfolding receiver_tick_of receiver_silence_of
pass_ticks Idle silence elapsed made settings = record { taken = refl; lasts = tt; once = omega arith; success = tt }
pass_ticks (Transfer p) silence elapsed made settings =
    let g = grown_of silence elapsed made settings in
    transfer_ticks made g (one_expiry silence elapsed made settings) p p.accepted.blocks g.event
pass_ticks (Await a) silence elapsed made settings =
    let g = grown_of silence elapsed made settings in
    await_ticks made g (one_expiry silence elapsed made settings) a a.blocks g.event
pass_ticks (Good a) silence elapsed made settings = record { taken = refl; lasts = refl; once = omega arith; success = tt }

-- Silence stays below the limit.
module _ (silence elapsed made : ℕ) (settings : Settings) (below : silence < settings.limit) where
  abbrev Below : Tick → Type 0
  Below t = t.silence < settings.limit

  abbrev g : Grown
  g = grown_of silence elapsed made settings

  wait_below : (phase : Phase) (again : Answer) (event : Event) → Below (receiver_on_event phase again g event)
  unfolding receiver_on_event
  wait_below phase again Quiet = grown_below silence elapsed made settings (omega arith)
  wait_below phase again Resend = grown_below silence elapsed made settings (omega arith)
  wait_below phase again NoneLeft = grown_below silence elapsed made settings (omega arith)

  pub stays_below : (phase : Phase) → Below (receiver_tick_of phase silence elapsed made settings)
  unfolding receiver_tick_of receiver_silence_of
  stays_below Idle = below
  stays_below (Transfer p) = wait_below (Transfer p) _ g.event
  stays_below (Await a) = wait_below (Await a) _ g.event
  stays_below (Good a) = below

-- Where no time passes nothing changes.
module _ (silence made : ℕ) (settings : Settings) (below : silence < settings.limit) where
  wait_still : (phase : Phase) (again : Answer) → receiver_silence_of phase again (grown_of silence 0 made settings) ≡ tick phase silence made Passed
  unfolding receiver_silence_of receiver_on_event
  wait_still phase again = rw (no_time silence made settings below)

  pub tick_no_time : (phase : Phase) → receiver_tick_of phase silence 0 made settings ≡ tick phase silence made Passed
  unfolding receiver_tick_of
  tick_no_time Idle = refl
  tick_no_time (Transfer p) = wait_still (Transfer p) _
  tick_no_time (Await a) = wait_still (Await a) _
  tick_no_time (Good a) = refl

-- One call that passes several limits is one expiry: it does what a call does that reaches the first exactly.
module _ (silence made e e' : ℕ) (settings : Settings) (h : settings.limit ≤ silence + e) (h' : settings.limit ≤ silence + e') where
  wait_many : (phase : Phase) (again : Answer) → receiver_silence_of phase again (grown_of silence e made settings) ≡ receiver_silence_of phase again (grown_of silence e' made settings)
  unfolding receiver_silence_of
  wait_many phase again = rw (many_limits silence made e e' settings h h')

  pub pass_many : (phase : Phase) → receiver_tick_of phase silence e made settings ≡ receiver_tick_of phase silence e' made settings
  unfolding receiver_tick_of
  pass_many Idle = refl
  pass_many (Transfer p) = wait_many (Transfer p) _
  pass_many (Await a) = wait_many (Await a) _
  pass_many (Good a) = refl
