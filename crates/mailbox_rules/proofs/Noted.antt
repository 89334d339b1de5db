-- What a change owes (01, The mailbox; 01, Numbers we answer: 9, and then the mask).
use Prim.Native.Nat.{ℕ, ◌≤◌, ◌<◌}
use mathlib.Core.Bool.{true, false}
use mathlib.Core.Logic.{◌⊎◌, inl, inr}
use mathlib.Core.Path.{◌≡◌, refl}
use borrow.Author.Tests.{eq-eqb, ne_eqb, not-false}
use Rattle.std.specs.Prelude.{Ok}
use Rattle.basis.specs.Pick.{pick, pick_all}
use Rattle.mailbox_state.specs.State.{changes, mailbox_state}
use Rattle.mailbox_state.specs.Step.{mailbox_step, refused}
use Rattle.mailbox_state.specs.declared.answer.Refusal.TheVariants.{NoSuchConnector}
use Rattle.mailbox_state.specs.declared.state.Changes.{Changes}
use Rattle.mailbox_state.specs.declared.state.Notifications.TheVariants.{Off, On}
use Rattle.mailbox_state.specs.declared.state.State.{State}
use Rattle.mailbox_state.specs.declared.step.MessageEffect.TheVariants.{Kept}
use Rattle.mailbox_state.specs.declared.step.Step.{Step}
use Rattle.mailbox_rules.specs.Change.{meets_of, heard_of, present_step_of, change_step_of}
use Rattle.mailbox_rules.specs.Changes.{marked_of, noted_of}
use Rattle.mailbox_rules.proofs.Absent.{zero_absent, above_absent, is_there, there_only}

-- The state with other changes: another connector shown, or others waiting.
abbrev pub altering : State → Changes → State
altering state after = mailbox_state state.connectors state.notifications state.status after

module _ (state : State) (c reason : ℕ) where
  -- 9 is judged before the mask, with notifications off too.
  pub change_9_zero : c ≡ 0 → change_step_of state c reason ≡ refused state NoSuchConnector
  unfolding change_step_of pick
  change_9_zero e = rw (zero_absent c state.connectors e)

  pub change_9_above : state.connectors < c → change_step_of state c reason ≡ refused state NoSuchConnector
  unfolding change_step_of pick
  change_9_above h = rw (above_absent c state.connectors h)

  module _ (low : 1 ≤ c) (high : c ≤ state.connectors) where
    pub change_off : state.notifications ≡ Off → change_step_of state c reason ≡ mailbox_step state (Ok tt) Kept
    unfolding change_step_of present_step_of heard_of pick
    change_off e = rw (is_there c state.connectors low high, e)

    pub change_dropped : (mask : ℕ) → state.notifications ≡ On mask → meets_of reason mask ≡ false → change_step_of state c reason ≡ mailbox_step state (Ok tt) Kept
    unfolding change_step_of present_step_of heard_of pick
    change_dropped mask e h = rw (is_there c state.connectors low high, e, h)

    pub change_recorded : (mask : ℕ) → state.notifications ≡ On mask → meets_of reason mask ≡ true → change_step_of state c reason ≡ mailbox_step (altering state (noted_of state.changes c)) (Ok tt) Kept
    unfolding change_step_of present_step_of heard_of pick
    change_recorded mask e h = rw (is_there c state.connectors low high, e, h)

-- The same connector waits once; a new change on the one shown waits like any other.
module _ (now : Changes) (c : ℕ) where
  pub noted_none : now.shown ≡ 0 → noted_of now c ≡ changes c now.waiting
  unfolding noted_of pick
  noted_none e = rw (eq-eqb now.shown 0 e)

  pub noted_waits : (now.shown ≡ 0 → ⊥) → noted_of now c ≡ changes now.shown (marked_of now.waiting c true)
  unfolding noted_of pick
  noted_waits h = rw (ne_eqb now.shown 0 h)

-- A change that is recorded: on a connector that is there, and heard.
pub record Recorded (state : State) (c reason : ℕ) : Type 0 where
  pub low : 1 ≤ c
  pub high : c ≤ state.connectors
  pub heard : heard_of state.notifications reason ≡ true

-- A change alters nothing but the changes, and those are as they were or with this one noted.
pub record Alters (state : State) (c reason : ℕ) (step : Step) : Type 0 where
  pub others : step.state ≡ altering state step.state.changes
  pub effect : step.effect ≡ Kept
  pub noted : (step.state.changes ≡ state.changes) ⊎ (Recorded state c reason × (step.state.changes ≡ noted_of state.changes c))

pub change_alters : (state : State) (c reason : ℕ) → Alters state c reason (change_step_of state c reason)
unfolding change_step_of present_step_of
change_alters state c reason =
    pick_all (Alters state c reason) _ _ _
    (λ absent. record { others = refl; effect = refl; noted = inl refl })
    (λ there.
    let range = there_only c state.connectors (not-false _ there) in
    pick_all (Alters state c reason) _ _ _
    (λ not. record { others = refl; effect = refl; noted = inl refl })
    (λ heard. record { others = refl; effect = refl; noted = inr (record { low = range.0; high = range.1; heard = not-false _ heard }, refl) }))
