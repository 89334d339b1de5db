-- What a session that was started begins with.
use Prim.Native.Nat.{ℕ, ◌≤◌, ◌<◌}
use mathlib.Core.Path.{◌≡◌, refl, sym, ap}
use native.Mathlib.Omega.{arith}
use borrow.Author.Tests.{ltb-false}
use lib.Dec.{ltb}
use Rattle.basis.specs.Pick.{pick_all}
use Rattle.silence.specs.Settings as silent
use Rattle.silence.specs.declared.Settings.{Settings}
use Rattle.silence.specs.declared.OutOfLimits.{OutOfLimits}
use Rattle.silence.specs.Settings.{Checked, out_of_limits}
use Rattle.silence.proofs.Laws.{made_some}
use Rattle.wire.specs.declared.response.Identity.{Identity}
use Rattle.receiver_state.specs.declared.phase.Phase.TheVariants.{Idle}
use Rattle.wire.specs.Codes.{image_size_most}
use Rattle.receiver_rules.specs.Session.{receiver_fresh_of, receiver_start_of}
use Rattle.receiver_state.specs.declared.session.Receiver.{Receiver}
use Rattle.receiver_state.specs.Session.{Started}
use Rattle.std.specs.Prelude.{Ok, Err}

-- A fresh session is in Idle, with the identity and the capacity that it was started with, at most 1,048,575, and its silence is below the limit.
pub record Fresh (identity : Identity) (capacity : ℕ) (r : Receiver) : Type 0 where
  pub idle : r.phase ≡ Idle
  pub who : r.identity ≡ identity
  pub room : r.capacity ≡ capacity
  pub within : r.capacity ≤ image_size_most
  pub below : r.silence < r.settings.limit

made_same : (a b : Receiver) → ◌≡◌ {A = Started} (Ok a) (Ok b) → a ≡ b
made_same a b e = cc

pub refused_made : (refusal : OutOfLimits) (r : Receiver) → ◌≡◌ {A = Started} (Err refusal) (Ok r) → ⊥
refused_made refusal r e = let z : ◌≡◌ {A = ℕ} 0 1 = cc in omega arith

made_fresh : (identity : Identity) (capacity : ℕ) (r : Receiver) (x : Checked) → ((s : Settings) → x ≡ Ok s → 1 ≤ s.limit) → capacity ≤ image_size_most → receiver_fresh_of x identity capacity ≡ Ok r → Fresh identity capacity r
unfolding receiver_fresh_of
made_fresh identity capacity r (Ok settings) some h e =
    let limit = some settings refl in
    let same = made_same _ r e in
    let room = ap (λ x. x.capacity) (sym same) in
    let quiet = ap (λ x. x.silence) (sym same) in
    let asked = ap (λ x. x.settings.limit) (sym same) in
    record { idle = ap (λ x. x.phase) (sym same); who = ap (λ x. x.identity) (sym same); room = room; within = omega arith; below = omega arith }
made_fresh identity capacity r (Err refusal) some h e = absurd (refused_made _ r e)

pub start_fresh : (limit resends : ℕ) (identity : Identity) (capacity : ℕ) (r : Receiver) → receiver_start_of limit resends identity capacity ≡ Ok r → Fresh identity capacity r
unfolding receiver_start_of
start_fresh limit resends identity capacity r =
    pick_all (λ (x : Started). x ≡ Ok r → Fresh identity capacity r) (ltb image_size_most capacity) _ _
    (λ _ e. absurd (refused_made _ r e))
    (λ t. made_fresh identity capacity r (silent.settings_of limit resends) (made_some limit resends) (let few = ltb-false image_size_most capacity t in omega arith))
