-- How a session starts, in the paper's own numbers (01, Sizes and numbers).
use Prim.Native.Nat.{ℕ, ◌<◌, ◌≤◌}
use mathlib.Core.Path.{◌≡◌, refl}
use native.Mathlib.Omega.{arith}
use borrow.Author.Tests.{le-ltb, lt-ltb}
use lib.Dec.{ltb}
use Rattle.basis.specs.Pick.{pick, pick_all}
use Rattle.silence.specs.Settings as silent
use Rattle.silence.specs.Within.{Within}
use Rattle.silence.proofs.Laws.{within_made, outside_29}
use Rattle.silence.specs.Settings.{Checked, out_of_limits}
use Rattle.wire.specs.declared.response.Identity.{Identity}
use Rattle.receiver_state.specs.declared.phase.Phase.TheVariants.{Idle}
use Rattle.wire.specs.Codes.{image_size_most}
use Rattle.receiver_rules.specs.Session.{receiver_fresh_of, receiver_start_of}
use Rattle.receiver_state.specs.declared.session.Receiver.{Receiver}
use Rattle.receiver_state.specs.Session.{Started}
use Rattle.std.specs.Prelude.{Ok, Err}

abbrev pub fresh : ℕ → ℕ → Identity → ℕ → Receiver
fresh limit resends identity capacity = record {
  settings = record { limit = limit; resends = resends };
  identity = identity;
  capacity = capacity;
  phase = Idle;
  silence = 0;
  resends = 0;
}

module _ (limit resends : ℕ) (identity : Identity) (capacity : ℕ) where
  -- Above a capacity of 1,048,575: 29, no session.
  pub start_29_capacity : 1048575 < capacity → receiver_start_of limit resends identity capacity ≡ Err out_of_limits
  unfolding receiver_start_of pick
  start_29_capacity h = rw (lt-ltb image_size_most capacity (omega arith))

  -- Settings within the limits make a session in Idle; a capacity of 0 is allowed.
  pub start_made : Within limit resends → capacity ≤ 1048575 → receiver_start_of limit resends identity capacity ≡ Ok (fresh limit resends identity capacity)
  unfolding receiver_start_of receiver_fresh_of pick
  start_made h c =
      let few : capacity ≤ image_size_most = omega arith in
      rw (le-ltb image_size_most capacity few, within_made limit resends h)

  fresh_29 : (x : Checked) → silent.settings_number_of x ≡ 29 → receiver_fresh_of x identity capacity ≡ Err out_of_limits
  unfolding receiver_fresh_of
  fresh_29 (Ok settings) e = absurd (omega arith)
  fresh_29 (Err refusal) e = refl

  -- A silence limit or resend count outside its limits: 29, no session.
  pub start_29_settings : (Within limit resends → ⊥) → receiver_start_of limit resends identity capacity ≡ Err out_of_limits
  unfolding receiver_start_of
  start_29_settings h =
      pick_all (λ (x : Started). x ≡ Err out_of_limits) (ltb image_size_most capacity) _ _ (λ _. refl)
      (λ _. fresh_29 (silent.settings_of limit resends) (outside_29 limit resends h))
