-- No rule tells a number above 255 from 255: as a count it is 29, and as a connector 9 (01, Numbers we answer).
use Prim.Native.Nat.{ℕ, ◌≤◌}
use mathlib.Core.Bool.{true}
use mathlib.Core.List.{List}
use mathlib.Core.Path.{◌≡◌, refl, sym, ◌∙◌}
use native.Mathlib.Omega.{arith}
use borrow.Author.Tests.{ltb-true}
use lib.Dec.{ltb}
use Rattle.basis.specs.Pick.{pick_all}
use Rattle.mailbox_state.specs.Connectors.{connectors_of}
use Rattle.mailbox_state.proofs.Numbers.{many_refused}
use Rattle.mailbox_state.specs.declared.state.State.{State}
use Rattle.mailbox_rules.specs.Change.{change_step_of}
use Rattle.mailbox_rules.proofs.Noted.{change_9_above}
use Rattle.width.specs.Narrow.{at_most}
use Rattle.mailbox_c.specs.Words.{state_at, is_mailbox}
use Rattle.mailbox_c.proofs.Inverse.{mailbox_formed}

pub count_narrow : (count : ℕ) → connectors_of (at_most 255 count) ≡ connectors_of count
unfolding at_most
count_narrow count =
    pick_all (λ n. connectors_of n ≡ connectors_of count) (ltb 255 count) 255 count
    (λ t. let many = ltb-true 255 count t in many_refused 255 (omega arith) ∙ sym (many_refused count (omega arith)))
    (λ _. refl)

module _ (state : State) (few : state.connectors ≤ 8) (connector reason : ℕ) where
  pub change_narrow : change_step_of state (at_most 255 connector) reason ≡ change_step_of state connector reason
  unfolding at_most
  change_narrow =
      pick_all (λ n. change_step_of state n reason ≡ change_step_of state connector reason) (ltb 255 connector) 255 connector
      (λ t. let many = ltb-true 255 connector t in change_9_above state 255 reason (omega arith) ∙ sym (change_9_above state connector reason (omega arith)))
      (λ _. refl)

-- So it is on a mailbox.
pub called_narrow : (w : List ℕ) (connector reason : ℕ) → is_mailbox w ≡ true
    → change_step_of (state_at w) (at_most 255 connector) reason ≡ change_step_of (state_at w) connector reason
called_narrow w connector reason is = change_narrow (state_at w) (mailbox_formed w is).high connector reason
