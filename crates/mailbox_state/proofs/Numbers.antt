-- The numbers of the answers, and of a count of connectors, as document 01 has them (01, Numbers we answer; 01, The mailbox).
use Prim.Native.Nat.{ℕ, ◌≤◌, ◌<◌}
use mathlib.Core.List.{[], ◌∷◌, map}
use mathlib.Core.Path.{◌≡◌, refl, ap}
use native.Mathlib.Omega.{arith}
use borrow.Author.Tests.{lt-ltb, le-ltb, ltb-false}
use lib.Dec.{ltb}
use Rattle.std.specs.Prelude.{Result, Ok, Err}
use Rattle.numbers.specs.Number.{number_in}
use Rattle.basis.specs.Pick.{pick, pick_all}
use Rattle.mailbox_state.specs.Answer.{mailbox_number_of}
use Rattle.mailbox_state.specs.Connectors.{connectors_least, connectors_most, no_mailbox_number_of, no_mailbox, connectors_of, connectors_number_of}
use Rattle.mailbox_state.specs.declared.answer.Refusal.TheVariants.{ControlLength, NotificationsOff, CommandRuns, AcknowledgementDue, NothingToClear, NothingToCancel, NothingRuns, DataTooLong, NoSuchConnector}
use Rattle.mailbox_state.specs.declared.mailbox.NoMailbox.{NoMailbox}

pub numbers : map mailbox_number_of (Ok tt ∷ Err ControlLength ∷ Err NotificationsOff ∷ Err CommandRuns ∷ Err AcknowledgementDue ∷ Err NothingToClear ∷ Err NothingToCancel ∷ Err NothingRuns ∷ Err DataTooLong ∷ Err NoSuchConnector ∷ [])
    ≡ 0 ∷ 1 ∷ 2 ∷ 3 ∷ 4 ∷ 5 ∷ 6 ∷ 7 ∷ 8 ∷ 9 ∷ []
numbers = refl

module _ (count : ℕ) where
  pub none_refused : count ≡ 0 → connectors_of count ≡ no_mailbox
  unfolding connectors_of pick
  none_refused e = rw (lt-ltb count 1 (omega arith))

  pub many_refused : 8 < count → connectors_of count ≡ no_mailbox
  unfolding connectors_of pick
  many_refused h = rw (le-ltb count 1 (omega arith), lt-ltb 8 count h)

  pub counted : 1 ≤ count → count ≤ 8 → connectors_of count ≡ Ok count
  unfolding connectors_of pick
  counted low high = rw (le-ltb count connectors_least (omega arith), le-ltb connectors_most count (omega arith))

  pub none_29 : count ≡ 0 → connectors_number_of count ≡ 29
  none_29 e = ap (number_in no_mailbox_number_of) (none_refused e)

  pub many_29 : 8 < count → connectors_number_of count ≡ 29
  many_29 h = ap (number_in no_mailbox_number_of) (many_refused h)

  pub counted_0 : 1 ≤ count → count ≤ 8 → connectors_number_of count ≡ 0
  counted_0 low high = ap (number_in no_mailbox_number_of) (counted low high)

  -- 0 is answered to no other count.
  pub counted_within : connectors_number_of count ≡ 0 → (1 ≤ count) × (count ≤ 8)
  unfolding connectors_of
  counted_within =
      let P : Result ℕ NoMailbox → Type 0 = λ r. number_in no_mailbox_number_of r ≡ 0 → (1 ≤ count) × (count ≤ 8) in
      pick_all P (ltb count connectors_least) _ _ (λ _ e. absurd (omega arith))
      (λ a. pick_all P (ltb connectors_most count) _ _ (λ _ e. absurd (omega arith)) (λ b _. (ltb-false count connectors_least a, ltb-false connectors_most count b)))
