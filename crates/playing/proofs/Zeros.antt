-- Where the port's bytes are zeros, a step leaves MESSAGE_IN as the one does that zeroes it.
use Prim.Native.Nat.{ℕ, zero, suc, ◌+◌, ◌≤◌}
use mathlib.Core.Bool.{Bool, true, false}
use mathlib.Core.Path.{◌≡◌, refl, sym, ◌∙◌, ap}
use mathlib.Core.List.{List, [], ◌∷◌, ◌++◌}
use native.Mathlib.Nat.{le_of_suc-le-suc, not-suc-le-zero}
use native.Mathlib.Omega.{arith}
use borrow.Author.Tests.{ltb-false}
use lib.Dec.{ltb}
use lib.ListN.{length, take, drop, replicate, length-replicate, take-append-drop}
use Rattle.basis.specs.Pick.{pick}
use Rattle.basis.specs.Left.{Left}
use Rattle.lent.specs.Put.{put_of}
use Rattle.lent.proofs.Laws.{put_leads}
use Rattle.recording.specs.declared.record.Record.{Record}
use Rattle.recording.specs.declared.record.Record.TheVariants.{Control, Change, Success, Failure}
use Rattle.mailbox_state.specs.declared.step.MessageEffect.{MessageEffect}
use Rattle.mailbox_state.specs.declared.step.MessageEffect.TheVariants.{Kept, ZeroedAtReset, ZeroedAtCancel, ZeroedAtCompletion, Filled}
use Rattle.mailbox_rules.specs.MessageIn.{zero_message_in, filled_of, settled_of}
use Rattle.mailbox_rules.specs.Events.{port_bytes}
use Rattle.playing.specs.Turn.{event_in}
use Rattle.playing.specs.Step.{zeroed_of}
use Rattle.lent.specs.Put.{Placed}

take_replicate : (n k : ℕ) → n ≤ k → take {A = ℕ} n (replicate k 0) ≡ replicate n 0
take_replicate zero k h = refl
take_replicate (suc n) zero h = absurd (not-suc-le-zero h)
take_replicate (suc n) (suc k) h = ap (λ (t : List ℕ). 0 ∷ t) (take_replicate n k (le_of_suc-le-suc h))

all_zeros : (n k : ℕ) → n ≤ k → replicate {A = ℕ} n 0 ++ drop n (replicate k 0) ≡ replicate k 0
all_zeros n k h = ap (λ (t : List ℕ). t ++ drop n (replicate k 0)) (sym (take_replicate n k h)) ∙ take-append-drop n (replicate k 0)

-- Zeros, as many as they are: those that fit are put over zeros, and others are not put there.
filled_by : (n : ℕ) (passes : Bool) → ltb (length (replicate {A = ℕ} 256 0)) (0 + length (replicate {A = ℕ} n 0)) ≡ passes → (put_of (replicate 256 0) 0 (replicate n 0)).memory ≡ replicate 256 0
unfolding put_of pick
filled_by n true e = rw e
filled_by n false e =
    let raw = ltb-false (length (replicate {A = ℕ} 256 0)) (0 + length (replicate {A = ℕ} n 0)) e in
    let few : length (replicate {A = ℕ} n 0) ≤ length (replicate {A = ℕ} 256 0) = omega (arith, raw) in
    let size : length (replicate {A = ℕ} n 0) ≡ n = length-replicate {A = ℕ} n 0 in
    ap (λ (x : Left Placed). x.memory) (put_leads (replicate n 0) (replicate 256 0) few) ∙ rw size (all_zeros n 256 (omega (arith, few, size)))

filled_zeros : (n : ℕ) → filled_of (replicate n 0) ≡ zero_message_in
unfolding filled_of zero_message_in
filled_zeros n = filled_by n _ refl

none_filled : filled_of [] ≡ zero_message_in
none_filled = filled_zeros 0

by_effect : (message bytes : List ℕ) (e : MessageEffect) → filled_of bytes ≡ zero_message_in → settled_of message e bytes ≡ settled_of message (zeroed_of e) []
unfolding settled_of
by_effect message bytes Kept h = refl
by_effect message bytes ZeroedAtReset h = refl
by_effect message bytes ZeroedAtCancel h = refl
by_effect message bytes ZeroedAtCompletion h = refl
by_effect message bytes Filled h = h

pub record_zeroes : (message : List ℕ) (e : MessageEffect) (r : Record) → settled_of message e (port_bytes (event_in r)) ≡ settled_of message (zeroed_of e) []
unfolding event_in
record_zeroes message e (Control control) = by_effect message [] e none_filled
record_zeroes message e (Change connector reason) = by_effect message [] e none_filled
record_zeroes message e (Success length) = by_effect message (replicate length 0) e (filled_zeros length)
record_zeroes message e Failure = by_effect message [] e none_filled
