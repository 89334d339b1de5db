-- A count of 1 to 8 makes the words of a fresh mailbox; any other is 29, and every word and MESSAGE_IN are then zero.
use Prim.Native.Nat.{ℕ, ◌≤◌, ◌<◌}
use mathlib.Core.Bool.{true}
use native.Mathlib.Omega.{arith}
use mathlib.Core.List.{[], ◌∷◌}
use mathlib.Core.Path.{◌≡◌, refl, sym, ◌∙◌, ap}
use lib.ListN.{replicate, set}
use Rattle.std.specs.Prelude.{Result, Ok, Err}
use Rattle.mailbox_state.specs.Connectors.{no_mailbox_number_of, connectors_of}
use Rattle.mailbox_state.specs.declared.mailbox.NoMailbox.{NoMailbox}
use Rattle.mailbox_rules.specs.Mailbox.{fresh_mailbox, mailbox_fresh_of}
use Rattle.mailbox_rules.specs.MessageIn.{zero_message_in}
use Rattle.mailbox_rules.proofs.Laws.{fresh_made, fresh_29_zero, fresh_29_above, fresh_all}
use Rattle.mailbox_rules.proofs.WellFormed.{fresh_formed}
use Rattle.mailbox_c.specs.Waiting.{bits_of}
use Rattle.width.specs.Narrow.{at_most}
use Rattle.mailbox_c.specs.Words.{words_of, is_mailbox}
use Rattle.mailbox_c.specs.Calls.{mailbox_called, fresh_leaves, harsolvek_mailbox_fresh}
use Rattle.mailbox_c.proofs.Fitting.{fresh_fits}
use Rattle.mailbox_c.proofs.Inverse.{words_mailbox}
use Rattle.mailbox_c.proofs.Narrowing.{count_narrow}

fresh_words : (count : ℕ) → words_of (fresh_mailbox count).state ≡ set (replicate 10 0) 0 count
unfolding fresh_mailbox words_of bits_of
fresh_words count = refl

fresh_message : (count : ℕ) → (fresh_mailbox count).message ≡ replicate 256 0
unfolding fresh_mailbox zero_message_in
fresh_message count = refl

module _ (count : ℕ) (counted : Result ℕ NoMailbox) (is : counted ≡ connectors_of (at_most 255 count)) where
  same : connectors_of count ≡ counted
  same = sym (is ∙ count_narrow count)

  pub fresh_refuses : (none : NoMailbox) → counted ≡ Err none → mailbox_called (no_mailbox_number_of none) (replicate 10 0) (replicate 256 0) ≡ harsolvek_mailbox_fresh count
  unfolding mailbox_fresh_of zero_message_in
  fresh_refuses none e = sym (rw (same, e))

  pub fresh_makes : (n : ℕ) → counted ≡ Ok n → mailbox_called 0 (set (replicate 10 0) 0 n) (replicate 256 0) ≡ harsolvek_mailbox_fresh count
  unfolding mailbox_fresh_of
  fresh_makes n e = sym (rw (same, e, fresh_words n, fresh_message n))

module _ (count : ℕ) where
  pub fresh_taken : 1 ≤ count → count ≤ 8
      → harsolvek_mailbox_fresh count ≡ mailbox_called 0 (count ∷ 0 ∷ 0 ∷ 0 ∷ 0 ∷ 0 ∷ 0 ∷ 0 ∷ 0 ∷ 0 ∷ []) (replicate 256 0)
  fresh_taken low high = ap fresh_leaves (fresh_made count low high) ∙ rw (fresh_words count, fresh_message count)

  pub fresh_refused_zero : count ≡ 0 → harsolvek_mailbox_fresh count ≡ mailbox_called 29 (replicate 10 0) (replicate 256 0)
  unfolding zero_message_in
  fresh_refused_zero e = ap fresh_leaves (fresh_29_zero count e)

  pub fresh_refused_above : 8 < count → harsolvek_mailbox_fresh count ≡ mailbox_called 29 (replicate 10 0) (replicate 256 0)
  unfolding zero_message_in
  fresh_refused_above h = ap fresh_leaves (fresh_29_above count h)

  pub fresh_mailbox_lem : (harsolvek_mailbox_fresh count).number ≡ 0 → is_mailbox (harsolvek_mailbox_fresh count).words ≡ true
  fresh_mailbox_lem =
      fresh_all count (λ r. (fresh_leaves r).number ≡ 0 → is_mailbox (fresh_leaves r).words ≡ true) (λ e. absurd (omega arith))
      (λ low high e. words_mailbox (fresh_mailbox count).state (fresh_formed count low high) (fresh_fits count))
