-- The mailbox for C keeps step with the proved one: on a mailbox's words a call is the mailbox's own, and other words get 29. A refusal keeps
-- every word and byte. What a start that is taken makes, and what any call leaves of a mailbox, is a mailbox; every state that comes of such
-- a start is one that events lead to from a fresh one.
use Prim.Native.Nat.{ℕ, ◌≤◌}
use mathlib.Core.Bool.{true, false}
use mathlib.Core.List.{List}
use mathlib.Core.Path.{◌≡◌, refl, sym, ◌∙◌, ap, subst}
use native.Mathlib.Omega.{arith}
use lib.ListN.{length}
use Rattle.basis.specs.Pick.{pick_yes, pick_no, not_yes, not_no}
use Rattle.mailbox_state.specs.Answer.{mailbox_number_of}
use Rattle.mailbox_state.specs.declared.mailbox.Outcome.{Outcome}
use Rattle.mailbox_state.specs.declared.state.State.{State}
use Rattle.mailbox_rules.specs.Cci.{cci_bits_of}
use Rattle.mailbox_rules.specs.Events as event
use Rattle.mailbox_rules.specs.Events.{Event, event_of}
use Rattle.mailbox_rules.specs.History.{Reached}
use Rattle.mailbox_rules.specs.Mailbox.{mailbox, fresh_mailbox}
use Rattle.mailbox_rules.specs.WellFormed.{WellFormed}
use Rattle.mailbox_rules.proofs.Laws.{refused_keeps, fresh_made, fresh_all}
use Rattle.mailbox_rules.proofs.Reached.{reached_fresh, reached_next}
use Rattle.mailbox_rules.proofs.Steps.{event_connectors}
use Rattle.mailbox_rules.proofs.WellFormed.{fresh_formed, event_formed}
use Rattle.mailbox_c.specs.Words.{state_at, mailbox_at, words_of, is_mailbox}
use Rattle.mailbox_c.specs.Fits.{Fits}
use Rattle.mailbox_c.specs.Calls.{MailboxCalled, mailbox_called, fresh_leaves, outcome_leaves, event_called, cci_read, harsolvek_mailbox_fresh, harsolvek_mailbox_cci}
use Rattle.mailbox_c.specs.Handed.{HandedMailbox, starts, writes, succeeds, fails, changes}
use Rattle.mailbox_c.proofs.Fitting.{event_fits, fresh_fits}
use Rattle.mailbox_c.proofs.Inverse.{laid_kept, words_say, words_mailbox, laid_words, mailbox_formed, mailbox_fits, mailbox_connectors}

-- Each of the four calls that take an event is `event_called`.
module _ (w message : List ℕ) (e : Event) where
  abbrev outcome : Outcome
  outcome = event_of (mailbox_at w message) e

  pub event_29 : is_mailbox w ≡ false → event_called w message e ≡ mailbox_called 29 w message
  event_29 is = pick_yes _ _ _ (not_yes _ is)

  module _ (is : is_mailbox w ≡ true) where
    pub event_through : event_called w message e ≡ outcome_leaves w outcome
    event_through = pick_no _ _ _ (not_no _ is)

    pub refused_kept : (mailbox_number_of outcome.answer ≡ 0 → ⊥) → event_called w message e ≡ mailbox_called (mailbox_number_of outcome.answer) w message
    refused_kept not =
        event_through
        ∙ ap (outcome_leaves w) (refused_keeps (mailbox_at w message) e not)
        ∙ ap (λ (x : List ℕ). mailbox_called (mailbox_number_of outcome.answer) x message) (laid_kept w is)

    next_formed : WellFormed outcome.mailbox.state
    next_formed = event_formed (state_at w) e (mailbox_formed w is)

    next_fits : Fits outcome.mailbox.state
    next_fits = event_fits (state_at w) e (mailbox_fits w is)

    module _ (ten : length w ≡ 10) where
      next_words : (event_called w message e).words ≡ words_of outcome.mailbox.state
      next_words =
          ap (λ (x : MailboxCalled). x.words) event_through
          ∙ laid_words outcome.mailbox.state next_formed next_fits w ten (mailbox_connectors w is ∙ sym (event_connectors (state_at w) e))

      -- What the call leaves of a mailbox's words is a mailbox's again,
      pub event_mailbox : is_mailbox (event_called w message e).words ≡ true
      event_mailbox = ap is_mailbox next_words ∙ words_mailbox outcome.mailbox.state next_formed next_fits

      -- and they say what the event left.
      pub event_next : mailbox_at (event_called w message e).words (event_called w message e).message ≡ outcome.mailbox
      event_next =
          ap (λ (x : List ℕ). mailbox_at x (event_called w message e).message) next_words
          ∙ ap (λ (s : State). mailbox s (event_called w message e).message) (words_say outcome.mailbox.state next_formed next_fits)
          ∙ ap (λ (x : MailboxCalled). mailbox outcome.mailbox.state x.message) event_through

      pub event_ten : length (event_called w message e).words ≡ 10
      unfolding words_of
      event_ten = ap length next_words

module _ (w : List ℕ) where
  pub cci_through : is_mailbox w ≡ true → harsolvek_mailbox_cci w ≡ cci_read 0 (cci_bits_of (state_at w).status (state_at w).changes.shown)
  cci_through is = pick_no _ _ _ (not_no _ is)

  pub cci_29 : is_mailbox w ≡ false → harsolvek_mailbox_cci w ≡ cci_read 29 0
  cci_29 is = pick_yes _ _ _ (not_yes _ is)

module _ (count : ℕ) where
  -- Ten words that are a mailbox's, and it is one that events lead to.
  pub record Reaches (w message : List ℕ) : Type 0 where
    pub ten : length w ≡ 10
    pub is : is_mailbox w ≡ true
    pub reached : Reached count (mailbox_at w message)

  made_reaches : 1 ≤ count → count ≤ 8 → Reaches (words_of (fresh_mailbox count).state) (fresh_mailbox count).message
  unfolding words_of
  made_reaches low high =
      let formed = fresh_formed count low high in
      let fits = fresh_fits count in
      record {
        ten = refl;
        is = words_mailbox (fresh_mailbox count).state formed fits;
        reached =
            subst (λ (s : State). Reached count (mailbox s (fresh_mailbox count).message)) (sym (words_say (fresh_mailbox count).state formed fits))
            (reached_fresh count (fresh_mailbox count) (fresh_made count low high));
      }

  begins : (harsolvek_mailbox_fresh count).number ≡ 0 → Reaches (harsolvek_mailbox_fresh count).words (harsolvek_mailbox_fresh count).message
  begins =
      fresh_all count (λ r. (fresh_leaves r).number ≡ 0 → Reaches (fresh_leaves r).words (fresh_leaves r).message) (λ e. absurd (omega arith))
      (λ low high e. made_reaches low high)

  goes_on : (w message : List ℕ) (e : Event) → Reaches w message → Reaches (event_called w message e).words (event_called w message e).message
  goes_on w message e r =
      record {
        ten = event_ten w message e r.is r.ten;
        is = event_mailbox w message e r.is r.ten;
        reached = subst (Reached count) (sym (event_next w message e r.is r.ten)) (reached_next count (mailbox_at w message) e r.reached);
      }

  pub handed_reached : {w message : List ℕ} → HandedMailbox count w message → Reaches w message
  handed_reached (starts e) = begins e
  handed_reached (writes {w = w} {m = m} h control) = goes_on w m (event.writes control) (handed_reached h)
  handed_reached (succeeds {w = w} {m = m} h bytes) = goes_on w m (event.succeeds bytes) (handed_reached h)
  handed_reached (fails {w = w} {m = m} h) = goes_on w m event.fails (handed_reached h)
  handed_reached (changes {w = w} {m = m} h connector reason) = goes_on w m (event.changes connector reason) (handed_reached h)
