-- A history: events, one after the other, each with its answer (01, The mailbox).
use Rattle.std.specs.Prelude.{ℕ, List, [], ◌∷◌, ◌≡◌, Ok}
use Rattle.mailbox_state.specs.Answer.{mailbox_number_of}
use Rattle.mailbox_state.specs.declared.mailbox.Mailbox.{Mailbox}
use Rattle.mailbox_state.specs.declared.mailbox.Outcome.{Outcome}
use Rattle.mailbox_rules.specs.Mailbox.{mailbox_fresh_of, mailbox_cci_of}
use Rattle.mailbox_rules.specs.Events.{Event, event_of}

-- An event, the number that it is answered, and CCI afterwards.
pub record Answered : Type 0 where
  pub event : Event
  pub number : ℕ
  pub cci : ℕ

abbrev pub answered_of : Event → Outcome → Answered
answered_of e o = record { event = e; number = mailbox_number_of o.answer; cci = mailbox_cci_of o.mailbox }

-- The events with their answers, the oldest first, and the mailbox after the last.
pub record History : Type 0 where
  pub answered : List Answered
  pub mailbox : Mailbox

abbrev pub history : List Answered → Mailbox → History
history answered mailbox = record { answered = answered; mailbox = mailbox }

unfoldable pub history_from : Mailbox → List Event → History
history_from m [] = history [] m
history_from m (e ∷ events) =
    let after = history_from (event_of m e).mailbox events in
    history (answered_of e (event_of m e) ∷ after.answered) after.mailbox

-- A mailbox that a history of a fresh one ends with; a count that is refused with 29 has none.
pub record Reached (count : ℕ) (m : Mailbox) : Type 0 where
  pub start : Mailbox
  pub made : mailbox_fresh_of count ≡ Ok start
  pub events : List Event
  pub ending : (history_from start events).mailbox ≡ m
