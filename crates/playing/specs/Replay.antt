-- What a whole recording comes to: its text, and the mailbox at its end (01, Replay program).
use Rattle.std.specs.Prelude.{ℕ, List, [], ◌∷◌, ◌++◌, map}
use Rattle.printing.specs.Line.{text_of, stop_text}
use Rattle.recording.specs.Apart.{Apart, apart_of}
use Rattle.recording.specs.declared.reader.Ending.{Ending}
use Rattle.recording.specs.declared.reader.Ending.TheVariants.{Whole, Cut, UnknownKind}
use Rattle.mailbox_rules.specs.Mailbox.{fresh_mailbox}
use Rattle.mailbox_rules.specs.History.{Answered, history_from}
use Rattle.mailbox_state.specs.declared.mailbox.Mailbox.{Mailbox}
use Rattle.playing.specs.Turn.{event_in}

-- Two connectors.
abbrev pub begun : Mailbox
begun = fresh_mailbox 2

-- Each record gives one line: CCI after it, and the answer's number.
abbrev pub lines_of : List Answered → List ℕ
lines_of [] = []
lines_of (a ∷ answered) = text_of a.cci a.number ++ lines_of answered

-- An unknown kind or a cut record gives `stop`.
abbrev pub closing_text : Ending → List ℕ
closing_text Whole = []
closing_text Cut = stop_text
closing_text UnknownKind = stop_text

pub record Replayed : Type 0 where
  pub text : List ℕ
  pub mailbox : Mailbox

abbrev pub replayed : List ℕ → Mailbox → Replayed
replayed text mailbox = record { text = text; mailbox = mailbox }

-- The records are the events of a history, and what ends the recording closes its text.
unfoldable pub replayed_of : Mailbox → Apart → Replayed
replayed_of m a =
    let history = history_from m (map event_in a.records) in
    replayed (lines_of history.answered ++ closing_text a.ending) history.mailbox

abbrev pub replay_of : Mailbox → List ℕ → Replayed
replay_of m recording = replayed_of m (apart_of recording)

-- What the replay program prints of a recording.
abbrev pub printed_of : List ℕ → List ℕ
printed_of recording = (replay_of begun recording).text
