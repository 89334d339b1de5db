-- Where a recording ends: no line behind a whole one, and `stop` and nothing after it at a cut record and at an unknown kind (01, Replay program).
use Prim.Native.Nat.{ℕ}
use mathlib.Core.Path.{◌≡◌, refl, ◌∙◌, ap}
use mathlib.Core.List.{List, [], ◌++◌, map, append-nil}
use Rattle.printing.specs.Line.{stop_text}
use Rattle.recording.specs.Reading.{next_record_of}
use Rattle.recording.specs.Record.{AllEight}
use Rattle.recording.specs.Apart.{apart, onward, apart_of, written_of}
use Rattle.recording.proofs.TakenApart.{apart_step, apart_written}
use Rattle.recording.proofs.Moved.{unknown_stays}
use Rattle.recording.specs.declared.record.Record.{Record}
use Rattle.recording.specs.declared.reader.Ending.{Ending}
use Rattle.recording.specs.declared.reader.Ending.TheVariants.{Whole, Cut, UnknownKind}
use Rattle.mailbox_state.specs.declared.mailbox.Mailbox.{Mailbox}
use Rattle.mailbox_rules.specs.History.{history_from}
use Rattle.playing.specs.Turn.{event_in}
use Rattle.playing.specs.Replay.{lines_of, closing_text, replayed, replayed_of, replay_of}
use Rattle.playing.specs.Part.{ending_text}
use Rattle.playing.specs.declared.part.Stop.{Stop}
use Rattle.std.specs.Prelude.{Err}

-- A whole recording, a cut record, an unknown kind; and a part that waits for room has not ended, and has no closing line.
pub record Closing : Type 0 where
  pub whole : ending_text (Stop.Ended Whole) ≡ []
  pub cut : ending_text (Stop.Ended Cut) ≡ stop_text
  pub unknown : ending_text (Stop.Ended UnknownKind) ≡ stop_text
  pub full : ending_text Stop.Full ≡ []

pub closing_rows : Closing
closing_rows = record { whole = refl; cut = refl; unknown = refl; full = refl }

-- Where no record is found, the closing line is all that is printed, and the mailbox is as it was.
pub replay_ended : (m : Mailbox) (s : List ℕ) (ending : Ending) → next_record_of s 0 ≡ Err ending → replay_of m s ≡ replayed (closing_text ending) m
unfolding replayed_of history_from
replay_ended m s ending e = ap (replayed_of m) (apart_step s ∙ ap (onward apart_of s) e)

-- Records, and behind them nothing, a cut record or an unknown kind: their lines, then the closing line, and the mailbox that they leave.
pub replay_written : (m : Mailbox) (rs : List Record) → AllEight rs → (rest : List ℕ) (ending : Ending) → next_record_of rest 0 ≡ Err ending
    → replay_of m (written_of rs ++ rest)
    ≡ replayed (lines_of (history_from m (map event_in rs)).answered ++ closing_text ending) (history_from m (map event_in rs)).mailbox
unfolding replayed_of
replay_written m rs eights rest ending e =
    let none : apart_of rest ≡ apart [] ending = apart_step rest ∙ ap (onward apart_of rest) e in
    let all : apart_of (written_of rs ++ rest) ≡ apart rs ending = apart_written rs eights rest ∙ rw (none, append-nil rs) in
    ap (replayed_of m) all

-- Whatever follows an unknown kind, nothing more is printed or played.
pub stop_last : (m : Mailbox) (rs : List Record) → AllEight rs → (rest more : List ℕ) → next_record_of rest 0 ≡ Err UnknownKind
    → replay_of m (written_of rs ++ (rest ++ more))
    ≡ replayed (lines_of (history_from m (map event_in rs)).answered ++ stop_text) (history_from m (map event_in rs)).mailbox
stop_last m rs eights rest more e = replay_written m rs eights (rest ++ more) UnknownKind (unknown_stays rest more 0 e)
