-- A part of a recording played into an output of so much room.
use Rattle.std.specs.Prelude.{ℕ, ◌+◌, ◌-◌, List, [], ◌∷◌, ◌++◌, ltb, length}
use Rattle.basis.specs.Pick.{pick}
use Rattle.basis.specs.Left.{Left, left}
use Rattle.lent.specs.Written.{written_into}
use Rattle.recording.specs.Apart.{Apart, apart_of}
use Rattle.recording.specs.Writing.{record_bytes_of}
use Rattle.recording.specs.declared.record.Record.{Record}
use Rattle.recording.specs.declared.reader.Ending.{Ending}
use Rattle.mailbox_state.specs.declared.mailbox.Mailbox.{Mailbox}
use Rattle.playing.specs.Turn.{outcome_of, printed}
use Rattle.playing.specs.Replay.{closing_text}
use Rattle.playing.specs.declared.part.Stop.{Stop}
use Rattle.playing.specs.declared.part.Stop.TheVariants.{Ended, Full}
use Rattle.playing.specs.declared.part.Played.{Played}

-- The mailbox afterwards, how many bytes were taken, the lines, and why no further record was played.
pub record Plays : Type 0 where
  pub mailbox : Mailbox
  pub taken : ℕ
  pub text : List ℕ
  pub stop : Stop

abbrev pub plays : Mailbox → ℕ → List ℕ → Stop → Plays
plays mailbox taken text stop = record { mailbox = mailbox; taken = taken; text = text; stop = stop }

-- What was played behind so many bytes and these lines.
abbrev pub after : ℕ → List ℕ → Plays → Plays
after taken text p = plays p.mailbox (taken + p.taken) (text ++ p.text) p.stop

-- A record whose line does not fit is not played.
unfoldable pub plays_of : Mailbox → ℕ → List Record → Ending → Plays
plays_of m room [] ending = plays m 0 [] (Ended ending)
plays_of m room (r ∷ rs) ending =
    pick (ltb room (length (printed (outcome_of m r)))) (plays m 0 [] Full)
    (after (length (record_bytes_of r)) (printed (outcome_of m r)) (plays_of (outcome_of m r).mailbox (room - length (printed (outcome_of m r))) rs ending))

abbrev pub part_of : Mailbox → ℕ → Apart → Plays
part_of m room a = plays_of m room a.records a.ending

-- The lines are in the first bytes of the output, and the rest of it is kept.
unfoldable pub leads_of : Plays → List ℕ → Left Played
leads_of p out = left (record { mailbox = p.mailbox; taken = p.taken; written = length p.text; stop = p.stop }) (written_into p.text out)

abbrev pub play_of : Mailbox → List ℕ → List ℕ → Left Played
play_of m part out = leads_of (part_of m (length out) (apart_of part)) out

-- What closes a recording which ends here. Where a record waits for room it has not ended.
abbrev pub ending_text : Stop → List ℕ
ending_text (Ended ending) = closing_text ending
ending_text Full = []
