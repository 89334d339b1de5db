-- Each public contract leaves one answer and one state of the lent memory. Written from the contracts by tools/contracts.
use Rattle.std.specs.Prelude.{List, ℕ, ◌≡◌}
use Rattle.basis.specs.Left.{left}
use Rattle.basis.specs.Only.{only}
use Rattle.mailbox_state.specs.declared.mailbox.Mailbox.{Mailbox}
use Rattle.playing.specs.Part.{play_of, ending_text}
use Rattle.playing.specs.Replay.{begun}
use Rattle.playing.specs.Turn.{turn_of}
use Rattle.playing.specs.declared.part.Played.{Played}
use Rattle.playing.specs.declared.part.Stop.{Stop}
use Rattle.playing.specs.declared.turn.Turn.{Turn}
use Rattle.printing.specs.declared.text.Line.{Line}
use Rattle.recording.specs.declared.record.Record.{Record}

pub one_play : (mailbox : Mailbox) (part out : List ℕ) (r r' : Played) (out_left out_left' : List ℕ)
    → left r out_left ≡ play_of mailbox part out
    → left r' out_left' ≡ play_of mailbox part out
    → left r out_left ≡ left r' out_left'
one_play mailbox part out r r' out_left out_left' is is' = only is is'

pub one_play_record : (mailbox : Mailbox) («record» : Record) (r r' : Turn)
    → r ≡ turn_of mailbox «record»
    → r' ≡ turn_of mailbox «record»
    → r ≡ r'
one_play_record mailbox «record» r r' is is' = only is is'

pub one_begin : (r r' : Mailbox)
    → r ≡ begun
    → r' ≡ begun
    → r ≡ r'
one_begin r r' is is' = only is is'

pub one_closing : (stop : Stop) (r r' : Line)
    → r ≡ ending_text stop
    → r' ≡ ending_text stop
    → r ≡ r'
one_closing stop r r' is is' = only is is'
