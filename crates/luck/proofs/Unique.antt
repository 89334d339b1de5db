-- Each public contract leaves one answer and one state of the lent memory. Written from the contracts by tools/contracts.
use Rattle.std.specs.Prelude.{ℕ, ◌≡◌, List, Bool}
use Rattle.basis.specs.Only.{only}
use Rattle.luck.specs.Called.{answered_of}
use Rattle.luck.specs.Luck.{goes_of, seeded_of}
use Rattle.luck.specs.Way.{way_of, message_on_way, after_arrival_of, after_write_of}
use Rattle.luck.specs.Went.{missed_of}
use Rattle.luck.specs.declared.called.Answered.{Answered}
use Rattle.luck.specs.declared.luck.Going.{Going}
use Rattle.luck.specs.declared.luck.Luck.{Luck}
use Rattle.luck.specs.declared.luck.Odds.{Odds}
use Rattle.luck.specs.declared.way.Way.{Way}
use Rattle.luck.specs.declared.went.Missed.{Missed}

pub one_answers : (number : ℕ) (way : Way) (written : ℕ) (r r' : Answered)
    → r ≡ answered_of number way written
    → r' ≡ answered_of number way written
    → r ≡ r'
one_answers number way written r r' is is' = only is is'

pub one_goes : (self : Luck) (rising falling : Way) (r r' : Going)
    → r ≡ goes_of self rising falling
    → r' ≡ goes_of self rising falling
    → r ≡ r'
one_goes self rising falling r r' is is' = only is is'

pub one_seeded : (seed : ℕ) (odds : Odds) (r r' : Luck)
    → r ≡ seeded_of seed odds
    → r' ≡ seeded_of seed odds
    → r ≡ r'
one_seeded seed odds r r' is is' = only is is'

pub one_sent : (bytes : ℕ) (r r' : Way)
    → r ≡ way_of bytes
    → r' ≡ way_of bytes
    → r ≡ r'
one_sent bytes r r' is is' = only is is'

pub one_message : (self : Way) (buffer r r' : List ℕ)
    → r ≡ message_on_way self buffer
    → r' ≡ message_on_way self buffer
    → r ≡ r'
one_message self buffer r r' is is' = only is is'

pub one_behind : (self : Way) (stays : Bool) (r r' : Way)
    → r ≡ after_arrival_of self stays
    → r' ≡ after_arrival_of self stays
    → r ≡ r'
one_behind self stays r r' is is' = only is is'

pub one_after : (self : Way) (written : ℕ) (r r' : Way)
    → r ≡ after_write_of self written
    → r' ≡ after_write_of self written
    → r ≡ r'
one_after self written r r' is is' = only is is'

pub one_missed : (self : Going) (rising falling : Way) (r r' : Missed)
    → r ≡ missed_of self rising falling
    → r' ≡ missed_of self rising falling
    → r ≡ r'
one_missed self rising falling r r' is is' = only is is'
