-- What becomes of a message, by a seed.
use Rattle.std.specs.Prelude.{ℕ, ◌+◌, ◌*◌, ◌%◌, Bool, false, Option, Some, None, eqb, ltb}
use Rattle.basis.specs.Pick.{pick}
use Rattle.luck.specs.Way.{rises_of, next_way}
use Rattle.luck.specs.declared.way.Way.{Way}
use Rattle.luck.specs.declared.luck.Odds.{Odds}
use Rattle.luck.specs.declared.luck.Luck.{Luck}
use Rattle.luck.specs.declared.luck.Arrival.{Arrival}
use Rattle.luck.specs.declared.luck.Going.{Going}

abbrev pub luck : ℕ → Odds → Luck
luck word odds = record { word = word; odds = odds }

-- Lehmer's generator with the prime 2^31 - 1.
unfoldable pub next_luck : Luck → Luck
next_luck l = luck (l.word * 48271 % 2147483647) l.odds

unfoldable pub percent_of : Luck → ℕ
percent_of l = l.word % 100

-- The seed is brought into 1 to 2^31 - 2, the words that the generator has.
unfoldable pub seeded_of : ℕ → Odds → Luck
seeded_of seed odds = next_luck (luck (seed % 2147483646 + 1) odds)

abbrev pub arrives : Bool → Option Arrival
arrives stays = Some (record { stays = stays })

-- A repeat always arrives, and does not come a third time.
unfoldable pub fate_of : Luck → Way → Option Arrival
fate_of l w =
    pick (eqb w.bytes 0) None
    (pick w.again (arrives false)
    (pick (ltb (percent_of l) l.odds.loss) None
    (arrives (ltb (percent_of (next_luck l)) l.odds.again))))

-- The message that goes next; each one draws two words from the generator.
unfoldable pub goes_of : Luck → Way → Way → Going
goes_of l rising falling =
    let rises = rises_of rising falling in
    let w = next_way rising falling rises in
    record { luck = next_luck (next_luck l); rises = rises; way = w; fate = fate_of l w }
