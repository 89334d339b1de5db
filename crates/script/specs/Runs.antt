-- A word that spells bytes: HH, or HH*N for N of them.
use Rattle.std.specs.Prelude.{ℕ, Option, None, Some, List, eqb, ltb, length, drop}
use Rattle.basis.specs.Bytes.{byte_at}
use Rattle.basis.specs.Pick.{pick, differ}
use Rattle.script.specs.Digits.{byte_read_of}
use Rattle.script.specs.Decimal.{decimal_read_of}
use Rattle.script.specs.declared.run.Run.{Run}

abbrev pub star : ℕ
star = 0x2A

abbrev pub times_most : ℕ
times_most = 9999

abbrev pub as_often : ℕ → Option ℕ → Option Run
as_often byte None = None
as_often byte (Some times) = Some (record { byte = byte; times = times })

unfoldable pub counted_run_of : ℕ → List ℕ → Option Run
counted_run_of byte digits = as_often byte (decimal_read_of digits times_most)

-- What follows the byte: nothing, or a star and the count.
unfoldable pub times_of : ℕ → List ℕ → Option Run
times_of byte tail =
    pick (eqb (length tail) 0) (Some (record { byte = byte; times = 1 }))
    (pick (differ (byte_at tail 0) star) None
    (counted_run_of byte (drop 1 tail)))

abbrev pub behind_byte : List ℕ → Option ℕ → Option Run
behind_byte tail None = None
behind_byte tail (Some byte) = times_of byte tail

unfoldable pub byte_run_of : List ℕ → Option Run
byte_run_of w = pick (ltb (length w) 2) None (behind_byte (drop 2 w) (byte_read_of (byte_at w 0) (byte_at w 1)))
