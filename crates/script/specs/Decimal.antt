-- Numbers read in decimal; one above `most` is none.
use Rattle.std.specs.Prelude.{ℕ, ◌+◌, ◌*◌, Option, None, Some, List, eqb, ltb, length, fold}
use Rattle.basis.specs.Pick.{pick}
use Rattle.script.specs.Digits.{digit_read_of}

-- A number with one more digit.
unfoldable pub added_of : ℕ → ℕ → ℕ → Option ℕ
added_of most n d =
    pick (ltb 9 d) None
    (pick (ltb most (10 * n + d)) None
    (Some (10 * n + d)))

abbrev pub digit_added : ℕ → ℕ → Option ℕ → Option ℕ
digit_added most n None = None
digit_added most n (Some d) = added_of most n d

-- One more character is read.
abbrev pub decimal_step_of : ℕ → Option ℕ → ℕ → Option ℕ
decimal_step_of most None c = None
decimal_step_of most (Some n) c = digit_added most n (digit_read_of c)

-- Without a character there is no number.
unfoldable pub decimal_begun : List ℕ → Option ℕ
decimal_begun s = pick (eqb (length s) 0) None (Some 0)

abbrev pub decimal_read_of : List ℕ → ℕ → Option ℕ
decimal_read_of s most = fold (decimal_step_of most) (decimal_begun s) s
