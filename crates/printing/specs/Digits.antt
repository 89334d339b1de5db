-- Numbers as text, and text as numbers (01, Replay program).
use Rattle.std.specs.Prelude.{ℕ, zero, suc, ◌+◌, ◌*◌, ◌-◌, ◌/◌, ◌%◌, ◌^◌, List, [], ◌∷◌, ltb}
use Rattle.basis.specs.Pick.{pick}

-- The characters 0 to 9
abbrev pub figure : ℕ → ℕ
figure n = 0x30 + n

-- 0 to 9, then the capitals A to F
unfoldable pub digit_of : ℕ → ℕ
digit_of n = pick (ltb n 10) (figure n) (0x41 + (n - 10))

-- The lowest k hex digits of a number, the highest first.
abbrev pub hex_of : ℕ → ℕ → List ℕ
hex_of zero x = []
hex_of (suc k) x = digit_of (x / 16 ^ k % 16) ∷ hex_of k x

-- A number below 1,000, with no zero in front.
unfoldable pub decimal_of : ℕ → List ℕ
decimal_of n =
    pick (ltb n 10) (figure n ∷ [])
    (pick (ltb n 100) (figure (n / 10) ∷ figure (n % 10) ∷ [])
    (figure (n / 100) ∷ figure (n / 10 % 10) ∷ figure (n % 10) ∷ []))

-- Read back: the value of a digit, and the number that digits in a base give, after those that were read before them.
unfoldable pub digit_in : ℕ → ℕ
digit_in c = pick (ltb c 0x41) (c - 0x30) (c - 0x41 + 10)

abbrev pub digits_behind : ℕ → ℕ → List ℕ → ℕ
digits_behind base read [] = read
digits_behind base read (c ∷ cs) = digits_behind base (base * read + digit_in c) cs

abbrev pub number_in : ℕ → List ℕ → ℕ
number_in base text = digits_behind base 0 text
