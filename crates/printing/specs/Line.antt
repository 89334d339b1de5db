-- A line: CCI as eight capital hex digits, a space, the answer's number, a newline (01, Replay program).
use Rattle.std.specs.Prelude.{ℕ, ◌-◌, ◌≤◌, ◌≡◌, List, [], ◌∷◌, ◌++◌, length, take, drop, replicate}
use Rattle.printing.specs.Digits.{hex_of, decimal_of, number_in}

abbrev pub space : ℕ
space = 0x20

abbrev pub newline : ℕ
newline = 0x0A

-- What follows CCI.
unfoldable pub tail_of : ℕ → List ℕ
tail_of number = space ∷ decimal_of number ++ newline ∷ []

abbrev pub text_of : ℕ → ℕ → List ℕ
text_of cci number = hex_of 8 cci ++ tail_of number

-- s, t, o, p and a newline
abbrev pub stop_text : List ℕ
stop_text = 0x73 ∷ 0x74 ∷ 0x6F ∷ 0x70 ∷ newline ∷ []

-- Text in an array of `room` bytes, zeros after it.
abbrev pub padded : ℕ → List ℕ → List ℕ
padded room text = text ++ replicate (room - length text) 0

abbrev pub line_longest : ℕ
line_longest = 13

-- The text is the front of the array, and zeros are after it.
pub record IsLine (bytes : List ℕ) (len : ℕ) : Type 0 where
  pub fits : len ≤ line_longest
  pub zeros : bytes ≡ padded line_longest (take len bytes)

-- Read back: the first eight characters, and those between the space and the newline.
abbrev pub cci_in : List ℕ → ℕ
cci_in text = number_in 16 (take 8 text)

abbrev pub answer_in : List ℕ → ℕ
answer_in text = number_in 10 (take (length text - 10) (drop 9 text))
