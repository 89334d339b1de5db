-- Numbers in decimal, with no zero in front.
use Rattle.std.specs.Prelude.{ℕ, zero, suc, ◌/◌, ◌%◌, List, [], ◌∷◌, eqb}
use Rattle.basis.specs.Pick.{pick}
use Rattle.printing.specs.Digits.{figure}
use Rattle.printing.specs.Line.{space}
use Rattle.saying.specs.Said.{hyphen, appended_of}
use Rattle.saying.specs.declared.said.Said.{Said}

-- The digits of a number put in front of `behind`: at most k of them, and none for 0.
unfoldable pub front_of : ℕ → ℕ → List ℕ → List ℕ
front_of zero n behind = behind
front_of (suc k) n behind = pick (eqb n 0) behind (front_of k (n / 10) (figure (n % 10) ∷ behind))

-- A number of 64 bits has at most 20 digits. The last one is printed for 0 too.
abbrev pub decimal_text_of : ℕ → List ℕ
decimal_text_of n = front_of 19 (n / 10) (figure (n % 10) ∷ [])

abbrev pub number_text_of : Said → ℕ → Said
number_text_of t n = appended_of (appended_of t (space ∷ [])) (decimal_text_of n)

-- One number where both are the same.
unfoldable pub range_of : Said → ℕ → ℕ → Said
range_of t first last =
    pick (eqb first last) (number_text_of t first)
    (appended_of (appended_of (number_text_of t first) (hyphen ∷ [])) (decimal_text_of last))
