-- Lines and numbers, character by character (01, Replay program).
use mathlib.Core.List.{[], ◌∷◌}
use mathlib.Core.Path.{◌≡◌, refl}
use Rattle.basis.specs.Pick.{pick}
use Rattle.printing.specs.Digits.{digit_of, decimal_of}
use Rattle.printing.specs.Line.{tail_of, text_of, stop_text}

-- 80000904 0
pub whole_case_line : text_of 0x80000904 0 ≡ 0x38 ∷ 0x30 ∷ 0x30 ∷ 0x30 ∷ 0x30 ∷ 0x39 ∷ 0x30 ∷ 0x34 ∷ 0x20 ∷ 0x30 ∷ 0x0A ∷ []
unfolding digit_of decimal_of tail_of pick
whole_case_line = refl

-- Answers at the borders of one, two and three digits: 7, 9, 10, 99, 100, 255.
pub record Numbers : Type 0 where
  pub seven : decimal_of 7 ≡ 0x37 ∷ []
  pub nine : decimal_of 9 ≡ 0x39 ∷ []
  pub ten : decimal_of 10 ≡ 0x31 ∷ 0x30 ∷ []
  pub ninety_nine : decimal_of 99 ≡ 0x39 ∷ 0x39 ∷ []
  pub hundred : decimal_of 100 ≡ 0x31 ∷ 0x30 ∷ 0x30 ∷ []
  pub largest : decimal_of 255 ≡ 0x32 ∷ 0x35 ∷ 0x35 ∷ []

pub numbers : Numbers
unfolding decimal_of pick
numbers = record { seven = refl; nine = refl; ten = refl; ninety_nine = refl; hundred = refl; largest = refl }

-- 9ABCDEF0 27
pub capitals_line : text_of 0x9ABCDEF0 27 ≡ 0x39 ∷ 0x41 ∷ 0x42 ∷ 0x43 ∷ 0x44 ∷ 0x45 ∷ 0x46 ∷ 0x30 ∷ 0x20 ∷ 0x32 ∷ 0x37 ∷ 0x0A ∷ []
unfolding digit_of decimal_of tail_of pick
capitals_line = refl

pub stop_line : stop_text ≡ 0x73 ∷ 0x74 ∷ 0x6F ∷ 0x70 ∷ 0x0A ∷ []
stop_line = refl
