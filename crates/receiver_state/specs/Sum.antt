-- What the image sum answers, as document 01's number (01, Numbers we answer).
use Rattle.std.specs.Prelude.{ℕ, Result}
use Rattle.numbers.specs.Number.{number_in}
use Rattle.receiver_state.specs.declared.sum.ImageLength.{ImageLength}

-- The sum, or a refusal.
abbrev pub Summed : Type 0
Summed = Result ℕ ImageLength

abbrev pub length_number_of : ImageLength → ℕ
length_number_of refusal = 28

abbrev pub image_sum_number_of : Summed → ℕ
image_sum_number_of summed = number_in length_number_of summed
