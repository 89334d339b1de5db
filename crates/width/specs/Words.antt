-- A word of a state, by its place.
use Rattle.std.specs.Prelude.{ℕ, List, get_or}

abbrev pub word_at : List ℕ → ℕ → ℕ
word_at w i = get_or w i 0
