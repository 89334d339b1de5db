-- The words of a line. There is one space before each word but the line's first.
use Rattle.std.specs.Prelude.{ℕ, suc, ◌+◌, List, [], ◌∷◌, eqb, length, take, drop}
use Rattle.basis.specs.Pick.{pick}

abbrev pub space : ℕ
space = 0x20

-- How many bytes stand before the first that is this one, and all where none is.
unfoldable pub index_of : ℕ → List ℕ → ℕ
index_of byte [] = 0
index_of byte (c ∷ s) = pick (eqb c byte) 0 (suc (index_of byte s))

-- Up to the first space, and all where there is none.
unfoldable pub first_word_of : List ℕ → List ℕ
first_word_of s = take (index_of space s) s

-- What follows the first word, with its space.
unfoldable pub after_first_word_of : List ℕ → List ℕ
after_first_word_of s = drop (length (first_word_of s)) s

-- The word that follows the space at place `at`.
unfoldable pub script_word_at : List ℕ → ℕ → List ℕ
script_word_at words at = first_word_of (drop (at + 1) words)
