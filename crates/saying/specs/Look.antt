-- Two numbers of a line that name bytes of a memory: a place and a count.
use Rattle.std.specs.Prelude.{ℕ, not, Option, None, Some, Result, Ok, Err, List, ltb, length, take, drop}
use Rattle.basis.specs.Pick.{pick}
use Rattle.script.specs.Fields.{fields_begun, next_field_of, is_last_field}
use Rattle.script.specs.Spelling.{spelled_room}
use Rattle.script.specs.declared.field.Field.{Field}
use Rattle.script.specs.declared.field.NoNumber.{NoNumber}
use Rattle.saying.specs.Said.{empty_text}
use Rattle.saying.specs.Hex.{hex_shown_of}
use Rattle.saying.specs.declared.said.Said.{Said}

-- The bytes of the memory from the place on, as many as the count says.
abbrev pub looked_at : List ℕ → ℕ → Option Said
looked_at behind count = pick (ltb (length behind) count) None (Some (hex_shown_of empty_text (take count behind)))

abbrev pub look_count_of : List ℕ → List ℕ → Field → Result Field NoNumber → Option Said
look_count_of words memory place (Err _) = None
look_count_of words memory place (Ok count) = pick (not (is_last_field count words)) None (looked_at (drop place.value memory) count.value)

abbrev pub look_place_of : List ℕ → List ℕ → Result Field NoNumber → Option Said
look_place_of words memory (Err _) = None
look_place_of words memory (Ok place) = look_count_of words memory place (next_field_of place words spelled_room)

-- The line has these two numbers alone, and the memory has that many bytes from the place on.
unfoldable pub look_of : List ℕ → List ℕ → Option Said
look_of words memory = look_place_of words memory (next_field_of fields_begun words (length memory))
