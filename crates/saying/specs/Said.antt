-- A text that is put together piece by piece.
use Rattle.std.specs.Prelude.{ℕ, ◌+◌, fold, eqb, ltb, length, take, replicate}
use mathlib.Core.List.{List, [], ◌∷◌}
use Rattle.basis.specs.Pick.{pick}
use Rattle.lent.specs.Put.{pasted}
use Rattle.printing.specs.Line.{space, newline}
use Rattle.saying.specs.declared.said.Said.{Said}

abbrev pub said_room : ℕ
said_room = 4096

abbrev pub said : ℕ → List ℕ → Said
said len bytes = record { len = len; bytes = bytes }

-- The characters that are printed.
abbrev pub said_text_of : Said → List ℕ
said_text_of t = take t.len t.bytes

unfoldable pub empty_text : Said
empty_text = said 0 (replicate said_room 0)

-- A piece that has no room is left out.
unfoldable pub appended_of : Said → List ℕ → Said
appended_of t s =
    pick (ltb (length t.bytes) (t.len + length s)) t
    (said (t.len + length s) (pasted t.bytes t.len s))

abbrev pub hyphen : ℕ
hyphen = 0x2D

abbrev pub slash : ℕ
slash = 0x2F

-- " not understood"
abbrev pub not_understood : Said
not_understood = appended_of empty_text
    (space ∷ 0x6E ∷ 0x6F ∷ 0x74
    ∷ space ∷ 0x75 ∷ 0x6E ∷ 0x64 ∷ 0x65 ∷ 0x72 ∷ 0x73 ∷ 0x74 ∷ 0x6F ∷ 0x6F ∷ 0x64 ∷ [])

-- A hyphen is printed where there are no bytes, and no text.
abbrev pub none_of : Said → Said
none_of t = appended_of t (space ∷ hyphen ∷ [])

unfoldable pub character_of : Said → ℕ → Said
character_of t c = pick (eqb c newline) (appended_of t (slash ∷ [])) (appended_of t (c ∷ []))

abbrev pub characters_of : Said → List ℕ → Said
characters_of t s = fold character_of t s

unfoldable pub said_lines_of : Said → List ℕ → Said
said_lines_of t s = pick (eqb (length s) 0) (none_of t) (characters_of (appended_of t (space ∷ [])) s)
