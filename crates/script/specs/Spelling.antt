-- The bytes that words spell, in an array with zeros after them.
use Rattle.std.specs.Prelude.{ℕ, zero, suc, ◌-◌, min, Option, None, Some, List, [], ◌++◌, eqb, length, take, drop, replicate}
use Rattle.basis.specs.Pick.{pick}
use Rattle.script.specs.Words.{after_first_word_of, script_word_at}
use Rattle.script.specs.Runs.{byte_run_of}
use Rattle.script.specs.declared.run.Run.{Run}
use Rattle.script.specs.declared.spelling.Spelled.{Spelled}

abbrev pub spelled_room : ℕ
spelled_room = 320

unfoldable pub spelled_zeros : List ℕ
spelled_zeros = replicate spelled_room 0

unfoldable pub spelled_in : List ℕ → Spelled
spelled_in read = record { len = length read; bytes = read ++ drop (length read) spelled_zeros }

-- The bytes that were spelled.
abbrev pub spelled_bytes_of : Spelled → List ℕ
spelled_bytes_of s = take s.len s.bytes

-- A byte put `times` times after those read; what does not fit is left out.
unfoldable pub spelled_grown : List ℕ → ℕ → ℕ → List ℕ
spelled_grown read byte times = read ++ replicate (min times (spelled_room - length read)) byte

-- A word's bytes are added to those read, and `rest` reads on; a word that spells no bytes ends the reading.
abbrev pub spelled_onward : (List ℕ → Option Spelled) → List ℕ → Option Run → Option Spelled
spelled_onward rest read None = None
spelled_onward rest read (Some run) = rest (spelled_grown read run.byte run.times)

-- One word a turn. A word has at least its space, so that as many turns as there are characters are enough.
unfoldable pub spelled_turns : ℕ → List ℕ → List ℕ → Option Spelled
spelled_turns zero words read = Some (spelled_in read)
spelled_turns (suc left) words read =
    pick (eqb (length words) 0) (Some (spelled_in read))
    (spelled_onward (spelled_turns left (after_first_word_of (drop 1 words))) read (byte_run_of (script_word_at words 0)))

-- What the words spell after the bytes that were read.
abbrev pub spelled_behind : List ℕ → List ℕ → Option Spelled
spelled_behind words read = spelled_turns (length words) words read

abbrev pub spell_of : List ℕ → Option Spelled
spell_of words = spelled_behind words []
