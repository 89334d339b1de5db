-- What printing answers, in the header's own numbers (include/harsolvek.h).
use Prim.Native.Nat.{ℕ, ◌<◌, ◌≤◌}
use mathlib.Core.Path.{◌≡◌, ◌∙◌, ap}
use mathlib.Core.List.{List, [], ◌∷◌, ◌++◌}
use borrow.Author.Tests.{lt-ltb, le-ltb}
use lib.ListN.{length, drop}
use Rattle.basis.specs.Pick.{pick_yes, pick_no}
use Rattle.printing.specs.Line.{text_of, stop_text}
use Rattle.printing.proofs.Bench.{whole_case_line}
use Rattle.recording_c.specs.Writes.{wrote}
use Rattle.recording_c.specs.Lines.{printed_of, harsolvek_record_line, harsolvek_record_stop}

-- A buffer under 13 bytes is 27, and nothing is written, also where the line would fit.
module _ (out : List ℕ) (h : length out < 13) where
  short : (text : List ℕ) → printed_of text out ≡ wrote 27 0 out
  unfolding printed_of
  short text = pick_yes _ _ _ (lt-ltb (length out) 13 h)

  pub line_short : (cci number : ℕ) → harsolvek_record_line cci number out ≡ wrote 27 0 out
  line_short cci number = short (text_of cci number)

  pub stop_short : harsolvek_record_stop out ≡ wrote 27 0 out
  stop_short = short stop_text

-- From 13 bytes on the text is written, and the bytes behind it are kept.
module _ (out : List ℕ) (h : 13 ≤ length out) where
  whole : (text : List ℕ) → printed_of text out ≡ wrote 0 (length text) (text ++ drop (length text) out)
  unfolding printed_of
  whole text = pick_no _ _ _ (le-ltb (length out) 13 h)

  pub line_whole : (cci number : ℕ) → harsolvek_record_line cci number out ≡ wrote 0 (length (text_of cci number)) (text_of cci number ++ drop (length (text_of cci number)) out)
  line_whole cci number = whole (text_of cci number)

  -- 80000904 0
  pub line_of_the_whole_case : harsolvek_record_line 0x80000904 0 out
      ≡ wrote 0 11 (0x38 ∷ 0x30 ∷ 0x30 ∷ 0x30 ∷ 0x30 ∷ 0x39 ∷ 0x30 ∷ 0x34 ∷ 0x20 ∷ 0x30 ∷ 0x0A ∷ drop 11 out)
  line_of_the_whole_case = ap (λ (text : List ℕ). printed_of text out) whole_case_line ∙ whole (0x38 ∷ 0x30 ∷ 0x30 ∷ 0x30 ∷ 0x30 ∷ 0x39 ∷ 0x30 ∷ 0x34 ∷ 0x20 ∷ 0x30 ∷ 0x0A ∷ [])

  -- s, t, o, p and a newline
  pub stop_whole : harsolvek_record_stop out ≡ wrote 0 5 (0x73 ∷ 0x74 ∷ 0x6F ∷ 0x70 ∷ 0x0A ∷ drop 5 out)
  stop_whole = whole stop_text
