-- What reading answers, in the header's own numbers (include/harsolvek.h).
use Prim.Native.Nat.{ℕ, ◌+◌, ◌*◌, ◌<◌, ◌≤◌}
use mathlib.Core.Logic.{◌⊎◌}
use mathlib.Core.Path.{◌≡◌, refl, ◌∙◌, ap}
use mathlib.Core.List.{List, [], ◌∷◌, ◌++◌}
use native.Mathlib.Omega.{arith}
use lib.ListN.{length}
use lib.Seq.{drop-append_seam}
use Rattle.basis.specs.Bytes.{byte_at}
use Rattle.recording.specs.Reading.{found, next_record_of}
use Rattle.recording.specs.declared.record.Record.{Record}
use Rattle.recording.specs.declared.record.Record.TheVariants.{Control, Change, Success, Failure}
use Rattle.recording.proofs.ByKind.{cut_1, cut_2, cut_3, kind_1, kind_2, kind_3, kind_4, kind_unknown, nothing_there}
use Rattle.recording.proofs.Moved.{moved, next_drop}
use Rattle.recording_c.specs.Layout.{harsolvek_recording_layout}
use Rattle.recording_c.specs.Reads.{numbers, zeros, numbers_of, reading, reading_of, harsolvek_record_read}

pub layout_is : harsolvek_recording_layout ≡ 9
layout_is = refl

pub zeros_are : zeros ≡ 0 ∷ 0 ∷ 0 ∷ 0 ∷ 0 ∷ 0 ∷ 0 ∷ 0 ∷ []
zeros_are = refl

-- What is found at the start of a part of a recording is found where that part begins.
found_behind : (before s : List ℕ) (r : Record) (size : ℕ) → next_record_of s 0 ≡ found r size
    → harsolvek_record_read (before ++ s) (length before) ≡ reading 0 (numbers_of r) (length before + size)
unfolding reading_of
found_behind before s r size found =
    ap (reading_of (length before))
    (next_drop (before ++ s) (length before)
    ∙ ap (λ (t : List ℕ). moved (length before) (next_record_of t 0)) (drop-append_seam before s)
    ∙ ap (moved (length before)) found)

-- Each kind, with anything before it and anything behind it.
module _ (before behind : List ℕ) where
  pub control_read : (a b c d e f g h : ℕ)
      → harsolvek_record_read (before ++ 1 ∷ a ∷ b ∷ c ∷ d ∷ e ∷ f ∷ g ∷ h ∷ behind) (length before)
      ≡ reading 0 (numbers 1 0 0 0 (a ∷ b ∷ c ∷ d ∷ e ∷ f ∷ g ∷ h ∷ [])) (length before + 9)
  unfolding numbers_of
  control_read a b c d e f g h =
      found_behind before (1 ∷ a ∷ b ∷ c ∷ d ∷ e ∷ f ∷ g ∷ h ∷ behind)
      (Control (a ∷ b ∷ c ∷ d ∷ e ∷ f ∷ g ∷ h ∷ [])) 9
      (kind_1 (1 ∷ a ∷ b ∷ c ∷ d ∷ e ∷ f ∷ g ∷ h ∷ behind) 0 refl (omega arith))

  pub change_read : (connector low high : ℕ)
      → harsolvek_record_read (before ++ 2 ∷ connector ∷ low ∷ high ∷ behind) (length before)
      ≡ reading 0 (numbers 2 (low + 256 * high) connector 0 zeros) (length before + 4)
  unfolding numbers_of
  change_read connector low high =
      found_behind before (2 ∷ connector ∷ low ∷ high ∷ behind) (Change connector (low + 256 * high)) 4
      (kind_2 (2 ∷ connector ∷ low ∷ high ∷ behind) 0 refl (omega arith))

  pub success_read : (bytes : ℕ) → harsolvek_record_read (before ++ 3 ∷ bytes ∷ behind) (length before) ≡ reading 0 (numbers 3 0 0 bytes zeros) (length before + 2)
  unfolding numbers_of
  success_read bytes = found_behind before (3 ∷ bytes ∷ behind) (Success bytes) 2 (kind_3 (3 ∷ bytes ∷ behind) 0 refl (omega arith))

  pub failure_read : harsolvek_record_read (before ++ 4 ∷ behind) (length before) ≡ reading 0 (numbers 4 0 0 0 zeros) (length before + 1)
  unfolding numbers_of
  failure_read = found_behind before (4 ∷ behind) Failure 1 (kind_4 (4 ∷ behind) 0 refl (omega arith))

-- Where no record is found: 1 at the end, 2 for a record that is cut, 3 for a kind that there is not.
module _ (s : List ℕ) (at : ℕ) where
  pub end_read : length s ≤ at → harsolvek_record_read s at ≡ reading 1 (numbers 0 0 0 0 zeros) at
  unfolding reading_of
  end_read h = ap (reading_of at) (nothing_there s at h)

  pub cut_control_read : byte_at s at ≡ 1 → at < length s → length s < at + 9 → harsolvek_record_read s at ≡ reading 2 (numbers 0 0 0 0 zeros) at
  unfolding reading_of
  cut_control_read k h c = ap (reading_of at) (cut_1 s at k h c)

  pub cut_change_read : byte_at s at ≡ 2 → at < length s → length s < at + 4 → harsolvek_record_read s at ≡ reading 2 (numbers 0 0 0 0 zeros) at
  unfolding reading_of
  cut_change_read k h c = ap (reading_of at) (cut_2 s at k h c)

  pub cut_success_read : byte_at s at ≡ 3 → at < length s → length s < at + 2 → harsolvek_record_read s at ≡ reading 2 (numbers 0 0 0 0 zeros) at
  unfolding reading_of
  cut_success_read k h c = ap (reading_of at) (cut_3 s at k h c)

  pub unknown_read : at < length s → (byte_at s at ≡ 0) ⊎ (4 < byte_at s at) → harsolvek_record_read s at ≡ reading 3 (numbers 0 0 0 0 zeros) at
  unfolding reading_of
  unknown_read h k = ap (reading_of at) (kind_unknown s at h k)
