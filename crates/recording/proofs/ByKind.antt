-- The kinds, one by one, in the paper's numbers (01, Replay program).
use Prim.Native.Nat.{ℕ, ◌+◌, ◌-◌, ◌<◌, ◌≤◌}
use mathlib.Core.Logic.{◌⊎◌, inl, inr}
use mathlib.Core.Path.{◌≡◌}
use mathlib.Core.List.{List}
use native.Mathlib.Omega.{arith}
use borrow.Author.Tests.{lt-ltb, le-ltb, le-leb, lt-leb, ne_eqb}
use lib.ListN.{length}
use Rattle.basis.specs.Pick.{pick}
use Rattle.basis.specs.Bytes.{byte_at}
use Rattle.recording.specs.Reading.{found, control_at, change_at, next_record_of}
use Rattle.recording.specs.declared.record.Record.TheVariants.{Success, Failure}
use Rattle.recording.specs.declared.reader.Ending.TheVariants.{Whole, Cut, UnknownKind}
use Rattle.std.specs.Prelude.{Err}

module _ (s : List ℕ) (at : ℕ) where
  -- With the kind there and fewer bytes than the record has, it is cut.
  pub cut_1 : byte_at s at ≡ 1 → at < length s → length s < at + 9 → next_record_of s at ≡ Err Cut
  unfolding next_record_of pick
  cut_1 k h c = rw (k, lt-leb (length s) at h, lt-ltb (length s - at) 9 (omega arith))

  pub cut_2 : byte_at s at ≡ 2 → at < length s → length s < at + 4 → next_record_of s at ≡ Err Cut
  unfolding next_record_of pick
  cut_2 k h c = rw (k, lt-leb (length s) at h, lt-ltb (length s - at) 4 (omega arith))

  pub cut_3 : byte_at s at ≡ 3 → at < length s → length s < at + 2 → next_record_of s at ≡ Err Cut
  unfolding next_record_of pick
  cut_3 k h c = rw (k, lt-leb (length s) at h, lt-ltb (length s - at) 2 (omega arith))

  -- Kind 1 has 8 bytes behind it, kind 2 three, kind 3 one, kind 4 none.
  pub kind_1 : byte_at s at ≡ 1 → at + 9 ≤ length s → next_record_of s at ≡ found (control_at s (at + 1)) (at + 9)
  unfolding next_record_of pick
  kind_1 k h = rw (k, lt-leb (length s) at (omega arith), le-ltb (length s - at) 9 (omega arith))

  pub kind_2 : byte_at s at ≡ 2 → at + 4 ≤ length s → next_record_of s at ≡ found (change_at s (at + 1)) (at + 4)
  unfolding next_record_of pick
  kind_2 k h = rw (k, lt-leb (length s) at (omega arith), le-ltb (length s - at) 4 (omega arith))

  pub kind_3 : byte_at s at ≡ 3 → at + 2 ≤ length s → next_record_of s at ≡ found (Success (byte_at s (at + 1))) (at + 2)
  unfolding next_record_of pick
  kind_3 k h = rw (k, lt-leb (length s) at (omega arith), le-ltb (length s - at) 2 (omega arith))

  pub kind_4 : byte_at s at ≡ 4 → at + 1 ≤ length s → next_record_of s at ≡ found Failure (at + 1)
  unfolding next_record_of pick
  kind_4 k h = rw (k, lt-leb (length s) at (omega arith))

  pub kind_unknown : at < length s → (byte_at s at ≡ 0) ⊎ (4 < byte_at s at) → next_record_of s at ≡ Err UnknownKind
  unfolding next_record_of pick
  kind_unknown h (inl k) = rw (k, lt-leb (length s) at h)
  kind_unknown h (inr k) =
      rw (lt-leb (length s) at h, ne_eqb (byte_at s at) 1 (λ e. absurd (omega arith)), ne_eqb (byte_at s at) 2 (λ e. absurd (omega arith)), ne_eqb (byte_at s at) 3 (λ e. absurd (omega arith)), ne_eqb (byte_at s at) 4 (λ e. absurd (omega arith)))

  pub nothing_there : length s ≤ at → next_record_of s at ≡ Err Whole
  unfolding next_record_of pick
  nothing_there h = rw (le-leb (length s) at h)
