-- What writing answers, in the header's own numbers (include/harsolvek.h).
use Prim.Native.Nat.{ℕ, suc, ◌/◌, ◌%◌, ◌<◌, ◌≤◌}
use mathlib.Core.Logic.{◌⊎◌, inl, inr}
use mathlib.Core.Path.{◌≡◌, refl, ◌∙◌, ap}
use mathlib.Core.List.{List, ◌∷◌, ◌++◌}
use native.Mathlib.Omega.{arith}
use borrow.Author.Tests.{lt-ltb, ne_eqb}
use lib.ListN.{length, drop}
use Rattle.basis.specs.Pick.{pick, pick_yes}
use Rattle.recording.specs.Writing.{record_bytes_of}
use Rattle.recording.specs.declared.record.Record.{Record}
use Rattle.recording.specs.declared.record.Record.TheVariants.{Control, Change, Success, Failure}
use Rattle.recording.proofs.WriteLaws.{write_whole}
use Rattle.recording_c.specs.Writes.{wrote, wrote_of, wrote_given, given_of, harsolvek_record_write}
use Rattle.std.specs.Prelude.{Option, Some, None}
use Rattle.recording_c.proofs.Wrote.{wrote_given_lem, wrote_no_kind}

-- A buffer under 9 bytes is 27, whatever the record: also a kind that there is not.
pub short_written : (kind reason connector bytes : ℕ) (control out : List ℕ) → length out < 9 → harsolvek_record_write kind reason connector bytes control out ≡ wrote 27 0 out
unfolding harsolvek_record_write
short_written kind reason connector bytes control out h = pick_yes _ _ _ (lt-ltb (length out) 9 h)

module _ (reason connector bytes : ℕ) (control out : List ℕ) (h : 9 ≤ length out) where
  -- The record's own bytes, and the rest of the buffer is kept.
  pub known_written : (kind : ℕ) (r : Record) → given_of kind reason connector bytes control ≡ Some r
      → harsolvek_record_write kind reason connector bytes control out ≡ wrote 0 (length (record_bytes_of r)) (record_bytes_of r ++ drop (length (record_bytes_of r)) out)
  known_written kind r known = wrote_given_lem kind reason connector bytes control out h ∙ ap (λ (g : Option Record). wrote_given g out) known ∙ ap wrote_of (write_whole r out h)

  pub control_written : length control ≡ 8 → harsolvek_record_write 1 reason connector bytes control out ≡ wrote 0 9 (1 ∷ control ++ drop 9 out)
  unfolding given_of pick record_bytes_of
  control_written eight = known_written 1 (Control control) refl ∙ ap (λ (n : ℕ). wrote 0 (suc n) (1 ∷ control ++ drop (suc n) out)) eight

  pub change_written : harsolvek_record_write 2 reason connector bytes control out ≡ wrote 0 4 (2 ∷ connector ∷ reason % 256 ∷ reason / 256 ∷ drop 4 out)
  unfolding given_of pick record_bytes_of
  change_written = known_written 2 (Change connector reason) refl

  pub success_written : harsolvek_record_write 3 reason connector bytes control out ≡ wrote 0 2 (3 ∷ bytes ∷ drop 2 out)
  unfolding given_of pick record_bytes_of
  success_written = known_written 3 (Success bytes) refl

  pub failure_written : harsolvek_record_write 4 reason connector bytes control out ≡ wrote 0 1 (4 ∷ drop 1 out)
  unfolding given_of pick record_bytes_of
  failure_written = known_written 4 Failure refl

  -- A kind that there is not is 20, and nothing is written.
  pub no_kind_written : (kind : ℕ) → (kind ≡ 0) ⊎ (4 < kind) → harsolvek_record_write kind reason connector bytes control out ≡ wrote 20 0 out
  unfolding given_of pick
  no_kind_written kind strange = wrote_no_kind kind reason connector bytes control out h (none kind strange)
    where
      none : (kind : ℕ) → (kind ≡ 0) ⊎ (4 < kind) → given_of kind reason connector bytes control ≡ None
      none kind (inl k) = rw k
      none kind (inr k) =
          rw (ne_eqb kind 1 (λ e. absurd (omega arith)), ne_eqb kind 2 (λ e. absurd (omega arith)), ne_eqb kind 3 (λ e. absurd (omega arith)), ne_eqb kind 4 (λ e. absurd (omega arith)))

  -- All of the number's 32 bits count: 257 is not 1.
  pub kind_257_written : harsolvek_record_write 257 reason connector bytes control out ≡ wrote 20 0 out
  kind_257_written = no_kind_written 257 (inr (omega arith))
