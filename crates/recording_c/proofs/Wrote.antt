-- What writing a record leaves where the buffer has room.
use Prim.Native.Nat.{ℕ, ◌≤◌}
use mathlib.Core.Path.{◌≡◌, refl, sym, ◌∙◌, ap}
use mathlib.Core.List.{List}
use borrow.Author.Tests.{le-ltb}
use lib.ListN.{length}
use Rattle.basis.specs.Pick.{pick_no}
use Rattle.basis.specs.Left.{left}
use Rattle.recording.specs.Writing.{record_write_of, record_write_number_of}
use Rattle.recording.specs.declared.record.Record.{Record}
use Rattle.recording.specs.declared.writer.TooShort.{TooShort}
use Rattle.std.specs.Prelude.{Option, Some, None, Result, Ok, Err}
use Rattle.std.specs.Result.{result_unwrap_or}
use Rattle.recording_c.specs.Writes.{wrote, wrote_of, wrote_given, given_of, count_of, harsolvek_record_write}

-- How many bytes were written, as the call takes it of the writer's result.
pub counted : (done : Result ℕ TooShort) → result_unwrap_or done 0 ≡ count_of done
counted (Ok n) = refl
counted (Err short) = refl

module _ (kind reason connector bytes : ℕ) (control out : List ℕ) (h : 9 ≤ length out) where
  pub wrote_given_lem : harsolvek_record_write kind reason connector bytes control out ≡ wrote_given (given_of kind reason connector bytes control) out
  unfolding harsolvek_record_write
  wrote_given_lem = pick_no _ _ _ (le-ltb (length out) 9 h)

  pub wrote_known : (r : Record) (done : Result ℕ TooShort) (after : List ℕ) → given_of kind reason connector bytes control ≡ Some r → left done after ≡ record_write_of r out
      → wrote (record_write_number_of done) (count_of done) after ≡ harsolvek_record_write kind reason connector bytes control out
  wrote_known r done after known left_so = ap wrote_of left_so ∙ sym (wrote_given_lem ∙ ap (λ (g : Option Record). wrote_given g out) known)

  pub wrote_no_kind : given_of kind reason connector bytes control ≡ None → harsolvek_record_write kind reason connector bytes control out ≡ wrote 20 0 out
  wrote_no_kind strange = wrote_given_lem ∙ ap (λ (g : Option Record). wrote_given g out) strange
