-- What printing a line leaves.
use Prim.Native.Nat.{ℕ, ◌≤◌}
use mathlib.Core.Path.{◌≡◌, sym, ◌∙◌}
use mathlib.Core.List.{List}
use native.Mathlib.Omega.{arith}
use borrow.Author.Tests.{le-ltb}
use lib.ListN.{length}
use Rattle.basis.specs.Pick.{pick_no}
use Rattle.basis.specs.Left.{left, leaves}
use Rattle.lent.specs.Put.{Placed, put_of}
use Rattle.lent.proofs.Laws.{put_leads}
use Rattle.printing.specs.Line.{line_longest}
use Rattle.recording_c.specs.Writes.{wrote}
use Rattle.recording_c.specs.Lines.{printed_of}

-- A text, put at the start of a buffer with room for every line.
pub text_printed : (text out after : List ℕ) (p : Placed) → length text ≤ line_longest → line_longest ≤ length out → left p after ≡ put_of out 0 text
    → wrote 0 (length text) after ≡ printed_of text out
unfolding printed_of
text_printed text out after p short h put =
    let led = leaves (put ∙ put_leads text out (omega arith)) in
    rw led (sym (pick_no _ _ _ (le-ltb (length out) line_longest h)))
