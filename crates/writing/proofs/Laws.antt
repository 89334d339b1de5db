-- What is in a lent buffer after a message was made and sent there (01, Numbers we answer).
use Prim.Native.Nat.{ℕ, ◌≤◌}
use mathlib.Core.Path.{◌≡◌}
use mathlib.Core.List.{List}
use lib.ListN.{length, drop, replicate}
use lib.Seq.{take-append_seam}
use lib.Dec.{ltb}
use borrow.Author.Tests.{ltb-false}
use Rattle.basis.specs.Pick.{tests, pick_all}
use Rattle.basis.specs.Left.{Left, left}
use Rattle.lent.specs.Written.{written_into}
use Rattle.std.specs.Prelude.{Ok, Err}
use Rattle.writing.specs.Message.{Sent, message_of, sent_of, send_of}
use Rattle.writing.specs.declared.message.Message.{Message}

module _ (l out : List ℕ) (h : length l ≤ 22) where
  -- The buffer begins with the message, and the rest of it is kept.
  pub sends_whole : length l ≤ length out → send_of (message_of l) out ≡ left (Ok (length l)) (written_into l out)
  unfolding message_of sent_of
  sends_whole k = rw (take-append_seam l (drop (length l) (replicate 22 0))) (simp tests)

-- No more is written than the buffer holds.
abbrev pub Fits : ℕ → Sent → Type 0
Fits room (Ok n) = n ≤ room
Fits room (Err refusal) = Unit

pub send_fits : (m : Message) (out : List ℕ) → Fits (length out) (send_of m out).answer
unfolding sent_of
send_fits m out =
    let P : Left Sent → Type 0 = λ x. Fits (length out) x.answer in
    pick_all P (ltb 22 m.len) _ _ (λ _. tt)
    (λ _. pick_all P (ltb (length out) m.len) _ _ (λ _. tt) (ltb-false (length out) m.len))
