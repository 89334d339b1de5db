-- A request on the words: what is heard, and then the response, leaves what the rule says of the session that they are.
use Prim.Native.Nat.{ℕ, ◌≤◌}
use mathlib.Core.Bool.{true}
use mathlib.Core.Path.{◌≡◌, sym, ◌∙◌, ap}
use mathlib.Core.List.{List}
use borrow.Author.Tests.{le-ltb}
use lib.ListN.{length}
use native.Mathlib.Omega.{arith}
use Rattle.std.specs.Prelude.{Result, Ok, Err}
use Rattle.basis.specs.Left.{Left, left}
use Rattle.basis.specs.Pick.{pick_no}
use Rattle.lent.specs.Written.{returns_written}
use Rattle.receiver_state.specs.Answer.{receiver_number_of}
use Rattle.wire.specs.Codes.{longest}
use Rattle.receiver_state.specs.declared.answer.Answer.{Answer}
use Rattle.receiver_state.specs.declared.phase.Phase.{Phase}
use Rattle.receiver_state.specs.declared.verdict.Verdict.{Verdict}
use Rattle.receiver_rules.specs.Request.{Effect, receiver_request_of}
use Rattle.receiver_rules.specs.Respond.{receiver_bytes_of}
use Rattle.receiver_rules.specs.Hearing.{sent_of, heard_of}
use Rattle.receiver_state.specs.declared.step.Heard.{Heard}
use Rattle.receiver_rules.proofs.Hearing.{answered_by, answered, request_parts, heard_room}
use Rattle.width.specs.Words.{word_at}
use Rattle.receiver_c.specs.Words.{phase_at, session_at, laid_phase, is_receiver_session}
use Rattle.receiver_c.specs.Calls.{receiver_called, receiver_requested}
use Rattle.receiver_c.proofs.Laid.{laid_before, laid_identity}
use Rattle.receiver_c.proofs.Inverse.{laid_kept}

module _ (w image request : List ℕ) (readiness : ℕ) (verdict : Verdict) (out : List ℕ) (phase : Phase) (is : phase ≡ phase_at w)
    (h : Result Heard Answer) (left-image : List ℕ)
    (e : left h left-image ≡ heard_of phase (word_at w 2) image request readiness verdict (length out)) where
  abbrev asked : Effect
  asked = receiver_request_of (session_at w) image request readiness verdict out

  abbrev by : Result Heard Answer → Effect
  by x = answered_by (session_at w) x left-image out

  parts : asked ≡ by h
  unfolding session_at
  parts =
      request_parts (session_at w) image request readiness verdict out
      ∙ ap (λ (p : Phase). answered (session_at w) (heard_of p (word_at w 2) image request readiness verdict (length out)) out) (sym is)
      ∙ ap (λ (x : Left (Result Heard Answer)). answered (session_at w) x out) (sym e)

  pub requested_kept : is_receiver_session w ≡ true → (answer : Answer) → h ≡ Err answer → receiver_requested w asked ≡ receiver_called (receiver_number_of answer) 0 w left-image out
  requested_kept ok answer kept =
      ap (receiver_requested w) (parts ∙ ap by kept)
      ∙ ap (λ (x : List ℕ). receiver_called (receiver_number_of answer) 0 x left-image out) (laid_kept w ok)

  module _ (heard : Heard) (done : h ≡ Ok heard) where
    abbrev next : List ℕ
    next = laid_phase w heard.phase 0 0

    bytes_same : receiver_bytes_of (session_at next) heard.answer ≡ receiver_bytes_of (session_at w) heard.answer
    unfolding session_at
    bytes_same = rw (laid_identity w heard.phase 0 0, laid_before w heard.phase 0 0 2 (omega arith))

    room : longest ≤ length out
    room = heard_room phase (word_at w 2) image request readiness verdict (length out) heard (ap (λ (x : Left (Result Heard Answer)). x.answer) (sym e) ∙ done)

    pub requested_done : (written : ℕ) (left_out : List ℕ) → left written left_out ≡ sent_of (receiver_bytes_of (session_at next) heard.answer) out
        → receiver_requested w asked ≡ receiver_called (receiver_number_of heard.answer) written next left-image left_out
    requested_done written left_out sent =
        ap (receiver_requested w) (parts ∙ ap by done)
        ∙ ap (λ (x : Left ℕ). receiver_called (receiver_number_of heard.answer) x.answer next left-image x.memory)
        (sym (sent ∙ pick_no _ _ _ (le-ltb (length out) longest room) ∙ ap (λ (bytes : List ℕ). returns_written bytes out) bytes_same))
