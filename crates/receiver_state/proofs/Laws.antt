-- The table of numbers and responses, in the paper's own numbers (01, Numbers we answer; 01, The receiver's phases).
use Prim.Native.Nat.{ℕ}
use mathlib.Core.Bool.{true, false}
use mathlib.Core.Path.{◌≡◌, refl}
use mathlib.Core.List.{[], ◌∷◌, map}
use Rattle.wire.specs.declared.response.Identity.{Identity}
use Rattle.std.specs.Prelude.{Option, Some, None, Ok, Err}
use Rattle.wire.specs.declared.response.Response.{Response}
use Rattle.wire.specs.declared.response.Response.TheVariants as Res
use Rattle.receiver_state.specs.Phase.{nothing_accepted, accepted_of}
use Rattle.receiver_state.specs.Answer.{receiver_number_of, reply_of, get_fw_id_reply, initiate_reply, data_reply, validate_reply}
use Rattle.receiver_state.specs.declared.answer.Answer.{Answer}
use Rattle.receiver_state.specs.declared.answer.Answer.TheVariants.{Identified, Offered, Asking, Closed, Success, Later, Aborted, Passed, Malformed, UnexpectedInitiate, UnexpectedData, UnexpectedValidate, Unexpected, NotDue, PassesCapacity, WrongFile, VerdictBad, OutOfRange, BufferShort, ImageLength}
use Rattle.receiver_state.specs.declared.phase.Accepted.{Accepted}
use Rattle.receiver_state.specs.declared.phase.Progress.{Progress}
use Rattle.receiver_state.specs.declared.phase.Phase.TheVariants.{Idle, Transfer, Await, Good}
use Rattle.receiver_state.specs.Session as start
use Rattle.receiver_state.specs.Sum as sum
use Rattle.receiver_state.specs.declared.session.Receiver.{Receiver}
use Rattle.silence.specs.declared.OutOfLimits.{OutOfLimits}
use Rattle.receiver_state.specs.declared.sum.ImageLength.{ImageLength as OtherLength}

module _ (identity : Identity) (capacity : ℕ) where
  abbrev row : Answer → ℕ × Option Response
  row a = (receiver_number_of a, reply_of identity capacity a)

  -- 0: taken
  pub taken_rows : (wait number : ℕ) →
      map row (Identified ∷ Offered wait ∷ Asking wait number ∷ Closed number ∷ Success ∷ Later wait ∷ Aborted ∷ Passed ∷ [])
      ≡ (0, Some (Res.GetFwId 0x00 identity))
      ∷ (0, Some (Res.Initiate 0x00 wait capacity))
      ∷ (0, Some (Res.Data 0x00 wait number))
      ∷ (0, Some (Res.Data 0x00 255 number))
      ∷ (0, Some (Res.Validate 0x00 0 true))
      ∷ (0, Some (Res.Validate 0x00 wait false))
      ∷ (0, None)
      ∷ (0, None)
      ∷ []
  unfolding reply_of get_fw_id_reply initiate_reply data_reply validate_reply
  taken_rows wait number = refl

  -- 20 to 28
  pub refused_rows : (due : ℕ) →
      map row (Malformed ∷ UnexpectedInitiate ∷ UnexpectedData ∷ UnexpectedValidate ∷ Unexpected ∷ NotDue due ∷ PassesCapacity ∷ WrongFile ∷ VerdictBad ∷ OutOfRange ∷ BufferShort ∷ ImageLength ∷ [])
      ≡ (20, None)
      ∷ (21, Some (Res.Initiate 0x82 255 0))
      ∷ (21, Some (Res.Data 0x82 255 0))
      ∷ (21, Some (Res.Validate 0x82 255 false))
      ∷ (21, None)
      ∷ (22, Some (Res.Data 0x00 0 due))
      ∷ (23, Some (Res.Data 0x08 255 0))
      ∷ (24, Some (Res.Data 0x02 255 0))
      ∷ (25, Some (Res.Validate 0x00 0 false))
      ∷ (26, None)
      ∷ (27, None)
      ∷ (28, None)
      ∷ []
  unfolding reply_of get_fw_id_reply initiate_reply data_reply validate_reply
  refused_rows due = refl

  -- Any answer with a status other than OK has WaitTime 255 and its later fields zero. (GET_FW_ID has no wait, and is never refused.)
  abbrev pub Unable : Option Response → Type 0
  Unable None = Unit
  Unable (Some (Res.GetFwId status i)) = status ≡ 0x00
  Unable (Some (Res.Initiate status wait size)) = (status ≡ 0x00 → ⊥) → (wait ≡ 255) × (size ≡ 0)
  Unable (Some (Res.Data status wait number)) = (status ≡ 0x00 → ⊥) → (wait ≡ 255) × (number ≡ 0)
  Unable (Some (Res.Validate status wait success)) = (status ≡ 0x00 → ⊥) → (wait ≡ 255) × (success ≡ false)
  Unable (Some Res.NotBuilt) = ⊥

  pub not_ok_unable : (a : Answer) → Unable (reply_of identity capacity a)
  unfolding reply_of get_fw_id_reply initiate_reply data_reply validate_reply
  not_ok_unable Identified = refl
  not_ok_unable (Offered wait) = λ h. absurd (h refl)
  not_ok_unable (Asking wait number) = λ h. absurd (h refl)
  not_ok_unable (Closed number) = λ h. absurd (h refl)
  not_ok_unable Success = λ h. absurd (h refl)
  not_ok_unable (Later wait) = λ h. absurd (h refl)
  not_ok_unable Aborted = tt
  not_ok_unable Passed = tt
  not_ok_unable Malformed = tt
  not_ok_unable UnexpectedInitiate = λ _. (refl, refl)
  not_ok_unable UnexpectedData = λ _. (refl, refl)
  not_ok_unable UnexpectedValidate = λ _. (refl, refl)
  not_ok_unable Unexpected = tt
  not_ok_unable (NotDue due) = λ h. absurd (h refl)
  not_ok_unable PassesCapacity = λ _. (refl, refl)
  not_ok_unable WrongFile = λ _. (refl, refl)
  not_ok_unable VerdictBad = λ h. absurd (h refl)
  not_ok_unable OutOfRange = tt
  not_ok_unable BufferShort = tt
  not_ok_unable ImageLength = tt

-- Going to Idle sets accepted to zero; so does a ready INITIATE answer (01, The receiver's phases).
pub nothing_zero : (nothing_accepted.blocks ≡ 0) × (nothing_accepted.bytes ≡ 0)
nothing_zero = (refl, refl)

-- The counts of blocks and bytes accepted are kept in Await and Good too.
pub accepted_rows : (p : Progress) (a : Accepted) → map accepted_of (Idle ∷ Transfer p ∷ Await a ∷ Good a ∷ []) ≡ nothing_accepted ∷ p.accepted ∷ a ∷ a ∷ []
accepted_rows p a = refl

-- 29 of a start, and 28 of a sum
pub started_rows : (r : Receiver) (refusal : OutOfLimits) → map start.receiver_start_number_of (Ok r ∷ Err refusal ∷ []) ≡ 0 ∷ 29 ∷ []
started_rows r refusal = refl

pub summed_rows : (s : ℕ) (refusal : OtherLength) → map sum.image_sum_number_of (Ok s ∷ Err refusal ∷ []) ≡ 0 ∷ 28 ∷ []
summed_rows s refusal = refl
