-- The messages of a session, each as it goes on its way and as the other end reads it.
use Prim.Native.Nat.{ℕ, ◌≤◌, ◌<◌}
use mathlib.Core.Bool.{true}
use mathlib.Core.Path.{◌≡◌, refl}
use mathlib.Core.List.{List, [], ◌∷◌, ◌++◌}
use native.Mathlib.Omega.{arith}
use borrow.Author.Tests.{ne_eqb}
use lib.Dec.{eqb}
use lib.ListN.{length}
use Rattle.basis.specs.Pick.{pick, pick_no}
use Rattle.wire.specs.Response as answer
use Rattle.wire.specs.Written.{request_bytes, bare_bytes, initiate_bytes, head_bytes, response_bytes, identified_bytes, initiated_bytes, receipt_bytes, validated_bytes}
use Rattle.wire.specs.Identity.{cleared}
use Rattle.wire.specs.declared.response.Response.TheVariants as Res
use Rattle.wire.proofs.RoundTrip.{response_back}
use Rattle.receiver_state.specs.Answer.{reply_of, get_fw_id_reply, initiate_reply, data_reply, validate_reply}
use Rattle.receiver_state.specs.declared.answer.Answer.TheVariants.{Identified, Offered, Asking, Closed, Success, Passed}
use Rattle.receiver_rules.specs.Respond.{reply_bytes}
use Rattle.indoor_state.specs.declared.answer.Answer.TheVariants as Ans
use Rattle.indoor_rules.specs.Send.{block_bytes, sends_bytes}
use Rattle.line.specs.Line.{Wide}
use Rattle.lost.specs.Lost.{Going, going, older}
use Rattle.lost.proofs.Carried.{with, Given, says, asks}
use Rattle.std.specs.Prelude.{Ok}

-- A DATA response with status OK, as the indoor end reads it.
pub record IsData (g : Going) : Type 0 where
  pub wait : ℕ
  pub number : ℕ
  pub parsed : answer.parsed_response_of g.message ≡ Ok (Res.Data 0 wait number)

-- DATA responses alone.
abbrev pub Late : List Going → Type 0
Late [] = Unit
Late (g ∷ on) = IsData g × Late on

pub late_older : (on : List Going) → Late on → Late (older on)
late_older [] h = tt
late_older (g ∷ on) h = (record { wait = h.0.wait; number = h.0.number; parsed = h.0.parsed }, late_older on h.1)

pub late_last : (on : List Going) (g : Going) → Late on → IsData g → Late (on ++ g ∷ [])
late_last [] g h d = (d, tt)
late_last (x ∷ on) g h d = (h.0, late_last on g h.1 d)

module _ (x : Given) where
  module _ (on : List Going) where
    pub passed_on : with on (says x Passed) ≡ on
    unfolding reply_bytes reply_of pick
    passed_on = refl

    pub identified_on : with on (says x Identified) ≡ on ++ going (says x Identified) 0 ∷ []
    unfolding reply_bytes reply_of get_fw_id_reply response_bytes identified_bytes pick
    identified_on = refl

    pub offered_on : with on (says x (Offered 0)) ≡ on ++ going (says x (Offered 0)) 0 ∷ []
    unfolding reply_bytes reply_of initiate_reply response_bytes initiated_bytes pick
    offered_on = refl

    pub asking_on : (number : ℕ) → with on (says x (Asking 0 number)) ≡ on ++ going (says x (Asking 0 number)) 0 ∷ []
    unfolding reply_bytes reply_of data_reply response_bytes receipt_bytes pick
    asking_on number = refl

    pub closed_on : (number : ℕ) → with on (says x (Closed number)) ≡ on ++ going (says x (Closed number)) 0 ∷ []
    unfolding reply_bytes reply_of data_reply response_bytes receipt_bytes pick
    closed_on number = refl

    pub success_on : with on (says x Success) ≡ on ++ going (says x Success) 0 ∷ []
    unfolding reply_bytes reply_of validate_reply response_bytes validated_bytes pick
    success_on = refl

    pub quiet_on : with on (asks x Ans.Passed) ≡ on
    unfolding sends_bytes pick
    quiet_on = refl

    pub over_on : with on (asks x Ans.Unexpected) ≡ on
    unfolding sends_bytes pick
    over_on = refl

    pub finished_on : with on (asks x Ans.Finished) ≡ on
    unfolding sends_bytes pick
    finished_on = refl

    pub identifying_on : with on (asks x Ans.Identifying) ≡ on ++ going (asks x Ans.Identifying) 0 ∷ []
    unfolding sends_bytes request_bytes bare_bytes pick
    identifying_on = refl

    pub initiating_on : with on (asks x Ans.Initiating) ≡ on ++ going (asks x Ans.Initiating) 0 ∷ []
    unfolding sends_bytes request_bytes initiate_bytes pick
    initiating_on = refl

    pub validating_on : with on (asks x Ans.Validating) ≡ on ++ going (asks x Ans.Validating) 0 ∷ []
    unfolding sends_bytes request_bytes bare_bytes pick
    validating_on = refl

    pub block_on : (j : ℕ) → with on (asks x (Ans.Sending j)) ≡ on ++ going (asks x (Ans.Sending j)) 0 ∷ []
    unfolding sends_bytes block_bytes request_bytes head_bytes
    block_on j = pick_no (eqb (length (asks x (Ans.Sending j))) 0) _ _ (ne_eqb (length (asks x (Ans.Sending j))) 0 (λ none. omega arith))

  pub identity_read : Wide x.release x.identity → answer.parsed_response_of (says x Identified) ≡ Ok (Res.GetFwId 0 (cleared x.identity))
  unfolding reply_bytes reply_of get_fw_id_reply
  identity_read wide = response_back (Res.GetFwId 0 x.identity) (wide.vendor, wide.product, wide.reported)

  pub offer_read : length x.memory ≤ 1048575 → answer.parsed_response_of (says x (Offered 0)) ≡ Ok (Res.Initiate 0 0 (length x.memory))
  unfolding reply_bytes reply_of initiate_reply
  offer_read most = response_back (Res.Initiate 0 0 (length x.memory)) (omega arith)

  pub asking_read : (number : ℕ) → number < 65536 → answer.parsed_response_of (says x (Asking 0 number)) ≡ Ok (Res.Data 0 0 number)
  unfolding reply_bytes reply_of data_reply
  asking_read number h = response_back (Res.Data 0 0 number) h

  pub closed_read : (number : ℕ) → number < 65536 → answer.parsed_response_of (says x (Closed number)) ≡ Ok (Res.Data 0 255 number)
  unfolding reply_bytes reply_of data_reply
  closed_read number h = response_back (Res.Data 0 255 number) h

  pub success_read : answer.parsed_response_of (says x Success) ≡ Ok (Res.Validate 0 0 true)
  unfolding reply_bytes reply_of validate_reply
  success_read = response_back (Res.Validate 0 0 true) tt
