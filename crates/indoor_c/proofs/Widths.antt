-- The rules keep a state within the widths of its words: ten times a byte, a block's number and a limit of 10,000 have 16 bits.
use Prim.Native.Nat.{ℕ, ◌-◌, ◌*◌, ◌≤◌, ◌<◌}
use mathlib.Core.Bool.{Bool, not}
use mathlib.Core.Path.{subst}
use mathlib.Core.List.{List}
use native.Mathlib.Omega.{arith}
use lib.Dec.{eqb, ltb}
use lib.ListN.{length}
use Rattle.basis.specs.Bytes.{byte_at, Bytes}
use Rattle.basis.specs.Pick.{pick, pick_all, differ}
use Rattle.silence.specs.Within.{Within}
use Rattle.silence.proofs.Laws.{grown_all}
use Rattle.wire.specs.Codes.{unable, get_fw_id_response, initiate_response, data_response, validate_response, data_pause_response, vendor_specific_response, get_fw_id_response_length, initiate_response_length, data_response_length, validate_response_length}
use Rattle.wire.specs.Header.{headed}
use Rattle.wire.specs.Response.{identified_in, initiated_in, receipt_in, validated_in, response_of_type, parsed_response_of}
use Rattle.wire.specs.declared.response.Response.{Response}
use Rattle.wire.specs.declared.response.Response.TheVariants as Res
use Rattle.wire.specs.Response.{Parsed}
use Rattle.wire.proofs.Halves.{bytes_word}
use Rattle.indoor_state.specs.Phase.{indoor_state}
use Rattle.indoor_state.specs.declared.plan.Plan.{Plan}
use Rattle.indoor_state.specs.declared.phase.Reason.{Reason}
use Rattle.indoor_state.specs.declared.phase.Reason.TheVariants as Why
use Rattle.indoor_state.specs.declared.phase.Phase.{Phase}
use Rattle.indoor_state.specs.declared.phase.Phase.TheVariants.{Identify, Initiate, Transfer, Validate, Done, Failed}
use Rattle.indoor_state.specs.declared.phase.State.{State}
use Rattle.indoor_state.specs.declared.answer.Answer.{Answer}
use Rattle.indoor_state.specs.declared.session.Indoor.{Indoor}
use Rattle.indoor_state.specs.declared.step.Step.{Step}
use Rattle.indoor_rules.specs.Step.{fails, empty_number}
use Rattle.indoor_rules.specs.Newer.{newer_of}
use Rattle.indoor_rules.specs.Decide.{sends_block, not_ok, where_ok, compared_of, ready_of, indoor_offered_of, indoor_close_number_of, indoor_close_of, block_asked_of, indoor_data_of, indoor_success_of, indoor_validated_of, indoor_identify_of, indoor_initiate_of, indoor_transfer_of, indoor_validate_of, indoor_decide_in}
use Rattle.indoor_rules.specs.Tick.{resend_on_event, transfer_on_event, resends_of, transfer_expires_of, initiate_tick_of, transfer_tick_of, validate_tick_of, indoor_tick_in}
use Rattle.indoor_rules.specs.Response.{indoor_response_of}
use Rattle.indoor_rules.specs.Time.{indoor_time_of}
use Rattle.indoor_rules.proofs.Walk.{response_walk, time_walk}
use Rattle.indoor_c.specs.PhaseWords.{phase_words_of}
use Rattle.indoor_c.specs.Valid.{IndoorStateFits}
use Rattle.std.specs.Prelude.{Ok, Err}

-- The numbers that a response of bytes can say.
abbrev Says : Response → Type 0
Says (Res.GetFwId status reported) = Unit
Says (Res.Initiate status wait size) = wait < 256
Says (Res.Data status wait number) = (wait < 256) × (number < 65536)
Says (Res.Validate status wait success) = wait < 256
Says Res.NotBuilt = Unit

abbrev Reads : Parsed → Type 0
Reads (Ok r) = Says r
Reads (Err refusal) = Unit

read_says : (m : List ℕ) → Bytes m → Reads (parsed_response_of m)
unfolding parsed_response_of response_of_type identified_in initiated_in receipt_in validated_in
read_says m small =
    let t = byte_at m 1 in
    pick_all Reads (not (headed m)) _ _ (λ _. tt)
    (λ _. pick_all Reads (eqb t get_fw_id_response) _ _ (λ _. pick_all Reads (differ (length m) get_fw_id_response_length) _ _ (λ _. tt) (λ _. tt))
    (λ _. pick_all Reads (eqb t initiate_response) _ _ (λ _. pick_all Reads (differ (length m) initiate_response_length) _ _ (λ _. tt) (λ _. small 3))
    (λ _. pick_all Reads (eqb t data_response) _ _ (λ _. pick_all Reads (differ (length m) data_response_length) _ _ (λ _. tt) (λ _. (small 3, bytes_word m small 5)))
    (λ _. pick_all Reads (eqb t validate_response) _ _ (λ _. pick_all Reads (differ (length m) validate_response_length) _ _ (λ _. tt) (λ _. small 3))
    (λ _. pick_all Reads (eqb t data_pause_response) _ _ (λ _. tt)
    (λ _. pick_all Reads (eqb t vendor_specific_response) _ _ (λ _. tt) (λ _. tt)))))))

abbrev Fitting : Step → Type 0
Fitting s = IndoorStateFits s.state

-- After a taken response, and a failure.
fresh_fits : (phase : Phase) → (phase_words_of phase).asked ≤ 65535 → (phase_words_of phase).wait ≤ 65535 → IndoorStateFits (indoor_state phase 0 0)
fresh_fits phase a w = record { blocks = a; waits = w; silent = omega arith; resent = omega arith }

fails_fits : (reason : Reason) → Fitting (fails reason)
unfolding phase_words_of
fails_fits reason = fresh_fits (Failed reason) (omega arith) (omega arith)

module _ (plan : Plan) where
  sends_fits : (number : ℕ) (emptied : Bool) → number < 65536 → Fitting (sends_block plan number emptied)
  unfolding phase_words_of
  sends_fits number emptied h = fresh_fits _ (omega arith) (omega arith)

  ok_fits : (status : ℕ) (further : Step) → Fitting further → Fitting (where_ok status further)
  unfolding where_ok
  ok_fits status further h = pick_all Fitting (not_ok status) _ _ (λ _. fails_fits Why.Refused) (λ _. h)

  offered_fits : (wait size : ℕ) → wait < 256 → Fitting (indoor_offered_of plan wait size)
  unfolding indoor_offered_of ready_of phase_words_of
  offered_fits wait size h =
      pick_all Fitting (eqb wait unable) _ _ (λ _. fails_fits Why.Refused)
      (λ _. pick_all Fitting (eqb wait 0) _ _ (λ _. pick_all Fitting (ltb size plan.length) _ _ (λ _. fails_fits Why.TooLarge) (λ _. sends_fits 0 _ (omega arith)))
      (λ _. fresh_fits (Initiate (10 * wait)) (omega arith) (omega arith)))

  data_fits : (emptied : Bool) (wait number : ℕ) → wait < 256 → number < 65536 → Fitting (indoor_data_of plan emptied wait number)
  unfolding indoor_data_of indoor_close_of indoor_close_number_of block_asked_of phase_words_of
  data_fits emptied wait number h k =
      pick_all Fitting (eqb wait unable) _ _
      (λ _. pick_all Fitting (not emptied) _ _ (λ _. fails_fits Why.WrongNumber)
      (λ _. pick_all Fitting (differ number (empty_number plan)) _ _ (λ _. fails_fits Why.WrongNumber) (λ _. fresh_fits (Validate 0) (omega arith) (omega arith))))
      (λ _. pick_all Fitting (ltb (empty_number plan) number) _ _ (λ _. fails_fits Why.WrongNumber)
      (λ _. pick_all Fitting (eqb wait 0) _ _ (λ _. sends_fits number emptied k) (λ _. fresh_fits _ (omega arith) (omega arith))))

  validated_fits : (wait : ℕ) (success : Bool) → wait < 256 → Fitting (indoor_validated_of wait success)
  unfolding indoor_validated_of indoor_success_of phase_words_of
  validated_fits wait success h =
      pick_all Fitting (eqb wait unable) _ _ (λ _. fails_fits Why.Refused)
      (λ _. pick_all Fitting (eqb wait 0) _ _ (λ _. pick_all Fitting (not success) _ _ (λ _. fails_fits Why.NotValid) (λ _. fresh_fits Done (omega arith) (omega arith)))
      (λ _. fresh_fits (Validate wait) (omega arith) (omega arith)))

  module _ (state : State) (fits : IndoorStateFits state) where
    decide_fits : (phase : Phase) (r : Response) → Says r → Fitting (indoor_decide_in plan state phase r)
    unfolding indoor_decide_in indoor_identify_of indoor_initiate_of indoor_transfer_of indoor_validate_of compared_of phase_words_of
    decide_fits Identify (Res.GetFwId status reported) h =
        ok_fits status _ (pick_all Fitting (not (newer_of plan.release reported)) _ _ (λ _. fails_fits Why.NotNewer) (λ _. fresh_fits (Initiate 0) (omega arith) (omega arith)))
    decide_fits Identify (Res.Initiate status wait size) h = fits
    decide_fits Identify (Res.Data status wait number) h = fits
    decide_fits Identify (Res.Validate status wait success) h = fits
    decide_fits Identify Res.NotBuilt h = fits
    decide_fits (Initiate left) (Res.GetFwId status reported) h = fits
    decide_fits (Initiate left) (Res.Initiate status wait size) h = ok_fits status _ (offered_fits wait size h)
    decide_fits (Initiate left) (Res.Data status wait number) h = fits
    decide_fits (Initiate left) (Res.Validate status wait success) h = fits
    decide_fits (Initiate left) Res.NotBuilt h = fits
    decide_fits (Transfer p) (Res.GetFwId status reported) h = fits
    decide_fits (Transfer p) (Res.Initiate status wait size) h = fits
    decide_fits (Transfer p) (Res.Data status wait number) h = ok_fits status _ (data_fits p.emptied wait number h.0 h.1)
    decide_fits (Transfer p) (Res.Validate status wait success) h = fits
    decide_fits (Transfer p) Res.NotBuilt h = fits
    decide_fits (Validate left) (Res.GetFwId status reported) h = fits
    decide_fits (Validate left) (Res.Initiate status wait size) h = fits
    decide_fits (Validate left) (Res.Data status wait number) h = fits
    decide_fits (Validate left) (Res.Validate status wait success) h = ok_fits status _ (validated_fits wait success h)
    decide_fits (Validate left) Res.NotBuilt h = fits
    decide_fits Done r h = fits
    decide_fits (Failed reason) r h = fits

    module _ (within : Within plan.settings.limit plan.settings.resends) (elapsed : ℕ) where
      resends_fit : (again : Answer) → Fitting (resends_of plan state again elapsed)
      unfolding resends_of resend_on_event
      resends_fit again =
          let high = within.high in
          let few = within.few in
          grown_all state.silence elapsed state.resends plan.settings (λ g. Fitting (resend_on_event state.phase again g g.event))
          (λ t. record { blocks = fits.blocks; waits = fits.waits; silent = omega arith; resent = fits.resent })
          (λ _ t. record { blocks = fits.blocks; waits = fits.waits; silent = omega arith; resent = omega arith })
          (λ _ _. fails_fits Why.Silence)

      transfer_fits : Fitting (transfer_expires_of plan state elapsed)
      unfolding transfer_expires_of transfer_on_event
      transfer_fits =
          let high = within.high in
          grown_all state.silence elapsed state.resends plan.settings (λ g. Fitting (transfer_on_event state.phase g g.event))
          (λ t. record { blocks = fits.blocks; waits = fits.waits; silent = omega arith; resent = fits.resent })
          (λ _ _. fails_fits Why.Silence)
          (λ _ _. fails_fits Why.Silence)

      -- Outside a wait, in it and at its end.
      in_wait : (left : ℕ) (s t u : Step) → Fitting s → Fitting t → Fitting u → Fitting (pick (eqb left 0) s (pick (ltb elapsed left) t u))
      in_wait left s t u a b c = pick_all Fitting (eqb left 0) _ _ (λ _. a) (λ _. pick_all Fitting (ltb elapsed left) _ _ (λ _. b) (λ _. c))

      -- The state's own phase, with less of its wait left, and with none.
      state_fits : (phase : Phase) (silence : ℕ) → silence ≤ 65535 → (phase_words_of phase).asked ≤ 65535 → (phase_words_of phase).wait ≤ 65535
          → IndoorStateFits (indoor_state phase silence state.resends)
      state_fits phase silence s a w = record { blocks = a; waits = w; silent = s; resent = fits.resent }

      tick_fits : (phase : Phase) → (phase_words_of phase).asked ≤ 65535 → (phase_words_of phase).wait ≤ 65535 → Fitting (indoor_tick_in plan state phase elapsed)
      unfolding indoor_tick_in initiate_tick_of transfer_tick_of validate_tick_of phase_words_of
      tick_fits Identify a w = resends_fit _
      tick_fits (Initiate left) a w =
          in_wait left _ _ _ (resends_fit _) (state_fits (Initiate (left - elapsed)) _ fits.silent (omega arith) (omega arith)) (state_fits (Initiate 0) _ (omega arith) (omega arith) (omega arith))
      tick_fits (Transfer p) a w = in_wait p.wait _ _ _ transfer_fits (state_fits _ _ fits.silent a (omega arith)) (state_fits _ _ (omega arith) a (omega arith))
      tick_fits (Validate left) a w =
          in_wait left _ _ _ (resends_fit _) (state_fits (Validate (left - elapsed)) _ fits.silent (omega arith) (omega arith)) (state_fits (Validate 0) _ (omega arith) (omega arith) (omega arith))
      tick_fits Done a w = fits
      tick_fits (Failed reason) a w = fits

module _ (s : Indoor) (fits : IndoorStateFits s.state) (file out : List ℕ) where
  pub response_fits : (response : List ℕ) → Bytes response → IndoorStateFits (indoor_response_of s file response out).answer.session.state
  response_fits response small =
      response_walk s file response out (λ x. IndoorStateFits x.answer.session.state) fits fits fits
      (λ r _ _ e. decide_fits s.plan s.state fits s.state.phase r (subst Reads e (read_says response small)))

  pub time_fits : Within s.plan.settings.limit s.plan.settings.resends → (elapsed : ℕ) → IndoorStateFits (indoor_time_of s file elapsed out).answer.session.state
  time_fits within elapsed =
      time_walk s file elapsed out (λ x. IndoorStateFits x.answer.session.state) fits fits
      (λ _ _. tick_fits s.plan s.state fits within elapsed s.state.phase fits.blocks fits.waits)
