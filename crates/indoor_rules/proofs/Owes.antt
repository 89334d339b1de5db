-- What holds of every step on a response, by its answer, the state before it and the state after it.
use Prim.Native.Nat.{ℕ, ◌≤◌}
use Rattle.std.specs.Prelude.{Option, Some, None}
use mathlib.Core.Bool.{Bool, true, false, true≢false, not, ◌||◌}
use mathlib.Core.Logic.{◌⊎◌, inl, inr}
use mathlib.Core.Path.{◌≡◌, sym, ap}
use native.Mathlib.Omega.{arith}
use borrow.Author.Tests.{eqb-true, ltb-false, not-false}
use lib.Dec.{eqb, ltb}
use Rattle.basis.specs.Pick.{pick_all, When, differ, differ_false}
use Rattle.wire.specs.declared.response.Identity.{Identity}
use Rattle.wire.specs.declared.response.Response.{Response}
use Rattle.wire.specs.declared.response.Response.TheVariants as Res
use Rattle.indoor_state.specs.Phase.{indoor_state}
use Rattle.indoor_state.specs.Answer.{indoor_number_of, sends_of}
use Rattle.indoor_state.specs.Step.{indoor_step}
use Rattle.indoor_rules.specs.Step.{empty_number, emptied_by}
use Rattle.indoor_rules.proofs.Accepted.{emptied_only, emptied_stays, emptied_last}
use Rattle.indoor_rules.specs.Newer.{newer_of}
use Rattle.indoor_rules.specs.Decide.{sends_block, not_ok, where_ok, compared_of, ready_of, indoor_offered_of, indoor_close_number_of, indoor_close_of, block_asked_of, indoor_data_of, indoor_success_of, indoor_validated_of, indoor_identify_of, indoor_initiate_of, indoor_transfer_of, indoor_validate_of, indoor_decide_in, indoor_decide_of}
use Rattle.indoor_state.specs.declared.plan.Plan.{Plan}
use Rattle.indoor_state.specs.declared.phase.Progress.{Progress}
use Rattle.indoor_state.specs.declared.phase.Phase.{Phase}
use Rattle.indoor_state.specs.declared.phase.Phase.TheVariants.{Identify, Initiate, Transfer, Validate, Done, Failed}
use Rattle.indoor_state.specs.declared.phase.State.{State}
use Rattle.indoor_state.specs.declared.answer.Answer.{Answer}
use Rattle.indoor_state.specs.declared.answer.Answer.TheVariants as Ans
use Rattle.indoor_state.specs.declared.answer.Sends.{Sends}
use Rattle.indoor_state.specs.declared.answer.Sends.TheVariants as Out
use Rattle.indoor_state.specs.declared.step.Step.{Step}

-- A step on a response answers 0, 21 or 41 to 45.
abbrev pub hears : ℕ → Bool
hears n = eqb n 0 || eqb n 21 || eqb n 41 || eqb n 42 || eqb n 43 || eqb n 44 || eqb n 45

-- 40 to 45: Failed with that reason, and nothing else is left.
abbrev pub Fails : Answer → State → Type 0
Fails Ans.Identifying next = Unit
Fails Ans.Initiating next = Unit
Fails (Ans.Sending number) next = Unit
Fails Ans.Validating next = Unit
Fails Ans.Waiting next = Unit
Fails Ans.Finished next = Unit
Fails Ans.Passed next = Unit
Fails Ans.Malformed next = Unit
Fails Ans.Unexpected next = Unit
Fails Ans.BufferShort next = Unit
Fails Ans.FileLength next = Unit
Fails (Ans.Failed reason) next = next ≡ indoor_state (Failed reason) 0 0

-- Done and Failed stay.
abbrev pub Stays : Phase → State → Step → Type 0
Stays Identify state s = Unit
Stays (Initiate left) state s = Unit
Stays (Transfer p) state s = Unit
Stays (Validate left) state s = Unit
Stays Done state s = s ≡ indoor_step state Ans.Unexpected
Stays (Failed reason) state s = s ≡ indoor_step state Ans.Unexpected

-- Into Validate only from Transfer, by WaitTime 255 with the number n after the empty block went out.
abbrev pub ToValidate : Plan → Phase → Response → Type 0
ToValidate plan Identify r = ⊥
ToValidate plan (Initiate left) r = ⊥
ToValidate plan (Transfer p) r = (p.emptied ≡ true) × (r ≡ Res.Data 0x00 255 (empty_number plan))
ToValidate plan (Validate left) r = Unit
ToValidate plan Done r = ⊥
ToValidate plan (Failed reason) r = ⊥

-- Into Done only from Validate, by a VALIDATE response with status OK, wait 0 and the success bit.
abbrev pub ToDone : Phase → Response → Type 0
ToDone Identify r = ⊥
ToDone (Initiate left) r = ⊥
ToDone (Transfer p) r = ⊥
ToDone (Validate left) r = r ≡ Res.Validate 0x00 0 true
ToDone Done r = Unit
ToDone (Failed reason) r = ⊥

-- Into Transfer only from Initiate, by a ready INITIATE response that has room for the file.
abbrev pub ToTransfer : Plan → Phase → Response → Type 0
ToTransfer plan Identify r = ⊥
ToTransfer plan (Initiate left) (Res.GetFwId status reported) = ⊥
ToTransfer plan (Initiate left) (Res.Initiate status wait size) = (status ≡ 0x00) × (wait ≡ 0) × (plan.length ≤ size)
ToTransfer plan (Initiate left) (Res.Data status wait number) = ⊥
ToTransfer plan (Initiate left) (Res.Validate status wait success) = ⊥
ToTransfer plan (Initiate left) Res.NotBuilt = ⊥
ToTransfer plan (Transfer p) r = Unit
ToTransfer plan (Validate left) r = ⊥
ToTransfer plan Done r = ⊥
ToTransfer plan (Failed reason) r = ⊥

-- Into Initiate only from Identify, by a GET_FW_ID response with status OK that reports an older version.
abbrev pub ToInitiate : Plan → Phase → Response → Type 0
ToInitiate plan Identify (Res.GetFwId status reported) = (status ≡ 0x00) × (newer_of plan.release reported ≡ true)
ToInitiate plan Identify (Res.Initiate status wait size) = ⊥
ToInitiate plan Identify (Res.Data status wait number) = ⊥
ToInitiate plan Identify (Res.Validate status wait success) = ⊥
ToInitiate plan Identify Res.NotBuilt = ⊥
ToInitiate plan (Initiate left) r = Unit
ToInitiate plan (Transfer p) r = ⊥
ToInitiate plan (Validate left) r = ⊥
ToInitiate plan Done r = ⊥
ToInitiate plan (Failed reason) r = ⊥

-- Nothing leads back to Identify.
abbrev pub Enters : Plan → Phase → Response → Phase → Type 0
Enters plan before r Identify = before ≡ Identify
Enters plan before r (Initiate left) = ToInitiate plan before r
Enters plan before r (Transfer p) = ToTransfer plan before r
Enters plan before r (Validate left) = ToValidate plan before r
Enters plan before r Done = ToDone before r
Enters plan before r (Failed reason) = Unit

-- In Transfer the block last asked for is one of the file's, or the empty one.
abbrev pub Fit : Plan → Phase → Type 0
Fit plan Identify = Unit
Fit plan (Initiate left) = Unit
Fit plan (Transfer p) = p.asked ≤ empty_number plan
Fit plan (Validate left) = Unit
Fit plan Done = Unit
Fit plan (Failed reason) = Unit

-- A block that goes out is one of the file's, or the empty one.
abbrev pub Within : Plan → Option Sends → Type 0
Within plan None = Unit
Within plan (Some Out.GetFwId) = Unit
Within plan (Some Out.Initiate) = Unit
Within plan (Some (Out.Block number)) = number ≤ empty_number plan
Within plan (Some Out.Validate) = Unit
Within plan (Some Out.Abort) = Unit

-- The empty block had been sent, or goes out with this answer.
abbrev pub Emptied : Plan → Phase → Answer → Type 0
Emptied plan Identify answer = answer ≡ Ans.Sending (empty_number plan)
Emptied plan (Initiate left) answer = answer ≡ Ans.Sending (empty_number plan)
Emptied plan (Transfer p) answer = (p.emptied ≡ true) ⊎ (answer ≡ Ans.Sending (empty_number plan))
Emptied plan (Validate left) answer = answer ≡ Ans.Sending (empty_number plan)
Emptied plan Done answer = answer ≡ Ans.Sending (empty_number plan)
Emptied plan (Failed reason) answer = answer ≡ Ans.Sending (empty_number plan)

abbrev pub Empties : Plan → Phase → Answer → Phase → Type 0
Empties plan before answer Identify = Unit
Empties plan before answer (Initiate left) = Unit
Empties plan before answer (Transfer p) = p.emptied ≡ true → Emptied plan before answer
Empties plan before answer (Validate left) = Unit
Empties plan before answer Done = Unit
Empties plan before answer (Failed reason) = Unit

-- Once the empty block has been sent, it stays so until the transfer ends.
abbrev pub Still : Phase → Phase → Type 0
Still Identify next = Unit
Still (Initiate left) next = Unit
Still (Transfer p) Identify = Unit
Still (Transfer p) (Initiate left) = Unit
Still (Transfer p) (Transfer q) = p.emptied ≡ true → q.emptied ≡ true
Still (Transfer p) (Validate left) = Unit
Still (Transfer p) Done = Unit
Still (Transfer p) (Failed reason) = Unit
Still (Validate left) next = Unit
Still Done next = Unit
Still (Failed reason) next = Unit

-- The call that sends the empty block remembers it.
abbrev pub Marked : Plan → ℕ → Phase → Type 0
Marked plan number Identify = ⊥
Marked plan number (Initiate left) = ⊥
Marked plan number (Transfer p) = number ≡ empty_number plan → p.emptied ≡ true
Marked plan number (Validate left) = ⊥
Marked plan number Done = ⊥
Marked plan number (Failed reason) = ⊥

abbrev pub Marks : Plan → Option Sends → Phase → Type 0
Marks plan None next = Unit
Marks plan (Some Out.GetFwId) next = Unit
Marks plan (Some Out.Initiate) next = Unit
Marks plan (Some (Out.Block number)) next = Marked plan number next
Marks plan (Some Out.Validate) next = Unit
Marks plan (Some Out.Abort) next = Unit

by_last : (plan : Plan) (number : ℕ) → (false ≡ true) ⊎ (number ≡ empty_number plan) → Ans.Sending number ≡ Ans.Sending (empty_number plan)
by_last plan number (inl e) = absurd (true≢false (sym e))
by_last plan number (inr h) = ap Ans.Sending h

by_either : (plan : Plan) (number : ℕ) (emptied : Bool) → (emptied ≡ true) ⊎ (number ≡ empty_number plan) → (emptied ≡ true) ⊎ (Ans.Sending number ≡ Ans.Sending (empty_number plan))
by_either plan number emptied (inl e) = inl e
by_either plan number emptied (inr h) = inr (ap Ans.Sending h)

first_empties : (plan : Plan) → emptied_by plan 0 false ≡ true → Ans.Sending 0 ≡ Ans.Sending (empty_number plan)
first_empties plan e = by_last plan 0 (emptied_only plan 0 false e)

pub later_empties : (plan : Plan) (number : ℕ) (emptied : Bool) → emptied_by plan number emptied ≡ true → (emptied ≡ true) ⊎ (Ans.Sending number ≡ Ans.Sending (empty_number plan))
later_empties plan number emptied e = by_either plan number emptied (emptied_only plan number emptied e)

pub record Row (plan : Plan) (state : State) (r : Response) (s : Step) : Type 0 where
  pub number : hears (indoor_number_of s.answer) ≡ true
  pub passes : When (eqb (indoor_number_of s.answer) 21) (s.state ≡ state)
  pub taken : When (eqb (indoor_number_of s.answer) 0) ((s.state.silence ≡ 0) × (s.state.resends ≡ 0))
  pub fails : Fails s.answer s.state
  pub stays : Stays state.phase state s
  pub enters : Enters plan state.phase r s.state.phase
  pub fit : Fit plan state.phase → Fit plan s.state.phase
  pub within : Within plan (sends_of s.answer)
  pub empties : Empties plan state.phase s.answer s.state.phase
  pub still : Still state.phase s.state.phase
  pub marks : Marks plan (sends_of s.answer) s.state.phase

module _ (plan : Plan) (silence resends : ℕ) where
  abbrev P : Phase → Response → Step → Type 0
  P before r s = Row plan (indoor_state before silence resends) r s

  identified_row : (status : ℕ) (reported : Identity) → P Identify (Res.GetFwId status reported) (where_ok status (compared_of plan reported))
  unfolding where_ok not_ok compared_of
  identified_row status reported = search (pick_all (P Identify (Res.GetFwId status reported)), differ_false, not-false) depth 8

  ready_row : (left status wait size : ℕ) → status ≡ 0 → wait ≡ 0 → P (Initiate left) (Res.Initiate status wait size) (ready_of plan size)
  unfolding ready_of
  ready_row left status wait size ok none =
      let low : 0 ≤ empty_number plan = omega arith in
      let empties = first_empties plan in
      let marks = emptied_last plan 0 false in
      pick_all (P (Initiate left) (Res.Initiate status wait size)) (ltb size plan.length) _ _ (λ _. search)
      (λ t. let fits = ltb-false size plan.length t in search)

  initiated_row : (left status wait size : ℕ) → P (Initiate left) (Res.Initiate status wait size) (where_ok status (indoor_offered_of plan wait size))
  unfolding where_ok not_ok indoor_offered_of
  initiated_row left status wait size =
      search (pick_all (P (Initiate left) (Res.Initiate status wait size)), ready_row, eqb-true, differ_false) depth 8

  sends_row : (p : Progress) (r : Response) (number : ℕ) → number ≤ empty_number plan → P (Transfer p) r (sends_block plan number p.emptied)
  sends_row p r number h =
      let empties = later_empties plan number p.emptied in
      let still = emptied_stays plan number p.emptied in
      let marks = emptied_last plan number p.emptied in
      search

  ended_row : (p : Progress) (status wait number : ℕ) → status ≡ 0 → wait ≡ 255 → p.emptied ≡ true
      → P (Transfer p) (Res.Data status wait number) (indoor_close_number_of plan number)
  unfolding indoor_close_number_of
  ended_row p status wait number ok unable e =
      pick_all (P (Transfer p) (Res.Data status wait number)) (differ number (empty_number plan)) _ _ (λ _. search)
      (λ t. let close : Res.Data status wait number ≡ Res.Data 0x00 255 (empty_number plan) = rw (ok, unable, differ_false number (empty_number plan) t) in search)

  closed_row : (p : Progress) (status wait number : ℕ) → status ≡ 0 → wait ≡ 255
      → P (Transfer p) (Res.Data status wait number) (indoor_close_of plan p.emptied number)
  unfolding indoor_close_of
  closed_row p status wait number ok unable =
      pick_all (P (Transfer p) (Res.Data status wait number)) (not p.emptied) _ _ (λ _. search)
      (λ t. ended_row p status wait number ok unable (not-false p.emptied t))

  asked_row : (p : Progress) (r : Response) (wait number : ℕ) → P (Transfer p) r (block_asked_of plan p.emptied wait number)
  unfolding block_asked_of
  asked_row p r wait number =
      let Q : Step → Type 0 = P (Transfer p) r in
      pick_all Q (ltb (empty_number plan) number) _ _ (λ _. search)
      (λ t. let h = ltb-false (empty_number plan) number t in
      pick_all Q (eqb wait 0) _ _ (λ _. sends_row p r number h) (λ _. search inl))

  receipt_row : (p : Progress) (status wait number : ℕ) → P (Transfer p) (Res.Data status wait number) (where_ok status (indoor_data_of plan p.emptied wait number))
  unfolding where_ok not_ok indoor_data_of
  receipt_row p status wait number =
      search (pick_all (P (Transfer p) (Res.Data status wait number)), closed_row, asked_row, eqb-true, differ_false) depth 8

  judged_row : (left status wait : ℕ) (success : Bool) → status ≡ 0 → wait ≡ 0 → P (Validate left) (Res.Validate status wait success) (indoor_success_of success)
  unfolding indoor_success_of
  judged_row left status wait success ok none =
      pick_all (P (Validate left) (Res.Validate status wait success)) (not success) _ _ (λ _. search)
      (λ t. let valid : Res.Validate status wait success ≡ Res.Validate 0x00 0 true = rw (ok, none, not-false success t) in search)

  validated_row : (left status wait : ℕ) (success : Bool) → P (Validate left) (Res.Validate status wait success) (where_ok status (indoor_validated_of wait success))
  unfolding where_ok not_ok indoor_validated_of
  validated_row left status wait success =
      search (pick_all (P (Validate left) (Res.Validate status wait success)), judged_row, eqb-true, differ_false) depth 8

  decided_row : (before : Phase) (r : Response) → P before r (indoor_decide_in plan (indoor_state before silence resends) before r)
  unfolding indoor_decide_in indoor_identify_of indoor_initiate_of indoor_transfer_of indoor_validate_of
  decided_row Identify (Res.GetFwId status reported) = identified_row status reported
  decided_row Identify (Res.Initiate status wait size) = search
  decided_row Identify (Res.Data status wait number) = search
  decided_row Identify (Res.Validate status wait success) = search
  decided_row Identify Res.NotBuilt = search
  decided_row (Initiate left) (Res.GetFwId status reported) = search
  decided_row (Initiate left) (Res.Initiate status wait size) = initiated_row left status wait size
  decided_row (Initiate left) (Res.Data status wait number) = search
  decided_row (Initiate left) (Res.Validate status wait success) = search
  decided_row (Initiate left) Res.NotBuilt = search
  decided_row (Transfer p) (Res.GetFwId status reported) = search inl
  decided_row (Transfer p) (Res.Initiate status wait size) = search inl
  decided_row (Transfer p) (Res.Data status wait number) = receipt_row p status wait number
  decided_row (Transfer p) (Res.Validate status wait success) = search inl
  decided_row (Transfer p) Res.NotBuilt = search inl
  decided_row (Validate left) (Res.GetFwId status reported) = search
  decided_row (Validate left) (Res.Initiate status wait size) = search
  decided_row (Validate left) (Res.Data status wait number) = search
  decided_row (Validate left) (Res.Validate status wait success) = validated_row left status wait success
  decided_row (Validate left) Res.NotBuilt = search
  decided_row Done r = search
  decided_row (Failed reason) r = search

pub decide_row : (plan : Plan) (state : State) (r : Response) → Row plan state r (indoor_decide_of plan state r)
decide_row plan state r = decided_row plan state.silence state.resends state.phase r
