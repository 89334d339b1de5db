-- The course of a clean line: after each delivery, the phases of both ends, what is on its way and how many requests were sent.
use Prim.Native.Nat.{ℕ, suc, ◌+◌, ◌*◌, ◌≤◌, ◌<◌}
use mathlib.Core.Bool.{Bool, true, false, true≢false}
use mathlib.Core.Logic.{◌⊎◌, inl, inr}
use mathlib.Core.Path.{◌≡◌, refl, sym, ◌∙◌, ap, subst}
use mathlib.Core.List.{List, [], ◌∷◌}
use native.Mathlib.Nat.{eq-or-lt_of_le}
use native.Mathlib.Omega.{arith}
use borrow.Author.Tests.{ne_eqb, le-ltb, ltb-true, ltb-false}
use lib.Dec.{ltb, eqb}
use lib.ListN.{length}
use Rattle.basis.specs.Pick.{pick, pick_no}
use Rattle.image.specs.Blocks.{blocks_of, block_at}
use Rattle.image.proofs.Laws.{block_length, block_behind}
use Rattle.wire.specs.Codes.{longest}
use Rattle.wire.specs.Request.{parsed_request_of}
use Rattle.wire.specs.Response as answer
use Rattle.wire.specs.Written.{request_bytes, bare_bytes, initiate_bytes, head_bytes, response_bytes, identified_bytes, initiated_bytes, receipt_bytes, validated_bytes}
use Rattle.wire.specs.Identity.{cleared}
use Rattle.wire.specs.declared.request.Request.TheVariants as Req
use Rattle.wire.specs.declared.response.Response.TheVariants as Res
use Rattle.wire.specs.declared.response.Identity.{Identity}
use Rattle.wire.proofs.RoundTrip.{response_back}
use Rattle.receiver_state.specs.Phase.{accepted_counts, nothing_accepted}
use Rattle.receiver_state.specs.Answer.{reply_of}
use Rattle.receiver_state.specs.Answer as replies
use Rattle.receiver_state.specs.declared.answer.Answer.{Answer}
use Rattle.receiver_state.specs.declared.answer.Answer.TheVariants.{Identified, Offered, Asking, Closed, Success, Aborted}
use Rattle.receiver_state.specs.declared.phase.Accepted.{Accepted}
use Rattle.receiver_state.specs.declared.phase.Progress.{Progress}
use Rattle.receiver_state.specs.declared.phase.Phase as receiver
use Rattle.receiver_state.specs.declared.phase.Phase.TheVariants.{Idle, Transfer, Await, Good}
use Rattle.receiver_rules.specs.Decide.{goes_to, receiver_progress, receiver_decide_of}
use Rattle.receiver_state.specs.declared.verdict.Verdict.{Verdict}
use Rattle.receiver_state.specs.declared.verdict.Verdict.TheVariants as Ver
use Rattle.std.specs.Prelude.{Some}
use Rattle.receiver_state.specs.declared.step.Step.{Step}
use Rattle.receiver_rules.proofs.ByPhase as rows
use Rattle.receiver_rules.proofs.DataOrders as orders
use Rattle.receiver_rules.specs.Respond.{reply_bytes}
use Rattle.receiver_rules.proofs.Fresh as receiverFresh
use Rattle.receiver_rules.proofs.Reached.{reached_capacity}
use Rattle.indoor_state.specs.Phase.{indoor_progress as sent}
use Rattle.indoor_rules.specs.Step.{emptied_by}
use Rattle.indoor_rules.proofs.Accepted.{emptied_last}
use Rattle.indoor_state.specs.declared.plan.Release.{Release}
use Rattle.indoor_state.specs.declared.phase.Reason.TheVariants as Why
use Rattle.indoor_state.specs.declared.phase.Progress as sending
use Rattle.indoor_state.specs.declared.phase.Phase as indoor
use Rattle.indoor_state.specs.declared.phase.Phase.TheVariants as In
use Rattle.indoor_state.specs.declared.answer.Answer as indoorAnswer
use Rattle.indoor_state.specs.declared.answer.Answer.TheVariants as Ans
use Rattle.indoor_rules.specs.Newer.{newer_of}
use Rattle.indoor_rules.proofs.Compared.{Newer, newer_only, newer_yes}
use Rattle.indoor_rules.proofs.Orders as responses
use Rattle.indoor_rules.specs.Send.{block_bytes, sends_bytes}
use Rattle.indoor_state.specs.declared.session.Indoor.{Indoor}
use Rattle.indoor_rules.proofs.Fresh as indoorFresh
use Rattle.indoor_rules.proofs.Genuine.{whole_read, block_read}
use Rattle.indoor_rules.proofs.Holds.{Holds}
use Rattle.indoor_rules.proofs.Reached.{reach_holds}
use Rattle.line.specs.Line.{World, Line, line, GoodVerdict, Wide, Fresh, up, down, Clean, delivers, carried_up, carried_down}
use Rattle.line.specs.Line as clean
use Rattle.line.proofs.AnyLine.{Safe, reached_safe}
use Rattle.line.proofs.Clean.{clean_going}
use Rattle.line.proofs.Carried.{one, first_same, At, counted, call, heard, heard_lies, reply, answered, receiver_still, indoor_still}
use Rattle.line.proofs.Carried as carried
use Rattle.std.specs.Prelude.{Ok}

pub no_message : (l later : List (List ℕ)) (m : List ℕ) → l ≡ [] → l ≡ m ∷ later → ⊥
no_message l later m e h = let some = ap length (sym e ∙ h) in omega arith

-- Reserved bits, which a reader clears, do not change whether a file is newer.
pub newer_cleared : (release : Release) (identity : Identity) → Newer release identity → Newer release (cleared identity)
newer_cleared release identity h = record { vendor = h.vendor; product = h.product; later = h.later }

cleared_newer : (release : Release) (identity : Identity) → Newer release (cleared identity) → Newer release identity
cleared_newer release identity h = record { vendor = h.vendor; product = h.product; later = h.later }

module _ (file memory : List ℕ) (release : Release) (identity : Identity) where
  -- A newer file that fits.
  pub record Fits : Type 0 where
    pub newer : newer_of release identity ≡ true
    pub room : length file ≤ length memory

  abbrev says : Answer → List ℕ
  says a = carried.says file memory release identity a

  abbrev asks : indoorAnswer.Answer → List ℕ
  asks a = carried.asks file memory release identity a

  abbrev n : ℕ
  n = blocks_of (length file)

  block_one : (j : ℕ) → one (asks (Ans.Sending j)) ≡ asks (Ans.Sending j) ∷ []
  unfolding sends_bytes block_bytes request_bytes head_bytes
  block_one j = pick_no (eqb (length (asks (Ans.Sending j))) 0) _ _ (ne_eqb (length (asks (Ans.Sending j))) 0 (λ none. omega arith))

  block_sent_lem : (x : Line) (p : receiver.Phase) (g : indoor.Phase) (j count : ℕ) → At x p g (one (asks (Ans.Sending j))) [] (count + length (one (asks (Ans.Sending j))))
      → At x p g (asks (Ans.Sending j) ∷ []) [] (count + 1)
  block_sent_lem x p g j count h = subst (λ (l : List (List ℕ)). At x p g l [] (count + length l)) (block_one j) h

  -- The stations of a clean line, each with the number of deliveries that lead to it.
  pub data Course (k : ℕ) (x : Line) : Type 0 where
    asking : k ≡ 0 → x.world.image ≡ memory → At x Idle In.Identify (asks Ans.Identifying ∷ []) [] 1 → Course k x
    identified : k ≡ 1 → x.world.image ≡ memory → At x Idle In.Identify [] (says Identified ∷ []) 1 → Course k x
    not_newer : k ≡ 2 → newer_of release identity ≡ false → x.world.image ≡ memory → At x Idle (In.Failed Why.NotNewer) [] [] 1 → Course k x
    initiating : k ≡ 2 → newer_of release identity ≡ true → x.world.image ≡ memory → At x Idle (In.Initiate 0) (asks Ans.Initiating ∷ []) [] 2 → Course k x
    offered : k ≡ 3 → newer_of release identity ≡ true → x.world.image ≡ memory → At x (Transfer (receiver_progress nothing_accepted false)) (In.Initiate 0) [] (says (Offered 0) ∷ []) 2 → Course k x
    too_large : k ≡ 4 → newer_of release identity ≡ true → length memory < length file → x.world.image ≡ memory
        → At x (Transfer (receiver_progress nothing_accepted false)) (In.Failed Why.TooLarge) (asks (Ans.Failed Why.TooLarge) ∷ []) [] 3 → Course k x
    aborted : k ≡ 5 → newer_of release identity ≡ true → length memory < length file → x.world.image ≡ memory → At x Idle (In.Failed Why.TooLarge) [] [] 3 → Course k x
    block : (j : ℕ) (p : Progress) (q : sending.Progress) → k ≡ 4 + 2 * j → Fits
        → j ≤ n → p.accepted.blocks ≡ j → (j < n → p.short ≡ false) → (j ≡ n → q.emptied ≡ true)
        → At x (Transfer p) (In.Transfer q) (asks (Ans.Sending j) ∷ []) [] (3 + j) → Course k x
    receipt : (j : ℕ) (p : Progress) (q : sending.Progress) → k ≡ 5 + 2 * j → Fits
        → j < n → p.accepted.blocks ≡ j + 1 → (j + 1 < n → p.short ≡ false)
        → At x (Transfer p) (In.Transfer q) [] (says (Asking 0 (j + 1)) ∷ []) (3 + j) → Course k x
    closing : (a : Accepted) (q : sending.Progress) → k ≡ 5 + 2 * n → Fits → q.emptied ≡ true
        → At x (Await a) (In.Transfer q) [] (says (Closed n) ∷ []) (3 + n) → Course k x
    validating : (a : Accepted) → k ≡ 6 + 2 * n → Fits
        → At x (Await a) (In.Validate 0) (asks Ans.Validating ∷ []) [] (4 + n) → Course k x
    succeeded : (a : Accepted) → k ≡ 7 + 2 * n → Fits
        → At x (Good a) (In.Validate 0) [] (says Success ∷ []) (4 + n) → Course k x
    finished : (a : Accepted) → k ≡ 8 + 2 * n → Fits
        → At x (Good a) In.Done [] [] (4 + n) → Course k x

  module _ (wide : Wide release identity) (k : ℕ) (x : Line) (s : Safe file memory release identity x.world) (out : List ℕ) (room : longest ≤ length out) where
    held : Holds file release x.world.indoor x.world.requests
    held = reach_holds file release x.world.indoor x.world.requests wide.offered s.sent

    some : 0 < n
    unfolding blocks_of
    some = let h = held.some in omega arith

    few : n ≤ 4096
    unfolding blocks_of
    few = let h = held.most in omega arith

    module _ (request : List ℕ) (later : List (List ℕ)) (e : x.up ≡ request ∷ later) (verdict : Verdict) (fair : GoodVerdict request verdict) where
      abbrev next : Line
      next = carried_up x later (call file memory release identity x s out room verdict fair.in_range request)

      block_taken : (j : ℕ) (p : Progress) (q : sending.Progress) → k ≡ 4 + 2 * j → Fits
          → j < n → p.accepted.blocks ≡ j → p.short ≡ false
          → At x (Transfer p) (In.Transfer q) (asks (Ans.Sending j) ∷ []) [] (3 + j) → Course (suc k) next
      unfolding blocks_of sends_bytes reply_bytes reply_of replies.data_reply response_bytes receipt_bytes pick
      block_taken j p q c fit low due whole at =
          let fits = fit.room in
          let size : ℕ = length (block_at file j) in
          let long = block_length file j in
          let few = few in
          let some : size ≡ 0 → ⊥ = λ z. omega arith in
          let then : Step = record { phase = Transfer (receiver_progress (accepted_counts (j + 1) (256 * j + size)) (ltb size 256)); answer = Asking 0 (j + 1); store = Some j } in
          receipt j (receiver_progress (accepted_counts (j + 1) (256 * j + size)) (ltb size 256)) q (omega arith) fit low refl (λ more. le-ltb size 256 (omega arith))
          (heard file memory release identity x s out room verdict fair.in_range (asks (Ans.Sending j)) (Transfer p) (In.Transfer q) (Req.Data j size) then (3 + j) at
          (block_read release.versions file j (omega arith))
          (orders.takes p j size (length memory) 0 verdict (sym due) some whole (omega arith) (omega arith)) request later e)

      block_closed : (j : ℕ) (p : Progress) (q : sending.Progress) → k ≡ 4 + 2 * j → Fits
          → j ≡ n → p.accepted.blocks ≡ j → q.emptied ≡ true
          → At x (Transfer p) (In.Transfer q) (asks (Ans.Sending j) ∷ []) [] (3 + j) → Course (suc k) next
      unfolding sends_bytes reply_bytes reply_of replies.data_reply response_bytes receipt_bytes pick
      block_closed j p q c fit last due emptied at =
          let few = few in
          let some = some in
          let none : length (block_at file j) ≡ 0 = ap length (block_behind file j (omega arith)) in
          let blocks : p.accepted.blocks ≡ n = due ∙ last in
          let then : Step = goes_to (Await p.accepted) (Closed p.accepted.blocks) in
          let at' = heard file memory release identity x s out room verdict fair.in_range (asks (Ans.Sending j)) (Transfer p) (In.Transfer q) (Req.Data j (length (block_at file j))) then (3 + j) at
          (block_read release.versions file j (omega arith))
          (orders.closes p j (length (block_at file j)) (length memory) 0 verdict (sym due) none (λ z. omega arith)) request later e in
          closing p.accepted q (omega arith) fit emptied
          (subst (λ (m : ℕ). At next (Await p.accepted) (In.Transfer q) [] (says (Closed m) ∷ []) (3 + n)) blocks (counted at' (ap (λ (m : ℕ). 3 + m) last)))

      block_either : (j : ℕ) (p : Progress) (q : sending.Progress) → k ≡ 4 + 2 * j → Fits
          → (j ≡ n) ⊎ (j < n) → p.accepted.blocks ≡ j → (j < n → p.short ≡ false) → (j ≡ n → q.emptied ≡ true)
          → At x (Transfer p) (In.Transfer q) (asks (Ans.Sending j) ∷ []) [] (3 + j) → Course (suc k) next
      block_either j p q c fit (inr low) due whole emptied at = block_taken j p q c fit low due (whole low) at
      block_either j p q c fit (inl last) due whole emptied at = block_closed j p q c fit last due (emptied last) at

      -- The verdict is good where VALIDATE is heard.
      validated : (a : Accepted) → x.up ≡ asks Ans.Validating ∷ [] → receiver_decide_of (Await a) Req.Validate (length memory) 0 verdict ≡ goes_to (Good a) Success
      unfolding sends_bytes
      validated a rising =
          let same : request ≡ asks Ans.Validating = first_same request (asks Ans.Validating) later [] (sym e ∙ rising) in
          let good : verdict ≡ Ver.Good = fair.good (ap parsed_request_of same ∙ whole_read Req.Validate refl) in
          subst (λ (v : Verdict). receiver_decide_of (Await a) Req.Validate (length memory) 0 v ≡ goes_to (Good a) Success) (sym good) (rows.verdict_good (length memory) 0 a)

      moves_up : Course k x → Course (suc k) next
      unfolding sends_bytes request_bytes reply_bytes reply_of replies.get_fw_id_reply replies.initiate_reply replies.validate_reply response_bytes identified_bytes initiated_bytes validated_bytes pick
      moves_up (asking c lies at) =
          identified (omega arith) (heard_lies file memory release identity x s out room verdict fair.in_range (asks Ans.Identifying) Idle Req.GetFwId (goes_to Idle Identified) at.receiver at.rising (whole_read Req.GetFwId refl)
          (rows.identified_everywhere (length memory) Idle 0 verdict) refl lies request later e)
          (heard file memory release identity x s out room verdict fair.in_range (asks Ans.Identifying) Idle In.Identify Req.GetFwId (goes_to Idle Identified) 1 at (whole_read Req.GetFwId refl)
          (rows.identified_everywhere (length memory) Idle 0 verdict) request later e)
      moves_up (identified c lies at) = absurd (no_message x.up later request at.rising e)
      moves_up (not_newer c new lies at) = absurd (no_message x.up later request at.rising e)
      moves_up (initiating c new lies at) =
          offered (omega arith) new
          (heard_lies file memory release identity x s out room verdict fair.in_range (asks Ans.Initiating) Idle (Req.Initiate release.versions) (goes_to (Transfer (receiver_progress nothing_accepted false)) (Offered 0)) at.receiver at.rising
          (whole_read (Req.Initiate release.versions) (refl, wide.offered))
          (rows.idle_ready (length memory) release.versions verdict) refl lies request later e)
          (heard file memory release identity x s out room verdict fair.in_range (asks Ans.Initiating) Idle (In.Initiate 0) (Req.Initiate release.versions) (goes_to (Transfer (receiver_progress nothing_accepted false)) (Offered 0)) 2 at
          (whole_read (Req.Initiate release.versions) (refl, wide.offered))
          (rows.idle_ready (length memory) release.versions verdict) request later e)
      moves_up (offered c new lies at) = absurd (no_message x.up later request at.rising e)
      moves_up (too_large c new large lies at) =
          aborted (omega arith) new large
          (heard_lies file memory release identity x s out room verdict fair.in_range (asks (Ans.Failed Why.TooLarge)) (Transfer (receiver_progress nothing_accepted false)) Req.Abort (goes_to Idle Aborted) at.receiver at.rising
          (whole_read Req.Abort refl)
          (rows.transfer_aborted (length memory) 0 verdict (receiver_progress nothing_accepted false)) refl lies request later e)
          (heard file memory release identity x s out room verdict fair.in_range (asks (Ans.Failed Why.TooLarge)) (Transfer (receiver_progress nothing_accepted false)) (In.Failed Why.TooLarge) Req.Abort (goes_to Idle Aborted) 3 at
          (whole_read Req.Abort refl)
          (rows.transfer_aborted (length memory) 0 verdict (receiver_progress nothing_accepted false)) request later e)
      moves_up (aborted c new large lies at) = absurd (no_message x.up later request at.rising e)
      moves_up (block j p q c fit low due whole emptied at) = block_either j p q c fit (eq-or-lt_of_le low) due whole emptied at
      moves_up (receipt j p q c fit low due whole at) = absurd (no_message x.up later request at.rising e)
      moves_up (closing a q c fit emptied at) = absurd (no_message x.up later request at.rising e)
      moves_up (validating a c fit at) =
          succeeded a (omega arith) fit
          (heard file memory release identity x s out room verdict fair.in_range (asks Ans.Validating) (Await a) (In.Validate 0) Req.Validate (goes_to (Good a) Success) (4 + n) at
          (whole_read Req.Validate refl)
          (validated a at.rising) request later e)
      moves_up (succeeded a c fit at) = absurd (no_message x.up later request at.rising e)
      moves_up (finished a c fit at) = absurd (no_message x.up later request at.rising e)

    last_same : blocks_of x.world.indoor.plan.length ≡ n
    last_same = ap blocks_of held.lent

    module _ (response : List ℕ) (later : List (List ℕ)) (e : x.down ≡ response ∷ later) where
      abbrev then : Line
      then = carried_down x later (reply file memory release identity x s out room response)

      abbrev i : Indoor
      i = x.world.indoor

      identity_read : answer.parsed_response_of (says Identified) ≡ Ok (Res.GetFwId 0 (cleared identity))
      unfolding reply_bytes reply_of replies.get_fw_id_reply
      identity_read = response_back (Res.GetFwId 0 identity) (wide.vendor, wide.product, wide.reported)

      offer_read : answer.parsed_response_of (says (Offered 0)) ≡ Ok (Res.Initiate 0 0 (length memory))
      unfolding reply_bytes reply_of replies.initiate_reply
      offer_read =
          let most = reached_capacity s.accepted.reached in
          let capacity = s.capacity in
          response_back (Res.Initiate 0 0 (length memory)) (omega arith)

      receipt_read : (wait number : ℕ) → number < 65536 → answer.parsed_response_of (response_bytes (Res.Data 0 wait number)) ≡ Ok (Res.Data 0 wait number)
      receipt_read wait number h = response_back (Res.Data 0 wait number) h

      -- The file is newer or not.
      compared : (t : Bool) → newer_of release identity ≡ t → k ≡ 1 → x.world.image ≡ memory → At x Idle In.Identify [] (says Identified ∷ []) 1 → Course (suc k) then
      unfolding sends_bytes request_bytes initiate_bytes pick
      compared true new c lies at =
          initiating (omega arith) new lies
          (answered file memory release identity x s out room wide (says Identified) Idle In.Identify (In.Initiate 0) (Res.GetFwId 0 (cleared identity)) Ans.Initiating 1 at identity_read
          (responses.identified i.plan i.state.silence i.state.resends (cleared identity)
          (subst (λ (r : Release). Newer r (cleared identity)) (sym held.offered) (newer_cleared release identity (newer_only release identity new)))) response later e)
      compared false old c lies at =
          not_newer (omega arith) old lies
          (answered file memory release identity x s out room wide (says Identified) Idle In.Identify (In.Failed Why.NotNewer) (Res.GetFwId 0 (cleared identity)) (Ans.Failed Why.NotNewer) 1 at identity_read
          (responses.identify_42 i.plan i.state.silence i.state.resends (cleared identity)
          (λ h. true≢false (sym (newer_yes release identity (cleared_newer release identity (subst (λ (r : Release). Newer r (cleared identity)) held.offered h))) ∙ old))) response later e)

      -- It fits or not.
      sized : (t : Bool) → ltb (length memory) (length file) ≡ t → k ≡ 3 → newer_of release identity ≡ true → x.world.image ≡ memory
          → At x (Transfer (receiver_progress nothing_accepted false)) (In.Initiate 0) [] (says (Offered 0) ∷ []) 2 → Course (suc k) then
      unfolding sends_bytes request_bytes bare_bytes block_bytes head_bytes pick
      sized true large c new lies at =
          let same = held.lent in
          let more = ltb-true (length memory) (length file) large in
          too_large (omega arith) new (ltb-true (length memory) (length file) large) lies
          (answered file memory release identity x s out room wide (says (Offered 0)) (Transfer (receiver_progress nothing_accepted false)) (In.Initiate 0) (In.Failed Why.TooLarge) (Res.Initiate 0 0 (length memory)) (Ans.Failed Why.TooLarge) 2 at offer_read
          (responses.initiate_43 i.plan i.state.silence i.state.resends 0 (length memory) (omega arith)) response later e)
      sized false t c new lies at =
          let some = some in
          let same = held.lent in
          let last = last_same in
          let most = ltb-false (length memory) (length file) t in
          block 0 (receiver_progress nothing_accepted false) (sent 0 0 false) (omega arith) (record { newer = new; room = most }) (omega arith) refl (λ _. refl) (λ none. absurd (omega arith))
          (block_sent_lem then (Transfer (receiver_progress nothing_accepted false)) (In.Transfer (sent 0 0 false)) 0 2
          (answered file memory release identity x s out room wide (says (Offered 0)) (Transfer (receiver_progress nothing_accepted false)) (In.Initiate 0) (In.Transfer (sent 0 0 false)) (Res.Initiate 0 0 (length memory)) (Ans.Sending 0) 2 at offer_read
          (responses.initiated i.plan i.state.silence i.state.resends 0 (length memory) (omega arith) (omega arith)) response later e))

      next_block : (j : ℕ) (p : Progress) (q : sending.Progress) → k ≡ 5 + 2 * j → Fits
          → j < n → p.accepted.blocks ≡ j + 1 → (j + 1 < n → p.short ≡ false)
          → At x (Transfer p) (In.Transfer q) [] (says (Asking 0 (j + 1)) ∷ []) (3 + j) → Course (suc k) then
      unfolding reply_bytes reply_of replies.data_reply
      next_block j p q c fit low due whole at =
          let few = few in
          let last = last_same in
          let q' : sending.Progress = sent (j + 1) 0 (emptied_by i.plan (j + 1) q.emptied) in
          block (j + 1) p q' (omega arith) fit (omega arith) due whole (λ h. emptied_last i.plan (j + 1) q.emptied (h ∙ sym last))
          (counted
          (block_sent_lem then (Transfer p) (In.Transfer q') (j + 1) (3 + j)
          (answered file memory release identity x s out room wide (says (Asking 0 (j + 1))) (Transfer p) (In.Transfer q) (In.Transfer q') (Res.Data 0 0 (j + 1)) (Ans.Sending (j + 1)) (3 + j) at
          (receipt_read 0 (j + 1) (omega arith))
          (responses.asked_sends i.plan i.state.silence i.state.resends q.asked q.wait q.emptied (j + 1) (omega arith)) response later e))
          (omega arith))

      close : (a : Accepted) (q : sending.Progress) → k ≡ 5 + 2 * n → Fits → q.emptied ≡ true
          → At x (Await a) (In.Transfer q) [] (says (Closed n) ∷ []) (3 + n) → Course (suc k) then
      unfolding sends_bytes request_bytes bare_bytes reply_bytes reply_of replies.data_reply pick
      close a q c fit emptied at =
          let few = few in
          validating a (omega arith) fit
          (counted
          (answered file memory release identity x s out room wide (says (Closed n)) (Await a) (In.Transfer q) (In.Validate 0) (Res.Data 0 255 n) Ans.Validating (3 + n) at
          (receipt_read 255 n (omega arith))
          (responses.closed i.plan i.state.silence i.state.resends q.asked q.wait q.emptied n emptied (sym last_same)) response later e)
          (omega arith))

      moves_down : Course k x → Course (suc k) then
      unfolding sends_bytes reply_bytes reply_of replies.validate_reply pick
      moves_down (asking c lies at) = absurd (no_message x.down later response at.falling e)
      moves_down (identified c lies at) = compared (newer_of release identity) refl c lies at
      moves_down (not_newer c new lies at) = absurd (no_message x.down later response at.falling e)
      moves_down (initiating c new lies at) = absurd (no_message x.down later response at.falling e)
      moves_down (offered c new lies at) = sized (ltb (length memory) (length file)) refl c new lies at
      moves_down (too_large c new large lies at) = absurd (no_message x.down later response at.falling e)
      moves_down (aborted c new large lies at) = absurd (no_message x.down later response at.falling e)
      moves_down (block j p q c fit low due whole emptied at) = absurd (no_message x.down later response at.falling e)
      moves_down (receipt j p q c fit low due whole at) = next_block j p q c fit low due whole at
      moves_down (closing a q c fit emptied at) = close a q c fit emptied at
      moves_down (validating a c fit at) = absurd (no_message x.down later response at.falling e)
      moves_down (succeeded a c fit at) =
          finished a (omega arith) fit
          (counted
          (answered file memory release identity x s out room wide (says Success) (Good a) (In.Validate 0) In.Done (Res.Validate 0 0 true) Ans.Finished (4 + n) at
          (response_back (Res.Validate 0 0 true) tt)
          (responses.validated i.plan i.state.silence i.state.resends 0) response later e)
          (omega arith))
      moves_down (finished a c fit at) = absurd (no_message x.down later response at.falling e)

  module _ (wide : Wide release identity) where
    begun : (limit resends limit' resends' : ℕ) (w : World) → Fresh file memory release identity limit resends limit' resends' w → Course 0 (line w w.requests [])
    unfolding sends_bytes request_bytes bare_bytes
    begun limit resends limit' resends' w f =
        let r = receiverFresh.start_fresh limit resends identity (length memory) w.receiver f.receiver in
        let i = indoorFresh.start_fresh release file f.out limit' resends' w.indoor f.written f.out' f.indoor in
        asking refl f.image
        (record {
          receiver = r.idle;
          indoor = i.identify;
          rising = f.requests ∙ ap (λ (m : List ℕ). m ∷ []) i.written;
          falling = refl;
          sent = ap length f.requests;
        })

    pub safe : {k : ℕ} {x : Line} → Clean file memory release identity k x → Safe file memory release identity x.world
    safe c = reached_safe file memory release identity wide (clean_going file memory release identity c).reached

    -- Every clean line is at the station of its deliveries.
    pub on_course : {k : ℕ} {x : Line} → Clean file memory release identity k x → Course k x
    on_course (clean.begins limit resends limit' resends' w f) = begun limit resends limit' resends' w f
    on_course (delivers {k = k} {l = x} c _ (up request later e verdict fair out room)) = moves_up wide k x (safe c) out room request later e verdict fair (on_course c)
    on_course (delivers {k = k} {l = x} c _ (down response later e out room)) = moves_down wide k x (safe c) out room response later e (on_course c)
    on_course (clean.at_receiver {k = k} {l = x} c out room) = subst (Course k) (sym (receiver_still file memory release identity x (safe c) out)) (on_course c)
    on_course (clean.at_indoor {k = k} {l = x} c out room) = subst (Course k) (sym (indoor_still file memory release identity x (safe c) out)) (on_course c)
