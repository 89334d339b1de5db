-- A millisecond passes at both ends: from one station to the next.
use Prim.Native.Nat.{ℕ, suc, ◌+◌, ◌≤◌, ◌<◌}
use mathlib.Core.Bool.{Bool, true, false}
use mathlib.Core.Logic.{◌⊎◌, inl, inr}
use mathlib.Core.Path.{◌≡◌, refl, ◌∙◌, ap, subst}
use mathlib.Core.List.{List, [], ◌∷◌, ◌++◌}
use native.Mathlib.Omega.{arith}
use lib.ListN.{length}
use Rattle.std.proofs.lemmas.Bool.{cases_lt}
use Rattle.wire.specs.Codes.{longest}
use Rattle.receiver_state.specs.declared.answer.Answer.{Answer}
use Rattle.receiver_state.specs.declared.answer.Answer.TheVariants.{Offered}
use Rattle.receiver_state.specs.declared.phase.Phase as receiver
use Rattle.receiver_state.specs.declared.phase.Phase.TheVariants.{Idle, Transfer}
use Rattle.receiver_rules.specs.Tick.{tick, receiver_tick_of}
use Rattle.receiver_rules.specs.Time.{receiver_time_of}
use Rattle.receiver_rules.proofs.Elapsed.{transfer_quiet, idle_still, good_still}
use Rattle.indoor_state.specs.Phase.{indoor_state, indoor_progress as sending}
use Rattle.indoor_state.specs.Step.{indoor_step}
use Rattle.indoor_state.specs.declared.phase.Phase as indoor
use Rattle.indoor_state.specs.declared.phase.Phase.TheVariants as In
use Rattle.indoor_state.specs.declared.answer.Answer as indoorAnswer
use Rattle.indoor_state.specs.declared.answer.Answer.TheVariants as Ans
use Rattle.indoor_rules.specs.Tick.{indoor_tick_of}
use Rattle.indoor_rules.specs.Time.{indoor_time_of}
use Rattle.indoor_rules.proofs.Elapsed.{quiet, resent, done_still}
use Rattle.indoor_rules.proofs.Elapsed as indoorElapsed
use Rattle.lost.specs.Lost.{Going, going, Timed, older, Younger, passed, Bounds}
use Rattle.lost.proofs.Carried.{with, Given, plan, roof, indoors, says, asks, At, ticked}
use Rattle.lost.proofs.Times.{times_whole, has_resend, older_last, last_younger}
use Rattle.lost.proofs.Messages as messages
use Rattle.lost.proofs.Messages.{Late, late_older}
use Rattle.lost.proofs.Ticks.{was_lost, opens_on, answers_on, owes_quiet, owes_again, owes_said}
use Rattle.lost.proofs.Stations.{n, trips, begun, Cost, Opens, Owes, Answers, Station, identifying, identified, unidentified, initiating, offered, unoffered, block, receipt, unreceived, validating, succeeded, unvalidated, finished}

module _ (x : Given) (bounds : Bounds x.outdoor.limit x.outdoor.resends x.indoor.limit x.indoor.resends x.up x.down) (few : n x ≤ 4096)
    (ms : ℕ) (l : Timed) (rising : Younger x.up l.up) (falling : Younger x.down l.down) (out out' : List ℕ) (room : longest ≤ length out) (room' : longest ≤ length out') where
  abbrev then : Timed
  then = passed l (receiver_time_of l.world.receiver 1 out) (indoor_time_of l.world.indoor x.file 1 out')

  ticks : {p p' : receiver.Phase} {s made s' made' : ℕ} {g g' : indoor.Phase} {t sent t' sent' : ℕ} {up down up' down' : List Going} {a : Answer} {b : indoorAnswer.Answer}
      → At x l (roof x p s made) (indoors x g t sent) up down
      → receiver_tick_of p s 1 made x.outdoor ≡ tick p' s' made' a → with (older down) (says x a) ≡ down'
      → indoor_tick_of (plan x) (indoor_state g t sent) 1 ≡ indoor_step (indoor_state g' t' sent') b → with (older up) (asks x b) ≡ up'
      → At x then (roof x p' s' made') (indoors x g' t' sent') up' down'
  ticks at roof falls indoors rises =
      let after = ticked x l out room out' room' _ _ _ _ _ _ _ _ _ _ _ _ _ _ at _ _ roof indoors in
      record { receiver = after.receiver; indoor = after.indoor; rising = after.rising ∙ rises; falling = after.falling ∙ falls }

  again : (lost : Bool) → lost ≡ true → Cost x lost 1 x.indoor.limit
  again lost e = record { most = omega arith; once = omega arith; none = was_lost lost e }

  alone_up : (m : List ℕ) (a : ℕ) → l.up ≡ going m a ∷ [] → a < x.up
  alone_up m a e = (subst (Younger x.up) e rising).0

  alone_down : (m : List ℕ) (a : ℕ) → l.down ≡ going m a ∷ [] → a < x.down
  alone_down m a e = (subst (Younger x.down) e falling).0

  -- GET_FW_ID
  identify_passes : (s made t : ℕ) → At x l (roof x Idle s made) (indoors x In.Identify t 0) [] [] → ms ≤ t → l.lost ≡ true
      → (t + 1 < x.indoor.limit) ⊎ (x.indoor.limit ≤ t + 1) → t < x.indoor.limit → Station x (suc ms) then
  identify_passes s made t at clock lost (inl low) _ =
      unidentified s made (t + 1)
      (ticks at (idle_still s 1 made x.outdoor) (messages.passed_on x []) (quiet (plan x) t 0 1 In.Identify Ans.Identifying refl low) (messages.quiet_on x []))
      low (omega arith) lost
  identify_passes s made t at clock lost (inr high) was =
      let left = bounds.again in
      identifying s made 0 1 x.indoor.limit
      (ticks at (idle_still s 1 made x.outdoor) (messages.passed_on x []) (resent (plan x) t 0 1 In.Identify Ans.Identifying refl high (omega arith)) (messages.identifying_on x []))
      (omega arith) (omega arith) (again l.lost lost)

  -- INITIATE
  initiate_passes : (p : receiver.Phase) (s made t : ℕ) (late : List Going) → Opens x p → At x l (roof x p s made) (indoors x (In.Initiate 0) t 0) [] late → Late late
      → ms ≤ trips x 1 + t → l.lost ≡ true → (t + 1 < x.indoor.limit) ⊎ (x.indoor.limit ≤ t + 1) → t < x.indoor.limit → Station x (suc ms) then
  initiate_passes p s made t late opens at slow clock lost (inl low) _ =
      let o = opens_on x p s made opens in
      unoffered o.after o.s' o.made' (t + 1) (with (older late) (says x o.said)) o.opens
      (ticks at o.ticks refl (quiet (plan x) t 0 1 (In.Initiate 0) Ans.Initiating (refl, refl) low) (messages.quiet_on x []))
      (o.late (older late) (late_older late slow)) low (omega arith) lost
  initiate_passes p s made t late opens at slow clock lost (inr high) was =
      let o = opens_on x p s made opens in
      let left = bounds.again in
      initiating o.after o.s' o.made' 0 1 x.indoor.limit (with (older late) (says x o.said)) o.opens
      (ticks at o.ticks refl (resent (plan x) t 0 1 (In.Initiate 0) Ans.Initiating (refl, refl) high (omega arith)) (messages.initiating_on x []))
      (o.late (older late) (late_older late slow)) (was_lost l.lost lost) (omega arith) (omega arith) (again l.lost lost)

  initiating_passes : (p : receiver.Phase) (s made a sent cost : ℕ) (late : List Going) → Opens x p
      → At x l (roof x p s made) (indoors x (In.Initiate 0) a sent) (going (asks x Ans.Initiating) a ∷ []) late → Late late
      → (l.lost ≡ false → (late ≡ []) × (p ≡ Idle))
      → ms ≤ trips x 1 + cost + a → Cost x l.lost sent cost → Station x (suc ms) then
  initiating_passes p s made a sent cost late opens at slow clean clock c =
      let o = opens_on x p s made opens in
      let young = alone_up _ a at.rising in
      let heals = bounds.heals in
      initiating o.after o.s' o.made' (a + 1) sent cost (with (older late) (says x o.said)) o.opens
      (ticks at o.ticks refl (quiet (plan x) a sent 1 (In.Initiate 0) Ans.Initiating (refl, refl) (omega arith)) (messages.quiet_on x _))
      (o.late (older late) (late_older late slow))
      (λ f. ((o.idle (clean f).1).1 (older late) ∙ ap older (clean f).0, (o.idle (clean f).1).0)) (omega arith) (omega arith) c

  offered_passes : (t sent a cost : ℕ) (late : List Going)
      → At x l (roof x (Transfer (begun x)) a 0) (indoors x (In.Initiate 0) t sent) [] (late ++ going (says x (Offered 0)) a ∷ []) → Late late → (l.lost ≡ false → late ≡ [])
      → t ≤ x.up + a → ms ≤ trips x 1 + cost + t → Cost x l.lost sent cost → Station x (suc ms) then
  offered_passes t sent a cost late at slow clean since clock c =
      let young = last_younger x.down late _ a (subst (Younger x.down) at.falling falling) in
      let heals = bounds.heals in
      let prompt = bounds.prompt in
      offered (t + 1) sent (a + 1) cost (older late)
      (ticks at (transfer_quiet a 1 0 x.outdoor (omega arith) (begun x)) (messages.passed_on x _ ∙ older_last late _ a) (quiet (plan x) t sent 1 (In.Initiate 0) Ans.Initiating (refl, refl) (omega arith)) (messages.quiet_on x []))
      (late_older late slow) (λ f. ap older (clean f)) (omega arith) (omega arith) (omega arith) c

  -- A block
  receive_passes : (p : receiver.Phase) (due : Answer) (k s t asked : ℕ) (emptied : Bool) → Owes x p emptied due k
      → At x l (roof x p s 0) (indoors x (In.Transfer (sending asked 0 emptied)) t 0) [] []
      → t ≤ s + x.up → ms ≤ trips x k + s + x.up → l.lost ≡ true → (s + 1 < x.outdoor.limit) ⊎ (x.outdoor.limit ≤ s + 1) → s < x.outdoor.limit → Station x (suc ms) then
  receive_passes p due k s t asked emptied owes at since clock lost (inl low) _ =
      let heals = bounds.heals in
      unreceived p due k (s + 1) (t + 1) asked emptied owes
      (ticks at (owes_quiet x s 0 p emptied due k owes low) (messages.passed_on x []) (indoorElapsed.transfer_quiet (plan x) t 0 1 asked emptied (omega arith)) (messages.quiet_on x []))
      low (omega arith) (omega arith) lost
  receive_passes p due k s t asked emptied owes at since clock lost (inr high) was =
      let heals = bounds.heals in
      let lasts = bounds.lasts in
      let whole = times_whole x.outdoor.limit x.outdoor.resends in
      receipt p due k 1 (t + 1) 0 asked x.indoor.limit emptied owes
      (ticks at (owes_again x s 0 p emptied due k owes high (has_resend x.outdoor.limit x.outdoor.resends (omega arith))) (owes_said x p emptied due k owes [])
      (indoorElapsed.transfer_quiet (plan x) t 0 1 asked emptied (omega arith)) (messages.quiet_on x []))
      (omega arith) (omega arith) (was_lost l.lost lost) (omega arith) (again l.lost lost)

  -- VALIDATE
  validate_passes : (p : receiver.Phase) (s made t : ℕ) (late : List Going) → Answers x p s made (x.down + t)
      → At x l (roof x p s made) (indoors x (In.Validate 0) t 0) [] late → Late late
      → ms ≤ trips x (n x + 3) + t → l.lost ≡ true → (t + 1 < x.indoor.limit) ⊎ (x.indoor.limit ≤ t + 1) → t < x.indoor.limit → Station x (suc ms) then
  validate_passes p s made t late answers at slow clock lost (inl low) _ =
      let lasts = bounds.lasts in
      let o = answers_on x few p s made (x.down + t) answers (omega arith) in
      unvalidated p o.s' o.made' (t + 1) (with (older late) (says x o.said)) (o.answers (x.down + t) (x.down + (t + 1)) (omega arith) answers)
      (ticks at o.ticks refl (quiet (plan x) t 0 1 (In.Validate 0) Ans.Validating (refl, refl) low) (messages.quiet_on x []))
      (o.late (older late) (late_older late slow)) low (omega arith) lost
  validate_passes p s made t late answers at slow clock lost (inr high) was =
      let lasts = bounds.lasts in
      let left = bounds.again in
      let o = answers_on x few p s made (x.down + t) answers (omega arith) in
      validating p o.s' o.made' 0 1 x.indoor.limit (with (older late) (says x o.said)) (o.answers (x.down + t) (x.indoor.limit + x.down + 0) (omega arith) answers)
      (ticks at o.ticks refl (resent (plan x) t 0 1 (In.Validate 0) Ans.Validating (refl, refl) high (omega arith)) (messages.validating_on x []))
      (o.late (older late) (late_older late slow)) (was_lost l.lost lost) (omega arith) (omega arith) (again l.lost lost)

  validating_passes : (p : receiver.Phase) (s made a sent cost : ℕ) (late : List Going) → Answers x p s made (x.indoor.limit + x.down + a)
      → At x l (roof x p s made) (indoors x (In.Validate 0) a sent) (going (asks x Ans.Validating) a ∷ []) late → Late late
      → (l.lost ≡ false → (late ≡ []) × Answers x p s made (x.down + a))
      → ms ≤ trips x (n x + 3) + cost + a → Cost x l.lost sent cost → Station x (suc ms) then
  validating_passes p s made a sent cost late answers at slow clean clock c =
      let young = alone_up _ a at.rising in
      let heals = bounds.heals in
      let lasts = bounds.lasts in
      let prompt = bounds.prompt in
      let o = answers_on x few p s made (x.indoor.limit + x.down + a) answers (omega arith) in
      validating p o.s' o.made' (a + 1) sent cost (with (older late) (says x o.said)) (o.answers (x.indoor.limit + x.down + a) (x.indoor.limit + x.down + (a + 1)) (omega arith) answers)
      (ticks at o.ticks refl (quiet (plan x) a sent 1 (In.Validate 0) Ans.Validating (refl, refl) (omega arith)) (messages.quiet_on x _))
      (o.late (older late) (late_older late slow))
      (λ f. (o.quiet (x.down + a) (clean f).1 (omega arith) (older late) ∙ ap older (clean f).0, o.answers (x.down + a) (x.down + (a + 1)) (omega arith) (clean f).1))
      (omega arith) (omega arith) c

  pub passes_on : Station x ms l → Station x (suc ms) then
  passes_on (identifying s made a sent cost at low clock c) =
      let young = alone_up _ a at.rising in
      let heals = bounds.heals in
      identifying s made (a + 1) sent cost
      (ticks at (idle_still s 1 made x.outdoor) (messages.passed_on x []) (quiet (plan x) a sent 1 In.Identify Ans.Identifying refl (omega arith)) (messages.quiet_on x _))
      (omega arith) (omega arith) c
  passes_on (identified s made t sent a cost at low since clock c) =
      let young = alone_down _ a at.falling in
      let heals = bounds.heals in
      identified s made (t + 1) sent (a + 1) cost
      (ticks at (idle_still s 1 made x.outdoor) (messages.passed_on x _) (quiet (plan x) t sent 1 In.Identify Ans.Identifying refl (omega arith)) (messages.quiet_on x []))
      (omega arith) (omega arith) (omega arith) c
  passes_on (unidentified s made t at low clock lost) = identify_passes s made t at clock lost (cases_lt (t + 1) x.indoor.limit) low
  passes_on (initiating p s made a sent cost late opens at slow clean low clock c) = initiating_passes p s made a sent cost late opens at slow clean clock c
  passes_on (offered t sent a cost late at slow clean low since clock c) = offered_passes t sent a cost late at slow clean since clock c
  passes_on (unoffered p s made t late opens at slow low clock lost) = initiate_passes p s made t late opens at slow clock lost (cases_lt (t + 1) x.indoor.limit) low
  passes_on (block j s made a asked cost p emptied at blocks most whole last low since clock c) =
      let young = alone_up _ a at.rising in
      let heals = bounds.heals in
      let prompt = bounds.prompt in
      block j (s + 1) made (a + 1) asked cost p emptied
      (ticks at (transfer_quiet s 1 made x.outdoor (omega arith) p) (messages.passed_on x []) (indoorElapsed.transfer_quiet (plan x) a 0 1 asked emptied (omega arith)) (messages.quiet_on x _))
      blocks most whole last (omega arith) (omega arith) (omega arith) c
  passes_on (receipt p due k made t a asked cost emptied owes at low since clean clock c) =
      let young = alone_down _ a at.falling in
      let heals = bounds.heals in
      let prompt = bounds.prompt in
      receipt p due k made (t + 1) (a + 1) asked cost emptied owes
      (ticks at (owes_quiet x a made p emptied due k owes (omega arith)) (messages.passed_on x _) (indoorElapsed.transfer_quiet (plan x) t 0 1 asked emptied (omega arith)) (messages.quiet_on x []))
      (omega arith) (omega arith) (λ f. let early = clean f in omega arith) (omega arith) c
  passes_on (unreceived p due k s t asked emptied owes at low since clock lost) = receive_passes p due k s t asked emptied owes at since clock lost (cases_lt (s + 1) x.outdoor.limit) low
  passes_on (validating p s made a sent cost late answers at slow clean low clock c) = validating_passes p s made a sent cost late answers at slow clean clock c
  passes_on (succeeded accepted s made t sent a cost late at slow clean low since clock c) =
      let young = last_younger x.down late _ a (subst (Younger x.down) at.falling falling) in
      let heals = bounds.heals in
      succeeded accepted s made (t + 1) sent (a + 1) cost (older late)
      (ticks at (good_still s 1 made x.outdoor accepted) (messages.passed_on x _ ∙ older_last late _ a) (quiet (plan x) t sent 1 (In.Validate 0) Ans.Validating (refl, refl) (omega arith)) (messages.quiet_on x []))
      (late_older late slow) (λ f. ap older (clean f)) (omega arith) (omega arith) (omega arith) c
  passes_on (unvalidated p s made t late answers at slow low clock lost) = validate_passes p s made t late answers at slow clock lost (cases_lt (t + 1) x.indoor.limit) low
  passes_on (finished accepted s made t sent at) =
      finished accepted s made t sent
      (ticks at (good_still s 1 made x.outdoor accepted) (messages.passed_on x []) (done_still (plan x) t sent 1) (messages.quiet_on x []))
