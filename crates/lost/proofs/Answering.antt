-- A response arrives: from one station to the next.
use Prim.Native.Nat.{ℕ, ◌+◌, ◌≤◌, ◌<◌}
use mathlib.Core.Bool.{Bool, true, false}
use mathlib.Core.Path.{◌≡◌, refl, ◌∙◌, ap}
use mathlib.Core.List.{List, [], ◌∷◌, ◌++◌}
use native.Mathlib.Omega.{arith}
use lib.ListN.{length}
use Rattle.wire.specs.Codes.{longest}
use Rattle.wire.specs.Response as answer
use Rattle.wire.specs.Identity.{cleared}
use Rattle.wire.specs.declared.response.Response.{Response}
use Rattle.wire.specs.declared.response.Response.TheVariants as Res
use Rattle.receiver_state.specs.declared.answer.Answer.{Answer}
use Rattle.receiver_state.specs.declared.answer.Answer.TheVariants.{Offered, Success}
use Rattle.receiver_state.specs.declared.phase.Accepted.{Accepted}
use Rattle.receiver_state.specs.declared.phase.Phase as receiver
use Rattle.receiver_state.specs.declared.phase.Phase.TheVariants.{Idle, Transfer, Await, Good}
use Rattle.receiver_state.specs.declared.session.Receiver.{Receiver}
use Rattle.indoor_state.specs.Phase.{indoor_state, indoor_progress as sending}
use Rattle.indoor_state.specs.Step.{indoor_step}
use Rattle.indoor_state.specs.declared.phase.Phase as indoor
use Rattle.indoor_state.specs.declared.phase.Phase.TheVariants as In
use Rattle.indoor_state.specs.declared.answer.Answer as indoorAnswer
use Rattle.indoor_state.specs.declared.answer.Answer.TheVariants as Ans
use Rattle.indoor_rules.specs.Step.{emptied_by}
use Rattle.indoor_rules.specs.Decide.{indoor_decide_of, indoor_decide_in, indoor_initiate_of, indoor_validate_of}
use Rattle.indoor_rules.specs.Response.{indoor_response_of}
use Rattle.indoor_rules.proofs.Accepted.{emptied_last}
use Rattle.indoor_rules.proofs.Compared.{Newer, newer_only}
use Rattle.indoor_rules.proofs.Orders as responses
use Rattle.line.proofs.Course.{newer_cleared}
use Rattle.lost.specs.Lost.{Going, going, Timed, arrived_down}
use Rattle.lost.proofs.Carried.{with, Given, plan, roof, indoors, says, asks, At, answered}
use Rattle.lost.proofs.Times.{times, times_none, times_next, times_most}
use Rattle.lost.proofs.Messages as messages
use Rattle.lost.proofs.Messages.{Late}
use Rattle.lost.proofs.Arriving.{no_message, Fits, fresh}
use Rattle.lost.proofs.Stations.{n, trips, begun, Cost, Opens, idle, Owes, next, close, Answers, awaits, Station, identifying, identified, unidentified, initiating, offered, unoffered, block, receipt, unreceived, validating, succeeded, unvalidated, finished}
use Rattle.std.specs.Prelude.{Ok}

-- Of a list that begins with a message.
no_first : {A : Type 0} (g : Going) (on : List Going) → g ∷ on ≡ [] → A
no_first g on e = no_message (g ∷ on) on g e refl

module _ (x : Given) (ms : ℕ) (l : Timed) where
  module _ (fits : Fits x) (out : List ℕ) (room : longest ≤ length out) (response : List ℕ) (age : ℕ) (later : List Going) (e : l.down ≡ going response age ∷ later) where
    abbrev after : Timed
    after = arrived_down l later (indoor_response_of l.world.indoor x.file response out)

    hears : {r : Receiver} {g g' : indoor.Phase} {t sent t' sent' : ℕ} {m : List ℕ} {a : ℕ} {up down up' : List Going} {q : Response} {b : indoorAnswer.Answer}
        → At x l r (indoors x g t sent) up (going m a ∷ down)
        → answer.parsed_response_of m ≡ Ok q → indoor_decide_of (plan x) (indoor_state g t sent) q ≡ indoor_step (indoor_state g' t' sent') b → with up (asks x b) ≡ up'
        → At x after r (indoors x g' t' sent') up' down
    hears at parsed decided rises =
        let heard = answered x l out room _ _ _ _ _ _ _ _ _ _ _ at _ _ parsed decided response age later e in
        record { receiver = heard.receiver; indoor = heard.indoor; rising = heard.rising ∙ rises; falling = heard.falling }

    -- A DATA response is passed over in Initiate and in Validate.
    over_initiate : (t sent wait number : ℕ) → indoor_decide_of (plan x) (indoor_state (In.Initiate 0) t sent) (Res.Data 0 wait number) ≡ indoor_step (indoor_state (In.Initiate 0) t sent) Ans.Unexpected
    unfolding indoor_decide_in indoor_initiate_of
    over_initiate t sent wait number = refl

    over_validate : (t sent wait number : ℕ) → indoor_decide_of (plan x) (indoor_state (In.Validate 0) t sent) (Res.Data 0 wait number) ≡ indoor_step (indoor_state (In.Validate 0) t sent) Ans.Unexpected
    unfolding indoor_decide_in indoor_validate_of
    over_validate t sent wait number = refl

    newer : Newer x.release (cleared x.identity)
    newer = newer_cleared x.release x.identity (newer_only x.release x.identity fits.newer)

    first_trip : trips x 1 ≡ x.up + x.down
    first_trip =
        let one = times_next 0 1 (x.up + x.down) refl in
        let none = times_none (x.up + x.down) in
        omega arith

    offer_falls : (t sent a cost : ℕ) (late : List Going)
        → At x l (roof x (Transfer (begun x)) a 0) (indoors x (In.Initiate 0) t sent) [] (late ++ going (says x (Offered 0)) a ∷ []) → Late late → (l.lost ≡ false → late ≡ [])
        → a ≤ x.down → t ≤ x.up + a → ms ≤ trips x 1 + cost + t → Cost x l.lost sent cost → Station x ms after
    offer_falls t sent a cost [] at slow clean young since clock c =
        let some = fits.some in
        let fit = fits.room in
        let trip = times_next 1 (0 + 2) (x.up + x.down) refl in
        block 0 a 0 0 0 cost (begun x) false
        (hears at (messages.offer_read x fits.most) (responses.initiated (plan x) t sent 0 _ fit some) (messages.block_on x [] 0))
        refl (omega arith) (λ _. refl) (λ none. absurd (omega arith)) (omega arith) (omega arith) (omega arith) (fresh x l.lost sent cost c)
    offer_falls t sent a cost (g ∷ late) at slow clean young since clock c =
        offered t sent a cost late (hears at slow.0.parsed (over_initiate t sent slow.0.wait slow.0.number) (messages.over_on x []))
        slow.1 (λ f. no_first g late (clean f)) young since clock c

    initiate_falls : (p : receiver.Phase) (s made a sent cost : ℕ) (late : List Going) → Opens x p
        → At x l (roof x p s made) (indoors x (In.Initiate 0) a sent) (going (asks x Ans.Initiating) a ∷ []) late → Late late
        → (l.lost ≡ false → (late ≡ []) × (p ≡ Idle)) → a ≤ x.up → ms ≤ trips x 1 + cost + a → Cost x l.lost sent cost → Station x ms after
    initiate_falls p s made a sent cost [] opens at slow clean young clock c = no_message l.down later _ at.falling e
    initiate_falls p s made a sent cost (g ∷ late) opens at slow clean young clock c =
        initiating p s made a sent cost late opens (hears at slow.0.parsed (over_initiate a sent slow.0.wait slow.0.number) (messages.over_on x _))
        slow.1 (λ f. no_first g late (clean f).0) young clock c

    unoffered_falls : (p : receiver.Phase) (s made t : ℕ) (late : List Going) → Opens x p → At x l (roof x p s made) (indoors x (In.Initiate 0) t 0) [] late → Late late
        → t < x.indoor.limit → ms ≤ trips x 1 + t → l.lost ≡ true → Station x ms after
    unoffered_falls p s made t [] opens at slow low clock lost = no_message l.down later _ at.falling e
    unoffered_falls p s made t (g ∷ late) opens at slow low clock lost =
        unoffered p s made t late opens (hears at slow.0.parsed (over_initiate t 0 slow.0.wait slow.0.number) (messages.over_on x [])) slow.1 low clock lost

    receipt_falls : (p : receiver.Phase) (due : Answer) (k made t a asked cost : ℕ) (emptied : Bool) → Owes x p emptied due k
        → At x l (roof x p a made) (indoors x (In.Transfer (sending asked 0 emptied)) t 0) [] (going (says x due) a ∷ [])
        → a ≤ x.down → ms + x.down ≤ trips x k + cost + a → Cost x l.lost made cost → x.outdoor.limit ≤ x.indoor.limit → Station x ms after
    receipt_falls _ _ _ made t a asked cost _ (next p emptied k due most whole) at young clock c _ =
        let few = fits.few in
        block k a made 0 k cost p (emptied_by (plan x) k emptied)
        (hears at (messages.asking_read x k (omega arith)) (responses.asked_sends (plan x) t 0 asked 0 emptied k most) (messages.block_on x [] k))
        due most whole (λ h. emptied_last (plan x) k emptied h) (omega arith) (omega arith) (omega arith) c
    receipt_falls _ _ _ made t a asked cost _ (close accepted blocks) at young clock c within =
        let few = fits.few in
        let one = times_next 0 1 x.outdoor.limit refl in
        let none = times_none x.outdoor.limit in
        let most = times_most made 1 x.outdoor.limit c.once in
        validating (Await accepted) a made 0 0 cost [] (awaits accepted a made (x.indoor.limit + x.down + 0) blocks (omega arith))
        (hears at (messages.closed_read x (n x) (omega arith)) (responses.closed (plan x) t 0 asked 0 true (n x) refl refl) (messages.validating_on x []))
        tt (λ f. (refl, awaits accepted a made (x.down + 0) blocks (let zero = ap (λ (k : ℕ). times k x.outdoor.limit) (c.none f).0 in omega arith)))
        (omega arith) (omega arith) (fresh x l.lost made cost c)

    validate_falls : (p : receiver.Phase) (s made a sent cost : ℕ) (late : List Going) → Answers x p s made (x.indoor.limit + x.down + a)
        → At x l (roof x p s made) (indoors x (In.Validate 0) a sent) (going (asks x Ans.Validating) a ∷ []) late → Late late
        → (l.lost ≡ false → (late ≡ []) × Answers x p s made (x.down + a)) → a ≤ x.up → ms ≤ trips x (n x + 3) + cost + a → Cost x l.lost sent cost → Station x ms after
    validate_falls p s made a sent cost [] answers at slow clean young clock c = no_message l.down later _ at.falling e
    validate_falls p s made a sent cost (g ∷ late) answers at slow clean young clock c =
        validating p s made a sent cost late answers (hears at slow.0.parsed (over_validate a sent slow.0.wait slow.0.number) (messages.over_on x _))
        slow.1 (λ f. no_first g late (clean f).0) young clock c

    success_falls : (accepted : Accepted) (s made t sent a cost : ℕ) (late : List Going)
        → At x l (roof x (Good accepted) s made) (indoors x (In.Validate 0) t sent) [] (late ++ going (says x Success) a ∷ []) → Late late → (l.lost ≡ false → late ≡ [])
        → a ≤ x.down → t ≤ x.up + a → ms ≤ trips x (n x + 3) + cost + t → Cost x l.lost sent cost → Station x ms after
    success_falls accepted s made t sent a cost [] at slow clean young since clock c =
        finished accepted s made 0 0 (hears at (messages.success_read x) (responses.validated (plan x) t sent 0) (messages.finished_on x []))
    success_falls accepted s made t sent a cost (g ∷ late) at slow clean young since clock c =
        succeeded accepted s made t sent a cost late (hears at slow.0.parsed (over_validate t sent slow.0.wait slow.0.number) (messages.over_on x []))
        slow.1 (λ f. no_first g late (clean f)) young since clock c

    unvalidated_falls : (p : receiver.Phase) (s made t : ℕ) (late : List Going) → Answers x p s made (x.down + t) → At x l (roof x p s made) (indoors x (In.Validate 0) t 0) [] late → Late late
        → t < x.indoor.limit → ms ≤ trips x (n x + 3) + t → l.lost ≡ true → Station x ms after
    unvalidated_falls p s made t [] answers at slow low clock lost = no_message l.down later _ at.falling e
    unvalidated_falls p s made t (g ∷ late) answers at slow low clock lost =
        unvalidated p s made t late answers (hears at slow.0.parsed (over_validate t 0 slow.0.wait slow.0.number) (messages.over_on x [])) slow.1 low clock lost

    pub falls_on : x.outdoor.limit ≤ x.indoor.limit → Station x ms l → Station x ms after
    falls_on within (identifying s made a sent cost at young clock c) = no_message l.down later _ at.falling e
    falls_on within (identified s made t sent a cost at young since clock c) =
        let trip = first_trip in
        initiating Idle s made 0 0 cost [] idle (hears at (messages.identity_read x fits.wide) (responses.identified (plan x) t sent _ newer) (messages.initiating_on x []))
        tt (λ _. (refl, refl)) (omega arith) (omega arith) (fresh x l.lost sent cost c)
    falls_on within (unidentified s made t at low clock lost) = no_message l.down later _ at.falling e
    falls_on within (initiating p s made a sent cost late opens at slow clean young clock c) = initiate_falls p s made a sent cost late opens at slow clean young clock c
    falls_on within (offered t sent a cost late at slow clean young since clock c) = offer_falls t sent a cost late at slow clean young since clock c
    falls_on within (unoffered p s made t late opens at slow low clock lost) = unoffered_falls p s made t late opens at slow low clock lost
    falls_on within (block j s made a asked cost p emptied at due most whole last young since clock c) = no_message l.down later _ at.falling e
    falls_on within (receipt p due k made t a asked cost emptied owes at young since clean clock c) = receipt_falls p due k made t a asked cost emptied owes at young clock c within
    falls_on within (unreceived p due k s t asked emptied owes at low since clock lost) = no_message l.down later _ at.falling e
    falls_on within (validating p s made a sent cost late answers at slow clean young clock c) = validate_falls p s made a sent cost late answers at slow clean young clock c
    falls_on within (succeeded accepted s made t sent a cost late at slow clean young since clock c) = success_falls accepted s made t sent a cost late at slow clean young since clock c
    falls_on within (unvalidated p s made t late answers at slow low clock lost) = unvalidated_falls p s made t late answers at slow low clock lost
    falls_on within (finished accepted s made t sent at) = no_message l.down later _ at.falling e
