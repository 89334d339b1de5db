-- A request arrives: from one station to the next.
use Prim.Native.Nat.{ℕ, ◌+◌, ◌*◌, ◌≤◌, ◌<◌}
use mathlib.Core.Bool.{Bool, true, false}
use mathlib.Core.Logic.{◌⊎◌, inl, inr}
use mathlib.Core.Path.{◌≡◌, refl, sym, ◌∙◌, ap, subst}
use mathlib.Core.List.{List, [], ◌∷◌}
use native.Mathlib.Omega.{arith}
use borrow.Author.Tests.{le-ltb}
use lib.Dec.{ltb}
use lib.ListN.{length}
use Rattle.std.proofs.lemmas.Bool.{cases_lt}
use Rattle.image.specs.Blocks.{blocks_of, block_at}
use Rattle.image.proofs.Laws.{block_length, block_behind}
use Rattle.wire.specs.Codes.{longest}
use Rattle.wire.specs.Request as message
use Rattle.wire.specs.declared.request.Request.{Request}
use Rattle.wire.specs.declared.request.Request.TheVariants as Req
use Rattle.receiver_state.specs.Phase.{accepted_counts}
use Rattle.receiver_state.specs.declared.answer.Answer.TheVariants.{Offered, Asking, Closed}
use Rattle.receiver_state.specs.declared.phase.Progress.{Progress}
use Rattle.receiver_state.specs.declared.phase.Phase as receiver
use Rattle.receiver_state.specs.declared.phase.Phase.TheVariants.{Idle, Transfer, Await}
use Rattle.receiver_state.specs.declared.verdict.Verdict.TheVariants as Ver
use Rattle.receiver_state.specs.declared.step.Step.{Step}
use Rattle.receiver_rules.specs.Decide.{goes_to, receiver_progress, receiver_decide_of}
use Rattle.receiver_rules.specs.Request.{receiver_request_of}
use Rattle.receiver_rules.proofs.ByPhase as rows
use Rattle.receiver_rules.proofs.DataOrders as orders
use Rattle.indoor_state.specs.Phase.{indoor_progress as sending}
use Rattle.indoor_state.specs.declared.phase.Phase.TheVariants as In
use Rattle.indoor_state.specs.declared.answer.Answer.TheVariants as Ans
use Rattle.indoor_state.specs.declared.session.Indoor.{Indoor}
use Rattle.indoor_rules.specs.Newer.{newer_of}
use Rattle.indoor_rules.specs.Send.{sends_bytes}
use Rattle.indoor_rules.proofs.Genuine.{whole_read, block_read}
use Rattle.line.specs.Line.{Wide}
use Rattle.lost.specs.Lost.{Going, going, Timed, arrived_up}
use Rattle.lost.proofs.Carried.{with, Given, roof, indoors, says, asks, At, heard}
use Rattle.lost.proofs.Times.{times_next}
use Rattle.lost.proofs.Messages as messages
use Rattle.lost.proofs.Messages.{Late}
use Rattle.lost.proofs.Stations.{n, trips, begun, Cost, Opens, idle, begins, Owes, next, close, Answers, awaits, good, Station, identifying, identified, unidentified, initiating, offered, unoffered, block, receipt, unreceived, validating, succeeded, unvalidated, finished}
use Rattle.std.specs.Prelude.{Ok}

pub no_message : {A : Type 0} (l later : List Going) (g : Going) → l ≡ [] → l ≡ g ∷ later → A
no_message l later g e h = let some = ap length (sym e ∙ h) in absurd (omega arith)

-- A newer file that fits, within the limits of every session.
pub record Fits (x : Given) : Type 0 where
  pub wide : Wide x.release x.identity
  pub newer : newer_of x.release x.identity ≡ true
  pub room : length x.file ≤ length x.memory
  pub most : length x.memory ≤ 1048575
  pub some : 0 < n x
  pub few : n x ≤ 4096

-- The same cost, with no resend made since.
pub fresh : (x : Given) (lost : Bool) (made cost : ℕ) → Cost x lost made cost → Cost x lost 0 cost
fresh x lost made cost c = record { most = c.most; once = omega arith; none = λ f. (refl, (c.none f).1) }

module _ (x : Given) (fits : Fits x) (ms : ℕ) (l : Timed) (size : length l.world.image ≡ length x.memory) (out : List ℕ) (room : longest ≤ length out) where
  module _ (request : List ℕ) (age : ℕ) (later : List Going) (e : l.up ≡ going request age ∷ later) where
    abbrev after : Timed
    after = arrived_up l later (receiver_request_of l.world.receiver l.world.image request 0 Ver.Good out)

    hears : {p : receiver.Phase} {s made : ℕ} {i : Indoor} {m : List ℕ} {a : ℕ} {up down down' : List Going} {q : Request} {then : Step}
        → At x l (roof x p s made) i (going m a ∷ up) down
        → message.parsed_request_of m ≡ Ok q → receiver_decide_of p q (length x.memory) 0 Ver.Good ≡ then → with down (says x then.answer) ≡ down'
        → At x after (roof x then.phase 0 0) i up down'
    hears at parsed decided falls =
        let heard = heard x l out room size _ _ _ _ _ _ _ _ at _ _ parsed decided request age later e in
        record { receiver = heard.receiver; indoor = heard.indoor; rising = heard.rising; falling = heard.falling ∙ falls }

    block_taken : (j s made a asked cost : ℕ) (p : Progress) (emptied : Bool)
        → At x l (roof x (Transfer p) s made) (indoors x (In.Transfer (sending asked 0 emptied)) a 0) (going (asks x (Ans.Sending j)) a ∷ []) []
        → p.accepted.blocks ≡ j → j < n x → p.short ≡ false → a ≤ x.up → ms ≤ trips x (j + 2) + cost + a → Cost x l.lost made cost → Station x ms after
    unfolding blocks_of sends_bytes
    block_taken j s made a asked cost p emptied at due low whole young clock c =
        let fit = fits.room in
        let few = fits.few in
        let length = length (block_at x.file j) in
        let long = block_length x.file j in
        let trip = times_next (j + 2) (j + 1 + 2) (x.up + x.down) (omega arith) in
        let p' : Progress = receiver_progress (accepted_counts (j + 1) (256 * j + length)) (ltb length 256) in
        receipt (Transfer p') (Asking 0 (j + 1)) (j + 1 + 2) 0 a 0 asked cost emptied (next p' emptied (j + 1) refl (omega arith) (λ more. le-ltb length 256 (omega arith)))
        (hears at (block_read x.release.versions x.file j (omega arith))
        (orders.takes p j length _ 0 Ver.Good (sym due) (λ z. omega arith) whole (omega arith) (omega arith)) (messages.asking_on x [] (j + 1)))
        (omega arith) (omega arith) (λ _. omega arith) (omega arith) (fresh x l.lost made cost c)

    block_closed : (j s made a asked cost : ℕ) (p : Progress) (emptied : Bool)
        → At x l (roof x (Transfer p) s made) (indoors x (In.Transfer (sending asked 0 emptied)) a 0) (going (asks x (Ans.Sending j)) a ∷ []) []
        → p.accepted.blocks ≡ j → j ≡ n x → emptied ≡ true → a ≤ x.up → ms ≤ trips x (j + 2) + cost + a → Cost x l.lost made cost → Station x ms after
    unfolding sends_bytes
    block_closed j s made a asked cost p emptied at due last sent young clock c =
        let few = fits.few in
        let some = fits.some in
        let none : length (block_at x.file j) ≡ 0 = ap length (block_behind x.file j (omega arith)) in
        let blocks : p.accepted.blocks ≡ n x = due ∙ last in
        let trip = times_next (j + 2) (n x + 3) (x.up + x.down) (omega arith) in
        receipt (Await p.accepted) (Closed (n x)) (n x + 3) 0 a 0 asked cost emptied
        (subst (λ (b : Bool). Owes x (Await p.accepted) b (Closed (n x)) (n x + 3)) (sym sent) (close p.accepted blocks))
        (hears at (block_read x.release.versions x.file j (omega arith))
        (orders.closes p j (length (block_at x.file j)) _ 0 Ver.Good (sym due) none (λ z. omega arith))
        (messages.closed_on x [] p.accepted.blocks ∙ ap (λ (b : ℕ). going (says x (Closed b)) 0 ∷ []) blocks))
        (omega arith) (omega arith) (λ _. omega arith) (omega arith) (fresh x l.lost made cost c)

    block_either : (j s made a asked cost : ℕ) (p : Progress) (emptied : Bool)
        → At x l (roof x (Transfer p) s made) (indoors x (In.Transfer (sending asked 0 emptied)) a 0) (going (asks x (Ans.Sending j)) a ∷ []) []
        → p.accepted.blocks ≡ j → j ≤ n x → (j < n x → p.short ≡ false) → (j ≡ n x → emptied ≡ true) → a ≤ x.up → ms ≤ trips x (j + 2) + cost + a → Cost x l.lost made cost
        → (j < n x) ⊎ (n x ≤ j) → Station x ms after
    block_either j s made a asked cost p emptied at due most whole last young clock c (inl low) = block_taken j s made a asked cost p emptied at due low (whole low) young clock c
    block_either j s made a asked cost p emptied at due most whole last young clock c (inr high) =
        let same : j ≡ n x = omega arith in
        block_closed j s made a asked cost p emptied at due same (last same) young clock c

    opened : (p : receiver.Phase) → Opens x p → receiver_decide_of p (Req.Initiate x.release.versions) (length x.memory) 0 Ver.Good ≡ goes_to (Transfer (begun x)) (Offered 0)
    opened _ idle = rows.idle_ready (length x.memory) x.release.versions Ver.Good
    opened _ begins = rows.transfer_ready (length x.memory) x.release.versions Ver.Good (begun x) refl

    -- VALIDATE in Await and in Good.
    validated : (p : receiver.Phase) (s made a sent cost most : ℕ) (late : List Going) → Answers x p s made most
        → At x l (roof x p s made) (indoors x (In.Validate 0) a sent) (going (asks x Ans.Validating) a ∷ []) late → Late late → (l.lost ≡ false → late ≡ [])
        → a ≤ x.up → ms ≤ trips x (n x + 3) + cost + a → Cost x l.lost sent cost → Station x ms after
    unfolding sends_bytes
    validated _ s made a sent cost most late (awaits accepted _ _ _ _ _) at slow clean young clock c =
        succeeded accepted 0 0 a sent 0 cost late (hears at (whole_read Req.Validate refl) (rows.verdict_good _ 0 accepted) (messages.success_on x late)) slow clean (omega arith) (omega arith) (omega arith) c
    validated _ s made a sent cost most late (good accepted _ _ _) at slow clean young clock c =
        succeeded accepted 0 0 a sent 0 cost late (hears at (whole_read Req.Validate refl) (rows.success_again _ 0 accepted Ver.Good) (messages.success_on x late)) slow clean (omega arith) (omega arith) (omega arith) c

    pub rises_on : Station x ms l → Station x ms after
    unfolding sends_bytes
    rises_on (identifying s made a sent cost at young clock c) =
        identified 0 0 a sent 0 cost (hears at (whole_read Req.GetFwId refl) (rows.identified_everywhere _ Idle 0 Ver.Good) (messages.identified_on x [])) (omega arith) (omega arith) clock c
    rises_on (identified s made t sent a cost at young since clock c) = no_message l.up later _ at.rising e
    rises_on (unidentified s made t at low clock lost) = no_message l.up later _ at.rising e
    rises_on (initiating p s made a sent cost late opens at slow clean young clock c) =
        offered a sent 0 cost late (hears at (whole_read (Req.Initiate x.release.versions) (refl, fits.wide.offered)) (opened p opens) (messages.offered_on x late)) slow (λ f. (clean f).0)
        (omega arith) (omega arith) clock c
    rises_on (offered t sent a cost late at slow clean young since clock c) = no_message l.up later _ at.rising e
    rises_on (unoffered p s made t late opens at slow low clock lost) = no_message l.up later _ at.rising e
    rises_on (block j s made a asked cost p emptied at due most whole last young since clock c) = block_either j s made a asked cost p emptied at due most whole last young clock c (cases_lt j (n x))
    rises_on (receipt p due k made t a asked cost emptied owes at young since clean clock c) = no_message l.up later _ at.rising e
    rises_on (unreceived p due k s t asked emptied owes at low since clock lost) = no_message l.up later _ at.rising e
    rises_on (validating p s made a sent cost late answers at slow clean young clock c) = validated p s made a sent cost _ late answers at slow (λ f. (clean f).0) young clock c
    rises_on (succeeded accepted s made t sent a cost late at slow clean young since clock c) = no_message l.up later _ at.rising e
    rises_on (unvalidated p s made t late answers at slow low clock lost) = no_message l.up later _ at.rising e
    rises_on (finished accepted s made t sent at) = no_message l.up later _ at.rising e
