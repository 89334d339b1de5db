-- The stations of a line that loses one message: both ends, what is on its way, how long it has been, and how many ms have passed at most.
use Prim.Native.Nat.{ℕ, ◌+◌, ◌≤◌, ◌<◌}
use mathlib.Core.Bool.{Bool, true, false}
use mathlib.Core.Path.{◌≡◌}
use mathlib.Core.List.{List, [], ◌∷◌, ◌++◌}
use lib.ListN.{length}
use Rattle.image.specs.Blocks.{blocks_of}
use Rattle.receiver_state.specs.Phase.{nothing_accepted}
use Rattle.receiver_state.specs.declared.answer.Answer.{Answer}
use Rattle.receiver_state.specs.declared.answer.Answer.TheVariants.{Identified, Offered, Asking, Closed, Success}
use Rattle.receiver_state.specs.declared.phase.Accepted.{Accepted}
use Rattle.receiver_state.specs.declared.phase.Progress.{Progress}
use Rattle.receiver_state.specs.declared.phase.Phase as receiver
use Rattle.receiver_state.specs.declared.phase.Phase.TheVariants.{Idle, Transfer, Await, Good}
use Rattle.receiver_rules.specs.Decide.{receiver_progress}
use Rattle.indoor_state.specs.Phase.{indoor_progress as sending}
use Rattle.indoor_state.specs.declared.phase.Phase.TheVariants as In
use Rattle.indoor_state.specs.declared.answer.Answer.TheVariants as Ans
use Rattle.lost.specs.Lost.{Going, going, Timed}
use Rattle.lost.proofs.Carried.{Given, roof, indoors, says, asks, At}
use Rattle.lost.proofs.Times.{times}
use Rattle.lost.proofs.Messages.{Late}

module _ (x : Given) where
  abbrev pub n : ℕ
  n = blocks_of (length x.file)

  -- So many round trips.
  abbrev pub trips : ℕ → ℕ
  trips k = times k (x.up + x.down)

  abbrev pub begun : Progress
  begun = receiver_progress nothing_accepted false

  -- What a loss has cost so far, at most the indoor end's limit, and the resends made; before a loss there is neither.
  pub record Cost (lost : Bool) (made cost : ℕ) : Type 0 where
    pub most : cost ≤ x.indoor.limit
    pub once : made ≤ 1
    pub none : lost ≡ false → (made ≡ 0) × (cost ≡ 0)

  -- The receiver takes INITIATE.
  pub data Opens : receiver.Phase → Type 0 where
    idle : Opens Idle
    begins : Opens (Transfer begun)

  -- What the receiver is due to say in Transfer and Await, and the number of requests before the one that it brings.
  pub data Owes : receiver.Phase → Bool → Answer → ℕ → Type 0 where
    next : (p : Progress) (emptied : Bool) (k : ℕ) → p.accepted.blocks ≡ k → k ≤ n → (k < n → p.short ≡ false) → Owes (Transfer p) emptied (Asking 0 k) (k + 2)
    close : (a : Accepted) → a.blocks ≡ n → Owes (Await a) true (Closed n) (n + 3)

  -- The receiver answers VALIDATE with success: it is in Good, or in Await, where no more than `most` ms have passed since the last request.
  pub data Answers : receiver.Phase → ℕ → ℕ → ℕ → Type 0 where
    awaits : (a : Accepted) (silence made most : ℕ) → a.blocks ≡ n → times made x.outdoor.limit + silence ≤ most → Answers (Await a) silence made most
    good : (a : Accepted) (silence made most : ℕ) → Answers (Good a) silence made most

  pub data Station (ms : ℕ) (l : Timed) : Type 0 where
    -- GET_FW_ID is on its way, then its answer; or one of them was lost.
    identifying : (s made a sent cost : ℕ) → At x l (roof x Idle s made) (indoors x In.Identify a sent) (going (asks x Ans.Identifying) a ∷ []) []
        → a ≤ x.up → ms ≤ cost + a → Cost l.lost sent cost → Station ms l
    identified : (s made t sent a cost : ℕ) → At x l (roof x Idle s made) (indoors x In.Identify t sent) [] (going (says x Identified) a ∷ [])
        → a ≤ x.down → t ≤ x.up + a → ms ≤ cost + t → Cost l.lost sent cost → Station ms l
    unidentified : (s made t : ℕ) → At x l (roof x Idle s made) (indoors x In.Identify t 0) [] []
        → t < x.indoor.limit → ms ≤ t → l.lost ≡ true → Station ms l
    -- INITIATE alike. After a loss the receiver may ask for block 0 meanwhile.
    initiating : (p : receiver.Phase) (s made a sent cost : ℕ) (late : List Going) → Opens p
        → At x l (roof x p s made) (indoors x (In.Initiate 0) a sent) (going (asks x Ans.Initiating) a ∷ []) late → Late late
        → (l.lost ≡ false → (late ≡ []) × (p ≡ Idle))
        → a ≤ x.up → ms ≤ trips 1 + cost + a → Cost l.lost sent cost → Station ms l
    offered : (t sent a cost : ℕ) (late : List Going)
        → At x l (roof x (Transfer begun) a 0) (indoors x (In.Initiate 0) t sent) [] (late ++ going (says x (Offered 0)) a ∷ []) → Late late → (l.lost ≡ false → late ≡ [])
        → a ≤ x.down → t ≤ x.up + a → ms ≤ trips 1 + cost + t → Cost l.lost sent cost → Station ms l
    unoffered : (p : receiver.Phase) (s made t : ℕ) (late : List Going) → Opens p → At x l (roof x p s made) (indoors x (In.Initiate 0) t 0) [] late → Late late
        → t < x.indoor.limit → ms ≤ trips 1 + t → l.lost ≡ true → Station ms l
    -- A block, also the empty one.
    block : (j s made a asked cost : ℕ) (p : Progress) (emptied : Bool)
        → At x l (roof x (Transfer p) s made) (indoors x (In.Transfer (sending asked 0 emptied)) a 0) (going (asks x (Ans.Sending j)) a ∷ []) []
        → p.accepted.blocks ≡ j → j ≤ n → (j < n → p.short ≡ false) → (j ≡ n → emptied ≡ true)
        → a ≤ x.up → s ≤ x.down + a → ms ≤ trips (j + 2) + cost + a → Cost l.lost made cost → Station ms l
    receipt : (p : receiver.Phase) (due : Answer) (k made t a asked cost : ℕ) (emptied : Bool) → Owes p emptied due k
        → At x l (roof x p a made) (indoors x (In.Transfer (sending asked 0 emptied)) t 0) [] (going (says x due) a ∷ [])
        → a ≤ x.down → t ≤ x.outdoor.limit + x.up + a → (l.lost ≡ false → t ≤ x.up + a) → ms + x.down ≤ trips k + cost + a → Cost l.lost made cost → Station ms l
    unreceived : (p : receiver.Phase) (due : Answer) (k s t asked : ℕ) (emptied : Bool) → Owes p emptied due k
        → At x l (roof x p s 0) (indoors x (In.Transfer (sending asked 0 emptied)) t 0) [] []
        → s < x.outdoor.limit → t ≤ s + x.up → ms ≤ trips k + s + x.up → l.lost ≡ true → Station ms l
    -- VALIDATE. After a loss the receiver may repeat the closing answer meanwhile.
    validating : (p : receiver.Phase) (s made a sent cost : ℕ) (late : List Going) → Answers p s made (x.indoor.limit + x.down + a)
        → At x l (roof x p s made) (indoors x (In.Validate 0) a sent) (going (asks x Ans.Validating) a ∷ []) late → Late late
        → (l.lost ≡ false → (late ≡ []) × Answers p s made (x.down + a))
        → a ≤ x.up → ms ≤ trips (n + 3) + cost + a → Cost l.lost sent cost → Station ms l
    succeeded : (accepted : Accepted) (s made t sent a cost : ℕ) (late : List Going)
        → At x l (roof x (Good accepted) s made) (indoors x (In.Validate 0) t sent) [] (late ++ going (says x Success) a ∷ []) → Late late → (l.lost ≡ false → late ≡ [])
        → a ≤ x.down → t ≤ x.up + a → ms ≤ trips (n + 3) + cost + t → Cost l.lost sent cost → Station ms l
    unvalidated : (p : receiver.Phase) (s made t : ℕ) (late : List Going) → Answers p s made (x.down + t) → At x l (roof x p s made) (indoors x (In.Validate 0) t 0) [] late → Late late
        → t < x.indoor.limit → ms ≤ trips (n + 3) + t → l.lost ≡ true → Station ms l
    finished : (accepted : Accepted) (s made t sent : ℕ) → At x l (roof x (Good accepted) s made) (indoors x In.Done t sent) [] [] → Station ms l
