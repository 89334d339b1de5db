-- Over any calls from a fresh session, each lent the same memory or one of another length, what the receiver counts as accepted lies in the
-- image: the accepted blocks, in order, one after the other (01, Programs that should not pass).
use Prim.Native.Nat.{ℕ, ◌+◌, ◌*◌, ◌-◌, ◌≤◌}
use mathlib.Core.Path.{◌≡◌, refl, ◌∙◌, ap}
use mathlib.Core.List.{List, [], ◌∷◌}
use native.Mathlib.Omega.{arith}
use lib.ListN.{length, take, length-append}
use Rattle.image.specs.Sum as sums
use Rattle.receiver_state.specs.Phase.{nothing_accepted, accepted_of}
use Rattle.receiver_state.specs.declared.phase.Accepted.{Accepted}
use Rattle.receiver_state.specs.declared.phase.Progress.{Progress}
use Rattle.receiver_state.specs.declared.phase.Phase.{Phase}
use Rattle.receiver_state.specs.declared.phase.Phase.TheVariants.{Idle, Transfer, Await, Good}
use Rattle.receiver_rules.specs.Sum.{receiver_sum_of}
use Rattle.receiver_rules.specs.History.{in_order, Reached}
use Rattle.receiver_state.specs.declared.session.Receiver.{Receiver}
use Rattle.std.specs.Prelude.{Ok}
use Rattle.receiver_rules.proofs.Answers.{sum_0}
use Rattle.receiver_rules.proofs.Held.{Sizes, short_of, Counts, Held, whole_bytes, nothing_counts}
use Rattle.receiver_rules.proofs.Reached.{reached_holds, reached_capacity}

held_counts : (capacity : ℕ) (image : List ℕ) (taken : List (List ℕ)) (phase : Phase) → Held capacity image taken phase → Counts capacity (accepted_of phase) image taken
held_counts capacity image taken Idle h = nothing_counts capacity image taken h
held_counts capacity image taken (Transfer p) h = h.0
held_counts capacity image taken (Await a) h = h.0
held_counts capacity image taken (Good a) h = h.0

-- What the last block lacks to 256 bytes.
abbrev pub lack : List (List ℕ) → ℕ
lack [] = 0
lack (block ∷ taken) = 256 - length block

sizes_lack : (taken : List (List ℕ)) → Sizes taken → length (in_order taken) + lack taken ≡ 256 * length taken
sizes_lack [] h = refl
sizes_lack (block ∷ taken) h =
    let more = length-append (in_order taken) block in
    let all = whole_bytes taken h.2 in
    let most = h.1 in
    omega arith

held_short : (capacity : ℕ) (image : List ℕ) (taken : List (List ℕ)) (phase : Phase) (p : Progress) → phase ≡ Transfer p → Held capacity image taken phase → p.short ≡ short_of taken
held_short capacity image taken phase p e h = (rw e at h).1

module _ {r : Receiver} {image : List ℕ} {taken : List (List ℕ)} (h : Reached r image taken) where
  abbrev accepted : Accepted
  accepted = accepted_of r.phase

  counts : Counts r.capacity accepted image taken
  counts = held_counts r.capacity image taken r.phase (reached_holds h)

  -- The first `bytes` bytes of the image are the accepted blocks, in order, one after the other.
  pub in_place : take accepted.bytes image ≡ in_order taken
  in_place = counts.front

  -- The counts are the number of the accepted blocks, and of their bytes.
  pub counted : (accepted.blocks ≡ length taken) × (accepted.bytes ≡ length (in_order taken))
  counted = (counts.blocks, counts.bytes)

  -- Bytes accepted are 256 × blocks, less what the last block lacks.
  pub bytes_of_blocks : accepted.bytes + lack taken ≡ 256 * accepted.blocks
  bytes_of_blocks =
      let l = sizes_lack taken counts.sizes in
      let n = counts.blocks in
      let m = counts.bytes in
      omega arith

  -- `short` says whether the last block has fewer than 256 bytes.
  pub short_agrees : (p : Progress) → r.phase ≡ Transfer p → p.short ≡ short_of taken
  short_agrees p e = held_short r.capacity image taken r.phase p e (reached_holds h)

  pub limits : (accepted.blocks ≤ 4096) × (accepted.bytes ≤ r.capacity) × (r.capacity ≤ 1048575)
  limits = (counts.few, counts.room, reached_capacity h)

  -- In Idle nothing is accepted.
  pub idle_nothing : r.phase ≡ Idle → (accepted ≡ nothing_accepted) × (taken ≡ [])
  idle_nothing e = (rw e refl, rw e at (reached_holds h))

  -- The image sum is the sum of the accepted blocks.
  pub sum_theirs : length image ≡ r.capacity → receiver_sum_of r image ≡ Ok (sums.sum_of (in_order taken))
  sum_theirs lent = sum_0 r image lent ∙ ap (λ x. Ok (sums.sum_of x)) in_place
