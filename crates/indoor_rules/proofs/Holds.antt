-- What a session has written is genuine, and its phase says truly whether the empty block was sent: every call keeps it so.
use Prim.Native.Nat.{ℕ, ◌≤◌}
use mathlib.Core.Bool.{true}
use mathlib.Core.Logic.{◌⊎◌, inl, inr}
use mathlib.Core.Path.{◌≡◌, refl, sym, ap, ◌∙◌}
use mathlib.Core.List.{List, ◌∷◌, append-nil, Memᴰ}
use native.Mathlib.Omega.{arith}
use borrow.Author.Tests.{eqb-false}
use lib.Dec.{eqb}
use lib.ListN.{length, drop}
use lib.Seq.{take-append_seam}
use Rattle.basis.specs.Pick.{pick, pick_all}
use Rattle.basis.specs.Left.{left}
use Rattle.image.specs.Blocks.{blocks_of}
use Rattle.image.proofs.Laws.{block_behind}
use Rattle.wire.specs.Codes.{image_size_most}
use Rattle.wire.specs.Fields.{Words}
use Rattle.wire.specs.Written.{request_bytes, head_bytes}
use Rattle.wire.specs.declared.response.Response.{Response}
use Rattle.indoor_state.specs.Answer.{sends_of}
use Rattle.indoor_rules.specs.Step.{empty_number}
use Rattle.indoor_rules.specs.Decide.{indoor_decide_of}
use Rattle.indoor_rules.specs.Tick.{indoor_tick_of}
use Rattle.indoor_state.specs.declared.plan.Plan.{Plan}
use Rattle.indoor_state.specs.declared.plan.Release.{Release}
use Rattle.indoor_state.specs.declared.phase.Reason.TheVariants.{Silence}
use Rattle.indoor_state.specs.declared.phase.Phase.{Phase}
use Rattle.indoor_state.specs.declared.phase.Phase.TheVariants.{Identify, Initiate, Transfer, Validate, Done, Failed}
use Rattle.indoor_state.specs.declared.answer.Answer.TheVariants.{Sending}
use Rattle.indoor_state.specs.declared.step.Step.{Step}
use Rattle.indoor_rules.proofs.Owes.{ToValidate, ToDone, Enters, Fit, Within, Emptied, Empties, decide_row}
use Rattle.indoor_rules.proofs.Ticks.{Expires, order, pass_ticks}
use Rattle.indoor_rules.specs.Send.{block_bytes, sends_bytes, indoor_bytes_of}
use Rattle.indoor_rules.specs.Session.{indoor_done}
use Rattle.indoor_rules.specs.Response.{indoor_response_of}
use Rattle.indoor_rules.specs.Time.{indoor_time_of}
use Rattle.indoor_rules.specs.History.{sent_after, AllGenuine, empty_block}
use Rattle.indoor_state.specs.declared.session.Indoor.{Indoor}
use Rattle.indoor_rules.proofs.Walk.{response_walk, time_walk}
use Rattle.indoor_rules.proofs.Entering.{failed_phase}
use Rattle.indoor_rules.proofs.Genuine.{bytes_genuine}

-- Where Transfer says that the empty block has been sent, and in Validate and Done, it is among the requests written.
abbrev pub EmptySent : List ℕ → Phase → List (List ℕ) → Type 0
EmptySent file Identify sent = Unit
EmptySent file (Initiate left) sent = Unit
EmptySent file (Transfer p) sent = p.emptied ≡ true → Memᴰ (empty_block file) sent
EmptySent file (Validate left) sent = Memᴰ (empty_block file) sent
EmptySent file Done sent = Memᴰ (empty_block file) sent
EmptySent file (Failed reason) sent = Unit

pub record Holds (file : List ℕ) (release : Release) (s : Indoor) (sent : List (List ℕ)) : Type 0 where
  pub offered : s.plan.release ≡ release
  pub lent : s.plan.length ≡ length file
  pub some : 1 ≤ length file
  pub most : length file ≤ image_size_most
  pub fit : Fit s.plan s.state.phase
  pub genuine : AllGenuine s.plan.release.versions file sent
  pub emptied : EmptySent file s.state.phase sent

head_sent : (n : ℕ) (sent : List (List ℕ)) → Memᴰ (head_bytes n) (pick (eqb (length (head_bytes n)) 0) sent (head_bytes n ∷ sent))
unfolding head_bytes pick
head_sent n sent = Memᴰ.head refl

-- The requests written, after a step.
module _ (plan : Plan) (x : Step) (file out : List ℕ) (sent : List (List ℕ)) where
  abbrev bytes : List ℕ
  bytes = indoor_bytes_of plan file x.answer

  sent_done : sent_after (indoor_done plan x file out) sent ≡ pick (eqb (length bytes) 0) sent (bytes ∷ sent)
  sent_done = rw (take-append_seam bytes (drop (length bytes) out))

  done_walk : (P : List (List ℕ) → Type 0) → P sent → ((length bytes ≡ 0 → ⊥) → P (bytes ∷ sent)) → P (sent_after (indoor_done plan x file out) sent)
  done_walk P same more = rw sent_done (pick_all P (eqb (length bytes) 0) sent (bytes ∷ sent) (λ _. same) (λ f. more (eqb-false (length bytes) 0 f)))

  -- A request stays among those written.
  kept_sent : (m : List ℕ) → Memᴰ m sent → Memᴰ m (sent_after (indoor_done plan x file out) sent)
  kept_sent m h = done_walk (Memᴰ m) h (λ _. Memᴰ.tail h)

  done_genuine : Words plan.release.versions → plan.length ≡ length file → length file ≤ image_size_most → Within plan (sends_of x.answer)
      → AllGenuine plan.release.versions file sent
      → AllGenuine plan.release.versions file (sent_after (indoor_done plan x file out) sent)
  done_genuine words lent most within all =
      done_walk (AllGenuine plan.release.versions file) all (λ some. (bytes_genuine plan file x.answer words lent most within some, all))

  empty_bytes : plan.length ≡ length file → x.answer ≡ Sending (empty_number plan) → bytes ≡ empty_block file
  unfolding sends_bytes block_bytes request_bytes
  empty_bytes lent e = rw (e, lent, block_behind file (blocks_of (length file)) (omega arith), append-nil (head_bytes (blocks_of (length file))))

  -- After the call that sends the empty block, that block is among the requests written.
  empty_sent : plan.length ≡ length file → x.answer ≡ Sending (empty_number plan) → Memᴰ (empty_block file) (sent_after (indoor_done plan x file out) sent)
  empty_sent lent e =
      let same : bytes ≡ empty_block file = empty_bytes lent e in
      rw (sent_done, same) (head_sent (blocks_of (length file)) sent)

-- The empty block stays among the requests written, or is added, whatever the step.
module _ (plan : Plan) (x : Step) (file out : List ℕ) (sent : List (List ℕ)) (lent : plan.length ≡ length file) where
  abbrev then : List (List ℕ)
  then = sent_after (indoor_done plan x file out) sent

  still_emptied : (before : Phase) → EmptySent file before sent → Emptied plan before x.answer → Memᴰ (empty_block file) then
  still_emptied Identify known e = empty_sent plan x file out sent lent e
  still_emptied (Initiate left) known e = empty_sent plan x file out sent lent e
  still_emptied (Transfer p) known (inl e) = kept_sent plan x file out sent (empty_block file) (known e)
  still_emptied (Transfer p) known (inr e) = empty_sent plan x file out sent lent e
  still_emptied (Validate left) known e = empty_sent plan x file out sent lent e
  still_emptied Done known e = empty_sent plan x file out sent lent e
  still_emptied (Failed reason) known e = empty_sent plan x file out sent lent e

  -- The phases which say that the empty block was sent: Validate, Done, and Transfer once it was.
  abbrev Knows : Phase → Type 0
  Knows Identify = ⊥
  Knows (Initiate left) = ⊥
  Knows (Transfer p) = p.emptied ≡ true
  Knows (Validate left) = Unit
  Knows Done = Unit
  Knows (Failed reason) = ⊥

  known_sent : (before : Phase) → EmptySent file before sent → Knows before → Memᴰ (empty_block file) then
  known_sent Identify known h = absurd h
  known_sent (Initiate left) known h = absurd h
  known_sent (Transfer p) known h = kept_sent plan x file out sent (empty_block file) (known h)
  known_sent (Validate left) known h = kept_sent plan x file out sent (empty_block file) known
  known_sent Done known h = kept_sent plan x file out sent (empty_block file) known
  known_sent (Failed reason) known h = absurd h

  module _ (r : Response) where
    validate_knows : (before : Phase) → ToValidate plan before r → Knows before
    validate_knows Identify h = h
    validate_knows (Initiate left) h = h
    validate_knows (Transfer p) h = h.0
    validate_knows (Validate left) h = tt
    validate_knows Done h = tt
    validate_knows (Failed reason) h = h

    done_knows : (before : Phase) → ToDone before r → Knows before
    done_knows Identify h = h
    done_knows (Initiate left) h = h
    done_knows (Transfer p) h = absurd h
    done_knows (Validate left) h = tt
    done_knows Done h = tt
    done_knows (Failed reason) h = h

    heard_emptied : (before next : Phase) → EmptySent file before sent → Enters plan before r next → Empties plan before x.answer next → EmptySent file next then
    heard_emptied before Identify known enters empties = tt
    heard_emptied before (Initiate left) known enters empties = tt
    heard_emptied before (Transfer p) known enters empties = λ e. still_emptied before known (empties e)
    heard_emptied before (Validate left) known enters empties = known_sent before known (validate_knows before enters)
    heard_emptied before Done known enters empties = known_sent before known (done_knows before enters)
    heard_emptied before (Failed reason) known enters empties = tt

  late_knows : (before : Phase) → 3 ≤ order before → order before ≤ 4 → Knows before
  late_knows Identify low high = absurd (omega arith)
  late_knows (Initiate left) low high = absurd (omega arith)
  late_knows (Transfer p) low high = absurd (omega arith)
  late_knows (Validate left) low high = tt
  late_knows Done low high = tt
  late_knows (Failed reason) low high = absurd (omega arith)

  -- Time keeps the phase or goes to Failed.
  lasting : (before next : Phase) → (order next ≡ order before) ⊎ (next ≡ Failed Silence) → order next ≤ 4 → order before ≡ order next
  lasting before next (inl e) high = sym e
  lasting before next (inr e) high = let five = ap order e in absurd (omega arith)

  lasting_knows : (before next : Phase) → (order next ≡ order before) ⊎ (next ≡ Failed Silence) → 3 ≤ order next → order next ≤ 4 → Knows before
  lasting_knows before next l low high = let e = lasting before next l high in late_knows before (omega arith) (omega arith)

  ticked_emptied : (before next : Phase) → EmptySent file before sent → (order next ≡ order before) ⊎ (next ≡ Failed Silence) → Empties plan before x.answer next
      → EmptySent file next then
  ticked_emptied before Identify known lasts empties = tt
  ticked_emptied before (Initiate left) known lasts empties = tt
  ticked_emptied before (Transfer p) known lasts empties = λ e. still_emptied before known (empties e)
  ticked_emptied before (Validate left) known lasts empties = known_sent before known (lasting_knows before (Validate left) lasts (omega arith) (omega arith))
  ticked_emptied before Done known lasts empties = known_sent before known (lasting_knows before Done lasts (omega arith) (omega arith))
  ticked_emptied before (Failed reason) known lasts empties = tt

module _ (file : List ℕ) (release : Release) (words : Words release.versions) (s : Indoor) (sent : List (List ℕ)) (h : Holds file release s sent) where
  done_holds : (x : Step) (out : List ℕ)
      → Fit s.plan x.state.phase
      → Within s.plan (sends_of x.answer)
      → EmptySent file x.state.phase (sent_after (indoor_done s.plan x file out) sent)
      → Holds file release (indoor_done s.plan x file out).answer.session (sent_after (indoor_done s.plan x file out) sent)
  done_holds x out fit within emptied = record {
    offered = h.offered;
    lent = h.lent;
    some = h.some;
    most = h.most;
    fit = fit;
    genuine = done_genuine s.plan x file out sent (rw h.offered words) h.lent h.most within h.genuine;
    emptied = emptied;
  }

  pub heard_holds : (lent response out : List ℕ) → (length lent ≡ length file → lent ≡ file)
      → Holds file release (indoor_response_of s lent response out).answer.session (sent_after (indoor_response_of s lent response out) sent)
  unfolding pick
  heard_holds lent response out same =
      response_walk s lent response out (λ y. Holds file release y.answer.session (sent_after y sent)) h h h
      (λ r e _ _.
      let row = decide_row s.plan s.state r in
      let x = indoor_decide_of s.plan s.state r in
      rw (same (e ∙ h.lent))
      (done_holds x out (row.fit h.fit) row.within
      (heard_emptied s.plan x file out sent h.lent r s.state.phase x.state.phase h.emptied row.enters row.empties)))

  pub ticked_holds : (lent : List ℕ) (elapsed : ℕ) (out : List ℕ) → (length lent ≡ length file → lent ≡ file)
      → Holds file release (indoor_time_of s lent elapsed out).answer.session (sent_after (indoor_time_of s lent elapsed out) sent)
  unfolding pick
  ticked_holds lent elapsed out same =
      time_walk s lent elapsed out (λ y. Holds file release y.answer.session (sent_after y sent)) h h
      (λ e _.
      let row = pass_ticks s.plan s.state elapsed in
      let x = indoor_tick_of s.plan s.state elapsed in
      rw (same (e ∙ h.lent))
      (done_holds x out (row.fit h.fit) (row.within h.fit)
      (ticked_emptied s.plan x file out sent h.lent s.state.phase x.state.phase h.emptied
      (failed_phase x (order s.state.phase) (Expires s.plan s.state elapsed) row.lasts)
      row.empties)))
