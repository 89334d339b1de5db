-- What holds of every step of the receiver, by its answer, the phase before it and the phase after it.
use Prim.Native.Nat.{ℕ, ◌+◌, ◌*◌, ◌≤◌, ◌<◌}
use mathlib.Core.Bool.{Bool, false, ◌||◌}
use mathlib.Core.Path.{◌≡◌, refl}
use native.Mathlib.Omega.{arith}
use borrow.Author.Tests.{eqb-true, eqb-false}
use lib.Dec.{ltb, eqb}
use Rattle.basis.specs.Pick.{pick_all, When, differ, differ_false}
use Rattle.wire.specs.declared.request.Request.{Request}
use Rattle.wire.specs.declared.request.Request.TheVariants as Req
use Rattle.receiver_state.specs.Answer.{receiver_number_of}
use Rattle.receiver_state.specs.Phase.{accepted_counts}
use Rattle.receiver_state.proofs.Truth.{GoodIfSuccess}
use Rattle.receiver_rules.specs.Decide.{receiver_progress, receiver_offer_of, initiate_in_transfer_of, receiver_initiate_of, passes_capacity, close_transfer_of, take_block_of, receiver_transfer_of, receiver_data_of, receiver_verdict_of, receiver_validate_of, receiver_abort_of, receiver_decide_of}
use Rattle.receiver_state.specs.declared.phase.Accepted.{Accepted}
use Rattle.receiver_state.specs.declared.phase.Progress.{Progress}
use Rattle.receiver_state.specs.declared.phase.Phase.{Phase}
use Rattle.receiver_state.specs.declared.phase.Phase.TheVariants.{Idle, Transfer, Await, Good}
use Rattle.receiver_state.specs.declared.verdict.Verdict.{Verdict}
use Rattle.receiver_state.specs.declared.verdict.Verdict.TheVariants as Ver
use Rattle.std.specs.Prelude.{Option, Some, None}
use Rattle.receiver_state.specs.declared.step.Step.{Step}
use Rattle.receiver_rules.proofs.Within.{within}

-- 01, Numbers we answer: "kept" (20, 26, 27, 28), "phase kept" and "image kept" (21, 22), "Idle" (23, 24, 25)
abbrev pub keeps_all : ℕ → Bool
keeps_all n = eqb n 20 || eqb n 26 || eqb n 27 || eqb n 28

abbrev pub keeps_phase : ℕ → Bool
keeps_phase n = eqb n 21 || eqb n 22

abbrev pub goes_idle : ℕ → Bool
goes_idle n = eqb n 23 || eqb n 24 || eqb n 25

-- Good ends only with a new session.
abbrev pub Stays : Phase → Phase → Type 0
Stays Idle next = Unit
Stays (Transfer p) next = Unit
Stays (Await a) next = Unit
Stays (Good a) next = next ≡ Good a

-- Into Good only from Await, by VALIDATE with a good verdict.
abbrev pub ToGood : Phase → Request → Verdict → Accepted → Type 0
ToGood Idle q verdict a = ⊥
ToGood (Transfer p) q verdict a = ⊥
ToGood (Await b) q verdict a = (a ≡ b) × (q ≡ Req.Validate) × (verdict ≡ Ver.Good)
ToGood (Good b) q verdict a = a ≡ b

-- Into Await only from Transfer, by the empty block that is due, with at least one accepted.
abbrev pub ToAwait : Phase → Request → Accepted → Type 0
ToAwait Idle q a = ⊥
ToAwait (Transfer p) q a = (a ≡ p.accepted) × (q ≡ Req.Data a.blocks 0) × (0 < a.blocks)
ToAwait (Await b) q a = a ≡ b
ToAwait (Good b) q a = ⊥

abbrev pub Enters : Phase → Request → Verdict → Phase → Type 0
Enters before q verdict Idle = Unit
Enters before q verdict (Transfer p) = Unit
Enters before q verdict (Await a) = ToAwait before q a
Enters before q verdict (Good a) = ToGood before q verdict a

-- The block that a step puts into the image: the one that is due, not empty, not behind a short one, within the capacity; and it is counted.
pub record Taken (p : Progress) (q : Request) (capacity number : ℕ) (next : Phase) : Type 0 where
  pub size : ℕ
  pub is_data : q ≡ Req.Data number size
  pub due : number ≡ p.accepted.blocks
  pub whole : p.short ≡ false
  pub some : 0 < size
  pub low : number ≤ 4095
  pub fits : 256 * number + size ≤ capacity
  pub counted : next ≡ Transfer (receiver_progress (accepted_counts (number + 1) (256 * number + size)) (ltb size 256))

abbrev pub Puts : Phase → Request → ℕ → Phase → Option ℕ → Type 0
Puts before q capacity next None = Unit
Puts Idle q capacity next (Some number) = ⊥
Puts (Transfer p) q capacity next (Some number) = Taken p q capacity number next
Puts (Await a) q capacity next (Some number) = ⊥
Puts (Good a) q capacity next (Some number) = ⊥

pub record Row (before : Phase) (q : Request) (capacity : ℕ) (verdict : Verdict) (s : Step) : Type 0 where
  pub heard : keeps_all (receiver_number_of s.answer) ≡ false
  pub keeps : When (keeps_phase (receiver_number_of s.answer)) ((s.phase ≡ before) × (s.store ≡ None))
  pub goes_idle_lem : When (goes_idle (receiver_number_of s.answer)) ((s.phase ≡ Idle) × (s.store ≡ None))
  pub stays : Stays before s.phase
  pub enters : Enters before q verdict s.phase
  pub puts : Puts before q capacity s.phase s.store
  pub success : GoodIfSuccess s.answer s.phase

module _ (capacity : ℕ) (verdict : Verdict) where
  initiate_row : (before : Phase) (q : Request) (readiness : ℕ) → Row before q capacity verdict (receiver_initiate_of before readiness)
  unfolding receiver_initiate_of initiate_in_transfer_of receiver_offer_of
  initiate_row Idle q readiness = search (pick_all (Row Idle q capacity verdict))
  initiate_row (Transfer p) q readiness = search (pick_all (Row (Transfer p) q capacity verdict)) depth 8
  initiate_row (Await a) q readiness = search
  initiate_row (Good a) q readiness = search

  abort_row : (before : Phase) (q : Request) → Row before q capacity verdict (receiver_abort_of before)
  unfolding receiver_abort_of
  abort_row Idle q = search
  abort_row (Transfer p) q = search
  abort_row (Await a) q = search
  abort_row (Good a) q = search

  take_row : (p : Progress) (number size readiness : ℕ) → number ≡ p.accepted.blocks → p.short ≡ false → 0 < size → passes_capacity number size capacity ≡ false
      → Row (Transfer p) (Req.Data number size) capacity verdict (take_block_of number size readiness)
  unfolding take_block_of
  take_row p number size readiness due whole some passed =
      let w = within number size capacity passed in
      record {
        heard = refl;
        keeps = tt;
        goes_idle_lem = tt;
        stays = tt;
        enters = tt;
        success = tt;
        puts = record { size = size; is_data = refl; due = due; whole = whole; some = some; low = w.0; fits = w.1; counted = refl };
      }

  close_row : (p : Progress) (number : ℕ) → number ≡ p.accepted.blocks → Row (Transfer p) (Req.Data number 0) capacity verdict (close_transfer_of p.accepted)
  unfolding close_transfer_of
  close_row p number due =
      pick_all (Row (Transfer p) (Req.Data number 0) capacity verdict) (eqb p.accepted.blocks 0) _ _ (λ _. search)
      (λ t.
      let some = eqb-false p.accepted.blocks 0 t in
      record { heard = refl; keeps = tt; goes_idle_lem = tt; stays = tt; enters = (refl, rw due, omega arith); puts = tt; success = tt })

  transfer_row : (p : Progress) (number size readiness : ℕ) → Row (Transfer p) (Req.Data number size) capacity verdict (receiver_transfer_of p number size capacity readiness)
  unfolding receiver_transfer_of
  transfer_row p number size readiness =
      let P : Step → Type 0 = Row (Transfer p) (Req.Data number size) capacity verdict in
      pick_all P (differ number p.accepted.blocks) _ _ (λ _. search)
      (λ a. let due = differ_false number p.accepted.blocks a in
      pick_all P (eqb size 0) _ _
      (λ b. let none = eqb-true size 0 b in rw none (close_row p number due))
      (λ b. let some = eqb-false size 0 b in
      pick_all P p.short _ _ (λ _. search)
      (λ whole. pick_all P (passes_capacity number size capacity) _ _ (λ _. search)
      (λ passed. take_row p number size readiness due whole (omega arith) passed))))

  data_row : (before : Phase) (number size readiness : ℕ) → Row before (Req.Data number size) capacity verdict (receiver_data_of before number size capacity readiness)
  unfolding receiver_data_of
  data_row Idle number size readiness = search
  data_row (Transfer p) number size readiness = transfer_row p number size readiness
  data_row (Await a) number size readiness = search
  data_row (Good a) number size readiness = search

module _ (capacity : ℕ) where
  judge_row : (a : Accepted) (verdict : Verdict) → Row (Await a) Req.Validate capacity verdict (receiver_verdict_of a verdict)
  unfolding receiver_verdict_of
  judge_row a Ver.Good = search
  judge_row a Ver.Bad = search
  judge_row a (Ver.Later wait) = search

  validate_row : (before : Phase) (verdict : Verdict) → Row before Req.Validate capacity verdict (receiver_validate_of before verdict)
  unfolding receiver_validate_of
  validate_row Idle verdict = search
  validate_row (Transfer p) verdict = search
  validate_row (Await a) verdict = judge_row a verdict
  validate_row (Good a) verdict = search

pub decide_row : (before : Phase) (q : Request) (capacity readiness : ℕ) (verdict : Verdict) → Row before q capacity verdict (receiver_decide_of before q capacity readiness verdict)
unfolding receiver_decide_of
decide_row Idle Req.GetFwId capacity readiness verdict = search
decide_row (Transfer p) Req.GetFwId capacity readiness verdict = search
decide_row (Await a) Req.GetFwId capacity readiness verdict = search
decide_row (Good a) Req.GetFwId capacity readiness verdict = search
decide_row before (Req.Initiate v) capacity readiness verdict = initiate_row capacity verdict before (Req.Initiate v) readiness
decide_row before (Req.Data number size) capacity readiness verdict = data_row capacity verdict before number size readiness
decide_row before Req.Validate capacity readiness verdict = validate_row capacity before verdict
decide_row before Req.Abort capacity readiness verdict = abort_row capacity verdict before Req.Abort
decide_row Idle Req.NotBuilt capacity readiness verdict = search
decide_row (Transfer p) Req.NotBuilt capacity readiness verdict = search
decide_row (Await a) Req.NotBuilt capacity readiness verdict = search
decide_row (Good a) Req.NotBuilt capacity readiness verdict = search
