-- Every step keeps what a session holds: the accepted blocks stay the first bytes of the image.
use Prim.Native.Nat.{ℕ, ◌*◌, ◌<◌, ◌≤◌}
use mathlib.Core.Bool.{false}
use mathlib.Core.Path.{◌≡◌, refl, sym, ◌∙◌, ap}
use mathlib.Core.List.{List, ◌++◌}
use native.Mathlib.Omega.{arith}
use borrow.Author.Tests.{eqb-true, eqb-false, lt-ltb}
use lib.Dec.{eqb}
use lib.ListN.{length, take, drop, length-append}
use Rattle.basis.specs.Pick.{pick, pick_all, differ, differ_false}
use Rattle.lent.proofs.Laws.{put_fits, pasted_there}
use Rattle.wire.specs.Request as message
use Rattle.wire.proofs.Sizes.{request_sized}
use Rattle.wire.specs.declared.request.Versions.{Versions}
use Rattle.wire.specs.declared.request.Request.{Request}
use Rattle.wire.specs.declared.request.Request.TheVariants as Req
use Rattle.receiver_state.specs.Answer.{receiver_number_of}
use Rattle.receiver_rules.specs.Decide.{receiver_offer_of, initiate_in_transfer_of, receiver_initiate_of, passes_capacity, close_transfer_of, take_block_of, receiver_transfer_of, receiver_data_of, receiver_verdict_of, receiver_validate_of, receiver_abort_of, receiver_decide_of}
use Rattle.receiver_rules.proofs.Within.{within}
use Rattle.receiver_state.specs.declared.phase.Accepted.{Accepted}
use Rattle.receiver_state.specs.declared.phase.Progress.{Progress}
use Rattle.receiver_state.specs.declared.phase.Phase.{Phase}
use Rattle.receiver_state.specs.declared.phase.Phase.TheVariants.{Idle, Transfer, Await, Good}
use Rattle.receiver_state.specs.declared.verdict.Verdict.{Verdict}
use Rattle.receiver_state.specs.declared.verdict.Verdict.TheVariants as Ver
use Rattle.receiver_state.specs.declared.step.Step.{Step}
use Rattle.receiver_rules.specs.Request.{image_after}
use Rattle.receiver_rules.specs.History.{taken_by, in_order}
use Rattle.receiver_rules.proofs.Held.{Held, whole_bytes, not_short, nothing_held, none_taken}
use Rattle.std.specs.Prelude.{Ok}

module _ (capacity : ℕ) (image request : List ℕ) (taken : List (List ℕ)) (readiness : ℕ) (verdict : Verdict) where
  abbrev Has : Phase → Type 0
  Has phase = Held capacity image taken phase

  -- After the step s from a phase, by the request q.
  abbrev Then : Phase → Request → Step → Type 0
  Then before q s =
      Held capacity (image_after s.store image request) (taken_by (record {
        before = before;
        message = Ok q;
        block = drop 4 request;
        answered = receiver_number_of s.answer;
        after = s.phase;
      }) taken) s.phase

  initiate_keeps : (before : Phase) (v : Versions) → Has before → Then before (Req.Initiate v) (receiver_initiate_of before readiness)
  unfolding receiver_initiate_of initiate_in_transfer_of receiver_offer_of image_after pick
  initiate_keeps Idle v h =
      pick_all (Then Idle (Req.Initiate v)) (eqb readiness 0) _ _ (λ _. nothing_held capacity image taken h) (λ _. refl)
  initiate_keeps (Transfer p) v h =
      let P : Step → Type 0 = Then (Transfer p) (Req.Initiate v) in
      pick_all P (differ p.accepted.blocks 0) _ _ (λ _. h)
      (λ t. pick_all P (eqb readiness 0) _ _
      (λ _.
      let none = differ_false p.accepted.blocks 0 t in
      let count = h.0.blocks in
      nothing_held capacity image taken (none_taken taken (omega arith)))
      (λ _. h))
  initiate_keeps (Await a) v h = h
  initiate_keeps (Good a) v h = h

  judge_keeps : (a : Accepted) (judged : Verdict) → Has (Await a) → Then (Await a) Req.Validate (receiver_verdict_of a judged)
  unfolding receiver_verdict_of image_after pick
  judge_keeps a Ver.Good h = h
  judge_keeps a Ver.Bad h = refl
  judge_keeps a (Ver.Later wait) h = h

  validate_keeps : (before : Phase) → Has before → Then before Req.Validate (receiver_validate_of before verdict)
  unfolding receiver_validate_of image_after pick
  validate_keeps Idle h = refl
  validate_keeps (Transfer p) h = h
  validate_keeps (Await a) h = judge_keeps a verdict h
  validate_keeps (Good a) h = h

  abort_keeps : (before : Phase) → Has before → Then before Req.Abort (receiver_abort_of before)
  unfolding receiver_abort_of image_after pick
  abort_keeps Idle h = refl
  abort_keeps (Transfer p) h = refl
  abort_keeps (Await a) h = refl
  abort_keeps (Good a) h = h

  module _ (p : Progress) (number size : ℕ) (h : Has (Transfer p)) where
    close_keeps : size ≡ 0 → Then (Transfer p) (Req.Data number size) (close_transfer_of p.accepted)
    unfolding close_transfer_of image_after pick
    close_keeps none =
        rw none
        (pick_all (Then (Transfer p) (Req.Data number 0)) (eqb p.accepted.blocks 0) _ _ (λ _. refl)
        (λ t. let some = eqb-false p.accepted.blocks 0 t in (h.0, omega arith)))

    module _ (lent : length image ≡ capacity) (e : message.parsed_request_of request ≡ Ok (Req.Data number size)) where
      take_keeps : number ≡ p.accepted.blocks → p.short ≡ false → 0 < size → passes_capacity number size capacity ≡ false
          → Then (Transfer p) (Req.Data number size) (take_block_of number size readiness)
      unfolding take_block_of image_after pick
      take_keeps due whole some passed =
          let w = within number size capacity passed in
          let sized = request_sized request (Req.Data number size) e in
          let full = not_short taken h.0.sizes (sym h.1 ∙ whole) in
          let all = whole_bytes taken full in
          let count = h.0.blocks in
          let bytes = h.0.bytes in
          let place : 256 * number ≡ p.accepted.bytes = omega arith in
          let front : take (256 * number) image ≡ in_order taken = ap (λ n. take n image) place ∙ h.0.front in
          let at : 256 * number ≤ length image = omega arith in
          let put = ap (λ x. x.memory) (put_fits image (256 * number) (drop 4 request) (omega arith)) in
          let there = pasted_there image (256 * number) (drop 4 request) at ∙ ap (λ x. x ++ drop 4 request) front in
          let more = length-append (in_order taken) (drop 4 request) in
          rw (lt-ltb 0 size some, put) (
            record {
              blocks = omega arith;
              bytes = omega arith;
              front = rw (← sized.1) there;
              sizes = (omega arith, omega arith, full);
              few = omega arith;
              room = w.1;
            },
            rw sized.1,
          )

      transfer_keeps : Then (Transfer p) (Req.Data number size) (receiver_transfer_of p number size capacity readiness)
      unfolding receiver_transfer_of image_after pick
      transfer_keeps =
          let P : Step → Type 0 = Then (Transfer p) (Req.Data number size) in
          pick_all P (differ number p.accepted.blocks) _ _ (λ _. h)
          (λ a. pick_all P (eqb size 0) _ _ (λ b. close_keeps (eqb-true size 0 b))
          (λ b. pick_all P p.short _ _ (λ _. refl)
          (λ whole. pick_all P (passes_capacity number size capacity) _ _ (λ _. refl)
          (λ passed.
          let some = eqb-false size 0 b in
          take_keeps (differ_false number p.accepted.blocks a) whole (omega arith) passed))))

  module _ (lent : length image ≡ capacity) where
    data_keeps : (before : Phase) (number size : ℕ) → message.parsed_request_of request ≡ Ok (Req.Data number size) → Has before
        → Then before (Req.Data number size) (receiver_data_of before number size capacity readiness)
    unfolding receiver_data_of image_after pick
    data_keeps Idle number size e h = refl
    data_keeps (Transfer p) number size e h = transfer_keeps p number size h lent e
    data_keeps (Await a) number size e h = h
    data_keeps (Good a) number size e h = h

    pub decide_keeps : (before : Phase) (q : Request) → message.parsed_request_of request ≡ Ok q → Has before
        → Then before q (receiver_decide_of before q capacity readiness verdict)
    unfolding receiver_decide_of image_after pick
    decide_keeps Idle Req.GetFwId e h = refl
    decide_keeps (Transfer p) Req.GetFwId e h = h
    decide_keeps (Await a) Req.GetFwId e h = h
    decide_keeps (Good a) Req.GetFwId e h = h
    decide_keeps before (Req.Initiate v) e h = initiate_keeps before v h
    decide_keeps before (Req.Data number size) e h = data_keeps before number size e h
    decide_keeps before Req.Validate e h = validate_keeps before h
    decide_keeps before Req.Abort e h = abort_keeps before h
    decide_keeps Idle Req.NotBuilt e h = refl
    decide_keeps (Transfer p) Req.NotBuilt e h = h
    decide_keeps (Await a) Req.NotBuilt e h = h
    decide_keeps (Good a) Req.NotBuilt e h = h
