-- What a millisecond does to the receiver at each station.
use Prim.Native.Nat.{ℕ, ◌+◌, ◌*◌, ◌≤◌, ◌<◌}
use mathlib.Core.Bool.{Bool, true, false, true≢false}
use mathlib.Core.Logic.{◌⊎◌, inl, inr}
use mathlib.Core.Path.{◌≡◌, refl, sym, ◌∙◌, ap, subst}
use mathlib.Core.List.{List, [], ◌∷◌, ◌++◌}
use native.Mathlib.Omega.{arith}
use Rattle.std.proofs.lemmas.Bool.{cases_lt}
use Rattle.receiver_state.specs.declared.answer.Answer.{Answer}
use Rattle.receiver_state.specs.declared.answer.Answer.TheVariants.{Asking, Closed, Passed}
use Rattle.receiver_state.specs.declared.phase.Accepted.{Accepted}
use Rattle.receiver_state.specs.declared.phase.Phase as receiver
use Rattle.receiver_state.specs.declared.phase.Phase.TheVariants.{Idle, Transfer, Await}
use Rattle.receiver_rules.specs.Tick.{tick, receiver_tick_of}
use Rattle.receiver_rules.proofs.Elapsed.{transfer_quiet, await_quiet, transfer_asks, await_repeats, transfer_idle, idle_still, good_still}
use Rattle.lost.specs.Lost.{Going, going}
use Rattle.lost.proofs.Carried.{with, Given, says}
use Rattle.lost.proofs.Times.{times, times_next, times_most, times_whole}
use Rattle.lost.proofs.Messages as messages
use Rattle.lost.proofs.Messages.{Late, late_last}
use Rattle.lost.proofs.Stations.{n, begun, Opens, idle, begins, Owes, next, close, Answers, awaits, good}

pub was_lost : {A : Type 0} (lost : Bool) → lost ≡ true → lost ≡ false → A
was_lost lost e f = absurd (true≢false (sym e ∙ f))

module _ (x : Given) where
  -- What a millisecond does to a receiver that takes INITIATE: it still does, and what it says is a DATA response.
  pub record OpensOn (p : receiver.Phase) (s made : ℕ) : Type 0 where
    pub after : receiver.Phase
    pub s' : ℕ
    pub made' : ℕ
    pub said : Answer
    pub ticks : receiver_tick_of p s 1 made x.outdoor ≡ tick after s' made' said
    pub opens : Opens x after
    pub late : (on : List Going) → Late on → Late (with on (says x said))
    pub idle : p ≡ Idle → (after ≡ Idle) × ((on : List Going) → with on (says x said) ≡ on)

  asking_late : (number : ℕ) → number ≤ 4097 → (on : List Going) → Late on → Late (with on (says x (Asking 0 number)))
  asking_late number low on h =
      subst Late (sym (messages.asking_on x on number))
      (late_last on (going (says x (Asking 0 number)) 0) h (record { wait = 0; number = number; parsed = messages.asking_read x number (omega arith) }))

  closed_late : (number : ℕ) → number ≤ 4097 → (on : List Going) → Late on → Late (with on (says x (Closed number)))
  closed_late number low on h =
      subst Late (sym (messages.closed_on x on number))
      (late_last on (going (says x (Closed number)) 0) h (record { wait = 255; number = number; parsed = messages.closed_read x number (omega arith) }))

  quiet_late : (on : List Going) → Late on → Late (with on (says x Passed))
  quiet_late on h = subst Late (sym (messages.passed_on x on)) h

  transfer_opens : (s made : ℕ) → (s + 1 < x.outdoor.limit) ⊎ (x.outdoor.limit ≤ s + 1) → (made < x.outdoor.resends) ⊎ (x.outdoor.resends ≤ made) → OpensOn (Transfer (begun x)) s made
  transfer_opens s made (inl low) _ = record {
    after = Transfer (begun x);
    s' = s + 1;
    made' = made;
    said = Passed;
    ticks = transfer_quiet s 1 made x.outdoor low (begun x);
    opens = begins;
    late = quiet_late;
    idle = λ e. cc;
  }
  transfer_opens s made (inr high) (inl left) = record {
    after = Transfer (begun x);
    s' = 0;
    made' = made + 1;
    said = Asking 0 0;
    ticks = transfer_asks s 1 made x.outdoor high left (begun x);
    opens = begins;
    late = asking_late 0 (omega arith);
    idle = λ e. cc;
  }
  transfer_opens s made (inr high) (inr none) = record {
    after = Idle;
    s' = 0;
    made' = made;
    said = Passed;
    ticks = transfer_idle s 1 made x.outdoor high none (begun x);
    opens = idle;
    late = quiet_late;
    idle = λ e. cc;
  }

  pub opens_on : (p : receiver.Phase) (s made : ℕ) → Opens x p → OpensOn p s made
  opens_on _ s made idle = record {
    after = Idle;
    s' = s;
    made' = made;
    said = Passed;
    ticks = idle_still s 1 made x.outdoor;
    opens = idle;
    late = quiet_late;
    idle = λ _. (refl, messages.passed_on x);
  }
  opens_on _ s made begins = transfer_opens s made (cases_lt (s + 1) x.outdoor.limit) (cases_lt made x.outdoor.resends)

  -- What a millisecond does to a receiver that answers VALIDATE with success, as long as it does not go to Idle.
  pub record AnswersOn (p : receiver.Phase) (s made : ℕ) : Type 0 where
    pub s' : ℕ
    pub made' : ℕ
    pub said : Answer
    pub ticks : receiver_tick_of p s 1 made x.outdoor ≡ tick p s' made' said
    pub answers : (most later : ℕ) → most + 1 ≤ later → Answers x p s made most → Answers x p s' made' later
    pub late : (on : List Going) → Late on → Late (with on (says x said))
    pub quiet : (most : ℕ) → Answers x p s made most → most + 1 < x.outdoor.limit → (on : List Going) → with on (says x said) ≡ on

  await_grows : (a : Accepted) (s made most later : ℕ) → most + 1 ≤ later → Answers x (Await a) s made most → Answers x (Await a) (s + 1) made later
  await_grows a s made most later more (awaits _ _ _ _ blocks since) = awaits a (s + 1) made later blocks (omega arith)

  await_repeated : (a : Accepted) (s made : ℕ) → x.outdoor.limit ≤ s + 1 → (most later : ℕ) → most + 1 ≤ later → Answers x (Await a) s made most → Answers x (Await a) 0 (made + 1) later
  await_repeated a s made high most later more (awaits _ _ _ _ blocks since) =
      let next = times_next made (made + 1) x.outdoor.limit refl in
      awaits a 0 (made + 1) later blocks (omega arith)

  await_loud : (a : Accepted) (s made most : ℕ) → x.outdoor.limit ≤ s + 1 → Answers x (Await a) s made most → most + 1 < x.outdoor.limit → ⊥
  await_loud a s made most high (awaits _ _ _ _ blocks since) low = omega arith

  awaits_on : n x ≤ 4096 → (a : Accepted) (s made most : ℕ) → a.blocks ≡ n x → times made x.outdoor.limit + s ≤ most → most + 1 < x.outdoor.limit * (x.outdoor.resends + 1)
      → (s + 1 < x.outdoor.limit) ⊎ (x.outdoor.limit ≤ s + 1) → (made < x.outdoor.resends) ⊎ (x.outdoor.resends ≤ made) → AnswersOn (Await a) s made
  awaits_on few a s made most blocks since lasts (inl low) _ = record {
    s' = s + 1;
    made' = made;
    said = Passed;
    ticks = await_quiet s 1 made x.outdoor low a;
    answers = await_grows a s made;
    late = quiet_late;
    quiet = λ _ _ _. messages.passed_on x;
  }
  awaits_on few a s made most blocks since lasts (inr high) (inl left) = record {
    s' = 0;
    made' = made + 1;
    said = Closed a.blocks;
    ticks = await_repeats s 1 made x.outdoor high left a;
    answers = await_repeated a s made high;
    late = closed_late a.blocks (omega arith);
    quiet = λ m h low. absurd (await_loud a s made m high h low);
  }
  awaits_on few a s made most blocks since lasts (inr high) (inr none) =
      let more = times_most x.outdoor.resends made x.outdoor.limit none in
      let whole = times_whole x.outdoor.limit x.outdoor.resends in
      absurd (omega arith)

  -- A millisecond more of a receiver that is in Await long enough, or in Good.
  pub answers_on : n x ≤ 4096 → (p : receiver.Phase) (s made most : ℕ) → Answers x p s made most → most + 1 < x.outdoor.limit * (x.outdoor.resends + 1) → AnswersOn p s made
  answers_on few _ s made most (awaits a _ _ _ blocks since) lasts = awaits_on few a s made most blocks since lasts (cases_lt (s + 1) x.outdoor.limit) (cases_lt made x.outdoor.resends)
  answers_on few _ s made most (good a _ _ _) lasts = record {
    s' = s;
    made' = made;
    said = Passed;
    ticks = good_still s 1 made x.outdoor a;
    answers = λ _ later _ _. good a s made later;
    late = quiet_late;
    quiet = λ _ _ _. messages.passed_on x;
  }

  module _ (s made : ℕ) where
    pub owes_quiet : (p : receiver.Phase) (emptied : Bool) (due : Answer) (k : ℕ) → Owes x p emptied due k → s + 1 < x.outdoor.limit → receiver_tick_of p s 1 made x.outdoor ≡ tick p (s + 1) made Passed
    owes_quiet _ _ _ _ (next p _ _ _ _ _) low = transfer_quiet s 1 made x.outdoor low p
    owes_quiet _ _ _ _ (close a _) low = await_quiet s 1 made x.outdoor low a

    pub owes_again : (p : receiver.Phase) (emptied : Bool) (due : Answer) (k : ℕ) → Owes x p emptied due k → x.outdoor.limit ≤ s + 1 → made < x.outdoor.resends
        → receiver_tick_of p s 1 made x.outdoor ≡ tick p 0 (made + 1) due
    owes_again _ _ _ _ (next p _ k blocks _ _) high left = transfer_asks s 1 made x.outdoor high left p ∙ ap (λ (j : ℕ). tick (Transfer p) 0 (made + 1) (Asking 0 j)) blocks
    owes_again _ _ _ _ (close a blocks) high left = await_repeats s 1 made x.outdoor high left a ∙ ap (λ (j : ℕ). tick (Await a) 0 (made + 1) (Closed j)) blocks

  pub owes_said : (p : receiver.Phase) (emptied : Bool) (due : Answer) (k : ℕ) → Owes x p emptied due k → (on : List Going) → with on (says x due) ≡ on ++ going (says x due) 0 ∷ []
  owes_said _ _ _ _ (next _ _ k _ _ _) on = messages.asking_on x on k
  owes_said _ _ _ _ (close _ _) on = messages.closed_on x on (n x)
