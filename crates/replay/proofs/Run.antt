-- Turn after turn: the parts that the reads have brought, one behind the other.
use Prim.Native.Nat.{ℕ, ◌≤◌}
use mathlib.Core.List.{List, [], ◌∷◌, ◌++◌}
use mathlib.Core.Logic.{◌⊎◌, inl, inr}
use mathlib.Core.Path.{◌≡◌, refl, sym, ◌∙◌, ap, subst}
use native.Mathlib.Omega.{arith}
use Rattle.basis.specs.Pick.{pick_yes, pick_all}
use Rattle.playing.specs.Replay.{begun}
use Rattle.playing.specs.Parts.{ReplayState, replay_state, replay_begins, further_of, parts_of, unknown_of}
use Rattle.playing.proofs.Parts.{parts_one_more}
use Rattle.std.specs.Prelude.{Option, Some, None}
use Rattle.replay.specs.declared.end.End.{End}
use Rattle.replay.specs.declared.end.End.TheVariants.{Closed, ReadFailed, WriteFailed}
use Rattle.replay.specs.declared.progress.Progress.{Progress}
use Rattle.replay.specs.Turns.{end_of, begins, held_most, replay_state_at, turn_from, Took, Turned, EndsAs, Ran}
use Rattle.replay.proofs.Carry.{over_stops}

abbrev played : List (List ℕ) → ReplayState
played reads = parts_of (replay_begins begun) reads

abbrev OverAs : Option End → ReplayState → Type 0
OverAs None r = Unit
OverAs (Some end) r = EndsAs end r

-- While it runs, the program is where the definition is.
pub record Going (progress : Progress) (buffer : List ℕ) : Type 0 where
  pub reads : List (List ℕ)
  pub at : progress.end ≡ None → replay_state_at progress buffer (played reads).text ≡ played reads
  pub few : progress.end ≡ None → progress.held ≤ held_most
  pub over : OverAs progress.end (played reads)

pub going_begins : (buffer : List ℕ) → Going begins buffer
unfolding parts_of
going_begins buffer = record { reads = []; at = λ _. refl; few = λ _. omega arith; over = tt }

-- It is over, and nothing more is said of the reads.
stopped : (x : Progress) (buffer : List ℕ) (end : End) (reads : List (List ℕ)) → x.end ≡ Some end → EndsAs end (played reads) → Going x buffer
stopped x buffer end reads e ends =
    record {
      reads = reads;
      at = λ runs. absurd (over_stops x.end end e runs);
      few = λ runs. absurd (over_stops x.end end e runs);
      over = subst (λ (course : Option End). OverAs course (played reads)) (sym e) ends;
    }

-- Lines that stand before those of a part.
further_behind : (r : ReplayState) (come : List ℕ)
    → further_of r come ≡ replay_state (further_of (replay_state r.mailbox r.held r.stop []) come).mailbox (further_of (replay_state r.mailbox r.held r.stop []) come).held (further_of (replay_state r.mailbox r.held r.stop []) come).stop (r.text ++ (further_of (replay_state r.mailbox r.held r.stop []) come).text)
unfolding further_of
further_behind r come = refl

module _ (p : Progress) (buffer out : List ℕ) (x : Progress) (after lines : List ℕ) (going : Going p buffer) (runs : p.end ≡ None)
    (few : x.end ≡ None → x.held ≤ held_most) where
  took_on : (come : List ℕ) → Took (turn_from p buffer) come out x after lines → Going x after
  took_on [] took = stopped x after (Closed p.stop) going.reads (took.end ∙ pick_yes _ _ _ refl) (ap (λ (r : ReplayState). r.stop) (going.at runs))
  took_on (byte ∷ bytes) took =
      let come = byte ∷ bytes in
      let text = (played going.reads).text in
      let step = further_of (turn_from p buffer) come in
      let all = replay_state step.mailbox step.held step.stop (text ++ step.text) in
      let reads = going.reads ++ come ∷ [] in
      let is : played reads ≡ all = parts_one_more (replay_begins begun) going.reads come ∙ ap (λ (r : ReplayState). further_of r come) (sym (going.at runs)) ∙ further_behind (replay_state_at p buffer text) come in
      record {
        reads = reads;
        at = λ _. subst (λ (r : ReplayState). replay_state_at x after r.text ≡ r) (sym is) (ap (λ (r : ReplayState). replay_state r.mailbox r.held r.stop (text ++ step.text)) took.state);
        few = few;
        over = subst (λ (course : Option End). OverAs course (played reads)) (sym took.end)
            (pick_all (λ (course : Option End). OverAs course (played reads)) (unknown_of step.stop) (Some (Closed step.stop)) None
            (λ _. ap (λ (r : ReplayState). r.stop) (sym is)) (λ _. tt));
      }

  pub going_on : Turned (turn_from p buffer) out x after lines → Going x after
  going_on turn = by turn.goes
    where
      by : (x.end ≡ Some ReadFailed) ⊎ ((x.end ≡ Some WriteFailed) ⊎ Took (turn_from p buffer) turn.come out x after lines) → Going x after
      by (inl e) = stopped x after ReadFailed going.reads e tt
      by (inr (inl e)) = stopped x after WriteFailed going.reads e tt
      by (inr (inr took)) = took_on turn.come took

pub going_ends : (p : Progress) (buffer : List ℕ) (end : End) → Going p buffer → end ≡ end_of p.end → Ran end
going_ends p buffer end going e =
    subst Ran (sym e) (record { reads = going.reads; ended = ends p.end going.over })
  where
    ends : (course : Option End) → OverAs course (played going.reads) → EndsAs (end_of course) (played going.reads)
    ends None o = tt
    ends (Some end) o = o
