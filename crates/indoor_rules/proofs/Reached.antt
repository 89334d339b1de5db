-- Every session that calls lead to has written nothing but what the paper allows, and never closes early (01, The indoor end's phases).
use Prim.Native.Nat.{ℕ, ◌≤◌, ◌<◌}
use mathlib.Core.Bool.{false}
use mathlib.Core.Path.{◌≡◌, sym, subst}
use mathlib.Core.List.{List, [], ◌∷◌, Memᴰ}
use native.Mathlib.Omega.{arith}
use lib.ListN.{length, take}
use Rattle.basis.specs.Left.{left}
use Rattle.wire.specs.Fields.{Words}
use Rattle.wire.specs.Request as message
use Rattle.wire.specs.declared.request.Versions.{Versions}
use Rattle.wire.specs.Written.{request_bytes, bare_bytes}
use Rattle.wire.specs.declared.response.Response.TheVariants as Res
use Rattle.indoor_state.specs.Phase.{indoor_progress, indoor_state}
use Rattle.indoor_state.specs.declared.plan.Plan.{Plan}
use Rattle.indoor_state.specs.declared.plan.Release.{Release}
use Rattle.indoor_state.specs.declared.phase.Progress.{Progress}
use Rattle.indoor_state.specs.declared.phase.Phase.{Phase}
use Rattle.indoor_state.specs.declared.phase.Phase.TheVariants.{Initiate, Transfer, Validate, Done}
use Rattle.indoor_state.specs.declared.answer.Answer.TheVariants.{Identifying, Sending}
use Rattle.indoor_rules.specs.Decide.{indoor_decide_of}
use Rattle.indoor_rules.specs.Send.{sends_bytes}
use Rattle.indoor_rules.specs.Response.{indoor_response_of}
use Rattle.indoor_rules.specs.History.{Reached, starts, hears, passes, Genuine, AllGenuine, empty_block}
use Rattle.indoor_state.specs.declared.session.Indoor.{Indoor}
use Rattle.indoor_rules.specs.Step.{empty_number}
use Rattle.indoor_rules.proofs.Accepted.{last_enough}
use Rattle.indoor_rules.proofs.Orders.{accepted, initiated}
use Rattle.indoor_rules.proofs.Owes.{Fit}
use Rattle.indoor_rules.proofs.Elapsed.{stays_below}
use Rattle.indoor_rules.proofs.Walk.{time_walk}
use Rattle.indoor_rules.proofs.Laws.{silence_never_grows, plan_stays}
use Rattle.indoor_rules.proofs.Fresh.{Fresh, start_fresh}
use Rattle.indoor_rules.proofs.Genuine.{bytes_genuine}
use Rattle.indoor_rules.proofs.Holds.{EmptySent, Holds, heard_holds, ticked_holds}

-- It holds at the start, where GET_FW_ID is all that was written.
fresh_holds : (file : List ℕ) (release : Release) (s : Indoor) (first : List ℕ) → Words release.versions → Fresh release file s first → Holds file release s (first ∷ [])
unfolding sends_bytes request_bytes bare_bytes
fresh_holds file release s first words f = record {
  offered = f.offered;
  lent = f.lent;
  some = f.some;
  most = f.most;
  fit = subst (Fit s.plan) (sym f.identify) tt;
  genuine = (
    subst (λ (m : List ℕ). Genuine s.plan.release.versions file m (message.parsed_request_of m)) (sym f.written)
        (bytes_genuine s.plan file Identifying (rw f.offered words) f.lent f.most tt (λ e. omega arith)),
    tt,
  );
  emptied = subst (λ (p : Phase). EmptySent file p (first ∷ [])) (sym f.identify) tt;
}

pub reach_holds : (file : List ℕ) (release : Release) (s : Indoor) (sent : List (List ℕ)) → Words release.versions → Reached file release s sent → Holds file release s sent
reach_holds file release s sent words (starts limit resends _ out _ written out' e) =
    fresh_holds file release s (take written out') words (start_fresh release file out limit resends s written out' e)
reach_holds file release s sent words (hears {s = t} {sent = before} h lent response out same) =
    heard_holds file release words t before (reach_holds file release t before words h) lent response out same
reach_holds file release s sent words (passes {s = t} {sent = before} h lent elapsed out same) =
    ticked_holds file release words t before (reach_holds file release t before words h) lent elapsed out same

-- Silence is below the limit in every session that calls lead to.
pub reached_below : {file : List ℕ} {release : Release} {s : Indoor} {sent : List (List ℕ)} → Reached file release s sent → s.state.silence < s.plan.settings.limit
reached_below {file = file} (starts limit resends release out s written out' e) = (start_fresh release file out limit resends s written out' e).below
reached_below (hears {s = s} h lent response out same) =
    let below = reached_below h in
    let less = silence_never_grows s lent response out in
    subst (λ (p : Plan). (indoor_response_of s lent response out).answer.session.state.silence < p.settings.limit) (sym (plan_stays s lent response out)) (omega arith)
reached_below (passes {s = s} h lent elapsed out same) =
    let below = reached_below h in
    time_walk s lent elapsed out (λ x. x.answer.session.state.silence < x.answer.session.plan.settings.limit) below below
    (λ _ _. stays_below s.plan s.state.silence s.state.resends elapsed below s.state.phase)

genuine_each : (versions : Versions) (file : List ℕ) (sent : List (List ℕ)) (m : List ℕ) → AllGenuine versions file sent → Memᴰ m sent → Genuine versions file m (message.parsed_request_of m)
genuine_each versions file [] m all h = elim h [ ]
genuine_each versions file (x ∷ sent) m all (Memᴰ.head e) = rw e all.0
genuine_each versions file (x ∷ sent) m all (Memᴰ.tail h) = genuine_each versions file sent m all.1 h

emptied_at : (file : List ℕ) (before phase : Phase) (sent : List (List ℕ)) → before ≡ phase → EmptySent file before sent → EmptySent file phase sent
emptied_at file before phase sent e h = rw e at h

fit_at : (plan : Plan) (before phase : Phase) → before ≡ phase → Fit plan before → Fit plan phase
fit_at plan before phase e h = rw e at h

module _ (file : List ℕ) (release : Release) (s : Indoor) (sent : List (List ℕ)) (words : Words release.versions) (reached : Reached file release s sent) where
  -- Every request ever written is GET_FW_ID, INITIATE with the file's versions, a DATA whose number j ≤ n carries exactly block j of the
  -- file, VALIDATE or ABORT.
  pub all_genuine : AllGenuine release.versions file sent
  all_genuine = let h = reach_holds file release s sent words reached in rw h.offered at h.genuine

  pub each_genuine : (m : List ℕ) → Memᴰ m sent → Genuine release.versions file m (message.parsed_request_of m)
  each_genuine m = genuine_each release.versions file sent m all_genuine

  -- There is no Validate and no Done before the empty block has gone out.
  pub validate_emptied : (left : ℕ) → s.state.phase ≡ Validate left → Memᴰ (empty_block file) sent
  validate_emptied left e = emptied_at file s.state.phase (Validate left) sent e (reach_holds file release s sent words reached).emptied

  pub done_emptied : s.state.phase ≡ Done → Memᴰ (empty_block file) sent
  done_emptied e = emptied_at file s.state.phase Done sent e (reach_holds file release s sent words reached).emptied

  -- The file is 1 to 1,048,575 bytes, and the block last asked for is one of its n blocks or the empty one.
  pub length_within : (1 ≤ length file) × (length file ≤ 1048575) × (s.plan.length ≡ length file)
  length_within = let h = reach_holds file release s sent words reached in (h.some, h.most, h.lent)

  pub asked_within : (p : Progress) → s.state.phase ≡ Transfer p → p.asked ≤ empty_number s.plan
  asked_within p e = fit_at s.plan s.state.phase (Transfer p) e (reach_holds file release s sent words reached).fit

  -- So a ready INITIATE answer that has room for the file brings block 0: there is one.
  pub ready_brings_0 : (left silence resends size : ℕ) → length file ≤ size
      → indoor_decide_of s.plan (indoor_state (Initiate left) silence resends) (Res.Initiate 0 0 size)
      ≡ accepted (Transfer (indoor_progress 0 0 false)) (Sending 0)
  ready_brings_0 left silence resends size room =
      let w = length_within in
      let some = w.0 in
      let same = w.2 in
      let blocks = last_enough s.plan in
      initiated s.plan silence resends left size (omega (arith, room, same)) (omega (arith, some, same, blocks))
