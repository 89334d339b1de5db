-- What holds in every world that is reached: the receiver has only the file's blocks, success is answered in Good alone, and the indoor end is
-- done only after such an answer.
use Prim.Native.Nat.{ℕ}
use mathlib.Core.Logic.{◌⊎◌, inl, inr}
use mathlib.Core.Path.{◌≡◌, refl, sym, ◌∙◌, ap, subst}
use mathlib.Core.List.{List, [], Memᴰ}
use native.Mathlib.Omega.{arith}
use lib.ListN.{length, take, drop}
use Rattle.basis.specs.Pick.{pick}
use Rattle.basis.specs.Left.{Left}
use Rattle.lent.specs.Sent.{with_sent}
use Rattle.image.specs.Blocks.{block_at}
use Rattle.wire.specs.Request as message
use Rattle.wire.specs.declared.request.Request.TheVariants as Req
use Rattle.wire.specs.Request.{Parsed}
use Rattle.wire.specs.declared.response.Identity.{Identity}
use Rattle.receiver_state.specs.declared.phase.Accepted.{Accepted}
use Rattle.receiver_state.specs.declared.phase.Phase.{Phase as ReceiverPhase}
use Rattle.receiver_state.specs.declared.phase.Phase.TheVariants.{Idle, Transfer, Await, Good}
use Rattle.receiver_state.proofs.Truth.{IsGood}
use Rattle.receiver_state.specs.declared.verdict.Verdict.{Verdict}
use Rattle.receiver_rules.specs.Request.{receiver_request_of}
use Rattle.receiver_rules.specs.Time.{receiver_time_of}
use Rattle.receiver_rules.specs.History as taking
use Rattle.receiver_rules.proofs.Answers.{answers_28}
use Rattle.receiver_rules.proofs.Laws.{settings_stay}
use Rattle.receiver_rules.proofs.Stored.{image_length}
use Rattle.receiver_rules.proofs.TimeLaws.{time_settings}
use Rattle.receiver_rules.proofs.Fresh as receiverFresh
use Rattle.receiver_rules.proofs.OfFile.{Carries, Closed, OfFile, request_of_file, time_of_file, good_of_file, behind_kept}
use Rattle.receiver_rules.proofs.Truthful.{Succeeds, Truthful, request_truthful, request_stays_good, time_truthful, time_stays_good}
use Rattle.indoor_state.specs.declared.plan.Release.{Release}
use Rattle.indoor_state.specs.declared.phase.Phase.TheVariants.{Done}
use Rattle.indoor_rules.specs.Response.{indoor_response_of}
use Rattle.indoor_rules.specs.Time.{indoor_time_of}
use Rattle.indoor_rules.specs.History as sending
use Rattle.indoor_state.specs.Session.{IndoorOutcome}
use Rattle.indoor_rules.proofs.Entering as entering
use Rattle.indoor_rules.proofs.Ticks.{order}
use Rattle.indoor_rules.proofs.Fresh as indoorFresh
use Rattle.indoor_rules.proofs.Reached.{each_genuine}
use Rattle.line.specs.Line.{World, Other, Lent, after_request, after_receiver_time, after_indoor_call, Wide, Fresh, Reached, begins, to_receiver, to_indoor, at_receiver, at_indoor, Holds, MarkedGood}
use Rattle.line.proofs.Sent.{none_sent, sent_or_new}
use Rattle.std.specs.Prelude.{Ok}

module _ (file memory : List ℕ) (release : Release) (identity : Identity) where
  pub record Safe (w : World) : Type 0 where
    pub taken : List (List ℕ)
    pub accepted : OfFile file w.receiver w.image taken
    pub who : w.receiver.identity ≡ identity
    pub capacity : w.receiver.capacity ≡ length memory
    pub size : length w.image ≡ length memory
    pub behind : drop (length file) w.image ≡ drop (length file) memory
    pub sent : sending.Reached file release w.indoor w.requests
    pub truthful : (m : List ℕ) → Memᴰ m w.responses → Truthful w.receiver.phase m
    pub done : w.indoor.state.phase ≡ Done → IsGood w.receiver.phase

  -- A request that the indoor end sent carries the file's block of its number.
  genuine_data : (m : List ℕ) (p : Parsed) (number size : ℕ) → p ≡ Ok (Req.Data number size) → sending.Genuine release.versions file m p → drop 4 m ≡ block_at file number
  genuine_data m p number size e h = (rw e at h).1

  carries : Wide release identity → (w : World) → Safe w → (request : List ℕ) → Memᴰ request w.requests → Carries file request
  carries wide w s request h number size e =
      genuine_data request (message.parsed_request_of request) number size e (each_genuine file release w.indoor w.requests wide.offered s.sent request h)

  old_or_new : (before next : ReceiverPhase) (responses : List (List ℕ)) (written : ℕ) (out : List ℕ) → (IsGood before → IsGood next) → Truthful next (take written out)
      → ((m : List ℕ) → Memᴰ m responses → Truthful before m)
      → (m : List ℕ) → (m ≡ take written out) ⊎ Memᴰ m responses → Truthful next m
  old_or_new before next responses written out stays new old m (inl e) = subst (Truthful next) (sym e) new
  old_or_new before next responses written out stays new old m (inr h) = λ t. stays (old m h t)

  -- Responses that were true stay true, because Good is never left.
  truthful_on : (before next : ReceiverPhase) (responses : List (List ℕ)) (written : ℕ) (out : List ℕ) → (IsGood before → IsGood next) → Truthful next (take written out)
      → ((m : List ℕ) → Memᴰ m responses → Truthful before m)
      → (m : List ℕ) → Memᴰ m (with_sent written out responses) → Truthful next m
  truthful_on before next responses written out stays new old m h = old_or_new before next responses written out stays new old m (sent_or_new written out responses m h)

  module _ (wide : Wide release identity) (w : World) (s : Safe w) where
    image_safe : (request : List ℕ) → Memᴰ request w.requests → (readiness : ℕ) (verdict : Verdict) (out : List ℕ)
        → Safe (after_request w w.image (inl refl) (receiver_request_of w.receiver w.image request readiness verdict out))
    image_safe request h readiness verdict out =
        let r = w.receiver in
        let same = carries wide w s request h in
        let x = receiver_request_of r w.image request readiness verdict out in
        record {
          taken = taking.taken_after r request x.outcome s.taken;
          accepted = request_of_file file r w.image s.taken s.accepted request readiness verdict out same;
          who = (settings_stay r w.image request readiness verdict out).1 ∙ s.who;
          capacity = (settings_stay r w.image request readiness verdict out).2 ∙ s.capacity;
          size = image_length r w.image request readiness verdict out ∙ s.size;
          behind = behind_kept file r w.image request readiness verdict out same ∙ s.behind;
          sent = s.sent;
          truthful = truthful_on r.phase x.outcome.session.phase w.responses x.outcome.written x.out
              (request_stays_good r w.image request readiness verdict out) (request_truthful r w.image request readiness verdict out) s.truthful;
          done = λ e. request_stays_good r w.image request readiness verdict out (s.done e);
        }

    passed_safe : (elapsed : ℕ) (out : List ℕ) → Safe (after_receiver_time w (receiver_time_of w.receiver elapsed out))
    passed_safe elapsed out =
        let r = w.receiver in
        let x = receiver_time_of r elapsed out in
        record {
          taken = taking.forgets x.answer.session.phase s.taken;
          accepted = time_of_file file r w.image s.taken s.accepted elapsed out;
          who = (time_settings r elapsed out).1 ∙ s.who;
          capacity = (time_settings r elapsed out).2 ∙ s.capacity;
          size = s.size;
          behind = s.behind;
          sent = s.sent;
          truthful = truthful_on r.phase x.answer.session.phase w.responses x.answer.written x.memory (time_stays_good r elapsed out) (time_truthful r elapsed out) s.truthful;
          done = λ e. time_stays_good r elapsed out (s.done e);
        }

    -- A call that is lent another memory is refused, and nothing changes (28).
    refused_safe : (request lent : List ℕ) (other : Other w.image lent) (readiness : ℕ) (verdict : Verdict) (out : List ℕ)
        → Safe (after_request w lent (inr other) (receiver_request_of w.receiver lent request readiness verdict out))
    unfolding pick
    refused_safe request lent other readiness verdict out =
        rw (answers_28 w.receiver lent request readiness verdict out (λ e. other (e ∙ s.capacity ∙ sym s.size))) s

    request_safe : (request : List ℕ) → Memᴰ request w.requests → (lent : List ℕ) (which : Lent w.image lent) (readiness : ℕ) (verdict : Verdict) (out : List ℕ)
        → Safe (after_request w lent which (receiver_request_of w.receiver lent request readiness verdict out))
    request_safe request h lent (inl same) readiness verdict out =
        subst (λ (x : List ℕ). Safe (after_request w w.image (inl refl) (receiver_request_of w.receiver x request readiness verdict out))) (sym same)
        (image_safe request h readiness verdict out)
    request_safe request h lent (inr other) readiness verdict out = refused_safe request lent other readiness verdict out

    lent_same : (lent : List ℕ) → Lent file lent → length lent ≡ length file → lent ≡ file
    lent_same lent (inl same) e = same
    lent_same lent (inr other) e = absurd (other e)

    -- The indoor end goes to Done only on a success that a receiver in Good answered.
    believed : (response : List ℕ) → Memᴰ response w.responses → (w.indoor.state.phase ≡ Done) ⊎ entering.Succeeds w.indoor.state.phase response → IsGood w.receiver.phase
    believed response h (inl e) = s.done e
    believed response h (inr t) = s.truthful response h (subst Succeeds (sym t.parsed) refl)

    -- A call of the indoor end changes it alone, and what it sent.
    indoor_safe : (x : Left IndoorOutcome) → sending.Reached file release x.answer.session (with_sent x.answer.written x.memory w.requests)
        → (x.answer.session.state.phase ≡ Done → IsGood w.receiver.phase)
        → Safe (after_indoor_call w x)
    indoor_safe x sent done = record {
      taken = s.taken;
      accepted = s.accepted;
      who = s.who;
      capacity = s.capacity;
      size = s.size;
      behind = s.behind;
      sent = sent;
      truthful = s.truthful;
      done = done;
    }

    response_safe : (response : List ℕ) → Memᴰ response w.responses → (lent : List ℕ) → Lent file lent → (out : List ℕ) → Safe (after_indoor_call w (indoor_response_of w.indoor lent response out))
    response_safe response h lent which out =
        indoor_safe (indoor_response_of w.indoor lent response out)
        (sending.hears s.sent lent response out (lent_same lent which))
        (λ e. believed response h (entering.done_entered w.indoor lent response out e))

    time_safe : (lent : List ℕ) → Lent file lent → (elapsed : ℕ) (out : List ℕ) → Safe (after_indoor_call w (indoor_time_of w.indoor lent elapsed out))
    time_safe lent which elapsed out =
        indoor_safe (indoor_time_of w.indoor lent elapsed out)
        (sending.passes s.sent lent elapsed out (lent_same lent which))
        (λ e. s.done (entering.time_done w.indoor lent elapsed out e))

  fresh_safe : (limit resends limit' resends' : ℕ) (w : World) → Fresh file memory release identity limit resends limit' resends' w → Safe w
  fresh_safe limit resends limit' resends' w f =
      let r = receiverFresh.start_fresh limit resends identity (length memory) w.receiver f.receiver in
      let i = indoorFresh.start_fresh release file f.out limit' resends' w.indoor f.written f.out' f.indoor in
      record {
        taken = [];
        accepted = record {
          reached = taking.starts limit resends identity (length memory) w.receiver w.image f.receiver;
          blocks = tt;
          closed = subst (Closed file) (sym r.idle) tt;
        };
        who = r.who;
        capacity = r.room;
        size = ap length f.image;
        behind = ap (drop (length file)) f.image;
        sent = subst (sending.Reached file release w.indoor) (sym f.requests)
            (sending.starts limit' resends' release f.out w.indoor f.written f.out' f.indoor);
        truthful = λ m h. absurd (none_sent m w.responses f.responses h);
        done = λ e. let four = ap order (sym i.identify ∙ e) in absurd (omega arith);
      }

  pub reached_safe : Wide release identity → {w : World} → Reached file memory release identity w → Safe w
  reached_safe wide (begins limit resends limit' resends' w f) = fresh_safe limit resends limit' resends' w f
  reached_safe wide (to_receiver {w = v} h request m lent which readiness verdict out) = request_safe wide v (reached_safe wide h) request m lent which readiness verdict out
  reached_safe wide (to_indoor {w = v} h response m lent which out) = response_safe wide v (reached_safe wide h) response m lent which out
  reached_safe wide (at_receiver {w = v} h elapsed out) = passed_safe wide v (reached_safe wide h) elapsed out
  reached_safe wide (at_indoor {w = v} h lent which elapsed out) = time_safe wide v (reached_safe wide h) lent which elapsed out

  module _ (wide : Wide release identity) (w : World) (h : Reached file memory release identity w) where
    pub never_wrong_lem : (a : Accepted) → w.receiver.phase ≡ Good a → Holds file memory release identity a w
    never_wrong_lem a e =
        let s = reached_safe wide h in
        let g = good_of_file file w.receiver w.image s.taken s.accepted a e in
        record { counted = g.0; bytes = g.1; behind = s.behind }

    marked : (phase : ReceiverPhase) → w.receiver.phase ≡ phase → IsGood phase → MarkedGood file memory release identity w
    marked Idle e g = absurd g
    marked (Transfer p) e g = absurd g
    marked (Await a) e g = absurd g
    marked (Good a) e g = record { accepted = a; good = e; holds = never_wrong_lem a e }

    pub done_is_good_lem : w.indoor.state.phase ≡ Done → MarkedGood file memory release identity w
    done_is_good_lem e = marked w.receiver.phase refl ((reached_safe wide h).done e)
