-- One lost message is made good: every line that loses one is at a station, and no station is a failure (docs/HAZARDS.md, part 6).
use Prim.Native.Nat.{ℕ, suc, ◌+◌, ◌*◌, ◌≤◌, ◌<◌}
use mathlib.Core.Bool.{Bool, true, false}
use mathlib.Core.Path.{◌≡◌, refl, sym, ◌∙◌, ap}
use mathlib.Core.List.{List, [], ◌∷◌}
use native.Mathlib.Omega.{arith}
use lib.Dec.{ltb, eqb}
use lib.ListN.{length, take}
use Rattle.std.specs.Prelude.{Ok, Err}
use Rattle.basis.specs.Pick.{pick_all}
use Rattle.basis.specs.Left.{Left, left}
use Rattle.silence.specs.Settings.{limit_least, limit_most, resends_most, settings_of}
use Rattle.silence.specs.Settings.{Checked}
use Rattle.image.specs.Blocks.{blocks_of}
use Rattle.wire.specs.Codes.{image_size_most, longest}
use Rattle.wire.specs.Written.{request_bytes, bare_bytes}
use Rattle.receiver_state.specs.declared.answer.Answer.{Answer}
use Rattle.receiver_state.specs.declared.phase.Phase as receiver
use Rattle.receiver_state.specs.declared.phase.Phase.TheVariants.{Idle}
use Rattle.receiver_state.specs.declared.session.Receiver.{Receiver}
use Rattle.receiver_state.specs.Session.{Started}
use Rattle.receiver_rules.specs.Session.{receiver_fresh_of, receiver_start_of}
use Rattle.receiver_rules.proofs.Fresh as receiverFresh
use Rattle.receiver_rules.proofs.Reached.{reached_capacity}
use Rattle.indoor_state.specs.Session.{IndoorStart, indoor_made, indoor_start_number_of}
use Rattle.indoor_state.specs.declared.phase.Phase.{Phase}
use Rattle.indoor_state.specs.declared.phase.Phase.TheVariants.{Identify, Initiate, Transfer, Validate, Done}
use Rattle.indoor_state.specs.declared.session.Indoor.{Indoor}
use Rattle.indoor_state.specs.declared.session.Started.{Started as IndoorStarted}
use Rattle.indoor_state.specs.declared.session.StartRefused.TheVariants as In
use Rattle.indoor_rules.specs.Newer.{newer_of}
use Rattle.indoor_rules.specs.Send.{sends_bytes}
use Rattle.indoor_rules.specs.Start.{indoor_begin_of, indoor_started_of, indoor_start_of}
use Rattle.indoor_rules.proofs.Fresh as indoorFresh
use Rattle.indoor_rules.proofs.Reached.{reach_holds}
use Rattle.indoor_rules.proofs.Ticks.{order}
use Rattle.line.specs.Line.{World, Wide, Fresh}
use Rattle.line.proofs.AnyLine.{Safe, reached_safe, done_is_good_lem}
use Rattle.lost.specs.Lost.{going, Timed, timed, Bounds, rises, falls, loses_up, loses_down, Lossy, begins, goes, passes, MadeGood, OneLost}
use Rattle.lost.proofs.Carried.{Given, roof, indoors}
use Rattle.lost.proofs.Times.{times, times_next, times_most}
use Rattle.lost.proofs.Stations.{n, trips, Owes, next, close, Station, identifying, identified, unidentified, initiating, offered, unoffered, block, receipt, unreceived, validating, succeeded, unvalidated, finished}
use Rattle.lost.proofs.Passing.{passes_on}
use Rattle.lost.proofs.Arriving.{Fits, rises_on}
use Rattle.lost.proofs.Answering.{falls_on}
use Rattle.lost.proofs.Losing.{up_lost, down_lost}
use Rattle.lost.proofs.Reached.{lossy_reached, timed_goes_on}
use Rattle.std.specs.Prelude.{Ok, Err}
use Rattle.silence.specs.Settings.{out_of_limits}

-- Every settings that are made are those that were given, whatever is made of them.
settings_given : (P : Checked → Type 0) (limit resends : ℕ) → P (Err out_of_limits) → P (Ok (record { limit = limit; resends = resends })) → P (settings_of limit resends)
unfolding settings_of
settings_given P limit resends refused made =
    pick_all P (ltb limit limit_least) _ _ (λ _. refused) (λ _. pick_all P (ltb limit_most limit) _ _ (λ _. refused) (λ _. pick_all P (ltb resends_most resends) _ _ (λ _. refused) (λ _. made)))

made_same : (a b : Receiver) → ◌≡◌ {A = Started} (Ok a) (Ok b) → a ≡ b
made_same a b e = cc

begun_same : (a b : IndoorStarted) → ◌≡◌ {A = IndoorStart} (Ok a) (Ok b) → a ≡ b
begun_same a b e = cc

indoor_same : (a b : Indoor) (w v : ℕ) (o p : List ℕ) → ◌≡◌ {A = Left IndoorStart} (left (indoor_made a w) o) (left (indoor_made b v) p) → a ≡ b
indoor_same a b w v o p e = ap (λ (x : IndoorStarted). x.session) (begun_same _ _ (ap (λ (y : Left IndoorStart). y.answer) e))

module _ (x : Given) where
  -- A fresh receiver is in Idle, with no silence and no resend made.
  roof_fresh : (r : Receiver) → receiver_start_of x.outdoor.limit x.outdoor.resends x.identity (length x.memory) ≡ Ok r → r ≡ roof x Idle 0 0
  unfolding receiver_start_of receiver_fresh_of
  roof_fresh r =
      pick_all (λ (y : Started). y ≡ Ok r → r ≡ roof x Idle 0 0) (ltb image_size_most (length x.memory)) _ _
      (λ _ e. absurd (receiverFresh.refused_made _ r e))
      (λ _. settings_given (λ (y : Checked). receiver_fresh_of y x.identity (length x.memory) ≡ Ok r → r ≡ roof x Idle 0 0) x.outdoor.limit x.outdoor.resends
      (λ e. absurd (receiverFresh.refused_made _ r e)) (λ e. sym (made_same _ r e)))

  -- A fresh indoor end is in Identify, alike.
  indoors_fresh : (out : List ℕ) (s : Indoor) (written : ℕ) (out' : List ℕ)
      → indoor_start_of x.indoor.limit x.indoor.resends x.release x.file out ≡ left (indoor_made s written) out' → s ≡ indoors x Identify 0 0
  unfolding indoor_started_of indoor_begin_of
  indoors_fresh out s written out' =
      let M : Left IndoorStart → Type 0 = λ y. y ≡ left (indoor_made s written) out' → s ≡ indoors x Identify 0 0 in
      let none : (number : ℕ) (a : IndoorStart) → indoor_start_number_of a ≡ suc number → M (left a out) = λ number a h e.
      let zero = sym h ∙ ap (λ (y : Left IndoorStart). indoor_start_number_of y.answer) e in absurd (omega arith) in
      settings_given (λ (y : Checked). M (indoor_started_of y x.release x.file out)) x.indoor.limit x.indoor.resends
      (none 28 (Err In.Settings) refl)
      (pick_all M (eqb (length x.file) 0) _ _ (λ _. none 45 (Err In.FileSize) refl)
      (λ _. pick_all M (ltb image_size_most (length x.file)) _ _ (λ _. none 45 (Err In.FileSize) refl)
      (λ _. pick_all M (ltb (length out) longest) _ _ (λ _. none 26 (Err In.BufferShort) refl)
      (λ _ e. sym (indoor_same _ s _ written _ out' e)))))

  module _ (wide : Wide x.release x.identity) (newer : newer_of x.release x.identity ≡ true) (room : length x.file ≤ length x.memory)
      (bounds : Bounds x.outdoor.limit x.outdoor.resends x.indoor.limit x.indoor.resends x.up x.down) where
    abbrev Runs : ℕ → Timed → Type 0
    Runs ms l = Lossy x.file x.memory x.release x.identity x.up x.down x.outdoor.limit x.outdoor.resends x.indoor.limit x.indoor.resends ms l

    safe : {ms : ℕ} {l : Timed} → Runs ms l → Safe x.file x.memory x.release x.identity l.world
    safe h = reached_safe x.file x.memory x.release x.identity wide (lossy_reached x.file x.memory x.release x.identity x.up x.down h).reached

    fits : {ms : ℕ} {l : Timed} → Runs ms l → Fits x
    unfolding blocks_of
    fits {l = l} h =
        let s = safe h in
        let held = reach_holds x.file x.release l.world.indoor l.world.requests wide.offered s.sent in
        let some = held.some in
        let most = held.most in
        let capacity = s.capacity in
        let within = reached_capacity s.accepted.reached in
        record { wide = wide; newer = newer; room = room; most = omega arith; some = omega arith; few = omega arith }

    begun : (w : World) (f : Fresh x.file x.memory x.release x.identity x.outdoor.limit x.outdoor.resends x.indoor.limit x.indoor.resends w)
        → Station x 0 (timed w (going (take f.written f.out') 0 ∷ []) [] false)
    unfolding sends_bytes request_bytes bare_bytes
    begun w f =
        let i = indoorFresh.start_fresh x.release x.file f.out x.indoor.limit x.indoor.resends w.indoor f.written f.out' f.indoor in
        identifying 0 0 0 0 0
        (record {
          receiver = roof_fresh w.receiver f.receiver;
          indoor = indoors_fresh f.out w.indoor f.written f.out' f.indoor;
          rising = ap (λ (m : List ℕ). going m 0 ∷ []) i.written;
          falling = refl;
        })
        (omega arith) (omega arith) (record { most = omega arith; once = omega arith; none = λ _. (refl, refl) })

    limits : x.outdoor.limit ≤ x.indoor.limit
    limits = let heals = bounds.heals in omega arith

    -- Every line is at a station.
    on_station : {ms : ℕ} {l : Timed} → Runs ms l → Station x ms l
    on_station (begins w f) = begun w f
    on_station {ms = ms} (goes {l = l} h _ (rises request age later e out long)) = rises_on x (fits h) ms l (safe h).size out long request age later e (on_station h)
    on_station {ms = ms} (goes {l = l} h _ (falls response age later e out long)) = falls_on x ms l (fits h) out long response age later e limits (on_station h)
    on_station {ms = ms} (goes {l = l} h _ (loses_up g later e whole)) = up_lost x bounds ms l whole g later e (on_station h)
    on_station {ms = ms} (goes {l = l} h _ (loses_down g later e whole)) = down_lost x bounds ms l whole g later e (on_station h)
    on_station (passes {ms = ms} {l = l} h young young' out out' long long') = passes_on x bounds (fits h).few ms l young young' out out' long long' (on_station h)

    -- No station is a failure ..
    earlier : {i : Indoor} (p : Phase) {t sent : ℕ} → i ≡ indoors x p t sent → order p < 5 → order i.state.phase < 5
    earlier p e low = let same = ap (λ (i : Indoor). order i.state.phase) e in omega arith

    unfailed : {ms : ℕ} {l : Timed} → Station x ms l → order l.world.indoor.state.phase < 5
    unfailed (identifying _ _ _ _ _ at _ _ _) = earlier Identify at.indoor (omega arith)
    unfailed (identified _ _ _ _ _ _ at _ _ _ _) = earlier Identify at.indoor (omega arith)
    unfailed (unidentified _ _ _ at _ _ _) = earlier Identify at.indoor (omega arith)
    unfailed (initiating _ _ _ _ _ _ _ _ at _ _ _ _ _) = earlier (Initiate 0) at.indoor (omega arith)
    unfailed (offered _ _ _ _ _ at _ _ _ _ _ _) = earlier (Initiate 0) at.indoor (omega arith)
    unfailed (unoffered _ _ _ _ _ _ at _ _ _ _) = earlier (Initiate 0) at.indoor (omega arith)
    unfailed (block _ _ _ _ _ _ _ _ at _ _ _ _ _ _ _ _) = earlier (Transfer _) at.indoor (omega arith)
    unfailed (receipt _ _ _ _ _ _ _ _ _ _ at _ _ _ _ _) = earlier (Transfer _) at.indoor (omega arith)
    unfailed (unreceived _ _ _ _ _ _ _ _ at _ _ _ _) = earlier (Transfer _) at.indoor (omega arith)
    unfailed (validating _ _ _ _ _ _ _ _ at _ _ _ _ _) = earlier (Validate 0) at.indoor (omega arith)
    unfailed (succeeded _ _ _ _ _ _ _ _ at _ _ _ _ _ _) = earlier (Validate 0) at.indoor (omega arith)
    unfailed (unvalidated _ _ _ _ _ _ at _ _ _ _) = earlier (Validate 0) at.indoor (omega arith)
    unfailed (finished _ _ _ _ _ at) = earlier Done at.indoor (omega arith)

    -- .. and every station but the last is left in time.
    owed : {p : receiver.Phase} {emptied : Bool} {due : Answer} {k : ℕ} → Owes x p emptied due k → k ≤ n x + 3
    owed (next _ _ _ _ most _) = omega arith
    owed (close _ _) = omega arith

    module _ (ms : ℕ) (late : (n x + 4) * (x.up + x.down) + x.indoor.limit < ms) where
      -- The last round trip, and k of those before it.
      sum : (k : ℕ) → k ≤ n x + 3 → trips x k + (x.up + x.down) + x.indoor.limit < ms
      unfolding times
      sum k low =
          let less = times_most k (n x + 3) (x.up + x.down) low in
          let last = times_next (n x + 3) (n x + 4) (x.up + x.down) (omega arith) in
          omega arith

      done : {l : Timed} → Station x ms l → l.world.indoor.state.phase ≡ Done
      done (identifying _ _ _ _ _ _ young clock c) = let s = sum 0 (omega arith) in let most = c.most in absurd (omega arith)
      done (identified _ _ _ _ _ _ _ young since clock c) = let s = sum 0 (omega arith) in let most = c.most in absurd (omega arith)
      done (unidentified _ _ _ _ low clock _) = let s = sum 0 (omega arith) in absurd (omega arith)
      done (initiating _ _ _ _ _ _ _ _ _ _ _ young clock c) = let s = sum 1 (omega arith) in let most = c.most in absurd (omega arith)
      done (offered _ _ _ _ _ _ _ _ young since clock c) = let s = sum 1 (omega arith) in let most = c.most in absurd (omega arith)
      done (unoffered _ _ _ _ _ _ _ _ low clock _) = let s = sum 1 (omega arith) in absurd (omega arith)
      done (block j _ _ _ _ _ _ _ _ _ most _ _ young _ clock c) = let s = sum (j + 2) (omega arith) in let cost = c.most in absurd (omega arith)
      done (receipt _ _ k _ _ _ _ _ _ owes _ young _ _ clock c) = let s = sum k (owed owes) in let most = c.most in absurd (omega arith)
      done (unreceived _ _ k _ _ _ _ owes _ low _ clock _) = let s = sum k (owed owes) in let heals = bounds.heals in absurd (omega arith)
      done (validating _ _ _ _ _ _ _ _ _ _ _ young clock c) = let s = sum (n x + 3) (omega arith) in let most = c.most in absurd (omega arith)
      done (succeeded _ _ _ _ _ _ _ _ _ _ _ young since clock c) = let s = sum (n x + 3) (omega arith) in let most = c.most in absurd (omega arith)
      done (unvalidated _ _ _ _ _ _ _ _ low clock _) = let s = sum (n x + 3) (omega arith) in absurd (omega arith)
      done (finished _ _ _ _ _ at) = ap (λ (i : Indoor). i.state.phase) at.indoor

    promised : MadeGood x.file x.memory x.release x.identity x.up x.down x.outdoor.limit x.outdoor.resends x.indoor.limit x.indoor.resends
    promised = record {
      goes_on = λ ms l _. timed_goes_on x.file x.memory x.release x.identity x.up x.down l;
      never_fails = λ ms l h reason e. let low = unfailed (on_station h) in let failed = ap order e in omega arith;
      done_in_time = λ ms l h late.
          let e = done ms late (on_station h) in
          (e, done_is_good_lem x.file x.memory x.release x.identity wide l.world (lossy_reached x.file x.memory x.release x.identity x.up x.down h).reached e);
    }

pub made_good : OneLost
made_good file memory release identity wide newer room limit resends limit' resends' up down bounds =
    promised
    (record { file = file; memory = memory; release = release; identity = identity; outdoor = record { limit = limit; resends = resends }; indoor = record { limit = limit'; resends = resends' }; up = up; down = down })
    wide newer room bounds
