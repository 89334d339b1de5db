-- A number that is wider than the rules take it gets the same answer as the widest that they take: a setting 29, a wait 26, and an elapsed time is
-- one expiry.
use Prim.Native.Nat.{ℕ, ◌<◌, ◌≤◌}
use mathlib.Core.Bool.{Bool, true, false}
use mathlib.Core.Path.{◌≡◌, refl, sym, ◌∙◌}
use mathlib.Core.List.{List}
use native.Mathlib.Omega.{arith}
use borrow.Author.Tests.{lt-ltb, le-ltb, ltb-true}
use lib.Dec.{ltb, eqb}
use Rattle.basis.specs.Pick.{pick, pick_all, pick_yes, pick_no}
use Rattle.silence.specs.Settings.{limit_least, limit_most, resends_most, settings_of}
use Rattle.wire.specs.declared.response.Identity.{Identity}
use Rattle.receiver_state.specs.declared.verdict.Verdict.{Verdict}
use Rattle.receiver_state.specs.declared.verdict.Verdict.TheVariants.{Good, Bad, Later}
use Rattle.receiver_state.specs.declared.session.Receiver.{Receiver}
use Rattle.receiver_rules.specs.Range.{wait_most, later_outside, verdict_outside, out_of_range}
use Rattle.receiver_rules.specs.Session.{receiver_start_of}
use Rattle.receiver_rules.specs.Request.{receiver_request_of}
use Rattle.receiver_rules.specs.Time.{receiver_time_of}
use Rattle.receiver_rules.proofs.TimeLaws.{time_many}
use Rattle.width.specs.Narrow.{at_most}
use Rattle.receiver_c.specs.Words.{session_at}
use Rattle.receiver_c.specs.Verdict.{verdict_of}
use Rattle.std.specs.Prelude.{Err}
use Rattle.silence.specs.Settings.{out_of_limits}

long_refused : (limit resends : ℕ) → 10000 < limit → settings_of limit resends ≡ (Err out_of_limits)
unfolding settings_of
long_refused limit resends h = pick_no _ _ _ (le-ltb limit limit_least (omega arith)) ∙ pick_yes _ _ _ (lt-ltb limit_most limit h)

many_refused : (limit a b : ℕ) → 10 < a → 10 < b → settings_of limit a ≡ settings_of limit b
unfolding settings_of pick
many_refused limit a b h h' = rw (lt-ltb resends_most a h, lt-ltb resends_most b h')

settings_narrow : (limit resends : ℕ) → settings_of (at_most 65535 limit) (at_most 255 resends) ≡ settings_of limit resends
unfolding at_most
settings_narrow limit resends =
    pick_all (λ (n : ℕ). settings_of n (pick (ltb 255 resends) 255 resends) ≡ settings_of limit resends) (ltb 65535 limit) 65535 limit
    (λ t. let wide = ltb-true 65535 limit t in long_refused 65535 _ (omega arith) ∙ sym (long_refused limit resends (omega arith)))
    (λ _. pick_all (λ (n : ℕ). settings_of limit n ≡ settings_of limit resends) (ltb 255 resends) 255 resends
    (λ t. let wide = ltb-true 255 resends t in many_refused limit 255 resends (omega arith) (omega arith))
    (λ _. refl))

pub start_narrow : (limit resends : ℕ) (identity : Identity) (capacity : ℕ)
    → receiver_start_of (at_most 65535 limit) (at_most 255 resends) identity capacity ≡ receiver_start_of limit resends identity capacity
unfolding receiver_start_of
start_narrow limit resends identity capacity = rw (settings_narrow limit resends)

module _ (r : Receiver) (image request out : List ℕ) where
  both_26 : (a b : ℕ) (v v' : Verdict) → out_of_range a v ≡ true → out_of_range b v' ≡ true
      → receiver_request_of r image request a v out ≡ receiver_request_of r image request b v' out
  unfolding receiver_request_of pick
  both_26 a b v v' e e' = rw (e, e')

  ready_outside : (readiness : ℕ) (v : Verdict) → 254 < readiness → out_of_range readiness v ≡ true
  unfolding out_of_range
  ready_outside readiness v h = pick_yes _ _ _ (lt-ltb wait_most readiness h)

  later_outside_lem : (readiness wait : ℕ) → 254 < wait → out_of_range readiness (Later wait) ≡ true
  unfolding out_of_range verdict_outside later_outside
  later_outside_lem readiness wait h =
      pick_all (λ (b : Bool). b ≡ true) (ltb wait_most readiness) _ _ (λ _. refl)
      (λ _. pick_all (λ (b : Bool). b ≡ true) (eqb wait 0) _ _ (λ _. refl) (λ _. lt-ltb wait_most wait h))

  later_narrow : (readiness later : ℕ) (other : Verdict) (good bad wait : Bool) → 255 < later
      → receiver_request_of r image request readiness (pick good Good (pick bad Bad (pick wait (Later 255) other))) out
      ≡ receiver_request_of r image request readiness (pick good Good (pick bad Bad (pick wait (Later later) other))) out
  unfolding pick
  later_narrow readiness later other true bad wait h = refl
  later_narrow readiness later other false true wait h = refl
  later_narrow readiness later other false false true h =
      both_26 readiness readiness _ _ (later_outside_lem readiness 255 (omega arith)) (later_outside_lem readiness later (omega arith))
  later_narrow readiness later other false false false h = refl

  pub request_narrow : (readiness code later : ℕ)
      → receiver_request_of r image request (at_most 255 readiness) (verdict_of code (at_most 255 later)) out
      ≡ receiver_request_of r image request readiness (verdict_of code later) out
  unfolding at_most verdict_of
  request_narrow readiness code later =
      pick_all (λ (n : ℕ). receiver_request_of r image request n (verdict_of code (pick (ltb 255 later) 255 later)) out ≡ receiver_request_of r image request readiness (verdict_of code later) out)
      (ltb 255 readiness) 255 readiness
      (λ t. let wide = ltb-true 255 readiness t in both_26 255 readiness _ _ (ready_outside 255 _ (omega arith)) (ready_outside readiness _ (omega arith)))
      (λ _. pick_all (λ (n : ℕ). receiver_request_of r image request readiness (verdict_of code n) out ≡ receiver_request_of r image request readiness (verdict_of code later) out)
      (ltb 255 later) 255 later
      (λ t. later_narrow readiness later _ _ _ _ (ltb-true 255 later t))
      (λ _. refl))

pub time_narrow : (r : Receiver) (elapsed : ℕ) (out : List ℕ) → r.settings.limit ≤ 65535
    → receiver_time_of r (at_most 65535 elapsed) out ≡ receiver_time_of r elapsed out
unfolding at_most
time_narrow r elapsed out low =
    pick_all (λ (n : ℕ). receiver_time_of r n out ≡ receiver_time_of r elapsed out) (ltb 65535 elapsed) 65535 elapsed
    (λ t. let wide = ltb-true 65535 elapsed t in time_many r 65535 elapsed out (omega arith) (omega arith))
    (λ _. refl)

pub session_narrow : (w : List ℕ) (elapsed : ℕ) (out : List ℕ) → receiver_time_of (session_at w) (at_most 65535 elapsed) out ≡ receiver_time_of (session_at w) elapsed out
unfolding session_at
session_narrow w elapsed out = time_narrow (session_at w) elapsed out (omega arith)
