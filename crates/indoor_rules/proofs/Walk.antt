-- Every response call is one of four: kept and answered 28, 27 or 20, or a step that was decided and done; a time call one of three.
use Prim.Native.Nat.{ℕ, ◌≤◌}
use mathlib.Core.Path.{◌≡◌, refl}
use mathlib.Core.List.{List}
use borrow.Author.Tests.{ltb-false}
use lib.Dec.{ltb}
use lib.ListN.{length}
use Rattle.basis.specs.Pick.{pick_all, differ, differ_false}
use Rattle.basis.specs.Left.{Left}
use Rattle.wire.specs.Codes.{longest}
use Rattle.wire.specs.Response as message
use Rattle.wire.specs.declared.response.Response.{Response}
use Rattle.wire.specs.Response.{Parsed}
use Rattle.indoor_rules.specs.Decide.{indoor_decide_of}
use Rattle.indoor_rules.specs.Tick.{indoor_tick_of}
use Rattle.indoor_state.specs.declared.answer.Answer.TheVariants.{Malformed, BufferShort, FileLength}
use Rattle.indoor_rules.specs.Session.{indoor_kept, indoor_done}
use Rattle.indoor_rules.specs.Response.{response_read_of, indoor_response_of}
use Rattle.indoor_rules.specs.Time.{indoor_time_of}
use Rattle.indoor_state.specs.declared.session.Indoor.{Indoor}
use Rattle.indoor_state.specs.Session.{IndoorOutcome}
use Rattle.std.specs.Prelude.{Ok, Err}

module _ (s : Indoor) (file response out : List ℕ) where
  -- What a well-formed response does.
  abbrev pub heard : Response → Left IndoorOutcome
  heard r = indoor_done s.plan (indoor_decide_of s.plan s.state r) file out

  read_walk : (P : Left IndoorOutcome → Type 0) (m : Parsed) → P (indoor_kept s Malformed out) → ((r : Response) → m ≡ Ok r → P (heard r)) → P (response_read_of s m file out)
  unfolding response_read_of
  read_walk P (Err refusal) bad good = bad
  read_walk P (Ok r) bad good = good r refl

  pub response_walk : (P : Left IndoorOutcome → Type 0)
      → P (indoor_kept s FileLength out)
      → P (indoor_kept s BufferShort out)
      → P (indoor_kept s Malformed out)
      → ((r : Response) → length file ≡ s.plan.length → longest ≤ length out → message.parsed_response_of response ≡ Ok r → P (heard r))
      → P (indoor_response_of s file response out)
  unfolding indoor_response_of
  response_walk P length-bad short bad good =
      pick_all P (differ (length file) s.plan.length) _ _ (λ _. length-bad)
      (λ a. pick_all P (ltb (length out) longest) _ _ (λ _. short)
      (λ b. read_walk P (message.parsed_response_of response) bad
      (λ r e. good r (differ_false (length file) s.plan.length a) (ltb-false (length out) longest b) e)))

module _ (s : Indoor) (file : List ℕ) (elapsed : ℕ) (out : List ℕ) where
  pub time_walk : (P : Left IndoorOutcome → Type 0)
      → P (indoor_kept s FileLength out)
      → P (indoor_kept s BufferShort out)
      → (length file ≡ s.plan.length → longest ≤ length out → P (indoor_done s.plan (indoor_tick_of s.plan s.state elapsed) file out))
      → P (indoor_time_of s file elapsed out)
  unfolding indoor_time_of
  time_walk P length-bad short passed =
      pick_all P (differ (length file) s.plan.length) _ _ (λ _. length-bad)
      (λ a. pick_all P (ltb (length out) longest) _ _ (λ _. short)
      (λ b. passed (differ_false (length file) s.plan.length a) (ltb-false (length out) longest b)))
