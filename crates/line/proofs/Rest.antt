-- How a clean line comes to rest.
use Prim.Native.Nat.{ℕ, ◌+◌, ◌*◌, ◌≤◌, ◌<◌}
use mathlib.Core.Bool.{true, false, true≢false}
use mathlib.Core.Path.{◌≡◌, sym, ◌∙◌}
use mathlib.Core.List.{List}
use native.Mathlib.Omega.{arith}
use lib.ListN.{length}
use Rattle.image.specs.Blocks.{blocks_of}
use Rattle.wire.specs.declared.response.Identity.{Identity}
use Rattle.indoor_state.specs.declared.plan.Release.{Release}
use Rattle.indoor_state.specs.declared.phase.Reason.TheVariants.{NotNewer, TooLarge}
use Rattle.indoor_state.specs.declared.phase.Phase.{Phase}
use Rattle.indoor_state.specs.declared.phase.Phase.TheVariants.{Done, Failed}
use Rattle.indoor_rules.specs.Newer.{newer_of}
use Rattle.indoor_rules.proofs.Reached.{length_within}
use Rattle.line.specs.Line.{Line, AtRest, Wide, Clean}
use Rattle.line.proofs.Course.{no_message, Course, asking, identified, not_newer, initiating, offered, too_large, aborted, block, receipt, closing, validating, succeeded, finished, safe, on_course}

-- At rest the indoor end is in this phase, and so many requests were sent.
pub record Rests (x : Line) (phase : Phase) (count : ℕ) : Type 0 where
  pub in_phase : x.world.indoor.state.phase ≡ phase
  pub requests : length x.world.requests ≡ count

module _ (file memory : List ℕ) (release : Release) (identity : Identity) where
  abbrev n : ℕ
  n = blocks_of (length file)

  -- No byte of the image was touched.
  abbrev Untouched : Line → Phase → ℕ → Type 0
  Untouched x phase count = (x.world.image ≡ memory) × Rests x phase count

  -- The three ways to come to rest.
  data Rested (x : Line) : Type 0 where
    old : newer_of release identity ≡ false → x.world.image ≡ memory → Rests x (Failed NotNewer) 1 → Rested x
    large : newer_of release identity ≡ true → length memory < length file → x.world.image ≡ memory → Rests x (Failed TooLarge) 3 → Rested x
    fine : newer_of release identity ≡ true → length file ≤ length memory → Rests x Done (n + 4) → Rested x

  -- After 2 × (n + 4) deliveries at the latest nothing is on its way.
  late_rests : {k : ℕ} {x : Line} → Course file memory release identity k x → 2 * (n + 4) ≤ k → AtRest x
  late_rests (asking c lies at) h = absurd (omega arith)
  late_rests (identified c lies at) h = absurd (omega arith)
  late_rests (not_newer c new lies at) h = absurd (omega arith)
  late_rests (initiating c new lies at) h = absurd (omega arith)
  late_rests (offered c new lies at) h = absurd (omega arith)
  late_rests (too_large c new more lies at) h = absurd (omega arith)
  late_rests (aborted c new more lies at) h = absurd (omega arith)
  late_rests (block j p q c fit low due whole emptied at) h = absurd (omega arith)
  late_rests (receipt j p q c fit low due whole at) h = absurd (omega arith)
  late_rests (closing a q c fit emptied at) h = absurd (omega arith)
  late_rests (validating a c fit at) h = absurd (omega arith)
  late_rests (succeeded a c fit at) h = absurd (omega arith)
  late_rests (finished a c fit at) h = record { up = at.rising; down = at.falling }

  -- No clean line sends more than n + 4 requests.
  course_few : {k : ℕ} {x : Line} → Course file memory release identity k x → length x.world.requests ≤ n + 4
  course_few (asking c lies at) = let sent = at.sent in omega arith
  course_few (identified c lies at) = let sent = at.sent in omega arith
  course_few (not_newer c new lies at) = let sent = at.sent in omega arith
  course_few (initiating c new lies at) = let sent = at.sent in omega arith
  course_few (offered c new lies at) = let sent = at.sent in omega arith
  course_few (too_large c new more lies at) = let sent = at.sent in omega arith
  course_few (aborted c new more lies at) = let sent = at.sent in omega arith
  course_few (block j p q c fit low due whole emptied at) = let sent = at.sent in omega arith
  course_few (receipt j p q c fit low due whole at) = let sent = at.sent in omega arith
  course_few (closing a q c fit emptied at) = let sent = at.sent in omega arith
  course_few (validating a c fit at) = let sent = at.sent in omega arith
  course_few (succeeded a c fit at) = let sent = at.sent in omega arith
  course_few (finished a c fit at) = let sent = at.sent in omega arith

  rested : {k : ℕ} {x : Line} → Course file memory release identity k x → AtRest x → Rested x
  rested (asking c lies at) rest = absurd (no_message _ _ _ rest.up at.rising)
  rested (identified c lies at) rest = absurd (no_message _ _ _ rest.down at.falling)
  rested (not_newer c new lies at) rest = old new lies (record { in_phase = at.indoor; requests = at.sent })
  rested (initiating c new lies at) rest = absurd (no_message _ _ _ rest.up at.rising)
  rested (offered c new lies at) rest = absurd (no_message _ _ _ rest.down at.falling)
  rested (too_large c new more lies at) rest = absurd (no_message _ _ _ rest.up at.rising)
  rested (aborted c new more lies at) rest = large new more lies (record { in_phase = at.indoor; requests = at.sent })
  rested (block j p q c fit low due whole emptied at) rest = absurd (no_message _ _ _ rest.up at.rising)
  rested (receipt j p q c fit low due whole at) rest = absurd (no_message _ _ _ rest.down at.falling)
  rested (closing a q c fit emptied at) rest = absurd (no_message _ _ _ rest.down at.falling)
  rested (validating a c fit at) rest = absurd (no_message _ _ _ rest.up at.rising)
  rested (succeeded a c fit at) rest = absurd (no_message _ _ _ rest.down at.falling)
  rested (finished a c fit at) rest = fine fit.newer fit.room (record { in_phase = at.indoor; requests = at.sent ∙ omega arith })

  done_rested : {x : Line} → Rested x → newer_of release identity ≡ true → length file ≤ length memory → Rests x Done (n + 4)
  done_rested (old not lies r) given room = absurd (true≢false (sym given ∙ not))
  done_rested (large new more lies r) given room = absurd (omega arith)
  done_rested (fine new fits r) given room = r

  old_rested : {x : Line} → Rested x → newer_of release identity ≡ false → Untouched x (Failed NotNewer) 1
  old_rested (old not lies r) never = (lies, r)
  old_rested (large new more lies r) never = absurd (true≢false (sym new ∙ never))
  old_rested (fine new fits r) never = absurd (true≢false (sym new ∙ never))

  large_rested : {x : Line} → Rested x → newer_of release identity ≡ true → length memory < length file → Untouched x (Failed TooLarge) 3
  large_rested (old not lies r) given over = absurd (true≢false (sym given ∙ not))
  large_rested (large new more lies r) given over = (lies, r)
  large_rested (fine new fits r) given over = absurd (omega arith)

  module _ (wide : Wide release identity) {k : ℕ} {x : Line} (c : Clean file memory release identity k x) where
    course : Course file memory release identity k x
    course = on_course file memory release identity wide c

    pub comes_to_rest : 2 * (n + 4) ≤ k → AtRest x
    comes_to_rest = late_rests course

    -- No file has more than 4,096 blocks.
    pub most_requests : length x.world.requests ≤ 4100
    unfolding blocks_of
    most_requests =
        let few = course_few course in
        let most = (length_within file release x.world.indoor x.world.requests wide.offered (safe file memory release identity wide c).sent).1 in
        omega arith

    module _ (rest : AtRest x) where
      -- A newer file that fits: done after n + 4 requests.
      pub rests_done : newer_of release identity ≡ true → length file ≤ length memory → Rests x Done (n + 4)
      rests_done = done_rested (rested course rest)

      -- 42: GET_FW_ID is the only request.
      pub rests_42 : newer_of release identity ≡ false → Untouched x (Failed NotNewer) 1
      rests_42 = old_rested (rested course rest)

      -- 43: GET_FW_ID, INITIATE and ABORT.
      pub rests_43 : newer_of release identity ≡ true → length memory < length file → Untouched x (Failed TooLarge) 3
      rests_43 = large_rested (rested course rest)
