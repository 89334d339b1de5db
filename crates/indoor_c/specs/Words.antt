-- A session of the indoor end as the thirteen words of include/harsolvek.h, and back.
use Rattle.std.specs.Prelude.{ℕ, ◌%◌, Bool, false, List, [], ◌∷◌, eqb, ltb, set, replicate}
use Rattle.basis.specs.Pick.{pick}
use Rattle.width.specs.Words.{word_at}
use Rattle.width.specs.Halves.{halves_of, low_half, high_half}
use Rattle.silence.specs.Settings.{settings_of, settings_number_of}
use Rattle.silence.specs.declared.Settings.{Settings}
use Rattle.wire.specs.Codes.{image_size_most}
use Rattle.indoor_state.specs.Phase.{indoor_state}
use Rattle.indoor_state.specs.declared.phase.State.{State}
use Rattle.indoor_state.specs.declared.plan.Release.{Release}
use Rattle.indoor_state.specs.declared.plan.Plan.{Plan}
use Rattle.indoor_state.specs.declared.session.Indoor.{Indoor}
use Rattle.indoor_rules.specs.Session.{indoor}
use Rattle.indoor_rules.specs.Start.{indoor_plan}
use Rattle.indoor_c.specs.PhaseWords.{phase_words, phase_words_of, indoor_phase_of, is_indoor_phase}
use Rattle.indoor_c.specs.declared.phase_words.PhaseWords.{PhaseWords}

abbrev pub byte_of_word : ℕ → ℕ
byte_of_word n = n % 256

abbrev pub settings_at : List ℕ → Settings
settings_at w = record { limit = low_half (word_at w 0); resends = byte_of_word (word_at w 1) }

abbrev pub release_at : List ℕ → Release
release_at w = record {
  vendor = low_half (word_at w 10);
  product = high_half (word_at w 10);
  versions = record { first = low_half (word_at w 11); second = high_half (word_at w 11); third = low_half (word_at w 12); fourth = high_half (word_at w 12) };
}

abbrev pub plan_at : List ℕ → Plan
plan_at w = indoor_plan (settings_at w) (release_at w) (word_at w 2)

abbrev pub phase_words_at : List ℕ → PhaseWords
phase_words_at w = phase_words (word_at w 3) (word_at w 4) (word_at w 5) (word_at w 6) (word_at w 9)

abbrev pub state_at : List ℕ → State
state_at w = indoor_state (indoor_phase_of (phase_words_at w)) (low_half (word_at w 7)) (byte_of_word (word_at w 8))

-- The session that the words say. What is wider than its field is cut; no session has it.
abbrev pub session_at : List ℕ → Indoor
session_at w = indoor (plan_at w) (state_at w)

-- Whether the words are those of a session: a start takes the settings and the file's length, silence and resends are within their widths,
-- and the rest are those of a phase.
unfoldable pub is_indoor_session : List ℕ → Bool
is_indoor_session w =
    pick (eqb (settings_number_of (settings_of (word_at w 0) (word_at w 1))) 0)
    (pick (eqb (word_at w 2) 0) false
    (pick (ltb image_size_most (word_at w 2)) false
    (pick (ltb 65535 (word_at w 7)) false
    (pick (ltb 255 (word_at w 8)) false
    (is_indoor_phase (phase_words_at w))))))
    false

-- The words of a session, from the first to the last.
abbrev pub words_with : Plan → PhaseWords → ℕ → ℕ → List ℕ
words_with plan p silence resends =
    plan.settings.limit ∷ plan.settings.resends ∷ plan.length
    ∷ p.phase ∷ p.asked ∷ p.wait ∷ p.emptied ∷ silence ∷ resends ∷ p.reason
    ∷ halves_of plan.release.vendor plan.release.product
    ∷ halves_of plan.release.versions.first plan.release.versions.second
    ∷ halves_of plan.release.versions.third plan.release.versions.fourth
    ∷ []

abbrev pub words_of : Indoor → List ℕ
words_of s = words_with s.plan (phase_words_of s.state.phase) s.state.silence s.state.resends

-- The words with another state: the places that a call may change.
abbrev pub laid_with : List ℕ → PhaseWords → ℕ → ℕ → List ℕ
laid_with w p silence resends =
    set (set (set (set (set (set (set w 3 p.phase) 4 p.asked) 5 p.wait) 6 p.emptied) 7 silence) 8 resends) 9 p.reason

abbrev pub laid : List ℕ → Indoor → List ℕ
laid w s = laid_with w (phase_words_of s.state.phase) s.state.silence s.state.resends

-- All zero: what a refused start leaves.
abbrev pub no_words : List ℕ
no_words = replicate 13 0
