-- What words spell, word by word.
use Prim.Native.Nat.{ℕ, zero, suc, ◌<◌, ◌≤◌}
use mathlib.Core.Path.{◌≡◌, refl, sym, ◌∙◌}
use mathlib.Core.List.{List, [], ◌∷◌}
use native.Mathlib.Nat.{le_refl}
use native.Mathlib.Omega.{arith}
use borrow.Author.Tests.{eq-eqb, ne_eqb}
use lib.ListN.{length, drop, length-drop}
use Rattle.std.specs.Prelude.{Option, None, Some}
use Rattle.basis.specs.Pick.{pick_yes, pick_no}
use Rattle.script.specs.Words.{after_first_word_of, script_word_at}
use Rattle.script.specs.Runs.{byte_run_of}
use Rattle.script.specs.Spelling.{spelled_in, spelled_grown, spelled_onward, spelled_turns, spelled_behind}
use Rattle.script.specs.declared.run.Run.{Run}
use Rattle.script.specs.declared.spelling.Spelled.{Spelled}
use Rattle.script.proofs.WordLaws.{rest_short}

-- Two ways to read on that agree on the rest agree on a word and the rest.
rest_same : (f g : List ℕ → Option Spelled) (read : List ℕ) (run : Option Run) → ((r : List ℕ) → f r ≡ g r) → spelled_onward f read run ≡ spelled_onward g read run
rest_same f g read None e = refl
rest_same f g read (Some run) e = e (spelled_grown read run.byte run.times)

turn_end : (left : ℕ) (words read : List ℕ) → length words ≡ 0 → spelled_turns left words read ≡ Some (spelled_in read)
unfolding spelled_turns
turn_end zero words read e = refl
turn_end (suc left) words read e = pick_yes _ _ _ (eq-eqb (length words) 0 e)

turn_more : (left : ℕ) (words read : List ℕ) → 0 < length words
    → spelled_turns (suc left) words read ≡ spelled_onward (spelled_turns left (after_first_word_of (drop 1 words))) read (byte_run_of (script_word_at words 0))
unfolding spelled_turns
turn_more left words read h = pick_no _ _ _ (ne_eqb (length words) 0 (λ e. omega arith))

-- More turns than characters change nothing.
enough : (j k : ℕ) (words read : List ℕ) → length words ≤ j → length words ≤ k → spelled_turns j words read ≡ spelled_turns k words read
enough zero k words read a b = turn_end zero words read (omega arith) ∙ sym (turn_end k words read (omega arith))
enough (suc j) zero words read a b = turn_end (suc j) words read (omega arith) ∙ sym (turn_end zero words read (omega arith))
enough (suc j) (suc k) [] read a b = turn_end (suc j) [] read refl ∙ sym (turn_end (suc k) [] read refl)
enough (suc j) (suc k) (c ∷ words) read a b =
    let h = rest_short words in
    turn_more j (c ∷ words) read (omega arith)
    ∙ rest_same (spelled_turns j (after_first_word_of words)) (spelled_turns k (after_first_word_of words)) read (byte_run_of (script_word_at (c ∷ words) 0)) (λ r. enough j k (after_first_word_of words) r (omega arith) (omega arith))
    ∙ sym (turn_more k (c ∷ words) read (omega arith))

pub behind_end : (words read : List ℕ) → length words ≡ 0 → spelled_behind words read ≡ Some (spelled_in read)
behind_end words read e = turn_end (length words) words read e

pub behind_more : (words read : List ℕ) → 0 < length words → spelled_behind words read ≡ spelled_onward (λ r. spelled_behind (after_first_word_of (drop 1 words)) r) read (byte_run_of (script_word_at words 0))
behind_more words read h =
    let rest : List ℕ = after_first_word_of (drop 1 words) in
    let short = rest_short (drop 1 words) in
    let less = length-drop 1 words in
    enough (length words) (suc (length words)) words read (le_refl (length words)) (omega arith)
    ∙ turn_more (length words) words read h
    ∙ rest_same (spelled_turns (length words) rest) (λ r. spelled_behind rest r) read (byte_run_of (script_word_at words 0)) (λ r. enough (length words) (length rest) rest r (omega arith) (le_refl (length rest)))
