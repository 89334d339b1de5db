-- The loop's invariant: the bytes read so far and what the remaining words spell are together what all the words spell.
use Prim.Native.Nat.{ℕ, ◌+◌, ◌-◌, ◌<◌, ◌≤◌, min}
use mathlib.Core.Path.{◌≡◌, refl, sym, ◌∙◌, ap}
use mathlib.Core.List.{List, [], ◌++◌}
use native.Mathlib.Omega.{arith}
use lib.ListN.{length, take, drop, replicate, length-append, length-drop, length-replicate}
use lib.Seq.{paste, take_all, take-append_seam, drop-append-add, drop-drop}
use Rattle.std.specs.Prelude.{Option, None, Some}
use Rattle.script.specs.Words.{first_word_of, after_first_word_of, script_word_at}
use Rattle.script.specs.Runs.{byte_run_of}
use Rattle.script.specs.Spelling.{spelled_room, spelled_zeros, spelled_in, spelled_grown, spelled_onward, spelled_behind, spell_of}
use Rattle.script.specs.declared.run.Run.{Run}
use Rattle.script.specs.declared.spelling.Spelled.{Spelled}
use Rattle.script.proofs.WordLaws.{word_here, rest_here}
use Rattle.script.proofs.Turns.{behind_end, behind_more}

-- `all` is what all the words spell.
pub record Mid (all : Option Spelled) (words bytes : List ℕ) (len : ℕ) : Type 0 where
  pub read : List ℕ
  pub is_len : len ≡ length read
  pub is_bytes : bytes ≡ read ++ drop (length read) spelled_zeros
  pub fits : len ≤ spelled_room
  pub run : spelled_behind words read ≡ all

pub mid_begins : (words bytes : List ℕ) → bytes ≡ spelled_zeros → Mid (spell_of words) words bytes 0
mid_begins words bytes e = record { read = []; is_len = refl; is_bytes = e; fits = omega arith; run = refl }

-- Bytes written right after those read give the longer list of bytes, again with zeros after it.
put_behind : (read s : List ℕ) (n : ℕ) → length s ≡ n → paste (read ++ drop (length read) spelled_zeros) (length read) s n ≡ (read ++ s) ++ drop (length (read ++ s)) spelled_zeros
put_behind read s n e =
    rw (take-append_seam read (drop (length read) spelled_zeros), take_all n s (omega arith), drop-append-add read (drop (length read) spelled_zeros) n, drop-drop n (length read) spelled_zeros, length-append read s, e)

zeros_long : length spelled_zeros ≡ spelled_room
unfolding spelled_zeros
zeros_long = length-replicate {A = ℕ} spelled_room 0

module _ (all : Option Spelled) (words bytes : List ℕ) (len : ℕ) (mid : Mid all words bytes len) where
  pub mid_room : length bytes ≡ spelled_room
  mid_room =
      let all = zeros_long in
      let fits = mid.fits in
      let len_is = mid.is_len in
      rw mid.is_bytes (simp (length-append, length-drop) (omega arith))

  pub mid_done : length words ≡ 0 → ◌≡◌ {A = Option Spelled} (Some (record { len = len; bytes = bytes })) all
  unfolding spelled_in
  mid_done none = rw (mid.is_bytes, mid.is_len) (sym (behind_end words mid.read none) ∙ mid.run)

  step : (run : Option Run) → 0 < length words → byte_run_of (script_word_at words 0) ≡ run
      → spelled_onward (λ r. spelled_behind (after_first_word_of (drop 1 words)) r) mid.read run ≡ all
  step run h e =
      sym (behind_more words mid.read h ∙ ap (spelled_onward (λ r. spelled_behind (after_first_word_of (drop 1 words)) r) mid.read) e) ∙ mid.run

  module _ (word : List ℕ) (h : 0 < length words) (here : word ≡ first_word_of (take (length words - 1) (drop 1 words))) where
    pub mid_other : byte_run_of word ≡ None → None ≡ all
    mid_other e = step None h (ap byte_run_of (sym (word_here words word here)) ∙ e)

    pub mid_more : (run : Run) (n : ℕ) (rest out : List ℕ) → byte_run_of word ≡ Some run → rest ≡ after_first_word_of (take (length words - 1) (drop 1 words))
        → n ≡ min run.times (spelled_room - len) → out ≡ paste bytes len (replicate n run.byte) n → Mid all rest out (len + n)
    unfolding spelled_grown
    mid_more run n rest out e behind k o =
        let copies : length (replicate {A = ℕ} n run.byte) ≡ n = length-replicate n run.byte in
        let as-often : n ≡ min run.times (spelled_room - length mid.read) = k ∙ ap (λ (l : ℕ). min run.times (spelled_room - l)) mid.is_len in
        let more : spelled_grown mid.read run.byte run.times ≡ mid.read ++ replicate n run.byte = ap (λ (m : ℕ). mid.read ++ replicate m run.byte) (sym as-often) in
        let long = length-append mid.read (replicate n run.byte) in
        let len_is = mid.is_len in
        record {
          read = spelled_grown mid.read run.byte run.times;
          is_len = rw more (omega arith);
          is_bytes = rw more (o ∙ rw (mid.is_bytes, mid.is_len) (put_behind mid.read (replicate n run.byte) n copies));
          fits = omega arith;
          run = rw (rest_here words rest behind) (step (Some run) h (ap byte_run_of (sym (word_here words word here)) ∙ e));
        }
