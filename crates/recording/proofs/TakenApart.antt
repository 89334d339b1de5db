-- A whole recording taken apart, record by record (01, Replay program).
use Prim.Native.Nat.{ℕ, zero, suc, ◌+◌, ◌<◌, ◌≤◌}
use mathlib.Core.Path.{◌≡◌, refl, sym, ◌∙◌, ap, subst}
use mathlib.Core.List.{List, [], ◌∷◌, ◌++◌, append_assoc, append-nil}
use native.Mathlib.Nat.{le_refl}
use native.Mathlib.Omega.{arith}
use lib.ListN.{length, drop, length-drop}
use lib.Seq.{drop-append_seam, drop-drop, get_or-drop}
use Rattle.recording.specs.Reading.{next_record_of}
use Rattle.recording.specs.Record.{AllEight}
use Rattle.recording.specs.Writing.{record_bytes_of}
use Rattle.recording.specs.Apart.{Apart, apart, onward, turns, apart_of, written_of}
use Rattle.recording.proofs.ByKind.{nothing_there}
use Rattle.recording.proofs.Moved.{moved, next_drop}
use Rattle.recording.proofs.Cases.{Past, next_past, FoundEight, next_eight}
use Rattle.basis.specs.Bytes.{Bytes}
use Rattle.recording.proofs.RoundTrip.{read_back, Consumes, consumed}
use Rattle.recording.specs.declared.record.Record.{Record}
use Rattle.recording.specs.declared.reader.Ending.TheVariants.{Whole}
use Rattle.std.specs.Prelude.{Result, Ok, Err}
use Rattle.recording.specs.declared.reader.Found.{Found}
use Rattle.recording.specs.declared.reader.Ending.{Ending}

-- Two ways to take the rest apart that agree on it agree on a record and the rest.
rest_same : (f g : List ℕ → Apart) (s : List ℕ) (x : Result Found Ending) → Past s 0 x → ((t : List ℕ) → length t < length s → f t ≡ g t) → onward f s x ≡ onward g s x
rest_same f g s (Ok t) p e = rw (e (drop t.next s) (simp length-drop (omega (arith, p))))
rest_same f g s (Err ending) p e = refl

-- More turns than bytes change nothing.
enough : (j k : ℕ) (s : List ℕ) → length s ≤ j → length s ≤ k → turns j s ≡ turns k s
unfolding turns
enough zero zero s a b = refl
enough zero (suc k) s a b = sym (ap (onward (turns k) s) (nothing_there s 0 a))
enough (suc j) zero s a b = ap (onward (turns j) s) (nothing_there s 0 b)
enough (suc j) (suc k) s a b = rest_same (turns j) (turns k) s (next_record_of s 0) (next_past s 0) (λ t h. enough j k t (omega arith) (omega arith))

-- A recording taken apart is the record at its start, and then the rest taken apart.
pub apart_step : (s : List ℕ) → apart_of s ≡ onward apart_of s (next_record_of s 0)
unfolding apart_of turns
apart_step s =
    enough (length s) (suc (length s)) s (le_refl (length s)) (omega arith)
    ∙ rest_same (turns (length s)) apart_of s (next_record_of s 0) (next_past s 0) (λ t h. enough (length s) (length t) t (omega arith) (le_refl (length t)))

-- The same from every place of a recording on.
pub apart_at : (s : List ℕ) (at : ℕ) → apart_of (drop at s) ≡ onward apart_of s (next_record_of s at)
apart_at s at = apart_step (drop at s) ∙ further (next_record_of (drop at s) 0) ∙ ap (onward apart_of s) (sym (next_drop s at))
  where
    further : (x : Result Found Ending) → onward apart_of (drop at s) x ≡ onward apart_of s (moved at x)
    further (Ok f) = rw (drop-drop f.next at s)
    further (Err ending) = refl

-- A recording of written records reads as those records, whatever follows them.
pub apart_written : (rs : List Record) → AllEight rs → (rest : List ℕ) → apart_of (written_of rs ++ rest) ≡ apart (rs ++ (apart_of rest).records) (apart_of rest).ending
apart_written [] eights rest = refl
apart_written (r ∷ rs) (eight, eights) rest =
    ap apart_of (append_assoc (record_bytes_of r) (written_of rs) rest)
    ∙ apart_step (record_bytes_of r ++ (written_of rs ++ rest))
    ∙ ap (onward apart_of (record_bytes_of r ++ (written_of rs ++ rest))) (read_back r eight (written_of rs ++ rest))
    ∙ rw (drop-append_seam (record_bytes_of r) (written_of rs ++ rest), apart_written rs eights rest)

pub written_apart : (rs : List Record) → AllEight rs → apart_of (written_of rs) ≡ apart rs Whole
unfolding apart_of turns
written_apart rs eights = ap apart_of (sym (append-nil (written_of rs))) ∙ apart_written rs eights [] ∙ ap (λ (l : List Record). apart l Whole) (append-nil rs)

-- There is no record at the start.
abbrev pub NoRecord : List ℕ → Type 0
NoRecord rest = (apart_of rest).records ≡ []

-- A recording is taken apart in only one way: into records and a rest that begins with no record.
pub one_way : (rs rs' : List Record) (rest rest' : List ℕ) → AllEight rs → AllEight rs' → NoRecord rest → NoRecord rest' → written_of rs ++ rest ≡ written_of rs' ++ rest' → (rs ≡ rs') × (rest ≡ rest')
one_way rs rs' rest rest' eights eights' b b' e =
    let same : rs ≡ rs' =
    sym (ap (λ (a : Apart). a.records) (apart_written rs eights rest) ∙ ap (λ (l : List Record). rs ++ l) b ∙ append-nil rs)
    ∙ ap (λ (s : List ℕ). (apart_of s).records) e
    ∙ ap (λ (a : Apart). a.records) (apart_written rs' eights' rest') ∙ ap (λ (l : List Record). rs' ++ l) b' ∙ append-nil rs' in (
      same,
      sym (drop-append_seam (written_of rs) rest)
          ∙ ap (λ (s : List ℕ). drop (length (written_of rs)) s) e
          ∙ ap (λ (l : List Record). drop (length (written_of l)) (written_of rs' ++ rest')) same
          ∙ drop-append_seam (written_of rs') rest',
    )

-- The records written again, and then the rest, are the recording. Each of CONTROL has its eight bytes, so that `one_way` is of them too.
pub record Rebuilt (s : List ℕ) (a : Apart) : Type 0 where
  pub rest : List ℕ
  pub whole : s ≡ written_of a.records ++ rest
  pub ended : next_record_of rest 0 ≡ Err a.ending
  pub eights : AllEight a.records

-- The first record has been read, and the rest is rebuilt.
again : (bytes : ℕ) → ((t : List ℕ) → length t ≤ bytes → Bytes t → Rebuilt t (apart_of t))
    → (s : List ℕ) → length s ≤ suc bytes → Bytes s → (x : Result Found Ending) → next_record_of s 0 ≡ x → Past s 0 x → Consumes s 0 x → FoundEight x → Rebuilt s (onward apart_of s x)
again bytes ih s h b (Err ending) e past eats eight = record { rest = s; whole = refl; ended = e; eights = tt }
again bytes ih s h b (Ok f) e past eats eight =
    let t = ih (drop f.next s) (simp length-drop (omega (arith, past))) (λ i. rw (get_or-drop f.next s i 0) (b (f.next + i))) in
    record {
      rest = t.rest;
      whole = eats ∙ ap (λ (l : List ℕ). record_bytes_of f.«record» ++ l) t.whole ∙ sym (append_assoc (record_bytes_of f.«record») (written_of (apart_of (drop f.next s)).records) t.rest);
      ended = t.ended;
      eights = (eight, t.eights);
    }

rebuild : (bytes : ℕ) (s : List ℕ) → length s ≤ bytes → Bytes s → Rebuilt s (apart_of s)
rebuild zero s h b =
    let e = nothing_there s 0 h in
    subst (Rebuilt s) (sym (apart_step s ∙ ap (onward apart_of s) e)) (record { rest = s; whole = refl; ended = e; eights = tt })
rebuild (suc bytes) s h b = subst (Rebuilt s) (sym (apart_step s)) (again bytes (rebuild bytes) s h b (next_record_of s 0) refl (next_past s 0) (consumed s 0 b) (next_eight s 0))

pub rebuilt : (s : List ℕ) → Bytes s → Rebuilt s (apart_of s)
rebuilt s b = rebuild (length s) s (le_refl (length s)) b
