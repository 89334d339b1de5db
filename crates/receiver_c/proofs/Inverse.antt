-- The words of a session are what packing it gives, and unpacking them gives it again: on every session the two are each other's inverse.
use Prim.Native.Nat.{ℕ, zero, suc, ◌<◌, ◌+◌, ◌*◌, ◌/◌, ◌%◌}
use mathlib.Core.Bool.{true}
use mathlib.Core.Path.{◌≡◌, refl, sym, ◌∙◌, ap}
use mathlib.Core.List.{List, []}
use native.Mathlib.Omega.{arith}
use lib.ListN.{length, set}
use lib.Seq.{set-get_or}
use Rattle.basis.specs.Flag.{byte_flag, flag_byte}
use Rattle.basis.specs.Lists.{spell, spelled_all}
use Rattle.basis.specs.Pick.{pick}
use Rattle.receiver_state.specs.Phase.{accepted_counts, accepted_of}
use Rattle.receiver_state.specs.declared.phase.Phase.{Phase}
use Rattle.receiver_state.specs.declared.phase.Phase.TheVariants.{Idle, Transfer, Await, Good}
use Rattle.receiver_state.specs.declared.session.Receiver.{Receiver}
use Rattle.width.specs.Words.{word_at}
use Rattle.receiver_c.specs.Words.{receiver_phase_code, receiver_short_of, receiver_phase_of, phase_at, identity_at, session_at, words_of, laid_phase, laid, is_receiver_session}
use Rattle.receiver_c.specs.Valid.{ReceiverPhaseValid, ReceiverSessionValid, ReceiverFits}
use Rattle.receiver_c.proofs.Sessions.{session_valid}

pub record Same (code blocks bytes short : ℕ) (phase : Phase) : Type 0 where
  pub code_same : receiver_phase_code phase ≡ code
  pub blocks_same : (accepted_of phase).blocks ≡ blocks
  pub bytes_same : (accepted_of phase).bytes ≡ bytes
  pub short_same : receiver_short_of phase ≡ short

numbers_back : (code blocks bytes short : ℕ) → ReceiverPhaseValid code blocks bytes short
    → Same code blocks bytes short (receiver_phase_of code (accepted_counts blocks bytes) short)
unfolding receiver_phase_of pick
numbers_back zero blocks bytes short s =
    let none = s.idle_empty refl in
    record { code_same = refl; blocks_same = sym none.0; bytes_same = sym none.1; short_same = sym (s.transfer_alone (λ e. absurd (omega arith))) }
numbers_back (suc zero) blocks bytes short s = record { code_same = refl; blocks_same = refl; bytes_same = refl; short_same = flag_byte short s.flag }
numbers_back (suc (suc zero)) blocks bytes short s =
    record { code_same = refl; blocks_same = refl; bytes_same = refl; short_same = sym (s.transfer_alone (λ e. absurd (omega arith))) }
numbers_back (suc (suc (suc zero))) blocks bytes short s =
    record { code_same = refl; blocks_same = refl; bytes_same = refl; short_same = sym (s.transfer_alone (λ e. absurd (omega arith))) }
numbers_back (suc (suc (suc (suc code)))) blocks bytes short s = absurd (omega arith)

module _ (w : List ℕ) (ok : is_receiver_session w ≡ true) where
  abbrev valid : ReceiverSessionValid w
  valid = session_valid w ok

  blocks_fit : word_at w 4 % 65536 ≡ word_at w 4
  blocks_fit = let few = valid.few_blocks in omega arith

  pub same : Same (word_at w 3) (word_at w 4) (word_at w 5) (word_at w 6) (phase_at w)
  unfolding phase_at
  same = rw blocks_fit (numbers_back (word_at w 3) (word_at w 4) (word_at w 5) (word_at w 6) valid.in_phase)

  -- A session that keeps its phase changes two words at most.
  pub phase_kept : (silence resends : ℕ) → laid_phase w (phase_at w) silence resends ≡ set (set w 7 silence) 8 resends
  unfolding laid_phase
  phase_kept silence resends =
      rw (same.code_same, same.blocks_same, same.bytes_same, same.short_same, set-get_or w 3 0, set-get_or w 4 0, set-get_or w 5 0, set-get_or w 6 0)

  pub silence_fits : word_at w 7 % 65536 ≡ word_at w 7
  silence_fits = let few = valid.short_silence in omega arith

  pub resends_fit : word_at w 8 % 256 ≡ word_at w 8
  resends_fit = let few = valid.few_resends in omega arith

  -- A refused call stores what stood there: nothing changes.
  pub laid_kept : laid w (session_at w) ≡ w
  unfolding session_at
  laid_kept = ap (λ (n : ℕ). laid_phase w (phase_at w) n (word_at w 8 % 256)) silence_fits ∙ ap (laid_phase w (phase_at w) (word_at w 7)) resends_fit
      ∙ phase_kept (word_at w 7) (word_at w 8) ∙ rw (set-get_or w 7 0, set-get_or w 8 0)

  -- Every word is one of 32 bits: packing what was unpacked gives the words again.
  module _ (whole : length w ≡ 14) (fits : (i : ℕ) → word_at w i < 4294967296) where
    two_halves : (i : ℕ) → word_at w i % 65536 + 65536 * (word_at w i / 65536 % 65536) ≡ word_at w i
    two_halves i = let high = fits i in omega arith

    bytes_and_half : (i : ℕ) → word_at w i % 256 + 256 * (word_at w i / 256 % 256) + 65536 * (word_at w i / 65536 % 65536) ≡ word_at w i
    bytes_and_half i = let high = fits i in omega arith

    half_and_bytes : (i : ℕ) → word_at w i % 65536 + 65536 * (word_at w i / 65536 % 256) + 16777216 * (word_at w i / 16777216 % 256) ≡ word_at w i
    half_and_bytes i = let high = fits i in omega arith

    three_bytes : word_at w 13 % 256 + 256 * (word_at w 13 / 256 % 256) + 65536 * (word_at w 13 / 65536 % 256) ≡ word_at w 13
    three_bytes = let high = valid.three_flags in omega arith

    limit_fits : word_at w 0 % 65536 ≡ word_at w 0
    limit_fits = let high = valid.within.high in omega arith

    allowed_fits : word_at w 1 % 256 ≡ word_at w 1
    allowed_fits = let few = valid.within.few in omega arith

    spelt : words_of (session_at w) ≡ spell 0 w 0 14 []
    unfolding words_of session_at identity_at spell
    spelt =
        rw (
          limit_fits,
          allowed_fits,
          same.code_same,
          same.blocks_same,
          same.bytes_same,
          same.short_same,
          silence_fits,
          resends_fit,
          two_halves 9,
          bytes_and_half 10,
          two_halves 11,
          half_and_bytes 12,
          three_bytes,
        )

    pub words_back : words_of (session_at w) ≡ w
    words_back = spelt ∙ sym (spelled_all 0 14 w whole)

pub phase_back : (p : Phase) → (accepted_of p).blocks < 65536
    → receiver_phase_of (receiver_phase_code p) (accepted_counts ((accepted_of p).blocks % 65536) (accepted_of p).bytes) (receiver_short_of p) ≡ p
unfolding receiver_phase_of pick
phase_back Idle h = refl
phase_back (Transfer p) h = let same : p.accepted.blocks % 65536 ≡ p.accepted.blocks = omega arith in rw (byte_flag p.short, same)
phase_back (Await a) h = let same : a.blocks % 65536 ≡ a.blocks = omega arith in rw same
phase_back (Good a) h = let same : a.blocks % 65536 ≡ a.blocks = omega arith in rw same

low_half : (low high : ℕ) → low < 65536 → (low + 65536 * high) % 65536 ≡ low
low_half low high h = omega arith

high_half : (low high : ℕ) → low < 65536 → high < 65536 → (low + 65536 * high) / 65536 % 65536 ≡ high
high_half low high h h' = omega arith

module _ (r : Receiver) (f : ReceiverFits r) where
  abbrev chip : ℕ
  chip = r.identity.hardware + 256 * r.identity.silicon + 65536 * r.identity.versions.first

  abbrev bank : ℕ
  bank = r.identity.versions.fourth + 65536 * r.identity.bank + 16777216 * r.identity.flags1

  abbrev flags : ℕ
  flags = r.identity.flags2 + 256 * r.identity.flags3 + 65536 * r.identity.flags4

  chip_0 : chip % 256 ≡ r.identity.hardware
  chip_0 = let a = f.hardware in omega arith

  chip_1 : chip / 256 % 256 ≡ r.identity.silicon
  chip_1 = let a = f.hardware in let b = f.silicon in omega arith

  chip_2 : chip / 65536 % 65536 ≡ r.identity.versions.first
  chip_2 = let a = f.hardware in let b = f.silicon in let d = f.first in omega arith

  bank_0 : bank % 65536 ≡ r.identity.versions.fourth
  bank_0 = let a = f.fourth in omega arith

  bank_2 : bank / 65536 % 256 ≡ r.identity.bank
  bank_2 = let a = f.fourth in let b = f.bank in omega arith

  bank_3 : bank / 16777216 % 256 ≡ r.identity.flags1
  bank_3 = let a = f.fourth in let b = f.bank in let d = f.flags1 in omega arith

  flags_0 : flags % 256 ≡ r.identity.flags2
  flags_0 = let a = f.flags2 in omega arith

  flags_1 : flags / 256 % 256 ≡ r.identity.flags3
  flags_1 = let a = f.flags2 in let b = f.flags3 in omega arith

  flags_2 : flags / 65536 % 256 ≡ r.identity.flags4
  flags_2 = let a = f.flags2 in let b = f.flags3 in let d = f.flags4 in omega arith

  limit_back : r.settings.limit % 65536 ≡ r.settings.limit
  limit_back = let a = f.limit in omega arith

  allowed_back : r.settings.resends % 256 ≡ r.settings.resends
  allowed_back = let a = f.resends_allowed in omega arith

  silence_back : r.silence % 65536 ≡ r.silence
  silence_back = let a = f.silence in omega arith

  resends_back : r.resends % 256 ≡ r.resends
  resends_back = let a = f.resends in omega arith

  identity_back : identity_at (words_of r) ≡ r.identity
  unfolding identity_at words_of
  identity_back =
      rw (
        low_half r.identity.vendor r.identity.product f.vendor,
        high_half r.identity.vendor r.identity.product f.vendor f.product,
        low_half r.identity.versions.second r.identity.versions.third f.second,
        high_half r.identity.versions.second r.identity.versions.third f.second f.third,
        chip_0,
        chip_1,
        chip_2,
        bank_0,
        bank_2,
        bank_3,
        flags_0,
        flags_1,
        flags_2,
      )

  session_phase : phase_at (words_of r) ≡ r.phase
  unfolding phase_at words_of
  session_phase = phase_back r.phase f.blocks

  -- Unpacking what was packed gives the session again.
  pub session_back : session_at (words_of r) ≡ r
  unfolding session_at words_of
  session_back = rw (identity_back, session_phase, limit_back, allowed_back, silence_back, resends_back)
