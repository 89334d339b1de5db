-- The words of include/harsolvek.h, in its own numbers: what each of them is, packed and unpacked, and what a refused start leaves.
use Prim.Native.Nat.{ℕ}
use mathlib.Core.Bool.{true, false}
use mathlib.Core.Path.{◌≡◌, refl}
use mathlib.Core.List.{List, [], ◌∷◌, map}
use Rattle.basis.specs.Pick.{pick}
use Rattle.receiver_state.specs.Phase.{accepted_counts}
use Rattle.receiver_state.specs.declared.phase.Accepted.{Accepted}
use Rattle.receiver_state.specs.declared.phase.Progress.{Progress}
use Rattle.receiver_state.specs.declared.phase.Phase.TheVariants.{Idle, Transfer, Await, Good}
use Rattle.receiver_state.specs.declared.session.Receiver.{Receiver}
use Rattle.receiver_c.specs.Words.{receiver_phase_code, receiver_short_of, receiver_phase_of, phase_at, identity_at, session_at, words_of, zero_words}
use Rattle.receiver_c.specs.Calls.{identity_of}

pub phase_rows : (p : Progress) (a : Accepted) → map receiver_phase_code (Idle ∷ Transfer p ∷ Await a ∷ Good a ∷ []) ≡ 0 ∷ 1 ∷ 2 ∷ 3 ∷ []
phase_rows p a = refl

-- Transfer alone says whether the last block was short.
pub short_rows : (a : Accepted)
    → map receiver_short_of (Idle ∷ Transfer (record { accepted = a; short = false }) ∷ Transfer (record { accepted = a; short = true }) ∷ Await a ∷ Good a ∷ [])
    ≡ 0 ∷ 0 ∷ 1 ∷ 0 ∷ 0 ∷ []
short_rows a = refl

-- A session in Transfer behind five whole blocks and a short one, number by number.
abbrev sample : Receiver
sample = record {
  settings = record { limit = 1000; resends = 3 };
  identity = record {
    vendor = 4660;
    product = 43981;
    hardware = 1;
    silicon = 32;
    versions = record { first = 258; second = 772; third = 1286; fourth = 1800 };
    bank = 2;
    flags1 = 15;
    flags2 = 4;
    flags3 = 31;
    flags4 = 7;
  };
  capacity = 4096;
  phase = Transfer (record { accepted = accepted_counts 6 1300; short = true });
  silence = 70;
  resends = 9;
}

abbrev sample_words : List ℕ
sample_words =
    1000 ∷ 3 ∷ 4096 ∷ 1 ∷ 6 ∷ 1300 ∷ 1 ∷ 70 ∷ 9 ∷ 2882343476 ∷ 16916481 ∷ 84280068 ∷ 251791112 ∷ 466692 ∷ []

pub packed_row : words_of sample ≡ sample_words
unfolding words_of
packed_row = refl

pub unpacked_row : session_at sample_words ≡ sample
unfolding session_at identity_at phase_at receiver_phase_of pick
unpacked_row = refl

-- Each number of a start is under its own name.
pub identity_row : (vendor product first second third fourth hardware silicon bank flags1 flags2 flags3 flags4 : ℕ)
    → identity_of (vendor ∷ product ∷ first ∷ second ∷ third ∷ fourth ∷ []) (hardware ∷ silicon ∷ bank ∷ flags1 ∷ flags2 ∷ flags3 ∷ flags4 ∷ [])
    ≡ record {
      vendor = vendor;
      product = product;
      hardware = hardware;
      silicon = silicon;
      versions = record { first = first; second = second; third = third; fourth = fourth };
      bank = bank;
      flags1 = flags1;
      flags2 = flags2;
      flags3 = flags3;
      flags4 = flags4;
    }
unfolding identity_of
identity_row vendor product first second third fourth hardware silicon bank flags1 flags2 flags3 flags4 = refl

-- What a refused start leaves is fourteen zeros.
pub zero_row : zero_words ≡ 0 ∷ 0 ∷ 0 ∷ 0 ∷ 0 ∷ 0 ∷ 0 ∷ 0 ∷ 0 ∷ 0 ∷ 0 ∷ 0 ∷ 0 ∷ 0 ∷ []
zero_row = refl
