-- CCI said back bit by bit, in the numbers of document 01 and 000 T3-2.
use Prim.Native.Nat.{ℕ, zero, suc, ◌+◌, ◌*◌, ◌/◌, ◌%◌, ◌<◌, ◌^◌}
use mathlib.Core.Bool.{Bool, true, false, true≢false}
use mathlib.Core.List.{List, [], ◌∷◌, map}
use mathlib.Core.Path.{◌≡◌, refl, sym, ◌∙◌, ap}
use native.Mathlib.Nat.{add-suc, div-div-eq-div-mul}
use native.Mathlib.Omega.{arith}
use lib.Dec.{eqb}
use lib.Pow.{pow-add}
use Rattle.basis.specs.Pick.{pick}
use Rattle.mailbox_state.specs.declared.status.Command.{Command}
use Rattle.mailbox_state.specs.Status.{runs_of}
use Rattle.mailbox_state.specs.declared.status.CommandStatus.{CommandStatus}
use Rattle.mailbox_state.specs.declared.status.CommandStatus.TheVariants.{Nothing, ResetDone, Busy, Completed, Failed, NotSupported, Cancelled, Acknowledged}
use Rattle.mailbox_rules.specs.Cci.{cci_bits_of}
use Rattle.mailbox_rules.specs.Says.{set_from, Says}
use Rattle.mailbox_rules.specs.WellFormed.{LengthFits}

-- Bit 16 + i of a number is bit i of its upper half.
abbrev above : List ℕ → List ℕ
above set = map (λ (i : ℕ). 16 + i) set

upper : (n i : ℕ) → n / 2 ^ (16 + i) ≡ n / 2 ^ 16 / 2 ^ i
upper n i = ap (λ (m : ℕ). n / m) (pow-add 2 16 i) ∙ sym (div-div-eq-div-mul n (2 ^ 16) (2 ^ i))

either : (t : Bool) (i : ℕ) (set : List ℕ) → pick t ((16 + i) ∷ above set) (above set) ≡ above (pick t (i ∷ set) set)
unfolding pick
either true i set = refl
either false i set = refl

set_above : (n : ℕ) (more i : ℕ) → set_from n (16 + i) more ≡ above (set_from (n / 2 ^ 16) i more)
set_above n zero i = refl
set_above n (suc more) i =
    let next : set_from n (suc (16 + i)) more ≡ above (set_from (n / 2 ^ 16) (suc i) more) = ap (λ (k : ℕ). set_from n k more) (sym (add-suc 16 i)) ∙ set_above n more (suc i) in
    rw (upper n i, next) (either (eqb (n / 2 ^ 16 / 2 ^ i % 2) 1) i (set_from (n / 2 ^ 16) (suc i) more))

-- The upper half of CCI is a number of the code, and its bits are computed.
module _ (cci connector length half : ℕ) where
  says : cci ≡ 2 * connector + 256 * length + 65536 * half → connector < 128 → length < 256 → half < 65536 → Says cci connector length (above (set_from half 0 16))
  says e hc hl hh =
      let h : cci / 2 ^ 16 ≡ half = omega arith in
      record {
        bit_0 = omega arith;
        bits_1_to_7 = omega arith;
        bits_8_to_15 = omega arith;
        bits_16_to_31 = set_above cci 16 0 ∙ ap (λ (n : ℕ). above (set_from n 0 16)) h;
        width = omega arith;
      }

-- Of each status, the bits that are set: outside a run the connector shown too, and in a run bit 28 alone.
module _ (shown : ℕ) where
  pub nothing_says : Says (cci_bits_of Nothing shown) (shown % 128) 0 []
  unfolding cci_bits_of pick
  nothing_says = says _ _ _ 0 (omega arith) (omega arith) (omega arith) (omega arith)

  pub reset_done_says : Says (cci_bits_of ResetDone shown) (shown % 128) 0 (27 ∷ [])
  unfolding cci_bits_of pick
  reset_done_says = says _ _ _ (2 ^ 11) (omega arith) (omega arith) (omega arith) (omega arith)

  pub completed_says : (length : ℕ) → length < 256 → Says (cci_bits_of (Completed length) shown) (shown % 128) length (31 ∷ [])
  unfolding cci_bits_of pick
  completed_says length h = says _ _ _ (2 ^ 15) (omega arith) (omega arith) h (omega arith)

  pub failed_says : Says (cci_bits_of Failed shown) (shown % 128) 0 (30 ∷ 31 ∷ [])
  unfolding cci_bits_of pick
  failed_says = says _ _ _ (2 ^ 15 + 2 ^ 14) (omega arith) (omega arith) (omega arith) (omega arith)

  pub not_supported_says : Says (cci_bits_of NotSupported shown) (shown % 128) 0 (25 ∷ 31 ∷ [])
  unfolding cci_bits_of pick
  not_supported_says = says _ _ _ (2 ^ 15 + 2 ^ 9) (omega arith) (omega arith) (omega arith) (omega arith)

  pub cancelled_says : Says (cci_bits_of Cancelled shown) (shown % 128) 0 (26 ∷ 31 ∷ [])
  unfolding cci_bits_of pick
  cancelled_says = says _ _ _ (2 ^ 15 + 2 ^ 10) (omega arith) (omega arith) (omega arith) (omega arith)

  pub acknowledged_says : Says (cci_bits_of Acknowledged shown) (shown % 128) 0 (29 ∷ [])
  unfolding cci_bits_of pick
  acknowledged_says = says _ _ _ (2 ^ 13) (omega arith) (omega arith) (omega arith) (omega arith)

  pub busy_says : (command : Command) → Says (cci_bits_of (Busy command) shown) 0 0 (28 ∷ [])
  unfolding cci_bits_of pick
  busy_says command = says _ _ _ (2 ^ 12) (omega arith) (omega arith) (omega arith) (omega arith)

-- Of every status.
pub cci_width : (status : CommandStatus) (shown : ℕ) → LengthFits status → cci_bits_of status shown < 2 ^ 32
cci_width Nothing shown h = (nothing_says shown).width
cci_width ResetDone shown h = (reset_done_says shown).width
cci_width (Busy command) shown h = (busy_says shown command).width
cci_width (Completed n) shown h = let few = h n refl in (completed_says shown n (omega (arith, few))).width
cci_width Failed shown h = (failed_says shown).width
cci_width NotSupported shown h = (not_supported_says shown).width
cci_width Cancelled shown h = (cancelled_says shown).width
cci_width Acknowledged shown h = (acknowledged_says shown).width

pub outside_shows : (status : CommandStatus) (shown : ℕ) → runs_of status ≡ false → cci_bits_of status shown / 2 ^ 1 % 2 ^ 7 ≡ shown % 128
unfolding cci_bits_of runs_of
outside_shows Nothing shown e = omega arith
outside_shows ResetDone shown e = omega arith
outside_shows (Busy command) shown e = absurd (true≢false e)
outside_shows (Completed length) shown e = omega arith
outside_shows Failed shown e = omega arith
outside_shows NotSupported shown e = omega arith
outside_shows Cancelled shown e = omega arith
outside_shows Acknowledged shown e = omega arith

pub in_run_alone : (status : CommandStatus) (shown : ℕ) → runs_of status ≡ true → cci_bits_of status shown ≡ 2 ^ 28
unfolding cci_bits_of runs_of
in_run_alone (Busy command) shown e = refl
in_run_alone Nothing shown e = absurd (true≢false (sym e))
in_run_alone ResetDone shown e = absurd (true≢false (sym e))
in_run_alone (Completed length) shown e = absurd (true≢false (sym e))
in_run_alone Failed shown e = absurd (true≢false (sym e))
in_run_alone NotSupported shown e = absurd (true≢false (sym e))
in_run_alone Cancelled shown e = absurd (true≢false (sym e))
in_run_alone Acknowledged shown e = absurd (true≢false (sym e))

-- Whichever connector is shown, only bits 1 to 7 differ.
pub others_stay : (status : CommandStatus) (one other : ℕ) → cci_bits_of status one / 2 ^ 8 ≡ cci_bits_of status other / 2 ^ 8
unfolding cci_bits_of
others_stay Nothing one other = omega arith
others_stay ResetDone one other = omega arith
others_stay (Busy command) one other = refl
others_stay (Completed length) one other = omega arith
others_stay Failed one other = omega arith
others_stay NotSupported one other = omega arith
others_stay Cancelled one other = omega arith
others_stay Acknowledged one other = omega arith

pub bit_0_clear : (status : CommandStatus) (shown : ℕ) → cci_bits_of status shown % 2 ≡ 0
unfolding cci_bits_of
bit_0_clear Nothing shown = omega arith
bit_0_clear ResetDone shown = omega arith
bit_0_clear (Busy command) shown = refl
bit_0_clear (Completed length) shown = omega arith
bit_0_clear Failed shown = omega arith
bit_0_clear NotSupported shown = omega arith
bit_0_clear Cancelled shown = omega arith
bit_0_clear Acknowledged shown = omega arith
