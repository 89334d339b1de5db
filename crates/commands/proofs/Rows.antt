-- The table in the codes of 002 (Table A-1), and every code that is not in it by itself (01, The mailbox).
use Prim.Native.Nat.{ℕ, ◌≤◌}
use mathlib.Core.Bool.{Bool, true, false}
use mathlib.Core.Path.{◌≡◌, refl, ◌∙◌, sym}
use mathlib.Core.Logic.{◌⊎◌, inl, inr}
use borrow.Author.Tests.{eqb-true, ltb-true, ltb-false}
use lib.Dec.{ltb}
use lib.ListN.{get_or}
use denote.Bor.{Bor}
use Rattle.std.specs.Option.{option_copied}
use Rattle.std.specs.Prelude.{Option, unwrap_or, slice_get}
use Rattle.std.specs.Slice.{IsItemAt}
use Rattle.std.proofs.Common.{rules, List, ap}
use Rattle.std.proofs.lemmas.List.{get_or_past}
use Rattle.std.proofs.lemmas.Option.{gets, unwrap_or-slice_get}
use Rattle.basis.specs.Table.{tabulate, at}
use native.Mathlib.Omega.{arith}
use Rattle.basis.specs.Pick.{pick, pick_all, tests}
use Rattle.commands.specs.Table.{entry, entry_of}
use Rattle.commands.specs.declared.table.Class.{Class}
use Rattle.commands.specs.declared.table.Entry.{Entry}
use Rattle.commands.specs.declared.table.Class.TheVariants.{Reset, Cancel, Acknowledge, Enable, Run, NotSupported}

pub record Rows : Type 0 where
  pub reset : entry_of 0x01 ≡ entry Reset false
  pub cancel : entry_of 0x02 ≡ entry Cancel false
  pub connector_reset : entry_of 0x03 ≡ entry Run true
  pub acknowledge : entry_of 0x04 ≡ entry Acknowledge false
  pub enable : entry_of 0x05 ≡ entry Enable false
  pub capability : entry_of 0x06 ≡ entry Run false
  pub connector_capability : entry_of 0x07 ≡ entry Run true
  pub connector_status : entry_of 0x12 ≡ entry Run true

pub rows : Rows
unfolding entry_of pick
rows =
    record {
      reset = refl;
      cancel = refl;
      connector_reset = refl;
      acknowledge = refl;
      enable = refl;
      capability = refl;
      connector_capability = refl;
      connector_status = refl;
    }

abbrev Not : ℕ → ℕ → Type 0
Not code c = code ≡ c → ⊥

pub others : (code : ℕ) → Not code 0x01 → Not code 0x02 → Not code 0x03 → Not code 0x04 → Not code 0x05 → Not code 0x06 → Not code 0x07 → Not code 0x12 → entry_of code ≡ entry NotSupported false
unfolding entry_of
others code h1 h2 h3 h4 h5 h6 h7 h12 = search (tests, h1, h2, h3, h4, h5, h6, h7, h12)

pub above : (code : ℕ) → 30 ≤ code → entry_of code ≡ entry NotSupported false
above code h =
    others code (λ e. omega arith) (λ e. omega arith) (λ e. omega arith) (λ e. omega arith) (λ e. omega arith) (λ e. omega arith)
    (λ e. omega arith)
    (λ e. omega arith)

-- The codes that have a class.
abbrev pub Named : ℕ → Class → Type 0
Named code Reset = code ≡ 0x01
Named code Cancel = code ≡ 0x02
Named code Acknowledge = code ≡ 0x04
Named code Enable = code ≡ 0x05
Named code Run = ((code ≡ 0x03) ⊎ (code ≡ 0x06)) ⊎ ((code ≡ 0x07) ⊎ (code ≡ 0x12))
Named code NotSupported = Unit

abbrev NamedBy : ℕ → Entry → Type 0
NamedBy code e = Named code e.class

pub named : (code : ℕ) → Named code (entry_of code).class
unfolding entry_of
named code =
    pick_all (NamedBy code) _ _ _ (eqb-true code 0x01) (λ n1.
    pick_all (NamedBy code) _ _ _ (eqb-true code 0x02) (λ n2.
    pick_all (NamedBy code) _ _ _ (eqb-true code 0x04) (λ n4.
    pick_all (NamedBy code) _ _ _ (eqb-true code 0x05) (λ n5.
    pick_all (NamedBy code) _ _ _ (λ y. inl (inr (eqb-true code 0x06 y))) (λ n6.
    pick_all (NamedBy code) _ _ _ (λ y. inl (inl (eqb-true code 0x03 y))) (λ n3.
    pick_all (NamedBy code) _ _ _ (λ y. inr (inl (eqb-true code 0x07 y))) (λ n7.
    pick_all (NamedBy code) _ _ _ (λ y. inr (inr (eqb-true code 0x12 y))) (λ n12. tt))))))))

-- The rule at each code of 002's table; above it no code is named.
abbrev pub table : List Entry
table = tabulate entry_of 0 30

read : (code : ℕ) → get_or table code (entry NotSupported false) ≡ entry_of code
read code =
    pick_all (λ (t : Bool). get_or table code (entry NotSupported false) ≡ entry_of code) (ltb code 30) true false
    (λ y. at entry_of _ 30 code (ltb-true code 30 y))
    (λ n. get_or_past table code _ (ltb-false code 30 n) ∙ sym (above code (ltb-false code 30 n)))

found : (entries : List Entry) (place : ℕ) (r : Option (Bor Entry)) (d : Entry) → IsItemAt entries place r → unwrap_or (option_copied r) d ≡ get_or entries place d
found entries place r d h =
    let got : option_copied r ≡ slice_get entries place = search (rules, gets) in
    ap (λ (x : Option Entry). unwrap_or x d) got ∙ unwrap_or-slice_get entries place d

pub looked : (code : ℕ) (r : Option (Bor Entry)) → IsItemAt table code r → unwrap_or (option_copied r) (entry NotSupported false) ≡ entry_of code
looked code r h = found table code r _ h ∙ read code
