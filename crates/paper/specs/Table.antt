-- P1 to P12 (01, Bench examples): what each one asks of the definitions, and what the paper prints for it.
use Rattle.std.specs.Prelude.{ℕ, List, [], ◌∷◌, map, ◌≡◌, replicate, drop, Ok}
use Rattle.image.specs.Blocks.{blocks_of}
use Rattle.image.specs.Sum.{sum_of}
use Rattle.wire.specs.Written.{response_bytes}
use Rattle.wire.specs.declared.response.Response.TheVariants.{Initiate}
use Rattle.mailbox_rules.specs.Mailbox.{fresh_mailbox, mailbox_fresh_of, mailbox_cci_of}
use Rattle.mailbox_rules.specs.Events.{Event, writes, changes}
use Rattle.mailbox_rules.specs.History.{history_from}
use Rattle.mailbox_state.specs.declared.mailbox.Mailbox.{Mailbox}

-- CONTROL: the command in the first byte, bits 16 to 31 in the third and fourth.
abbrev pub control : ℕ → ℕ → ℕ → Event
control code low high = writes (code ∷ 0 ∷ low ∷ high ∷ 0 ∷ 0 ∷ 0 ∷ 0 ∷ [])

abbrev pub after : Mailbox → List Event → Mailbox
after m events = (history_from m events).mailbox

-- Two connectors, after enabling (mask FFFF) and ACK.
abbrev pub enabled : Mailbox
enabled = after (fresh_mailbox 2) (control 0x05 0xFF 0xFF ∷ control 0x04 0x02 0x00 ∷ [])

-- A file's blocks, a capacity's bytes in a ready INITIATE answer, the sum of accepted bytes, CCI after these events.
pub data Example : Type 0 where
  blocks : ℕ → Example
  capacity : ℕ → Example
  sum : List ℕ → Example
  cci : List Event → Example

abbrev pub value_of : Example → List ℕ
value_of (blocks size) = blocks_of size ∷ []
value_of (capacity most) = drop 4 (response_bytes (Initiate 0 0 most))
value_of (sum bytes) = sum_of bytes ∷ []
value_of (cci events) = mailbox_cci_of (after enabled events) ∷ []

pub record Row : Type 0 where
  pub example : Example
  pub printed : List ℕ

abbrev row : Example → List ℕ → Row
row example printed = record { example = example; printed = printed }

-- P1 to P4, then P5, P6 to P8, and P9 to P12.
abbrev pub table : List Row
table =
    row (blocks 1) (1 ∷ [])
    ∷ row (blocks 256) (1 ∷ [])
    ∷ row (blocks 257) (2 ∷ [])
    ∷ row (blocks 1048575) (4096 ∷ [])
    ∷ row (capacity 1048575) (0xFF ∷ 0xFF ∷ 0x0F ∷ [])
    ∷ row (sum (0xFF ∷ 0x01 ∷ [])) (256 ∷ [])
    ∷ row (sum (replicate 258 0xFF)) (254 ∷ [])
    ∷ row (sum []) (0 ∷ [])
    ∷ row (cci (control 0x17 0x00 0x00 ∷ [])) (0x82000000 ∷ [])
    ∷ row (cci (control 0x12 0x03 0x00 ∷ [])) (0xC0000000 ∷ [])
    ∷ row (cci (changes 2 0x0002 ∷ changes 1 0x0002 ∷ control 0x04 0x01 0x00 ∷ [])) (0x20000002 ∷ [])
    ∷ row (cci (control 0x06 0x00 0x00 ∷ control 0x01 0x00 0x00 ∷ [])) (0x08000000 ∷ [])
    ∷ []

-- A start with two connectors makes the mailbox that P9 to P12 begin with, and every row of the table comes out as the paper prints it.
pub record Paper : Type 0 where
  pub started : mailbox_fresh_of 2 ≡ Ok (fresh_mailbox 2)
  pub rows : map (λ (r : Row). value_of r.example) table ≡ map (λ (r : Row). r.printed) table
