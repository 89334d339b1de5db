use Rattle.std.proofs.Common.{◌≡◌, ◌<◌, ◌%◌, ℕ, false, nat_eq, rules}
use Rattle.std.specs.List.{slice_index, slice_index_or}
use Rattle.mailbox_c.specs.Waiting.{flags_of}
use Rattle.mailbox_c.proofs.Spread.{spreads}
use Rattle.mailbox_c.proofs.waiting.flags_of.Goals as goal

pub returns : goal.returns
unfolding flags_of
returns c =
    let at : (i : ℕ) → i < 8 → slice_index_or c.map.result i false ≡ nat_eq (slice_index c.to_le_bytes.result i % 2) 1 = λ i h. search rules in
    let spread = spreads c.args.bits in
    rw (
      at 0 (search rules),
      at 1 (search rules),
      at 2 (search rules),
      at 3 (search rules),
      at 4 (search rules),
      at 5 (search rules),
      at 6 (search rules),
      c.to_le_bytes.ensures,
      c.from-spread.ensures,
      spread.flag_0,
      spread.flag_1,
      spread.flag_2,
      spread.flag_3,
      spread.flag_4,
      spread.flag_5,
      spread.flag_6,
    )
