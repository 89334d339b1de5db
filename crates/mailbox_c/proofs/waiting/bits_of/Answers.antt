use Rattle.std.proofs.Common.{◌≡◌, ◌<◌, ℕ, false, sym, ap, ◌∙◌, get_or, rules}
use Rattle.std.specs.List.{slice_index}
use Rattle.basis.specs.Flag.{byte_of}
use Rattle.basis.specs.Lists.{spell, spelled_all}
use Rattle.mailbox_c.specs.Waiting.{bits_of}
use Rattle.mailbox_c.proofs.Spread.{gathers}
use Rattle.mailbox_c.proofs.waiting.bits_of.Goals as goal

pub returns : goal.returns
unfolding bits_of spell
returns c =
    let w = c.args.w in
    let at : (i : ℕ) → i < 8 → slice_index c.map.result i ≡ byte_of (get_or w i false) = λ i h. search rules in
    rw (
      c.from_le_bytes-spread.ensures,
      at 0 (search rules),
      at 1 (search rules),
      at 2 (search rules),
      at 3 (search rules),
      at 4 (search rules),
      at 5 (search rules),
      at 6 (search rules),
      at 7 (search rules),
    )
    (gathers (get_or w 0 false) (get_or w 1 false) (get_or w 2 false) (get_or w 3 false) (get_or w 4 false) (get_or w 5 false) (get_or w 6 false) (get_or w 7 false)
    ∙ sym (ap bits_of (spelled_all false 8 w (search rules))))
