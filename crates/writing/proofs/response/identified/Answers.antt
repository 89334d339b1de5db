use Rattle.wire.specs.Written.{identified_bytes}
use Rattle.writing.proofs.response.identified.Goals as goal

pub returns : goal.returns
unfolding identified_bytes
returns c =
    simp (
      c.made.ensures,
      c.cleared-i.ensures,
      c.to_le_bytes.ensures,
      c.to_le_bytes-2.ensures,
      c.to_le_bytes-3.ensures,
      c.to_le_bytes-4.ensures,
      c.to_le_bytes-5.ensures,
      c.to_le_bytes-6.ensures,
    )
