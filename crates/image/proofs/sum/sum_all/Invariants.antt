use Rattle.std.proofs.Common.{◌≡◌, take}
use Rattle.image.specs.Sum.{sum_of}
use Rattle.image.proofs.sum.sum_all.Given as goal

abbrev pub invariant-loop-byte : goal.invariant-loop-byte
invariant-loop-byte l = l.sum ≡ sum_of (take l.byte-index l.bytes)
