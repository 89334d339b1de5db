-- What every message begins with: 2 to 260 bytes, the first of them our version (01, Sizes and numbers; 001 T5-1, T5-2).
use Rattle.std.specs.Prelude.{ℕ, Bool, false, List, length, ltb, eqb, Result, Err}
use Rattle.basis.specs.Pick.{pick}
use Rattle.wire.specs.Codes.{version, shortest, longest}
use Rattle.basis.specs.Bytes.{byte_at}
use Rattle.wire.specs.declared.malformed.Malformed.{Malformed}

-- What is no message (01, Numbers we answer: 20)
abbrev pub malformed : {A : Type 0} → Result A Malformed
malformed = Err (record {})

unfoldable pub headed : List ℕ → Bool
headed m =
    pick (ltb (length m) shortest) false
    (pick (ltb longest (length m)) false
    (eqb (byte_at m 0) version))
