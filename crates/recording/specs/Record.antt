-- A record's array (01, Replay program).
use Rattle.std.specs.Prelude.{List, [], ◌∷◌, ◌≡◌, length}
use Rattle.recording.specs.declared.record.Record.{Record}
use Rattle.recording.specs.declared.record.Record.TheVariants.{Control, Change, Success, Failure}

-- CONTROL has eight bytes, as every value of the type has: they are an array of eight.
abbrev pub Eight : Record → Type 0
Eight (Control c) = length c ≡ 8
Eight (Change connector reason) = Unit
Eight (Success length) = Unit
Eight Failure = Unit

abbrev pub AllEight : List Record → Type 0
AllEight [] = Unit
AllEight (r ∷ rs) = Eight r × AllEight rs
