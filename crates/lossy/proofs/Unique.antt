-- Each public contract leaves one answer and one state of the lent memory. Written from the contracts by tools/contracts.
use Rattle.std.specs.Prelude.{List, ℕ, ◌≡◌}
use Rattle.basis.specs.Left.{left}
use Rattle.basis.specs.Only.{only}
use Rattle.lossy.specs.Carry.{carry_of}
use Rattle.lossy.specs.declared.carry_call.Carried.{Carried}
use Rattle.lossy_ends.specs.Both.{both}
use Rattle.lossy_ends.specs.declared.ends.Ends.{Ends}
use Rattle.luck.specs.declared.luck.Luck.{Luck}

pub one_carry : (ends : Ends) (luck : Luck) (file image up down : List ℕ) (r r' : Carried) (image_left image_left' up_left up_left' down_left down_left' : List ℕ)
    → left (both r up_left down_left) image_left ≡ carry_of ends luck file image up down
    → left (both r' up_left' down_left') image_left' ≡ carry_of ends luck file image up down
    → left (both r up_left down_left) image_left ≡ left (both r' up_left' down_left') image_left'
one_carry ends luck file image up down r r' image_left image_left' up_left up_left' down_left down_left' is is' = only is is'
