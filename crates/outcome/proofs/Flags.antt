-- A truth value as the number that C gets.
use mathlib.Core.Path.{◌≡◌, refl}
use mathlib.Core.Bool.{Bool, true, false}
use mir.Val.{bool_byte}
use Rattle.outcome.specs.Areas.{flag_of}

pub as_flag : (b : Bool) → bool_byte b ≡ flag_of b
as_flag true = refl
as_flag false = refl
