use mathlib.Core.Path.{◌≡◌, ap₂}
use Prim.Native.Nat.{◌*◌, ◌/◌, ◌%◌}
use native.Mathlib.Omega.{arith}
use lib.Bits.{bit_xor}
use Rattle.aes_sbox.specs.Field.{xtime}
use Rattle.aes128.proofs.keys.next_constant.Goals as goal

pub returns : goal.returns
unfolding xtime
returns c =
    let x = c.args.c in
    let p : x % 128 * 2 ≡ x * 2 % 256 = omega arith in
    let q : x / 128 * 0x1b ≡ x / 128 % 2 * 0x1b = omega arith in
    ap₂ bit_xor p q
