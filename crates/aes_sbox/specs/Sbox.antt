-- FIPS 197 sections 5.1.1 and 5.3.2: the rules of the S-box and of the inverse S-box.
use Rattle.std.specs.Prelude.{ℕ, ◌+◌, ◌-◌, ◌*◌, ◌/◌, ◌%◌, ◌^◌}
use Rattle.std.specs.Int.Bits.{bit_xor}
use Rattle.aes_sbox.specs.Field.{mul}

-- The multiplicative inverse of a byte, and {00} of {00}: the 254th power, 254 = 2 + 4 + 8 + 16 + 32 + 64 + 128. `InverseInverts` of
-- Statements.antt says that it is the inverse.
unfoldable pub inverse : ℕ → ℕ
inverse a =
    let a2 : ℕ = mul a a in
    let a4 : ℕ = mul a2 a2 in
    let a8 : ℕ = mul a4 a4 in
    let a16 : ℕ = mul a8 a8 in
    let a32 : ℕ = mul a16 a16 in
    let a64 : ℕ = mul a32 a32 in
    let a128 : ℕ = mul a64 a64 in
    mul a2 (mul a4 (mul a8 (mul a16 (mul a32 (mul a64 a128)))))

-- A byte rotated to the left by k bits: bit i becomes bit i - k, modulo 8.
abbrev pub rotated : ℕ → ℕ → ℕ
rotated b k = b * 2 ^ k % 256 + b / 2 ^ (8 - k)

-- Equation 5.1: bit i becomes b_i + b_(i+4) + b_(i+5) + b_(i+6) + b_(i+7) + c_i, the indices modulo 8 and c = {63}.
unfoldable pub affine : ℕ → ℕ
affine b = bit_xor b (bit_xor (rotated b 4) (bit_xor (rotated b 3) (bit_xor (rotated b 2) (bit_xor (rotated b 1) 0x63))))

-- 5.1.1: the S-box takes the multiplicative inverse and then the affine map.
unfoldable pub sbox_of : ℕ → ℕ
sbox_of a = affine (inverse a)

-- The affine map undone: bit i becomes b_(i+2) + b_(i+5) + b_(i+7) + d_i, d = {05}.
unfoldable pub inv_affine : ℕ → ℕ
inv_affine b = bit_xor (rotated b 6) (bit_xor (rotated b 3) (bit_xor (rotated b 1) 0x05))

-- 5.3.2: the inverse S-box takes the inverse of the affine map and then the multiplicative inverse.
unfoldable pub inv_sbox_of : ℕ → ℕ
inv_sbox_of b = inverse (inv_affine b)
