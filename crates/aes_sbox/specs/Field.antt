-- FIPS 197 section 4: a byte is a polynomial over GF(2), bit i the coefficient of x^i. Sums are exclusive or (4.1, bit_xor of the library), products are
-- taken modulo x^8 + x^4 + x^3 + x + 1 (4.2).
use Rattle.std.specs.Prelude.{ℕ, zero, suc, ◌*◌, ◌/◌, ◌%◌}
use Rattle.std.specs.Int.Bits.{bit_xor}

-- 4.2.1, xtime: the product {02} · a. A shift to the left, and {1b} added where bit 7 was set.
unfoldable pub xtime : ℕ → ℕ
xtime a = bit_xor (a * 2 % 256) (a / 128 % 2 * 0x1b)

-- a · b over the n low bits of b: the sum of a · x^i over the bits i that are set (4.2.1: "higher powers of x can be implemented by repeated application
-- of xtime").
unfoldable pub mul_bits : ℕ → ℕ → ℕ → ℕ
mul_bits zero a b = 0
mul_bits (suc n) a b = bit_xor (b % 2 * a) (mul_bits n (xtime a) (b / 2))

-- 4.2: the product of two bytes.
unfoldable pub mul : ℕ → ℕ → ℕ
mul a b = mul_bits 8 a b
