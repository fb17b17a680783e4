-- Sums of words, taken modulo 2 ^ 32 at each step.
use Rattle.std.proofs.Common.{◌≡◌, ℕ, ◌+◌, ◌%◌, ◌^◌, arith}

pub four_terms : (a b c d : ℕ) → (((a + b) % 2 ^ 32 + c) % 2 ^ 32 + d) % 2 ^ 32 ≡ (a + b + c + d) % 2 ^ 32
four_terms a b c d = omega arith

pub five_terms : (a b c d e : ℕ) → ((((a + b) % 2 ^ 32 + c) % 2 ^ 32 + d) % 2 ^ 32 + e) % 2 ^ 32 ≡ (a + b + c + d + e) % 2 ^ 32
five_terms a b c d e = omega arith
