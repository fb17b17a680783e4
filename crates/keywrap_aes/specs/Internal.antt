-- What only the contracts of private functions need. Nothing here has to be believed.
use Rattle.std.specs.Prelude.{List, [], ◌∷◌, ℕ, zero, suc, ◌+◌, ◌*◌, ◌/◌, get_or, length}
use Rattle.std.specs.Int.Bits.{bit_xor}
use Rattle.fips197.specs.State.{State}
use Rattle.fips197.specs.Cipher.{cipher, inv_cipher, eq_inv_cipher}
use Rattle.keywrap_aes.specs.declared.passes.Direction.{Direction}
use Rattle.keywrap_aes.specs.declared.passes.Direction.TheVariants.{Forward, Back}
use Rattle.rfc3394.specs.Rfc3394.{Registers, joined, high, low, counted, block_at, with_block, wrap_passes, unwrap_passes, round_keys}

-- A count below 256 added to A, which changes one byte alone.
abbrev pub last_added : ℕ → List ℕ → List ℕ
last_added t w = get_or w 0 0 ∷ get_or w 1 0 ∷ get_or w 2 0 ∷ bit_xor (get_or w 3 0) t ∷ []

abbrev pub count_added : ℕ → State → State
count_added t s = get_or s 0 [] ∷ last_added t (get_or s 1 []) ∷ get_or s 2 [] ∷ get_or s 3 [] ∷ []

-- What a step with the count t makes of A | R[i] in the wrap, and in the unwrapping under the round keys of the equivalent inverse cipher.
abbrev pub forward_step : List State → ℕ → State → State
forward_step ks t s = counted t (cipher ks s)

abbrev pub back_step : List State → ℕ → State → State
back_step ks t s = eq_inv_cipher ks (counted t s)

-- A step f with the count t on block i.
abbrev pub stepped : (ℕ → State → State) → ℕ → ℕ → Registers → Registers
stepped f t i x = let s : State = f t (joined x.0 (block_at i x.1)) in (high s, with_block i (low s) x.1)

-- The first k steps of a pass whose counts come after c: `place` says whose turn it is.
unfoldable pub walk : (ℕ → State → State) → (ℕ → ℕ) → ℕ → ℕ → Registers → Registers
walk f place c zero x = x
walk f place c (suc k) x = stepped f (c + suc (place k)) (place k) (walk f place c k x)

-- The first j of six passes over n blocks.
unfoldable pub walks : (ℕ → State → State) → (ℕ → ℕ → ℕ) → ℕ → ℕ → Registers → Registers
walks f place n zero x = x
walks f place n (suc j) x = walk f (place n) (n * place 6 j) n (walks f place n j x)

-- The six passes over the blocks of eight bytes, as the definitions have them.
abbrev pub passes_of : Direction → List ℕ → Registers → Registers
passes_of Forward kek x = wrap_passes (cipher (round_keys kek)) (length x.1 / 8) 6 x
passes_of Back kek x = unwrap_passes (inv_cipher (round_keys kek)) (length x.1 / 8) 6 x
