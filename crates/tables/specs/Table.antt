-- The last arm of a `match` over the first n numbers. Nothing here is of a standard.
use Rattle.std.specs.Prelude.{◌≡◌, ℕ, zero, suc}

-- x is none of the numbers below n.
abbrev pub NoneBelow : ℕ → ℕ → Type 0
NoneBelow zero x = Unit {0}
NoneBelow (suc n) x = NoneBelow n x × (x ≡ n → ⊥)
