-- Which bytes a label, a server ID and a domain may hold (document 01, "Refusal numbers", 3, 7 and 8), and the position of
-- the first byte that a text may not hold.
use Rattle.std.specs.Prelude.{ℕ, Bool, true, not, ◌&&◌, ◌||◌, List, [], ◌∷◌, eqb, Option, position}
use Prim.Native.Char.{code}
use Rattle.refusal.specs.Checks.{within}

-- a byte of a label: 32 to 126
unfoldable pub label_byte : ℕ → Bool
label_byte b = within 32 126 b

-- a byte of a server ID: 33 to 126
unfoldable pub server_byte : ℕ → Bool
server_byte b = within 33 126 b

-- a byte of a domain: a letter (ASCII A to Z and a to z), a digit, a hyphen or a dot
unfoldable pub domain_byte : ℕ → Bool
domain_byte b = within (code "A") (code "Z") b || within (code "a") (code "z") b || within (code "0") (code "9") b || eqb b (code "-") || eqb b (code ".")

-- every element passes the test
unfoldable pub every : (ℕ → Bool) → List ℕ → Bool
every p [] = true
every p (x ∷ xs) = p x && every p xs

-- the position of the first element that fails the test, counted from 0
abbrev pub first_bad : (ℕ → Bool) → List ℕ → Option ℕ
first_bad p xs = position (λ b. not (p b)) xs
