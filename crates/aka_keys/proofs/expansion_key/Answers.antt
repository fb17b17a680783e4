-- The expansion's key: the second half of the MAC, which is IK', and then the first, CK'.
use Prim.Native.Nat.{ℕ}
use mathlib.Core.Path.{◌≡◌, ap, ◌∙◌}
use mathlib.Core.List.{List, ◌++◌}
use native.Mathlib.Omega.{arith}
use lib.ListN.{length, take, drop, length-drop}
use lib.Seq.{take_all}
use Rattle.std.proofs.Common.{rules}
use Rattle.aka_keys.specs.Rfc5448.{expansion_key}
use Rattle.aka_keys.specs.Ts33402.{ck_prime, ik_prime, prime_keys, prime_text}
use Rattle.aka_keys.proofs.expansion_key.Goals as goal

halves : (keys r : List ℕ) → length keys ≡ 32 → r ≡ take 16 (drop 16 keys) ++ take 16 keys → r ≡ drop 16 keys ++ take 16 keys
halves keys r e f = f ∙ ap (λ (l : List ℕ). l ++ take 16 keys) (take_all 16 (drop 16 keys) (omega (arith, e, length-drop 16 keys)))

pub returns : goal.returns
unfolding expansion_key ck_prime ik_prime prime_keys prime_text
returns c =
    let long : length c.mac_of_parts-keys.result ≡ 32 = search rules in
    let mac = rw (c.joined-key.ensures, c.be16-size.ensures) at c.mac_of_parts-keys.ensures in
    rw mac at (halves _ _ long c.joined.ensures)
