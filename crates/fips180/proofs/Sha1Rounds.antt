-- The function and the constant of SHA-1's round t: the standard's four cases.
use Prim.Native.Nat.{◌<◌, ◌≤◌}
use native.Mathlib.Omega.{arith}
use borrow.Author.Tests.{lt-ltb, le-ltb}
use Rattle.fips180.specs.Words.{Ch, Maj}
use Rattle.fips180.specs.Sha1.{Parity}
use Rattle.fips180.specs.Statements.{Has, Sha1RoundByCases}

pub round_by_cases : Sha1RoundByCases
round_by_cases t = (first, second, third, last)
  where
    first : t < 20 → Has Ch 0x5a827999 t
    first h = ((λ x y z. simp (lt-ltb t 20 h)), simp (lt-ltb t 20 h))

    second : 20 ≤ t → t < 40 → Has Parity 0x6ed9eba1 t
    second l h = ((λ x y z. simp (le-ltb t 20 l, lt-ltb t 40 h)), simp (le-ltb t 20 l, lt-ltb t 40 h))

    third : 40 ≤ t → t < 60 → Has Maj 0x8f1bbcdc t
    third l h =
        let l1 : 20 ≤ t = omega arith in
        ((λ x y z. simp (le-ltb t 20 l1, le-ltb t 40 l, lt-ltb t 60 h)), simp (le-ltb t 20 l1, le-ltb t 40 l, lt-ltb t 60 h))

    last : 60 ≤ t → Has Parity 0xca62c1d6 t
    last l =
        let l1 : 20 ≤ t = omega arith in
        let l2 : 40 ≤ t = omega arith in
        ((λ x y z. simp (le-ltb t 20 l1, le-ltb t 40 l2, le-ltb t 60 l)), simp (le-ltb t 20 l1, le-ltb t 40 l2, le-ltb t 60 l))
