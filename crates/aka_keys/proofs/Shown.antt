-- The five keys are the 208 bytes of the key material in their order, and the EMSK is a root key.
use Prim.Native.Nat.{ℕ, ◌+◌, ◌≤◌}
use mathlib.Core.Path.{◌≡◌, refl, sym, ap, ◌∙◌}
use mathlib.Core.List.{List, ◌++◌}
use native.Mathlib.Omega.{arith}
use lib.ListN.{length, take, drop, length-take, length-drop, take-append-drop}
use lib.Seq.{length-take-le, take_all, drop-drop, take-append-le, drop-append-le}
use Rattle.refusal.specs.Checks.{Check, pass, check1, within}
use Rattle.refusal.specs.Answers.{buffer_after}
use Rattle.refusal.proofs.Passing.{test_holds}
use Rattle.hmac.specs.Rfc2104.{hmac_sha256}
use Rattle.hmac.proofs.Laws.{hmac_sha256-length}
use Rattle.prf_plus.proofs.Laws.{prf_plus_of-length}
use Rattle.aka_keys.specs.Rfc5448.{expansion_key, expansion_text, key_material, k_encr_of, k_aut_of, k_re_of, msk_of, emsk_of}
use Rattle.aka_keys.specs.Statements.{Parts, EmskIsRoot}

-- a part of n bytes, and what stands after it
split_off : (mk : List ℕ) (at n : ℕ) → drop at mk ≡ take n (drop at mk) ++ drop (at + n) mk
split_off mk at n = sym (take-append-drop n (drop at mk)) ∙ ap (λ (l : List ℕ). take n (drop at mk) ++ l) (drop-drop n at mk)

part_length : (mk : List ℕ) (at n : ℕ) → length mk ≡ 208 → at + n ≤ 208 → length (take n (drop at mk)) ≡ n
part_length mk at n e h = length-take-le n (drop at mk) (omega (arith, length-drop at mk))

emsk_length : (mk : List ℕ) → length mk ≡ 208 → length (emsk_of mk) ≡ 64
unfolding emsk_of
emsk_length mk e = simp (length-take, length-drop) (omega (arith, e))

in_order : (mk : List ℕ) → length mk ≡ 208 → mk ≡ k_encr_of mk ++ (k_aut_of mk ++ (k_re_of mk ++ (msk_of mk ++ emsk_of mk)))
unfolding k_encr_of k_aut_of k_re_of msk_of emsk_of
in_order mk e =
    let last : drop 144 mk ≡ take 64 (drop 144 mk) = sym (take_all 64 (drop 144 mk) (omega (arith, length-drop 144 mk))) in
    split_off mk 0 16
    ∙ ap (λ (l : List ℕ). take 16 mk ++ l) (split_off mk 16 32
    ∙ ap (λ (l : List ℕ). take 32 (drop 16 mk) ++ l) (split_off mk 48 32
    ∙ ap (λ (l : List ℕ). take 32 (drop 48 mk) ++ l) (split_off mk 80 64
    ∙ ap (λ (l : List ℕ). take 64 (drop 80 mk) ++ l) last)))

material_length : (ck ik name sqnXorAk identity : List ℕ) → length (key_material ck ik name sqnXorAk identity) ≡ 208
unfolding key_material
material_length ck ik name sqnXorAk identity = prf_plus_of-length hmac_sha256 hmac_sha256-length (expansion_key ck ik name sqnXorAk) (expansion_text identity) 208

pub parts : Parts
unfolding k_encr_of k_aut_of k_re_of msk_of
parts ck ik name sqnXorAk identity =
    let mk = key_material ck ik name sqnXorAk identity in
    let e = material_length ck ik name sqnXorAk identity in
    (in_order mk e, part_length mk 0 16 e (omega arith), part_length mk 16 32 e (omega arith), part_length mk 48 32 e (omega arith), part_length mk 80 64 e (omega arith), emsk_length mk e)

-- 64 bytes from byte 144 on, of the material with the rest of a buffer after it
emsk_before : (mk rest : List ℕ) → length mk ≡ 208 → emsk_of (mk ++ rest) ≡ emsk_of mk
unfolding emsk_of
emsk_before mk rest e =
    ap (take 64) (drop-append-le 144 mk rest (omega arith)) ∙ take-append-le 64 (drop 144 mk) rest (omega (arith, length-drop 144 mk))

emsk_written : (mk buffer : List ℕ) {c : Check} → length mk ≡ 208 → c ≡ pass → emsk_of (buffer_after c 208 mk buffer) ≡ emsk_of mk
emsk_written mk buffer e p = ap (λ (c : Check). emsk_of (buffer_after c 208 mk buffer)) p ∙ emsk_before mk (drop 208 buffer) e

root_passes : (key : List ℕ) → length key ≡ 64 → check1 key ≡ pass
unfolding within
root_passes key e = test_holds _ _ (rw e refl)

pub emsk_is_root : EmskIsRoot
emsk_is_root ck ik name sqnXorAk identity buffer p =
    let mk = key_material ck ik name sqnXorAk identity in
    let e = material_length ck ik name sqnXorAk identity in
    (emsk_written mk buffer e p, root_passes (emsk_of mk) (emsk_length mk e))
