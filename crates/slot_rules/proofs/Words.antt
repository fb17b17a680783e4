-- The slots of a word: a bit set is a slot taken, bits cleared are slots freed.
use mathlib.Core.Path.{◌≡◌, refl, ap, ap₂, ◌∙◌}
use mathlib.Core.Bool.{Bool, true, false, cond}
use mathlib.Core.List.{List, [], ◌∷◌}
use Prim.Native.Nat.{ℕ, zero, suc, ◌+◌, ◌-◌, ◌*◌, ◌/◌, ◌%◌, ◌^◌, ◌<◌}
use native.Mathlib.Nat.{pow-suc, mod-lt, zero-lt-suc}
use native.Mathlib.Omega.{arith}
use lib.Bits.{bit_and, bit_or, or_mod, or_shr, or_zero_r, and_mod, and_shr}
use lib.ListN.{length, set, replicate}
use Rattle.slot_rules.specs.Table.{Slot, free, holding, slot_of, slots_from, freed, bit, word_gone}

pub length_slots : {X : Type 0} (held : List X) (w : ℕ) → length (slots_from w held) ≡ length held
unfolding slots_from
length_slots [] w = refl
length_slots (x ∷ held) w = ap suc (length_slots held (w / 2))

-- ---- a bit set

or_one : (d : ℕ) → d < 2 → bit_or d 1 ≡ 1
or_one zero h = refl
or_one (suc zero) h = refl
or_one (suc (suc d)) h = absurd (omega arith)

pub put_law : {X : Type 0} (held : List X) (w i : ℕ) (x : X) → i < length held
    → slots_from (bit_or w (2 ^ i)) (set held i x) ≡ set (slots_from w held) i (holding x)
unfolding slots_from
put_law [] w i x h = absurd (omega arith)
put_law (y ∷ held) w zero x h =
    ap₂ (λ (d v : ℕ). slot_of d x ∷ slots_from v held)
    (or_mod w 1 1 ∙ or_one (w % 2) (mod-lt w (zero-lt-suc 1)))
    (or_shr w 1 1 ∙ or_zero_r (w / 2))
put_law (y ∷ held) w (suc i) x h =
    let e = pow-suc 2 i in
    let even : 2 ^ suc i % 2 ≡ 0 = omega arith in
    let half : 2 ^ suc i / 2 ≡ 2 ^ i = omega arith in
    ap₂ (λ (d v : ℕ). slot_of d y ∷ slots_from v (set held i x))
    (or_mod w (2 ^ suc i) 1 ∙ ap (bit_or (w % 2)) even ∙ or_zero_r (w % 2))
    (or_shr w (2 ^ suc i) 1 ∙ ap (bit_or (w / 2)) half)
    ∙ ap (λ (s : List (Slot _)). slot_of (w % 2) y ∷ s) (put_law held (w / 2) i x (omega arith))

-- ---- bits cleared

-- the bit of a slot that goes is cleared, any other kept
cleared : (d : ℕ) (b : Bool) → d < 2 → bit_and d (1 - bit b) ≡ cond b 0 d
cleared zero true h = refl
cleared zero false h = refl
cleared (suc zero) true h = refl
cleared (suc zero) false h = refl
cleared (suc (suc d)) b h = absurd (omega arith)

pub bit-lt : (b : Bool) → bit b < 2
bit-lt true = omega arith
bit-lt false = omega arith

pub word_lt : (goes : ℕ → Bool) (at n : ℕ) → word_gone goes at n < 2 ^ n
unfolding word_gone
word_lt goes at zero = omega arith
word_lt goes at (suc n) =
    let h = word_lt goes (suc at) n in
    let e = pow-suc 2 n in
    let d = bit-lt (goes at) in
    omega arith

slot_cond : {X : Type 0} (x : X) (b : Bool) (d : ℕ) → slot_of (cond b 0 d) x ≡ cond b free (slot_of d x)
slot_cond x true d = refl
slot_cond x false d = refl

pub freed_law : {X : Type 0} (goes : ℕ → Bool) (held : List X) (w at : ℕ)
    → slots_from (bit_and w ((2 ^ length held - 1) - word_gone goes at (length held))) held ≡ freed goes at (slots_from w held)
unfolding slots_from freed word_gone
freed_law goes [] w at = refl
freed_law goes (y ∷ held) w at =
    let k = length held in
    let g = word_gone goes (suc at) k in
    let b = word_lt goes (suc at) k in
    let e = pow-suc 2 k in
    let d = bit-lt (goes at) in
    let odd : ((2 ^ suc k - 1) - (g * 2 + bit (goes at))) % 2 ≡ 1 - bit (goes at) = omega arith in
    let half : ((2 ^ suc k - 1) - (g * 2 + bit (goes at))) / 2 ≡ (2 ^ k - 1) - g = omega arith in
    ap₂ (λ (d v : ℕ). slot_of d y ∷ slots_from v held)
    (and_mod w ((2 ^ suc k - 1) - (g * 2 + bit (goes at))) 1 ∙ ap (bit_and (w % 2)) odd ∙ cleared (w % 2) (goes at) (mod-lt w (zero-lt-suc 1)))
    (and_shr w ((2 ^ suc k - 1) - (g * 2 + bit (goes at))) 1 ∙ ap (bit_and (w / 2)) half)
    ∙ ap₂ (λ (s : Slot _) (t : List (Slot _)). s ∷ t) (slot_cond y (goes at) (w % 2)) (freed_law goes held (w / 2) (suc at))

-- no bit set: all slots are free
pub empty_law : {X : Type 0} (held : List X) → slots_from 0 held ≡ replicate (length held) free
unfolding slots_from
empty_law [] = refl
empty_law (x ∷ held) = ap (λ (t : List (Slot _)). free ∷ t) (empty_law held)
