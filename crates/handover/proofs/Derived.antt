-- Two MACs, one after the other: what a derivation writes.
use Prim.Native.Nat.{ℕ, ◌-◌, ◌≤◌}
use mathlib.Core.Path.{◌≡◌, refl, sym, ap, ◌∙◌}
use mathlib.Core.List.{List, ◌++◌}
use native.Mathlib.Omega.{arith}
use lib.ListN.{length, take, drop, set}
use borrow.Rule.Slice.PartMut.{put_mid}
use lib.Seq.{paste, length-take-le, take_all, take_at, drop_at, take-add, drop-drop}
use Rattle.slices.proofs.Copies.{copied_part}
use Rattle.rfc2104.specs.Rfc2104.{ipad, opad}
use Rattle.hmac_sha1.specs.Rfc2104.{hmac_sha1}
use Rattle.hmac_sha1.specs.Keyed.{key_value, mac_by_values}
use Rattle.hmac_sha1.proofs.Laws.{kept_values_give_mac}
use Rattle.handover_rules.specs.Kdf.{kdf_input}
use Rattle.handover_rules.specs.Handover.{r0_input, r1_input, r0_key, r1_key}
use Rattle.handover_rules.proofs.Keys.{r0_of_blocks, r1_of_blocks}
use Rattle.handover.specs.Internal.{two_macs}
use Rattle.handover.proofs.Front.{front_of}

-- two lists of 20 copied to a buffer one after the other, the second cut to 12: z is what its copy leaves of the part that begins at 20
two-parts : (f s out : List ℕ) {one z : List ℕ} → length f ≡ 20 → length s ≡ 20 → one ≡ take (length f) f ++ drop (length f) out
    → z ≡ take (length (take 12 s)) (take 12 s) ++ drop (length (take 12 s)) (take (length one - 20) (drop 20 one))
    → put_mid 20 (length one - 20) one z ≡ take 32 (f ++ s) ++ drop 32 out
two-parts f s out {one} lf ls e₁ e₂ =
    let n : length (take 12 s) ≡ 12 = length-take-le 12 s (omega arith) in
    let all : length (take 12 s) ≤ 12 = omega arith in
    let front : one ≡ f ++ drop 20 out = front_of 20 f out lf e₁ in
    let back : drop 32 one ≡ drop 32 out
    = sym (drop-drop 12 20 one) ∙ ap (λ (l : List ℕ). drop 12 (drop 20 l)) front ∙ ap (drop 12) (drop_at f (drop 20 out) 20 lf) ∙ drop-drop 12 20 out in
    let head : take 32 (f ++ s) ≡ f ++ take 12 s
    = take-add 20 12 (f ++ s) ∙ (λ i. take_at f s 20 lf i ++ take 12 (drop_at f s 20 lf i)) in
    copied_part one (take 12 s) 20 e₂ ∙ ap (paste one 20 (take 12 s)) n
    ∙ (λ i. ((ap (take 20) front ∙ take_at f (drop 20 out) 20 lf) i ++ take_all 12 (take 12 s) all i) ++ back i)
    ∙ ap (λ (l : List ℕ). l ++ drop 32 out) (sym head)

-- what `derive` writes: f and s are the MACs of the text and of the text with another first byte
pub derived : (inner outer text out : List ℕ) {f s one z : List ℕ} → length f ≡ 20 → length s ≡ 20
    → f ≡ mac_by_values inner outer text → one ≡ take (length f) f ++ drop (length f) out → s ≡ mac_by_values inner outer (set text 0 2)
    → z ≡ take (length (take 12 s)) (take 12 s) ++ drop (length (take 12 s)) (take (length one - 20) (drop 20 one))
    → put_mid 20 (length one - 20) one z ≡ two_macs inner outer text ++ drop 32 out
unfolding two_macs
derived inner outer text out {f} {s} lf ls ef e₁ es e₂ = two-parts f s out lf ls e₁ e₂ ∙ (λ i. take 32 (ef i ++ es i) ++ drop 32 out)

-- the two MACs under the hash values of a key
keyed_macs : (key text : List ℕ) {inner outer : List ℕ} → inner ≡ key_value key ipad → outer ≡ key_value key opad
    → two_macs inner outer text ≡ take 32 (hmac_sha1 key text ++ hmac_sha1 key (set text 0 2))
unfolding two_macs
keyed_macs key text ei eo =
    (λ i. take 32 (mac_by_values (ei i) (eo i) text ++ mac_by_values (ei i) (eo i) (set text 0 2)))
    ∙ (λ i. take 32 (kept_values_give_mac key text i ++ kept_values_give_mac key (set text 0 2) i))

-- the text of the second iteration: only the number at its start is another
r0_next : (ad spa : List ℕ) → set (r0_input ad spa 1) 0 2 ≡ r0_input ad spa 2
unfolding r0_input kdf_input
r0_next ad spa = refl

r1_next : (ad an spa : List ℕ) → set (r1_input ad an spa 1) 0 2 ≡ r1_input ad an spa 2
unfolding r1_input kdf_input
r1_next ad an spa = refl

-- what is written where the text is that of the first iteration: the key
pub r0_put : (rrk ad spa out : List ℕ) {inner outer text after : List ℕ} → inner ≡ key_value (take 32 rrk) ipad → outer ≡ key_value (take 32 rrk) opad
    → text ≡ r0_input ad spa 1 → after ≡ two_macs inner outer text ++ drop 32 out → after ≡ r0_key rrk ad spa ++ drop 32 out
r0_put rrk ad spa out {inner} {outer} ei eo et e =
    let key = take 32 rrk in
    let macs = ap (two_macs inner outer) et ∙ keyed_macs key (r0_input ad spa 1) ei eo in
    let next = ap (λ (t : List ℕ). take 32 (hmac_sha1 key (r0_input ad spa 1) ++ hmac_sha1 key t)) (r0_next ad spa) in
    e ∙ ap (λ (k : List ℕ). k ++ drop 32 out) (macs ∙ next ∙ sym (r0_of_blocks rrk ad spa))

pub r1_put : (r0 ad an spa out : List ℕ) {inner outer text after : List ℕ} → inner ≡ key_value r0 ipad → outer ≡ key_value r0 opad
    → text ≡ r1_input ad an spa 1 → after ≡ two_macs inner outer text ++ drop 32 out → after ≡ r1_key r0 ad an spa ++ drop 32 out
r1_put r0 ad an spa out {inner} {outer} ei eo et e =
    let macs = ap (two_macs inner outer) et ∙ keyed_macs r0 (r1_input ad an spa 1) ei eo in
    let next = ap (λ (t : List ℕ). take 32 (hmac_sha1 r0 (r1_input ad an spa 1) ++ hmac_sha1 r0 t)) (r1_next ad an spa) in
    e ∙ ap (λ (k : List ℕ). k ++ drop 32 out) (macs ∙ next ∙ sym (r1_of_blocks r0 ad an spa))
