-- The S-box and the inverse S-box, each proved by one test over its whole table that antt computes, and laws that carry the test to every entry.
use mathlib.Core.Path.{◌≡◌, refl, sym, ap, ◌∙◌, subst}
use mathlib.Core.Bool.{Bool}
use Prim.Native.Nat.{ℕ, suc, ◌<◌}
use native.Mathlib.Omega.{arith}
use lib.Dec.{T, eqb, ltb, eqb→eq, ltb→lt}
use lib.ListN.{get_or}
use Rattle.aes_sbox.specs.Field.{xtime, mul_bits, mul}
use Rattle.aes_sbox.specs.Sbox.{inverse, affine, inv_affine, sbox_of, inv_sbox_of}
use Rattle.aes_sbox.specs.Tables.{sbox, inv_sbox, mixed_sbox, unmixed_sbox, mixed_word, unmixed_word}
use Rattle.aes_sbox.specs.Statements.{InverseInverts, SboxByRule, InvSboxByRule, TablesUndone, SboxUndone, MixedByRule, UnmixedByRule}
use Rattle.aes_sbox.proofs.Table.{at, both, both_left, both_right}
use Rattle.aes_sbox.proofs.Inverses.{inverses, inverse_at}

pub inverse_inverts : InverseInverts
unfolding inverse mul mul_bits xtime
inverse_inverts = (refl, λ k h. product k (omega arith))
  where
    product : (k : ℕ) → suc k < 256 → mul (suc k) (inverse (suc k)) ≡ 1
    product k h = let i = inverse_at (suc k) h in ap (mul (suc k)) i.value ∙ i.product

sbox_right : ℕ → ℕ → Bool
sbox_right k x = eqb x (affine (get_or inverses k 0))

pub sbox_rule : SboxByRule
unfolding sbox_right sbox_of affine
sbox_rule k h =
    eqb→eq (get_or sbox k 0) (affine (get_or inverses k 0)) (at sbox_right sbox tt k h) ∙ ap affine (sym (inverse_at k h).value)

-- the entry x of the inverse table at k: what the rule says, a byte, and each table undoes the other there
inv_right : ℕ → ℕ → Bool
inv_right k x =
    both (ltb (inv_affine k) 256)
    (both (eqb x (get_or inverses (inv_affine k) 0))
    (both (ltb x 256) (both (ltb (get_or sbox k 0) 256) (both (eqb (get_or sbox x 0) k) (eqb (get_or inv_sbox (get_or sbox k 0) 0) k)))))

record Undone (k x : ℕ) : Type 0 where
  byte : inv_affine k < 256
  rule : x ≡ get_or inverses (inv_affine k) 0
  small : x < 256
  sbox_small : get_or sbox k 0 < 256
  there : get_or sbox x 0 ≡ k
  back : get_or inv_sbox (get_or sbox k 0) 0 ≡ k

undone : (k x : ℕ) → T (inv_right k x) → Undone k x
unfolding inv_right
undone k x t =
    let t0 = both_right (ltb (inv_affine k) 256) _ t in
    let t1 = both_right (eqb x (get_or inverses (inv_affine k) 0)) _ t0 in
    let t2 = both_right (ltb x 256) _ t1 in
    let t3 = both_right (ltb (get_or sbox k 0) 256) _ t2 in
    record {
      byte = ltb→lt (inv_affine k) 256 (both_left (ltb (inv_affine k) 256) _ t);
      rule = eqb→eq x (get_or inverses (inv_affine k) 0) (both_left (eqb x (get_or inverses (inv_affine k) 0)) _ t0);
      small = ltb→lt x 256 (both_left (ltb x 256) _ t1);
      sbox_small = ltb→lt (get_or sbox k 0) 256 (both_left (ltb (get_or sbox k 0) 256) _ t2);
      there = eqb→eq (get_or sbox x 0) k (both_left (eqb (get_or sbox x 0) k) _ t3);
      back = eqb→eq (get_or inv_sbox (get_or sbox k 0) 0) k (both_right (eqb (get_or sbox x 0) k) _ t3);
    }

entry : (k : ℕ) → k < 256 → Undone k (get_or inv_sbox k 0)
unfolding inv_right inv_affine
entry k h = undone k (get_or inv_sbox k 0) (at inv_right inv_sbox tt k h)

pub inv_sbox_rule : InvSboxByRule
unfolding inv_sbox_of
inv_sbox_rule k h = (entry k h).rule ∙ sym (inverse_at (inv_affine k) (entry k h).byte).value

pub sbox_of_byte : (k : ℕ) → k < 256 → sbox_of k < 256
sbox_of_byte k h = subst (λ (x : ℕ). x < 256) (sbox_rule k h) (entry k h).sbox_small

pub inv_sbox_of_byte : (k : ℕ) → k < 256 → inv_sbox_of k < 256
inv_sbox_of_byte k h = subst (λ (x : ℕ). x < 256) (inv_sbox_rule k h) (entry k h).small

pub tables_undone : TablesUndone
tables_undone k h = ((entry k h).back, (entry k h).there)

pub sbox_undone : SboxUndone
sbox_undone k h = (
  ap inv_sbox_of (sym (sbox_rule k h)) ∙ sym (inv_sbox_rule (get_or sbox k 0) (entry k h).sbox_small) ∙ (entry k h).back,
  ap sbox_of (sym (inv_sbox_rule k h)) ∙ sym (sbox_rule (get_or inv_sbox k 0) (entry k h).small) ∙ (entry k h).there,
)

-- ---- the tables of words: each entry is the word of the S-box's entry

mixed_right : ℕ → ℕ → Bool
mixed_right k x = eqb x (mixed_word (get_or sbox k 0))

pub mixed_rule : MixedByRule
unfolding mixed_right mul mul_bits xtime
mixed_rule k h = eqb→eq (get_or mixed_sbox k 0) (mixed_word (get_or sbox k 0)) (at mixed_right mixed_sbox tt k h) ∙ ap mixed_word (sbox_rule k h)

unmixed_right : ℕ → ℕ → Bool
unmixed_right k x = eqb x (unmixed_word (get_or inv_sbox k 0))

pub unmixed_rule : UnmixedByRule
unfolding unmixed_right mul mul_bits xtime
unmixed_rule k h =
    eqb→eq (get_or unmixed_sbox k 0) (unmixed_word (get_or inv_sbox k 0)) (at unmixed_right unmixed_sbox tt k h)
    ∙ ap unmixed_word (inv_sbox_rule k h)
