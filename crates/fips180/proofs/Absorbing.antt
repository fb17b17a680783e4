-- What the code of a hash in progress computes, over any compression: bytes that leave the block short of full, bytes that fill it, and a
-- message hashed at once.
use mathlib.Core.Path.{◌≡◌, refl, sym, ap, ◌∙◌}
use mathlib.Core.Bool.{Bool, true, false, cond}
use mathlib.Core.List.{List, [], ◌∷◌, ◌++◌, append-nil, append_assoc}
use Prim.Native.Nat.{ℕ, ◌+◌, ◌-◌, ◌*◌, ◌/◌, ◌%◌, ◌^◌, ◌<◌, ◌≤◌}
use native.Mathlib.Nat.{zero-add}
use native.Mathlib.Omega.{arith}
use lib.Dec.{eqb, lit<}
use lib.ListN.{length, get_or, take, drop, set, length-append, length-drop, length-set}
use lib.Seq.{sets, sets-eq, take_all, length-take-le}
use denote.Ref.{Bor}
use Rattle.std.proofs.lemmas.List.{take_more}
use Rattle.std.proofs.lemmas.List.Concat.{flat_map-append}
use Rattle.slices.specs.Parts.{joined}
use Rattle.slices.proofs.Lists.{rest_drop}
use Rattle.fips180.specs.Hash.{blocks_by, hash_by}
use Rattle.fips180.specs.Stream.{Progress, started, absorb_byte, absorbed_by, finished_by}
use Rattle.fips180.specs.Internal.{closing_by, begun_block}
use Rattle.fips180.proofs.Stream.{empty, absorbed_append, part, starting, across, finished-closing, stream_is_hash}

-- what a copy of s to the place a leaves of d
abbrev pub copied_at : List ℕ → ℕ → List ℕ → List ℕ
copied_at d a s = take a d ++ (s ++ drop (a + length s) d)

copied_sets : (d s : List ℕ) (a : ℕ) → a + length s ≤ length d → copied_at d a s ≡ sets d a s
copied_sets d s a h = sym (sets-eq s d a h ∙ append_assoc (take a d) s (drop (a + length s) d))

rest-fits : (xs : List ℕ) → 0 + length (drop (length xs / 64 * 64) xs) ≤ 64
rest-fits xs = simp length-drop (few (length xs))
  where
    few : (x : ℕ) → 0 + (x - x / 64 * 64) ≤ 64
    few x = omega arith

-- `begin`: the bytes of xs from j on, where j is the length of its whole blocks, are copied to an empty block
pub begun : (xs : List ℕ) {d : List ℕ}
    → (let x : List ℕ = take (length xs - (length xs - length xs % 64)) (drop (length xs - length xs % 64) xs) in d ≡ take 64 x ++ drop (length x) empty) → d ≡ begun_block xs
unfolding begun_block
begun xs e =
    let rest : List ℕ = drop (length xs / 64 * 64) xs in
    let few : length rest ≤ 64 = omega (arith, rest-fits xs) in
    e ∙ ap (λ (x : List ℕ). take 64 x ++ drop (length x) empty) (rest_drop (length xs - length xs % 64) xs ∙ ap (λ (i : ℕ). drop i xs) (cuts (length xs)))
    ∙ (λ i. take_all 64 rest few i ++ drop (sym (zero-add (length rest)) i) empty) ∙ copied_sets empty rest 0 (rest-fits xs)
  where
    cuts : (x : ℕ) → x - x % 64 ≡ x / 64 * 64
    cuts x = omega arith

pub begun_length : (xs : List ℕ) → length (begun_block xs) ≡ 64
unfolding begun_block
begun_length xs =
    let t : List ℕ = drop (length xs / 64 * 64) xs in
    let l : 0 + length t ≤ 64 = rest-fits xs in
    ap length (sym (copied_sets empty t 0 l)) ∙ length-append t (drop (0 + length t) empty) ∙ ap (λ (n : ℕ). length t + n) (length-drop (0 + length t) empty) ∙ whole (length t) l
  where
    whole : (n : ℕ) → 0 + n ≤ 64 → n + (64 - (0 + n)) ≡ 64
    whole n h = omega arith

module _ (compress : List ℕ → List ℕ → List ℕ) where
  -- `absorb_into`, where the block stays short of full
  pub part_law : (s : Progress) (xs : List ℕ) → s.count < 2 ^ 64 → length s.block ≡ 64 → length xs < 64 - s.count % 64 → {b : List ℕ} {n : ℕ}
      → b ≡ copied_at s.block (s.count % 64) xs → n ≡ (s.count + length xs) % 2 ^ 64 → record { value = s.value; block = b; count = n } ≡ absorbed_by compress s xs
  part_law s xs f l h eb en =
      (λ i. record { value = s.value; block = (eb ∙ copied_sets s.block xs (s.count % 64) (omega arith)) i; count = en i }) ∙ sym (part compress s xs f (omega arith))

  -- `absorb_into`, where the first k bytes fill the block, and r are the others
  pub over_law : (s : Progress) (xs : List ℕ) (k : ℕ) → s.count < 2 ^ 64 → length s.block ≡ 64 → s.count % 64 + k ≡ 64 → k ≤ length xs
      → {b r e d : List ℕ} {n : ℕ}
      → b ≡ copied_at s.block (s.count % 64) (take k xs)
      → r ≡ drop k xs
      → e ≡ blocks_by compress (length r / 64) (compress s.value b) r
      → d ≡ begun_block r
      → n ≡ (s.count + length xs) % 2 ^ 64
      → record { value = e; block = d; count = n } ≡ absorbed_by compress s xs
  unfolding begun_block
  over_law s xs k f l ek hk {b} eb er ee ed en =
      let lk : length (take k xs) ≡ k = length-take-le k xs hk in
      let room : s.count % 64 + length (take k xs) ≤ length s.block = omega arith in
      let sb : b ≡ sets s.block (s.count % 64) (take k xs) = eb ∙ copied_sets s.block (take k xs) (s.count % 64) room in
      (λ i. record {
        value = (ee ∙ (λ j. blocks_by compress (length (er j) / 64) (compress s.value (sb j)) (er j))) i;
        block = (ed ∙ (λ j. sets empty 0 (drop (length (er j) / 64 * 64) (er j)))) i;
        count = en i;
      })
      ∙ sym (across compress s xs k f ek hk)

  -- `digest`: the whole blocks, and the bytes after them in a block of their own
  pub at_once : (m : List ℕ) (first : List ℕ) (written : List ℕ → List ℕ) → length m < 2 ^ 64 → {b h r : List ℕ} → b ≡ begun_block m
      → h ≡ blocks_by compress (length m / 64) first m → r ≡ written (closing_by compress h (take (length m % 64) b) (length m)) → r ≡ hash_by compress first written m
  unfolding begun_block
  at_once m first written f {b} {h} eb eh er =
      let s : Progress = record { value = h; block = b; count = length m } in
      let c : length m ≡ (0 + length m) % 2 ^ 64 = omega arith in
      er ∙ sym (finished-closing compress written s f (ap length eb ∙ begun_length m))
      ∙ ap (finished_by compress written) ((λ i. record { value = eh i; block = eb i; count = c i }) ∙ sym (starting compress (started first) m (lit< tt) refl refl))
      ∙ stream_is_hash compress first written m

  -- the block keeps its 64 places
  one-length : (full : Bool) (b : List ℕ) → length b ≡ 64 → length (cond full empty b) ≡ 64
  one-length true b e = refl
  one-length false b e = e

  absorbed-length : (s : Progress) (xs : List ℕ) → length s.block ≡ 64 → length (absorbed_by compress s xs).block ≡ 64
  unfolding absorbed_by absorb_byte
  absorbed-length s [] l = l
  absorbed-length s (x ∷ xs) l =
      absorbed-length (absorb_byte compress s x) xs (one-length (eqb (s.count % 64) 63) (set s.block (s.count % 64) x) (simp length-set l))

  -- what absorbing leaves, by its parts
  module _ {h b : List ℕ} {n : ℕ} (s : Progress) (xs : List ℕ) (l : length s.block ≡ 64) (e : record { value = h; block = b; count = n } ≡ absorbed_by compress s xs) where
    pub block-kept : length b ≡ 64
    block-kept = ap (λ (t : Progress). length t.block) e ∙ absorbed-length s xs l

    pub closed-law : (written : List ℕ → List ℕ) {r : List ℕ} → n < 2 ^ 64 → r ≡ written (closing_by compress h (take (n % 64) b) n) → r ≡ finished_by compress written (absorbed_by compress s xs)
    closed-law written f er = er ∙ sym (finished-closing compress written (record { value = h; block = b; count = n }) f block-kept) ∙ ap (finished_by compress written) e

  -- a turn of a loop over the parts of a text
  pub next_part : (s : Progress) (l : List (Bor (List ℕ))) (j : ℕ) (d : Bor (List ℕ)) {t u : Progress} → j < length l
      → t ≡ absorbed_by compress s (joined (take j l)) → u ≡ absorbed_by compress t (get_or l j d).now → u ≡ absorbed_by compress s (joined (take (j + 1) l))
  next_part s l j d h et eu =
      let x : List ℕ = (get_or l j d).now in
      let one : joined (take (j + 1) l) ≡ joined (take j l) ++ (x ++ []) = ap joined (take_more l j d h) ∙ flat_map-append _ (take j l) (get_or l j d ∷ []) in
      eu ∙ ap (λ (v : Progress). absorbed_by compress v x) et ∙ sym (absorbed_append compress s (joined (take j l)) x)
      ∙ ap (absorbed_by compress s) (ap (λ (y : List ℕ). joined (take j l) ++ y) (sym (append-nil x)) ∙ sym one)
