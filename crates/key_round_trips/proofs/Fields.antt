-- The layout of an attribute there and back: the fields of a header that was written are those written, and an attribute whose frame passes is its
-- fields' header and then the wrapped key.
use Prim.Native.Nat.{ℕ, ◌+◌, ◌-◌, ◌^◌, ◌≤◌, ◌<◌}
use mathlib.Core.Path.{◌≡◌, refl, sym, ap, ◌∙◌}
use mathlib.Core.Bool.{true, ◌&&◌}
use mathlib.Core.List.{List, [], ◌∷◌, ◌++◌, append_assoc}
use native.Mathlib.Omega.{arith}
use borrow.Author.Tests.{eq-eqb}
use lib.Dec.{eqb}
use lib.ListN.{length, take, drop, get_or, length-append, take-append-drop}
use lib.Seq.{take_at, drop_at, drop-drop}
use Rattle.refusal.specs.Checks.{pass, bare, check20}
use Rattle.refusal.proofs.Passing.{before-passed, last-passed, test_holds, both_pass}
use Rattle.slices.specs.Numbers.{be32, be32_at}
use Rattle.slices.proofs.Same.{equal_same}
use Rattle.rfc3394.specs.Rfc3394.{initial_value}
use Rattle.slices.specs.Bytes.{Bytes}
use Rattle.keywrap.specs.Calls.{wrappable}
use Rattle.key_frame.specs.KeyFrame.{header, fields_in, iv_in, wrapped_in, frame_check}
use Rattle.key_frame.specs.declared.KeyFields.{KeyFields}
use Rattle.key_frame.proofs.Frames.{length_of, framed}
use Rattle.slices.proofs.Numbers.{four_back, number_drop, four_first, four_at}

-- the fields fit their places: the type a byte, App ID and Lifetime four, KEK ID and Key ID sixteen
pub record Fitting (f : KeyFields) : Type 0 where
  pub app : f.app_id < 2 ^ 32
  pub kek : length f.kek_id ≡ 16
  pub key : length f.key_id ≡ 16
  pub life : f.lifetime < 2 ^ 32

-- an attribute passes where each of its tests does
frame_passes : (a : List ℕ) → 60 ≤ length a → get_or a 1 0 ≡ length a → wrappable (length a - 60) ≡ true → check20 (get_or a 0 0) ≡ pass → get_or a 2 0 ≡ 0 → get_or a 3 0 ≡ 0 → iv_in a ≡ initial_value
    → frame_check a ≡ pass
unfolding frame_check
frame_passes a size counted sized kind reserved method iv =
    let t : (eqb (get_or a 1 0) (length a) && wrappable (length a - 60)) ≡ true = rw (eq-eqb (get_or a 1 0) (length a) counted, sized) in
    let c24 = test_holds _ (bare 24) (sym (length_of a _ _ size refl refl) ∙ t) in
    let c20 = both_pass _ _ c24 kind in
    let c25 = both_pass _ _ c20 (test_holds _ (bare 25) (eq-eqb _ _ reserved)) in
    let c26 = both_pass _ _ c25 (test_holds _ (bare 26) (eq-eqb _ _ method)) in
    both_pass _ _ c26 (test_holds _ (bare 27) (rw iv (equal_same initial_value)))

-- the two IDs and what follows them
module _ (x y rest : List ℕ) (hx : length x ≡ 16) (hy : length y ≡ 16) where
  first-id : take 16 (x ++ (y ++ rest)) ≡ x
  first-id = take_at x (y ++ rest) 16 hx

  second-id : take 16 (drop 16 (x ++ (y ++ rest))) ≡ y
  second-id = ap (take 16) (drop_at x (y ++ rest) 16 hx) ∙ take_at y rest 16 hy

  after-ids : drop 32 (x ++ (y ++ rest)) ≡ rest
  after-ids = sym (drop-drop 16 16 (x ++ (y ++ rest))) ∙ ap (drop 16) (drop_at x (y ++ rest) 16 hx) ∙ drop_at y rest 16 hy

-- a header has 52 bytes
pub header-size : (f : KeyFields) (n : ℕ) → length f.kek_id ≡ 16 → length f.key_id ≡ 16 → length (header f n) ≡ 52
unfolding header
header-size f n hk hy = simp length-append (omega arith)

-- an attribute: a header and what follows it. Its bytes one after the other, with the IDs whole
module _ (f : KeyFields) (n : ℕ) (w : List ℕ) where
  rest : List ℕ
  rest = be32 f.lifetime ++ (initial_value ++ w)

  ids : List ℕ
  ids = f.kek_id ++ (f.key_id ++ rest)

  laid : header f n ++ w ≡ (f.attribute_type ∷ n ∷ 0 ∷ 0 ∷ []) ++ (be32 f.app_id ++ ids)
  unfolding header rest ids
  laid = simp append_assoc

  module _ (h : Fitting f) where
    after : drop 40 (header f n ++ w) ≡ rest
    unfolding ids
    after = rw laid (after-ids f.kek_id f.key_id rest h.kek h.key)

    pub iv-written : iv_in (header f n ++ w) ≡ initial_value
    unfolding rest
    iv-written = ap (take 8) (sym (drop-drop 4 40 (header f n ++ w)) ∙ ap (drop 4) after)

    pub wrapped-written : wrapped_in (header f n ++ w) ≡ w
    unfolding rest
    wrapped-written = sym (drop-drop 12 40 (header f n ++ w)) ∙ ap (drop 12) after

    pub fields-written : fields_in (header f n ++ w) ≡ f
    unfolding fields_in ids rest
    fields-written =
        let kek : take 16 (drop 8 (header f n ++ w)) ≡ f.kek_id = rw laid (first-id f.kek_id f.key_id rest h.kek h.key) in
        let key : take 16 (drop 24 (header f n ++ w)) ≡ f.key_id = rw laid (second-id f.kek_id f.key_id rest h.kek h.key) in
        let app : be32_at (header f n ++ w) 4 ≡ f.app_id = rw laid (four_back f.app_id ids h.app) in
        let kind : get_or (header f n ++ w) 0 0 ≡ f.attribute_type = rw laid in
        let life : be32_at (header f n ++ w) 40 ≡ f.lifetime = sym (number_drop 40 (header f n ++ w)) ∙ rw after (four_back f.lifetime (initial_value ++ w) h.life) in
        λ i. record { attribute_type = kind i; app_id = app i; kek_id = kek i; key_id = key i; lifetime = life i }

    -- its frame passes, where n is its length and that of an attribute
    pub frame-written : check20 f.attribute_type ≡ pass → 60 ≤ n → wrappable (n - 60) ≡ true → length (header f n ++ w) ≡ n → frame_check (header f n ++ w) ≡ pass
    frame-written kind low sized size =
        let counted : get_or (header f n ++ w) 1 0 ≡ n = rw laid in
        let type : check20 (get_or (header f n ++ w) 0 0) ≡ pass = rw laid kind in
        let reserved : get_or (header f n ++ w) 2 0 ≡ 0 = rw laid in
        let method : get_or (header f n ++ w) 3 0 ≡ 0 = rw laid in
        frame_passes (header f n ++ w) (rw size low) (counted ∙ sym size) (rw size sized) type reserved method iv-written

-- a part of a list, before what follows it
onto : (n m : ℕ) (a part after : List ℕ) → take m (drop n a) ≡ part → after ≡ drop (n + m) a → part ++ after ≡ drop n a
onto n m a part after e q = rw (← e, q, ← drop-drop m n a) (take-append-drop m (drop n a))

-- an attribute whose frame passes is its fields' header and what follows that
pub header_back : (a : List ℕ) → Bytes a → frame_check a ≡ pass → header (fields_in a) (length a) ++ wrapped_in a ≡ a
unfolding fields_in ids rest
header_back a b e =
    let f = framed a e in
    let size : 76 ≤ length a = omega (arith, f.size.key.low) in
    let four : 4 ≤ length a = omega arith in
    let iv = onto 44 8 a initial_value (wrapped_in a) f.iv refl in
    let life = onto 40 4 a (be32 (be32_at a 40)) _ (four_at 40 a b (omega arith)) iv in
    let key = onto 24 16 a (take 16 (drop 24 a)) _ refl life in
    let kek = onto 8 16 a (take 16 (drop 8 a)) _ refl key in
    let app = onto 4 4 a (be32 (be32_at a 4)) _ (four_at 4 a b (omega arith)) kek in
    let start : take 4 a ≡ get_or a 0 0 ∷ length a ∷ 0 ∷ 0 ∷ [] = four_first a four ∙ (λ i. get_or a 0 0 ∷ f.size.counted i ∷ f.reserved i ∷ f.method i ∷ []) in
    laid (fields_in a) (length a) (wrapped_in a) ∙ onto 0 4 a (get_or a 0 0 ∷ length a ∷ 0 ∷ 0 ∷ []) _ start app

-- and its type passes
pub kind_passes : (a : List ℕ) → frame_check a ≡ pass → check20 (get_or a 0 0) ≡ pass
unfolding frame_check
kind_passes a e = last-passed _ _ (before-passed _ _ (before-passed _ _ (before-passed _ _ e)))
