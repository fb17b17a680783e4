-- What acceptance says of a request: its tests taken apart, one by one.
use Prim.Native.Nat.{ℕ, ◌≤◌}
use mathlib.Core.Path.{◌≡◌, refl}
use mathlib.Core.Bool.{true}
use mathlib.Core.List.{List}
use borrow.Author.Tests.{leb-true}
use lib.Dec.{lit≤}
use lib.ListN.{length}
use Rattle.refusal.specs.Checks.{pass, within}
use Rattle.refusal.proofs.Passing.{before-passed, last-passed, test_passed, within_low, within-high}
use Rattle.labels.specs.Bytes.{every, label_byte}
use Rattle.labels.specs.FixedLabels.{vrk_label, dsrk_label}
use Rattle.labels.specs.Checks.{check31}
use Rattle.labels.proofs.Labels.{good_label}
use Rattle.requests.specs.Requests.{Request, for_usage, for_vrk, for_domain, label_of, length_of, check_of, Accepted}

-- what acceptance says of a usage request
pub record InBounds (emsk label extra : List ℕ) (n room : ℕ) : Type 0 where
  pub emsk_low : 64 ≤ length emsk
  pub emsk_high : length emsk ≤ 128
  pub label_low : 1 ≤ length label
  pub label_high : length label ≤ 255
  pub label_bytes : every label_byte label ≡ true
  pub not_domain : check31 label ≡ pass
  pub extra_high : length extra ≤ 2048
  pub n_low : 1 ≤ n
  pub n_high : n ≤ 8160
  pub fits : n ≤ room

pub in_bounds : (emsk label extra : List ℕ) (n room : ℕ) → Accepted emsk (for_usage label extra n room) → InBounds emsk label extra n room
unfolding check_of
in_bounds emsk label extra n room a =
    let a5 = before-passed _ _ a in
    let a4 = before-passed _ _ a5 in
    let a31 = before-passed _ _ a4 in
    let a3 = before-passed _ _ a31 in
    let t1 = test_passed _ _ (before-passed _ _ a3) in
    let g = good_label label (last-passed _ _ a3) in
    let t5 = test_passed _ _ (last-passed _ _ a5) in
    record {
      emsk_low = within_low _ _ _ t1;
      emsk_high = within-high _ _ _ t1;
      label_low = g.low;
      label_high = g.high;
      label_bytes = g.bytes;
      not_domain = last-passed _ _ a31;
      extra_high = leb-true _ _ (test_passed _ _ (last-passed _ _ a4));
      n_low = within_low _ _ _ t5;
      n_high = within-high _ _ _ t5;
      fits = leb-true _ _ (test_passed _ _ (last-passed _ _ a));
    }

-- what acceptance says of every request: each label byte is 32 to 126, so none is zero, and the key length is that of at most 255 blocks
pub record Sound (r : Request) : Type 0 where
  pub label : every label_byte (label_of r) ≡ true
  pub low : 1 ≤ length_of r
  pub high : length_of r ≤ 8160

pub sound : (emsk : List ℕ) (r : Request) → Accepted emsk r → Sound r
unfolding every label_byte within vrk_label dsrk_label
sound emsk (for_usage label extra n room) a =
    let h = in_bounds emsk label extra n room a in
    record { label = h.label_bytes; low = h.n_low; high = h.n_high }
sound emsk (for_vrk room) a = record { label = refl; low = lit≤ tt; high = lit≤ tt }
sound emsk (for_domain domain room) a = record { label = refl; low = lit≤ tt; high = lit≤ tt }
