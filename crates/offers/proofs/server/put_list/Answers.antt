-- `offers::server::put_list` meets its contract: the value at the start of the buffer, and the list copied to the part behind it.
use Rattle.std.proofs.Common.{◌≡◌, ap, ℕ, suc, ◌+◌, ◌-◌, List, [], ◌∷◌, length, set, append-nil, arith}
use borrow.Rule.Slice.PartMut.{put_mid}
use lib.Seq.{drop-length}
use Rattle.offers.proofs.server.put_list.Goals as goal

behind : (value : ℕ) (s out : List ℕ) {z : List ℕ} → length out ≡ length s + 1 → z ≡ s → put_mid 1 (length (set out 0 value) - 1) (set out 0 value) z ≡ value ∷ s
behind value s [] h e = let none : ⊥ = omega arith in elim none [ ]
behind value s (y ∷ rest) {z} h e =
    let k : suc (length rest) - 1 ≡ length rest = omega arith in
    rw (k, drop-length rest, append-nil z) (ap (λ (l : List ℕ). value ∷ l) e)

pub returns : goal.returns
returns c = behind c.args.value c.args.list.now c.args.out.now c.requires c.copy_from_slice.ensures.after
