-- `secure_hash::Progress::absorb` meets its contract: bytes that leave the block short of full (`part_law` of fips180), or those that fill it, the
-- whole blocks after them, and the rest (`over_law`).
use Rattle.std.proofs.Common.{◌≡◌, ◌+◌, ◌%◌, ◌^◌, ◌<◌, ◌≤◌, ◌-◌, ◌/◌, length, take, drop, refl, ap, ◌∙◌, arith, take_all, length-take-le, rules}
use Rattle.fips180.proofs.Absorbing.{part_law, over_law}
use Rattle.fips180.proofs.Blocks.{one_block}
use Rattle.fips180.specs.Hash.{blocks_by}
use Rattle.slices.proofs.Lists.{rest_drop}
use Rattle.secure_hash.specs.Stream.{progress}
use Rattle.secure_hash.proofs.Progress.absorb.Goals as goal

pub returns-then-n-at : goal.returns-then-n-at
returns-then-n-at g c =
    let p = progress c.args.self.now in
    let xs = c.args.s.now in
    let k = c.min-k.result in
    let f : p.count < 2 ^ 64 = search rules in
    let l : length p.block ≡ 64 = search rules in
    let all : length xs ≤ k = omega arith in
    let room : p.count % 64 + length (take k xs) ≤ length p.block = rw (take_all k xs all) (omega arith) in
    part_law g.H.Hash.compress p xs f l c.if-n-at.true (rw (take_all k xs all) at (c.copy_at.ensures.fits room)) refl

pub returns : goal.returns
returns g c =
    let p = progress c.args.self.now in
    let xs = c.args.s.now in
    let k = c.min-k.result in
    let h = g.H.Hash in
    let f : p.count < 2 ^ 64 = search rules in
    let l : length p.block ≡ 64 = search rules in
    let ek : p.count % 64 + k ≡ 64 = omega arith in
    let hk : k ≤ length xs = omega arith in
    let room : p.count % 64 + length (take k xs) ≤ length p.block = simp (length-take-le k xs hk) (omega arith) in
    let block = c.copy_at.new.to in
    let full : length block ≡ 64 = search rules in
    let rest = take (length xs - k) (drop k xs) in
    let all = c.compress_blocks-2.ensures ∙ ap (λ v. blocks_by h.compress (length rest / 64) v rest) (c.compress_blocks.ensures ∙ one_block h.compress p.value block full) in
    over_law h.compress p xs k f l ek hk (c.copy_at.ensures.fits room) (rest_drop k xs) all c.begin.ensures refl
