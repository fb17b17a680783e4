use Rattle.std.proofs.Common.{◌∙◌, lit≤, lit<}
use Rattle.sha1_block.proofs.Rounds.{first, second, third, last, no_round}
use Rattle.sha1_block.proofs.Sha1Compression5.rounds.Goals as goal

pub returns : goal.returns
returns c = λ b w0.
    let h = c.args.h in
    let to32 = c.sixteen_more-s32.ensures in
    let to48 = c.sixteen_more-s48.ensures in
    let to64 = c.sixteen_more-s64.ensures in
    let w16 = to32.window b 0 w0 in
    let w32 = to48.window b 16 w16 in
    let w48 = to64.window b 32 w32 in
    let s16 = c.sixteen-s16.ensures h b 0 (first 0 (lit< tt)) (first 4 (lit< tt)) (first 8 (lit< tt)) (first 12 (lit< tt)) w0 (no_round h b c.kept-s0.ensures) in
    let s32 = to32.rounds h b 0 (first 16 (lit< tt)) (second 20 (lit≤ tt) (lit< tt)) (second 24 (lit≤ tt) (lit< tt)) (second 28 (lit≤ tt) (lit< tt)) w0 s16 in
    let s48 = to48.rounds h b 16 (second 32 (lit≤ tt) (lit< tt)) (second 36 (lit≤ tt) (lit< tt)) (third 40 (lit≤ tt) (lit< tt)) (third 44 (lit≤ tt) (lit< tt)) w16 s32 in
    let s64 = to64.rounds h b 32 (third 48 (lit≤ tt) (lit< tt)) (third 52 (lit≤ tt) (lit< tt)) (third 56 (lit≤ tt) (lit< tt)) (last 60 (lit≤ tt)) w32 s48 in
    c.variables_of.ensures ∙ c.sixteen_more-s80.ensures.rounds h b 48 (last 64 (lit≤ tt)) (last 68 (lit≤ tt)) (last 72 (lit≤ tt)) (last 76 (lit≤ tt)) w48 s64
