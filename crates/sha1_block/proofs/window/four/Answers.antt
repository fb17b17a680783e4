use Rattle.std.proofs.Common.{◌≡◌, ◌+◌, get_or}
use Rattle.sha1_block.specs.Internal.{variables, step_by}
use Rattle.sha1_block.proofs.window.Rounds.{four_rounds}
use Rattle.sha1_block.proofs.window.four.Goals as goal

pub returns : goal.returns
returns g c =
    let a = c.args in
    let w = a.w.now in
    let f = g.R.Kind.f in
    let k = g.R.Kind.K in
    let one : variables c.round-s1.result ≡ step_by f k (get_or w a.j 0) (variables a.s) = c.round-s1.ensures in
    let two : variables c.round-s2.result ≡ step_by f k (get_or w (a.j + 1) 0) (variables c.round-s1.result) = c.round-s2.ensures in
    let three : variables c.round-s3.result ≡ step_by f k (get_or w (a.j + 2) 0) (variables c.round-s2.result) = c.round-s3.ensures in
    let last : variables c.round.result ≡ step_by f k (get_or w (a.j + 3) 0) (variables c.round-s3.result) = c.round.ensures in
    four_rounds f k w a.j (variables a.s) one two three last
