-- `aes128::encrypt` meets its contract: before round i the state is that of the rounds before it.
use mathlib.Core.Path.{refl}
use native.Mathlib.Omega.{arith}
use Rattle.fips197.specs.Cipher.{rounds}
use Rattle.aes128.proofs.Rounds.{begun_by, round_by, last-round_by, round-step, cipher_end}
use Rattle.aes128.proofs.encrypt.Goals as goal

pub loop-i-init : goal.loop-i-init
unfolding rounds
loop-i-init c = refl

pub loop-i-preserved : goal.loop-i-preserved
loop-i-preserved c =
    let l = c.loop-i in
    round-step c.args.ks.now l.i _ _ _ (omega arith) l.invariant
    (round_by _ l.t _ _ c.state.ensures _ _ c.words-t-in-loop-i.result
    c.shift_rows.ensures c.sub_and_mix_columns.ensures c.add_round_key-in-loop-i.ensures c.words-t-in-loop-i.ensures)

pub returns : goal.returns
returns c =
    let l = c.loop-i in
    cipher_end c.args.ks.now l.i _ _ _ _
    (begun_by _ _ _ c.words-t.result c.add_round_key.ensures c.words-t.ensures)
    l.invariant (omega arith)
    (last-round_by _ l.t _ _ c.state-2.ensures _ _ c.shift_rows-2.ensures c.sub_bytes.ensures
    c.add_round_key-2.ensures)
