-- `aes128::decrypt` meets its contract: what is left of the rounds below i is what was left at the start.
use mathlib.Core.Path.{◌∙◌}
use native.Mathlib.Omega.{arith}
use Rattle.aes128.proofs.Rounds.{begun_by, inv_round_by, inv_last-round_by, eq_below, eq_end}
use Rattle.aes128.proofs.decrypt.Goals as goal

pub loop-i-preserved : goal.loop-i-preserved
loop-i-preserved c =
    let l = c.loop-i in
    let left = eq_below c.args.ks.now l.i _ _ (omega arith)
    (inv_round_by _ l.t _ _ c.state.ensures _ _ c.words-t-in-loop-i.result
    c.inv_shift_rows.ensures c.inv_sub_and_mix_columns.ensures c.add_round_key-in-loop-i.ensures c.words-t-in-loop-i.ensures)
    ∙ l.invariant.left in
    record { low = omega arith; left = left }

pub returns : goal.returns
returns c =
    let l = c.loop-i in
    eq_end c.args.ks.now l.i _ _ _ _
    (begun_by _ _ _ c.words-t.result c.add_round_key.ensures c.words-t.ensures)
    l.invariant.left (omega arith)
    (inv_last-round_by _ l.t _ _ c.state-2.ensures _ _ c.inv_shift_rows-2.ensures c.inv_sub_bytes.ensures
    c.add_round_key-2.ensures)
