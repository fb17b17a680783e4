-- `keyed_hash::Keyed::new` meets its contract: the key's block, masked by each of the two pads.
use Rattle.rfc2104.specs.Rfc2104.{ipad, opad}
use Rattle.rfc2104.proofs.Laws.{key-value}
use Rattle.keyed_hash.proofs.Keyed.new.Goals as goal

pub returns : goal.returns
returns g c =
    let h = g.H.Hash in
    let key = c.args.key.now in
    let block = c.key_block-block.ensures in
    record {
      inner = key-value h.compress h.first h.written key ipad block c.key_value-inner.ensures;
      outer = key-value h.compress h.first h.written key opad block c.key_value-outer.ensures;
    }
