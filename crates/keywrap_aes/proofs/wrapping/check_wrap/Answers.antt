use Rattle.keywrap_aes.proofs.Bounds.{with_room}
use Rattle.keywrap_aes.proofs.wrapping.check_wrap.Goals as goal

pub returns-clause-bounds : goal.returns-clause-bounds
returns-clause-bounds c = with_room c.check_room.result _ _ c.check_room.ensures c.in_ok-check_length.ensures.bounds
