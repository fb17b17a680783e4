use Rattle.std.proofs.Common.{sym}
use Rattle.offers.proofs.server.Room.{part_left}
use Rattle.offers.proofs.server.answer.Goals as goal

pub slice_bounds-put_list-end-2 : goal.slice_bounds-put_list-end-2
slice_bounds-put_list-end-2 c = sym (part_left _ _ c.check_room.ensures c.in_ok-check_room.was)

pub put_list-requires : goal.put_list-requires
put_list-requires c = part_left _ _ c.check_room.ensures c.in_ok-check_room.was
