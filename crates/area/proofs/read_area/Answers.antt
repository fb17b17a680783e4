-- `area::read_area` meets its contract: where the walk found a name, the chosen way decides.
use Rattle.std.proofs.Common.{◌≡◌, sym, ◌∙◌, ◌++◌, length, take, drop, take_all, arith}
use Rattle.area.proofs.Answering.{found, room_left, answered-so, differs-so}
use Rattle.area.proofs.read_area.Goals as goal

pub returns-then-not-allows : goal.returns-then-not-allows
returns-then-not-allows c =
    let a = c.args in
    let room = room_left (length a.out.now) c.check_room.ensures c.in_ok-check_room.was in
    let whole = found a.area.now _ c.nothing-met.result c.nothing-met.ensures c.walk.ensures c.in_ok-name.was in
    let differs = rw c.is_own_name-same_name.ensures at (sym c.allows.ensures ∙ c.if-not-allows.true) in
    let r = differs-so a.way a.area.now a.own_name.now a.out.now room _ _ _ whole differs in
    record { answer = r.0; buffer = r.1 }

pub returns-clause-buffer : goal.returns-clause-buffer
returns-clause-buffer c =
    let a = c.args in
    let offers = c.as_slice-offers.result.now in
    let room = room_left (length a.out.now) c.check_room.ensures c.in_ok-check_room.was in
    let whole = found a.area.now _ c.nothing-met.result c.nothing-met.ensures c.walk.ensures c.in_ok-name.was in
    let same = rw c.is_own_name-same_name.ensures at (sym c.allows.ensures ∙ c.if-not-allows.false) in
    let r = answered-so a.way a.area.now a.own_name.now a.out.now room _ _ _ whole same in
    let all : take (length a.out.now) offers ≡ offers = take_all (length a.out.now) offers (omega (arith, room, c.as_slice-offers.ensures.few)) in
    let copied : c.copy.new.to ≡ take (length a.out.now) offers ++ drop (length offers) a.out.now = c.copy.ensures in
    copied ∙ rw (all, c.as_slice-offers.ensures.values) r.1
