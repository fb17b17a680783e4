-- `packet_mac::attributes::place_in` meets its contract: by what the walk found, and by the test of the one attribute.
use mathlib.Core.Path.{sym}
use borrow.Author.Rules.{rules}
use Rattle.packet_mac.proofs.attributes.Placing.{cut, not_only, within, decides, accepted}
use Rattle.packet_mac.proofs.attributes.place_in.Goals as goal

pub returns-in_err-seen-clause-answer : goal.returns-in_err-seen-clause-answer
returns-in_err-seen-clause-answer c =
    let h = cut c.args.attribute_type c.args.packet.now _ (sym c.in_err-seen.ensures) in
    search rules

pub returns-in_err-at-clause-answer : goal.returns-in_err-at-clause-answer
returns-in_err-at-clause-answer c =
    let h = not_only c.args.attribute_type c.args.packet.now _ _ (sym c.in_ok-seen.ensures) (sym c.in_err-at.ensures) in
    search rules

pub slice_bounds-is_mac-count : goal.slice_bounds-is_mac-count
slice_bounds-is_mac-count c = within c.args.attribute_type c.args.packet.now _ _ (sym c.in_ok-seen.ensures) (sym c.in_ok-at.ensures)

pub slice_bounds-is_mac-start : goal.slice_bounds-is_mac-start
slice_bounds-is_mac-start c = within c.args.attribute_type c.args.packet.now _ _ (sym c.in_ok-seen.ensures) (sym c.in_ok-at.ensures)

pub returns-in_err-unless-clause-answer : goal.returns-in_err-unless-clause-answer
returns-in_err-unless-clause-answer c =
    let t = decides c.args.attribute_type c.args.packet.now _ _ (sym c.in_ok-seen.ensures) (sym c.in_ok-at.ensures) _ c.in_err-unless.ensures c.is_mac.ensures in
    search rules

pub returns-clause-answer : goal.returns-clause-answer
returns-clause-answer c =
    let t = decides c.args.attribute_type c.args.packet.now _ _ (sym c.in_ok-seen.ensures) (sym c.in_ok-at.ensures) _ c.in_ok-unless.ensures c.is_mac.ensures in
    (accepted c.args.attribute_type c.args.packet.now _ _ (sym c.in_ok-seen.ensures) (sym c.in_ok-at.ensures) t).0

pub returns-clause-room : goal.returns-clause-room
returns-clause-room c =
    let t = decides c.args.attribute_type c.args.packet.now _ _ (sym c.in_ok-seen.ensures) (sym c.in_ok-at.ensures) _ c.in_ok-unless.ensures c.is_mac.ensures in
    (accepted c.args.attribute_type c.args.packet.now _ _ (sym c.in_ok-seen.ensures) (sym c.in_ok-at.ensures) t).1
