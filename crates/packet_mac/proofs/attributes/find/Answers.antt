-- `packet_mac::attributes::find` meets its contract. The loop's invariant: the places met so far, and what is left to be walked (`WalkedTo`).
use Rattle.std.proofs.Common.{sym, rules}
use Rattle.packet_mac.proofs.attributes.Finding.{some_told, none_told, walk_starts, walk_ends, walk_stops, walk-finds, walk-passes}
use Rattle.packet_mac.proofs.attributes.find.Goals as goal

pub loop-at-init : goal.loop-at-init
loop-at-init c =
    let start = walk_starts c.args.attribute_type c.args.packet.now in
    search rules

pub returns-in_err-kind : goal.returns-in_err-kind
returns-in_err-kind c =
    let l = c.loop-at in
    let t = none_told _ _ _ (sym c.in_err-kind.ensures.value) in
    let told = rw (l.invariant.0, t.0) at c.in-Some.ensures.steps.2 in
    let h = walk_stops c.args.attribute_type c.args.packet.now l.at-iterator.at l.seen l.invariant.1 _ told in
    search rules

pub loop-at-preserved-then-kind-attribute_type : goal.loop-at-preserved-then-kind-attribute_type
loop-at-preserved-then-kind-attribute_type c =
    let l = c.loop-at in
    let steps = c.in-Some.ensures.steps in
    let told = rw (l.invariant.0, some_told _ _ _ (sym c.in_ok-kind.ensures.value)) at steps.2 in (
      rw steps.1 l.invariant.0,
      rw (c.also-seen.ensures, steps.0) (walk-finds c.args.attribute_type c.args.packet.now l.at-iterator.at l.seen l.invariant.1 _ _ told c.if-kind-attribute_type.true),
    )

pub loop-at-preserved : goal.loop-at-preserved
loop-at-preserved c =
    let l = c.loop-at in
    let steps = c.in-Some.ensures.steps in
    let told = rw (l.invariant.0, some_told _ _ _ (sym c.in_ok-kind.ensures.value)) at steps.2 in
    (rw steps.1 l.invariant.0, walk-passes c.args.attribute_type c.args.packet.now l.at-iterator.at l.seen l.invariant.1 _ _ told c.if-kind-attribute_type.false)

pub returns : goal.returns
returns c =
    let l = c.loop-at in
    let done = rw l.invariant.0 at c.in-None.ensures.steps in
    walk_ends c.args.attribute_type c.args.packet.now l.at-iterator.at l.seen l.invariant.1 done
