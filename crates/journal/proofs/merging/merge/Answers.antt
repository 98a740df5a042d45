use Rattle.std.proofs.Common.{List, ℕ}
use Rattle.tw_base.specs.declared.entry.Entry.{Entry}
use Rattle.journal.proofs.Walking.{Takes, ends, fewer_left, goes_on, moved_long, takes_found}
use Rattle.journal.proofs.merging.merge.Goals as goal

pub take_next-requires : goal.take_next-requires
take_next-requires c =
    let logs : List (List Entry) = c.args.logs.now in
    let places : List ℕ = c.entries.places.items in
    let t : Takes logs places c.in-Some.node =
    takes_found logs places c.deref.result.now c.first_node.result c.in-Some.node c.in-Some.field-0-1 c.entries.invariant.0
    c.deref.ensures.value c.first_node.ensures c.in-Some.is in
    record { node = t.below; places = c.entries.invariant.0; place = t.within }

pub entries-smaller : goal.entries-smaller
entries-smaller c =
    let logs : List (List Entry) = c.args.logs.now in
    let places : List ℕ = c.entries.places.items in
    let t : Takes logs places c.in-Some.node =
    takes_found logs places c.deref.result.now c.first_node.result c.in-Some.node c.in-Some.field-0-1 c.entries.invariant.0
    c.deref.ensures.value c.first_node.ensures c.in-Some.is in
    fewer_left logs places c.take_next.new.places.items c.in-Some.node t c.in_ok-take_next.ensures.places

pub entries-preserved : goal.entries-preserved
entries-preserved c =
    let logs : List (List Entry) = c.args.logs.now in
    let places : List ℕ = c.entries.places.items in
    let next : List ℕ = c.take_next.new.places.items in
    let t : Takes logs places c.in-Some.node =
    takes_found logs places c.deref.result.now c.first_node.result c.in-Some.node c.in-Some.field-0-1 c.entries.invariant.0
    c.deref.ensures.value c.first_node.ensures c.in-Some.is in (
      moved_long places next c.in-Some.node _ c.in_ok-take_next.ensures.places c.entries.invariant.0,
      goes_on logs places next c.entries.journal c.take_next.new.journal c.in-Some.node c.requires t
          c.in_ok-take_next.ensures.journal c.in_ok-take_next.ensures.places c.entries.invariant.1,
    )

pub returns : goal.returns
returns c =
    ends c.args.logs.now c.entries.places.items c.deref.result.now c.first_node.result c.entries.journal
    c.entries.invariant.1 c.deref.ensures.value c.first_node.ensures c.in_default.is
