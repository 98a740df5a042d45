use Rattle.std.proofs.Common.{cond, Some, is_some, ap, sym, ◌∙◌}
use Rattle.std.specs.BTreeMap.{get_by}
use Rattle.std.specs.Cmp.Lexicographic.{slice_cmp}
use Rattle.std.specs.Ordering.{nat_cmp}
use Rattle.std.specs.Str.{bytes_eq}
use Rattle.std.proofs.lemmas.Map.Text.{btree_map_updates_str}
use Rattle.teapot_rules.proofs.Placing.{known, unknown}
use Rattle.teapot_rules.proofs.places.note.Goals as goal

pub returns-then-is_some : goal.returns-then-is_some
returns-then-is_some c = λ q.
    known (λ n. get_by (λ k. slice_cmp nat_cmp n k.now) c.args.places.now) c.args.name.now q c.args.at
    (ap is_some (sym c.look.ensures) ∙ sym c.if-is_some.ensures)

pub returns : goal.returns
returns c = λ q.
    btree_map_updates_str c.bytes.result.now c.args.places.now c.insert.new.self _ c.in_ok-insert.ensures.updates q
    ∙ ap (λ z. cond (bytes_eq z q) (Some c.args.at) (get_by (λ k. slice_cmp nat_cmp q k.now) c.args.places.now))
    c.bytes.ensures.value
    ∙ unknown (λ n. get_by (λ k. slice_cmp nat_cmp n k.now) c.args.places.now) c.args.name.now q c.args.at
    (ap is_some (sym c.look.ensures) ∙ sym c.if-is_some.ensures)
