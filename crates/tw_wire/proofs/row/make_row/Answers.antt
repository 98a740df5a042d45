use Rattle.std.proofs.Common.{rules, ◌≡◌, ℕ, add-one, subst}
use Rattle.tw_wire.specs.Made.{with_pair}
use Rattle.tw_wire.proofs.Making.{row-more}
use Rattle.tw_wire.proofs.row.make_row.Goals as goal

pub loop-to-preserved : goal.loop-to-preserved
loop-to-preserved c =
    let h = c.in_ok-add_pair.ensures in
    let to : c.unwrap.result ≡ c.loop-to.to = search rules in
    let is = subst (λ (t : ℕ). c.add_pair.new.row ≡ with_pair c.args.from t h.0 h.1 c.loop-to.row) to h.2 in
    rw add-one (row-more c.args.from c.loop-to.to h.0 h.1 c.loop-to.row c.add_pair.new.row is c.loop-to.invariant)
