use Rattle.std.proofs.Common.{◌≡◌, ℕ, subst, arith}
use Rattle.tw_wire.specs.Made.{AreRows}
use Rattle.tw_wire.proofs.New.{rows-new}
use Rattle.tw_wire.proofs.wires.Wires.new.Goals as goal

pub returns : goal.returns
returns c =
    let made = c.loop-from.made in
    let all : c.loop-from.from ≡ c.args.n = omega arith in
    let rows = subst (λ (k : ℕ). AreRows c.args.n k made.rows made.sends made.recvs.items) all c.loop-from.invariant in
    rows-new c.args.n made.rows made.sends made.recvs.items c.in_ok-ends.ends.items rows c.in_ok-ends.ensures.sends
    c.in_ok-ends.ensures.recvs
