use Rattle.std.proofs.Common.{◌≡◌, [], ◌∷◌, ◌++◌, length, length-append, sym, ap, subst, arith}
use Rattle.handler_vm.specs.Tables.{IsRight}
use Rattle.handler_vm.proofs.Tabling.{right_at}
use Rattle.handler_vm.proofs.doors.places_of.Goals as goal

pub loop-index-preserved : goal.loop-index-preserved
loop-index-preserved c =
    let p = c.args.p.now in
    let code = c.args.code.now in
    let places = c.loop-index.places in
    let more = c.place_of.result in
    let grown : c.push_place.new.places ≡ places ++ more ∷ [] = c.in_ok-push_place.ensures in
    let right = right_at p code c.args.kinds places more c.requires.kinds c.loop-index.invariant.1 c.loop-index.index
    c.kind_at-kind.result c.loop-index.invariant.0 c.kind_at-kind.ensures c.place_of.ensures in (
      omega (arith, ap length grown, length-append places (more ∷ []), c.loop-index.invariant.0),
      subst (IsRight p code c.args.kinds) (sym grown) right,
    )
