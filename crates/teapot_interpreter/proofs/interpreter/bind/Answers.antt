use Rattle.std.proofs.Common.{◌≡◌, ◌∷◌, drop, suc, add-one, sym}
use Rattle.std.proofs.Math.Seq.{drop-cons}
use Rattle.std.proofs.lemmas.List.{append-nil, drop_all}
use Rattle.teapot_meaning.specs.Does.{bound}
use Rattle.teapot_interpreter.proofs.Bounds.{bound_done, bound_more, drop_at, drop_past}
use Rattle.teapot_interpreter.proofs.interpreter.bind.Goals as goal

pub pairs-preserved : goal.pairs-preserved
pairs-preserved c =
    let name : drop c.pairs.at c.args.names.now ≡ c.index-names-at.result ∷ drop (suc c.pairs.at) c.args.names.now =
    rw c.index-names-at.is (drop-cons c.args.names.now c.pairs.at c.index-names-at.result c.pairs-test.true) in
    let value = drop_at c.args.values.now c.pairs.at c.in-Some.value (sym c.in-Some.ensures) in
    rw add-one (bound_more _ _ _ _ _ _ _ c.index-names-at.result c.in-Some.value name value
    (rw c.in_ok-copy-in-Some.ensures at c.in_ok-push-in-Some.ensures.ok) c.pairs.invariant)

pub returns-in-None : goal.returns-in-None
returns-in-None c = bound_done _ _ _ _ (drop_past c.args.values.now c.pairs.at (sym c.in-None.ensures)) c.pairs.invariant

pub returns : goal.returns
returns c =
    let none = drop_all c.pairs.at c.args.names.now c.pairs-test.false in
    let h : c.pairs.vars ≡ bound c.args.names.now c.args.values.now = rw (none, append-nil) at c.pairs.invariant in
    h
