use Rattle.std.proofs.Common.{◌≡◌, ℕ, ◌+◌, sym, ◌∙◌, subst}
use Rattle.deferred_queues.specs.Queues.{first_of, is_earlier}
use Rattle.deferred_queues.proofs.Calling.{IsFound, counts_one, found_earliest, found_first, found_here, found_there}
use Rattle.deferred_queues.proofs.Calling.{sought_all, sought_next, tests_queues}
use Rattle.deferred_queues.proofs.deferred.earliest.Goals as goal
use Rattle.deferred_queues.proofs.deferred.earliest.Goals.{then-is_earlier, else-is_earlier}

pub loop-at-init : goal.loop-at-init
loop-at-init c = record { found_so = found_first c.args.queues.now c.requires.any; left_is = c.requires.count }

pub bounds-queues-found : goal.bounds-queues-found
bounds-queues-found c = c.loop-at.invariant.found_so.within

pub loop-at-preserved : goal.loop-at-preserved
loop-at-preserved c =
    let qs = c.args.queues.now in
    let x = c.index-queues-at.result in
    let y = c.index-queues-found.result in
    let test : c.is_earlier.result ≡ is_earlier (first_of x) (first_of y) =
    tests_queues c.is_earlier.result c.first-in-loop-at.result c.first-in-loop-at-2.result x y c.is_earlier.ensures
    c.first-in-loop-at.ensures c.first-in-loop-at-2.ensures in
    let one = counts_one c.from-left.result c.is_some.result c.first.result x c.from-left.ensures c.is_some.ensures
    c.first.ensures in
    let next = λ (k : ℕ) (f : IsFound qs (c.loop-at.at + 1) k). sought_next qs c.loop-at.at c.loop-at.found k c.loop-at.left
    c.from-left.result x c.loop-at.invariant c.loop-at-test.true c.index-queues-at.is one f in
    elim c.if-is_earlier.branch [
      | then-is_earlier w ↦
          next _ (subst (λ k. IsFound qs (c.loop-at.at + 1) k) (sym w.found-is)
          (found_here qs c.loop-at.at c.loop-at.found x y c.loop-at.invariant.found_so c.loop-at-test.true c.index-queues-at.is
          c.index-queues-found.is (sym test ∙ w.if-is_earlier.true)))
      | else-is_earlier w ↦
          next _ (subst (λ k. IsFound qs (c.loop-at.at + 1) k) (sym w.found-is)
          (found_there qs c.loop-at.at c.loop-at.found x y c.loop-at.invariant.found_so c.loop-at-test.true c.index-queues-at.is
          c.index-queues-found.is (sym test ∙ w.if-is_earlier.false)))
    ]

pub returns : goal.returns
returns c = found_earliest c.args.queues.now c.loop-at.at c.loop-at.found c.loop-at.invariant.found_so c.loop-at-test.false
    c.requires.any

pub returns-then-left-eq0 : goal.returns-then-left-eq0
returns-then-left-eq0 c = sought_all c.args.queues.now c.loop-at.at c.loop-at.found c.loop-at.left c.loop-at.invariant
    c.if-left-eq0.true c.requires.any
