use Rattle.std.proofs.Common.{◌≡◌, ◌∙◌, Some, None, rules, sym}
use Rattle.still_nodes.proofs.Driven.{on_err}
use Rattle.still_nodes.proofs.Followed.{IsNext, follows_at_most, follows_more, follows_start, has_settled}
use Rattle.still_nodes.proofs.still.Still.follow.Goals as goal

pub loop-turn-init : goal.loop-turn-init
loop-turn-init c = record {
  follows = follows_start c.args.self.now c.args.stride;
  spread = c.requires.spread;
  told = c.requires.told;
}

pub returns-in_default-clause-settled : goal.returns-in_default-clause-settled
returns-in_default-clause-settled c =
    let none : c.next_event.result ≡ None = search rules in
    let next : IsNext c.loop-turn.self c.args.stride c.loop-turn.turn None =
    record { takes = λ h s. sym none ∙ c.next_event.ensures.chosen h s } in
    has_settled _ _ _ _ c.loop-turn.invariant.follows next

pub returns-in_err-make-clause-err : goal.returns-in_err-make-clause-err
returns-in_err-make-clause-err c =
    let next : IsNext c.loop-turn.self c.args.stride c.loop-turn.turn (Some c.in-Some.event) =
    record { takes = c.in-Some.ensures.chosen } in
    on_err c.from_residual.result (follows_at_most _ _ _ _ _ _ c.loop-turn.invariant.follows next c.in_err-make.ensures.err)

pub loop-turn-preserved : goal.loop-turn-preserved
loop-turn-preserved c =
    let next : IsNext c.loop-turn.self c.args.stride c.loop-turn.turn (Some c.in-Some.event) =
    record { takes = c.in-Some.ensures.chosen } in
    record {
      follows = follows_more _ _ _ _ _ _ c.loop-turn.invariant.follows next c.in_ok-make.ensures.made;
      spread = c.in_ok-make.ensures.spread;
      told = c.in_ok-make.ensures.told;
    }
