use Rattle.std.proofs.Common.{◌≡◌, ◌∷◌, ◌++◌, [], List, None, length, length-append, rules, refl, ap, sym, ◌∙◌, subst, arith}
use Rattle.tw_base.specs.declared.entry.Entry.{Entry}
use Rattle.dsm_runs.specs.Begun.{HasBegun}
use Rattle.dsm_model.specs.Globals.{setup_of, world_of}
use Rattle.dsm_runs.proofs.Scheduling.{begun_at, begun_still, settles_at}
use Rattle.dsm_model.proofs.Posting.{on_err}
use Rattle.dsm_model.proofs.schedule.settle.Goals as goal

pub loop-turn-init : goal.loop-turn-init
loop-turn-init c =
    let s = setup_of c.args.g.now in
    let g = world_of c.args.g.now in
    record {
      setup = refl;
      count = ap (λ (es : List Entry). length es) c.new-entries.ensures;
      begun = subst (λ (es : List Entry). HasBegun s c.args.stride 0 g es g) (sym c.new-entries.ensures) refl;
    }

pub returns-in_err-entry-clause-err : goal.returns-in_err-entry-clause-err
returns-in_err-entry-clause-err c = on_err c.from_residual.result (
  c.loop-turn.entries,
  begun_still (setup_of c.args.g.now) c.args.stride (world_of c.args.g.now) (world_of c.loop-turn.g)
      (world_of c.advance.new.g) c.loop-turn.entries c.in_err-entry.ensures.err c.loop-turn.invariant.begun,
)

pub returns-in_err-push_entry-clause-err : goal.returns-in_err-push_entry-clause-err
returns-in_err-push_entry-clause-err c = on_err c.from_residual-in_err-push_entry.result (
  c.loop-turn.entries ++ c.in-Some.entry ∷ [],
  begun_at (setup_of c.args.g.now) (setup_of c.loop-turn.g) c.args.stride c.loop-turn.turn (world_of c.args.g.now)
      (world_of c.loop-turn.g) (world_of c.advance.new.g) c.loop-turn.entries c.in_ok-entry.field-0 c.in-Some.entry
      c.loop-turn.invariant.setup c.loop-turn.invariant.count c.loop-turn.invariant.begun c.in-Some.is c.in_ok-entry.ensures.step,
)

pub returns-clause-err : goal.returns-clause-err
returns-clause-err c = (c.loop-turn.entries, c.loop-turn.invariant.begun)

pub returns-in_default-clause-settles : goal.returns-in_default-clause-settles
returns-in_default-clause-settles c =
    let none : c.in_ok-entry.field-0 ≡ None = search rules in
    settles_at (setup_of c.args.g.now) (setup_of c.loop-turn.g) c.args.stride c.loop-turn.turn (world_of c.args.g.now)
    (world_of c.loop-turn.g) (world_of c.advance.new.g) c.loop-turn.entries c.in_ok-entry.field-0
    c.loop-turn.invariant.setup c.loop-turn.invariant.count c.loop-turn.invariant.begun none c.in_ok-entry.ensures.step

pub loop-turn-preserved : goal.loop-turn-preserved
loop-turn-preserved c =
    let s = setup_of c.args.g.now in
    let g = world_of c.args.g.now in
    let e : Entry = c.in-Some.entry in
    record {
      setup = c.in_ok-entry.ensures.setup ∙ c.loop-turn.invariant.setup;
      count = omega (
        arith,
        ap (λ (es : List Entry). length es) c.in_ok-push_entry.ensures,
        length-append c.loop-turn.entries (e ∷ []),
        c.loop-turn.invariant.count,
      );
      begun = subst (λ (es : List Entry). HasBegun s c.args.stride 0 g es (world_of c.advance.new.g))
          (sym c.in_ok-push_entry.ensures)
          (begun_at s (setup_of c.loop-turn.g) c.args.stride c.loop-turn.turn g (world_of c.loop-turn.g)
          (world_of c.advance.new.g) c.loop-turn.entries c.in_ok-entry.field-0 e
          c.loop-turn.invariant.setup c.loop-turn.invariant.count c.loop-turn.invariant.begun c.in-Some.is
          c.in_ok-entry.ensures.step);
    }
