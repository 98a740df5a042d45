-- A node is ready for the handlers of its events, and what their runs are bounded by.
use Rattle.std.proofs.Common.{◌∙◌, ◌≤◌, List, length, refl, ap, sym, subst, arith}
use Rattle.std.proofs.lemmas.List.{length-map}
use Rattle.tw_base.specs.declared.message.Message.{Message}
use Rattle.teapot_meaning.specs.Fits.{IsMessageOf}
use Rattle.teapot_meaning.specs.Stays.{StaysFit}
use Rattle.teapot_meaning.proofs.Starting.{fitting_blocks_stay_fit}
use Rattle.compiled_handlers.specs.Standing.{DoesAsMeant}
use Rattle.dsm_runs.specs.declared.mode.Waiting.{Waiting}
use Rattle.dsm_runs.specs.Invariants.{IsDeferredAt}
use Rattle.dsm_runs.specs.Locals.{IsFirst, Local}
use Rattle.dsm_runs.specs.Messages.{fault}
use Rattle.dsm_runs.specs.Setups.{home_of}
use Rattle.dsm_runs.proofs.RunStates.{arrived, first_waits}
use Rattle.node_meaning.specs.HandlerEvents.{ReadyForFaults, ReadyForFirsts, ReadyForFronts, RunsAreBounded}
use Rattle.node_meaning.specs.Handling.{IsReadyFor}
use Rattle.node_meaning.specs.Laws.{LowerLaws}
use Rattle.node_meaning.specs.Nodes.{Shown, keeping}
use Rattle.node_meaning.specs.Stands.{IsReplayed, IsWell}
use Rattle.node_meaning.proofs.Made.{fault_is}

ready_for : (n : Shown) (m : Message) → IsWell n → IsReplayed n → IsDeferredAt n.setup n.me m → IsReadyFor n m
ready_for n m well replayed q =
    let at = replayed.stands.sound.blocks m.block q.block in
    record {
      accepted = well.setup.accepted;
      message = q.is_message;
      block = q.block;
      here = replayed.course.local.blocks m.block;
      is_block = record { same_me = at.me; same_home = at.home; same_block = at.block };
      fits = at.fits;
      full = at.words;
      stands = replayed.stands.blocks m.block q.block;
    }

pub ready_for_faults : ReadyForFaults
ready_for_faults n store block well replayed lt = ready_for n (fault store block n.me) well replayed
    (record { is_message = fault_is n.setup store block n.me; to = refl; own = λ is. refl; block = lt })

pub ready_for_firsts : ReadyForFirsts
ready_for_firsts n m earlier later well replayed first =
    let there : IsFirst m earlier later replayed.course.local.deferred = subst
    (λ (ws : List Waiting). IsFirst m earlier later ws) (ap (λ (l : Local). l.deferred) (sym replayed.stands.parts)) first in
    ready_for n m well replayed (first_waits n.setup n.me m earlier later replayed.course.local.deferred there
    replayed.stands.sound.deferred).0

pub ready_for_fronts : ReadyForFronts
ready_for_fronts n from ch m well replayed front = ready_for n m well replayed
    (arrived n.setup from n.me m (well.fronts from ch m front).fit.on)

pub runs_are_bounded : LowerLaws → RunsAreBounded
runs_are_bounded lower found new m sent ran ready runs =
    let given : IsMessageOf found.setup.protocol (length ready.here.words) m = subst
    (λ n. IsMessageOf found.setup.protocol n m) (sym ready.full) ready.message in
    let fit : StaysFit found.setup.protocol ready.here m = fitting_blocks_stay_fit found.setup.protocol ready.here m
    ready.accepted ready.fits given in
    let e = fit.meaning.end in
    let meant : DoesAsMeant found.setup.protocol found.code found.me (home_of found.setup m.block) m.block
    (keeping found m.block) (keeping new m.block) sent ran fit.meaning.end = runs.meant ready.here fit.meaning.end
    ready.is_block ready.fits ready.stands fit.meaning.does in
    let few : length fit.meaning.end.sends ≤ 288 = lower.few found.setup.protocol ready.here m fit.meaning.end ready.accepted
    ready.fits given fit.meaning.does in
    record {
      few = omega (arith, few, ap length meant.sends ∙ length-map fit.meaning.end.sends _);
      freed = λ k. meant.freed ∙ lower.eligible found.setup.protocol ready.here m fit.meaning.end fit.meaning.does
          (sym meant.kept ∙ k);
    }
