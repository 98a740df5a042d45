use Rattle.std.proofs.Common.{◌≡◌, ◌∙◌, ◌∷◌, ◌+◌, Some, length, take, get_or, refl, ap, sym, arith}
use Rattle.std.specs.Prelude.{List, map, slice_get, reverse}
use Rattle.std.proofs.lemmas.List.{length-reverse, length-take-le}
use Rattle.std.proofs.lemmas.Option.{slice_get-get_or}
use Rattle.cont_store.specs.declared.record.Record.{Record}
use Rattle.handler_code.specs.declared.code.Rest.{Rest}
use Rattle.handler_code.specs.Doors.{filled}
use Rattle.handler_code.specs.Machine.{Saved, saved_values, state_arity}
use Rattle.handler_vm.specs.Chains.{IsFull, IsWholeRecord, records_of, saved_from, saved_of, widened}
use Rattle.handler_vm.proofs.Chaining.{keeps_saved, widened_all}
use Rattle.handler_vm.proofs.Winding.{wound}
use Rattle.handler_vm.proofs.running.Running.suspend.Goals as goal

abbrev no_rest : Rest
no_rest = record { at = 0; door = 0; live = 0 }

pub returns-clause-stop : goal.returns-clause-stop
returns-clause-stop c = λ sent.
    let p = c.args.p.now in
    let was = c.args.self.now in
    let old = c.args.conts.now in
    let left = c.take-args.new.self in
    let same = c.take-args.ensures.rest in
    let words = length was.words in
    let rs = records_of old was.cont in
    let count = state_arity (slice_get p.states c.args.state) in
    let r : Record = record {
      rest = c.args.rest;
      values = c.saved.result;
      came = left.came;
      state = left.state;
      args = c.places.result;
      parent = left.cont;
      depth = c.depth-depth.result + 1;
    } in
    let saved : Saved = record {
      rest = c.args.rest;
      values = saved_values (slice_get c.args.code.now.rests c.args.rest) was.slots;
      came = was.came;
      state = was.state;
      args = was.args;
    } in
    let came : IsFull words left.came = rw same c.requires.sound.came in
    let whole : IsWholeRecord words r = record { values = c.saved.ensures.all; args = c.places.ensures.all; came = came } in
    let depth : r.depth ≡ length rs + 1 = ap (λ n. n + 1) c.depth-depth.ensures in
    let w = wound words old c.save.new.self was.cont c.save.result r c.requires.sound.chain c.save.ensures.was_free
    c.save.ensures.changes (ap (λ x. x.cont) same) depth c.requires.low whole in
    let rest_is : Some (get_or c.items.result.now c.args.rest no_rest) ≡ slice_get c.args.code.now.rests c.args.rest =
    sym (ap (λ (rests : List Rest). slice_get rests c.args.rest) (sym c.items.ensures)
    ∙ slice_get-get_or c.items.result.now c.args.rest no_rest
    (omega (arith, c.requires.saved, ap length c.items.ensures))) in
    let values : r.values ≡ filled 21 saved.values = c.saved.ensures.value
    ∙ ap (λ o. filled 21 (saved_values o left.slots)) rest_is
    ∙ ap (λ x. filled 21 (saved_values (slice_get c.args.code.now.rests c.args.rest) x.slots)) same in
    let used : take (length was.args) c.places.result ≡ was.args = rw same at c.places.ensures.used in
    let args : take (state_arity (slice_get p.states left.state)) c.places.result ≡ was.args =
    ap (λ x. take (state_arity (slice_get p.states x.state)) c.places.result) same
    ∙ ap (λ n. take n c.places.result) (sym c.requires.sound.arity) ∙ used in
    let first : saved_of p r ≡ widened saved = λ j. record {
      rest = c.args.rest;
      values = values j;
      came = (same j).came;
      state = (same j).state;
      args = args j;
    } in
    let chain : saved_from p c.save.new.self (Some c.save.result) ≡ map widened (saved ∷ saved_from p old was.cont) =
    ap (map (saved_of p)) w.records ∙ ap (λ s. s ∷ map (saved_of p) rs) first
    ∙ ap (λ ss. widened saved ∷ ss) (widened_all p words rs c.requires.sound.chain.whole) in
    let arity : length (reverse (take count was.stack)) ≡ count = length-reverse (take count was.stack)
    ∙ length-take-le count was.stack c.requires.enough in
    rw (same, c.take-args.ensures.args, c.state_arity.ensures) (record {
      around = refl;
      state = refl;
      args = refl;
      arity = arity;
      chain = chain;
      whole = w.chain;
      how = refl;
      ops = refl;
      records = refl;
    })

pub returns-clause-others : goal.returns-clause-others
returns-clause-others c = λ store was s chain. keeps_saved chain.named s c.requires.sound.chain.named
    (ap (λ x. x.cont) c.take-args.ensures.rest) c.save.ensures.was_free c.save.ensures.changes
