use Rattle.std.proofs.Common.{◌≡◌, ◌∙◌, ◌∷◌, Some, length, refl, ap, subst, arith}
use Rattle.std.specs.Prelude.{map, slice_get}
use Rattle.std.proofs.lemmas.List.{length-take-le}
use Rattle.handler_code.specs.Machine.{resumed, state_arity}
use Rattle.handler_vm.specs.Chains.{IsChain, saved_from, saved_of}
use Rattle.handler_vm.specs.Inside.{machine_of}
use Rattle.handler_vm.proofs.Chaining.{spares_taken}
use Rattle.handler_vm.proofs.Winding.{unwound}
use Rattle.handler_vm.proofs.running.Running.resume.Goals as goal

pub returns-clause-next : goal.returns-clause-next
returns-clause-next c = λ sent.
    let p = c.args.p.now in
    let r = c.take-record.result in
    let old = c.args.conts.now in
    let was = c.args.self.now in
    let chain : IsChain (length was.words) old (Some c.args.key) =
    subst (IsChain (length was.words) old) c.requires.newest c.requires.sound.chain in
    let u = unwound (length was.words) old c.take-record.new.self c.args.key r chain c.take-record.ensures.taken
    c.take-record.ensures.changes in
    let all : saved_from p old was.cont ≡ saved_of p r ∷ saved_from p c.take-record.new.self r.parent =
    ap (saved_from p old) c.requires.newest ∙ ap (map (saved_of p)) u.records in
    ap (resumed c.args.code.now (machine_of p was sent (saved_from p old was.cont))) all
    ∙ rw (
      c.free.ensures,
      c.place_of_rest-self.ensures,
      c.set_all.ensures,
      c.clear.ensures,
      c.first-self.ensures,
      c.saved_arity.ensures,
    ) refl

pub returns-clause-sound : goal.returns-clause-sound
returns-clause-sound c =
    let p = c.args.p.now in
    let r = c.take-record.result in
    let was = c.args.self.now in
    let chain : IsChain (length was.words) c.args.conts.now (Some c.args.key) =
    subst (IsChain (length was.words) c.args.conts.now) c.requires.newest c.requires.sound.chain in
    let u = unwound (length was.words) c.args.conts.now c.take-record.new.self c.args.key r chain c.take-record.ensures.taken
    c.take-record.ensures.changes in
    let count = state_arity (slice_get p.states r.state) in
    rw (c.free.ensures, c.first-self.ensures, c.saved_arity.ensures) (record {
      arity = length-take-le count r.args (omega (arith, u.whole.args, c.requires.few.states r.state));
      came = u.whole.came;
      none_made = c.requires.sound.none_made;
      chain = u.chain;
      spare = omega (arith, c.take-record.ensures.spare, c.requires.sound.spare);
    })

pub returns-clause-others : goal.returns-clause-others
returns-clause-others c = rw (c.requires.newest, c.free.ensures)
    (spares_taken c.take-record.ensures.taken c.take-record.ensures.changes)
