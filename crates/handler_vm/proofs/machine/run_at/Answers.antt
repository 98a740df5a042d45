use Rattle.std.proofs.Common.{◌≡◌, ◌≤◌, ◌∙◌, ◌++◌, ℕ, [], ◌∷◌, length, drop, refl, ap, subst, sym, arith}
use Rattle.std.specs.Prelude.{All, slice_get}
use Rattle.std.proofs.lemmas.List.{length-take-le, take-append-drop}
use Rattle.std.proofs.lemmas.List.Elements.{All-nil}
use Rattle.tw_base.specs.declared.value.Value.TheVariants.{Node}
use Rattle.teapot_tree.specs.declared.protocol.Protocol.{Protocol}
use Rattle.block_tags.specs.Copies.{block_words, tag_of, with_block, with_tag}
use Rattle.handler_code.specs.Doors.{args_taken, filled, locals_of, zeros_of}
use Rattle.handler_code.specs.Machine.{Runs, state_arity}
use Rattle.handler_vm.specs.declared.running.Running.{Running}
use Rattle.handler_vm.specs.Chains.{IsChain, IsFull, saved_from}
use Rattle.handler_vm.specs.Inside.{HasFew, IsAtOp, IsSound, begun, machine_of}
use Rattle.handler_vm.specs.Leaves.{ran_of}
use Rattle.handler_vm.specs.Sending.{IsUnsent, Sends}
use Rattle.handler_vm.proofs.Entering.{door_among, has_few, wide_filled}
use Rattle.handler_vm.proofs.machine.run_at.Goals as goal

pub enter-requires-clause-few : goal.enter-requires-clause-few
enter-requires-clause-few c =
    let among = door_among c.args.code.now c.args.cell.now.state c.args.m.now.kind c.args.entry.now.door.now c.requires.is_door in
    let places = c.requires.room.places in
    omega (arith, (places.doors among.place c.args.entry.now.door.now among.is).1, places.most c.args.entry.now.door.now.at)

pub go-end-requires-clause-few : goal.go-end-requires-clause-few
go-end-requires-clause-few c = subst HasFew (sym c.protocol.ensures.value) (has_few c.args.p.now c.protocol.ensures.accepted)

pub go-end-requires-clause-sound : goal.go-end-requires-clause-sound
go-end-requires-clause-sound c =
    let p = c.args.p.now in
    let cell = c.args.cell.now in
    let words = block_words c.args.blocks.now c.args.m.now.block in
    let count = state_arity (slice_get p.states cell.state) in
    let start = begun p c.args.entry.now.door.now c.args.me c.args.home
    (tag_of c.args.blocks.now c.args.m.now.block) words cell c.args.m.now in
    let few : count ≤ length cell.args = omega (
      arith,
      (has_few p c.protocol.ensures.accepted).states cell.state,
      c.enter.ensures.places,
    ) in
    let sound : IsSound p start c.args.conts.now = record {
      arity = length-take-le count cell.args few;
      came = subst (λ (n : ℕ). IsFull n c.args.m.now.payload) (sym c.enter.ensures.words) c.requires.full;
      none_made = refl;
      chain = subst (λ (n : ℕ). IsChain n c.args.conts.now cell.cont) (sym c.enter.ensures.words) c.requires.chain;
      spare = c.requires.spare;
    } in
    subst (λ (x : Protocol). IsSound x c.enter.new.run c.args.conts.now) (sym c.protocol.ensures.value)
    (subst (λ (x : Running). IsSound p x c.args.conts.now) (sym c.enter.ensures.run) sound)

pub go-end-requires-clause-placed : goal.go-end-requires-clause-placed
go-end-requires-clause-placed c =
    let p = c.args.p.now in
    let door = c.args.entry.now.door.now in
    let code = c.args.code.now in
    let among = door_among code c.args.cell.now.state c.args.m.now.kind c.args.entry.now.door.now c.requires.is_door in
    let start = begun p c.args.entry.now.door.now c.args.me c.args.home (tag_of c.args.blocks.now c.args.m.now.block)
    (block_words c.args.blocks.now c.args.m.now.block) c.args.cell.now c.args.m.now in
    let room = c.requires.room in
    let at_door = room.places.doors among.place door among.is in
    let wide : room.width door.at ≤ length start.slots = omega (
      arith,
      at_door.1,
      wide_filled door.slots (Node c.args.m.now.from ∷
          (start.args ++ (args_taken door.on c.args.m.now ++ zeros_of (locals_of p door)))),
    ) in
    let placed : IsAtOp p code start = record {
      room = room;
      deep = room.stack.doors among.place door among.is;
      there = at_door.0;
      wide = wide;
    } in
    subst (λ (x : Protocol). IsAtOp x code c.enter.new.run) (sym c.protocol.ensures.value)
    (subst (λ (x : Running). IsAtOp p code x) (sym c.enter.ensures.run) placed)

pub returns-clause-leaves : goal.returns-clause-leaves
returns-clause-leaves c =
    let p = c.args.p.now in
    let q = c.protocol.result.now in
    let same : q ≡ p = c.protocol.ensures.value in
    let code = c.args.code.now in
    let conts = c.args.conts.now in
    let was = c.args.cell.now in
    let first = c.enter.new.run in
    let start = begun p c.args.entry.now.door.now c.args.me c.args.home (tag_of c.args.blocks.now c.args.m.now.block)
    (block_words c.args.blocks.now c.args.m.now.block) was c.args.m.now in
    let begins : first ≡ start = c.enter.ensures.run in
    let r = c.go-end.new.self in
    let sent = c.go-end.new.unsent.sent in
    let stop = c.go-end.ensures.stop in
    let e = stop.0 in
    let is = stop.2 in
    let runs_q : Runs q code (machine_of q first [] (saved_from q conts first.cont)) e =
    subst (λ (a : Sends). Runs q code (machine_of q first a.sent (saved_from q conts first.cont)) e) c.clear.ensures.cleared
    stop.1 in
    let runs_p : Runs p code (machine_of p first [] (saved_from p conts first.cont)) e =
    subst (λ (x : Protocol). Runs x code (machine_of x first [] (saved_from x conts first.cont)) e) same runs_q in
    let runs : Runs p code (machine_of p start [] (saved_from p conts start.cont)) e =
    subst (λ (x : Running). Runs p code (machine_of p x [] (saved_from p conts x.cont)) e) begins runs_p in
    let cell = c.leave.ensures.cell in
    let infos : c.leave.new.cell.infos ≡ e.around.infos ++ drop (length p.infos) was.infos =
    ap (λ x. x.infos) cell ∙ sym (take-append-drop (length q.infos) r.infos)
    ∙ ap (λ a. a.infos ++ drop (length q.infos) r.infos) (sym is.around)
    ∙ ap (λ xs. e.around.infos ++ xs) (c.go-end.ensures.block.others ∙ ap (λ x. drop (length q.infos) x.infos) begins)
    ∙ ap (λ (x : Protocol). e.around.infos ++ drop (length x.infos) was.infos) same in
    let arity : length e.args ≡ state_arity (slice_get p.states e.state) =
    ap length is.args ∙ is.arity ∙ ap (λ (x : Protocol). state_arity (slice_get x.states r.state)) same
    ∙ ap (λ n. state_arity (slice_get p.states n)) (sym is.state) in
    let unsent_q : All (IsUnsent q first.me first.block) sent =
    c.go-end.ensures.unsent (subst (λ (a : Sends). All (IsUnsent q first.me first.block) a.sent) (sym c.clear.ensures.cleared)
    (All-nil (IsUnsent q first.me first.block))) in
    let unsent_p : All (IsUnsent p first.me first.block) sent =
    subst (λ (x : Protocol). All (IsUnsent x first.me first.block) sent) same unsent_q in
    let unsent : All (IsUnsent p start.me start.block) sent =
    subst (λ (x : Running). All (IsUnsent p x.me x.block) sent) begins unsent_p in
    let result : c.leave.result ≡ ran_of e = c.leave.ensures.result ∙ (λ j. record {
      kept = (sym is.around j).kept;
      freed = (sym is.around j).freed;
      woke = (sym is.around j).woke;
      end = sym is.how j;
      ops = sym is.ops j;
      records = sym is.records j;
    }) in (
      e,
      runs,
      record {
        result = result;
        cell = record {
          state = ap (λ x. x.state) cell ∙ sym is.state;
          args = ap (λ x. x.args) cell ∙ ap (filled 4) (sym is.args);
          arity = arity;
          infos = infos;
        };
        chain = ap (λ x. saved_from p c.go-end.new.conts x.cont) cell
            ∙ ap (λ (x : Protocol). saved_from x c.go-end.new.conts r.cont) (sym same) ∙ is.chain;
        block = c.install.ensures ∙ ap (λ b. with_block b c.args.m.now.block r.words) c.set_tag.ensures
            ∙ ap (λ a. with_block (with_tag c.args.blocks.now c.args.m.now.block a.tag) c.args.m.now.block a.words)
            (sym is.around);
        sends = record { outs = ap (λ a. a.sends) (sym is.around); unsent = unsent };
      },
    )
