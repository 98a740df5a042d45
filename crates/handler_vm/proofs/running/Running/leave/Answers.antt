use Rattle.std.proofs.Common.{◌≡◌, ◌+◌, ◌∙◌, true, false, length, take, refl, ap, arith}
use Rattle.std.specs.Prelude.{if◌then◌else◌, nat_le, reverse, slice_get}
use Rattle.std.proofs.lemmas.List.{length-map}
use Rattle.tw_base.specs.declared.entry.End.TheVariants.{Fine, TooDeep}
use Rattle.handler_code.specs.Machine.{Stop, counted, state_arity, stopped, suspended}
use Rattle.handler_vm.specs.Chains.{records_of, saved_from, saved_of}
use Rattle.handler_vm.specs.Inside.{IsSound, machine_of}
use Rattle.handler_vm.specs.declared.running.Running.{Running}
use Rattle.handler_vm.proofs.Chaining.{keeps_spared}
use Rattle.handler_vm.proofs.Stopping.{is_deep, is_shallow, stop_is, sound_kept}
use Rattle.handler_vm.proofs.running.Running.leave.Goals as goal

pub returns-then-depth-ge8-clause-stop : goal.returns-then-depth-ge8-clause-stop
returns-then-depth-ge8-clause-stop c = λ sent.
    let p = c.args.p.now in
    let was = c.args.self.now in
    let store = c.args.conts.now in
    let m = machine_of p was sent (saved_from p store was.cont) in
    let args = reverse (take (state_arity (slice_get p.states c.args.state)) was.stack) in
    let now : Running = record was { at = was.at + 1; ops = was.ops + 1 } in
    let depth : c.depth.result ≡ length (records_of store was.cont) = c.depth.ensures
    ∙ ap (λ r. length (records_of store r.cont)) c.count.ensures in
    let deep : nat_le 8 (length (saved_from p store was.cont)) ≡ true =
    is_deep _ (omega (arith, c.if-depth-ge8.true, depth, length-map (records_of store was.cont) (saved_of p))) in
    let sound : IsSound p now store = sound_kept p was now store c.requires.sound c.requires.sound.arity refl refl refl refl in (
      stopped (counted m) TooDeep,
      ap (λ b. if b then Stop (stopped (counted m) TooDeep) else Stop
          (stopped (suspended c.args.code.now (counted m) c.args.state args c.args.rest) Fine)) deep,
      rw c.count.ensures (stop_is p now sent store TooDeep sound),
    )

pub returns-then-depth-ge8-clause-others : goal.returns-then-depth-ge8-clause-others
returns-then-depth-ge8-clause-others c = λ store was s chain. rw c.count.ensures (keeps_spared chain.named s)

pub returns-clause-stop : goal.returns-clause-stop
returns-clause-stop c = λ sent.
    let p = c.args.p.now in
    let was = c.args.self.now in
    let store = c.args.conts.now in
    let m = machine_of p was sent (saved_from p store was.cont) in
    let args = reverse (take (state_arity (slice_get p.states c.args.state)) was.stack) in
    let depth : c.depth.result ≡ length (records_of store was.cont) = c.depth.ensures
    ∙ ap (λ r. length (records_of store r.cont)) c.count.ensures in
    let shallow : nat_le 8 (length (saved_from p store was.cont)) ≡ false =
    is_shallow _ (omega (arith, c.if-depth-ge8.false, depth, length-map (records_of store was.cont) (saved_of p))) in
    let stop = rw c.count.ensures at (c.suspend.ensures.stop sent) in (
      stopped (suspended c.args.code.now (counted m) c.args.state args c.args.rest) Fine,
      ap (λ b. if b then Stop (stopped (counted m) TooDeep) else Stop
          (stopped (suspended c.args.code.now (counted m) c.args.state args c.args.rest) Fine)) shallow,
      stop,
    )
