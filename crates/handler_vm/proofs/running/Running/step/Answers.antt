use Rattle.std.proofs.Common.{◌≡◌, ◌+◌, ◌∙◌, [], None, rules, refl, ap, sym, subst}
use Rattle.tw_base.specs.declared.entry.End.TheVariants.{Fine, Failed}
use Rattle.handler_code.specs.Machine.{Move, Next, act, counted, resumed, stopped}
use Rattle.handler_vm.specs.Chains.{saved_from}
use Rattle.handler_vm.specs.Inside.{IsInner, IsSound, OnNext, machine_of}
use Rattle.handler_vm.specs.declared.running.Running.{Running}
use Rattle.handler_vm.proofs.Acting.{Kept, inner_keeps}
use Rattle.handler_vm.proofs.Chaining.{keeps_spared, spares_all}
use Rattle.handler_vm.proofs.Stopping.{stop_is, sound_kept}
use Rattle.handler_vm.proofs.running.Running.step.Goals as goal

pub returns-in-Suspend-clause-over : goal.returns-in-Suspend-clause-over
returns-in-Suspend-clause-over c = rw c.in-Suspend.is (c.leave.ensures.stop c.args.unsent.now.sent)

pub returns-in-None-clause-over : goal.returns-in-None-clause-over
returns-in-None-clause-over c =
    let p = c.args.p.now in
    let was = c.args.self.now in
    let store = c.args.conts.now in
    let now : Running = record was { at = was.at + 1; ops = was.ops + 1 } in
    let sound : IsSound p now store = sound_kept p was now store c.requires.sound c.requires.sound.arity refl refl refl refl in
    let m = machine_of p was c.args.unsent.now.sent (saved_from p store was.cont) in
    let none : was.cont ≡ None = ap (λ r. r.cont) (sym c.count-in-Resume.ensures) ∙ c.in-None.is in
    let left : saved_from p store was.cont ≡ [] = ap (saved_from p store) none in
    rw (c.in-Resume.is, c.count-in-Resume.ensures) (
      stopped (counted m) Fine,
      ap (resumed c.args.code.now (counted m)) left,
      stop_is p now c.args.unsent.now.sent store Fine sound,
    )

pub returns-in-None-clause-others : goal.returns-in-None-clause-others
returns-in-None-clause-others c = λ store was s chain. rw c.count-in-Resume.ensures (keeps_spared chain.named s)

pub returns-in-Fail-clause-over : goal.returns-in-Fail-clause-over
returns-in-Fail-clause-over c =
    let p = c.args.p.now in
    let was = c.args.self.now in
    let store = c.args.conts.now in
    let now : Running = record was { at = was.at + 1; ops = was.ops + 1 } in
    let sound : IsSound p now store = sound_kept p was now store c.requires.sound c.requires.sound.arity refl refl refl refl in
    let m = machine_of p was c.args.unsent.now.sent (saved_from p store was.cont) in
    rw (c.in-Fail.is, c.count-in-Fail.ensures) (
      stopped (counted m) (Failed c.in-Fail.number),
      refl,
      stop_is p now c.args.unsent.now.sent store (Failed c.in-Fail.number) sound,
    )

pub returns-in-Fail-clause-others : goal.returns-in-Fail-clause-others
returns-in-Fail-clause-others c = λ store was s chain. rw c.count-in-Fail.ensures (keeps_spared chain.named s)

pub returns-in-Done-clause-over : goal.returns-in-Done-clause-over
returns-in-Done-clause-over c =
    let p = c.args.p.now in
    let was = c.args.self.now in
    let store = c.args.conts.now in
    let now : Running = record was { at = was.at + 1; ops = was.ops + 1 } in
    let sound : IsSound p now store = sound_kept p was now store c.requires.sound c.requires.sound.arity refl refl refl refl in
    let m = machine_of p was c.args.unsent.now.sent (saved_from p store was.cont) in
    rw (c.in-Done.is, c.count-in-Done.ensures) (
      stopped (counted m) Fine,
      refl,
      stop_is p now c.args.unsent.now.sent store Fine sound,
    )

pub returns-in-Done-clause-others : goal.returns-in-Done-clause-others
returns-in-Done-clause-others c = λ store was s chain. rw c.count-in-Done.ensures (keeps_spared chain.named s)

pub work-requires-clause-there : goal.work-requires-clause-there
work-requires-clause-there c = (c.args.code.now, c.requires.there)

pub returns-in_default : goal.returns-in_default
returns-in_default c =
    let p = c.args.p.now in
    let code = c.args.code.now in
    let was = c.args.self.now in
    let now = c.work.new.self in
    let store = c.args.conts.now in
    let sent = c.args.unsent.now.sent in
    let chain = saved_from p store was.cont in
    let m = machine_of p was sent chain in
    let inner : IsInner c.args.op = search rules in
    let does = c.work.ensures.does code sent chain in
    let kept : OnNext (Kept p m) (act p code c.args.op m) = inner_keeps p code c.args.op m inner c.requires.enough
    c.requires.sound.arity c.requires.sound.came in
    let k : OnNext (Kept p m) (Next (machine_of p now sent chain)) = subst (λ (x : Move). OnNext (Kept p m) x) does kept in
    record {
      on = does ∙ ap (λ key. Next (machine_of p now sent (saved_from p store key))) (sym c.work.ensures.cont);
      sound = sound_kept p was now store c.requires.sound k.arity k.came k.words c.work.ensures.cont c.work.ensures.records;
      spares = rw c.work.ensures.cont (spares_all store was.cont);
      over = tt;
      others = tt;
      unsent = λ all. all;
      room = refl;
      block = c.work.ensures.block;
      words = k.words;
    }
