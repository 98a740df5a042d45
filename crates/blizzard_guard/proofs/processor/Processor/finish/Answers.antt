use Rattle.std.proofs.Common.{◌≡◌, ◌+◌, ◌<◌, ◌≤◌, ◌^◌, slice_get, subst, sym, ◌∙◌, arith}
use Rattle.mini_asm.specs.Machine.{finish_of}
use Rattle.mini_asm.specs.declared.cpu.Cpu.{Cpu}
use Rattle.blizzard_guard.specs.Guarding.{plain_of, plain_place}
use Rattle.blizzard_guard.specs.Running.{OnProgram, IsOnGuarded, on_plain, instr_place}
use Rattle.blizzard_guard.proofs.Standing.{standing}
use Rattle.blizzard_guard.proofs.Finishing.{found, room, behind_le, registers_found, stays, does, at_end}
use Rattle.blizzard_guard.proofs.processor.Processor.finish.Goals as goal

pub instr_place-place-requires : goal.instr_place-place-requires
instr_place-place-requires c =
    let place = c.self.inside.cpu.place in
    let r : place + 2 < 2 ^ 32 = room c.self.inside.guarded c.self.inside.cpu c.self.invariant in
    omega arith

pub complete-requires-clause-room : goal.complete-requires-clause-room
complete-requires-clause-room c =
    let place = c.self.inside.cpu.place in
    let op = slice_get c.self.inside.guarded.ops place in
    let r : place + 2 < 2 ^ 32 = room c.self.inside.guarded c.self.inside.cpu c.self.invariant in
    let b : instr_place op place ≤ place + 1 = behind_le op place in
    omega (arith, c.instr_place-place.ensures)

pub complete-requires-clause-registers : goal.complete-requires-clause-registers
complete-requires-clause-registers c =
    let g = c.self.inside.guarded in
    let cpu = c.self.inside.cpu in
    let here = found (plain_of g) (plain_place g cpu.place) g.ops cpu.place c.instr_place-place.result c.in-Some.instr
    c.self.invariant.there (standing g cpu c.self.invariant)
    c.instr_place-place.ensures (sym c.instr_at.ensures ∙ c.in-Some.is) in
    registers_found (plain_of g) (plain_place g cpu.place) c.instr_place-place.result c.in-Some.instr c.self.invariant.valid here

pub invariant_of-self : goal.invariant_of-self
invariant_of-self c =
    let g = c.self.inside.guarded in
    let cpu = c.self.inside.cpu in
    let here = found (plain_of g) (plain_place g cpu.place) g.ops cpu.place c.instr_place-place.result c.in-Some.instr
    c.self.invariant.there (standing g cpu c.self.invariant)
    c.instr_place-place.ensures (sym c.instr_at.ensures ∙ c.in-Some.is) in
    subst (IsOnGuarded g) (sym c.complete.ensures) (stays g cpu c.instr_place-place.result c.args.loaded c.in-Some.instr
    c.self.invariant here)

pub returns-in-Some-clause-cpu : goal.returns-in-Some-clause-cpu
returns-in-Some-clause-cpu c =
    let g = c.self.inside.guarded in
    let cpu = c.self.inside.cpu in
    let here = found (plain_of g) (plain_place g cpu.place) g.ops cpu.place c.instr_place-place.result c.in-Some.instr
    c.self.invariant.there (standing g cpu c.self.invariant)
    c.instr_place-place.ensures (sym c.instr_at.ensures ∙ c.in-Some.is) in
    subst (λ (v : OnProgram). (on_plain g c.complete.new.self).cpu ≡ finish_of v.program v.cpu c.args.loaded) c.self.view_is
    (subst (λ (after : Cpu). (on_plain g after).cpu ≡ finish_of (plain_of g) (on_plain g cpu).cpu c.args.loaded)
    (sym c.complete.ensures)
    (does g cpu c.instr_place-place.result c.args.loaded c.in-Some.instr c.self.invariant here))

pub returns-in_default-clause-cpu : goal.returns-in_default-clause-cpu
returns-in_default-clause-cpu c =
    let g = c.self.inside.guarded in
    let cpu = c.self.inside.cpu in
    subst (λ (v : OnProgram). v.cpu ≡ finish_of v.program v.cpu c.args.loaded) c.self.view_is
    (sym (at_end (plain_of g) (plain_place g cpu.place) g.ops cpu.place c.instr_place-place.result (on_plain g cpu).cpu
    c.args.loaded (standing g cpu c.self.invariant)
    c.instr_place-place.ensures (sym c.instr_at.ensures ∙ c.in_default.is)))
