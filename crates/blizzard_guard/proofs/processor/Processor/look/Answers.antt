use Rattle.std.proofs.Common.{◌≡◌, ◌+◌, ◌*◌, ◌<◌, ◌^◌, slice_get, subst, sym, ap, ◌∙◌, arith}
use Rattle.tw_base.specs.Shape.{Sizes}
use Rattle.mini_asm.specs.Machine.{asks, next_of}
use Rattle.mini_asm.specs.declared.cpu.Next.{Next}
use Rattle.blizzard_guard.specs.declared.processor.Look.TheVariants.{Refused, Goes}
use Rattle.blizzard_guard.specs.Guarding.{plain_of, plain_place}
use Rattle.blizzard_guard.specs.Running.{OnProgram, LookedAt, instr_here}
use Rattle.blizzard_guard.proofs.Standing.{standing}
use Rattle.blizzard_guard.proofs.Finishing.{room}
use Rattle.blizzard_guard.proofs.Looking.{look_plain, look_hit, look_miss, registers_at, registers_behind, base_below}
use Rattle.blizzard_guard.proofs.processor.Processor.look.Goals as goal

pub bounds-self-inside-base : goal.bounds-self-inside-base
bounds-self-inside-base c =
    let g = c.self.inside.guarded in
    let cpu = c.self.inside.cpu in
    base_below (plain_of g) (plain_place g cpu.place) g.ops cpu.place c.in-Some.store c.in-Some.base c.in-Some.offset
    c.self.invariant.valid (standing g cpu c.self.invariant)
    (sym c.check_at.ensures ∙ c.in-Some.is)

pub overflow_add-place : goal.overflow_add-place
overflow_add-place c =
    let place = c.self.inside.cpu.place in
    let r : place + 2 < 2 ^ 32 = room c.self.inside.guarded c.self.inside.cpu c.self.invariant in
    omega arith

pub asks_at-requires-clause-registers : goal.asks_at-requires-clause-registers
asks_at-requires-clause-registers c =
    let g = c.self.inside.guarded in
    let cpu = c.self.inside.cpu in
    registers_behind (plain_of g) (plain_place g cpu.place) g.ops cpu.place c.in-Some.store c.in-Some.base c.in-Some.offset
    c.self.invariant.valid (standing g cpu c.self.invariant)
    (sym c.check_at.ensures ∙ c.in-Some.is)

pub asks_at-requires-in-None-clause-registers : goal.asks_at-requires-in-None-clause-registers
asks_at-requires-in-None-clause-registers c =
    let g = c.self.inside.guarded in
    let cpu = c.self.inside.cpu in
    registers_at (plain_of g) (plain_place g cpu.place) g.ops cpu.place c.self.invariant.valid (standing g cpu c.self.invariant)

pub returns-in-Some-refused : goal.returns-in-Some-refused
returns-in-Some-refused c =
    let g = c.self.inside.guarded in
    let cpu = c.self.inside.cpu in
    let m = c.args.blocks.now in
    let no = rw c.in-Some-refused.is at c.refused.ensures in
    subst (λ (v : OnProgram). LookedAt (next_of v.program v.cpu (m.shape.words * m.shape.blocks)) m
    (Refused c.in-Some.store c.in-Some-refused.address)) c.self.view_is
    (look_miss (plain_of g) (plain_place g cpu.place) g.ops cpu.place cpu.regs m c.in-Some.store c.in-Some.base
    c.in-Some.offset c.in-Some-refused.address (standing g cpu c.self.invariant)
    (sym c.check_at.ensures ∙ c.in-Some.is) no.0 no.1)

pub returns-in-None-refused : goal.returns-in-None-refused
returns-in-None-refused c =
    let g = c.self.inside.guarded in
    let cpu = c.self.inside.cpu in
    let m = c.args.blocks.now in
    let size : c.from-size.result ≡ m.shape.words * m.shape.blocks = c.from-size.ensures ∙ c.size.ensures.value
    ∙ ap (λ (s : Sizes). s.words * s.blocks) c.shape.ensures.value in
    let asked : c.asks_at.result ≡ asks (instr_here (slice_get g.ops (cpu.place + 1))) cpu.regs
    (m.shape.words * m.shape.blocks) =
    c.asks_at.ensures ∙ ap (asks (instr_here (slice_get g.ops (cpu.place + 1))) cpu.regs) size in
    subst (λ (v : OnProgram). LookedAt (next_of v.program v.cpu (m.shape.words * m.shape.blocks)) m (Goes c.asks_at.result))
    c.self.view_is
    (subst (λ (n : Next). LookedAt (asks (slice_get (plain_of g) (plain_place g cpu.place)) cpu.regs
    (m.shape.words * m.shape.blocks)) m (Goes n)) (sym asked)
    (look_hit (plain_of g) (plain_place g cpu.place) g.ops cpu.place cpu.regs m c.in-Some.store c.in-Some.base
    c.in-Some.offset (standing g cpu c.self.invariant)
    (sym c.check_at.ensures ∙ c.in-Some.is) (rw c.in-None-refused.is at c.refused.ensures)))

pub returns-in-None : goal.returns-in-None
returns-in-None c =
    let g = c.self.inside.guarded in
    let cpu = c.self.inside.cpu in
    let m = c.args.blocks.now in
    let size : c.from-size.result ≡ m.shape.words * m.shape.blocks = c.from-size.ensures ∙ c.size.ensures.value
    ∙ ap (λ (s : Sizes). s.words * s.blocks) c.shape.ensures.value in
    let asked : c.asks_at-in-None.result ≡ asks (instr_here (slice_get g.ops cpu.place)) cpu.regs
    (m.shape.words * m.shape.blocks) =
    c.asks_at-in-None.ensures ∙ ap (asks (instr_here (slice_get g.ops cpu.place)) cpu.regs) size in
    subst (λ (v : OnProgram). LookedAt (next_of v.program v.cpu (m.shape.words * m.shape.blocks)) m
    (Goes c.asks_at-in-None.result)) c.self.view_is
    (subst (λ (n : Next). LookedAt (asks (slice_get (plain_of g) (plain_place g cpu.place)) cpu.regs
    (m.shape.words * m.shape.blocks)) m (Goes n)) (sym asked)
    (look_plain (plain_of g) (plain_place g cpu.place) g.ops cpu.place cpu.regs m (m.shape.words * m.shape.blocks)
    (standing g cpu c.self.invariant) (sym c.check_at.ensures ∙ c.in-None.is)))
