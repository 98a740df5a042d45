use Rattle.std.proofs.Common.{◌≡◌, ◌∙◌, ℕ, sym, ap, subst}
use Rattle.teapot_meaning.specs.declared.state.Here.{Here}
use Rattle.compiled_handlers_tests.specs.Beside.{IsBeside}
use Rattle.compiled_handlers_tests.proofs.beside.turn_here.Goals as goal

pub returns-clause-beside : goal.returns-clause-beside
returns-clause-beside c =
    let p = c.args.p.now in
    let code = c.args.code.now in
    let was = c.args.both.now in
    let now = c.go_on.new.both in
    let m = c.args.m.now in
    let side = c.args.side.now in
    let here : m.block ≡ was.here.block = c.in_ok-_ran.ensures.block in
    let there : IsBeside p code (record { cell = was.cell; blocks = was.blocks; conts = was.conts }) m.block side.cell side.here =
    subst (λ (n : ℕ). IsBeside p code (record { cell = was.cell; blocks = was.blocks; conts = was.conts }) n side.cell
    side.here) (sym here) c.requires.beside in
    let stays = c.in_ok-_ran.ensures.beside side.cell side.here there in
    let goes : IsBeside p code (record { cell = now.cell; blocks = now.blocks; conts = now.conts }) m.block side.cell side.here =
    c.go_on.ensures.beside p m.block side.cell side.here stays.beside in
    let same : now.here.block ≡ m.block = c.in_ok-go_on.ensures.block ∙ ap (λ (h : Here). h.block) c.in_ok-_ran.ensures.same
    ∙ sym here in
    subst (λ (n : ℕ). IsBeside p code (record { cell = now.cell; blocks = now.blocks; conts = now.conts }) n side.cell
    side.here) (sym same) goes
