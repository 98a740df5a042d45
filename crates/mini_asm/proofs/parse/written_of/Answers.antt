use Rattle.std.proofs.Common.{ap, sym, ◌∙◌}
use Rattle.std.proofs.lemmas.List.Elements.{All-push}
use Rattle.mini_asm.specs.Spelling.{form_of}
use Rattle.mini_asm.specs.Assembled.{IsForm}
use Rattle.mini_asm.proofs.Reading.{turn, fault, end}
use Rattle.mini_asm.proofs.parse.written_of.Goals as goal

pub returns-in_default-clause-value : goal.returns-in_default-clause-value
returns-in_default-clause-value c =
    let l = c.line-item.result in
    let none = sym c.in_default.is ∙ c.in_ok-form.ensures.value ∙ ap (form_of c.args.version) c.items.ensures in
    fault c.args.version c.args.lines.now c.loop-line.written.items _ c.loop-line.line-index l c.loop-line-test.true
    c.line-item.is none c.loop-line.invariant.0

pub loop-line-preserved : goal.loop-line-preserved
loop-line-preserved c =
    let l = c.line-item.result in
    let found = sym c.in-Some.is ∙ c.in_ok-form.ensures.value ∙ ap (form_of c.args.version) c.items.ensures in (
      rw c.in_ok-push.ensures.items (turn c.args.version c.args.lines.now c.loop-line.written.items _ c.loop-line.line-index l
          c.in-Some.form c.loop-line-test.true c.line-item.is found c.loop-line.invariant.0),
      rw c.in_ok-push.ensures.items (All-push (λ w. IsForm w.form) c.loop-line.written.items _ c.loop-line.invariant.1
          (rw c.in-Some.is at c.in_ok-form.ensures.valid)),
    )

pub returns-clause-value : goal.returns-clause-value
returns-clause-value c = end c.args.version c.args.lines.now c.loop-line.written.items _ c.loop-line.line-index
    c.loop-line-test.false c.loop-line.invariant.0
