use Rattle.std.proofs.Common.{◌≡◌, ◌+◌, [], length, drop, Ok, arith, ap, subst, refl, sym, ◌∙◌}
use Rattle.std.proofs.lemmas.Result.{err_from_is_err_and}
use Rattle.std.proofs.lemmas.List.{drop_all, take_rest}
use Rattle.tw_base.specs.Answers.{Fails}
use Rattle.tw_lex.specs.Lines.{is_memory, lines_of, line_tokens}
use Rattle.tw_lex.proofs.Splitting.{first_len, first_line, length-first_line, next-fits, length-turn, turn, split-fault, split-end, lexed-fault, lexed-is}
use Rattle.tw_lex.proofs.split.lines.Goals as goal

pub returns-in_err-len : goal.returns-in_err-len
returns-in_err-len c =
    let text = c.args.text.now in
    let p = err_from_is_err_and c.from_residual.result c.from_residual.ensures.1 in
    let e = c.in_err-len.field-0.0 in
    let due = subst (λ rest. Fails is_memory e (line_tokens (c.loop-start.all + 1) c.loop-start.start (first_line rest)))
    (take_rest text c.loop-start.start) c.in_err-len.ensures.tokens in
    rw (p.1, p.2)
    (lexed-fault text e (split-fault text c.loop-start.start c.loop-start-test.true c.loop-start.list.items
    (c.loop-start.all + 1) e _ due c.loop-start.invariant.4))

pub loop-start-preserved : goal.loop-start-preserved
loop-start-preserved c =
    let text = c.args.text.now in
    let start = c.loop-start.start in
    let line = first_line (drop start text) in
    let len = c.in_ok-len.ensures.len ∙ ap first_len (take_rest text start) ∙ sym (length-first_line (drop start text)) in
    let fits = next-fits text start line c.loop-start-test.true refl in
    let count = length-turn text start line c.loop-start-test.true refl in
    let tokens = subst (λ rest. line_tokens (c.loop-start.all + 1) start (first_line rest) ≡ Ok c.add_line_tokens.new.tokens.items) (take_rest text start)
    c.in_ok-len.ensures.tokens in (
      rw len fits,
      rw len (omega arith),
      rw len (omega arith),
      c.in_ok-push_line.ensures.empty,
      rw (len, c.in_ok-push_line.ensures.list) (turn text start line c.loop-start-test.true refl c.loop-start.list.items
          (c.loop-start.all + 1) c.add_line_tokens.new.tokens.items _ tokens c.loop-start.invariant.4),
    )

pub returns : goal.returns
returns c =
    let text = c.args.text.now in
    let start = c.loop-start.start in
    let none : lines_of (drop start text) ≡ [] = ap lines_of (drop_all start text c.loop-start-test.false) in
    rw c.of.ensures (lexed-is text c.loop-start.list.items c.loop-start.all
    (split-end c.loop-start.list.items text (c.loop-start.all + 1) start _ c.loop-start-test.false
    c.loop-start.invariant.4) (omega (arith, ap length none)))
