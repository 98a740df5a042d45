use Rattle.std.proofs.Common.{ap, sym, ◌∙◌}
use Rattle.teapot_lines.specs.Exprs.{way, spelled}
use Rattle.teapot_tree.specs.declared.keyword.Keyword.TheVariants as k
use Rattle.teapot_lines.specs.Seen.{Number, Marked}
use Rattle.teapot_print.specs.Printing.{put, put_all, before_two, between_two}
use Rattle.teapot_print.proofs.Puts.{on_ok, spelled-Number, spelled-True, spelled-False, spelled-Empty, spelled-Src}
use Rattle.teapot_print.proofs.Puts.{spelled-SelfNode, spelled-Home, spelled-Var, spelled-One, spelled-Not, spelled-Count}
use Rattle.teapot_print.proofs.Puts.{spelled-Two, one-put, two-put}
use Rattle.teapot_print.proofs.printer.Printer.+expr.Goals as goal

pub returns-in-Number : goal.returns-in-Number
returns-in-Number t c =
    on_ok c.number.result (λ e. e ∙ ap (λ n. put c.args.self.now (Number n)) c.from.ensures
    ∙ sym (ap (put_all c.args.self.now) (spelled-Number c.args.e.now c.in-Number.n c.in-Number.is))) c.number.ensures

pub returns-in-True : goal.returns-in-True
returns-in-True t c = rw (spelled-True c.args.e.now c.in-True.is) c.key.ensures

pub returns-in-False : goal.returns-in-False
returns-in-False t c = rw (spelled-False c.args.e.now c.in-False.is) c.key-in-False.ensures

pub returns-in-Empty : goal.returns-in-Empty
returns-in-Empty t c = rw (spelled-Empty c.args.e.now c.in-Empty.is) c.key-in-Empty.ensures

pub returns-in-Src : goal.returns-in-Src
returns-in-Src t c = rw (spelled-Src c.args.e.now c.in-Src.is) c.key-in-Src.ensures

pub returns-in-SelfNode : goal.returns-in-SelfNode
returns-in-SelfNode t c = rw (spelled-SelfNode c.args.e.now c.in-SelfNode.is) c.key-in-SelfNode.ensures

pub returns-in-Home : goal.returns-in-Home
returns-in-Home t c = rw (spelled-Home c.args.e.now c.in-Home.is) c.key-in-Home.ensures

pub returns-in-Var : goal.returns-in-Var
returns-in-Var t c = rw (spelled-Var c.args.e.now c.in-Var.name c.in-Var.is) c.named.ensures

pub returns-in_ok-expr-in-One : goal.returns-in_ok-expr-in-One
returns-in_ok-expr-in-One t c =
    rw (
      spelled-One c.args.e.now c.in-One.a c.in-One.is,
      one-put k.One
          (spelled c.in-One.a) c.args.self.now c.word_opened.new.self c.expr.new.self c.in_ok-word_opened-in-One.ensures
          (c.in_ok-expr-in-One.ensures ∙ ap (λ x. put_all c.word_opened.new.self (spelled x)) c.get.ensures),
    ) c.mark.ensures

pub returns-in_ok-expr-in-Not : goal.returns-in_ok-expr-in-Not
returns-in_ok-expr-in-Not t c =
    rw (
      spelled-Not c.args.e.now c.in-Not.a c.in-Not.is,
      one-put k.Not
          (spelled c.in-Not.a) c.args.self.now c.word_opened-in-Not.new.self c.expr-in-Not.new.self
          c.in_ok-word_opened-in-Not.ensures (c.in_ok-expr-in-Not.ensures
          ∙ ap (λ x. put_all c.word_opened-in-Not.new.self (spelled x)) c.get-in-Not.ensures),
    ) c.mark-in-Not.ensures

pub returns-in_ok-expr-in-Count : goal.returns-in_ok-expr-in-Count
returns-in_ok-expr-in-Count t c =
    rw (
      spelled-Count c.args.e.now c.in-Count.a c.in-Count.is,
      one-put k.Count (spelled c.in-Count.a) c.args.self.now c.word_opened-in-Count.new.self c.expr-in-Count.new.self
          c.in_ok-word_opened-in-Count.ensures (c.in_ok-expr-in-Count.ensures
          ∙ ap (λ x. put_all c.word_opened-in-Count.new.self (spelled x)) c.get-in-Count.ensures),
    ) c.mark-in-Count.ensures

pub returns-in_ok-expr-in-Two-2 : goal.returns-in_ok-expr-in-Two-2
returns-in_ok-expr-in-Two-2 t c =
    let w = way c.in-Two.op in
    rw (
      spelled-Two c.args.e.now c.in-Two.op c.in-Two.a c.in-Two.b c.in-Two.is,
      two-put w (spelled c.in-Two.a) (spelled c.in-Two.b) c.args.self.now c.before_two.new.self c.expr-in-Two.new.self
          c.between_two.new.self c.expr-in-Two-2.new.self
          (c.in_ok-before_two-in-Two.ensures ∙ ap (λ x. put_all c.args.self.now (before_two x)) c.way.ensures)
          (c.in_ok-expr-in-Two.ensures ∙ ap (λ x. put_all c.before_two.new.self (spelled x)) c.get-in-Two.ensures)
          (c.in_ok-between_two-in-Two.ensures ∙ ap (λ x. put c.expr-in-Two.new.self (Marked (between_two x)))
          c.way-in-Two.ensures)
          (c.in_ok-expr-in-Two-2.ensures ∙ ap (λ x. put_all c.between_two.new.self (spelled x)) c.get-in-Two-2.ensures),
    ) c.mark-in-Two.ensures
