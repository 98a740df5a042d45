-- The text in the making: its bytes, what the next space depends on, and how many Begins are open.
use Rattle.std.specs.Prelude.{ℕ, List, [], ◌∷◌, ◌++◌}
use Rattle.tw_lex.specs.declared.token.Mark.{Mark}
use Rattle.tw_lex.specs.declared.token.Mark.TheVariants as m
use Rattle.teapot_tree.specs.declared.expr.Expr.{Expr}
use Rattle.teapot_lines.specs.declared.form.Form.{Form}
use Rattle.teapot_lines.specs.Exprs.{Way, Infix, Before}
use Rattle.teapot_lines.specs.Seen.{Seen, Key, Marked}
use Rattle.teapot_lines.specs.Spelling.{spelling}
use Rattle.teapot_parse.specs.Trees.{Lines}
use Rattle.teapot_print.specs.declared.exprs.Written.{Written}
use Rattle.teapot_print.specs.declared.exprs.Written.TheVariants as w
use Rattle.teapot_print.specs.declared.printer.Last.TheVariants.{Begin}
use Rattle.teapot_print.specs.declared.printer.Printer.{Printer}
use Rattle.teapot_print.specs.Text.{token_bytes, last_of, gap, spaces, begins_at, begins_behind}

abbrev pub put : Printer → Seen → Printer
put s t = record s { text = s.text ++ gap s.last t ++ token_bytes t; last = last_of t }

abbrev pub put_all : Printer → List Seen → Printer
put_all s [] = s
put_all s (t ∷ ts) = put_all (put s t) ts

-- the indent of a line at which so many Begins are open
abbrev pub begun : Printer → ℕ → Printer
begun s begins = record s { text = s.text ++ spaces begins; last = Begin }

abbrev pub ended : Printer → ℕ → Printer
ended s begins = record { text = s.text ++ 10 ∷ []; last = s.last; begins = begins }

abbrev pub put_line : Printer → Form Expr → Printer
put_line s form = ended (put_all (begun s (begins_at s.begins form)) (spelling form)) (begins_behind s.begins form)

abbrev pub put_lines : Printer → Lines → Printer
put_lines s [] = s
put_lines s (l ∷ ls) = put_lines (put_line s l.1) ls

abbrev pub written_way : Written → Way
written_way (w.Infix mark) = Infix mark
written_way (w.Before key) = Before key

-- what stands before the first of two operands, and between them
abbrev pub before_two : Way → List Seen
before_two (Infix mark) = Marked m.Open ∷ []
before_two (Before key) = Key key ∷ Marked m.Open ∷ []

abbrev pub between_two : Way → Mark
between_two (Infix mark) = mark
between_two (Before key) = m.Comma
