-- The tree that lines give, from the last line to the first.
use Rattle.std.specs.Prelude.{ℕ, true, false, if◌then◌else◌, List, [], ◌∷◌, map, Option, Some, None}
use Rattle.tw_base.specs.declared.name.Name.{Name}
use Rattle.teapot_tree.specs.declared.expr.Expr.{Expr}
use Rattle.teapot_tree.specs.declared.expr.Expr.TheVariants as e
use Rattle.teapot_tree.specs.declared.protocol.Param.{Param}
use Rattle.teapot_tree.specs.declared.protocol.Trigger.{Trigger}
use Rattle.teapot_tree.specs.declared.protocol.Trigger.TheVariants as t
use Rattle.teapot_tree.specs.declared.stmt.Stmt.{Stmt}
use Rattle.teapot_tree.specs.declared.stmt.Do.{Do}
use Rattle.teapot_tree.specs.declared.stmt.Do.TheVariants as d
use Rattle.teapot_lines.specs.declared.cut.Cut.{Cut}
use Rattle.teapot_lines.specs.declared.cut.Cut.TheVariants.{Deep, Kept}
use Rattle.teapot_lines.specs.declared.form.Answers.{Answers}
use Rattle.teapot_lines.specs.declared.form.Answers.TheVariants as a
use Rattle.teapot_lines.specs.declared.form.Form.{Form}
use Rattle.teapot_lines.specs.declared.form.Form.TheVariants as f
use Rattle.teapot_lines.specs.declared.form.Reach.{Reach}
use Rattle.teapot_lines.specs.declared.form.Reach.TheVariants.{One, All}
use Rattle.teapot_lines.specs.declared.form.Typed.{Typed}
use Rattle.teapot_parse.specs.declared.build.Block.{Block}
use Rattle.teapot_parse.specs.declared.build.Parts.{Parts}
use Rattle.teapot_parse.specs.declared.placed.Placed.{Placed}

-- the tree of an expression that is not too deep
abbrev pub kept : Cut → Expr
kept (Kept n x) = x
kept Deep = e.Empty

abbrev pub param_at : ℕ → Typed → Param
param_at line p = record { name = p.name; ty = p.ty; line = line }

abbrev pub trigger_of : Answers → Trigger
trigger_of a.RdFault = t.RdFault
trigger_of a.WrFault = t.WrFault
trigger_of (a.Named n) = t.Named n

-- ---- blocks, the innermost first

-- the statements of the innermost block
abbrev pub top_of : List Block → List Stmt
top_of [] = []
top_of (b ∷ bs) = b.stmts

abbrev pub below : List Block → List Block
below [] = []
below (b ∷ bs) = bs

-- a statement before those of the innermost block
abbrev pub put_on : ℕ → Do → List Block → List Block
put_on line what [] = record { is_else = false; stmts = record { what = what; line = line } ∷ [] } ∷ []
put_on line what (b ∷ bs) = record { is_else = b.is_else; stmts = record { what = what; line = line } ∷ b.stmts } ∷ bs

-- an If before the statements of the innermost block, which may be those of its Else
abbrev pub if_on : ℕ → Expr → List Stmt → List Block → List Block
if_on line test first [] = put_on line (d.If test first None) []
if_on line test first (b ∷ bs) = if b.is_else then put_on line (d.If test first (Some b.stmts)) bs
    else put_on line (d.If test first None) (b ∷ bs)

abbrev pub else_on : List Block → List Block
else_on [] = []
else_on (b ∷ bs) = record { is_else = true; stmts = b.stmts } ∷ bs

-- ---- lines

abbrev pub no_parts : Parts
no_parts = record { head = None; messages = []; infos = []; starts = []; states = []; handlers = []; locals = []; blocks = [] }

abbrev pub sent : Reach → Expr → Name → List Expr → Do
sent One to name args = d.Send to name args
sent All to name args = d.SendAll to name args

-- what a statement does that holds no other
abbrev pub plain : Form Cut → Option Do
plain (f.Assign n x) = Some (d.Assign n (kept x))
plain (f.Send r x n xs) = Some (sent r (kept x) n (map kept xs))
plain (f.SetTag g) = Some (d.SetTag g)
plain (f.SetState n xs) = Some (d.SetState n (map kept xs))
plain (f.Suspend l n xs p) = Some (d.Suspend l n (map kept xs) p)
plain (f.Resume n) = Some (d.Resume n)
plain (f.Error n) = Some (d.Error n)
plain f.Install = Some d.Install
plain f.Enqueue = Some d.Enqueue
plain f.WakeUp = Some d.WakeUp
plain _ = None

abbrev pub with_plain : ℕ → Option Do → List Block → List Block
with_plain line None bs = bs
with_plain line (Some what) bs = put_on line what bs

-- a line of a body before those that gave these blocks
abbrev pub in_body : ℕ → Form Cut → List Block → List Block
in_body line f.End bs = record { is_else = false; stmts = [] } ∷ bs
in_body line f.Else bs = else_on bs
in_body line (f.If x) bs = if_on line (kept x) (top_of bs) (below bs)
in_body line (f.ForEach n x) bs = put_on line (d.ForEach n (kept x) (top_of bs)) (below bs)
in_body line form bs = with_plain line (plain form) bs

abbrev pub with_handler : ℕ → Trigger → List Name → Parts → Parts
with_handler line on args s = record s {
  handlers = record { on = on; args = args; locals = s.locals; body = top_of s.blocks; line = line } ∷ s.handlers;
  locals = [];
  blocks = below s.blocks;
}

-- a line before those that gave these parts
abbrev pub with_line : ℕ → Form Cut → Parts → Parts
with_line line (f.Protocol n p) s = record s { head = Some (record { name = n; profile = p; line = line }) }
with_line line (f.Message n ys c b) s =
    record s { messages = record { name = n; args = ys; chan = c; carries = b; line = line } ∷ s.messages }
with_line line (f.Info n y) s = record s { infos = record { name = n; ty = y; line = line } ∷ s.infos }
with_line line (f.Start h n g) s = record s { starts = record { home = h; state = n; tag = g; line = line } ∷ s.starts }
with_line line (f.State n ps c) s = record s {
  states = record { name = n; params = map (param_at line) ps; cont = c; handlers = s.handlers; line = line } ∷ s.states;
  handlers = [];
  blocks = below s.blocks;
}
with_line line (f.On w ns) s = with_handler line (trigger_of w) ns s
with_line line f.Default s = with_handler line t.Default [] s
with_line line (f.Local n y) s = record s { locals = record { name = n; ty = y; line = line } ∷ s.locals }
with_line line form s = record s { blocks = in_body line form s.blocks }

-- the parts that the lines give, before those that later lines gave
unfoldable pub built_on : Parts → List Placed → Parts
built_on s [] = s
built_on s (p ∷ ps) = with_line p.line p.form (built_on s ps)

abbrev pub built : List Placed → Parts
built ps = built_on no_parts ps
