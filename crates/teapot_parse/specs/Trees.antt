-- The lines of a tree: each form with the number of its line. Begin, End and Else, of whose lines no part of the tree
-- speaks, have 0.
use Rattle.std.specs.Prelude.{ℕ, List, [], ◌∷◌, ◌++◌, map}
use Rattle.std.specs.List.{flat_map}
use Rattle.tw_base.specs.declared.name.Name.{Name}
use Rattle.teapot_tree.specs.declared.expr.Expr.{Expr}
use Rattle.teapot_tree.specs.declared.protocol.Handler.{Handler}
use Rattle.teapot_tree.specs.declared.protocol.MessageDecl.{MessageDecl}
use Rattle.teapot_tree.specs.declared.protocol.Param.{Param}
use Rattle.teapot_tree.specs.declared.protocol.Protocol.{Protocol}
use Rattle.teapot_tree.specs.declared.protocol.Start.{Start}
use Rattle.teapot_tree.specs.declared.protocol.State.{State}
use Rattle.teapot_tree.specs.declared.protocol.Trigger.{Trigger}
use Rattle.teapot_tree.specs.declared.protocol.Trigger.TheVariants as t
use Rattle.teapot_tree.specs.Bodies.{Simple, assign, send, send_all, set_tag, set_state, suspend, resume, install, enqueue}
use Rattle.teapot_tree.specs.Bodies.{wake_up, error, Body, done, plain, branch, branches, loop, each, body_of}
use Rattle.teapot_lines.specs.declared.form.Answers.TheVariants as a
use Rattle.teapot_lines.specs.declared.form.Form.{Form}
use Rattle.teapot_lines.specs.declared.form.Form.TheVariants as f
use Rattle.teapot_lines.specs.declared.form.Reach.TheVariants.{One, All}
use Rattle.teapot_lines.specs.declared.form.Typed.{Typed}

abbrev pub Lines : Type 0
Lines = List (ℕ × Form Expr)

abbrev pub simple_form : Simple → Form Expr
simple_form (assign n e) = f.Assign n e
simple_form (send e n xs) = f.Send One e n xs
simple_form (send_all e n xs) = f.Send All e n xs
simple_form (set_tag g) = f.SetTag g
simple_form (set_state n xs) = f.SetState n xs
simple_form (suspend l n xs p) = f.Suspend l n xs p
simple_form (resume n) = f.Resume n
simple_form install = f.Install
simple_form enqueue = f.Enqueue
simple_form wake_up = f.WakeUp
simple_form (error n) = f.Error n

-- a loop on its way stands in no text
abbrev pub body_lines : Body → Lines
body_lines done = []
body_lines (plain line s b) = (line, simple_form s) ∷ body_lines b
body_lines (branch line e x b) = (line, f.If e) ∷ (0, f.Begin) ∷ (body_lines x ++ (0, f.End) ∷ body_lines b)
body_lines (branches line e x y b) =
    (line, f.If e) ∷ (0, f.Begin) ∷ (body_lines x ++ (0, f.End) ∷ (0, f.Else) ∷ (0, f.Begin) ∷
    (body_lines y ++ (0, f.End) ∷ body_lines b))
body_lines (loop line n e x b) = (line, f.ForEach n e) ∷ (0, f.Begin) ∷ (body_lines x ++ (0, f.End) ∷ body_lines b)
body_lines (each line n s x b) = body_lines b

abbrev pub typed_of : Param → Typed
typed_of p = record { name = p.name; ty = p.ty }

abbrev pub handler_form : Trigger → List Name → Form Expr
handler_form t.RdFault args = f.On a.RdFault args
handler_form t.WrFault args = f.On a.WrFault args
handler_form (t.Named n) args = f.On (a.Named n) args
handler_form t.Default args = f.Default

abbrev pub local_line : Param → ℕ × Form Expr
local_line p = (p.line, f.Local p.name p.ty)

abbrev pub handler_lines : Handler → Lines
handler_lines h = (h.line, handler_form h.on h.args) ∷ (0, f.Begin) ∷
    (map local_line h.locals ++ (body_lines (body_of h.body) ++ (0, f.End) ∷ []))

abbrev pub state_lines : State → Lines
state_lines s = (s.line, f.State s.name (map typed_of s.params) s.cont) ∷ (0, f.Begin) ∷
    (flat_map handler_lines s.handlers ++ (0, f.End) ∷ [])

abbrev pub message_line : MessageDecl → ℕ × Form Expr
message_line m = (m.line, f.Message m.name m.args m.chan m.carries)

abbrev pub info_line : Param → ℕ × Form Expr
info_line p = (p.line, f.Info p.name p.ty)

abbrev pub start_line : Start → ℕ × Form Expr
start_line s = (s.line, f.Start s.home s.state s.tag)

abbrev pub lines_of : Protocol → Lines
lines_of p =
    (p.line, f.Protocol p.name p.profile) ∷ (map message_line p.messages
    ++ (map info_line p.infos ++ (map start_line p.starts ++ flat_map state_lines p.states)))
