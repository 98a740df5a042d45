-- The lines of a tree build the tree.
use Rattle.std.proofs.Common.{◌≡◌, ℕ, ◌≤◌, true, false, List, [], ◌∷◌, ◌++◌, map, Some, None, Ok, refl, ap, sym, ◌∙◌}
use Rattle.std.proofs.Common.{append-nil, arith}
use Rattle.std.specs.List.{flat_map}
use Rattle.std.proofs.lemmas.List.{map-append}
use Rattle.tw_base.specs.Lists.{Each}
use Rattle.tw_base.specs.declared.name.Name.{Name}
use Rattle.teapot_tree.specs.declared.expr.Expr.{Expr}
use Rattle.teapot_tree.specs.declared.protocol.Handler.{Handler}
use Rattle.teapot_tree.specs.declared.protocol.Param.{Param}
use Rattle.teapot_tree.specs.declared.protocol.MessageDecl.{MessageDecl}
use Rattle.teapot_tree.specs.declared.protocol.Protocol.{Protocol}
use Rattle.teapot_tree.specs.declared.protocol.Start.{Start}
use Rattle.teapot_tree.specs.declared.protocol.State.{State}
use Rattle.teapot_tree.specs.declared.protocol.Trigger.{Trigger}
use Rattle.teapot_tree.specs.declared.protocol.Trigger.TheVariants as t
use Rattle.teapot_tree.specs.declared.stmt.Do.{Do}
use Rattle.teapot_tree.specs.declared.stmt.Do.TheVariants as d
use Rattle.teapot_tree.specs.declared.stmt.Stmt.{Stmt}
use Rattle.teapot_tree.specs.Bodies.{Simple, assign, send, send_all, set_tag, set_state, suspend, resume, install, enqueue}
use Rattle.teapot_tree.specs.Bodies.{wake_up, error, Body, done, plain, branch, branches, loop, each, body_of, stmt, do_of}
use Rattle.teapot_tree.specs.Bodies.{tree_of}
use Rattle.teapot_tree.specs.Grammar.{NoArgsOf, NoDefaultArgs}
use Rattle.teapot_tree.specs.Parts.{depth, eaches, exprs_in, simple_exprs, exprs_of}
use Rattle.teapot_tree.proofs.Iso.{tree-body}
use Rattle.teapot_lines.specs.declared.form.Form.{Form}
use Rattle.teapot_lines.specs.declared.form.Form.TheVariants as f
use Rattle.teapot_lines.specs.Cuts.{cut}
use Rattle.teapot_lines.specs.Spelling.{cut_form}
use Rattle.teapot_lines.proofs.Depths.{cut-within}
use Rattle.teapot_parse.specs.declared.build.Block.{Block}
use Rattle.teapot_parse.specs.declared.build.Parts.{Parts}
use Rattle.teapot_parse.specs.declared.placed.Placed.{Placed}
use Rattle.teapot_parse.specs.Building.{kept, param_at, no_parts, built, built_on, with_handler, with_line}
use Rattle.teapot_parse.specs.Trees.{Lines, simple_form, body_lines, handler_form, handler_lines, local_line, state_lines}
use Rattle.teapot_parse.specs.Trees.{message_line, info_line, start_line, lines_of, typed_of}
use Rattle.teapot_parse.specs.Parsing.{whole}

-- a line, as it is kept while it is read
abbrev pub cut_line : ℕ × Form Expr → Placed
cut_line q = record { line = q.0; form = cut_form q.1 }

abbrev pub cut_lines : Lines → List Placed
cut_lines qs = map cut_line qs

abbrev pub IsShallow : Expr → Type 0
IsShallow e = depth e ≤ 16

pub kept-cut : (e : Expr) → IsShallow e → kept (cut e) ≡ e
kept-cut e le = ap kept ((cut-within e).0 le)

pub kept-cuts : (xs : List Expr) → Each IsShallow xs → map kept (map cut xs) ≡ xs
kept-cuts [] h = refl
kept-cuts (x ∷ xs) (h, hs) = ap (λ y. y ∷ map kept (map cut xs)) (kept-cut x h) ∙ ap (λ ys. x ∷ ys) (kept-cuts xs hs)

pub built-append : (s : Parts) (ps qs : List Placed) → built_on s (ps ++ qs) ≡ built_on (built_on s qs) ps
unfolding built_on
built-append s [] qs = refl
built-append s (p ∷ ps) qs = ap (with_line p.line p.form) (built-append s ps qs)

abbrev pub block : List Stmt → Block
block ss = record { is_else = false; stmts = ss }

-- the parts, with these blocks
abbrev pub at_blocks : Parts → List Block → Parts
at_blocks s bs = record s { blocks = bs }

-- a statement before those of the innermost block
abbrev onto : Parts → List Stmt → List Block → ℕ → Do → Parts
onto s ss bs line what = at_blocks s (block (record { what = what; line = line } ∷ ss) ∷ bs)

simple-line : (line : ℕ) (x : Simple) (s : Parts) (ss : List Stmt) (bs : List Block) → Each IsShallow (simple_exprs x)
    → with_line line (cut_form (simple_form x)) (at_blocks s (block ss ∷ bs))
    ≡ at_blocks s (block (stmt line (do_of x) ∷ ss) ∷ bs)
simple-line line (assign n e) s ss bs h = ap (onto s ss bs line) (ap (d.Assign n) (kept-cut e h.0) ∙ sym (d.rolls-Assign n e))
simple-line line (send e n xs) s ss bs h = ap (onto s ss bs line)
    (ap (λ y. d.Send y n (map kept (map cut xs))) (kept-cut e h.0) ∙ ap (d.Send e n) (kept-cuts xs h.1)
    ∙ sym (d.rolls-Send e n xs))
simple-line line (send_all e n xs) s ss bs h = ap (onto s ss bs line)
    (ap (λ y. d.SendAll y n (map kept (map cut xs))) (kept-cut e h.0) ∙ ap (d.SendAll e n) (kept-cuts xs h.1)
    ∙ sym (d.rolls-SendAll e n xs))
simple-line line (set_tag g) s ss bs h = ap (onto s ss bs line) (sym (d.rolls-SetTag g))
simple-line line (set_state n xs) s ss bs h = ap (onto s ss bs line)
    (ap (d.SetState n) (kept-cuts xs h) ∙ sym (d.rolls-SetState n xs))
simple-line line (suspend l n xs p) s ss bs h = ap (onto s ss bs line)
    (ap (λ ys. d.Suspend l n ys p) (kept-cuts xs h) ∙ sym (d.rolls-Suspend l n xs p))
simple-line line (resume n) s ss bs h = ap (onto s ss bs line) (sym (d.rolls-Resume n))
simple-line line install s ss bs h = ap (onto s ss bs line) (sym d.rolls-Install)
simple-line line enqueue s ss bs h = ap (onto s ss bs line) (sym d.rolls-Enqueue)
simple-line line wake_up s ss bs h = ap (onto s ss bs line) (sym d.rolls-WakeUp)
simple-line line (error n) s ss bs h = ap (onto s ss bs line) (sym (d.rolls-Error n))

pub each-parts : {X : Type 0} (P : X → Type 0) (xs ys : List X) → Each P (xs ++ ys) → Each P xs × Each P ys
each-parts P [] ys h = (tt, h)
each-parts P (x ∷ xs) ys (h, hs) = let r = each-parts P xs ys hs in ((h, r.0), r.1)

abbrev Builds : Body → Type 0
Builds b = (s : Parts) (ss : List Stmt) (bs : List Block) → built_on (at_blocks s (block ss ∷ bs)) (cut_lines (body_lines b))
    ≡ at_blocks s (block (tree_of b ++ ss) ∷ bs)

-- the lines of a block, its End, and the lines behind it
in_block : (x : Body) → Builds x → (s t : Parts) (bs : List Block) (rest : Lines) →
    built_on s (cut_lines rest) ≡ at_blocks t bs → built_on s (cut_lines (body_lines x ++ (0, f.End) ∷ rest))
    ≡ at_blocks t (block (tree_of x) ∷ bs)
unfolding built_on
in_block x h s t bs rest e =
    let parts : cut_lines (body_lines x ++ (0, f.End) ∷ rest) ≡ cut_lines (body_lines x) ++ cut_lines ((0, f.End) ∷ rest) =
    map-append cut_line (body_lines x) ((0, f.End) ∷ rest) in
    ap (built_on s) parts ∙ built-append s (cut_lines (body_lines x)) (cut_lines ((0, f.End) ∷ rest))
    ∙ ap (λ z. built_on (with_line 0 f.End z) (cut_lines (body_lines x))) e ∙ h t [] bs
    ∙ ap (λ ys. at_blocks t (block ys ∷ bs)) (append-nil (tree_of x))

built-body : (b : Body) → eaches b ≡ 0 → Each IsShallow (exprs_in b) → Builds b
unfolding built_on
built-body done n h s ss bs = refl
built-body (plain line x b) n h s ss bs =
    let parts = each-parts IsShallow (simple_exprs x) (exprs_in b) h in
    ap (with_line line (cut_form (simple_form x))) (built-body b n parts.1 s ss bs)
    ∙ simple-line line x s (tree_of b ++ ss) bs parts.0
built-body (branch line e x b) n h s ss bs =
    let parts = each-parts IsShallow (exprs_in x) (exprs_in b) h.1 in
    let nx : eaches x ≡ 0 = omega arith in
    let nb : eaches b ≡ 0 = omega arith in
    let inner = in_block x (built-body x nx parts.0) (at_blocks s (block ss ∷ bs)) s (block (tree_of b ++ ss) ∷ bs)
    (body_lines b) (built-body b nb parts.1 s ss bs) in
    ap (with_line line (f.If (cut e))) inner ∙ ap (onto s (tree_of b ++ ss) bs line)
    (ap (λ y. d.If y (tree_of x) None) (kept-cut e h.0) ∙ sym (d.rolls-If e (tree_of x) None))
built-body (branches line e x y b) n h s ss bs =
    let parts = each-parts IsShallow (exprs_in x) (exprs_in y ++ exprs_in b) h.1 in
    let more = each-parts IsShallow (exprs_in y) (exprs_in b) parts.1 in
    let nx : eaches x ≡ 0 = omega arith in
    let ny : eaches y ≡ 0 = omega arith in
    let nb : eaches b ≡ 0 = omega arith in
    let second = in_block y (built-body y ny more.0) (at_blocks s (block ss ∷ bs)) s (block (tree_of b ++ ss) ∷ bs)
    (body_lines b) (built-body b nb more.1 s ss bs) in
    let inner = in_block x (built-body x nx parts.0) (at_blocks s (block ss ∷ bs)) s
    (record { is_else = true; stmts = tree_of y } ∷ block (tree_of b ++ ss) ∷ bs)
    ((0, f.Else) ∷ (0, f.Begin) ∷ (body_lines y ++ (0, f.End) ∷ body_lines b)) (ap (with_line 0 f.Else) second) in
    ap (with_line line (f.If (cut e))) inner
    ∙ ap (onto s (tree_of b ++ ss) bs line) (ap (λ z. d.If z (tree_of x) (Some (tree_of y))) (kept-cut e h.0)
    ∙ sym (d.rolls-If e (tree_of x) (Some (tree_of y))))
built-body (loop line v e x b) n h s ss bs =
    let parts = each-parts IsShallow (exprs_in x) (exprs_in b) h.1 in
    let nx : eaches x ≡ 0 = omega arith in
    let nb : eaches b ≡ 0 = omega arith in
    let inner = in_block x (built-body x nx parts.0) (at_blocks s (block ss ∷ bs)) s (block (tree_of b ++ ss) ∷ bs)
    (body_lines b) (built-body b nb parts.1 s ss bs) in
    ap (with_line line (f.ForEach v (cut e))) inner ∙ ap (onto s (tree_of b ++ ss) bs line)
    (ap (λ y. d.ForEach v y (tree_of x)) (kept-cut e h.0) ∙ sym (d.rolls-ForEach v e (tree_of x)))
built-body (each line v z x b) n h s ss bs = absurd (omega arith)

-- ---- handlers and states

built-locals : (ls : List Param) (s : Parts) → built_on s (cut_lines (map local_line ls)) ≡ record s { locals = ls ++ s.locals }
unfolding built_on
built-locals [] s = refl
built-locals (l ∷ ls) s = ap (with_line l.line (f.Local l.name l.ty)) (built-locals ls s)

handler-line : (line : ℕ) (on : Trigger) (args : List Name) (s : Parts) → NoArgsOf on args →
    with_line line (cut_form (handler_form on args)) s ≡ with_handler line on args s
handler-line line t.RdFault args s h = refl
handler-line line t.WrFault args s h = refl
handler-line line (t.Named n) args s h = refl
handler-line line t.Default args s h = ap (λ ns. with_handler line t.Default ns s) (sym h)

-- what a handler is to be like
abbrev pub IsPlain : Handler → Type 0
IsPlain h = NoDefaultArgs h × (eaches (body_of h.body) ≡ 0) × Each IsShallow (exprs_of h)

abbrev pub no_locals : Parts → Parts
no_locals s = record s { locals = [] }

built-handler : (h : Handler) → IsPlain h → (s : Parts) → built_on (no_locals s) (cut_lines (handler_lines h))
    ≡ record s { handlers = h ∷ s.handlers; locals = [] }
unfolding built_on
built-handler h (args, none, shallow) s =
    let b = body_of h.body in
    let body = in_block b (built-body b none shallow) (no_locals s) (no_locals s) s.blocks [] refl in
    let parts : cut_lines (map local_line h.locals ++ (body_lines b ++ (0, f.End) ∷ [])) ≡ cut_lines (map local_line h.locals)
    ++ cut_lines (body_lines b ++ (0, f.End) ∷ []) = map-append cut_line (map local_line h.locals)
    (body_lines b ++ (0, f.End) ∷ []) in
    let inner : built_on (no_locals s) (cut_lines (map local_line h.locals ++ (body_lines b ++ (0, f.End) ∷ [])))
    ≡ record s { locals = h.locals; blocks = block h.body ∷ s.blocks } =
    ap (built_on (no_locals s)) parts ∙ built-append (no_locals s) (cut_lines (map local_line h.locals))
    (cut_lines (body_lines b ++ (0, f.End) ∷ []))
    ∙ ap (λ z. built_on z (cut_lines (map local_line h.locals))) body
    ∙ built-locals h.locals (at_blocks (no_locals s) (block (tree_of b) ∷ s.blocks))
    ∙ ap (λ ls. record s { locals = ls; blocks = block (tree_of b) ∷ s.blocks }) (append-nil h.locals)
    ∙ ap (λ ss. record s { locals = h.locals; blocks = block ss ∷ s.blocks }) (tree-body h.body) in
    ap (with_line h.line (cut_form (handler_form h.on h.args))) inner
    ∙ handler-line h.line h.on h.args (record s { locals = h.locals; blocks = block h.body ∷ s.blocks }) args

built-handlers : (hs : List Handler) → Each IsPlain hs → (s : Parts) →
    built_on (no_locals s) (cut_lines (flat_map handler_lines hs)) ≡ record s { handlers = hs ++ s.handlers; locals = [] }
unfolding built_on
built-handlers [] all s = refl
built-handlers (h ∷ hs) (one, all) s =
    ap (built_on (no_locals s)) (map-append cut_line (handler_lines h) (flat_map handler_lines hs))
    ∙ built-append (no_locals s) (cut_lines (handler_lines h)) (cut_lines (flat_map handler_lines hs))
    ∙ ap (λ z. built_on z (cut_lines (handler_lines h))) (built-handlers hs all s)
    ∙ built-handler h one (record s { handlers = hs ++ s.handlers })

params-back : (line : ℕ) (ps : List Param) → Each (λ (a : Param). a.line ≡ line) ps → map (param_at line) (map typed_of ps) ≡ ps
params-back line [] h = refl
params-back line (a ∷ more) (e, es) =
    ap (λ l. record { name = a.name; ty = a.ty; line = l } ∷ map (param_at line) (map typed_of more)) (sym e)
    ∙ ap (λ bs. a ∷ bs) (params-back line more es)

-- what a state is to be like
abbrev pub IsPlainState : State → Type 0
IsPlainState s = Each (λ (a : Param). a.line ≡ s.line) s.params × Each IsPlain s.handlers

-- no handler or local is without its line
abbrev pub settled : Parts → Parts
settled s = record s { handlers = []; locals = [] }

built-state : (x : State) → IsPlainState x → (s : Parts) → built_on (settled s) (cut_lines (state_lines x))
    ≡ record s { states = x ∷ s.states; handlers = []; locals = [] }
unfolding built_on
built-state x (lines, plains) s =
    let hs = x.handlers in
    let opened = record s { handlers = []; locals = []; blocks = block [] ∷ s.blocks } in
    let inner : built_on (settled s) (cut_lines (flat_map handler_lines hs ++ (0, f.End) ∷ []))
    ≡ record opened { handlers = hs } =
    ap (built_on (settled s)) (map-append cut_line (flat_map handler_lines hs) ((0, f.End) ∷ []))
    ∙ built-append (settled s) (cut_lines (flat_map handler_lines hs)) (cut_lines ((0, f.End) ∷ []))
    ∙ built-handlers hs plains opened ∙ ap (λ gs. record opened { handlers = gs }) (append-nil hs) in
    ap (with_line x.line (cut_form (f.State x.name (map typed_of x.params) x.cont))) inner
    ∙ ap (λ ps. record s {
      states = record { name = x.name; params = ps; cont = x.cont; handlers = hs; line = x.line } ∷
          s.states;
      handlers = [];
      locals = [];
    }) (params-back x.line x.params lines)

built-states : (xs : List State) → Each IsPlainState xs → (s : Parts) →
    built_on (settled s) (cut_lines (flat_map state_lines xs))
    ≡ record s { states = xs ++ s.states; handlers = []; locals = [] }
unfolding built_on
built-states [] all s = refl
built-states (x ∷ xs) (one, all) s =
    ap (built_on (settled s)) (map-append cut_line (state_lines x) (flat_map state_lines xs))
    ∙ built-append (settled s) (cut_lines (state_lines x)) (cut_lines (flat_map state_lines xs))
    ∙ ap (λ z. built_on z (cut_lines (state_lines x))) (built-states xs all s)
    ∙ built-state x one (record s { states = xs ++ s.states })

built-messages : (ms : List MessageDecl) (s : Parts) → built_on s (cut_lines (map message_line ms))
    ≡ record s { messages = ms ++ s.messages }
unfolding built_on
built-messages [] s = refl
built-messages (m ∷ ms) s = ap (with_line m.line (f.Message m.name m.args m.chan m.carries)) (built-messages ms s)

built-infos : (xs : List Param) (s : Parts) → built_on s (cut_lines (map info_line xs)) ≡ record s { infos = xs ++ s.infos }
unfolding built_on
built-infos [] s = refl
built-infos (x ∷ xs) s = ap (with_line x.line (f.Info x.name x.ty)) (built-infos xs s)

built-starts : (gs : List Start) (s : Parts) → built_on s (cut_lines (map start_line gs)) ≡ record s { starts = gs ++ s.starts }
unfolding built_on
built-starts [] s = refl
built-starts (g ∷ gs) s = ap (with_line g.line (f.Start g.home g.state g.tag)) (built-starts gs s)

pub built-protocol : (p : Protocol) → Each IsPlainState p.states → (after : ℕ) →
    whole (built (cut_lines (lines_of p))) after ≡ Ok p
unfolding built_on
built-protocol p plains after =
    let s3 = built-states p.states plains no_parts in
    let lines3 = flat_map state_lines p.states in
    let lines2 = map start_line p.starts ++ lines3 in
    let lines1 = map info_line p.infos ++ lines2 in
    let e2 : built (cut_lines lines2) ≡ record no_parts { states = p.states; starts = p.starts } =
    ap built (map-append cut_line (map start_line p.starts) lines3)
    ∙ built-append no_parts (cut_lines (map start_line p.starts)) (cut_lines lines3)
    ∙ ap (λ z. built_on z (cut_lines (map start_line p.starts))) s3
    ∙ built-starts p.starts (record no_parts { states = p.states ++ [] })
    ∙ ap (λ xs. record no_parts { states = xs; starts = p.starts ++ [] }) (append-nil p.states)
    ∙ ap (λ xs. record no_parts { states = p.states; starts = xs }) (append-nil p.starts) in
    let e1 : built (cut_lines lines1) ≡ record no_parts { states = p.states; starts = p.starts; infos = p.infos } =
    ap built (map-append cut_line (map info_line p.infos) lines2)
    ∙ built-append no_parts (cut_lines (map info_line p.infos)) (cut_lines lines2)
    ∙ ap (λ z. built_on z (cut_lines (map info_line p.infos))) e2
    ∙ built-infos p.infos (record no_parts { states = p.states; starts = p.starts })
    ∙ ap (λ xs. record no_parts { states = p.states; starts = p.starts; infos = xs }) (append-nil p.infos) in
    let e0 : built (cut_lines (map message_line p.messages ++ lines1))
    ≡ record no_parts { states = p.states; starts = p.starts; infos = p.infos; messages = p.messages } =
    ap built (map-append cut_line (map message_line p.messages) lines1)
    ∙ built-append no_parts (cut_lines (map message_line p.messages)) (cut_lines lines1)
    ∙ ap (λ z. built_on z (cut_lines (map message_line p.messages))) e1
    ∙ built-messages p.messages (record no_parts { states = p.states; starts = p.starts; infos = p.infos })
    ∙ ap (λ xs. record no_parts { states = p.states; starts = p.starts; infos = p.infos; messages = xs })
    (append-nil p.messages) in
    ap (λ z. whole (with_line p.line (f.Protocol p.name p.profile) z) after) e0
