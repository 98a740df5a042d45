-- Lines that nest are those of a tree.
use Rattle.std.proofs.Common.{◌≡◌, ℕ, zero, suc, List, [], ◌∷◌, ◌++◌, map, Option, refl, ap, sym, ◌∙◌, append_assoc}
use Rattle.std.specs.List.{flat_map}
use Rattle.tw_base.specs.Lists.{Each}
use Rattle.tw_base.specs.declared.name.Name.{Name}
use Rattle.teapot_tree.specs.declared.expr.Expr.{Expr}
use Rattle.teapot_tree.specs.declared.protocol.Handler.{Handler}
use Rattle.teapot_tree.specs.declared.protocol.MessageDecl.{MessageDecl}
use Rattle.teapot_tree.specs.declared.protocol.Param.{Param}
use Rattle.teapot_tree.specs.declared.protocol.Protocol.{Protocol}
use Rattle.teapot_tree.specs.declared.protocol.Start.{Start}
use Rattle.teapot_tree.specs.declared.protocol.State.{State}
use Rattle.teapot_tree.specs.declared.protocol.Trigger.{Trigger}
use Rattle.teapot_tree.specs.declared.protocol.Trigger.TheVariants as t
use Rattle.teapot_tree.specs.Bodies as bodies
use Rattle.teapot_tree.specs.Bodies.{Simple, assign, send, send_all, set_tag, set_state, suspend, resume, install, enqueue}
use Rattle.teapot_tree.specs.Bodies.{wake_up, error, body_of, tree_of}
use Rattle.teapot_tree.specs.Grammar.{NoArgsOf, NoDefaultArgs, OnOneLine}
use Rattle.teapot_tree.specs.Parts.{eaches}
use Rattle.teapot_tree.proofs.Iso.{body-tree}
use Rattle.teapot_lines.specs.declared.form.Answers.TheVariants as a
use Rattle.teapot_lines.specs.declared.form.Form.{Form}
use Rattle.teapot_lines.specs.declared.form.Form.TheVariants as f
use Rattle.teapot_lines.specs.declared.form.Reach.TheVariants as r
use Rattle.teapot_lines.specs.declared.form.Typed.{Typed}
use Rattle.teapot_lines.specs.Spelling.{cut_form}
use Rattle.teapot_parse.specs.declared.judge.Kind.{Kind}
use Rattle.teapot_parse.specs.declared.judge.Kind.TheVariants as k
use Rattle.teapot_parse.specs.Building.{param_at}
use Rattle.teapot_parse.specs.Given.{erased_at, erased}
use Rattle.teapot_parse.specs.Nesting.{kind_of}
use Rattle.teapot_parse.specs.Shapes.{Body, done, plain, branch, branches, loop, Handlers, States, handler, state, times}
use Rattle.teapot_parse.specs.Shapes.{of_body, of_handlers, of_states, IsNested}
use Rattle.teapot_parse.specs.Trees.{Lines, simple_form, body_lines, handler_form, handler_lines, local_line, state_lines}
use Rattle.teapot_parse.specs.Trees.{message_line, info_line, start_line, lines_of, typed_of}
use Rattle.teapot_parse.proofs.Erasing.{kind_at}

-- ---- what forms of a kind are

plain-is : (form : Form Expr) → kind_of (cut_form form) ≡ k.Plain →
    (s : Simple) × (form ≡ simple_form s) × ((line : ℕ) → erased_at line form ≡ (line, simple_form s))
plain-is (f.Assign n e) h = (assign n e, refl, λ line. refl)
plain-is (f.Send r.One e n xs) h = (send e n xs, refl, λ line. refl)
plain-is (f.Send r.All e n xs) h = (send_all e n xs, refl, λ line. refl)
plain-is (f.SetTag g) h = (set_tag g, refl, λ line. refl)
plain-is (f.SetState n xs) h = (set_state n xs, refl, λ line. refl)
plain-is (f.Suspend l n xs p) h = (suspend l n xs p, refl, λ line. refl)
plain-is (f.Resume n) h = (resume n, refl, λ line. refl)
plain-is (f.Error n) h = (error n, refl, λ line. refl)
plain-is f.Install h = (install, refl, λ line. refl)
plain-is f.Enqueue h = (enqueue, refl, λ line. refl)
plain-is f.WakeUp h = (wake_up, refl, λ line. refl)
plain-is _ h = absurd cc

begin-is : (line : ℕ) (form : Form Expr) → kind_of (cut_form form) ≡ k.Begin → erased_at line form ≡ (0, f.Begin)
begin-is line f.Begin h = refl
begin-is line (f.Send r.One e n xs) h = absurd cc
begin-is line _ h = absurd cc

end-is : (line : ℕ) (form : Form Expr) → kind_of (cut_form form) ≡ k.End → erased_at line form ≡ (0, f.End)
end-is line f.End h = refl
end-is line _ h = absurd cc

else-is : (line : ℕ) (form : Form Expr) → kind_of (cut_form form) ≡ k.Else → erased_at line form ≡ (0, f.Else)
else-is line f.Else h = refl
else-is line _ h = absurd cc

if-is : (line : ℕ) (form : Form Expr) → kind_of (cut_form form) ≡ k.If → (e : Expr) × (erased_at line form ≡ (line, f.If e))
if-is line (f.If e) h = (e, refl)
if-is line _ h = absurd cc

loop-is : (line : ℕ) (form : Form Expr) → kind_of (cut_form form) ≡ k.ForEach →
    (n : Name) × (e : Expr) × (erased_at line form ≡ (line, f.ForEach n e))
loop-is line (f.ForEach n e) h = (n, e, refl)
loop-is line _ h = absurd cc

local-is : (line : ℕ) (form : Form Expr) → kind_of (cut_form form) ≡ k.Local → (p : Param) × (erased_at line form ≡ local_line p)
local-is line (f.Local n y) h = (record { name = n; ty = y; line = line }, refl)
local-is line _ h = absurd cc

info-is : (line : ℕ) (form : Form Expr) → kind_of (cut_form form) ≡ k.Info → (p : Param) × (erased_at line form ≡ info_line p)
info-is line (f.Info n y) h = (record { name = n; ty = y; line = line }, refl)
info-is line _ h = absurd cc

message-is : (line : ℕ) (form : Form Expr) → kind_of (cut_form form) ≡ k.Message →
    (m : MessageDecl) × (erased_at line form ≡ message_line m)
message-is line (f.Message n ys c b) h = (record { name = n; args = ys; chan = c; carries = b; line = line }, refl)
message-is line _ h = absurd cc

start-is : (line : ℕ) (form : Form Expr) → kind_of (cut_form form) ≡ k.Start → (s : Start) × (erased_at line form ≡ start_line s)
start-is line (f.Start b n g) h = (record { home = b; state = n; tag = g; line = line }, refl)
start-is line _ h = absurd cc

handler-is : (line : ℕ) (form : Form Expr) → kind_of (cut_form form) ≡ k.Handler →
    (on : Trigger) × (args : List Name) × (NoArgsOf on args) × (erased_at line form ≡ (line, handler_form on args))
handler-is line (f.On a.RdFault ns) h = (t.RdFault, ns, tt, refl)
handler-is line (f.On a.WrFault ns) h = (t.WrFault, ns, tt, refl)
handler-is line (f.On (a.Named n) ns) h = (t.Named n, ns, tt, refl)
handler-is line f.Default h = (t.Default, [], refl, refl)
handler-is line _ h = absurd cc

state-is : (line : ℕ) (form : Form Expr) → kind_of (cut_form form) ≡ k.State →
    (n : Name) × (ps : List Typed) × (c : Option Name) × (erased_at line form ≡ (line, f.State n ps c))
state-is line (f.State n ps c) h = (n, ps, c, refl)
state-is line _ h = absurd cc

protocol-is : (line : ℕ) (form : Form Expr) → kind_of (cut_form form) ≡ k.Protocol →
    (n : Name) × (q : ℕ) × (erased_at line form ≡ (line, f.Protocol n q))
protocol-is line (f.Protocol n q) h = (n, q, refl)
protocol-is line _ h = absurd cc

-- ---- lines by their kinds

abbrev ks_of : Lines → List Kind
ks_of qs = map kind_at qs

-- the first line and those behind it
record First (x : Kind) (ks : List Kind) (qs : Lines) : Type 0 where
  pub line : ℕ
  pub form : Form Expr
  pub rest : Lines
  pub whole : qs ≡ (line, form) ∷ rest
  pub kind : kind_of (cut_form form) ≡ x
  pub kinds : ks_of rest ≡ ks

first_of : (x : Kind) (ks : List Kind) (qs : Lines) → ks_of qs ≡ x ∷ ks → First x ks qs
first_of x ks [] e = absurd cc
first_of x ks (q ∷ qs) e = record { line = q.0; form = q.1; rest = qs; whole = refl; kind = cc; kinds = cc }

-- the first line, as the tree has it, and those behind it
line-on : (x : Kind) (ks : List Kind) (qs : Lines) (q : First x ks qs) (to : ℕ × Form Expr) (more : Lines) →
    erased_at q.line q.form ≡ to → map erased q.rest ≡ more → map erased qs ≡ to ∷ more
line-on x ks qs q to more e d = ap (map erased) q.whole ∙ ap (λ z. z ∷ map erased q.rest) e ∙ ap (λ ls. to ∷ ls) d

-- a body, its End and the lines behind it
record BodyAt (ks : List Kind) (qs : Lines) : Type 0 where
  pub body : bodies.Body
  pub rest : Lines
  pub none : eaches body ≡ 0
  pub lines : map erased qs ≡ body_lines body ++ (0, f.End) ∷ map erased rest
  pub kinds : ks_of rest ≡ ks

-- a block and the body behind it
block-lines : (x b : bodies.Body) (rest between : Lines) (ls : Lines) → ls ≡ body_lines x ++ (0, f.End) ∷ map erased between →
    map erased between ≡ body_lines b ++ (0, f.End) ∷ map erased rest
    → ls ≡ body_lines x ++ (0, f.End) ∷ body_lines b ++ (0, f.End) ∷ map erased rest
block-lines x b rest between ls e d = e ∙ ap (λ zs. body_lines x ++ (0, f.End) ∷ zs) d
    ∙ sym (append_assoc (body_lines x) ((0, f.End) ∷ body_lines b) ((0, f.End) ∷ map erased rest))

body-at : (b : Body) (ks : List Kind) (qs : Lines) → ks_of qs ≡ of_body b ++ k.End ∷ ks → BodyAt ks qs
body-at done ks qs e =
    let q = first_of k.End ks qs e in
    record {
      body = bodies.done;
      rest = q.rest;
      none = refl;
      lines = line-on k.End ks qs q (0, f.End) (map erased q.rest) (end-is q.line q.form q.kind) refl;
      kinds = q.kinds;
    }
body-at (plain b) ks qs e =
    let q = first_of k.Plain (of_body b ++ k.End ∷ ks) qs e in
    let s = plain-is q.form q.kind in
    let more = body-at b ks q.rest q.kinds in
    record {
      body = bodies.plain q.line s.0 more.body;
      rest = more.rest;
      none = more.none;
      lines = line-on k.Plain (of_body b ++ k.End ∷ ks) qs q (q.line, simple_form s.0) _ (s.2 q.line) more.lines;
      kinds =
          more.kinds;
    }
body-at (branch x b) ks qs e =
    let q = first_of k.If (k.Begin ∷ (of_body x ++ k.End ∷ of_body b) ++ k.End ∷ ks) qs e in
    let i = if-is q.line q.form q.kind in
    let p = first_of k.Begin (of_body x ++ k.End ∷ of_body b ++ k.End ∷ ks) q.rest q.kinds in
    let inner = body-at x (of_body b ++ k.End ∷ ks) p.rest (p.kinds
    ∙ append_assoc (of_body x) (k.End ∷ of_body b) (k.End ∷ ks)) in
    let more = body-at b ks inner.rest inner.kinds in
    record {
      body = bodies.branch q.line i.0 inner.body more.body;
      rest = more.rest;
      none = rw (inner.none, more.none) refl;
      lines = line-on k.If (k.Begin ∷ (of_body x ++ k.End ∷ of_body b) ++ k.End ∷ ks) qs q (q.line, f.If i.0) _ i.1
          (line-on k.Begin (of_body x ++ k.End ∷ of_body b ++ k.End ∷ ks) q.rest p (0, f.Begin) _
          (begin-is p.line p.form p.kind) (block-lines inner.body more.body more.rest inner.rest
          (map erased p.rest) inner.lines more.lines));
      kinds = more.kinds;
    }
body-at (branches x y b) ks qs e =
    let q = first_of k.If (k.Begin ∷ (of_body x ++ k.End ∷ k.Else ∷ k.Begin ∷ (of_body y ++ k.End ∷ of_body b)) ++ k.End ∷ ks)
    qs e in
    let i = if-is q.line q.form q.kind in
    let p = first_of k.Begin (of_body x ++ k.End ∷ k.Else ∷ k.Begin ∷ (of_body y ++ k.End ∷ of_body b) ++ k.End ∷ ks) q.rest
    q.kinds in
    let inner = body-at x (k.Else ∷ k.Begin ∷ (of_body y ++ k.End ∷ of_body b) ++ k.End ∷ ks) p.rest
    (p.kinds ∙ append_assoc (of_body x) (k.End ∷ k.Else ∷ k.Begin ∷ (of_body y ++ k.End ∷ of_body b)) (k.End ∷ ks)) in
    let l = first_of k.Else (k.Begin ∷ (of_body y ++ k.End ∷ of_body b) ++ k.End ∷ ks) inner.rest inner.kinds in
    let g = first_of k.Begin (of_body y ++ k.End ∷ of_body b ++ k.End ∷ ks) l.rest l.kinds in
    let second = body-at y (of_body b ++ k.End ∷ ks) g.rest (g.kinds
    ∙ append_assoc (of_body y) (k.End ∷ of_body b) (k.End ∷ ks)) in
    let more = body-at b ks second.rest second.kinds in
    record {
      body = bodies.branches q.line i.0 inner.body second.body more.body;
      rest = more.rest;
      none = rw (inner.none, second.none, more.none) refl;
      lines = line-on k.If (k.Begin ∷ (of_body x ++ k.End ∷ k.Else ∷ k.Begin ∷ (of_body y ++ k.End ∷ of_body b)) ++ k.End ∷ ks)
          qs q (q.line, f.If i.0) _ i.1
          (line-on k.Begin (of_body x ++ k.End ∷ k.Else ∷ k.Begin ∷ (of_body y ++ k.End ∷ of_body b) ++ k.End ∷ ks) q.rest p
          (0, f.Begin) _ (begin-is p.line p.form p.kind)
          (inner.lines ∙ ap (λ ls. body_lines inner.body ++ (0, f.End) ∷ ls)
          (line-on k.Else (k.Begin ∷ (of_body y ++ k.End ∷ of_body b) ++ k.End ∷ ks) inner.rest l (0, f.Else) _
          (else-is l.line l.form l.kind)
          (line-on k.Begin (of_body y ++ k.End ∷ of_body b ++ k.End ∷ ks) l.rest g (0, f.Begin) _
          (begin-is g.line g.form g.kind) (block-lines second.body more.body more.rest second.rest
          (map erased g.rest) second.lines more.lines)))
          ∙ sym (append_assoc (body_lines inner.body) ((0, f.End) ∷ (0, f.Else) ∷ (0, f.Begin) ∷
          (body_lines second.body ++ (0, f.End) ∷ body_lines more.body)) ((0, f.End) ∷ map erased more.rest))));
      kinds = more.kinds;
    }
body-at (loop x b) ks qs e =
    let q = first_of k.ForEach (k.Begin ∷ (of_body x ++ k.End ∷ of_body b) ++ k.End ∷ ks) qs e in
    let i = loop-is q.line q.form q.kind in
    let p = first_of k.Begin (of_body x ++ k.End ∷ of_body b ++ k.End ∷ ks) q.rest q.kinds in
    let inner = body-at x (of_body b ++ k.End ∷ ks) p.rest (p.kinds
    ∙ append_assoc (of_body x) (k.End ∷ of_body b) (k.End ∷ ks)) in
    let more = body-at b ks inner.rest inner.kinds in
    record {
      body = bodies.loop q.line i.0 i.1 inner.body more.body;
      rest = more.rest;
      none = rw (inner.none, more.none) refl;
      lines = line-on k.ForEach (k.Begin ∷ (of_body x ++ k.End ∷ of_body b) ++ k.End ∷ ks) qs q (q.line, f.ForEach i.0 i.1) _ i.2
          (line-on k.Begin (of_body x ++ k.End ∷ of_body b ++ k.End ∷ ks) q.rest p (0, f.Begin) _
          (begin-is p.line p.form p.kind) (block-lines inner.body more.body more.rest inner.rest
          (map erased p.rest) inner.lines more.lines));
      kinds = more.kinds;
    }

-- ---- declarations, handlers, states

items-at : {X : Type 0} (kind : Kind) (line_of : X → ℕ × Form Expr) →
    ((line : ℕ) (form : Form Expr) → kind_of (cut_form form) ≡ kind → (x : X) × (erased_at line form ≡ line_of x))
    → (n : ℕ) (ks : List Kind) (qs : Lines) → ks_of qs ≡ times n kind ++ ks →
    (xs : List X) × (rest : Lines) × (map erased qs ≡ map line_of xs ++ map erased rest) × (ks_of rest ≡ ks)
items-at kind line_of is zero ks qs e = ([], qs, refl, e)
items-at kind line_of is (suc n) ks qs e =
    let q = first_of kind (times n kind ++ ks) qs e in
    let x = is q.line q.form q.kind in
    let more = items-at kind line_of is n ks q.rest q.kinds in (
      x.0 ∷ more.0,
      more.1,
      line-on kind (times n kind ++ ks) qs q (line_of x.0)
          (map line_of more.0 ++ map erased more.1) x.1 more.2,
      more.3,
    )

-- what holds of a handler that was read
abbrev pub IsRead : Handler → Type 0
IsRead h = NoDefaultArgs h × (eaches (body_of h.body) ≡ 0)

-- handlers, the End of their state and the lines behind it
record HandlersAt (ks : List Kind) (qs : Lines) : Type 0 where
  pub handlers : List Handler
  pub rest : Lines
  pub read : Each IsRead handlers
  pub lines : map erased qs ≡ flat_map handler_lines handlers ++ (0, f.End) ∷ map erased rest
  pub kinds : ks_of rest ≡ ks

-- the locals and the body of a handler, and the handlers behind it
handler-lines : (ls : List Param) (b : bodies.Body) (hs : List Handler) (all front between rest : Lines) →
    all ≡ map local_line ls ++ front → front ≡ body_lines b ++ (0, f.End) ∷ between →
    between ≡ flat_map handler_lines hs ++ (0, f.End) ∷ rest
    → all ≡ map local_line ls ++ (body_lines (body_of (tree_of b)) ++ (0, f.End) ∷ []) ++ flat_map handler_lines hs
    ++ (0, f.End) ∷ rest
handler-lines ls b hs all front between rest e1 e2 e3 = rw (e1, e2, e3, body-tree b) (simp append_assoc refl)

handlers-at : (hs : Handlers) (ks : List Kind) (qs : Lines) → ks_of qs ≡ of_handlers hs ++ k.End ∷ ks → HandlersAt ks qs
handlers-at Handlers.none ks qs e =
    let q = first_of k.End ks qs e in
    record {
      handlers = [];
      rest = q.rest;
      read = tt;
      lines = line-on k.End ks qs q (0, f.End) (map erased q.rest)
          (end-is q.line q.form q.kind) refl;
      kinds = q.kinds;
    }
handlers-at (handler n b hs) ks qs e =
    let q = first_of k.Handler (k.Begin ∷ (times n k.Local ++ (of_body b ++ k.End ∷ of_handlers hs)) ++ k.End ∷ ks) qs e in
    let i = handler-is q.line q.form q.kind in
    let p = first_of k.Begin (times n k.Local ++ (of_body b ++ k.End ∷ of_handlers hs) ++ k.End ∷ ks) q.rest q.kinds in
    let behind = of_body b ++ k.End ∷ (of_handlers hs ++ k.End ∷ ks) in
    let regroup : times n k.Local ++ (of_body b ++ k.End ∷ of_handlers hs) ++ k.End ∷ ks ≡ times n k.Local ++ behind =
    simp append_assoc refl in
    let locals = items-at k.Local local_line local-is n behind p.rest (p.kinds ∙ regroup) in
    let inner = body-at b (of_handlers hs ++ k.End ∷ ks) locals.1 locals.3 in
    let more = handlers-at hs ks inner.rest inner.kinds in
    let h : Handler = record { on = i.0; args = i.1; locals = locals.0; body = tree_of inner.body; line = q.line } in
    record {
      handlers = h ∷ more.handlers;
      rest = more.rest;
      read = ((i.2, ap eaches (body-tree inner.body) ∙ inner.none), more.read);
      lines = line-on k.Handler (k.Begin ∷ (times n k.Local ++ (of_body b ++ k.End ∷ of_handlers hs)) ++ k.End ∷ ks) qs q
          (q.line, handler_form i.0 i.1) _ i.3
          (line-on k.Begin (times n k.Local ++ (of_body b ++ k.End ∷ of_handlers hs) ++ k.End ∷ ks) q.rest p (0, f.Begin) _
          (begin-is p.line p.form p.kind)
          (handler-lines locals.0 inner.body more.handlers (map erased p.rest) (map erased locals.1) (map erased inner.rest)
          (map erased more.rest) locals.2 inner.lines more.lines));
      kinds = more.kinds;
    }

typed-back : (line : ℕ) (ps : List Typed) → map typed_of (map (param_at line) ps) ≡ ps
typed-back line [] = refl
typed-back line (p ∷ ps) = ap (λ xs. p ∷ xs) (typed-back line ps)

one-line : (line : ℕ) (ps : List Typed) → Each (λ (a : Param). a.line ≡ line) (map (param_at line) ps)
one-line line [] = tt
one-line line (p ∷ ps) = (refl, one-line line ps)

-- what holds of a state that was read
abbrev pub IsReadState : State → Type 0
IsReadState s = OnOneLine s × Each IsRead s.handlers

states-at : (ss : States) (qs : Lines) → ks_of qs ≡ of_states ss →
    (xs : List State) × (map erased qs ≡ flat_map state_lines xs) × Each IsReadState xs
states-at States.none [] e = ([], refl, tt)
states-at States.none (q ∷ qs) e = absurd cc
states-at (state hs ss) qs e =
    let q = first_of k.State (k.Begin ∷ (of_handlers hs ++ k.End ∷ of_states ss)) qs e in
    let i = state-is q.line q.form q.kind in
    let p = first_of k.Begin (of_handlers hs ++ k.End ∷ of_states ss) q.rest q.kinds in
    let inner = handlers-at hs (of_states ss) p.rest p.kinds in
    let more = states-at ss inner.rest inner.kinds in
    let s : State = record {
      name = i.0;
      params = map (param_at q.line) i.1;
      cont = i.2;
      handlers = inner.handlers;
      line = q.line;
    } in (
      s ∷ more.0,
      line-on k.State (k.Begin ∷ (of_handlers hs ++ k.End ∷ of_states ss)) qs q
          (q.line, f.State i.0 (map typed_of (map (param_at q.line) i.1)) i.2) _
          (i.3 ∙ ap (λ ps. (q.line, f.State i.0 ps i.2)) (sym (typed-back q.line i.1)))
          (line-on k.Begin (of_handlers hs ++ k.End ∷ of_states ss) q.rest p (0, f.Begin) _ (begin-is p.line p.form p.kind)
          (inner.lines ∙ ap (λ ls. flat_map handler_lines inner.handlers ++ (0, f.End) ∷ ls) more.1
          ∙ sym (append_assoc (flat_map handler_lines inner.handlers) ((0, f.End) ∷ []) (flat_map state_lines more.0)))),
      ((one-line q.line i.1, inner.read), more.2),
    )

pub tree-found : (qs : Lines) → IsNested (map kind_at qs) → (p : Protocol) × (map erased qs ≡ lines_of p)
    × Each IsReadState p.states
tree-found qs (sh, e) =
    let states = of_states sh.states in
    let q = first_of k.Protocol (times sh.messages k.Message ++ (times sh.infos k.Info ++ (times sh.starts k.Start ++ states)))
    qs e in
    let i = protocol-is q.line q.form q.kind in
    let ms = items-at k.Message message_line message-is sh.messages
    (times sh.infos k.Info ++ (times sh.starts k.Start ++ states)) q.rest q.kinds in
    let xs = items-at k.Info info_line info-is sh.infos (times sh.starts k.Start ++ states) ms.1 ms.3 in
    let gs = items-at k.Start start_line start-is sh.starts states xs.1 xs.3 in
    let ss = states-at sh.states gs.1 gs.3 in (
      record { name = i.0; profile = i.1; line = q.line; messages = ms.0; infos = xs.0; starts = gs.0; states = ss.0 },
      line-on k.Protocol (times sh.messages k.Message ++ (times sh.infos k.Info ++ (times sh.starts k.Start ++ states))) qs q
          (q.line, f.Protocol i.0 i.1) _ i.2
          (ms.2 ∙ ap (λ ls. map message_line ms.0 ++ ls) (xs.2
          ∙ ap (λ ls. map info_line xs.0 ++ ls) (gs.2 ∙ ap (λ ls. map start_line gs.0 ++ ls) ss.1))),
      ss.2,
    )
