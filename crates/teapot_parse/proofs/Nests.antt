-- The lines of a tree nest.
use Rattle.std.proofs.Common.{◌≡◌, ℕ, ◌+◌, List, [], ◌∷◌, ◌++◌, map, length, drop, refl, ap, sym, ◌∙◌, subst, append_assoc}
use Rattle.std.specs.List.{flat_map}
use Rattle.std.proofs.lemmas.List.{map-append, take-append-drop}
use Rattle.teapot_tree.specs.declared.protocol.Handler.{Handler}
use Rattle.teapot_tree.specs.declared.protocol.MessageDecl.{MessageDecl}
use Rattle.teapot_tree.specs.declared.protocol.Param.{Param}
use Rattle.teapot_tree.specs.declared.protocol.Protocol.{Protocol}
use Rattle.teapot_tree.specs.declared.protocol.Start.{Start}
use Rattle.teapot_tree.specs.declared.protocol.State.{State}
use Rattle.teapot_tree.specs.declared.protocol.Trigger.{Trigger}
use Rattle.teapot_tree.specs.declared.protocol.Trigger.TheVariants as t
use Rattle.teapot_tree.specs.Bodies as bodies
use Rattle.teapot_tree.specs.Bodies.{Simple, assign, send, send_all, set_tag, set_state, suspend, resume, install, enqueue}
use Rattle.teapot_tree.specs.Bodies.{wake_up, error, body_of}
use Rattle.tw_base.specs.declared.name.Name.{Name}
use Rattle.teapot_lines.specs.declared.form.Form.TheVariants as f
use Rattle.teapot_parse.specs.declared.judge.Judged.{Judged}
use Rattle.teapot_parse.specs.declared.judge.Judged.TheVariants.{Nested, Bad, Missing}
use Rattle.teapot_parse.specs.declared.judge.Kind.{Kind}
use Rattle.teapot_parse.specs.declared.judge.Kind.TheVariants as k
use Rattle.teapot_parse.specs.Laws.{Judges}
use Rattle.teapot_parse.specs.Nesting.{judged}
use Rattle.teapot_parse.specs.Shapes.{Body, done, plain, branch, branches, loop, Handlers, States, handler, state, times}
use Rattle.teapot_parse.specs.Shapes.{of_body, of_handlers, of_states, IsNested}
use Rattle.teapot_parse.specs.Trees.{Lines, simple_form, body_lines, handler_form, handler_lines, local_line, state_lines}
use Rattle.teapot_parse.specs.Trees.{message_line, info_line, start_line, lines_of}
use Rattle.teapot_parse.proofs.Erasing.{kind_at}
use Rattle.teapot_parse.proofs.Judging.{judges-is}

abbrev shape_of : bodies.Body → Body
shape_of bodies.done = done
shape_of (bodies.plain line s b) = plain (shape_of b)
shape_of (bodies.branch line e x b) = branch (shape_of x) (shape_of b)
shape_of (bodies.branches line e x y b) = branches (shape_of x) (shape_of y) (shape_of b)
shape_of (bodies.loop line n e x b) = loop (shape_of x) (shape_of b)
shape_of (bodies.each line n s x b) = shape_of b

simple-kind : (line : ℕ) (s : Simple) → kind_at (line, simple_form s) ≡ k.Plain
simple-kind line (assign n e) = refl
simple-kind line (send e n xs) = refl
simple-kind line (send_all e n xs) = refl
simple-kind line (set_tag g) = refl
simple-kind line (set_state n xs) = refl
simple-kind line (suspend l n xs p) = refl
simple-kind line (resume n) = refl
simple-kind line install = refl
simple-kind line enqueue = refl
simple-kind line wake_up = refl
simple-kind line (error n) = refl

abbrev ks_of : Lines → List Kind
ks_of qs = map kind_at qs

-- the kinds of a block, its End, and what is behind it
block-kinds : (x : bodies.Body) (qs : Lines) (b : Body) (ks : List Kind) → ks_of (body_lines x) ≡ of_body b → ks_of qs ≡ ks →
    ks_of (body_lines x ++ (0, f.End) ∷ qs) ≡ of_body b ++ k.End ∷ ks
block-kinds x qs b ks e d = map-append kind_at (body_lines x) ((0, f.End) ∷ qs) ∙ rw (e, d) refl

body-kinds : (b : bodies.Body) → ks_of (body_lines b) ≡ of_body (shape_of b)
body-kinds bodies.done = refl
body-kinds (bodies.plain line s b) = ap (λ x. x ∷ ks_of (body_lines b)) (simple-kind line s)
    ∙ ap (λ ks. k.Plain ∷ ks) (body-kinds b)
body-kinds (bodies.branch line e x b) = ap (λ ks. k.If ∷ k.Begin ∷ ks)
    (block-kinds x (body_lines b) (shape_of x) (of_body (shape_of b)) (body-kinds x) (body-kinds b))
body-kinds (bodies.branches line e x y b) =
    let second = block-kinds y (body_lines b) (shape_of y) (of_body (shape_of b)) (body-kinds y) (body-kinds b) in
    ap (λ ks. k.If ∷ k.Begin ∷ ks) (block-kinds x ((0, f.Else) ∷ (0, f.Begin) ∷ (body_lines y ++ (0, f.End) ∷ body_lines b))
    (shape_of x) (k.Else ∷ k.Begin ∷ (of_body (shape_of y) ++ k.End ∷ of_body (shape_of b))) (body-kinds x)
    (ap (λ ks. k.Else ∷ k.Begin ∷ ks) second))
body-kinds (bodies.loop line n e x b) = ap (λ ks. k.ForEach ∷ k.Begin ∷ ks)
    (block-kinds x (body_lines b) (shape_of x) (of_body (shape_of b)) (body-kinds x) (body-kinds b))
body-kinds (bodies.each line n s x b) = body-kinds b

handler-kind : (line : ℕ) (on : Trigger) (args : List Name) → kind_at (line, handler_form on args) ≡ k.Handler
handler-kind line t.RdFault args = refl
handler-kind line t.WrFault args = refl
handler-kind line (t.Named n) args = refl
handler-kind line t.Default args = refl

locals-kinds : (ls : List Param) → ks_of (map local_line ls) ≡ times (length ls) k.Local
locals-kinds [] = refl
locals-kinds (l ∷ ls) = ap (λ ks. k.Local ∷ ks) (locals-kinds ls)

abbrev handlers_shape : List Handler → Handlers
handlers_shape [] = Handlers.none
handlers_shape (h ∷ hs) = handler (length h.locals) (shape_of (body_of h.body)) (handlers_shape hs)

handlers-kinds : (hs : List Handler) → ks_of (flat_map handler_lines hs) ≡ of_handlers (handlers_shape hs)
handlers-kinds [] = refl
handlers-kinds (h ∷ hs) =
    let b = body_of h.body in
    let rest = flat_map handler_lines hs in
    let regroup : handler_lines h ++ rest ≡ (h.line, handler_form h.on h.args) ∷ (0, f.Begin) ∷
    (map local_line h.locals ++ (body_lines b ++ (0, f.End) ∷ rest)) = simp append_assoc refl in
    ap ks_of regroup ∙ ap (λ x. x ∷ k.Begin ∷ ks_of (map local_line h.locals ++ (body_lines b ++ (0, f.End) ∷ rest)))
    (handler-kind h.line h.on h.args)
    ∙ ap (λ ks. k.Handler ∷ k.Begin ∷ ks) (map-append kind_at (map local_line h.locals) (body_lines b ++ (0, f.End) ∷ rest)
    ∙ rw (
      locals-kinds h.locals,
      block-kinds b rest (shape_of b) (of_handlers (handlers_shape hs)) (body-kinds b)
          (handlers-kinds hs),
    ) refl)

abbrev states_shape : List State → States
states_shape [] = States.none
states_shape (s ∷ ss) = state (handlers_shape s.handlers) (states_shape ss)

states-kinds : (ss : List State) → ks_of (flat_map state_lines ss) ≡ of_states (states_shape ss)
states-kinds [] = refl
states-kinds (s ∷ ss) =
    let rest = flat_map state_lines ss in
    let regroup : flat_map handler_lines s.handlers ++ (0, f.End) ∷ [] ++ rest ≡ flat_map handler_lines s.handlers
    ++ (0, f.End) ∷ rest = append_assoc (flat_map handler_lines s.handlers) ((0, f.End) ∷ []) rest in
    ap (λ qs. k.State ∷ k.Begin ∷ ks_of qs) regroup
    ∙ ap (λ ks. k.State ∷ k.Begin ∷ ks) (map-append kind_at (flat_map handler_lines s.handlers) ((0, f.End) ∷ rest)
    ∙ rw (handlers-kinds s.handlers, states-kinds ss) refl)

messages-kinds : (ms : List MessageDecl) → ks_of (map message_line ms) ≡ times (length ms) k.Message
messages-kinds [] = refl
messages-kinds (m ∷ ms) = ap (λ ks. k.Message ∷ ks) (messages-kinds ms)

infos-kinds : (xs : List Param) → ks_of (map info_line xs) ≡ times (length xs) k.Info
infos-kinds [] = refl
infos-kinds (x ∷ xs) = ap (λ ks. k.Info ∷ ks) (infos-kinds xs)

starts-kinds : (gs : List Start) → ks_of (map start_line gs) ≡ times (length gs) k.Start
starts-kinds [] = refl
starts-kinds (g ∷ gs) = ap (λ ks. k.Start ∷ ks) (starts-kinds gs)

pub tree-nests : (p : Protocol) → IsNested (ks_of (lines_of p))
tree-nests p = (
  record { messages = length p.messages; infos = length p.infos; starts = length p.starts; states = states_shape p.states },
  ap (λ ks. k.Protocol ∷ ks) (
      map-append kind_at (map message_line p.messages) (map info_line p.infos
      ++ (map start_line p.starts ++ flat_map state_lines p.states))
      ∙ rw (
        map-append kind_at (map info_line p.infos) (map start_line p.starts ++ flat_map state_lines p.states),
        map-append kind_at (map start_line p.starts) (flat_map state_lines p.states),
        messages-kinds p.messages,
        infos-kinds p.infos,
        starts-kinds p.starts,
        states-kinds p.states,
      ) refl),
)

nested_if : (ks : List Kind) (j : Judged) → Judges ks j → IsNested ks → j ≡ Nested
nested_if ks Nested h nested = refl
nested_if ks (Bad at) h nested = absurd (h.1 (drop (at + 1) ks, subst IsNested (sym (take-append-drop (at + 1) ks)) nested))
nested_if ks Missing h nested = absurd (h.1 nested)

pub nested-judged : (ks : List Kind) → IsNested ks → judged ks ≡ Nested
nested-judged ks nested = nested_if ks (judged ks) (judges-is ks) nested
