-- Lines that pass no limit are those of a tree within the limits.
use Rattle.std.proofs.Common.{◌≡◌, ℕ, ◌+◌, ◌-◌, ◌≤◌, Bool, true, false, List, [], ◌∷◌, ◌++◌, length, map, Option, Some, None}
use Rattle.std.proofs.Common.{refl, ap, sym, subst, append_assoc, arith, inl, inr}
use Rattle.std.specs.Prelude.{◌||◌, nat_lt}
use Rattle.std.specs.List.{flat_map, list_any}
use Rattle.std.proofs.lemmas.Bool.{cases_lt, lt-ltb}
use Rattle.std.proofs.lemmas.List.{length-append, length-map}
use Rattle.tw_base.specs.Lists.{Each}
use Rattle.tw_base.specs.declared.name.Name.{Name}
use Rattle.teapot_tree.specs.declared.expr.Expr.{Expr}
use Rattle.teapot_tree.specs.declared.protocol.Handler.{Handler}
use Rattle.teapot_tree.specs.declared.protocol.MessageDecl.{MessageDecl}
use Rattle.teapot_tree.specs.declared.protocol.Param.{Param}
use Rattle.teapot_tree.specs.declared.protocol.Protocol.{Protocol}
use Rattle.teapot_tree.specs.declared.protocol.Start.{Start}
use Rattle.teapot_tree.specs.declared.protocol.State.{State}
use Rattle.teapot_tree.specs.declared.protocol.Trigger.{Trigger}
use Rattle.teapot_tree.specs.declared.protocol.Trigger.TheVariants as t
use Rattle.teapot_tree.specs.Bodies.{Simple, assign, send, send_all, set_tag, set_state, suspend, resume, install, enqueue}
use Rattle.teapot_tree.specs.Bodies.{wake_up, error, Body, done, plain, branch, branches, loop, each, body_of}
use Rattle.teapot_tree.specs.Parts.{depth, eaches, nest, loops}
use Rattle.teapot_lines.specs.declared.form.Form.{Form}
use Rattle.teapot_lines.specs.declared.form.Form.TheVariants as f
use Rattle.teapot_lines.specs.Cuts.{cut}
use Rattle.teapot_lines.specs.Spelling.{cut_form}
use Rattle.teapot_lines.proofs.Depths.{cut-within}
use Rattle.teapot_parse.specs.declared.count.Counts.{Counts}
use Rattle.teapot_parse.specs.declared.count.Many.{Many}
use Rattle.teapot_parse.specs.declared.count.Many.TheVariants as w
use Rattle.teapot_parse.specs.Counting.{no_counts, counted, is_deep, first_of, over, or_over, first_over}
use Rattle.teapot_parse.specs.Trees.{Lines, simple_form, body_lines, handler_form, handler_lines, local_line, state_lines}
use Rattle.teapot_parse.specs.Trees.{message_line, info_line, start_line, lines_of, typed_of}
use Rattle.teapot_parse.proofs.Builds.{cut_lines, IsShallow}
use Rattle.teapot_parse.proofs.Goods.{ExprsAt}

not-above : (a b : ℕ) → nat_lt a b ≡ false → b ≤ a
not-above a b e = elim (cases_lt a b) [
  | inl lt ↦ let yes_lt = lt-ltb a b lt in absurd cc
  | inr le ↦ le
]

or-parts : (o : Option Many) (line : ℕ) (r : Option (Many × ℕ)) → or_over o line r ≡ None → (o ≡ None) × (r ≡ None)
or-parts None line r e = (refl, e)
or-parts (Some what) line r e = absurd cc

-- no test of a line holds, and those behind it pass
line-parts : (q : ℕ × Form Expr) (c : Counts) (qs : Lines) → first_over c (cut_lines (q ∷ qs)) ≡ None →
    (over (counted c (cut_form q.1)) (cut_form q.1) ≡ None) × (first_over (counted c (cut_form q.1)) (cut_lines qs) ≡ None)
unfolding first_over
line-parts q c qs e = or-parts (over (counted c (cut_form q.1)) (cut_form q.1)) q.0
    (first_over (counted c (cut_form q.1)) (cut_lines qs)) e

first-parts : (b : Bool) (what : Many) (ts : List (Bool × Many)) → first_of ((b, what) ∷ ts) ≡ None →
    (b ≡ false) × (first_of ts ≡ None)
first-parts true what ts e = absurd cc
first-parts false what ts e = (refl, e)

one-test : (a : Bool) (x : Many) → first_of ((a, x) ∷ []) ≡ None → a ≡ false
one-test a x e = (first-parts a x [] e).0

two-tests : (a b : Bool) (x y : Many) → first_of ((a, x) ∷ (b, y) ∷ []) ≡ None → (a ≡ false) × (b ≡ false)
two-tests a b x y e = let parts = first-parts a x ((b, y) ∷ []) e in (parts.0, one-test b y parts.1)

three-tests : (a b c : Bool) (x y z : Many) → first_of ((a, x) ∷ (b, y) ∷ (c, z) ∷ []) ≡ None →
    (a ≡ false) × (b ≡ false) × (c ≡ false)
three-tests a b c x y z e = let parts = first-parts a x ((b, y) ∷ (c, z) ∷ []) e in let more =
    two-tests b c y z parts.1 in (parts.0, more.0, more.1)

-- ---- expressions

deep-or : (e : Expr) → is_deep (cut e) ≡ false → IsShallow e
deep-or e h = elim (cases_lt 16 (depth e)) [
  | inl lt ↦ let deep = (cut-within e).1 lt in absurd (true_false (is_deep (cut e)) (ap is_deep deep) h)
  | inr le ↦ le
]
  where
    true_false : (b : Bool) → b ≡ true → b ≡ false → ⊥
    true_false b x y = cc

or-false : (a b : Bool) → (a || b) ≡ false → (a ≡ false) × (b ≡ false)
or-false true b e = absurd cc
or-false false b e = (refl, e)

none-deep : (xs : List Expr) → list_any is_deep (map cut xs) ≡ false → Each IsShallow xs
none-deep [] h = tt
none-deep (x ∷ xs) h = let parts = or-false (is_deep (cut x)) (list_any is_deep (map cut xs)) h in
    (deep-or x parts.0, none-deep xs parts.1)

form-shallow : (line : ℕ) (form : Form Expr) (c : Counts) → over c (cut_form form) ≡ None → ExprsAt IsShallow (line, form)
form-shallow line (f.If e) c h = (deep-or e (two-tests (is_deep (cut e)) (nat_lt 17 c.begins) w.Depth w.Nest h).0, tt)
form-shallow line (f.Assign n e) c h = (deep-or e (one-test (is_deep (cut e)) w.Depth h), tt)
form-shallow line (f.Send r e n xs) c h =
    let parts = or-false (is_deep (cut e)) (list_any is_deep (map cut xs))
    (one-test (is_deep (cut e) || list_any is_deep (map cut xs)) w.Depth h) in
    (deep-or e parts.0, none-deep xs parts.1)
form-shallow line (f.SetState n xs) c h = none-deep xs (one-test (list_any is_deep (map cut xs)) w.Depth h)
form-shallow line (f.Suspend l n xs p) c h = none-deep xs (one-test (list_any is_deep (map cut xs)) w.Depth h)
form-shallow line (f.ForEach n e) c h =
    (deep-or e (three-tests (is_deep (cut e)) (nat_lt 17 c.begins) (nat_lt 4 c.loops) w.Depth w.Nest w.Loops h).0, tt)
form-shallow line _ c h = tt

pub all-shallow : (qs : Lines) (c : Counts) → first_over c (cut_lines qs) ≡ None → Each (ExprsAt IsShallow) qs
all-shallow [] c e = tt
all-shallow (q ∷ qs) c e = let parts = line-parts q c qs e in
    (form-shallow q.0 q.1 (counted c (cut_form q.1)) parts.0, all-shallow qs (counted c (cut_form q.1)) parts.1)

-- ---- bodies

simple-counts : (s : Simple) (c : Counts) → counted c (cut_form (simple_form s)) ≡ c
simple-counts (assign n e) c = refl
simple-counts (send e n xs) c = refl
simple-counts (send_all e n xs) c = refl
simple-counts (set_tag g) c = refl
simple-counts (set_state n xs) c = refl
simple-counts (suspend l n xs p) c = refl
simple-counts (resume n) c = refl
simple-counts install c = refl
simple-counts enqueue c = refl
simple-counts wake_up c = refl
simple-counts (error n) c = refl

-- the counts behind some lines pass
abbrev Goes : Counts → Lines → Type 0
Goes c qs = first_over c (cut_lines qs) ≡ None

record BodyBound (b : Body) (c : Counts) (qs : Lines) : Type 0 where
  pub flat : c.begins + nest b ≤ 18
  pub once : c.loops + loops b ≤ 4
  pub goes : Goes (record c { loops = c.loops + loops b }) qs

abbrev Bounds : Body → Type 0
Bounds b = (c : Counts) (qs : Lines) → c.begins ≤ 18 → c.loops ≤ 4 → Goes c (body_lines b ++ qs) → BodyBound b c qs

-- a block, with its Begin and End
record BlockBound (b : Body) (c : Counts) (qs : Lines) : Type 0 where
  pub flat : c.begins + 1 + nest b ≤ 18
  pub once : c.loops + loops b ≤ 4
  pub goes : Goes (record c { loops = c.loops + loops b }) qs

block-bound : (x : Body) → Bounds x → (c : Counts) (qs : Lines) → c.begins ≤ 17 → c.loops ≤ 4 →
    Goes c ((0, f.Begin) ∷ (body_lines x ++ (0, f.End) ∷ qs)) → BlockBound x c qs
block-bound x h c qs le lo e =
    let c1 = record c { begins = c.begins + 1 } in
    let inner = h c1 ((0, f.End) ∷ qs) (omega arith) lo (line-parts (0, f.Begin) c (body_lines x ++ (0, f.End) ∷ qs) e).1 in
    let behind = (line-parts (0, f.End) (record c1 { loops = c.loops + loops x }) qs inner.goes).1 in
    let back : c.begins + 1 - 1 ≡ c.begins = omega arith in
    record {
      flat = inner.flat;
      once = inner.once;
      goes = subst
          (λ g. Goes (record c { begins = g; loops = c.loops + loops x }) qs) back behind;
    }

body-bound : (b : Body) → eaches b ≡ 0 → Bounds b
body-bound done n c qs le lo e =
    let same : c.loops + 0 ≡ c.loops = omega arith in
    record { flat = omega arith; once = omega arith; goes = subst (λ z. Goes (record c { loops = z }) qs) (sym same) e }
body-bound (plain line s b) n c qs le lo e =
    let parts = line-parts (line, simple_form s) c (body_lines b ++ qs) e in
    let more = body-bound b n c qs le lo (subst (λ z. Goes z (body_lines b ++ qs)) (simple-counts s c) parts.1) in
    record { flat = more.flat; once = more.once; goes = more.goes }
body-bound (branch line v x b) n c qs le lo e =
    let nx : eaches x ≡ 0 = omega arith in
    let nb : eaches b ≡ 0 = omega arith in
    let inside : Lines = (0, f.Begin) ∷ (body_lines x ++ (0, f.End) ∷ body_lines b ++ qs) in
    let parts = line-parts (line, f.If v) c inside e in
    let few = not-above 17 c.begins (two-tests (is_deep (cut v)) (nat_lt 17 c.begins) w.Depth w.Nest parts.0).1 in
    let regroup : body_lines x ++ (0, f.End) ∷ body_lines b ++ qs ≡ body_lines x ++ (0, f.End) ∷ (body_lines b ++ qs) =
    append_assoc (body_lines x) ((0, f.End) ∷ body_lines b) qs in
    let inner = block-bound x (body-bound x nx) c (body_lines b ++ qs) few lo
    (subst (λ ls. Goes c ((0, f.Begin) ∷ ls)) regroup parts.1) in
    let more = body-bound b nb (record c { loops = c.loops + loops x }) qs le inner.once inner.goes in
    let sum : c.loops + loops x + loops b ≡ c.loops + (loops x + loops b) = omega arith in
    let f1 = inner.flat in let f2 = more.flat in let o2 = more.once in
    record { flat = omega arith; once = omega arith; goes = subst (λ z. Goes (record c { loops = z }) qs) sum more.goes }
body-bound (branches line v x y b) n c qs le lo e =
    let nx : eaches x ≡ 0 = omega arith in
    let ny : eaches y ≡ 0 = omega arith in
    let nb : eaches b ≡ 0 = omega arith in
    let second : Lines = (0, f.Else) ∷ (0, f.Begin) ∷ (body_lines y ++ (0, f.End) ∷ body_lines b) in
    let inside : Lines = (0, f.Begin) ∷ (body_lines x ++ (0, f.End) ∷ second ++ qs) in
    let parts = line-parts (line, f.If v) c inside e in
    let few = not-above 17 c.begins (two-tests (is_deep (cut v)) (nat_lt 17 c.begins) w.Depth w.Nest parts.0).1 in
    let regroup : body_lines x ++ (0, f.End) ∷ second ++ qs ≡ body_lines x ++ (0, f.End) ∷ (second ++ qs) =
    append_assoc (body_lines x) ((0, f.End) ∷ second) qs in
    let inner = block-bound x (body-bound x nx) c (second ++ qs) few lo
    (subst (λ ls. Goes c ((0, f.Begin) ∷ ls)) regroup parts.1) in
    let cx = record c { loops = c.loops + loops x } in
    let after : Goes cx ((0, f.Begin) ∷ (body_lines y ++ (0, f.End) ∷ body_lines b ++ qs)) =
    (line-parts (0, f.Else) cx ((0, f.Begin) ∷ (body_lines y ++ (0, f.End) ∷ body_lines b ++ qs)) inner.goes).1 in
    let behind : body_lines y ++ (0, f.End) ∷ body_lines b ++ qs ≡ body_lines y ++ (0, f.End) ∷ (body_lines b ++ qs) =
    append_assoc (body_lines y) ((0, f.End) ∷ body_lines b) qs in
    let other = block-bound y (body-bound y ny) cx (body_lines b ++ qs) few inner.once
    (subst (λ ls. Goes cx ((0, f.Begin) ∷ ls)) behind after) in
    let more = body-bound b nb (record c { loops = c.loops + loops x + loops y }) qs le other.once other.goes in
    let sum : c.loops + loops x + loops y + loops b ≡ c.loops + (loops x + (loops y + loops b)) = omega arith in
    let f1 = inner.flat in let f2 = other.flat in let f3 = more.flat in let o3 = more.once in
    record { flat = omega arith; once = omega arith; goes = subst (λ z. Goes (record c { loops = z }) qs) sum more.goes }
body-bound (loop line m v x b) n c qs le lo e =
    let nx : eaches x ≡ 0 = omega arith in
    let nb : eaches b ≡ 0 = omega arith in
    let inside : Lines = (0, f.Begin) ∷ (body_lines x ++ (0, f.End) ∷ body_lines b ++ qs) in
    let parts = line-parts (line, f.ForEach m v) c inside e in
    let tests = three-tests (is_deep (cut v)) (nat_lt 17 c.begins) (nat_lt 4 (c.loops + 1)) w.Depth w.Nest w.Loops parts.0 in
    let few = not-above 17 c.begins tests.1 in
    let some = not-above 4 (c.loops + 1) tests.2 in
    let c1 = record c { loops = c.loops + 1 } in
    let regroup : body_lines x ++ (0, f.End) ∷ body_lines b ++ qs ≡ body_lines x ++ (0, f.End) ∷ (body_lines b ++ qs) =
    append_assoc (body_lines x) ((0, f.End) ∷ body_lines b) qs in
    let inner = block-bound x (body-bound x nx) c1 (body_lines b ++ qs) few some
    (subst (λ ls. Goes c1 ((0, f.Begin) ∷ ls)) regroup parts.1) in
    let more = body-bound b nb (record c { loops = c.loops + 1 + loops x }) qs le inner.once inner.goes in
    let sum : c.loops + 1 + loops x + loops b ≡ c.loops + (1 + (loops x + loops b)) = omega arith in
    let f1 = inner.flat in let f2 = more.flat in let o2 = more.once in
    record { flat = omega arith; once = omega arith; goes = subst (λ z. Goes (record c { loops = z }) qs) sum more.goes }
body-bound (each line m z x b) n c qs le lo e = absurd (omega arith)

-- ---- handlers, states, protocols

locals-bound : (xs : List Param) (c : Counts) (qs : Lines) → c.locals ≤ 8 → Goes c (map local_line xs ++ qs) →
    (c.locals + length xs ≤ 8) × Goes (record c { locals = c.locals + length xs }) qs
locals-bound [] c qs le e =
    let same : c.locals + 0 ≡ c.locals = omega arith in
    (omega arith, subst (λ z. Goes (record c { locals = z }) qs) (sym same) e)
locals-bound (x ∷ xs) c qs le e =
    let parts = line-parts (local_line x) c (map local_line xs ++ qs) e in
    let one = not-above 8 (c.locals + 1) (one-test (nat_lt 8 (c.locals + 1)) w.Locals parts.0) in
    let more = locals-bound xs (record c { locals = c.locals + 1 }) qs one parts.1 in
    let sum : c.locals + 1 + length xs ≡ c.locals + length (x ∷ xs) = omega arith in
    let m0 = more.0 in
    (omega arith, subst (λ z. Goes (record c { locals = z }) qs) sum more.1)

handler-parts : (line : ℕ) (on : Trigger) (args : List Name) (c : Counts) (qs : Lines) →
    Goes c ((line, handler_form on args) ∷ qs) → (c.handlers + 1 ≤ 1024)
    × Goes (record c { handlers = c.handlers + 1; locals = 0; loops = 0 }) qs
handler-parts line t.RdFault args c qs e = let parts = line-parts (line, handler_form t.RdFault args) c qs e in
    (not-above 1024 (c.handlers + 1) (one-test (nat_lt 1024 (c.handlers + 1)) w.Handlers parts.0), parts.1)
handler-parts line t.WrFault args c qs e = let parts = line-parts (line, handler_form t.WrFault args) c qs e in
    (not-above 1024 (c.handlers + 1) (one-test (nat_lt 1024 (c.handlers + 1)) w.Handlers parts.0), parts.1)
handler-parts line (t.Named n) args c qs e = let parts = line-parts (line, handler_form (t.Named n) args) c qs e in
    (not-above 1024 (c.handlers + 1) (one-test (nat_lt 1024 (c.handlers + 1)) w.Handlers parts.0), parts.1)
handler-parts line t.Default args c qs e = let parts = line-parts (line, handler_form t.Default args) c qs e in
    (not-above 1024 (c.handlers + 1) (one-test (nat_lt 1024 (c.handlers + 1)) w.Handlers parts.0), parts.1)

-- the limits on a handler that was read
abbrev pub IsFew : Handler → Type 0
IsFew h = (length h.locals ≤ 8) × ((nest (body_of h.body) ≤ 16) × (loops (body_of h.body) ≤ 4))

-- the lines behind pass, after any number of locals and loops of the handler before them
abbrev GoesOn : Counts → Lines → Type 0
GoesOn c qs = (l : ℕ) × (o : ℕ) × Goes (record c { locals = l; loops = o }) qs

handler-bound : (h : Handler) → eaches (body_of h.body) ≡ 0 → (c : Counts) (qs : Lines) → c.begins ≡ 1 →
    Goes c (handler_lines h ++ qs) → (c.handlers + 1 ≤ 1024) × IsFew h × GoesOn (record c { handlers = c.handlers + 1 }) qs
handler-bound h none c qs one e =
    let bd = body_of h.body in
    let inside : Lines = (0, f.Begin) ∷ (map local_line h.locals ++ (body_lines bd ++ (0, f.End) ∷ []) ++ qs) in
    let first = handler-parts h.line h.on h.args c inside e in
    let n = c.handlers + 1 in
    let c1 = record c { handlers = n; locals = 0; loops = 0 } in
    let begun = (line-parts (0, f.Begin) c1 (map local_line h.locals ++ (body_lines bd ++ (0, f.End) ∷ []) ++ qs) first.1).1 in
    let c2 = record c { handlers = n; locals = 0; loops = 0; begins = c.begins + 1 } in
    let regroup : map local_line h.locals ++ (body_lines bd ++ (0, f.End) ∷ []) ++ qs ≡ map local_line h.locals
    ++ (body_lines bd ++ (0, f.End) ∷ qs) = simp append_assoc refl in
    let locals = locals-bound h.locals c2 (body_lines bd ++ (0, f.End) ∷ qs) (omega arith) (subst (Goes c2) regroup begun) in
    let c3 = record c { handlers = n; locals = 0 + length h.locals; loops = 0; begins = c.begins + 1 } in
    let body = body-bound bd none c3 ((0, f.End) ∷ qs) (omega arith) (omega arith) locals.1 in
    let behind = (line-parts (0, f.End) (record c3 { loops = 0 + loops bd }) qs body.goes).1 in
    let back : c.begins + 1 - 1 ≡ c.begins = omega arith in
    let flat = body.flat in
    let once = body.once in
    let few = locals.0 in (
      first.0,
      (omega arith, (omega arith, omega arith)),
      (
        0 + length h.locals,
        0 + loops bd,
        subst (λ g. Goes (record c { handlers = n; locals = 0 + length h.locals; loops = 0 + loops bd; begins = g }) qs) back
            behind,
      ),
    )

handlers-bound : (hs : List Handler) → Each (λ (h : Handler). eaches (body_of h.body) ≡ 0) hs → (c : Counts) (qs : Lines) →
    c.begins ≡ 1 → c.handlers ≤ 1024 → GoesOn c (flat_map handler_lines hs ++ qs)
    → (c.handlers + length hs ≤ 1024) × Each IsFew hs × GoesOn (record c { handlers = c.handlers + length hs }) qs
handlers-bound [] none c qs one le goes =
    let same : c.handlers + 0 ≡ c.handlers = omega arith in
    (omega arith, tt, subst (λ z. GoesOn (record c { handlers = z }) qs) (sym same) goes)
handlers-bound (h ∷ hs) (n, ns) c qs one le (l, o, e) =
    let regroup : handler_lines h ++ flat_map handler_lines hs ++ qs ≡ handler_lines h ++ (flat_map handler_lines hs ++ qs) =
    append_assoc (handler_lines h) (flat_map handler_lines hs) qs in
    let c1 = record c { locals = l; loops = o } in
    let first = handler-bound h n c1 (flat_map handler_lines hs ++ qs) one (subst (Goes c1) regroup e) in
    let more = handlers-bound hs ns (record c { handlers = c.handlers + 1 }) qs one first.0 first.2 in
    let sum : c.handlers + 1 + length hs ≡ c.handlers + length (h ∷ hs) = omega arith in
    let m0 = more.0 in
    (omega arith, (first.1, more.1), subst (λ z. GoesOn (record c { handlers = z }) qs) sum more.2)

-- the limits on a state that was read
abbrev pub IsFewState : State → Type 0
IsFewState s = (length s.params ≤ 4) × Each IsFew s.handlers

abbrev all_handlers : List State → List Handler
all_handlers ss = flat_map (λ (s : State). s.handlers) ss

states-bound : (ss : List State) → Each (λ (s : State). Each (λ (h : Handler). eaches (body_of h.body) ≡ 0) s.handlers) ss →
    (c : Counts) → c.begins ≡ 0 → c.handlers ≤ 1024 → c.states ≤ 64 → GoesOn c (flat_map state_lines ss)
    → (c.states + length ss ≤ 64) × (c.handlers + length (all_handlers ss) ≤ 1024) × Each IsFewState ss
states-bound [] none c zero_begins le st goes = (omega arith, omega arith, tt)
states-bound (s ∷ ss) (n, ns) c zero_begins le st (l, o, e) =
    let rest = flat_map state_lines ss in
    let hs = s.handlers in
    let c1 = record c { locals = l; loops = o } in
    let parts = line-parts (s.line, f.State s.name (map typed_of s.params) s.cont) c1
    ((0, f.Begin) ∷ (flat_map handler_lines hs ++ (0, f.End) ∷ [] ++ rest)) e in
    let tests = two-tests (nat_lt 64 (c.states + 1)) (nat_lt 4 (length (map typed_of s.params))) w.States w.Args parts.0 in
    let some = not-above 64 (c.states + 1) tests.0 in
    let args = not-above 4 (length (map typed_of s.params)) tests.1 in
    let c2 = record c { states = c.states + 1; locals = l; loops = o } in
    let begun = (line-parts (0, f.Begin) c2 (flat_map handler_lines hs ++ (0, f.End) ∷ [] ++ rest) parts.1).1 in
    let regroup : flat_map handler_lines hs ++ (0, f.End) ∷ [] ++ rest ≡ flat_map handler_lines hs ++ (0, f.End) ∷ rest =
    append_assoc (flat_map handler_lines hs) ((0, f.End) ∷ []) rest in
    let c3 = record c { states = c.states + 1; begins = c.begins + 1 } in
    let inner = handlers-bound hs n c3 ((0, f.End) ∷ rest) (omega arith) le
    (l, o, subst (Goes (record c3 { locals = l; loops = o })) regroup begun) in
    let goes = inner.2 in
    let c4 = record c3 { handlers = c.handlers + length hs; locals = goes.0; loops = goes.1 } in
    let behind = (line-parts (0, f.End) c4 rest goes.2).1 in
    let back : c.begins + 1 - 1 ≡ c.begins = omega arith in
    let more = states-bound ss ns (record c { states = c.states + 1; handlers = c.handlers + length hs }) zero_begins inner.0 some (
      goes.0,
      goes.1,
      subst (λ g. Goes (record c {
        states = c.states + 1;
        handlers = c.handlers + length hs;
        locals = goes.0;
        loops = goes.1;
        begins = g;
      }) rest) back behind,
    ) in
    let both = length-append hs (all_handlers ss) in
    let m0 = more.0 in
    let m1 = more.1 in
    (omega arith, omega arith, ((subst (λ z. z ≤ 4) (length-map s.params typed_of) args, inner.1), more.2))

messages-bound : (ms : List MessageDecl) (c : Counts) (qs : Lines) → c.messages ≤ 64 → Goes c (map message_line ms ++ qs) →
    (c.messages + length ms ≤ 64) × Each (λ (m : MessageDecl). length m.args ≤ 4) ms
    × Goes (record c { messages = c.messages + length ms }) qs
messages-bound [] c qs le e =
    let same : c.messages + 0 ≡ c.messages = omega arith in
    (omega arith, tt, subst (λ z. Goes (record c { messages = z }) qs) (sym same) e)
messages-bound (m ∷ ms) c qs le e =
    let parts = line-parts (message_line m) c (map message_line ms ++ qs) e in
    let tests = two-tests (nat_lt 64 (c.messages + 1)) (nat_lt 4 (length m.args)) w.Messages w.Args parts.0 in
    let one = not-above 64 (c.messages + 1) tests.0 in
    let args = not-above 4 (length m.args) tests.1 in
    let more = messages-bound ms (record c { messages = c.messages + 1 }) qs one parts.1 in
    let sum : c.messages + 1 + length ms ≡ c.messages + length (m ∷ ms) = omega arith in
    let m0 = more.0 in
    (omega arith, (args, more.1), subst (λ z. Goes (record c { messages = z }) qs) sum more.2)

infos-bound : (xs : List Param) (c : Counts) (qs : Lines) → c.infos ≤ 8 → Goes c (map info_line xs ++ qs) →
    (c.infos + length xs ≤ 8) × Goes (record c { infos = c.infos + length xs }) qs
infos-bound [] c qs le e =
    let same : c.infos + 0 ≡ c.infos = omega arith in
    (omega arith, subst (λ z. Goes (record c { infos = z }) qs) (sym same) e)
infos-bound (x ∷ xs) c qs le e =
    let parts = line-parts (info_line x) c (map info_line xs ++ qs) e in
    let one = not-above 8 (c.infos + 1) (one-test (nat_lt 8 (c.infos + 1)) w.Infos parts.0) in
    let more = infos-bound xs (record c { infos = c.infos + 1 }) qs one parts.1 in
    let sum : c.infos + 1 + length xs ≡ c.infos + length (x ∷ xs) = omega arith in
    let m0 = more.0 in
    (omega arith, subst (λ z. Goes (record c { infos = z }) qs) sum more.1)

starts-bound : (gs : List Start) (c : Counts) (qs : Lines) → Goes c (map start_line gs ++ qs) → Goes c qs
starts-bound [] c qs e = e
starts-bound (g ∷ gs) c qs e = starts-bound gs c qs (line-parts (start_line g) c (map start_line gs ++ qs) e).1

pub record Limits (p : Protocol) : Type 0 where
  pub states : length p.states ≤ 64
  pub handlers : length (flat_map (λ (s : State). s.handlers) p.states) ≤ 1024
  pub messages : length p.messages ≤ 64
  pub infos : length p.infos ≤ 8
  pub args : Each (λ (m : MessageDecl). length m.args ≤ 4) p.messages
  pub each_state : Each IsFewState p.states

pub tree-bound : (p : Protocol) → Each (λ (s : State). Each (λ (h : Handler). eaches (body_of h.body) ≡ 0) s.handlers)
    p.states → first_over no_counts (cut_lines (lines_of p)) ≡ None → Limits p
tree-bound p none e =
    let l3 = flat_map state_lines p.states in
    let l2 = map start_line p.starts ++ l3 in
    let l1 = map info_line p.infos ++ l2 in
    let first = line-parts (p.line, f.Protocol p.name p.profile) no_counts (map message_line p.messages ++ l1) e in
    let ms = messages-bound p.messages no_counts l1 (omega arith) first.1 in
    let m = 0 + length p.messages in
    let is = infos-bound p.infos (record no_counts { messages = m }) l2 (omega arith) ms.2 in
    let i = 0 + length p.infos in
    let gs = starts-bound p.starts (record no_counts { messages = m; infos = i }) l3 is.1 in
    let ss = states-bound p.states none (record no_counts { messages = m; infos = i }) refl (omega arith) (omega arith)
    (0, 0, gs) in
    let a = ms.0 in let b = is.0 in let s0 = ss.0 in let s1 = ss.1 in
    record {
      states = omega arith;
      handlers = omega arith;
      messages = omega arith;
      infos = omega arith;
      args = ms.1;
      each_state = ss.2;
    }
