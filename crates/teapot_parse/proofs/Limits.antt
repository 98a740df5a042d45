-- The lines of a tree within the limits pass no limit.
use Rattle.std.proofs.Common.{◌≡◌, ℕ, ◌+◌, ◌-◌, ◌≤◌, false, List, [], ◌∷◌, ◌++◌, length, map, None, refl, ap, sym, subst}
use Rattle.std.proofs.Common.{append_assoc, arith}
use Rattle.std.specs.List.{flat_map, list_any}
use Rattle.std.proofs.lemmas.Bool.{le-ltb}
use Rattle.tw_base.specs.Lists.{Each}
use Rattle.tw_base.specs.declared.name.Name.{Name}
use Rattle.teapot_tree.specs.declared.expr.Expr.{Expr}
use Rattle.teapot_tree.specs.declared.protocol.Handler.{Handler}
use Rattle.teapot_tree.specs.declared.protocol.Param.{Param}
use Rattle.teapot_tree.specs.declared.protocol.Trigger.{Trigger}
use Rattle.teapot_tree.specs.declared.protocol.Trigger.TheVariants as t
use Rattle.teapot_tree.specs.Bodies.{Simple, assign, send, send_all, set_tag, set_state, suspend, resume, install, enqueue}
use Rattle.teapot_tree.specs.Bodies.{wake_up, error, Body, done, plain, branch, branches, loop, each, body_of}
use Rattle.teapot_tree.specs.Parts.{exprs_in, simple_exprs, exprs_of, nest, loops}
use Rattle.teapot_lines.specs.declared.form.Form.{Form}
use Rattle.teapot_lines.specs.declared.form.Form.TheVariants as f
use Rattle.teapot_lines.specs.Cuts.{cut}
use Rattle.teapot_lines.specs.Spelling.{cut_form}
use Rattle.teapot_lines.proofs.Depths.{cut-within}
use Rattle.teapot_parse.specs.declared.count.Counts.{Counts}
use Rattle.teapot_parse.specs.Counting.{counted, is_deep, over, first_over}
use Rattle.teapot_parse.specs.Trees.{Lines, simple_form, body_lines, handler_form, handler_lines, local_line}
use Rattle.teapot_parse.proofs.Builds.{cut_lines, IsShallow, each-parts}

pub record Below (c d : Counts) : Type 0 where
  pub states : c.states ≤ d.states
  pub messages : c.messages ≤ d.messages
  pub handlers : c.handlers ≤ d.handlers
  pub infos : c.infos ≤ d.infos
  pub locals : c.locals ≤ d.locals
  pub loops : c.loops ≤ d.loops
  pub begins : c.begins ≤ d.begins

-- from such counts, or fewer, no limit is passed
abbrev pub Passes : Counts → Lines → Type 0
Passes d qs = (c : Counts) → Below c d → first_over c (cut_lines qs) ≡ None

shallow-cut : (e : Expr) → IsShallow e → is_deep (cut e) ≡ false
shallow-cut e h = ap is_deep ((cut-within e).0 h)

shallow-cuts : (xs : List Expr) → Each IsShallow xs → list_any is_deep (map cut xs) ≡ false
shallow-cuts [] h = refl
shallow-cuts (x ∷ xs) (h, hs) = rw (shallow-cut x h) (shallow-cuts xs hs)

-- a line that counts nothing
pub pass-plain : (q : ℕ × Form Expr) (d : Counts) (qs : Lines) → ((c : Counts) → counted c (cut_form q.1) ≡ c) →
    ((c : Counts) → over c (cut_form q.1) ≡ None) → Passes d qs → Passes d (q ∷ qs)
unfolding first_over
pass-plain q d qs same none h c b = rw (same c, none c) (h c b)

pass-simple : (line : ℕ) (s : Simple) (d : Counts) (qs : Lines) → Each IsShallow (simple_exprs s) → Passes d qs →
    Passes d ((line, simple_form s) ∷ qs)
pass-simple line (assign n e) d qs h = pass-plain (line, f.Assign n e) d qs (λ c. refl) (λ c. rw (shallow-cut e h.0) refl)
pass-simple line (send e n xs) d qs h = pass-plain (line, simple_form (send e n xs)) d qs (λ c. refl)
    (λ c. rw (shallow-cut e h.0, shallow-cuts xs h.1) refl)
pass-simple line (send_all e n xs) d qs h = pass-plain (line, simple_form (send_all e n xs)) d qs (λ c. refl)
    (λ c. rw (shallow-cut e h.0, shallow-cuts xs h.1) refl)
pass-simple line (set_tag g) d qs h = pass-plain (line, f.SetTag g) d qs (λ c. refl) (λ c. refl)
pass-simple line (set_state n xs) d qs h = pass-plain (line, f.SetState n xs) d qs (λ c. refl) (λ c. rw (shallow-cuts xs h) refl)
pass-simple line (suspend l n xs p) d qs h = pass-plain (line, f.Suspend l n xs p) d qs (λ c. refl)
    (λ c. rw (shallow-cuts xs h) refl)
pass-simple line (resume n) d qs h = pass-plain (line, f.Resume n) d qs (λ c. refl) (λ c. refl)
pass-simple line install d qs h = pass-plain (line, f.Install) d qs (λ c. refl) (λ c. refl)
pass-simple line enqueue d qs h = pass-plain (line, f.Enqueue) d qs (λ c. refl) (λ c. refl)
pass-simple line wake_up d qs h = pass-plain (line, f.WakeUp) d qs (λ c. refl) (λ c. refl)
pass-simple line (error n) d qs h = pass-plain (line, f.Error n) d qs (λ c. refl) (λ c. refl)

pub pass-begin : (d : Counts) (qs : Lines) → Passes (record d { begins = d.begins + 1 }) qs → Passes d ((0, f.Begin) ∷ qs)
unfolding first_over
pass-begin d qs h c b = h (record c { begins = c.begins + 1 }) (record {
  states = b.states;
  messages = b.messages;
  handlers = b.handlers;
  infos = b.infos;
  locals = b.locals;
  loops = b.loops;
  begins = let le = b.begins in omega arith;
})

pub pass-end : (d : Counts) (qs : Lines) → Passes d qs → Passes (record d { begins = d.begins + 1 }) ((0, f.End) ∷ qs)
unfolding first_over
pass-end d qs h c b = h (record c { begins = c.begins - 1 }) (record {
  states = b.states;
  messages = b.messages;
  handlers = b.handlers;
  infos = b.infos;
  locals = b.locals;
  loops = b.loops;
  begins = let le = b.begins in omega arith;
})

pass-else : (d : Counts) (qs : Lines) → Passes d qs → Passes d ((0, f.Else) ∷ qs)
pass-else d qs = pass-plain (0, f.Else) d qs (λ c. refl) (λ c. refl)

pass-if : (line : ℕ) (e : Expr) (d : Counts) (qs : Lines) → IsShallow e → d.begins ≤ 17 → Passes d qs →
    Passes d ((line, f.If e) ∷ qs)
unfolding first_over
pass-if line e d qs s le h c b =
    let le' = b.begins in let few : c.begins ≤ 17 = omega arith in
    rw (shallow-cut e s, le-ltb 17 c.begins few) (h c b)

pass-loop : (line : ℕ) (n : Name) (e : Expr) (d : Counts) (qs : Lines) → IsShallow e → d.begins ≤ 17 → d.loops + 1 ≤ 4 →
    Passes (record d { loops = d.loops + 1 }) qs → Passes d ((line, f.ForEach n e) ∷ qs)
unfolding first_over
pass-loop line n e d qs s le lo h c b =
    let b1 = b.begins in let b2 = b.loops in
    let few : c.begins ≤ 17 = omega arith in
    let some : c.loops + 1 ≤ 4 = omega arith in
    rw (shallow-cut e s, le-ltb 17 c.begins few, le-ltb 4 (c.loops + 1) some) (h (record c { loops = c.loops + 1 }) (record {
      states = b.states;
      messages = b.messages;
      handlers = b.handlers;
      infos = b.infos;
      locals = b.locals;
      loops = omega arith;
      begins = b.begins;
    }))

-- fewer loops
fewer-loops : (d : Counts) (n m : ℕ) (qs : Lines) → n ≤ m → Passes (record d { loops = m }) qs →
    Passes (record d { loops = n }) qs
fewer-loops d n m qs le h c b = h c (record {
  states = b.states;
  messages = b.messages;
  handlers = b.handlers;
  infos = b.infos;
  locals = b.locals;
  begins = b.begins;
  loops = let l = b.loops in omega arith;
})

abbrev BodyPasses : Body → Type 0
BodyPasses b = (d : Counts) (qs : Lines) → Each IsShallow (exprs_in b) → d.begins + nest b ≤ 18 → d.loops + loops b ≤ 4 →
    Passes (record d { loops = d.loops + loops b }) qs → Passes d (body_lines b ++ qs)

-- a block, with its Begin and End
pass-block : (x : Body) → BodyPasses x → (d : Counts) (qs : Lines) → Each IsShallow (exprs_in x) → d.begins + 1 + nest x ≤ 18 →
    d.loops + loops x ≤ 4 → Passes (record d { loops = d.loops + loops x }) qs
    → Passes d ((0, f.Begin) ∷ (body_lines x ++ (0, f.End) ∷ qs))
pass-block x h d qs s ne lo k =
    pass-begin d (body_lines x ++ (0, f.End) ∷ qs) (h (record d { begins = d.begins + 1 }) ((0, f.End) ∷ qs) s ne lo
    (pass-end (record d { loops = d.loops + loops x }) qs k))

pass-body : (b : Body) → BodyPasses b
pass-body done d qs s ne lo h = fewer-loops d d.loops (d.loops + 0) qs (omega arith) h
pass-body (plain line x b) d qs s ne lo h =
    let parts = each-parts IsShallow (simple_exprs x) (exprs_in b) s in
    pass-simple line x d (body_lines b ++ qs) parts.0 (pass-body b d qs parts.1 ne lo h)
pass-body (branch line e x b) d qs s ne lo h =
    let parts = each-parts IsShallow (exprs_in x) (exprs_in b) s.1 in
    let regroup : body_lines x ++ (0, f.End) ∷ (body_lines b ++ qs) ≡ body_lines x ++ (0, f.End) ∷ body_lines b ++ qs =
    sym (append_assoc (body_lines x) ((0, f.End) ∷ body_lines b) qs) in
    let after = pass-body b (record d { loops = d.loops + loops x }) qs parts.1 (omega arith) (omega arith)
    (fewer-loops d (d.loops + loops x + loops b) (d.loops + (loops x + loops b)) qs (omega arith) h) in
    let inside : Lines = (0, f.Begin) ∷ (body_lines x ++ (0, f.End) ∷ body_lines b ++ qs) in
    pass-if line e d inside s.0 (omega arith) (subst (λ ls. Passes d ((0, f.Begin) ∷ ls)) regroup
    (pass-block x (pass-body x) d (body_lines b ++ qs) parts.0 (omega arith) (omega arith) after))
pass-body (branches line e x y b) d qs s ne lo h =
    let parts = each-parts IsShallow (exprs_in x) (exprs_in y ++ exprs_in b) s.1 in
    let more = each-parts IsShallow (exprs_in y) (exprs_in b) parts.1 in
    let n = d.loops + loops x in
    let behind : body_lines y ++ (0, f.End) ∷ (body_lines b ++ qs) ≡ body_lines y ++ (0, f.End) ∷ body_lines b ++ qs =
    sym (append_assoc (body_lines y) ((0, f.End) ∷ body_lines b) qs) in
    let regroup : body_lines x ++ (0, f.End) ∷ (0, f.Else) ∷ (0, f.Begin) ∷ (body_lines y ++ (0, f.End) ∷ body_lines b ++ qs)
    ≡ body_lines x ++ (0, f.End) ∷ (0, f.Else) ∷ (0, f.Begin) ∷ (body_lines y ++ (0, f.End) ∷ body_lines b) ++ qs =
    sym (append_assoc (body_lines x) ((0, f.End) ∷ (0, f.Else) ∷ (0, f.Begin) ∷
    (body_lines y ++ (0, f.End) ∷ body_lines b)) qs) in
    let after = pass-body b (record d { loops = n + loops y }) qs more.1 (omega arith) (omega arith)
    (fewer-loops d (n + loops y + loops b) (d.loops + (loops x + (loops y + loops b))) qs (omega arith) h) in
    let second = pass-block y (pass-body y) (record d { loops = n }) (body_lines b ++ qs) more.0 (omega arith)
    (omega arith) after in
    let again : Lines = (0, f.Begin) ∷ (body_lines y ++ (0, f.End) ∷ body_lines b ++ qs) in
    let last : Passes (record d { loops = n }) ((0, f.Else) ∷ again) =
    pass-else (record d { loops = n }) again (subst (λ ls. Passes (record d { loops = n }) ((0, f.Begin) ∷ ls)) behind
    second) in
    let inside : Lines =
    (0, f.Begin) ∷ (body_lines x ++ (0, f.End) ∷ (0, f.Else) ∷ (0, f.Begin) ∷ (body_lines y ++ (0, f.End) ∷ body_lines b)
    ++ qs) in
    pass-if line e d inside s.0 (omega arith) (subst (λ ls. Passes d ((0, f.Begin) ∷ ls)) regroup
    (pass-block x (pass-body x) d ((0, f.Else) ∷ again) parts.0 (omega arith) (omega arith) last))
pass-body (loop line v e x b) d qs s ne lo h =
    let parts = each-parts IsShallow (exprs_in x) (exprs_in b) s.1 in
    let one = record d { loops = d.loops + 1 } in
    let regroup : body_lines x ++ (0, f.End) ∷ (body_lines b ++ qs) ≡ body_lines x ++ (0, f.End) ∷ body_lines b ++ qs =
    sym (append_assoc (body_lines x) ((0, f.End) ∷ body_lines b) qs) in
    let after = pass-body b (record d { loops = d.loops + 1 + loops x }) qs parts.1 (omega arith) (omega arith)
    (fewer-loops d (d.loops + 1 + loops x + loops b) (d.loops + (1 + (loops x + loops b))) qs (omega arith) h) in
    let inside : Lines = (0, f.Begin) ∷ (body_lines x ++ (0, f.End) ∷ body_lines b ++ qs) in
    pass-loop line v e d inside s.0 (omega arith) (omega arith)
    (subst (λ ls. Passes one ((0, f.Begin) ∷ ls)) regroup
    (pass-block x (pass-body x) one (body_lines b ++ qs) parts.0 (omega arith) (omega arith) after))
pass-body (each line v z x b) d qs s ne lo h =
    let parts = each-parts IsShallow (exprs_in x) (exprs_in b) s in
    pass-body b d qs parts.1 (omega arith) (omega arith) (fewer-loops d (d.loops + loops b) (d.loops + (loops x + loops b)) qs
    (omega arith) h)

-- ---- handlers, states, protocols

pass-local : (a : Param) (d : Counts) (qs : Lines) → d.locals + 1 ≤ 8 → Passes (record d { locals = d.locals + 1 }) qs →
    Passes d (local_line a ∷ qs)
unfolding first_over
pass-local a d qs le h c b =
    let l = b.locals in
    let few : c.locals + 1 ≤ 8 = omega arith in
    rw (le-ltb 8 (c.locals + 1) few) (h (record c { locals = c.locals + 1 }) (record {
      states = b.states;
      messages = b.messages;
      handlers = b.handlers;
      infos = b.infos;
      loops = b.loops;
      begins = b.begins;
      locals = omega arith;
    }))

-- the counts from the front of a list of locals
fewer-locals : (d : Counts) (n m : ℕ) (qs : Lines) → n ≤ m → Passes (record d { locals = m }) qs →
    Passes (record d { locals = n }) qs
fewer-locals d n m qs le h c b = h c (record {
  states = b.states;
  messages = b.messages;
  handlers = b.handlers;
  infos = b.infos;
  begins = b.begins;
  loops = b.loops;
  locals = let l = b.locals in omega arith;
})

pass-locals : (xs : List Param) (d : Counts) (qs : Lines) → d.locals + length xs ≤ 8 →
    Passes (record d { locals = d.locals + length xs }) qs → Passes d (map local_line xs ++ qs)
pass-locals [] d qs le h = fewer-locals d d.locals (d.locals + 0) qs (omega arith) h
pass-locals (a ∷ xs) d qs le h =
    pass-local a d (map local_line xs ++ qs) (omega arith) (pass-locals xs (record d { locals = d.locals + 1 }) qs (omega arith)
    (fewer-locals d (d.locals + 1 + length xs) (d.locals + length (a ∷ xs)) qs (omega arith) h))

handler-counts : (line : ℕ) (on : Trigger) (args : List Name) (c : Counts) →
    counted c (cut_form (handler_form on args)) ≡ record c { handlers = c.handlers + 1; locals = 0; loops = 0 }
handler-counts line t.RdFault args c = refl
handler-counts line t.WrFault args c = refl
handler-counts line (t.Named n) args c = refl
handler-counts line t.Default args c = refl

handler-over : (on : Trigger) (args : List Name) (c : Counts) → c.handlers ≤ 1024 →
    over c (cut_form (handler_form on args)) ≡ None
handler-over t.RdFault args c le = rw (le-ltb 1024 c.handlers le) refl
handler-over t.WrFault args c le = rw (le-ltb 1024 c.handlers le) refl
handler-over (t.Named n) args c le = rw (le-ltb 1024 c.handlers le) refl
handler-over t.Default args c le = rw (le-ltb 1024 c.handlers le) refl

-- the limits on one handler
abbrev pub IsWithin : Handler → Type 0
IsWithin h = (length h.locals ≤ 8) × Each IsShallow (exprs_of h) × (nest (body_of h.body) ≤ 16) × (loops (body_of h.body) ≤ 4)

-- any number of locals and loops, which the next handler counts anew
abbrev pub Loose : Counts → Lines → Type 0
Loose d qs = (l o : ℕ) → Passes (record d { locals = l; loops = o }) qs

pass-handler : (h : Handler) → IsWithin h → (d : Counts) (qs : Lines) → d.begins ≡ 1 → d.handlers + 1 ≤ 1024 →
    Loose (record d { handlers = d.handlers + 1 }) qs → Loose d (handler_lines h ++ qs)
unfolding first_over
pass-handler h (few, shallow, flat, once) d qs one le k l o =
    let bd = body_of h.body in
    let n = d.handlers + 1 in
    let ends : Passes (record d { handlers = n; locals = length h.locals; loops = loops bd; begins = d.begins + 1 })
    ((0, f.End) ∷ qs) = pass-end (record d { handlers = n; locals = length h.locals; loops = loops bd }) qs
    (k (length h.locals) (loops bd)) in
    let inner : Passes (record d { handlers = n; locals = length h.locals; loops = 0; begins = d.begins + 1 })
    (body_lines bd ++ (0, f.End) ∷ qs) =
    pass-body bd (record d { handlers = n; locals = length h.locals; loops = 0; begins = d.begins + 1 })
    ((0, f.End) ∷ qs) shallow (omega arith) (omega arith)
    (fewer-loops (record d { handlers = n; locals = length h.locals; begins = d.begins + 1 }) (0 + loops bd) (loops bd)
    ((0, f.End) ∷ qs) (omega arith) ends) in
    let outer : Passes (record d { handlers = n; locals = 0; loops = 0; begins = d.begins + 1 })
    (map local_line h.locals ++ (body_lines bd ++ (0, f.End) ∷ qs)) =
    pass-locals h.locals (record d { handlers = n; locals = 0; loops = 0; begins = d.begins + 1 })
    (body_lines bd ++ (0, f.End) ∷ qs) (omega arith) (fewer-locals
    (record d { handlers = n; loops = 0; begins = d.begins + 1 }) (0 + length h.locals) (length h.locals)
    (body_lines bd ++ (0, f.End) ∷ qs) (omega arith) inner) in
    let regroup : map local_line h.locals ++ (body_lines bd ++ (0, f.End) ∷ qs) ≡ map local_line h.locals
    ++ (body_lines bd ++ (0, f.End) ∷ []) ++ qs = simp append_assoc refl in
    let begins : Passes (record d { handlers = n; locals = 0; loops = 0 })
    ((0, f.Begin) ∷ (map local_line h.locals ++ (body_lines bd ++ (0, f.End) ∷ []) ++ qs)) =
    pass-begin (record d { handlers = n; locals = 0; loops = 0 })
    (map local_line h.locals ++ (body_lines bd ++ (0, f.End) ∷ []) ++ qs)
    (subst (Passes (record d { handlers = n; locals = 0; loops = 0; begins = d.begins + 1 })) regroup outer) in
    λ c b.
    let fewer = b.handlers in
    let here : c.handlers + 1 ≤ 1024 = omega arith in
    rw (
      handler-counts h.line h.on h.args c,
      handler-over h.on h.args
          (record c { handlers = c.handlers + 1; locals = 0; loops = 0 }) here,
    )
    (begins (record c { handlers = c.handlers + 1; locals = 0; loops = 0 }) (record {
      states = b.states;
      messages = b.messages;
      handlers = omega arith;
      infos = b.infos;
      locals = omega arith;
      loops = omega arith;
      begins = b.begins;
    }))

fewer-handlers : (d : Counts) (n m : ℕ) (qs : Lines) → n ≤ m → Loose (record d { handlers = m }) qs →
    Loose (record d { handlers = n }) qs
fewer-handlers d n m qs le h l o c b = h l o c (record {
  states = b.states;
  messages = b.messages;
  infos = b.infos;
  begins = b.begins;
  loops = b.loops;
  locals = b.locals;
  handlers = let x = b.handlers in omega arith;
})

pub pass-handlers : (hs : List Handler) → Each IsWithin hs → (d : Counts) (qs : Lines) → d.begins ≡ 1 →
    d.handlers + length hs ≤ 1024 → Loose (record d { handlers = d.handlers + length hs }) qs →
    Loose d (flat_map handler_lines hs ++ qs)
pass-handlers [] all d qs one le k = fewer-handlers d d.handlers (d.handlers + 0) qs (omega arith) k
pass-handlers (h ∷ hs) (w, ws) d qs one le k =
    let rest = pass-handlers hs ws (record d { handlers = d.handlers + 1 }) qs one (omega arith)
    (fewer-handlers d (d.handlers + 1 + length hs) (d.handlers + length (h ∷ hs)) qs (omega arith) k) in
    subst (Loose d) (sym (append_assoc (handler_lines h) (flat_map handler_lines hs) qs))
    (pass-handler h w d (flat_map handler_lines hs ++ qs) one (omega arith) rest)
