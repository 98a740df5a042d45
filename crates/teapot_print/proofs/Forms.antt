-- What holds of a tree's names and expressions holds of each of its lines.
use Rattle.std.proofs.Common.{◌≡◌, ℕ, ◌+◌, List, [], ◌∷◌, ◌++◌, map, true, refl, inl, inr, arith}
use Rattle.std.specs.Prelude.{◌⊎◌}
use Rattle.std.specs.List.{flat_map}
use Rattle.tw_base.specs.Lists.{Each}
use Rattle.tw_base.specs.declared.name.Name.{Name}
use Rattle.teapot_tree.specs.declared.expr.Expr.{Expr}
use Rattle.teapot_tree.specs.declared.protocol.Handler.{Handler}
use Rattle.teapot_tree.specs.declared.protocol.MessageDecl.{MessageDecl}
use Rattle.teapot_tree.specs.declared.protocol.Param.{Param}
use Rattle.teapot_tree.specs.declared.protocol.Protocol.{Protocol}
use Rattle.teapot_tree.specs.declared.protocol.Start.{Start}
use Rattle.teapot_tree.specs.declared.protocol.State.{State}
use Rattle.teapot_tree.specs.declared.protocol.Trigger.{Trigger}
use Rattle.teapot_tree.specs.declared.protocol.Trigger.TheVariants as t
use Rattle.teapot_tree.specs.Bodies.{Simple, assign, send, send_all, set_tag, set_state, suspend, resume, install, enqueue}
use Rattle.teapot_tree.specs.Bodies.{wake_up, error, Body, done, plain, branch, branches, loop, each, body_of}
use Rattle.teapot_tree.specs.Grammar.{IsTree, IsName}
use Rattle.teapot_tree.specs.Parts.{names_in, exprs_in, simple_exprs, simple_words, words_in, loops, eaches, exprs_of}
use Rattle.teapot_tree.specs.Parts.{handlers_of, trigger_words, option_words, handler_names, state_names, names_of, fits}
use Rattle.teapot_lines.specs.declared.form.Form.{Form}
use Rattle.teapot_lines.specs.declared.form.Form.TheVariants as f
use Rattle.teapot_parse.specs.Trees.{Lines, simple_form, body_lines, handler_form, handler_lines, local_line, state_lines}
use Rattle.teapot_parse.specs.Trees.{message_line, info_line, start_line, lines_of, typed_of}
use Rattle.teapot_parse.proofs.Again.{each-both, each-flat, each-map}
use Rattle.teapot_parse.proofs.Builds.{each-parts}
use Rattle.teapot_parse.proofs.Goods.{each-append, flat-each, typed_name}
use Rattle.teapot_print.proofs.Stays.{GoodExpr, GoodForm}

flat-parts : {X Y : Type 0} (P : Y → Type 0) (g : X → List Y) (xs : List X) → Each P (flat_map g xs) → Each (λ x. Each P (g x)) xs
flat-parts P g [] h = tt
flat-parts P g (x ∷ xs) h = let parts = each-parts P (g x) (flat_map g xs) h in (parts.0, flat-parts P g xs parts.1)

module _ (profile : ℕ) where
  abbrev N : Name → Type 0
  N = IsName profile

  abbrev Q : Expr → Type 0
  Q = GoodExpr profile

  abbrev pub GoodLine : ℕ × Form Expr → Type 0
  GoodLine q = GoodForm profile q.1

  -- what follows from each of some names
  names-map : {X : Type 0} (name_of : X → Name) (line_of : X → ℕ × Form Expr) →
      ((x : X) → N (name_of x) → GoodLine (line_of x)) → (xs : List X) → Each N (map name_of xs) →
      Each GoodLine (map line_of xs)
  names-map name_of line_of go [] h = tt
  names-map name_of line_of go (x ∷ xs) (h, hs) = (go x h, names-map name_of line_of go xs hs)

  -- ---- bodies

  simple-good : (s : Simple) → Each N (simple_words s) → Each Q (simple_exprs s) → GoodForm profile (simple_form s)
  simple-good (assign n e) w x = (w, x, tt)
  simple-good (send e n xs) w x = (w, x, tt)
  simple-good (send_all e n xs) w x = (w, x, tt)
  simple-good (set_tag g) w x = (tt, tt, tt)
  simple-good (set_state n xs) w x = (w, x, tt)
  simple-good (suspend l n xs p) w x = (w, x, tt)
  simple-good (resume n) w x = (w, tt, tt)
  simple-good install w x = (tt, tt, tt)
  simple-good enqueue w x = (tt, tt, tt)
  simple-good wake_up w x = (tt, tt, tt)
  simple-good (error n) w x = (w, tt, tt)

  -- no loop stands there, or the profile has loops
  abbrev Loops : ℕ → Type 0
  Loops n = (n ≡ 0) ⊎ (profile ≡ 2)

  fewer : (n k : ℕ) → (n ≡ 0 → k ≡ 0) → Loops n → Loops k
  fewer n k go (inl e) = inl (go e)
  fewer n k go (inr two) = inr two

  loop-profile : (n k : ℕ) → n ≡ 1 + k → Loops n → profile ≡ 2
  loop-profile n k is (inl none) = absurd (omega arith)
  loop-profile n k is (inr two) = two

  -- the lines of a block, its End and what stands behind
  block-good : (x rest : Lines) → Each GoodLine x → Each GoodLine rest → Each GoodLine (x ++ ((0, f.End) ∷ rest))
  block-good x rest h k = each-append GoodLine x ((0, f.End) ∷ rest) h ((tt, tt, tt), k)

  body-good : (b : Body) → eaches b ≡ 0 → Loops (loops b) → Each N (words_in b) → Each Q (exprs_in b) →
      Each GoodLine (body_lines b)
  body-good done n l w x = tt
  body-good (plain line s b) n l w x =
      let ws = each-parts N (simple_words s) (words_in b) w in
      let xs = each-parts Q (simple_exprs s) (exprs_in b) x in
      (simple-good s ws.0 xs.0, body-good b n l ws.1 xs.1)
  body-good (branch line e y b) n l w (one, x) =
      let ny : eaches y ≡ 0 = omega arith in
      let nb : eaches b ≡ 0 = omega arith in
      let ws = each-parts N (words_in y) (words_in b) w in
      let xs = each-parts Q (exprs_in y) (exprs_in b) x in
      let first = body-good y ny (fewer (loops y + loops b) (loops y) (λ z. omega arith) l) ws.0 xs.0 in
      let rest = body-good b nb (fewer (loops y + loops b) (loops b) (λ z. omega arith) l) ws.1 xs.1 in
      ((tt, (one, tt), tt), ((tt, tt, tt), block-good (body_lines y) (body_lines b) first rest))
  body-good (branches line e y z b) n l w (one, x) =
      let ny : eaches y ≡ 0 = omega arith in
      let nz : eaches z ≡ 0 = omega arith in
      let nb : eaches b ≡ 0 = omega arith in
      let ws = each-parts N (words_in y) (words_in z ++ words_in b) w in
      let wz = each-parts N (words_in z) (words_in b) ws.1 in
      let xs = each-parts Q (exprs_in y) (exprs_in z ++ exprs_in b) x in
      let xz = each-parts Q (exprs_in z) (exprs_in b) xs.1 in
      let all = loops y + (loops z + loops b) in
      let first = body-good y ny (fewer all (loops y) (λ u. omega arith) l) ws.0 xs.0 in
      let second = body-good z nz (fewer all (loops z) (λ u. omega arith) l) wz.0 xz.0 in
      let rest = body-good b nb (fewer all (loops b) (λ u. omega arith) l) wz.1 xz.1 in
      let more = block-good (body_lines z) (body_lines b) second rest in (
        (tt, (one, tt), tt),
        (
          (tt, tt, tt),
          block-good (body_lines y)
              ((0, f.Else) ∷ (0, f.Begin) ∷ (body_lines z ++ ((0, f.End) ∷ body_lines b))) first
              ((tt, tt, tt), ((tt, tt, tt), more)),
        ),
      )
  body-good (loop line v e y b) n l (name, w) (one, x) =
      let ny : eaches y ≡ 0 = omega arith in
      let nb : eaches b ≡ 0 = omega arith in
      let ws = each-parts N (words_in y) (words_in b) w in
      let xs = each-parts Q (exprs_in y) (exprs_in b) x in
      let all = 1 + (loops y + loops b) in
      let first = body-good y ny (fewer all (loops y) (λ u. omega arith) l) ws.0 xs.0 in
      let rest = body-good b nb (fewer all (loops b) (λ u. omega arith) l) ws.1 xs.1 in (
        ((name, tt), (one, tt), loop-profile all (loops y + loops b) refl l),
        ((tt, tt, tt), block-good (body_lines y) (body_lines b) first rest),
      )
  body-good (each line v s y b) n l w x = absurd (omega arith)

  -- ---- handlers

  -- what is known of a handler beside its names
  abbrev pub Known : Handler → Type 0
  Known h = Each (λ e. fits e ≡ true) (exprs_of h) × (eaches (body_of h.body) ≡ 0) × Loops (loops (body_of h.body))

  trigger-good : (on : Trigger) (args : List Name) → Each N (trigger_words on) → Each N args →
      GoodForm profile (handler_form on args)
  trigger-good t.RdFault args w x = (x, tt, tt)
  trigger-good t.WrFault args w x = (x, tt, tt)
  trigger-good (t.Named n) args w x = ((w.0, x), tt, tt)
  trigger-good t.Default args w x = (tt, tt, tt)

  handler-good : (h : Handler) → Known h → Each N (handler_names h) → Each GoodLine (handler_lines h)
  handler-good h (numbers, none, few) names =
      let b = body_of h.body in
      let exprs = flat_map names_in (exprs_of h) in
      let locals = map (λ (a : Param). a.name) h.locals in
      let p1 = each-parts N (trigger_words h.on) (h.args ++ (locals ++ (words_in b ++ exprs))) names in
      let p2 = each-parts N h.args (locals ++ (words_in b ++ exprs)) p1.1 in
      let p3 = each-parts N locals (words_in b ++ exprs) p2.1 in
      let p4 = each-parts N (words_in b) exprs p3.1 in
      let good = each-both (λ e. Each N (names_in e)) (λ e. fits e ≡ true) (exprs_of h)
      (flat-parts N names_in (exprs_of h) p4.1) numbers in
      let body = block-good (body_lines b) [] (body-good b none few p4.0 good) tt in
      let vars = names-map (λ (a : Param). a.name) local_line (λ a n. ((n, tt), tt, tt)) h.locals p3.0 in (
        trigger-good h.on h.args p1.0 p2.0,
        (
          (tt, tt, tt),
          each-append GoodLine (map local_line h.locals)
              (body_lines b ++ ((0, f.End) ∷ [])) vars body,
        ),
      )

  handlers-good : (hs : List Handler) → Each Known hs → Each (λ h. Each N (handler_names h)) hs →
      Each (λ h. Each GoodLine (handler_lines h)) hs
  handlers-good [] k n = tt
  handlers-good (h ∷ hs) (k, ks) (n, ns) = (handler-good h k n, handlers-good hs ks ns)

  -- ---- states

  params-typed : (ps : List Param) → Each N (map (λ (a : Param). a.name) ps) → Each N (map typed_name (map typed_of ps))
  params-typed [] h = tt
  params-typed (p ∷ ps) (h, hs) = (h, params-typed ps hs)

  state-good : (s : State) → Each Known s.handlers → Each N (state_names s) → Each GoodLine (state_lines s)
  state-good s known (name, more) =
      let params = map (λ (a : Param). a.name) s.params in
      let p1 = each-parts N params (option_words s.cont ++ flat_map handler_names s.handlers) more in
      let p2 = each-parts N (option_words s.cont) (flat_map handler_names s.handlers) p1.1 in
      let hs = handlers-good s.handlers known (flat-parts N handler_names s.handlers p2.1) in
      let words = each-append N (map typed_name (map typed_of s.params)) (option_words s.cont)
      (params-typed s.params p1.0) p2.0 in (
        ((name, words), tt, tt),
        (
          (tt, tt, tt),
          block-good (flat_map handler_lines s.handlers) []
              (flat-each GoodLine handler_lines s.handlers hs) tt,
        ),
      )

  states-good : (ss : List State) → Each (λ (s : State). Each Known s.handlers) ss → Each (λ s. Each N (state_names s)) ss →
      Each (λ s. Each GoodLine (state_lines s)) ss
  states-good [] k n = tt
  states-good (s ∷ ss) (k, ks) (n, ns) = (state-good s k n, states-good ss ks ns)

  -- ---- the protocol

  pub protocol-good : (p : Protocol) → p.profile ≡ profile → Each (λ (s : State). Each Known s.handlers) p.states →
      Each N (names_of p) → Each GoodLine (lines_of p)
  protocol-good p same known (name, more) =
      let ms = map (λ (m : MessageDecl). m.name) p.messages in
      let is = map (λ (a : Param). a.name) p.infos in
      let gs = map (λ (s : Start). s.state) p.starts in
      let ss = flat_map state_names p.states in
      let p1 = each-parts N ms (is ++ (gs ++ ss)) more in
      let p2 = each-parts N is (gs ++ ss) p1.1 in
      let p3 = each-parts N gs ss p2.1 in
      let l1 = names-map (λ (m : MessageDecl). m.name) message_line (λ m n. ((n, tt), tt, tt)) p.messages p1.0 in
      let l2 = names-map (λ (a : Param). a.name) info_line (λ a n. ((n, tt), tt, tt)) p.infos p2.0 in
      let l3 = names-map (λ (s : Start). s.state) start_line (λ s n. ((n, tt), tt, tt)) p.starts p3.0 in
      let l4 = flat-each GoodLine state_lines p.states (states-good p.states known (flat-parts N state_names p.states p3.1)) in
      let lines3 = map start_line p.starts ++ flat_map state_lines p.states in
      let lines2 = map info_line p.infos ++ lines3 in (
        ((name, tt), tt, same),
        each-append GoodLine (map message_line p.messages) lines2 l1
            (each-append GoodLine (map info_line p.infos) lines3 l2
            (each-append GoodLine (map start_line p.starts) (flat_map state_lines p.states) l3 l4)),
      )

no-loops : (p : Protocol) → IsTree p → (p.profile ≡ 1) ⊎ (p.profile ≡ 2) →
    Each (λ (h : Handler). (loops (body_of h.body) ≡ 0) ⊎ (p.profile ≡ 2)) (handlers_of p)
no-loops p tree (inl one) = each-map (λ (h : Handler). loops (body_of h.body) ≡ 0)
    (λ (h : Handler). (loops (body_of h.body) ≡ 0) ⊎ (p.profile ≡ 2)) (λ h e. inl e) (handlers_of p) (tree.no_loop one)
no-loops p tree (inr two) = any (handlers_of p)
  where
    any : (hs : List Handler) → Each (λ (h : Handler). (loops (body_of h.body) ≡ 0) ⊎ (p.profile ≡ 2)) hs
    any [] = tt
    any (h ∷ hs) = (inr two, any hs)

-- the lines of a tree of the grammar are good
pub tree-good : (p : Protocol) → IsTree p → Each (GoodLine p.profile) (lines_of p)
tree-good p tree =
    let hs = handlers_of p in
    let few = no-loops p tree tree.profiles in
    let two = each-both (λ (h : Handler). eaches (body_of h.body) ≡ 0)
    (λ (h : Handler). (loops (body_of h.body) ≡ 0) ⊎ (p.profile ≡ 2)) hs tree.no_each few in
    let all = each-both (λ (h : Handler). Each (λ e. fits e ≡ true) (exprs_of h))
    (λ (h : Handler). (eaches (body_of h.body) ≡ 0) × ((loops (body_of h.body) ≡ 0) ⊎ (p.profile ≡ 2))) hs tree.numbers
    two in
    let known = each-map _ (Known p.profile) (λ h x. (x.0, x.1.0, x.1.1)) hs all in
    protocol-good p.profile p refl (each-flat (Known p.profile) p.states known) tree.names
