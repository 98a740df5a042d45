-- What is known of each handler in the code of an accepted protocol.
use Rattle.std.proofs.Common.{◌≡◌, ◌∙◌, ℕ, zero, suc, ◌+◌, ◌<◌, ◌≤◌, ◌⊎◌, true, List, [], ◌∷◌, length, Some, refl, ap, sym}
use Rattle.std.proofs.Common.{subst, arith, inl, inr}
use Rattle.std.specs.Prelude.{slice_get, unwrap_or, Contains}
use Rattle.std.proofs.lemmas.Option.{slice_get_within}
use Rattle.tw_base.specs.Lists.{Each}
use Rattle.teapot_tree.specs.declared.expr.Expr.{Expr}
use Rattle.teapot_tree.specs.declared.protocol.Handler.{Handler}
use Rattle.teapot_tree.specs.declared.protocol.Protocol.{Protocol}
use Rattle.teapot_tree.specs.declared.protocol.State.{State}
use Rattle.teapot_tree.specs.declared.stmt.Stmt.{Stmt}
use Rattle.teapot_tree.specs.Bodies.{body_of, tree_of}
use Rattle.teapot_tree.specs.Parts.{depth, eaches, exprs_of}
use Rattle.teapot_tree.specs.Rules.{IsAccepted}
use Rattle.teapot_tree.proofs.Iso.{tree-body}
use Rattle.teapot_meaning.proofs.Found.{each_at, each_flat, slice_has}
use Rattle.teapot_meaning.proofs.Sound.{are_sound, scope_of, sound_body}
use Rattle.handler_code.specs.declared.code.Code.{Code}
use Rattle.handler_code.specs.declared.code.Door.{Door}
use Rattle.handler_code.specs.declared.code.OpCode.{OpCode}
use Rattle.handler_code.specs.declared.code.OpCode.TheVariants as op
use Rattle.handler_code.specs.Live.{HasOp}
use Rattle.code_walks.specs.Parts.{end_of, op_at}
use Rattle.compiled_meaning.specs.Compiled.{code_of, loops_in}
use Rattle.compiled_meaning.specs.Whole.{IsCode}
use Rattle.compiled_meaning.proofs.Accepted.{all_fine}
use Rattle.compiled_meaning.proofs.Handlers.{rests}
use Rattle.compiled_meaning.proofs.Placed.{loops_in-append}
use Rattle.compiled_meaning.proofs.Places.{HasAt, RestsFollow}
use Rattle.compiled_rules.proofs.Handled.{Handled, body_code, names_of}
use Rattle.compiled_rules.proofs.Neat.{Neat, neat}
use Rattle.compiled_rules.proofs.Spans.{before_or}
use Rattle.compiled_rules.proofs.Walk.{Closed, Shallow, walk}

some_there : {X : Type 0} (xs : List X) (n : ℕ) (d : X) → n < length xs → slice_get xs n ≡ Some (unwrap_or (slice_get xs n) d)
some_there [] n d lt = absurd (omega arith)
some_there (x ∷ xs) zero d lt = refl
some_there (x ∷ xs) (suc n) d lt = some_there xs n d (omega arith)

pub op_there : (code : Code) (a : ℕ) → a < length code.ops → HasOp code.ops a (op_at code a)
op_there code a lt = some_there code.ops a op.Done lt

pub op_is : (code : Code) (a : ℕ) (o : OpCode) → HasOp code.ops a o → op_at code a ≡ o
op_is code a o e = ap (λ x. unwrap_or x op.Done) e

pub rests_stand : (p : Protocol) (code : Code) → IsAccepted p → IsCode p code → RestsFollow code
rests_stand p code a c = rests p code c (all_fine p a)

module _ (p : Protocol) (code : Code) (a : IsAccepted p) (c : IsCode p code) (number : ℕ) (door : Door)
    (x : Handled p code number door) where
  abbrev state : State
  state = x.entry.state

  abbrev handler : Handler
  handler = x.entry.handler

  pub has_state : Contains p.states state
  has_state = let o = x.of in slice_has p.states x.entry.number state o.is_state

  pub has_handler : Contains state.handlers handler
  has_handler = let o = x.of in o.handler

  pub no_each : eaches (body_of handler.body) ≡ 0
  no_each = each_at (λ (k : Handler). eaches (body_of k.body) ≡ 0) state.handlers handler has_handler
      (each_flat _ (λ (s : State). s.handlers) p.states state has_state a.tree.no_each)

  shallow : Each Shallow (exprs_of handler)
  shallow = each_at (λ (k : Handler). Each (λ (e : Expr). depth e ≤ 16) (exprs_of k)) state.handlers handler has_handler
      (each_flat _ (λ (s : State). s.handlers) p.states state has_state a.tree.shallow)

  sound : are_sound (scope_of p state handler) (tree_of (body_of handler.body)) ≡ true
  sound = subst (λ ss. are_sound (scope_of p state handler) ss ≡ true) (sym (tree-body handler.body))
      (sound_body p state handler a has_state has_handler)

  pub width : ℕ
  width = length (names_of x.entry) + loops_in (body_code p x.entry door.at x.rest)

  -- the door has a slot for each variable and for each loop
  pub slots_are : door.slots ≡ length (names_of x.entry) + loops_in (body_code p x.entry door.at x.rest)
  slots_are =
      let body = body_code p x.entry door.at x.rest in
      let k = ap (λ (d : Door). d.slots) x.on in
      omega (arith, k, loops_in-append body (op.Done ∷ []))

  -- what is closed holds of the handler
  pub holds : (Q : ℕ → ℕ → ℕ → ℕ → Type 0) → Closed p state handler code.ops Q →
      Q door.at x.fin (length (names_of x.entry)) door.slots
  holds Q q =
      let n = length (names_of x.entry) in
      let go = walk p state handler code.ops Q q (body_of handler.body) no_each sound shallow in
      let all : (at r k : ℕ) → HasAt code.ops at (code_of p (names_of x.entry) handler.body at r k) →
      Q at (at + length (code_of p (names_of x.entry) handler.body at r k)) k
      (k + loops_in (code_of p (names_of x.entry) handler.body at r k)) =
      subst (λ (ss : List Stmt). (at r k : ℕ) → HasAt code.ops at (code_of p (names_of x.entry) ss at r k) →
      Q at (at + length (code_of p (names_of x.entry) ss at r k)) k
      (k + loops_in (code_of p (names_of x.entry) ss at r k))) (tree-body handler.body) go in
      subst (λ z. Q door.at x.fin n z) (sym slots_are) (subst
      (λ z. Q door.at z n (n + loops_in (body_code p x.entry door.at x.rest))) (sym x.fin-is) (all door.at x.rest n x.has))

  pub is_neat : Neat p (names_of x.entry) code.ops door.at x.fin (length (names_of x.entry)) door.slots
  is_neat = holds _ (neat p state handler code.ops) (omega arith)

  pub fin_there : x.fin < length code.ops
  fin_there = slice_get_within code.ops x.fin op.Done x.done

  -- each op of the handler, and its last
  pub each_op : (P : OpCode → Type 0) (at : ℕ) → door.at ≤ at → at < end_of code number → (at ≡ x.fin → P op.Done) →
      (at < x.fin → HasOp code.ops at (op_at code at) → P (op_at code at)) → P (op_at code at)
  each_op P at l u done f = by_side (before_or at x.fin)
    where
      by_side : (at < x.fin) ⊎ (x.fin ≤ at) → P (op_at code at)
      by_side (inl e) = let lt = fin_there in f e (op_there code at (omega arith))
      by_side (inr e) =
          let end = x.end in
          let is : at ≡ x.fin = omega arith in
          let here : op_at code at ≡ op.Done = ap (op_at code) is ∙ op_is code x.fin op.Done x.done in
          subst P (sym here) (done is)
