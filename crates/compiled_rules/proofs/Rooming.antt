-- The code of an accepted protocol has at most 21 slots a handler.
use Rattle.std.proofs.Common.{◌≡◌, ℕ, ◌≤◌, ◌++◌, length, length-append, Option, Some, None, refl, arith}
use Rattle.std.specs.Prelude.{map, slice_get}
use Rattle.std.specs.Str.{bytes_eq}
use Rattle.teapot_tree.specs.declared.protocol.Handler.{Handler}
use Rattle.teapot_tree.specs.declared.protocol.MessageDecl.{MessageDecl}
use Rattle.teapot_tree.specs.declared.protocol.Param.{Param}
use Rattle.teapot_tree.specs.declared.protocol.Protocol.{Protocol}
use Rattle.teapot_tree.specs.declared.protocol.State.{State}
use Rattle.teapot_tree.specs.declared.protocol.Trigger.{Trigger}
use Rattle.teapot_tree.specs.declared.protocol.Trigger.TheVariants as on
use Rattle.teapot_tree.specs.Bodies.{body_of}
use Rattle.teapot_tree.specs.Parts.{loops}
use Rattle.teapot_tree.specs.Rules.{IsAccepted}
use Rattle.teapot_tree.specs.Scopes.{args_of, message_of, taken_message}
use Rattle.teapot_meaning.proofs.Found.{each_at, each_flat, find_has}
use Rattle.teapot_meaning.proofs.Variables.{len_map}
use Rattle.handler_code.specs.declared.code.Code.{Code}
use Rattle.handler_code.specs.declared.code.Door.{Door}
use Rattle.code_rules.proofs.Depthly.{depths}
use Rattle.compiled_meaning.specs.Whole.{IsCode}
use Rattle.compiled_rules.specs.Room.{NeedsLittle}
use Rattle.compiled_rules.proofs.Facts.{has_handler, has_state}
use Rattle.compiled_rules.proofs.Handled.{handled}
use Rattle.compiled_rules.proofs.Keeping.{keeps}
use Rattle.compiled_rules.proofs.Slotting.{few}
use Rattle.compiled_rules.proofs.Structuring.{slots_counted}

module _ (p : Protocol) (code : Code) (a : IsAccepted p) (c : IsCode p code) where
  args_few : (trigger : Trigger) → length (args_of (taken_message p trigger)) ≤ 4
  args_few on.RdFault = omega arith
  args_few on.WrFault = omega arith
  args_few (on.Named n) = by_message (message_of p n) refl
    where
      by_message : (o : Option MessageDecl) → message_of p n ≡ o → length (args_of o) ≤ 4
      by_message None e = omega arith
      by_message (Some m) e = each_at (λ (q : MessageDecl). length q.args ≤ 4) p.messages m
          (find_has (λ d. bytes_eq d.name n) p.messages m e) a.tree.few_message_args
  args_few on.Default = omega arith

  pub slots_few : (k : ℕ) (door : Door) → slice_get code.doors k ≡ Some door → door.slots ≤ 21
  slots_few k door e =
      let y = handled p code c k door e in
      let t = y.entry.state in
      let h = y.entry.handler in
      let i = has_state p code a c k door y in
      let j = has_handler p code a c k door y in
      let count = slots_counted p code a c k door y in
      let args : length h.args ≤ 4 = omega (arith, few p a t i h j, args_few h.on) in
      let params : length t.params ≤ 4 = each_at (λ (s : State). length s.params ≤ 4) p.states t i a.tree.few_params in
      let locals : length h.locals ≤ 8 = each_at (λ (q : Handler). length q.locals ≤ 8) t.handlers h j
      (each_flat _ (λ (s : State). s.handlers) p.states t i a.tree.few_locals) in
      let turns : loops (body_of h.body) ≤ 4 = each_at (λ (q : Handler). loops (body_of q.body) ≤ 4) t.handlers h j
      (each_flat _ (λ (s : State). s.handlers) p.states t i a.tree.few_loops) in
      omega (
        arith,
        length-append (map (λ (q : Param). q.name) t.params) (h.args ++ map (λ (q : Param). q.name) h.locals),
        length-append h.args (map (λ (q : Param). q.name) h.locals),
        len_map (λ (q : Param). q.name) t.params,
        len_map (λ (q : Param). q.name) h.locals,
      )

  pub needs_little : NeedsLittle p code
  needs_little = record { slots = slots_few; depths = depths p code (keeps p code a c) }
