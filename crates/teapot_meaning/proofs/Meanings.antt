-- A message has one meaning.
use Rattle.std.proofs.Common.{◌≡◌, Option, Some, None, refl, subst}
use Rattle.tw_base.specs.declared.message.Message.{Message}
use Rattle.teapot_meaning.specs.Handlers.{HasDefault, handler_in}
use Rattle.teapot_tree.specs.declared.protocol.Handler.{Handler}
use Rattle.teapot_tree.specs.declared.protocol.Protocol.{Protocol}
use Rattle.teapot_tree.specs.declared.protocol.State.{State}
use Rattle.teapot_meaning.specs.declared.state.Ended.{Ended}
use Rattle.teapot_meaning.specs.declared.state.Here.{Here}
use Rattle.teapot_meaning.specs.Does.{Does, HasOneMeaning, started, state_of}
use Rattle.teapot_meaning.specs.Fits.{Fits}
use Rattle.teapot_meaning.specs.Goes.{Goes}
use Rattle.teapot_tree.specs.Rules.{IsAccepted}
use Rattle.teapot_meaning.proofs.Served.{served}
use Rattle.teapot_meaning.proofs.Ends.{one_end, same_end}
use Rattle.teapot_meaning.proofs.Handling.{all_at, handler_found, state_found}

-- a choice that is never none
chosen : (o : Option Handler) → (o ≡ None → ⊥) → (h : Handler) × (o ≡ Some h)
chosen (Some h) never = (h, refl)
chosen None never = absurd (never refl)

same_meaning : (p : Protocol) (here : Here) (m : Message) (s : State) (h : Handler) (e f : Ended) → state_of p here ≡ Some s →
    handler_in p m.kind s ≡ Some h → Goes p h.body (started s h here m) e → Does p here m f → f ≡ e
same_meaning p here m s h e f is_state is_handler goes d =
    let same_state : d.state ≡ s = cc (is_state, d.is_state) in
    let other : handler_in p m.kind s ≡ Some d.handler = subst
    (λ x. handler_in p m.kind x ≡ Some d.handler) same_state d.is_handler in
    let same_handler : d.handler ≡ h = cc (is_handler, other) in
    let g : Goes p d.handler.body (started s d.handler here m) f =
    subst (λ x. Goes p d.handler.body (started x d.handler here m) f) same_state d.goes in
    same_end p goes (subst (λ x. Goes p x.body (started s x here m) f) same_handler g)

pub one_meaning : (p : Protocol) (here : Here) (m : Message) → IsAccepted p → Fits p here → HasOneMeaning p here m
one_meaning p here m accepted fits =
    let s = state_found p here fits in
    let has = all_at HasDefault p.states _ s.0 (served p accepted).defaults s.1 in
    let h = chosen (handler_in p m.kind s.0) (handler_found p m.kind s.0 has) in
    let end = one_end p h.0.body (started s.0 h.0 here m) in
    record {
      end = end.end;
      does = record { state = s.0; handler = h.0; is_state = s.1; is_handler = h.1; goes = end.goes };
      only = λ f d. same_meaning p here m s.0 h.0 end.end f s.1 h.1 end.goes d;
    }
