-- A message has one meaning at a block.
use Rattle.std.proofs.Common.{◌≡◌, List, Some, subst, sym, ◌∙◌}
use Rattle.tw_base.specs.declared.message.Message.{Message}
use Rattle.teapot_meaning.specs.Does.{Does, started}
use Rattle.teapot_meaning.specs.Goes.{Goes, ends, goes_on}
use Rattle.teapot_meaning.specs.Handlers.{handler_in}
use Rattle.teapot_meaning.specs.declared.state.Ended.{Ended}
use Rattle.teapot_meaning.specs.declared.state.Here.{Here}
use Rattle.teapot_meaning.specs.declared.state.Next.{Next}
use Rattle.teapot_meaning.specs.declared.state.Next.TheVariants.{On}
use Rattle.teapot_meaning.specs.declared.state.Running.{Running}
use Rattle.teapot_tree.specs.declared.protocol.Handler.{Handler}
use Rattle.teapot_tree.specs.declared.protocol.Protocol.{Protocol}
use Rattle.teapot_tree.specs.declared.protocol.State.{State}
use Rattle.teapot_tree.specs.declared.stmt.Stmt.{Stmt}

-- where one next is named twice
carried : (p : Protocol) (a b : List Stmt) (q r : Running) (n : Next) (e : Ended) → n ≡ On a q → n ≡ On b r → Goes p b r e →
    Goes p a q e
carried p a b q r n e h k g =
    let same_list : b ≡ a = cc in
    let same_run : r ≡ q = cc in
    subst (λ x. Goes p a x e) same_run (subst (λ x. Goes p x r e) same_list g)

same_end : (p : Protocol) {stmts : List Stmt} {r : Running} {e f : Ended} → Goes p stmts r e → Goes p stmts r f → f ≡ e
same_end p (ends h) (ends k) = cc
same_end p (ends h) (goes_on k y) = cc
same_end p (goes_on h x) (ends k) = cc
same_end p (goes_on h x) (goes_on k y) = same_end p x (carried p _ _ _ _ _ _ h k y)

one_state : (a b : State) → Some a ≡ Some b → a ≡ b
one_state a b e = cc

one_handler : (a b : Handler) → Some a ≡ Some b → a ≡ b
one_handler a b e = cc

pub one_end : (p : Protocol) (here : Here) (m : Message) (x y : Ended) → Does p here m x → Does p here m y → x ≡ y
one_end p here m x y a b =
    let state : a.state ≡ b.state = one_state a.state b.state (sym a.is_state ∙ b.is_state) in
    let found : handler_in p m.kind a.state ≡ Some b.handler =
    subst (λ (s : State). handler_in p m.kind s ≡ Some b.handler) (sym state) b.is_handler in
    let handler : a.handler ≡ b.handler = one_handler a.handler b.handler (sym a.is_handler ∙ found) in
    let from_state : Goes p b.handler.body (started a.state b.handler here m) y =
    subst (λ (s : State). Goes p b.handler.body (started s b.handler here m) y) (sym state) b.goes in
    let goes : Goes p a.handler.body (started a.state a.handler here m) y =
    subst (λ (h : Handler). Goes p h.body (started a.state h here m) y) (sym handler) from_state in
    sym (same_end p a.goes goes)
