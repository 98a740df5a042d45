-- Statements come to one end.
use Rattle.std.proofs.Common.{◌≡◌, ℕ, zero, suc, ◌<◌, List, refl, subst, arith}
use Rattle.teapot_tree.specs.declared.protocol.Protocol.{Protocol}
use Rattle.teapot_tree.specs.declared.stmt.Stmt.{Stmt}
use Rattle.teapot_meaning.specs.declared.state.Ended.{Ended}
use Rattle.teapot_meaning.specs.declared.state.Next.{Next}
use Rattle.teapot_meaning.specs.declared.state.Next.TheVariants.{On, Over}
use Rattle.teapot_meaning.specs.declared.state.Running.{Running}
use Rattle.teapot_meaning.specs.Depth.{work}
use Rattle.teapot_meaning.specs.Steps.{next_of}
use Rattle.teapot_meaning.specs.Goes.{Goes, ends, goes_on, HasOneEnd}
use Rattle.teapot_meaning.proofs.Weights.{next_falls}

-- where one next is named twice
carried : (p : Protocol) (a b : List Stmt) (q r : Running) (n : Next) (e : Ended) → n ≡ On a q → n ≡ On b r → Goes p b r e →
    Goes p a q e
carried p a b q r n e h k g =
    let same_list : b ≡ a = cc in
    let same_run : r ≡ q = cc in
    subst (λ x. Goes p a x e) same_run (subst (λ x. Goes p x r e) same_list g)

pub same_end : (p : Protocol) {stmts : List Stmt} {r : Running} {e f : Ended} → Goes p stmts r e → Goes p stmts r f → f ≡ e
same_end p (ends h) (ends k) = cc
same_end p (ends h) (goes_on k y) = cc
same_end p (goes_on h x) (ends k) = cc
same_end p (goes_on h x) (goes_on k y) = same_end p x (carried p _ _ _ _ _ _ h k y)

-- An end is reached within as many steps as there is work.
reached : (p : Protocol) (n : ℕ) (stmts : List Stmt) (r : Running) → work stmts r < n → (e : Ended) × Goes p stmts r e
reached p zero stmts r lt = absurd (omega arith)
reached p (suc n) stmts r lt =
    by_next (next_of p stmts r) refl (λ rest after h. reached p n rest after (omega (arith, next_falls p stmts rest r after h)))
  where
    by_next : (next : Next) → next_of p stmts r ≡ next → ((rest : List Stmt) (after : Running) →
        next_of p stmts r ≡ On rest after → (e : Ended) × Goes p rest after e) → (e : Ended) × Goes p stmts r e
    by_next (On rest after) h go = let a = go rest after h in (a.0, goes_on h a.1)
    by_next (Over e) h go = (e, ends h)

pub one_end : (p : Protocol) (stmts : List Stmt) (r : Running) → HasOneEnd p stmts r
one_end p stmts r =
    let a = reached p (suc (work stmts r)) stmts r (omega arith) in
    record { end = a.0; goes = a.1; only = λ e h. same_end p a.1 h }
