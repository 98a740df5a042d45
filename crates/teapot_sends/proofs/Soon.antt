-- A handler takes few steps.
use Rattle.std.proofs.Common.{◌≡◌, ℕ, zero, suc, ◌+◌, ◌*◌, max, length, ◌≤◌, List, [], ◌∷◌, Some, None, refl, subst, arith}
use Rattle.std.proofs.Common.{length-append}
use Rattle.std.specs.Prelude.{Contains}
use Rattle.tw_base.specs.Lists.{Each}
use Rattle.tw_base.specs.declared.message.Message.{Message}
use Rattle.teapot_tree.specs.declared.protocol.Handler.{Handler}
use Rattle.teapot_tree.specs.declared.protocol.Protocol.{Protocol}
use Rattle.teapot_tree.specs.declared.protocol.State.{State}
use Rattle.teapot_tree.specs.declared.stmt.Do.TheOpen.{Do-F}
use Rattle.teapot_tree.specs.declared.stmt.Stmt.{Stmt}
use Rattle.teapot_tree.specs.Bodies.{Body, done, plain, branch, branches, loop, each, body_of}
use Rattle.teapot_tree.specs.Parts.{eaches, handlers_of, loops}
use Rattle.teapot_tree.specs.Paths.{steps_in}
use Rattle.teapot_tree.specs.Rules.{IsAccepted}
use Rattle.teapot_meaning.specs.Does.{Does}
use Rattle.teapot_meaning.specs.Fits.{Fits}
use Rattle.teapot_meaning.specs.Goes.{Goes, ends, goes_on}
use Rattle.teapot_meaning.specs.Layers.{Layer, what_of}
use Rattle.teapot_meaning.specs.Steps.{next_of}
use Rattle.teapot_meaning.specs.declared.state.Ended.{Ended}
use Rattle.teapot_meaning.specs.declared.state.Here.{Here}
use Rattle.teapot_meaning.specs.declared.state.Next.{Next}
use Rattle.teapot_meaning.specs.declared.state.Next.TheVariants.{On, Over}
use Rattle.teapot_meaning.specs.declared.state.Running.{Running}
use Rattle.teapot_meaning.specs.declared.state.StateVal.{out-StateVal}
use Rattle.teapot_meaning.proofs.Found.{each_at, each_flat, slice_has}
use Rattle.teapot_meaning.proofs.Starting.{taker}
use Rattle.teapot_sends.specs.Counts.{HoldAtMost, steps}
use Rattle.teapot_sends.specs.Prices.{by_steps, in_text}
use Rattle.teapot_sends.proofs.Bodies.{ahead-le}
use Rattle.teapot_sends.proofs.Kept.{HandlersCost, owed-le}
use Rattle.teapot_sends.proofs.Steps.{Pays, due, price, step_pays}

-- ---- what a text costs

-- how often a statement is met at most within so many loops, and once more for the loops' own turns
times : ℕ → ℕ
times zero = 2
times (suc l) = 8 * times l

times-least : (l : ℕ) → 2 ≤ times l
unfolding times
times-least zero = omega arith
times-least (suc l) = let i = times-least l in omega arith

-- one part, and two or three of them, at so much a statement
plain_cost : (t x n : ℕ) → 2 ≤ t → x ≤ t * n → 1 + x ≤ t * suc n
plain_cost t x n two le = omega arith

branch_cost : (t x y n m : ℕ) → 2 ≤ t → x ≤ t * n → y ≤ t * m → 1 + x + y ≤ t * suc (n + m)
branch_cost t x y n m two i j = omega arith

branches_cost : (t x y z n m k : ℕ) → 2 ≤ t → x ≤ t * n → y ≤ t * m → z ≤ t * k → 1 + max x y + z ≤ t * suc (n + (m + k))
branches_cost t x y z n m k two i j l = omega arith

loop_cost : (t x y n m : ℕ) → 2 ≤ t → x ≤ t * n → y ≤ 8 * t * m → 8 * (1 + x) + 2 * 1 + y ≤ 8 * t * suc (n + m)
loop_cost t x y n m two i j = omega arith

text-steps : (l : ℕ) (b : Body) → loops b ≤ l → eaches b ≡ 0 → in_text by_steps b ≤ times l * length (steps_in b)
unfolding times
text-steps l done few none = omega arith
text-steps l (plain line s b) few none = plain_cost (times l) (in_text by_steps b) (length (steps_in b)) (times-least l)
    (text-steps l b few none)
text-steps l (branch line e x b) few none =
    rw length-append (branch_cost (times l) (in_text by_steps x) (in_text by_steps b) (length (steps_in x))
    (length (steps_in b)) (times-least l) (text-steps l x (omega arith) (omega arith))
    (text-steps l b (omega arith) (omega arith)))
text-steps l (branches line e x y b) few none =
    rw (length-append, length-append) (branches_cost (times l) (in_text by_steps x) (in_text by_steps y) (in_text by_steps b)
    (length (steps_in x)) (length (steps_in y)) (length (steps_in b)) (times-least l)
    (text-steps l x (omega arith) (omega arith)) (text-steps l y (omega arith) (omega arith))
    (text-steps l b (omega arith) (omega arith)))
text-steps zero (loop line v e x b) few none = absurd (omega arith)
text-steps (suc l) (loop line v e x b) few none =
    rw length-append (loop_cost (times l) (in_text by_steps x) (in_text by_steps b) (length (steps_in x)) (length (steps_in b))
    (times-least l) (text-steps l x (omega arith) (omega arith)) (text-steps (suc l) b (omega arith) (omega arith)))
text-steps l (each line v set x b) few none = absurd (omega arith)

-- ---- steps

one_step : (l : Layer) → price by_steps l ≡ 1
one_step (Do-F.If e xs None) = refl
one_step (Do-F.If e xs (Some ys)) = refl
one_step _ = refl

-- what is left to pay falls
Falls : ℕ → Next → Type 0
Falls n (On rest r) = due by_steps rest r + 1 ≤ n
Falls n (Over e) = Unit {0}

falls : (n paid : ℕ) (next : Next) → paid ≡ 1 → Pays by_steps n paid next → Falls n next
unfolding Falls
falls n paid (On rest r) e pays = omega arith
falls n paid (Over f) e pays = tt

next_falls : (p : Protocol) (stmts : List Stmt) (r : Running) → Falls (due by_steps stmts r) (next_of p stmts r)
unfolding Falls
next_falls p [] r = tt
next_falls p (s ∷ rest) r = falls _ _ (next_of p (s ∷ rest) r) (one_step (what_of s)) (step_pays by_steps p s rest r)

goes_soon : (p : Protocol) {stmts : List Stmt} {r : Running} {e : Ended} (g : Goes p stmts r e) →
    steps g ≤ due by_steps stmts r + 1
unfolding Falls
goes_soon p (ends h) = omega arith
goes_soon p (goes_on {stmts = stmts} {r = r} h more) =
    let step = subst (Falls (due by_steps stmts r)) h (next_falls p stmts r) in
    let rest = goes_soon p more in
    omega arith

-- ---- the law

handlers_cost : (p : Protocol) (n : ℕ) → IsAccepted p → HoldAtMost n p → HandlersCost by_steps p (8192 * n)
unfolding times
handlers_cost p n a hold t h i j =
    let none : eaches (body_of h.body) ≡ 0 = in_protocol (λ (k : Handler). eaches (body_of k.body) ≡ 0) a.tree.no_each in
    let few : loops (body_of h.body) ≤ 4 = in_protocol (λ (k : Handler). loops (body_of k.body) ≤ 4) a.tree.few_loops in
    let held : length (steps_in (body_of h.body)) ≤ n = in_protocol
    (λ (k : Handler). length (steps_in (body_of k.body)) ≤ n) hold in
    let cost : in_text by_steps (body_of h.body) ≤ 8192 * length (steps_in (body_of h.body)) =
    text-steps 4 (body_of h.body) few none in
    omega arith
  where
    in_protocol : (P : Handler → Type 0) → Each P (handlers_of p) → P h
    in_protocol P all = each_at P t.handlers h j (each_flat P (λ (d : State). d.handlers) p.states t i all)

pub few_steps : (p : Protocol) (here : Here) (m : Message) (e : Ended) (n : ℕ) → IsAccepted p → Fits p here → HoldAtMost n p →
    (d : Does p here m e) → steps d.goes ≤ 73728 * n + 1
few_steps p here m e n a fits hold d =
    let cost = handlers_cost p n a hold in
    let i : Contains p.states d.state = slice_has p.states (out-StateVal here.state).state d.state d.is_state in
    let j = (taker p m.kind d.state d.handler d.is_handler).0 in
    let body = cost d.state d.handler i j in
    let first = ahead-le by_steps (body_of d.handler.body) in
    let kept = owed-le by_steps p (8192 * n) (length here.words) 9 here.state cost fits.state in
    let all = goes_soon p d.goes in
    omega arith
