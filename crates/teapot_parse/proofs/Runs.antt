-- The lines of what nests lead the pass to its end.
use Rattle.std.proofs.Common.{◌≡◌, ℕ, zero, suc, Bool, true, false, List, [], ◌∷◌, ◌++◌, Option, Some, None, refl, ap, ◌∙◌}
use Rattle.std.proofs.Common.{append_assoc}
use Rattle.teapot_parse.specs.declared.judge.Kind.{Kind}
use Rattle.teapot_parse.specs.declared.judge.Kind.TheVariants as k
use Rattle.teapot_parse.specs.declared.judge.Block.{Block}
use Rattle.teapot_parse.specs.declared.judge.Block.TheVariants.{First, Other}
use Rattle.teapot_parse.specs.declared.judge.Place.{Place}
use Rattle.teapot_parse.specs.declared.judge.Place.TheVariants as p
use Rattle.teapot_parse.specs.Nesting.{At, next_of, closed_by, is_end}
use Rattle.teapot_parse.specs.Shapes.{Body, done, plain, branch, branches, loop, Handlers, States, handler, state, times}
use Rattle.teapot_parse.specs.Shapes.{of_body, of_handlers, of_states, IsNested}

abbrev pub led : Option At → (List Block → Place → Option At) → Option At
led None on = None
led (Some s) on = on s.0 s.1

-- where some lines lead
unfoldable pub run : List Block → Place → List Kind → Option At
run bs place [] = Some (bs, place)
run bs place (kind ∷ ks) = led (next_of bs place kind) (λ b q. run b q ks)

led-append : (o : Option At) (f g h : List Block → Place → Option At) →
    ((b : List Block) (q : Place) → f b q ≡ led (g b q) h) → led o f ≡ led (led o g) h
led-append None f g h e = refl
led-append (Some s) f g h e = e s.0 s.1

pub run-append : (ks more : List Kind) (bs : List Block) (place : Place) →
    run bs place (ks ++ more) ≡ led (run bs place ks) (λ b q. run b q more)
unfolding run
run-append [] more bs place = refl
run-append (kind ∷ ks) more bs place = led-append (next_of bs place kind) _ _ _ (λ b q. run-append ks more b q)

-- a block's lines and its end
abbrev rest_of : Body → List Kind → List Kind
rest_of b ks = of_body b ++ k.End ∷ ks

after-if : (b : Body) (bs : List Block) (ks : List Kind) → run bs p.AfterIf (rest_of b ks) ≡ run bs p.Body (rest_of b ks)
unfolding run
after-if done bs ks = refl
after-if (plain b) bs ks = refl
after-if (branch x b) bs ks = refl
after-if (branches x y b) bs ks = refl
after-if (loop x b) bs ks = refl

after-locals : (b : Body) (bs : List Block) (ks : List Kind) → run bs p.Locals (rest_of b ks) ≡ run bs p.Body (rest_of b ks)
unfolding run
after-locals done bs ks = refl
after-locals (plain b) bs ks = refl
after-locals (branch x b) bs ks = refl
after-locals (branches x y b) bs ks = refl
after-locals (loop x b) bs ks = refl

abbrev closes : List Block → List Kind → Option At
closes bs ks = run (closed_by bs).0 (closed_by bs).1 ks

body-run : (b : Body) (bs : List Block) (ks : List Kind) → run bs p.Body (rest_of b ks) ≡ closes bs ks
unfolding run
body-run done bs ks = refl
body-run (plain b) bs ks = body-run b bs ks
body-run (branch x b) bs ks =
    let regroup : of_body x ++ k.End ∷ of_body b ++ k.End ∷ ks ≡ rest_of x (rest_of b ks) =
    append_assoc (of_body x) (k.End ∷ of_body b) (k.End ∷ ks) in
    ap (run (First ∷ bs) p.Body) regroup ∙ body-run x (First ∷ bs) (rest_of b ks) ∙ after-if b bs ks ∙ body-run b bs ks
body-run (branches x y b) bs ks =
    let inner : of_body y ++ k.End ∷ of_body b ++ k.End ∷ ks ≡ rest_of y (rest_of b ks) =
    append_assoc (of_body y) (k.End ∷ of_body b) (k.End ∷ ks) in
    let regroup : of_body x ++ k.End ∷ k.Else ∷ k.Begin ∷ (of_body y ++ k.End ∷ of_body b) ++ k.End ∷ ks
    ≡ rest_of x (k.Else ∷ k.Begin ∷ rest_of y (rest_of b ks)) =
    append_assoc (of_body x) (k.End ∷ k.Else ∷ k.Begin ∷ (of_body y ++ k.End ∷ of_body b)) (k.End ∷ ks)
    ∙ ap (λ (zs : List Kind). of_body x ++ k.End ∷ k.Else ∷ k.Begin ∷ zs) inner in
    ap (run (First ∷ bs) p.Body) regroup ∙ body-run x (First ∷ bs) (k.Else ∷ k.Begin ∷ rest_of y (rest_of b ks))
    ∙ body-run y (Other ∷ bs) (rest_of b ks) ∙ body-run b bs ks
body-run (loop x b) bs ks =
    let regroup : of_body x ++ k.End ∷ of_body b ++ k.End ∷ ks ≡ rest_of x (rest_of b ks) =
    append_assoc (of_body x) (k.End ∷ of_body b) (k.End ∷ ks) in
    ap (run (Other ∷ bs) p.Body) regroup ∙ body-run x (Other ∷ bs) (rest_of b ks) ∙ body-run b bs ks

locals-run : (n : ℕ) (ks : List Kind) → run [] p.Locals (times n k.Local ++ ks) ≡ run [] p.Locals ks
unfolding run
locals-run zero ks = refl
locals-run (suc n) ks = locals-run n ks

handlers-run : (hs : Handlers) (ks : List Kind) → run [] p.Handlers (of_handlers hs ++ k.End ∷ ks) ≡ run [] p.States ks
unfolding run
handlers-run Handlers.none ks = refl
handlers-run (handler n b hs) ks =
    let regroup : times n k.Local ++ (of_body b ++ k.End ∷ of_handlers hs) ++ k.End ∷ ks ≡ times n k.Local
    ++ rest_of b (of_handlers hs ++ k.End ∷ ks) = simp append_assoc in
    ap (run [] p.Locals) regroup ∙ locals-run n (rest_of b (of_handlers hs ++ k.End ∷ ks))
    ∙ after-locals b [] (of_handlers hs ++ k.End ∷ ks) ∙ body-run b [] (of_handlers hs ++ k.End ∷ ks) ∙ handlers-run hs ks

-- a place where the text may end
abbrev pub Ends : Option At → Type 0
Ends o = (place : Place) × (o ≡ Some ([], place)) × (is_end place ≡ true)

states-run : (ss : States) (place : Place) → is_end place ≡ true → Ends (run [] place (of_states ss))
unfolding run
states-run States.none place e = (place, refl, e)
states-run (state hs ss) p.Messages e =
    let after = states-run ss p.States refl in
    (after.0, handlers-run hs (of_states ss) ∙ after.1, after.2)
states-run (state hs ss) p.Infos e =
    let after = states-run ss p.States refl in
    (after.0, handlers-run hs (of_states ss) ∙ after.1, after.2)
states-run (state hs ss) p.Starts e =
    let after = states-run ss p.States refl in
    (after.0, handlers-run hs (of_states ss) ∙ after.1, after.2)
states-run (state hs ss) p.States e =
    let after = states-run ss p.States refl in
    (after.0, handlers-run hs (of_states ss) ∙ after.1, after.2)
states-run (state hs ss) _ e = absurd cc

-- places where a start may stand
abbrev may_start : Place → Bool
may_start p.Messages = true
may_start p.Infos = true
may_start p.Starts = true
may_start _ = false

start-ends : (place : Place) → may_start place ≡ true → is_end place ≡ true
start-ends p.Messages e = refl
start-ends p.Infos e = refl
start-ends p.Starts e = refl
start-ends _ e = absurd cc

starts-run : (n : ℕ) (ss : States) (place : Place) → may_start place ≡ true →
    Ends (run [] place (times n k.Start ++ of_states ss))
unfolding run
starts-run zero ss place e = states-run ss place (start-ends place e)
starts-run (suc n) ss p.Messages e = starts-run n ss p.Starts refl
starts-run (suc n) ss p.Infos e = starts-run n ss p.Starts refl
starts-run (suc n) ss p.Starts e = starts-run n ss p.Starts refl
starts-run (suc n) ss _ e = absurd cc

infos-run : (i n : ℕ) (ss : States) → Ends (run [] p.Infos (times i k.Info ++ (times n k.Start ++ of_states ss)))
unfolding run
infos-run zero n ss = starts-run n ss p.Infos refl
infos-run (suc i) n ss = infos-run i n ss

messages-run : (m i n : ℕ) (ss : States) →
    Ends (run [] p.Messages (times m k.Message ++ (times i k.Info ++ (times n k.Start ++ of_states ss))))
unfolding run
messages-run zero zero n ss = starts-run n ss p.Messages refl
messages-run zero (suc i) n ss = infos-run i n ss
messages-run (suc m) i n ss = messages-run m i n ss

pub nested-run : (ks : List Kind) → IsNested ks → Ends (run [] p.Start ks)
unfolding run
nested-run ks (shape, e) =
    let after = messages-run shape.messages shape.infos shape.starts shape.states in
    (after.0, ap (run [] p.Start) e ∙ after.1, after.2)
