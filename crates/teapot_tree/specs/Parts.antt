-- What stands in a tree, in the order of the text.
use Rattle.std.specs.Prelude.{ℕ, ◌+◌, ◌^◌, nat_lt, max, Bool, true, ◌&&◌, List, [], ◌∷◌, ◌++◌, Option, Some, None, map}
use Rattle.std.specs.List.{flat_map}
use Rattle.tw_base.specs.declared.name.Name.{Name}
use Rattle.teapot_tree.specs.declared.expr.Expr.{Expr}
use Rattle.teapot_tree.specs.declared.expr.Expr.TheOpen.{Expr-F}
use Rattle.teapot_tree.specs.declared.expr.Expr.TheFolds.{fold-Expr}
use Rattle.teapot_tree.specs.declared.protocol.Handler.{Handler}
use Rattle.teapot_tree.specs.declared.protocol.Protocol.{Protocol}
use Rattle.teapot_tree.specs.declared.protocol.State.{State}
use Rattle.teapot_tree.specs.declared.protocol.Trigger.{Trigger}
use Rattle.teapot_tree.specs.declared.protocol.Trigger.TheVariants as t
use Rattle.teapot_tree.specs.Bodies.{Simple, assign, send, send_all, set_tag, set_state, suspend, resume, install, enqueue}
use Rattle.teapot_tree.specs.Bodies.{wake_up, error, Body, done, plain, branch, branches, loop, each, body_of}

-- ---- expressions

abbrev pub names_step : Expr-F (List Name) → List Name
names_step (Expr-F.Var w) = w ∷ []
names_step (Expr-F.One a) = a
names_step (Expr-F.Not a) = a
names_step (Expr-F.Count a) = a
names_step (Expr-F.Two op a b) = a ++ b
names_step _ = []

-- the names in an expression
unfoldable pub names_in : Expr → List Name
names_in = fold-Expr (List Name) names_step

abbrev pub fits_step : Expr-F Bool → Bool
fits_step (Expr-F.Number n) = nat_lt n (2 ^ 32)
fits_step (Expr-F.One a) = a
fits_step (Expr-F.Not a) = a
fits_step (Expr-F.Count a) = a
fits_step (Expr-F.Two op a b) = a && b
fits_step _ = true

-- whether each number in an expression is below 2^32
unfoldable pub fits : Expr → Bool
fits = fold-Expr Bool fits_step

abbrev pub depth_step : Expr-F ℕ → ℕ
depth_step (Expr-F.One a) = a + 1
depth_step (Expr-F.Not a) = a + 1
depth_step (Expr-F.Count a) = a + 1
depth_step (Expr-F.Two op a b) = max a b + 1
depth_step _ = 1

-- a leaf has depth 1
unfoldable pub depth : Expr → ℕ
depth = fold-Expr ℕ depth_step

-- ---- statements

abbrev pub simple_exprs : Simple → List Expr
simple_exprs (assign n e) = e ∷ []
simple_exprs (send e n xs) = e ∷ xs
simple_exprs (send_all e n xs) = e ∷ xs
simple_exprs (set_tag t) = []
simple_exprs (set_state n xs) = xs
simple_exprs (suspend l n xs p) = xs
simple_exprs (resume n) = []
simple_exprs install = []
simple_exprs enqueue = []
simple_exprs wake_up = []
simple_exprs (error n) = []

-- the expressions that stand in statements
abbrev pub exprs_in : Body → List Expr
exprs_in done = []
exprs_in (plain line s b) = simple_exprs s ++ exprs_in b
exprs_in (branch line e x b) = e ∷ (exprs_in x ++ exprs_in b)
exprs_in (branches line e x y b) = e ∷ (exprs_in x ++ (exprs_in y ++ exprs_in b))
exprs_in (loop line n e x b) = e ∷ (exprs_in x ++ exprs_in b)
exprs_in (each line n s x b) = exprs_in x ++ exprs_in b

abbrev pub simple_words : Simple → List Name
simple_words (assign n e) = n ∷ []
simple_words (send e n xs) = n ∷ []
simple_words (send_all e n xs) = n ∷ []
simple_words (set_tag t) = []
simple_words (set_state n xs) = n ∷ []
simple_words (suspend l n xs p) = l ∷ n ∷ p ∷ []
simple_words (resume n) = n ∷ []
simple_words install = []
simple_words enqueue = []
simple_words wake_up = []
simple_words (error n) = n ∷ []

-- the names in statements, other than those in their expressions
abbrev pub words_in : Body → List Name
words_in done = []
words_in (plain line s b) = simple_words s ++ words_in b
words_in (branch line e x b) = words_in x ++ words_in b
words_in (branches line e x y b) = words_in x ++ (words_in y ++ words_in b)
words_in (loop line n e x b) = n ∷ (words_in x ++ words_in b)
words_in (each line n s x b) = n ∷ (words_in x ++ words_in b)

-- how deep If and ForEach are nested
abbrev pub nest : Body → ℕ
nest done = 0
nest (plain line s b) = nest b
nest (branch line e x b) = max (nest x + 1) (nest b)
nest (branches line e x y b) = max (max (nest x) (nest y) + 1) (nest b)
nest (loop line n e x b) = max (nest x + 1) (nest b)
nest (each line n s x b) = max (nest x + 1) (nest b)

-- how many ForEach there are
abbrev pub loops : Body → ℕ
loops done = 0
loops (plain line s b) = loops b
loops (branch line e x b) = loops x + loops b
loops (branches line e x y b) = loops x + (loops y + loops b)
loops (loop line n e x b) = 1 + (loops x + loops b)
loops (each line n s x b) = loops x + loops b

-- how many loops on their way there are
abbrev pub eaches : Body → ℕ
eaches done = 0
eaches (plain line s b) = eaches b
eaches (branch line e x b) = eaches x + eaches b
eaches (branches line e x y b) = eaches x + (eaches y + eaches b)
eaches (loop line n e x b) = eaches x + eaches b
eaches (each line n s x b) = 1 + (eaches x + eaches b)

-- ---- protocols

abbrev pub handlers_of : Protocol → List Handler
handlers_of p = flat_map (λ (s : State). s.handlers) p.states

abbrev pub exprs_of : Handler → List Expr
exprs_of h = exprs_in (body_of h.body)

abbrev pub trigger_words : Trigger → List Name
trigger_words t.RdFault = []
trigger_words t.WrFault = []
trigger_words (t.Named n) = n ∷ []
trigger_words t.Default = []

abbrev pub option_words : Option Name → List Name
option_words None = []
option_words (Some n) = n ∷ []

abbrev pub handler_names : Handler → List Name
handler_names h =
    trigger_words h.on
    ++ (h.args ++ (map (λ a. a.name) h.locals ++ (words_in (body_of h.body) ++ flat_map names_in (exprs_of h))))

abbrev pub state_names : State → List Name
state_names s = s.name ∷ (map (λ a. a.name) s.params ++ (option_words s.cont ++ flat_map handler_names s.handlers))

-- every name that stands in the tree
abbrev pub names_of : Protocol → List Name
names_of p =
    p.name ∷ (map (λ m. m.name) p.messages ++ (map (λ a. a.name) p.infos
    ++ (map (λ s. s.state) p.starts ++ flat_map state_names p.states)))
