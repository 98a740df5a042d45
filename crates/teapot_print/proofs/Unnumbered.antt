-- Lines that are numbered anew give the same tree but for line numbers.
use Rattle.std.proofs.Common.{◌≡◌, ℕ, ◌+◌, Bool, true, false, cond, List, [], ◌∷◌, map, Option, Some, None, refl, ap, sym, ◌∙◌}
use Rattle.std.specs.Option.{option_map}
use Rattle.tw_base.specs.declared.name.Name.{Name}
use Rattle.teapot_tree.specs.declared.expr.Expr.{Expr}
use Rattle.teapot_tree.specs.declared.protocol.Protocol.{Protocol}
use Rattle.teapot_tree.specs.declared.protocol.Trigger.{Trigger}
use Rattle.teapot_tree.specs.declared.protocol.Trigger.TheVariants as t
use Rattle.teapot_tree.specs.declared.stmt.Do.{Do, roll-Do}
use Rattle.teapot_tree.specs.declared.stmt.Do.TheOpen.{Do-F}
use Rattle.teapot_tree.specs.declared.stmt.Do.TheVariants as d
use Rattle.teapot_tree.specs.declared.stmt.Stmt.{Stmt, fold_out-Stmt}
use Rattle.teapot_tree.specs.Bare.{bare, bare_all, bare_do, bare_handler, bare_message, bare_param, bare_start, bare_state}
use Rattle.teapot_tree.proofs.Bares.{bare_do-roll, bare-If, bare-ForEach}
use Rattle.teapot_lines.specs.declared.cut.Cut.{Cut}
use Rattle.teapot_lines.specs.declared.form.Answers.TheVariants as a
use Rattle.teapot_lines.specs.declared.form.Form.{Form}
use Rattle.teapot_lines.specs.declared.form.Form.TheVariants as f
use Rattle.teapot_lines.specs.declared.form.Reach.{Reach}
use Rattle.teapot_lines.specs.declared.form.Reach.TheVariants.{One, All}
use Rattle.teapot_lines.specs.declared.form.Typed.{Typed}
use Rattle.teapot_lines.specs.Spelling.{cut_form}
use Rattle.teapot_parse.specs.declared.build.Block.{Block}
use Rattle.teapot_parse.specs.declared.build.Head.{Head}
use Rattle.teapot_parse.specs.declared.build.Parts.{Parts}
use Rattle.teapot_parse.specs.declared.count.Counts.{Counts}
use Rattle.teapot_parse.specs.declared.count.Many.{Many}
use Rattle.teapot_parse.specs.Building.{below, built_on, else_on, if_on, kept, param_at, plain, put_on, sent, top_of}
use Rattle.teapot_parse.specs.Building.{trigger_of, with_handler, with_line, with_plain}
use Rattle.teapot_parse.specs.Counting.{counted, first_over, or_over, over}
use Rattle.teapot_parse.specs.Trees.{Lines}
use Rattle.teapot_parse.proofs.Builds.{cut_lines}
use Rattle.teapot_parse.proofs.Erasing.{kind_at}
use Rattle.teapot_print.proofs.LinesBack.{numbered}

-- ---- kinds and counts

pub kinds-numbered : (qs : Lines) (n : ℕ) → map kind_at (numbered n qs) ≡ map kind_at qs
kinds-numbered [] n = refl
kinds-numbered (q ∷ qs) n = ap (λ ks. kind_at q ∷ ks) (kinds-numbered qs (n + 1))

or_none : (o : Option Many) (line line' : ℕ) (r r' : Option (Many × ℕ)) → or_over o line r ≡ None → (r ≡ None → r' ≡ None) →
    or_over o line' r' ≡ None
or_none None line line' r r' e k = k e
or_none (Some what) line line' r r' e k = absurd cc

pub over-numbered : (qs : Lines) (n : ℕ) (c : Counts) → first_over c (cut_lines qs) ≡ None →
    first_over c (cut_lines (numbered n qs)) ≡ None
unfolding first_over
over-numbered [] n c e = refl
over-numbered (q ∷ qs) n c e = or_none (over (counted c (cut_form q.1)) (cut_form q.1)) q.0 n _ _ e
    (over-numbered qs (n + 1) (counted c (cut_form q.1)))

-- ---- parts with every line 0

abbrev bare_block : Block → Block
bare_block b = record { is_else = b.is_else; stmts = bare_all b.stmts }

abbrev bare_head : Head → Head
bare_head h = record { name = h.name; profile = h.profile; line = 0 }

abbrev pub bare_parts : Parts → Parts
bare_parts s = record {
  head = option_map bare_head s.head;
  messages = map bare_message s.messages;
  infos = map bare_param s.infos;
  starts = map bare_start s.starts;
  states = map bare_state s.states;
  handlers = map bare_handler s.handlers;
  locals = map bare_param s.locals;
  blocks = map bare_block s.blocks;
}

abbrev bare_blocks : List Block → List Block
bare_blocks bs = map bare_block bs

top-bare : (bs : List Block) → bare_all (top_of bs) ≡ top_of (bare_blocks bs)
top-bare [] = refl
top-bare (b ∷ bs) = refl

below-bare : (bs : List Block) → bare_blocks (below bs) ≡ below (bare_blocks bs)
below-bare [] = refl
below-bare (b ∷ bs) = refl

params-bare : (line : ℕ) (ps : List Typed) → map bare_param (map (param_at line) ps) ≡ map (param_at 0) ps
params-bare line [] = refl
params-bare line (p ∷ ps) = ap (λ xs. param_at 0 p ∷ xs) (params-bare line ps)

-- a statement, by what it does
stmt-bare : (line : ℕ) (what : Do) → bare (record { what = what; line = line }) ≡ record { what = bare_do what; line = 0 }
unfolding bare bare_do
stmt-bare line what = fold_out-Stmt Do Stmt roll-Do (λ s. record { what = s.what; line = 0 })
    (record { what = what; line = line })

abbrev onto : Bool → Stmt → List Stmt → List Block → List Block
onto e s ss bs = record { is_else = e; stmts = s ∷ ss } ∷ bs

put-bare : (line : ℕ) (what : Do) (bs : List Block) → bare_blocks (put_on line what bs) ≡ put_on 0 (bare_do what) (bare_blocks bs)
put-bare line what [] = ap (λ s. onto false s [] []) (stmt-bare line what)
put-bare line what (b ∷ bs) = ap (λ s. onto b.is_else s (bare_all b.stmts) (bare_blocks bs)) (stmt-bare line what)

-- the same, where it is known what is done
put-as : (line : ℕ) (what to : Do) (bs : List Block) → bare_do what ≡ to →
    bare_blocks (put_on line what bs) ≡ put_on 0 to (bare_blocks bs)
put-as line what to bs e = put-bare line what bs ∙ ap (λ w. put_on 0 w (bare_blocks bs)) e

if-else-bare : (v : Bool) (line : ℕ) (e : Expr) (first : List Stmt) (b : Block) (bs : List Block)
    → bare_blocks (cond v (put_on line (d.If e first (Some b.stmts)) bs) (put_on line (d.If e first None) (b ∷ bs)))
    ≡ cond v (put_on 0 (d.If e (bare_all first) (Some (bare_all b.stmts))) (bare_blocks bs))
    (put_on 0 (d.If e (bare_all first) None) (bare_blocks (b ∷ bs)))
if-else-bare true line e first b bs = put-as line (d.If e first (Some b.stmts))
    (d.If e (bare_all first) (Some (bare_all b.stmts))) bs (bare-If e first (Some b.stmts))
if-else-bare false line e first b bs = put-as line (d.If e first None) (d.If e (bare_all first) None) (b ∷ bs)
    (bare-If e first None)

if-bare : (line : ℕ) (e : Expr) (first : List Stmt) (bs : List Block) →
    bare_blocks (if_on line e first bs) ≡ if_on 0 e (bare_all first) (bare_blocks bs)
if-bare line e first [] = put-as line (d.If e first None) (d.If e (bare_all first) None) [] (bare-If e first None)
if-bare line e first (b ∷ bs) = if-else-bare b.is_else line e first b bs

else-bare : (bs : List Block) → bare_blocks (else_on bs) ≡ else_on (bare_blocks bs)
else-bare [] = refl
else-bare (b ∷ bs) = refl

-- what holds no other statement has no line inside
abbrev IsBare : Option Do → Type 0
IsBare None = Unit {0}
IsBare (Some what) = bare_do what ≡ what

bare-Assign : (n : Name) (e : Expr) → bare_do (d.Assign n e) ≡ d.Assign n e
bare-Assign n e = ap bare_do (sym (d.rolls-Assign n e)) ∙ bare_do-roll (Do-F.Assign n e) ∙ d.rolls-Assign n e

bare-sent : (q : Reach) (e : Expr) (n : Name) (xs : List Expr) → bare_do (sent q e n xs) ≡ sent q e n xs
bare-sent One e n xs = ap bare_do (sym (d.rolls-Send e n xs)) ∙ bare_do-roll (Do-F.Send e n xs) ∙ d.rolls-Send e n xs
bare-sent All e n xs = ap bare_do (sym (d.rolls-SendAll e n xs)) ∙ bare_do-roll (Do-F.SendAll e n xs) ∙ d.rolls-SendAll e n xs

plain-bare : (form : Form Cut) → IsBare (plain form)
plain-bare (f.Assign n x) = bare-Assign n (kept x)
plain-bare (f.Send q x n xs) = bare-sent q (kept x) n (map kept xs)
plain-bare (f.SetTag g) = ap bare_do (sym (d.rolls-SetTag g)) ∙ bare_do-roll (Do-F.SetTag g) ∙ d.rolls-SetTag g
plain-bare (f.SetState n xs) = ap bare_do (sym (d.rolls-SetState n (map kept xs)))
    ∙ bare_do-roll (Do-F.SetState n (map kept xs)) ∙ d.rolls-SetState n (map kept xs)
plain-bare (f.Suspend l n xs p) = ap bare_do (sym (d.rolls-Suspend l n (map kept xs) p))
    ∙ bare_do-roll (Do-F.Suspend l n (map kept xs) p) ∙ d.rolls-Suspend l n (map kept xs) p
plain-bare (f.Resume n) = ap bare_do (sym (d.rolls-Resume n)) ∙ bare_do-roll (Do-F.Resume n) ∙ d.rolls-Resume n
plain-bare (f.Error n) = ap bare_do (sym (d.rolls-Error n)) ∙ bare_do-roll (Do-F.Error n) ∙ d.rolls-Error n
plain-bare f.Install = ap bare_do (sym d.rolls-Install) ∙ bare_do-roll Do-F.Install ∙ d.rolls-Install
plain-bare f.Enqueue = ap bare_do (sym d.rolls-Enqueue) ∙ bare_do-roll Do-F.Enqueue ∙ d.rolls-Enqueue
plain-bare f.WakeUp = ap bare_do (sym d.rolls-WakeUp) ∙ bare_do-roll Do-F.WakeUp ∙ d.rolls-WakeUp
plain-bare _ = tt

with-bare : (line : ℕ) (o : Option Do) (bs : List Block) → IsBare o →
    bare_blocks (with_plain line o bs) ≡ with_plain 0 o (bare_blocks bs)
with-bare line None bs h = refl
with-bare line (Some what) bs h = put-as line what what bs h

-- ---- lines

abbrev at_blocks : Parts → List Block → Parts
at_blocks s bs = record s { blocks = bs }

-- a statement that holds no other
plain-line : (line : ℕ) (form : Form Cut) (s : Parts) → bare_parts (at_blocks s (with_plain line (plain form) s.blocks))
    ≡ at_blocks (bare_parts s) (with_plain 0 (plain form) (bare_blocks s.blocks))
plain-line line form s = ap (at_blocks (bare_parts s)) (with-bare line (plain form) s.blocks (plain-bare form))

-- the handlers behind a handler's line
abbrev handler_parts : Parts → Trigger → List Name → List Stmt → List Block → Parts
handler_parts s on args ss bs =
    record s {
      handlers = record { on = on; args = args; locals = s.locals; body = ss; line = 0 } ∷ s.handlers;
      locals = [];
      blocks = bs;
    }

handler-line : (line : ℕ) (on : Trigger) (args : List Name) (s : Parts) →
    bare_parts (with_handler line on args s) ≡ with_handler 0 on args (bare_parts s)
handler-line line on args s =
    ap (λ ss. handler_parts (bare_parts s) on args ss (bare_blocks (below s.blocks))) (top-bare s.blocks)
    ∙ ap (λ bs. handler_parts (bare_parts s) on args (top_of (bare_blocks s.blocks)) bs) (below-bare s.blocks)

line-bare : (line : ℕ) (form : Form Cut) (s : Parts) → bare_parts (with_line line form s) ≡ with_line 0 form (bare_parts s)
line-bare line (f.Protocol n p) s = refl
line-bare line (f.Message n ys c b) s = refl
line-bare line (f.Info n y) s = refl
line-bare line (f.Start h n g) s = refl
line-bare line (f.State n ps c) s =
    ap (λ xs. record (bare_parts s) {
      states = record {
        name = n;
        params = xs;
        cont = c;
        handlers = map bare_handler s.handlers;
        line = 0;
      } ∷ map bare_state s.states;
      handlers = [];
      blocks = bare_blocks (below s.blocks);
    }) (params-bare line ps)
    ∙ ap (λ bs. record (bare_parts s) {
      states = record {
        name = n;
        params = map (param_at 0) ps;
        cont = c;
        handlers = map bare_handler s.handlers;
        line = 0;
      } ∷ map bare_state s.states;
      handlers = [];
      blocks = bs;
    })
    (below-bare s.blocks)
line-bare line (f.On w ns) s = handler-line line (trigger_of w) ns s
line-bare line f.Default s = handler-line line t.Default [] s
line-bare line (f.Local n y) s = refl
line-bare line f.Begin s = refl
line-bare line f.End s = refl
line-bare line (f.If x) s =
    ap (at_blocks (bare_parts s)) (if-bare line (kept x) (top_of s.blocks) (below s.blocks)
    ∙ ap (λ ss. if_on 0 (kept x) ss (bare_blocks (below s.blocks))) (top-bare s.blocks)
    ∙ ap (λ bs. if_on 0 (kept x) (top_of (bare_blocks s.blocks)) bs) (below-bare s.blocks))
line-bare line f.Else s = ap (at_blocks (bare_parts s)) (else-bare s.blocks)
line-bare line (f.Assign n x) s = plain-line line (f.Assign n x) s
line-bare line (f.Send q x n xs) s = plain-line line (f.Send q x n xs) s
line-bare line (f.SetTag g) s = plain-line line (f.SetTag g) s
line-bare line (f.SetState n xs) s = plain-line line (f.SetState n xs) s
line-bare line (f.Suspend l n xs p) s = plain-line line (f.Suspend l n xs p) s
line-bare line (f.Resume n) s = plain-line line (f.Resume n) s
line-bare line (f.Error n) s = plain-line line (f.Error n) s
line-bare line f.Install s = plain-line line f.Install s
line-bare line f.Enqueue s = plain-line line f.Enqueue s
line-bare line f.WakeUp s = plain-line line f.WakeUp s
line-bare line (f.ForEach n x) s =
    ap (at_blocks (bare_parts s)) (put-as line (d.ForEach n (kept x) (top_of s.blocks))
    (d.ForEach n (kept x) (bare_all (top_of s.blocks))) (below s.blocks) (bare-ForEach n (kept x) (top_of s.blocks))
    ∙ ap (λ ss. put_on 0 (d.ForEach n (kept x) ss) (bare_blocks (below s.blocks))) (top-bare s.blocks)
    ∙ ap (λ bs. put_on 0 (d.ForEach n (kept x) (top_of (bare_blocks s.blocks))) bs) (below-bare s.blocks))

pub built-numbered : (qs : Lines) (n : ℕ) (s : Parts) → bare_parts (built_on s (cut_lines (numbered n qs)))
    ≡ bare_parts (built_on s (cut_lines qs))
unfolding built_on
built-numbered [] n s = refl
built-numbered (q ∷ qs) n s =
    line-bare n (cut_form q.1) (built_on s (cut_lines (numbered (n + 1) qs)))
    ∙ ap (with_line 0 (cut_form q.1)) (built-numbered qs (n + 1) s)
    ∙ sym (line-bare q.0 (cut_form q.1) (built_on s (cut_lines qs)))
