-- What is put one token and one line after another, as text.
use Rattle.std.proofs.Common.{◌≡◌, ℕ, Bool, Result, Ok, Err, Some, None, zero, suc, ◌+◌, ◌<◌, ◌≤◌, List, [], ◌∷◌, ◌++◌, length}
use Rattle.std.proofs.Common.{get_or, drop, map, refl, ap, sym, ◌∙◌, append_assoc, append-nil, arith}
use Rattle.std.specs.Prelude.{OnOk}
use Rattle.std.specs.List.{flat_map}
use Rattle.std.proofs.lemmas.List.{drop_more, drop_all}
use Rattle.tw_lex.specs.declared.token.Mark.TheVariants as m
use Rattle.teapot_lines.specs.Parts.{tails}
use Rattle.teapot_lines.specs.Exprs.{Way, Infix, Before, way, spelled, one_spelled, two_spelled}
use Rattle.teapot_lines.specs.Seen.{Seen, Key, Named, Number, Marked}
use Rattle.teapot_lines.proofs.Spells.{spelled-roll}
use Rattle.teapot_tree.specs.declared.stmt.Do.{Do, roll-Do, map-Do}
use Rattle.teapot_tree.specs.declared.stmt.Do.TheOpen.{Do-F}
use Rattle.teapot_tree.specs.declared.stmt.Do.TheVariants as d
use Rattle.teapot_tree.specs.declared.stmt.Stmt.{Stmt}
use Rattle.teapot_tree.specs.Bodies.{Simple, Body, done, plain, branch, branches, loop, before_all, put_step, put as put_stmt}
use Rattle.teapot_tree.specs.Bodies.{body_of}
use Rattle.teapot_tree.proofs.Iso.{before-is, put_do, put-layer}
use Rattle.teapot_lines.specs.declared.form.Form.TheVariants as f
use Rattle.teapot_parse.specs.Trees.{Lines, simple_form, body_lines}
use Rattle.teapot_print.specs.declared.printer.Printer.{Printer}
use Rattle.teapot_tree.specs.declared.keyword.Keyword.{Keyword}
use Rattle.teapot_tree.specs.declared.expr.Expr.{Expr}
use Rattle.teapot_tree.specs.declared.expr.Expr.TheOpen.{Expr-F}
use Rattle.teapot_tree.specs.declared.expr.Expr.TheVariants as e
use Rattle.teapot_tree.specs.declared.expr.Op.{Op}
use Rattle.teapot_tree.specs.declared.keyword.Keyword.TheVariants as k
use Rattle.tw_base.specs.declared.name.Name.{Name}
use Rattle.teapot_lines.specs.declared.form.Form.{Form}
use Rattle.teapot_lines.specs.Spelling.{spelling}
use Rattle.teapot_print.specs.Text.{text_after, line_text, lines_text, begins_at, begins_behind, spaces}
use Rattle.teapot_print.specs.Printing.{put, put_all, begun, put_line, put_lines, before_two, between_two}

pub put_all_append : (s : Printer) (ts us : List Seen) → put_all s (ts ++ us) ≡ put_all (put_all s ts) us
put_all_append s [] us = refl
put_all_append s (t ∷ ts) us = put_all_append (put s t) ts us

pub put_lines_append : (s : Printer) (ls ms : Lines) → put_lines s (ls ++ ms) ≡ put_lines (put_lines s ls) ms
put_lines_append s [] ms = refl
put_lines_append s (l ∷ ls) ms = put_lines_append (put_line s l.1) ls ms

pub put_all-text : (ts : List Seen) (s : Printer) → (put_all s ts).text ≡ s.text ++ text_after s.last ts
put_all-text [] s = sym (append-nil s.text)
put_all-text (t ∷ ts) s = put_all-text ts (put s t) ∙ simp append_assoc refl

put_all-begins : (ts : List Seen) (s : Printer) → (put_all s ts).begins ≡ s.begins
put_all-begins [] s = refl
put_all-begins (t ∷ ts) s = put_all-begins ts (put s t)

put_line-text : (s : Printer) (form : Form Expr) → (put_line s form).text ≡ s.text ++ line_text (begins_at s.begins form) form
put_line-text s form =
    let n = begins_at s.begins form in
    ap (λ bs. bs ++ 10 ∷ []) (put_all-text (spelling form) (begun s n)) ∙ simp append_assoc refl

pub put_lines-text : (ls : Lines) (s : Printer) → (put_lines s ls).text ≡ s.text ++ lines_text s.begins ls
put_lines-text [] s = sym (append-nil s.text)
put_lines-text (l ∷ ls) s =
    put_lines-text ls (put_line s l.1) ∙ ap (λ bs. bs ++ lines_text (begins_behind s.begins l.1) ls) (put_line-text s l.1)
    ∙ append_assoc s.text (line_text (begins_at s.begins l.1) l.1) (lines_text (begins_behind s.begins l.1) ls)

-- ---- the turns of loops over lists

-- an item, and those behind it
pub item-first : {X : Type 0} (xs : List X) (at : ℕ) (x : X) → at < length xs → x ≡ get_or xs at x →
    drop at xs ≡ x ∷ drop (at + 1) xs
item-first xs at x lt is = drop_more xs at x lt ∙ ap (λ y. y ∷ drop (at + 1) xs) (sym is)

-- a further item of a list, behind its comma
pub list-on : {X : Type 0} (spell : X → List Seen) (xs : List X) (at : ℕ) (x : X) (s to all : Printer) → at < length xs →
    x ≡ get_or xs at x → to ≡ put_all (put s (Marked m.Comma)) (spell x)
    → put_all s (tails spell (drop at xs)) ≡ all → put_all to (tails spell (drop (at + 1) xs)) ≡ all
list-on spell xs at x s to all lt item is so_far =
    ap (λ z. put_all z (tails spell (drop (at + 1) xs))) is
    ∙ sym (put_all_append (put s (Marked m.Comma)) (spell x) (tails spell (drop (at + 1) xs)))
    ∙ ap (λ ys. put_all s (tails spell ys)) (sym (item-first xs at x lt item)) ∙ so_far

pub list-end : {X : Type 0} (spell : X → List Seen) (xs : List X) (at : ℕ) (s all : Printer) → length xs ≤ at →
    put_all s (tails spell (drop at xs)) ≡ all → s ≡ all
list-end spell xs at s all le so_far = ap (λ ys. put_all s (tails spell ys)) (sym (drop_all at xs le)) ∙ so_far

-- the same of a view of each item
pub mapped-on : {X Y : Type 0} (spell : Y → List Seen) (view : X → Y) (xs : List X) (at : ℕ) (x : X) (s to all : Printer) →
    at < length xs → x ≡ get_or xs at x → to ≡ put_all (put s (Marked m.Comma)) (spell (view x))
    → put_all s (tails spell (map view (drop at xs))) ≡ all → put_all to (tails spell (map view (drop (at + 1) xs))) ≡ all
mapped-on spell view xs at x s to all lt item is so_far =
    ap (λ z. put_all z (tails spell (map view (drop (at + 1) xs)))) is
    ∙ sym (put_all_append (put s (Marked m.Comma)) (spell (view x)) (tails spell (map view (drop (at + 1) xs))))
    ∙ ap (λ ys. put_all s (tails spell (map view ys))) (sym (item-first xs at x lt item)) ∙ so_far

pub mapped-end : {X Y : Type 0} (spell : Y → List Seen) (view : X → Y) (xs : List X) (at : ℕ) (s all : Printer) →
    length xs ≤ at → put_all s (tails spell (map view (drop at xs))) ≡ all → s ≡ all
mapped-end spell view xs at s all le so_far = ap (λ ys. put_all s (tails spell (map view ys))) (sym (drop_all at xs le)) ∙ so_far

-- a further line
pub lines-on : {X : Type 0} (line_of : X → ℕ × Form Expr) (xs : List X) (at : ℕ) (x : X) (s to all : Printer) →
    at < length xs → x ≡ get_or xs at x → to ≡ put_line s (line_of x).1
    → put_lines s (map line_of (drop at xs)) ≡ all → put_lines to (map line_of (drop (at + 1) xs)) ≡ all
lines-on line_of xs at x s to all lt item is so_far =
    ap (λ z. put_lines z (map line_of (drop (at + 1) xs))) is
    ∙ ap (λ ys. put_lines s (map line_of ys)) (sym (item-first xs at x lt item)) ∙ so_far

pub lines-end : {X : Type 0} (line_of : X → ℕ × Form Expr) (xs : List X) (at : ℕ) (s all : Printer) → length xs ≤ at →
    put_lines s (map line_of (drop at xs)) ≡ all → s ≡ all
lines-end line_of xs at s all le so_far = ap (λ ys. put_lines s (map line_of ys)) (sym (drop_all at xs le)) ∙ so_far

-- further lines
pub flat-on : {X : Type 0} (lines_for : X → Lines) (xs : List X) (at : ℕ) (x : X) (s to all : Printer) → at < length xs →
    x ≡ get_or xs at x → to ≡ put_lines s (lines_for x)
    → put_lines s (flat_map lines_for (drop at xs)) ≡ all → put_lines to (flat_map lines_for (drop (at + 1) xs)) ≡ all
flat-on lines_for xs at x s to all lt item is so_far =
    ap (λ z. put_lines z (flat_map lines_for (drop (at + 1) xs))) is
    ∙ sym (put_lines_append s (lines_for x) (flat_map lines_for (drop (at + 1) xs)))
    ∙ ap (λ ys. put_lines s (flat_map lines_for ys)) (sym (item-first xs at x lt item)) ∙ so_far

pub flat-end : {X : Type 0} (lines_for : X → Lines) (xs : List X) (at : ℕ) (s all : Printer) → length xs ≤ at →
    put_lines s (flat_map lines_for (drop at xs)) ≡ all → s ≡ all
flat-end lines_for xs at s all le so_far = ap (λ ys. put_lines s (flat_map lines_for ys)) (sym (drop_all at xs le)) ∙ so_far

pub spaces-more : (n : ℕ) → spaces (n + 1) ≡ spaces n ++ 32 ∷ 32 ∷ []
spaces-more zero = refl
spaces-more (suc n) =
    let one : suc n + 1 ≡ suc (n + 1) = omega arith in
    ap spaces one ∙ ap (λ bs. 32 ∷ 32 ∷ bs) (spaces-more n)

-- ---- expressions

pub spelled-Number : (x : Expr) (n : ℕ) → x ≡ (e.Number n) → spelled x ≡ Number n ∷ []
spelled-Number x n is = ap spelled (is ∙ sym (e.rolls-Number n)) ∙ spelled-roll (Expr-F.Number n)

pub spelled-True : (x : Expr) → x ≡ e.True → spelled x ≡ Key k.True ∷ []
spelled-True x is = ap spelled (is ∙ sym e.rolls-True) ∙ spelled-roll Expr-F.True

pub spelled-False : (x : Expr) → x ≡ e.False → spelled x ≡ Key k.False ∷ []
spelled-False x is = ap spelled (is ∙ sym e.rolls-False) ∙ spelled-roll Expr-F.False

pub spelled-Empty : (x : Expr) → x ≡ e.Empty → spelled x ≡ Key k.Empty ∷ []
spelled-Empty x is = ap spelled (is ∙ sym e.rolls-Empty) ∙ spelled-roll Expr-F.Empty

pub spelled-Src : (x : Expr) → x ≡ e.Src → spelled x ≡ Key k.Src ∷ []
spelled-Src x is = ap spelled (is ∙ sym e.rolls-Src) ∙ spelled-roll Expr-F.Src

pub spelled-SelfNode : (x : Expr) → x ≡ e.SelfNode → spelled x ≡ Key k.SelfNode ∷ []
spelled-SelfNode x is = ap spelled (is ∙ sym e.rolls-SelfNode) ∙ spelled-roll Expr-F.SelfNode

pub spelled-Home : (x : Expr) → x ≡ e.Home → spelled x ≡ Key k.Home ∷ []
spelled-Home x is = ap spelled (is ∙ sym e.rolls-Home) ∙ spelled-roll Expr-F.Home

pub spelled-Var : (x : Expr) (w : Name) → x ≡ (e.Var w) → spelled x ≡ Named w ∷ []
spelled-Var x w is = ap spelled (is ∙ sym (e.rolls-Var w)) ∙ spelled-roll (Expr-F.Var w)

pub spelled-One : (x a : Expr) → x ≡ e.One a → spelled x ≡ one_spelled k.One (spelled a)
spelled-One x a is = ap spelled (is ∙ sym (e.rolls-One a)) ∙ spelled-roll (Expr-F.One a)

pub spelled-Not : (x a : Expr) → x ≡ e.Not a → spelled x ≡ one_spelled k.Not (spelled a)
spelled-Not x a is = ap spelled (is ∙ sym (e.rolls-Not a)) ∙ spelled-roll (Expr-F.Not a)

pub spelled-Count : (x a : Expr) → x ≡ e.Count a → spelled x ≡ one_spelled k.Count (spelled a)
spelled-Count x a is = ap spelled (is ∙ sym (e.rolls-Count a)) ∙ spelled-roll (Expr-F.Count a)

pub spelled-Two : (x : Expr) (op : Op) (a b : Expr) → x ≡ e.Two op a b → spelled x ≡ two_spelled (way op) (spelled a) (spelled b)
spelled-Two x op a b is = ap spelled (is ∙ sym (e.rolls-Two op a b)) ∙ spelled-roll (Expr-F.Two op a b)

pub one-put : (key : Keyword) (ts : List Seen) (s s1 s2 : Printer) → s1 ≡ put (put s (Key key)) (Marked m.Open) →
    s2 ≡ put_all s1 ts → put_all s (one_spelled key ts) ≡ put s2 (Marked m.Close)
one-put key ts s s1 s2 e1 e2 = put_all_append s (Key key ∷ Marked m.Open ∷ ts) (Marked m.Close ∷ [])
    ∙ ap (λ z. put (put_all z ts) (Marked m.Close)) (sym e1) ∙ ap (λ z. put z (Marked m.Close)) (sym e2)

two-text : (w : Way) (ts us : List Seen) → two_spelled w ts us ≡ before_two w
    ++ (ts ++ (Marked (between_two w) ∷ (us ++ Marked m.Close ∷ [])))
two-text (Infix mark) ts us = refl
two-text (Before key) ts us = refl

pub two-put : (w : Way) (ts us : List Seen) (s s1 s2 s3 s4 : Printer) → s1 ≡ put_all s (before_two w) → s2 ≡ put_all s1 ts →
    s3 ≡ put s2 (Marked (between_two w)) → s4 ≡ put_all s3 us → put_all s (two_spelled w ts us) ≡ put s4 (Marked m.Close)
two-put w ts us s s1 s2 s3 s4 e1 e2 e3 e4 =
    ap (put_all s) (two-text w ts us) ∙ put_all_append s (before_two w) _
    ∙ ap (λ z. put_all z (ts ++ (Marked (between_two w) ∷ (us ++ Marked m.Close ∷ [])))) (sym e1)
    ∙ put_all_append s1 ts _ ∙ ap (λ z. put_all (put z (Marked (between_two w))) (us ++ Marked m.Close ∷ [])) (sym e2)
    ∙ ap (λ z. put_all z (us ++ Marked m.Close ∷ [])) (sym e3)
    ∙ put_all_append s3 us (Marked m.Close ∷ []) ∙ ap (λ z. put z (Marked m.Close)) (sym e4)

-- ---- statements

-- the line of a statement that holds no other
pub simple-put : (x : Stmt) (l : Do-F Do Stmt) (what : Do) (s : Simple) (from to : Printer) → x.what ≡ what →
    roll-Do l ≡ what → ((b : Body) → put_step (map-Do Do Stmt (ℕ → Body → Body) (Body → Body) put_do put_stmt l) x.line b
    ≡ plain x.line s b)
    → to ≡ put_line from (simple_form s) → (b : Body) → put_lines from (body_lines (put_stmt x b)) ≡ put_lines to (body_lines b)
simple-put x l what s from to is rolls step e b =
    ap (λ c. put_lines from (body_lines c)) (put-layer x l b (rolls ∙ sym is) ∙ step b)
    ∙ ap (λ z. put_lines z (body_lines b)) (sym e)

-- the lines of a block
abbrev pub block_lines : List Stmt → Lines
block_lines ss = (0, f.Begin) ∷ (body_lines (body_of ss) ++ (0, f.End) ∷ [])

block-on : (ss : List Stmt) (rest : Lines) → (0, f.Begin) ∷ (body_lines (body_of ss) ++ (0, f.End) ∷ rest) ≡ block_lines ss
    ++ rest
block-on ss rest = ap (λ ls. (0, f.Begin) ∷ ls) (sym (append_assoc (body_lines (body_of ss)) ((0, f.End) ∷ []) rest))

pub if-put : (x : Stmt) (test : Expr) (ss : List Stmt) (from mid to : Printer) → x.what ≡ d.If test ss None →
    mid ≡ put_line from (f.If test) → to ≡ put_lines mid (block_lines ss) → (b : Body) →
    put_lines from (body_lines (put_stmt x b)) ≡ put_lines to (body_lines b)
if-put x test ss from mid to is e1 e2 b =
    ap (λ c. put_lines from (body_lines c)) (put-layer x (Do-F.If test ss None) b (d.rolls-If test ss None ∙ sym is)
    ∙ ap (λ c. branch x.line test c b) (before-is ss done))
    ∙ ap (λ z. put_lines z ((0, f.Begin) ∷ (body_lines (body_of ss) ++ (0, f.End) ∷ body_lines b))) (sym e1)
    ∙ ap (put_lines mid) (block-on ss (body_lines b)) ∙ put_lines_append mid (block_lines ss) (body_lines b)
    ∙ ap (λ z. put_lines z (body_lines b)) (sym e2)

pub loop-put : (x : Stmt) (n : Name) (set : Expr) (ss : List Stmt) (from mid to : Printer) → x.what ≡ d.ForEach n set ss →
    mid ≡ put_line from (f.ForEach n set) → to ≡ put_lines mid (block_lines ss) → (b : Body) →
    put_lines from (body_lines (put_stmt x b)) ≡ put_lines to (body_lines b)
loop-put x n set ss from mid to is e1 e2 b =
    ap (λ c. put_lines from (body_lines c)) (put-layer x (Do-F.ForEach n set ss) b (d.rolls-ForEach n set ss ∙ sym is)
    ∙ ap (λ c. loop x.line n set c b) (before-is ss done))
    ∙ ap (λ z. put_lines z ((0, f.Begin) ∷ (body_lines (body_of ss) ++ (0, f.End) ∷ body_lines b))) (sym e1)
    ∙ ap (put_lines mid) (block-on ss (body_lines b)) ∙ put_lines_append mid (block_lines ss) (body_lines b)
    ∙ ap (λ z. put_lines z (body_lines b)) (sym e2)

pub else-put : (x : Stmt) (test : Expr) (ss us : List Stmt) (from p1 p2 p3 to : Printer) → x.what ≡ d.If test ss (Some us) →
    p1 ≡ put_line from (f.If test) → p2 ≡ put_lines p1 (block_lines ss) → p3 ≡ put_line p2 f.Else →
    to ≡ put_lines p3 (block_lines us)
    → (b : Body) → put_lines from (body_lines (put_stmt x b)) ≡ put_lines to (body_lines b)
else-put x test ss us from p1 p2 p3 to is e1 e2 e3 e4 b =
    let second : Lines = (0, f.Else) ∷ (0, f.Begin) ∷ (body_lines (body_of us) ++ (0, f.End) ∷ body_lines b) in
    ap (λ c. put_lines from (body_lines c)) (put-layer x (Do-F.If test ss (Some us)) b (d.rolls-If test ss (Some us) ∙ sym is)
    ∙ ap (λ c. branches x.line test c (before_all (map put_stmt us) done) b) (before-is ss done)
    ∙ ap (λ c. branches x.line test (body_of ss) c b) (before-is us done))
    ∙ ap (λ z. put_lines z ((0, f.Begin) ∷ (body_lines (body_of ss) ++ (0, f.End) ∷ second))) (sym e1)
    ∙ ap (put_lines p1) (block-on ss second) ∙ put_lines_append p1 (block_lines ss) second ∙ ap (λ z. put_lines z second) (sym e2)
    ∙ ap (λ z. put_lines z ((0, f.Begin) ∷ (body_lines (body_of us) ++ (0, f.End) ∷ body_lines b))) (sym e3)
    ∙ ap (put_lines p3) (block-on us (body_lines b)) ∙ put_lines_append p3 (block_lines us) (body_lines b)
    ∙ ap (λ z. put_lines z (body_lines b)) (sym e4)

pub each-put : (x : Stmt) (n : Name) (set : List Bool) (ss : List Stmt) (from : Printer) → x.what ≡ d.Each n set ss →
    (b : Body) → put_lines from (body_lines (put_stmt x b)) ≡ put_lines from (body_lines b)
each-put x n set ss from is b = ap (λ c. put_lines from (body_lines c))
    (put-layer x (Do-F.Each n set ss) b (d.rolls-Each n set ss ∙ sym is))

pub on_ok : {A E P Q : Type 0} (r : Result A E) → (P → Q) → OnOk r P → OnOk r Q
on_ok (Ok x) g h = g h
on_ok (Err e) g h = h

pub block-put : (ss : List Stmt) (s s1 s2 s3 : Printer) → s1 ≡ put_line s f.Begin →
    s2 ≡ put_lines s1 (body_lines (body_of ss)) → s3 ≡ put_line s2 f.End → s3 ≡ put_lines s (block_lines ss)
block-put ss s s1 s2 s3 e1 e2 e3 =
    e3 ∙ ap (λ z. put_line z f.End) e2 ∙ sym (put_lines_append s1 (body_lines (body_of ss)) ((0, f.End) ∷ []))
    ∙ ap (λ z. put_lines z (body_lines (body_of ss) ++ (0, f.End) ∷ [])) e1

pub first-put : {X : Type 0} (spell : X → List Seen) (x : X) (xs : List X) (s s1 s2 : Printer) → s1 ≡ put_all s (spell x) →
    s2 ≡ put_all s1 (tails spell xs) → s2 ≡ put_all s (spell x ++ tails spell xs)
first-put spell x xs s s1 s2 e1 e2 = e2 ∙ ap (λ z. put_all z (tails spell xs)) e1
    ∙ sym (put_all_append s (spell x) (tails spell xs))
