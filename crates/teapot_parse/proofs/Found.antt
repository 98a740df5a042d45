-- What is read is a tree of the grammar, and the lines give it.
use Rattle.std.proofs.Common.{◌≡◌, ◌≤◌, ℕ, Bool, true, false, cond, List, [], ◌∷◌, length, map, Option, Some, None, Result, Ok}
use Rattle.std.proofs.Common.{Err, IfSome, refl, ap, sym, ◌∙◌, subst, inl, inr}
use Rattle.std.specs.Prelude.{◌⊎◌, ◌==◌, ◌&&◌, ◌||◌}
use Rattle.std.specs.List.{flat_map, list_all}
use Rattle.std.proofs.lemmas.Bool.{eqb-true}
use Rattle.tw_base.specs.Answers.{◌>>=◌}
use Rattle.tw_base.specs.Lists.{Each}
use Rattle.tw_base.specs.declared.name.Name.{Name}
use Rattle.tw_lex.specs.declared.token.Line.{Line}
use Rattle.tw_lex.specs.declared.token.Token.{Token}
use Rattle.tw_lex.specs.declared.token.What.{What}
use Rattle.tw_lex.specs.declared.token.What.TheVariants as what
use Rattle.teapot_tree.specs.declared.expr.Expr.{Expr}
use Rattle.teapot_tree.specs.declared.keyword.Keyword.{Keyword}
use Rattle.teapot_tree.specs.declared.keyword.Keyword.TheVariants as k
use Rattle.teapot_tree.specs.declared.protocol.Handler.{Handler}
use Rattle.teapot_tree.specs.declared.protocol.Protocol.{Protocol}
use Rattle.teapot_tree.specs.declared.protocol.State.{State}
use Rattle.teapot_tree.specs.declared.protocol.Trigger.TheVariants as t
use Rattle.teapot_tree.specs.Bodies.{body_of}
use Rattle.teapot_tree.specs.Grammar.{IsTree, IsName, NoArgsOf, NoDefaultArgs, OnOneLine}
use Rattle.teapot_tree.specs.Keywords.{keyword_of}
use Rattle.teapot_tree.specs.Parts.{eaches, exprs_of, fits, loops, names_in, names_of, nest}
use Rattle.teapot_lines.specs.declared.cut.Cut.{Cut}
use Rattle.teapot_lines.specs.declared.form.Form.{Form}
use Rattle.teapot_lines.specs.declared.form.Form.TheVariants as f
use Rattle.teapot_lines.specs.Seen.{Seen, Key, Named, Number, Marked, seen, seen_what, seen_word}
use Rattle.teapot_lines.specs.Lines.{form_of}
use Rattle.teapot_lines.specs.Spelling.{spelling, spelled_profile, fits_form, cut_form, IsForm}
use Rattle.teapot_lines.proofs.Both.{both}
use Rattle.teapot_lines.proofs.FormLaws.{form-found}
use Rattle.teapot_parse.specs.declared.count.Counts.{Counts}
use Rattle.teapot_parse.specs.declared.count.Many.{Many}
use Rattle.teapot_parse.specs.declared.judge.Kind.{Kind}
use Rattle.teapot_parse.specs.declared.judge.Judged.{Judged}
use Rattle.teapot_parse.specs.declared.judge.Judged.TheVariants.{Nested, Bad, Missing}
use Rattle.teapot_parse.specs.declared.reading.ParseError.{ParseError}
use Rattle.teapot_parse.specs.declared.placed.Placed.{Placed}
use Rattle.teapot_parse.specs.Building.{built, no_parts}
use Rattle.teapot_parse.specs.Counting.{no_counts, counted, over, or_over, first_over}
use Rattle.teapot_parse.specs.Given.{SpellAll, erased, IsGiven, IsTextToken, AreTextLines}
use Rattle.teapot_parse.specs.Laws.{Judges}
use Rattle.teapot_parse.specs.Nesting.{judged, kinds}
use Rattle.teapot_parse.specs.Parsing.{names_two, names_two_in, profile_of, forms_read, or_bad_line, nests_if, within_if, whole}
use Rattle.teapot_parse.specs.Parsing.{parsed}
use Rattle.teapot_parse.specs.Shapes.{IsNested}
use Rattle.teapot_parse.specs.Trees.{Lines, lines_of}
use Rattle.teapot_parse.proofs.Again.{each-map, each-both, each-flat}
use Rattle.teapot_parse.proofs.Bounds.{all-shallow, IsFew, IsFewState, Limits, tree-bound}
use Rattle.teapot_parse.proofs.Builds.{cut_lines, IsPlain, IsPlainState, IsShallow, built-protocol}
use Rattle.teapot_parse.proofs.Erasing.{erased-form, kind_at, kinds-at, built-erased}
use Rattle.teapot_parse.proofs.Founds.{IsRead, IsReadState, tree-found}
use Rattle.teapot_parse.proofs.Goods.{ExprsAt, WordsAt, NoLoop, Known, form_exprs, form_words, handlers-each, protocol-parts}
use Rattle.teapot_parse.proofs.Goods.{flat-each, exprs-good, loops-good, names-good}
use Rattle.teapot_parse.proofs.Judging.{judges-is}
use Rattle.teapot_parse.proofs.Spelt.{TokenGood, form-good}
use Rattle.teapot_parse.proofs.Words.{no-for_each}

-- ---- the forms

bind-ok : {A B E : Type 0} (r : Result A E) (g : A → Result B E) (y : B) → (r >>= g) ≡ Ok y → (x : A) × (r ≡ Ok x) × (g x ≡ Ok y)
bind-ok (Ok x) g y e = (x, refl, e)
bind-ok (Err x) g y e = absurd cc

found-ok : (line : ℕ) (o : Option (Form Cut)) (form : Form Cut) → or_bad_line line o ≡ Ok form → o ≡ Some form
found-ok line (Some x) form e = ap Some cc
found-ok line None form e = absurd cc

if-some : {A : Type 0} (o : Option A) (x : A) (P : A → Type 0) → IfSome o P → o ≡ Some x → P x
if-some o x P h e = subst (λ z. IfSome z P) e h

pub forms-found : (profile : ℕ) (ls : List Line) (fs : List Placed) → forms_read profile ls ≡ Ok fs →
    (qs : Lines) × SpellAll profile ls qs × (fs ≡ cut_lines qs)
unfolding forms_read
forms-found profile [] fs e = ([], tt, sym cc)
forms-found profile (l ∷ ls) fs e =
    let one = bind-ok (or_bad_line l.number (form_of profile (map (seen profile) l.tokens))) _ fs e in
    let more = bind-ok (forms_read profile ls) _ fs one.2 in
    let rest = forms-found profile ls more.0 more.1 in
    let x = if-some _ one.0 (IsForm profile (map (seen profile) l.tokens)) (form-found profile (map (seen profile) l.tokens))
    (found-ok l.number _ one.0 one.1) in
    let same : fs ≡ record { line = l.number; form = one.0 } ∷ more.0 = sym cc in (
      (l.number, x.0) ∷ rest.0,
      (refl, x.1, x.3, rest.1),
      same
          ∙ ap (λ g. record { line = l.number; form = g } ∷ more.0) (sym x.2)
          ∙ ap (λ ps. record { line = l.number; form = cut_form x.0 } ∷ ps) rest.2,
    )

nested-ok : (j : Judged) (fs : List Placed) (after : ℕ) (u : Unit {0}) → nests_if j fs after ≡ Ok u → j ≡ Nested
nested-ok Nested fs after u e = refl
nested-ok (Bad at) fs after u e = absurd cc
nested-ok Missing fs after u e = absurd cc

within-ok : (o : Option (Many × ℕ)) (u : Unit {0}) → within_if o ≡ Ok u → o ≡ None
within-ok None u e = refl
within-ok (Some x) u e = absurd cc

nested-is : (ks : List Kind) → judged ks ≡ Nested → IsNested ks
nested-is ks e = subst (Judges ks) e (judges-is ks)

-- ---- lines without the numbers of Begin, End and Else

or-both : (o : Option Many) (line line' : ℕ) (r r' : Option (Many × ℕ)) → or_over o line r ≡ None → (r ≡ None → r' ≡ None) →
    or_over o line' r' ≡ None
or-both None line line' r r' e k = k e
or-both (Some x) line line' r r' e k = absurd cc

pub over-back : (qs : Lines) (c : Counts) → first_over c (cut_lines qs) ≡ None → first_over c (cut_lines (map erased qs)) ≡ None
unfolding first_over
over-back [] c e = refl
over-back (q ∷ qs) c e =
    let same = erased-form q.0 q.1 in
    let at : or_over (over (counted c (cut_form q.1)) (cut_form q.1)) (erased q).0
    (first_over (counted c (cut_form q.1)) (cut_lines (map erased qs))) ≡ None =
    or-both (over (counted c (cut_form q.1)) (cut_form q.1)) q.0 (erased q).0 _ _ e (over-back qs (counted c (cut_form q.1))) in
    ap (λ x. or_over (over (counted c (cut_form x)) (cut_form x)) (erased q).0
    (first_over (counted c (cut_form x)) (cut_lines (map erased qs)))) same ∙ at

each-erased : (P : Form Expr → Type 0) (qs : Lines) → Each (λ (q : ℕ × Form Expr). P q.1) qs →
    Each (λ (q : ℕ × Form Expr). P q.1) (map erased qs)
each-erased P [] h = tt
each-erased P (q ∷ qs) (h, hs) = (subst P (sym (erased-form q.0 q.1)) h, each-erased P qs hs)

-- ---- the profile

or-true : (a b : Bool) → (a || b) ≡ true → (a ≡ true) ⊎ (b ≡ true)
or-true true b e = inl refl
or-true false b e = inr e

short : (ts : List Token) (n : List ℕ) → map (seen 2) ts ≡ Key k.Protocol ∷ Named n ∷ [] → names_two (map (seen 1) ts) ≡ true → ⊥
short [] n e h = cc
short (a ∷ []) n e h = cc
short (a ∷ b ∷ []) n e h = two (seen 1 a) (seen 1 b) h
  where
    two : (x y : Seen) → names_two (x ∷ y ∷ []) ≡ true → ⊥
    two (Key k.Protocol) (Named w) h = cc
    two (Key k.Protocol) (Key key) h = cc
    two (Key k.Protocol) (Number m) h = cc
    two (Key k.Protocol) (Marked m) h = cc
    two (Key _) y h = cc
    two (Named w) y h = cc
    two (Number m) y h = cc
    two (Marked m) y h = cc
short (a ∷ b ∷ c ∷ ts) n e h = cc

profile_two : (ts : List Token) (n : List ℕ) (p : ℕ) → names_two (map (seen 1) ts) ≡ true →
    map (seen 2) ts ≡ Key k.Protocol ∷ Named n ∷ spelled_profile p → (p ≡ 1) ⊎ (p ≡ 2) → p ≡ 2
profile_two ts n p h e (inr two) = two
profile_two ts n p h e (inl one) =
    absurd (short ts n (subst (λ z. map (seen 2) ts ≡ Key k.Protocol ∷ Named n ∷ spelled_profile z) one e) h)

profile_one : (p : ℕ) (b : Bool) → (1 == 2) ≡ b → ((p == 1) || (b && (p == 2))) ≡ true → p ≡ 1
profile_one p b e h = elim (or-true (p == 1) (b && (p == 2)) h) [
  | inl one ↦ eqb-true p 1 one
  | inr two ↦ let off : b ≡ false = sym e in let is = (both b (p == 2) two).0 in absurd (clash b off is)
]
  where
    clash : (x : Bool) → x ≡ false → x ≡ true → ⊥
    clash x a c = cc

either : (p : ℕ) (b : Bool) → ((p == 1) || (b && (p == 2))) ≡ true → (p ≡ 1) ⊎ (p ≡ 2)
either p b h = elim (or-true (p == 1) (b && (p == 2)) h) [
  | inl one ↦ inl (eqb-true p 1 one)
  | inr two ↦ inr (eqb-true p 2 (both b (p == 2) two).1)
]

by_names : (b : Bool) (ts : List Token) (n : List ℕ) (p : ℕ) → names_two (map (seen 1) ts) ≡ b →
    fits_form (cond b 2 1) (f.Protocol n p) ≡ true → map (seen (cond b 2 1)) ts ≡ spelling (f.Protocol n p) → p ≡ cond b 2 1
by_names true ts n p h fits e = profile_two ts n p h e (either p true fits)
by_names false ts n p h fits e = profile_one p false refl fits

first-profile : (lines : List Line) (qs : Lines) (line : ℕ) (n : Name) (p : ℕ) (rest : Lines) →
    SpellAll (profile_of lines) lines qs → map erased qs ≡ (line, f.Protocol n p) ∷ rest → p ≡ profile_of lines
first-profile [] [] line n p rest h e = absurd cc
first-profile [] (q ∷ qs) line n p rest h e = absurd h
first-profile (l ∷ ls) [] line n p rest h e = absurd h
first-profile (l ∷ ls) (q ∷ qs) line n p rest (number, fits, tokens, more) e =
    let first : erased q ≡ (line, f.Protocol n p) = cc in
    let form : q.1 ≡ f.Protocol n p = sym (erased-form q.0 q.1) ∙ ap (λ (x : ℕ × Form Expr). x.1) first in
    let two = names_two (map (seen 1) l.tokens) in
    by_names two l.tokens n p refl (ap (fits_form (cond two 2 1)) (sym form) ∙ fits) (tokens ∙ ap spelling form)

-- ---- names, numbers and loops of each line

token-good : (profile : ℕ) (x : What) → IsTextToken x → TokenGood (IsName profile) (seen_what profile x)
token-good profile (what.Word w) h = word-good (keyword_of profile w) refl
  where
    word-good : (o : Option Keyword) → keyword_of profile w ≡ o → TokenGood (IsName profile) (seen_word w o)
    word-good (Some key) e = tt
    word-good None e = record { first = h.0; others = h.1; short = h.2; free = e }
token-good profile (what.Number n) h = tt
token-good profile (what.Mark m) h = tt

tokens-good : (profile : ℕ) (ts : List Token) → Each (λ (t : Token). IsTextToken t.what) ts →
    Each (TokenGood (IsName profile)) (map (seen profile) ts)
tokens-good profile [] h = tt
tokens-good profile (t ∷ ts) (h, hs) = (token-good profile t.what h, tokens-good profile ts hs)

-- what a line's tokens say of its form
abbrev LineGood : ℕ → Form Expr → Type 0
LineGood profile x = (Each (IsName profile) (form_words x) × Each (λ e. Each (IsName profile) (names_in e)) (form_exprs x))
    × Each (λ e. fits e ≡ true) (form_exprs x)

all-fits : (xs : List Expr) → list_all fits xs ≡ true → Each (λ e. fits e ≡ true) xs
all-fits [] h = tt
all-fits (x ∷ xs) h = let parts = both (fits x) (list_all fits xs) h in (parts.0, all-fits xs parts.1)

form-fits : (profile : ℕ) (x : Form Expr) → fits_form profile x ≡ true → Each (λ e. fits e ≡ true) (form_exprs x)
form-fits profile (f.If e) h = (h, tt)
form-fits profile (f.Assign n e) h = (h, tt)
form-fits profile (f.Send r e n xs) h = let parts = both (fits e) (list_all fits xs) h in (parts.0, all-fits xs parts.1)
form-fits profile (f.SetState n xs) h = all-fits xs h
form-fits profile (f.Suspend l n xs p) h = all-fits xs h
form-fits profile (f.ForEach n e) h = (h, tt)
form-fits profile _ h = tt

lines-good : (profile : ℕ) (ls : List Line) (qs : Lines) → AreTextLines ls → SpellAll profile ls qs →
    Each (λ (q : ℕ × Form Expr). LineGood profile q.1) qs
lines-good profile [] [] a h = tt
lines-good profile [] (q ∷ qs) a h = absurd h
lines-good profile (l ∷ ls) [] a h = absurd h
lines-good profile (l ∷ ls) (q ∷ qs) (text, texts) (number, fits, tokens, more) = (
  (
    form-good (IsName profile) q.1 (subst (Each (TokenGood (IsName profile))) tokens (tokens-good profile l.tokens text)),
    form-fits profile q.1 fits,
  ),
  lines-good profile ls qs texts more,
)

first-key : (ts : List Token) (rest : List Seen) → map (seen 1) ts ≡ Key k.ForEach ∷ rest → ⊥
first-key [] rest e = cc
first-key (t ∷ ts) rest e = word t.what cc
  where
    key-is : (w : List ℕ) (o : Option Keyword) → keyword_of 1 w ≡ o → seen_word w o ≡ Key k.ForEach → ⊥
    key-is w (Some key) h d = let same : key ≡ k.ForEach = cc in no-for_each w (h ∙ ap Some same)
    key-is w None h d = cc

    word : (x : What) → seen_what 1 x ≡ Key k.ForEach → ⊥
    word (what.Word w) d = key-is w (keyword_of 1 w) refl d
    word (what.Number n) d = cc
    word (what.Mark m) d = cc

no-loops : (ls : List Line) (qs : Lines) → SpellAll 1 ls qs →
    Each (λ (q : ℕ × Form Expr). (n : Name) (e : Expr) → q.1 ≡ f.ForEach n e → ⊥) qs
no-loops [] [] h = tt
no-loops [] (q ∷ qs) h = absurd h
no-loops (l ∷ ls) [] h = absurd h
no-loops (l ∷ ls) (q ∷ qs) (number, fits, tokens, more) = (
  λ n e is. first-key l.tokens _ (tokens ∙ ap spelling is),
  no-loops ls qs more,
)

-- ---- the whole

abbrev hs_of : List State → List Handler
hs_of ss = flat_map (λ (s : State). s.handlers) ss

-- what holds of each state's handlers holds of all handlers
all-handlers : (P : Handler → Type 0) (ss : List State) → Each (λ (s : State). Each P s.handlers) ss → Each P (hs_of ss)
all-handlers P ss h = flat-each P (λ (s : State). s.handlers) ss h

default-known : (h : Handler) → NoDefaultArgs h → h.on ≡ t.Default → h.args ≡ []
default-known h n e = subst (λ on. NoArgsOf on h.args) e n

-- a tree whose lines are within the limits and good
tree-of-lines : (p : Protocol) (profile : ℕ) → p.profile ≡ profile → (profile ≡ 1) ⊎ (profile ≡ 2) →
    Each IsReadState p.states → Limits p → Each (ExprsAt IsShallow) (lines_of p) →
    Each (λ (q : ℕ × Form Expr). LineGood profile q.1) (lines_of p)
    → (profile ≡ 1 → Each NoLoop (lines_of p)) → IsTree p
tree-of-lines p profile same which read limits shallow good no_loop =
    let ss = p.states in
    let N = IsName profile in
    let reads : Each (λ (s : State). Each IsRead s.handlers) ss =
    each-map IsReadState (λ (s : State). Each IsRead s.handlers) (λ s x. x.1) ss read in
    let known : Each (λ (s : State). Each Known s.handlers) ss =
    each-map (λ (s : State). Each IsRead s.handlers) (λ (s : State). Each Known s.handlers)
    (λ s x. each-map IsRead Known (λ h y. (default-known h y.0, y.1)) s.handlers x) ss reads in
    let all = all-handlers IsRead ss reads in
    let noeach = each-map IsRead (λ (h : Handler). eaches (body_of h.body) ≡ 0) (λ h x. x.1) (hs_of ss) all in
    let words = each-map (λ (q : ℕ × Form Expr). LineGood profile q.1) (WordsAt N) (λ q x. x.0.0) (lines_of p) good in
    let names = each-map (λ (q : ℕ × Form Expr). LineGood profile q.1) (ExprsAt (λ e. Each N (names_in e))) (λ q x. x.0.1)
    (lines_of p) good in
    let numbers = each-map (λ (q : ℕ × Form Expr). LineGood profile q.1) (ExprsAt (λ e. fits e ≡ true)) (λ q x. x.1)
    (lines_of p) good in
    let exprs : (Q : Expr → Type 0) → Each (ExprsAt Q) (lines_of p) → Each (λ (h : Handler). Each Q (exprs_of h)) (hs_of ss) =
    λ Q h. handlers-each (ExprsAt Q) (λ (x : Handler). Each Q (exprs_of x)) (λ (x : Handler). eaches (body_of x.body) ≡ 0)
    (λ x n ls. exprs-good Q x n ls) ss noeach (protocol-parts (ExprsAt Q) p h).4 in
    let few =
    all-handlers IsFew ss (each-map IsFewState (λ (s : State). Each IsFew s.handlers) (λ s x. x.1) ss limits.each_state) in
    record {
      profiles = subst (λ z. (z ≡ 1) ⊎ (z ≡ 2)) (sym same) which;
      names = subst (λ z. Each (IsName z) (names_of p)) (sym same) (names-good N p known words names);
      numbers = exprs (λ e. fits e ≡ true) numbers;
      default_args = each-map IsRead NoDefaultArgs (λ h x. x.0) (hs_of ss) all;
      no_each = noeach;
      no_loop = λ one. handlers-each NoLoop (λ (x : Handler). loops (body_of x.body) ≡ 0)
          (λ (x : Handler). eaches (body_of x.body) ≡ 0) (λ x n ls. loops-good x n ls) ss noeach
          (protocol-parts NoLoop p (no_loop (sym same ∙ one))).4;
      param_lines = each-map IsReadState OnOneLine (λ s x. x.0) ss read;
      few_states = limits.states;
      few_messages = limits.messages;
      few_handlers = limits.handlers;
      few_infos = limits.infos;
      few_locals = each-map IsFew (λ (h : Handler). length h.locals ≤ 8) (λ h x. x.0) (hs_of ss) few;
      few_message_args = limits.args;
      few_params = each-map IsFewState (λ (s : State). length s.params ≤ 4) (λ s x. x.0) ss limits.each_state;
      shallow = exprs IsShallow shallow;
      little_nest = each-map IsFew (λ (h : Handler). nest (body_of h.body) ≤ 16) (λ h x. x.1.0) (hs_of ss) few;
      few_loops = each-map IsFew (λ (h : Handler). loops (body_of h.body) ≤ 4) (λ h x. x.1.1) (hs_of ss) few;
    }

pub plains : (ss : List State) → Each IsReadState ss → Each (λ (h : Handler). Each IsShallow (exprs_of h)) (hs_of ss) →
    Each IsPlainState ss
plains ss read shallow =
    let reads : Each (λ (s : State). Each IsRead s.handlers) ss =
    each-map IsReadState (λ (s : State). Each IsRead s.handlers) (λ s x. x.1) ss read in
    let two = each-both IsRead (λ (h : Handler). Each IsShallow (exprs_of h)) (hs_of ss) (all-handlers IsRead ss reads) shallow in
    let all = each-map (λ (h : Handler). IsRead h × Each IsShallow (exprs_of h)) IsPlain (λ h x. (x.0.0, x.0.1, x.1))
    (hs_of ss) two in
    each-both OnOneLine (λ (s : State). Each IsPlain s.handlers) ss (each-map IsReadState OnOneLine (λ s x. x.0) ss read)
    (each-flat IsPlain ss all)

ok-same : (p q : Protocol) (r : Result Protocol ParseError) → r ≡ Ok p → r ≡ Ok q → p ≡ q
ok-same p q r a b = cc

abbrev profile_if : Bool → ℕ
profile_if b = cond b 2 1

profile-is : (b : Bool) → (profile_if b ≡ 1) ⊎ (profile_if b ≡ 2)
profile-is true = inr refl
profile-is false = inl refl

pub parsed-found : (lines : List Line) (p : Protocol) (after : ℕ) → AreTextLines lines → parsed lines after ≡ Ok p →
    IsTree p × IsGiven lines p
unfolding parsed
parsed-found lines p after text e =
    let prof = profile_of lines in
    let s1 = bind-ok (forms_read prof lines) _ p e in
    let s2 = bind-ok (nests_if (judged (kinds s1.0)) s1.0 after) _ p s1.2 in
    let s3 = bind-ok (within_if (first_over no_counts s1.0)) _ p s2.2 in
    let forms = forms-found prof lines s1.0 s1.1 in
    let qs = forms.0 in
    let nested : IsNested (map kind_at qs) = subst IsNested (ap kinds forms.2 ∙ kinds-at qs)
    (nested-is (kinds s1.0) (nested-ok (judged (kinds s1.0)) s1.0 after s2.0 s2.1)) in
    let tree = tree-found qs nested in
    let q = tree.0 in
    let given : map erased qs ≡ lines_of q = tree.1 in
    let none : first_over no_counts (cut_lines qs) ≡ None = ap (first_over no_counts) (sym forms.2)
    ∙ within-ok (first_over no_counts s1.0) s3.0 s3.1 in
    let none_of : first_over no_counts (cut_lines (lines_of q)) ≡ None =
    ap (λ ls. first_over no_counts (cut_lines ls)) (sym given) ∙ over-back qs no_counts none in
    let shallow = all-shallow (lines_of q) no_counts none_of in
    let reads : Each (λ (s : State). Each IsRead s.handlers) q.states =
    each-map IsReadState (λ (s : State). Each IsRead s.handlers) (λ s x. x.1) q.states tree.2 in
    let noeach : Each (λ (s : State). Each (λ (h : Handler). eaches (body_of h.body) ≡ 0) s.handlers) q.states =
    each-map (λ (s : State). Each IsRead s.handlers) (λ (s : State). Each
    (λ (h : Handler). eaches (body_of h.body) ≡ 0) s.handlers)
    (λ s x. each-map IsRead (λ (h : Handler). eaches (body_of h.body) ≡ 0) (λ h y. y.1) s.handlers x) q.states reads in
    let profile : q.profile ≡ prof = first-profile lines qs q.line q.name q.profile _ forms.1 given in
    let good : Each (λ (x : ℕ × Form Expr). LineGood prof x.1) (lines_of q) =
    subst (Each (λ (x : ℕ × Form Expr). LineGood prof x.1)) given
    (each-erased (LineGood prof) qs (lines-good prof lines qs text forms.1)) in
    let no_loop : prof ≡ 1 → Each NoLoop (lines_of q) = λ one. subst (Each NoLoop) given
    (each-erased (λ x. (n : Name) (v : Expr) → x ≡ f.ForEach n v → ⊥) qs
    (no-loops lines qs (subst (λ z. SpellAll z lines qs) one forms.1))) in
    let is_tree : IsTree q = tree-of-lines q prof profile (profile-is (names_two_in lines)) tree.2
    (tree-bound q noeach none_of) shallow good no_loop in
    let same : built s1.0 ≡ built (cut_lines (lines_of q)) = ap built forms.2 ∙ sym (built-erased qs no_parts)
    ∙ ap (λ ls. built (cut_lines ls)) given in
    let all : whole (built s1.0) after ≡ Ok q = ap (λ s. whole s after) same
    ∙ built-protocol q (plains q.states tree.2 is_tree.shallow) after in
    let is_same : q ≡ p = ok-same q p (whole (built s1.0) after) all s3.2 in
    subst (λ z. IsTree z × IsGiven lines z) is_same (is_tree, (qs, subst (λ z. SpellAll z lines qs) (sym profile) forms.1, given))
