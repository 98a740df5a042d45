-- Tokens that are read back as they are written, and that those of each form are.
use Rattle.std.proofs.Common.{◌≡◌, ℕ, ◌+◌, ◌^◌, ◌<◌, Bool, true, false, List, [], ◌∷◌, ◌++◌, map, Option, Some, None, refl, sym}
use Rattle.std.proofs.Common.{ap, ◌∙◌, subst, inl, inr, arith}
use Rattle.std.specs.Prelude.{◌⊎◌}
use Rattle.std.specs.List.{list_all}
use Rattle.std.proofs.lemmas.Bool.{and_from, and_parts, ltb-true}
use Rattle.tw_base.specs.Lists.{Each}
use Rattle.tw_base.specs.declared.message.Chan.{Chan}
use Rattle.tw_base.specs.declared.message.Chan.TheVariants as c
use Rattle.tw_base.specs.declared.name.Name.{Name}
use Rattle.tw_base.specs.declared.value.Tag.{Tag}
use Rattle.tw_base.specs.declared.value.Tag.TheVariants as g
use Rattle.tw_lex.specs.declared.token.Mark.TheVariants as m
use Rattle.tw_lex.specs.declared.token.What.{What}
use Rattle.tw_lex.specs.declared.token.What.TheVariants as what
use Rattle.teapot_tree.specs.declared.expr.Expr.{Expr, roll-Expr}
use Rattle.teapot_tree.specs.declared.expr.Expr.TheOpen.{Expr-F}
use Rattle.teapot_tree.specs.declared.expr.Expr.TheFolds.{fold-roll-Expr, ind-Expr, map-Expr}
use Rattle.teapot_tree.specs.declared.expr.Op.{Op}
use Rattle.teapot_tree.specs.declared.expr.Op.TheVariants as o
use Rattle.teapot_tree.specs.declared.keyword.Keyword.{Keyword}
use Rattle.teapot_tree.specs.declared.keyword.Keyword.TheVariants as k
use Rattle.teapot_tree.specs.declared.protocol.ValType.{ValType}
use Rattle.teapot_tree.specs.declared.protocol.ValType.TheVariants as y
use Rattle.teapot_tree.specs.Grammar.{IsName}
use Rattle.teapot_tree.specs.Keywords.{keyword_of, spelling_of}
use Rattle.teapot_tree.specs.Parts.{names_in, names_step, fits, fits_step, option_words}
use Rattle.teapot_lines.specs.declared.form.Answers.{Answers}
use Rattle.teapot_lines.specs.declared.form.Answers.TheVariants as a
use Rattle.teapot_lines.specs.declared.form.Form.{Form}
use Rattle.teapot_lines.specs.declared.form.Form.TheVariants as f
use Rattle.teapot_lines.specs.declared.form.Reach.{Reach}
use Rattle.teapot_lines.specs.declared.form.Reach.TheVariants as r
use Rattle.teapot_lines.specs.declared.form.Typed.{Typed}
use Rattle.teapot_lines.specs.Exprs.{spelled, spelled_step, Way, Infix, Before, way, two_spelled}
use Rattle.teapot_lines.specs.Parts.{tails, spelled_list, spelled_param, spelled_name, spelled_type, spelled_answers, word_of}
use Rattle.teapot_lines.specs.Parts.{tag_word, chan_number}
use Rattle.teapot_lines.specs.Seen.{Seen, Key, Named, Number, Marked, seen_what, seen_word}
use Rattle.teapot_lines.specs.Spelling.{spelling, fits_form, spelled_cont, spelled_profile, spelled_carries, start_word}
use Rattle.teapot_lines.specs.Spelling.{send_word}
use Rattle.teapot_lines.proofs.Spells.{spelled-roll}
use Rattle.teapot_parse.proofs.Builds.{each-parts}
use Rattle.teapot_parse.proofs.Goods.{form_exprs, form_words, answer_words, typed_name, each-append}

-- what is written for a token
abbrev pub what_of : Seen → What
what_of (Key key) = what.Word (spelling_of key)
what_of (Named w) = what.Word w
what_of (Number n) = what.Number n
what_of (Marked mark) = what.Mark mark

-- it is read back as it is written
abbrev pub Stays : ℕ → Seen → Type 0
Stays profile (Key key) = keyword_of profile (spelling_of key) ≡ Some key
Stays profile (Named w) = IsName profile w
Stays profile (Number n) = n < 2 ^ 64
Stays profile (Marked mark) = Unit {0}

pub seen-again : (profile : ℕ) (t : Seen) → Stays profile t → seen_what profile (what_of t) ≡ t
seen-again profile (Key key) h = ap (seen_word (spelling_of key)) h
seen-again profile (Named w) h = ap (seen_word w) h.free
seen-again profile (Number n) h = refl
seen-again profile (Marked mark) h = refl

-- ---- keywords

-- a keyword of both profiles
abbrev pub in_both : Keyword → Bool
in_both k.ForEach = false
in_both _ = true

key-one : (key : Keyword) → in_both key ≡ true → keyword_of 1 (spelling_of key) ≡ Some key
unfolding keyword_of
key-one k.ForEach e = absurd cc
key-one _ e = refl

key-two : (key : Keyword) → keyword_of 2 (spelling_of key) ≡ Some key
unfolding keyword_of
key-two k.ForEach = refl
key-two _ = refl

key-stays : (profile : ℕ) → (profile ≡ 1) ⊎ (profile ≡ 2) → (key : Keyword) → in_both key ≡ true → Stays profile (Key key)
key-stays profile (inl one) key e = subst (λ p. Stays p (Key key)) (sym one) (key-one key e)
key-stays profile (inr two) key e = subst (λ p. Stays p (Key key)) (sym two) (key-two key)

-- what a form is to be like beside its names and expressions
abbrev pub FitsProfile : ℕ → Form Expr → Type 0
FitsProfile profile (f.Protocol n p) = p ≡ profile
FitsProfile profile (f.ForEach n e) = profile ≡ 2
FitsProfile profile _ = Unit {0}

-- an expression with good names and numbers
abbrev pub GoodExpr : ℕ → Expr → Type 0
GoodExpr profile e = Each (IsName profile) (names_in e) × (fits e ≡ true)

-- a form with good names and expressions
abbrev pub GoodForm : ℕ → Form Expr → Type 0
GoodForm profile x = Each (IsName profile) (form_words x) × Each (GoodExpr profile) (form_exprs x) × FitsProfile profile x

module _ (profile : ℕ) (which : (profile ≡ 1) ⊎ (profile ≡ 2)) where
  abbrev S : Seen → Type 0
  S = Stays profile

  keys : (key : Keyword) → in_both key ≡ true → S (Key key)
  keys key e = key-stays profile which key e

  -- ---- expressions

  abbrev WayStays : Way → Type 0
  WayStays (Infix mark) = Unit {0}
  WayStays (Before key) = S (Key key)

  way-stays : (op : Op) → WayStays (way op)
  way-stays o.Has = keys k.Has refl
  way-stays o.With = keys k.With refl
  way-stays o.Without = keys k.Without refl
  way-stays _ = tt

  two-stay : (w : Way) (ts us : List Seen) → WayStays w → Each S ts → Each S us → Each S (two_spelled w ts us)
  two-stay (Infix mark) ts us h x z = each-append S (Marked m.Open ∷ ts) ((Marked mark ∷ us) ++ (Marked m.Close ∷ [])) (tt, x)
      (each-append S (Marked mark ∷ us) (Marked m.Close ∷ []) (tt, z) (tt, tt))
  two-stay (Before key) ts us h x z = each-append S (Key key ∷ Marked m.Open ∷ ts)
      ((Marked m.Comma ∷ us) ++ (Marked m.Close ∷ [])) (h, (tt, x))
      (each-append S (Marked m.Comma ∷ us) (Marked m.Close ∷ []) (tt, z) (tt, tt))

  one-stays : (key : Keyword) (ts : List Seen) → in_both key ≡ true → Each S ts →
      Each S ((Key key ∷ Marked m.Open ∷ ts) ++ (Marked m.Close ∷ []))
  one-stays key ts e h = each-append S (Key key ∷ Marked m.Open ∷ ts) (Marked m.Close ∷ []) (keys key e, (tt, h)) (tt, tt)

  names-roll : (x : Expr-F Expr) → names_in (roll-Expr x) ≡ names_step (map-Expr Expr (List Name) names_in x)
  unfolding names_in
  names-roll x = fold-roll-Expr (List Name) names_step x

  fits-roll : (x : Expr-F Expr) → fits (roll-Expr x) ≡ fits_step (map-Expr Expr Bool fits x)
  unfolding fits
  fits-roll x = fold-roll-Expr Bool fits_step x

  abbrev Good : Expr → Type 0
  Good e = Each (IsName profile) (names_in e) → fits e ≡ true → Each S (spelled e)

  abbrev Part : Type 0
  Part = (e : Expr) × Good e

  abbrev whole_of : Expr-F Part → Expr-F Expr
  whole_of = map-Expr Part Expr (λ p. p.0)

  level : (x : Expr-F Part) → Each (IsName profile) (names_step (map-Expr Expr (List Name) names_in (whole_of x))) →
      fits_step (map-Expr Expr Bool fits (whole_of x)) ≡ true
      → Each S (spelled_step (map-Expr Expr (List Seen) spelled (whole_of x)))
  level (Expr-F.Number n) h e = let small = ltb-true n (2 ^ 32) e in (omega arith, tt)
  level Expr-F.True h e = (keys k.True refl, tt)
  level Expr-F.False h e = (keys k.False refl, tt)
  level Expr-F.Empty h e = (keys k.Empty refl, tt)
  level Expr-F.Src h e = (keys k.Src refl, tt)
  level Expr-F.SelfNode h e = (keys k.SelfNode refl, tt)
  level Expr-F.Home h e = (keys k.Home refl, tt)
  level (Expr-F.Var w) h e = h
  level (Expr-F.One x) h e = one-stays k.One (spelled x.0) refl (x.1 h e)
  level (Expr-F.Not x) h e = one-stays k.Not (spelled x.0) refl (x.1 h e)
  level (Expr-F.Count x) h e = one-stays k.Count (spelled x.0) refl (x.1 h e)
  level (Expr-F.Two op x z) h e =
      let names = each-parts (IsName profile) (names_in x.0) (names_in z.0) h in
      let numbers = and_parts (fits x.0) (fits z.0) e in
      two-stay (way op) (spelled x.0) (spelled z.0) (way-stays op) (x.1 names.0 numbers.0) (z.1 names.1 numbers.1)

  at_level : (x : Expr-F Part) → Good (roll-Expr (whole_of x))
  at_level x h e = subst (Each S) (sym (spelled-roll (whole_of x)))
      (level x (subst (Each (IsName profile)) (names-roll (whole_of x)) h) (sym (fits-roll (whole_of x)) ∙ e))

  expr-stays : (e : Expr) → GoodExpr profile e → Each S (spelled e)
  expr-stays e h = ind-Expr Good (λ x z is. subst (λ v. Good (roll-Expr v)) is (at_level z)) e h.0 h.1

  -- ---- lists

  tails-stay : {A : Type 0} (spell : A → List Seen) (P : A → Type 0) → ((x : A) → P x → Each S (spell x)) → (xs : List A) →
      Each P xs → Each S (tails spell xs)
  tails-stay spell P go [] h = tt
  tails-stay spell P go (x ∷ xs) (h, hs) = (tt, each-append S (spell x) (tails spell xs) (go x h) (tails-stay spell P go xs hs))

  list-stays : {A : Type 0} (spell : A → List Seen) (P : A → Type 0) → ((x : A) → P x → Each S (spell x)) → (xs : List A) →
      Each P xs → Each S (spelled_list spell xs)
  list-stays spell P go [] h = tt
  list-stays spell P go (x ∷ xs) (h, hs) = each-append S (spell x) (tails spell xs) (go x h) (tails-stay spell P go xs hs)

  each-any : {A : Type 0} (P : A → Type 0) → ((x : A) → P x) → (xs : List A) → Each P xs
  each-any P go [] = tt
  each-any P go (x ∷ xs) = (go x, each-any P go xs)

  type-stays : (ty : ValType) → S (Key (word_of ty))
  type-stays y.Int = keys k.Int refl
  type-stays y.Bool = keys k.Bool refl
  type-stays y.Node = keys k.Node refl
  type-stays y.Set = keys k.Set refl

  tag-stays : (tag : Tag) → S (Key (tag_word tag))
  tag-stays g.Invalid = keys k.Invalid refl
  tag-stays g.ReadOnly = keys k.ReadOnly refl
  tag-stays g.ReadWrite = keys k.ReadWrite refl

  chan-stays : (chan : Chan) → S (Number (chan_number chan))
  chan-stays c.Zero = omega arith
  chan-stays c.One = omega arith

  start-stays : (home : Bool) → S (Key (start_word home))
  start-stays true = keys k.HomeStart refl
  start-stays false = keys k.CacheStart refl

  send-stays : (reach : Reach) → S (Key (send_word reach))
  send-stays r.One = keys k.Send refl
  send-stays r.All = keys k.SendAll refl

  carries-stay : (carries : Bool) → Each S (spelled_carries carries)
  carries-stay true = (keys k.Data refl, tt)
  carries-stay false = tt

  types-stay : (ys : List ValType) → Each S (spelled_list spelled_type ys)
  types-stay ys = list-stays spelled_type (λ ty. Unit {0}) (λ ty u. (type-stays ty, tt)) ys
      (each-any (λ ty. Unit {0}) (λ ty. tt) ys)

  params-good : (ps : List Typed) → Each (IsName profile) (map typed_name ps) → Each (λ (p : Typed). IsName profile p.name) ps
  params-good [] h = tt
  params-good (p ∷ ps) (h, hs) = (h, params-good ps hs)

  params-stay : (ps : List Typed) → Each (IsName profile) (map typed_name ps) → Each S (spelled_list spelled_param ps)
  params-stay ps h = list-stays spelled_param (λ (p : Typed). IsName profile p.name) (λ p e. (e, (type-stays p.ty, tt))) ps
      (params-good ps h)

  names-stay : (ns : List Name) → Each (IsName profile) ns → Each S (spelled_list spelled_name ns)
  names-stay ns h = list-stays spelled_name (IsName profile) (λ n e. (e, tt)) ns h

  exprs-stay : (xs : List Expr) → Each (GoodExpr profile) xs → Each S (spelled_list spelled xs)
  exprs-stay xs h = list-stays spelled (GoodExpr profile) expr-stays xs h

  cont-stays : (o : Option Name) → Each (IsName profile) (option_words o) → Each S (spelled_cont o)
  cont-stays None h = (tt, tt)
  cont-stays (Some w) h = (tt, (h.0, (tt, tt)))

  answers-stay : (w : Answers) (ts : List Seen) → Each (IsName profile) (answer_words w) → Each S ts →
      Each S (spelled_answers w ++ ts)
  answers-stay a.RdFault ts h rest = (keys k.RdFault refl, rest)
  answers-stay a.WrFault ts h rest = (keys k.WrFault refl, rest)
  answers-stay (a.Named n) ts h rest = (h.0, rest)

  profile-stays : (p : ℕ) → (p ≡ 1) ⊎ (p ≡ 2) → Each S (spelled_profile p)
  profile-stays p (inl one) = subst (λ z. Each S (spelled_profile z)) (sym one) tt
  profile-stays p (inr two) = subst (λ z. Each S (spelled_profile z)) (sym two) (omega arith, tt)

  loop-stays : profile ≡ 2 → S (Key k.ForEach)
  loop-stays two = subst (λ p. Stays p (Key k.ForEach)) (sym two) (key-two k.ForEach)

  -- ---- forms

  pub form-stays : (x : Form Expr) → GoodForm profile x → Each S (spelling x)
  form-stays (f.Protocol n p) (ws, es, fit) = (
    keys k.Protocol refl,
    (ws.0, profile-stays p (subst (λ z. (z ≡ 1) ⊎ (z ≡ 2)) (sym fit) which)),
  )
  form-stays (f.Message n ys ch b) (ws, es, fit) = (
    keys k.Message refl,
    (
      ws.0,
      (
        tt,
        each-append S (spelled_list spelled_type ys)
            (Marked m.Close ∷ Number (chan_number ch) ∷ spelled_carries b) (types-stay ys)
            (tt, (chan-stays ch, carries-stay b)),
      ),
    ),
  )
  form-stays (f.Info n ty) (ws, es, fit) = (keys k.Info refl, (ws.0, (type-stays ty, tt)))
  form-stays (f.Start h n tag) (ws, es, fit) = (start-stays h, (ws.0, (tag-stays tag, tt)))
  form-stays (f.State n ps ct) (ws, es, fit) =
      let parts = each-parts (IsName profile) (map typed_name ps) (option_words ct) ws.1 in (
        keys k.State refl,
        (
          ws.0,
          (
            tt,
            each-append S (spelled_list spelled_param ps) (spelled_cont ct) (params-stay ps parts.0)
                (cont-stays ct parts.1),
          ),
        ),
      )
  form-stays (f.On w ns) (ws, es, fit) =
      let parts = each-parts (IsName profile) (answer_words w) ns ws in
      let rest = each-append S (spelled_list spelled_name ns) (Marked m.Close ∷ []) (names-stay ns parts.1) (tt, tt) in (
        keys k.On refl,
        answers-stay w (Marked m.Open ∷ (spelled_list spelled_name ns ++ (Marked m.Close ∷ []))) parts.0
            (tt, rest),
      )
  form-stays f.Default h = (keys k.Default refl, tt)
  form-stays (f.Local n ty) (ws, es, fit) = (keys k.Local refl, (ws.0, (type-stays ty, tt)))
  form-stays f.Begin h = (keys k.Begin refl, tt)
  form-stays f.End h = (keys k.End refl, tt)
  form-stays (f.If e) (ws, es, fit) = (keys k.If refl, each-append S (spelled e) [] (expr-stays e es.0) tt)
  form-stays f.Else h = (keys k.Else refl, tt)
  form-stays (f.Assign n e) (ws, es, fit) = (ws.0, (tt, each-append S (spelled e) [] (expr-stays e es.0) tt))
  form-stays (f.Send q e n xs) (ws, es, fit) =
      let args = each-append S (tails spelled xs) (Marked m.Close ∷ [])
      (tails-stay spelled (GoodExpr profile) expr-stays xs es.1) (tt, tt) in (
        send-stays q,
        (
          tt,
          each-append S (spelled e) (Marked m.Comma ∷ Named n ∷ (tails spelled xs ++ (Marked m.Close ∷ [])))
              (expr-stays e es.0) (tt, (ws.0, args)),
        ),
      )
  form-stays (f.SetTag tag) (ws, es, fit) = (keys k.SetTag refl, (tt, (tag-stays tag, (tt, tt))))
  form-stays (f.SetState n xs) (ws, es, fit) = (
    keys k.SetState refl,
    (
      tt,
      (
        ws.0,
        (
          tt,
          each-append S (spelled_list spelled xs) (Marked m.BraceClose ∷ Marked m.Close ∷ [])
              (exprs-stay xs es) (tt, (tt, tt)),
        ),
      ),
    ),
  )
  form-stays (f.Suspend l n xs p) (ws, es, fit) =
      let rest =
      each-append S (spelled_list spelled xs) (Marked m.Semicolon ∷ Named p ∷ Marked m.BraceClose ∷ Marked m.Close ∷ [])
      (exprs-stay xs es) (tt, (ws.1.1.0, (tt, (tt, tt)))) in
      (keys k.Suspend refl, (tt, (ws.0, (tt, (ws.1.0, (tt, rest))))))
  form-stays (f.Resume n) (ws, es, fit) = (keys k.Resume refl, (tt, (ws.0, (tt, tt))))
  form-stays (f.Error n) (ws, es, fit) = (keys k.Error refl, (tt, (ws.0, (tt, tt))))
  form-stays f.Install h = (keys k.Install refl, tt)
  form-stays f.Enqueue h = (keys k.Enqueue refl, tt)
  form-stays f.WakeUp h = (keys k.WakeUp refl, tt)
  form-stays (f.ForEach n e) (ws, es, fit) = (loop-stays fit, (ws.0, each-append S (spelled e) [] (expr-stays e es.0) tt))

  -- ---- numbers

  all-fit : (xs : List Expr) → Each (GoodExpr profile) xs → list_all fits xs ≡ true
  all-fit [] h = refl
  all-fit (x ∷ xs) (h, hs) = and_from (fits x) (list_all fits xs) h.1 (all-fit xs hs)

  protocol-fits : (n : Name) (p : ℕ) → p ≡ profile → fits_form profile (f.Protocol n p) ≡ true
  protocol-fits n p e = by which
    where
      by : (profile ≡ 1) ⊎ (profile ≡ 2) → fits_form profile (f.Protocol n p) ≡ true
      by (inl one) = rw (e, one) refl
      by (inr two) = rw (e, two) refl

  pub form-fits : (x : Form Expr) → GoodForm profile x → fits_form profile x ≡ true
  form-fits (f.Protocol n p) (ws, es, fit) = protocol-fits n p fit
  form-fits (f.If e) (ws, es, fit) = es.0.1
  form-fits (f.Assign n e) (ws, es, fit) = es.0.1
  form-fits (f.Send q e n xs) (ws, es, fit) = and_from (fits e) (list_all fits xs) es.0.1 (all-fit xs es.1)
  form-fits (f.SetState n xs) (ws, es, fit) = all-fit xs es
  form-fits (f.Suspend l n xs p) (ws, es, fit) = all-fit xs es
  form-fits (f.ForEach n e) (ws, es, fit) = es.0.1
  form-fits _ h = refl
