-- The names of a form are names among its tokens.
use Rattle.std.proofs.Common.{◌≡◌, List, [], ◌∷◌, ◌++◌, map, Option, Some, None, sym, subst}
use Rattle.tw_base.specs.Lists.{Each}
use Rattle.tw_base.specs.declared.name.Name.{Name}
use Rattle.tw_lex.specs.declared.token.Mark.TheVariants as m
use Rattle.teapot_tree.specs.declared.expr.Expr.{Expr, roll-Expr}
use Rattle.teapot_tree.specs.declared.expr.Expr.TheOpen.{Expr-F}
use Rattle.teapot_tree.specs.declared.expr.Expr.TheFolds.{fold-roll-Expr, ind-Expr, map-Expr}
use Rattle.teapot_tree.specs.Parts.{names_in, names_step, option_words}
use Rattle.teapot_lines.specs.declared.form.Answers.{Answers}
use Rattle.teapot_lines.specs.declared.form.Answers.TheVariants as a
use Rattle.teapot_lines.specs.declared.form.Form.{Form}
use Rattle.teapot_lines.specs.declared.form.Form.TheVariants as f
use Rattle.teapot_lines.specs.declared.form.Typed.{Typed}
use Rattle.teapot_lines.specs.Exprs.{spelled, spelled_step, Way, Infix, Before, way, two_spelled}
use Rattle.teapot_lines.specs.Parts.{tails, spelled_list, spelled_param, spelled_name, spelled_answers}
use Rattle.teapot_lines.specs.Seen.{Seen, Key, Named, Number, Marked}
use Rattle.teapot_lines.specs.Spelling.{spelling, spelled_cont}
use Rattle.teapot_lines.proofs.Spells.{spelled-roll}
use Rattle.teapot_parse.proofs.Builds.{each-parts}
use Rattle.teapot_parse.proofs.Goods.{form_exprs, form_words, answer_words, typed_name, each-append}

abbrev pub TokenGood : (Name → Type 0) → Seen → Type 0
TokenGood N (Named w) = N w
TokenGood N (Key key) = Unit {0}
TokenGood N (Number n) = Unit {0}
TokenGood N (Marked mark) = Unit {0}

module _ (N : Name → Type 0) where
  abbrev pub G : Seen → Type 0
  G = TokenGood N

  abbrev NamesGood : Expr → Type 0
  NamesGood e = Each N (names_in e)

  names-roll : (x : Expr-F Expr) → names_in (roll-Expr x) ≡ names_step (map-Expr Expr (List Name) names_in x)
  unfolding names_in
  names-roll x = fold-roll-Expr (List Name) names_step x

  two-parts : (w : Way) (ts us : List Seen) → Each G (two_spelled w ts us) → Each G ts × Each G us
  two-parts (Infix mark) ts us h =
      let parts = each-parts G (Marked m.Open ∷ ts) ((Marked mark ∷ us) ++ Marked m.Close ∷ []) h in
      (parts.0.1, (each-parts G us (Marked m.Close ∷ []) parts.1.1).0)
  two-parts (Before key) ts us h =
      let parts = each-parts G (Key key ∷ Marked m.Open ∷ ts) ((Marked m.Comma ∷ us) ++ Marked m.Close ∷ []) h in
      (parts.0.1.1, (each-parts G us (Marked m.Close ∷ []) parts.1.1).0)

  abbrev Spelt : Expr → Type 0
  Spelt e = Each G (spelled e) → NamesGood e

  abbrev Part : Type 0
  Part = (e : Expr) × Spelt e

  abbrev whole_of : Expr-F Part → Expr-F Expr
  whole_of = map-Expr Part Expr (λ p. p.0)

  level : (y : Expr-F Part) → Each G (spelled_step (map-Expr Expr (List Seen) spelled (whole_of y))) →
      Each N (names_step (map-Expr Expr (List Name) names_in (whole_of y)))
  level (Expr-F.Number n) h = tt
  level Expr-F.True h = tt
  level Expr-F.False h = tt
  level Expr-F.Empty h = tt
  level Expr-F.Src h = tt
  level Expr-F.SelfNode h = tt
  level Expr-F.Home h = tt
  level (Expr-F.Var w) h = (h.0, tt)
  level (Expr-F.One e) h = e.1 (each-parts G (spelled e.0) (Marked m.Close ∷ []) h.1.1).0
  level (Expr-F.Not e) h = e.1 (each-parts G (spelled e.0) (Marked m.Close ∷ []) h.1.1).0
  level (Expr-F.Count e) h = e.1 (each-parts G (spelled e.0) (Marked m.Close ∷ []) h.1.1).0
  level (Expr-F.Two op x y) h =
      let parts = two-parts (way op) (spelled x.0) (spelled y.0) h in
      each-append N (names_in x.0) (names_in y.0) (x.1 parts.0) (y.1 parts.1)

  at_level : (y : Expr-F Part) → Spelt (roll-Expr (whole_of y))
  at_level y h = subst (Each N) (sym (names-roll (whole_of y))) (level y (subst (Each G) (spelled-roll (whole_of y)) h))

  pub expr-names : (e : Expr) → Each G (spelled e) → Each N (names_in e)
  expr-names = ind-Expr Spelt (λ x y is. subst (λ z. Spelt (roll-Expr z)) is (at_level y))

  tails-good : {A : Type 0} (spell : A → List Seen) (P : A → Type 0) → ((x : A) → Each G (spell x) → P x) → (xs : List A) →
      Each G (tails spell xs) → Each P xs
  tails-good spell P g [] h = tt
  tails-good spell P g (x ∷ xs) h = let parts = each-parts G (spell x) (tails spell xs) h.1 in
      (g x parts.0, tails-good spell P g xs parts.1)

  list-good : {A : Type 0} (spell : A → List Seen) (P : A → Type 0) → ((x : A) → Each G (spell x) → P x) → (xs : List A) →
      Each G (spelled_list spell xs) → Each P xs
  list-good spell P g [] h = tt
  list-good spell P g (x ∷ xs) h = let parts = each-parts G (spell x) (tails spell xs) h in
      (g x parts.0, tails-good spell P g xs parts.1)

  cont-good : (c : Option Name) → Each G (spelled_cont c) → Each N (option_words c)
  cont-good None h = tt
  cont-good (Some w) h = (h.1.0, tt)

  answers-good : (w : Answers) (ts : List Seen) → Each G (spelled_answers w ++ ts) → Each N (answer_words w) × Each G ts
  answers-good a.RdFault ts h = (tt, h.1)
  answers-good a.WrFault ts h = (tt, h.1)
  answers-good (a.Named n) ts h = ((h.0, tt), h.1)

  params-good : (ps : List Typed) → Each (λ (p : Typed). N p.name) ps → Each N (map typed_name ps)
  params-good [] h = tt
  params-good (p ∷ ps) (h, hs) = (h, params-good ps hs)

  abbrev pub FormGood : Form Expr → Type 0
  FormGood x = Each N (form_words x) × Each NamesGood (form_exprs x)

  pub form-good : (x : Form Expr) → Each G (spelling x) → FormGood x
  form-good (f.Protocol n p) h = ((h.1.0, tt), tt)
  form-good (f.Message n ys c d) h = ((h.1.0, tt), tt)
  form-good (f.Info n y) h = ((h.1.0, tt), tt)
  form-good (f.Start b n g) h = ((h.1.0, tt), tt)
  form-good (f.State n ps c) h =
      let parts = each-parts G (spelled_list spelled_param ps) (spelled_cont c) h.1.1.1 in (
        (
          h.1.0,
          each-append N (map typed_name ps) (option_words c)
              (params-good ps (list-good spelled_param (λ (p : Typed). N p.name) (λ p k. k.0) ps parts.0)) (cont-good c parts.1),
        ),
        tt,
      )
  form-good (f.On w ns) h =
      let rest = answers-good w (Marked m.Open ∷ (spelled_list spelled_name ns ++ (Marked m.Close ∷ []))) h.1 in
      let parts = each-parts G (spelled_list spelled_name ns) (Marked m.Close ∷ []) rest.1.1 in
      (each-append N (answer_words w) ns rest.0 (list-good spelled_name N (λ n k. k.0) ns parts.0), tt)
  form-good f.Default h = (tt, tt)
  form-good (f.Local n y) h = ((h.1.0, tt), tt)
  form-good f.Begin h = (tt, tt)
  form-good f.End h = (tt, tt)
  form-good (f.If e) h = (tt, (expr-names e (each-parts G (spelled e) [] h.1).0, tt))
  form-good f.Else h = (tt, tt)
  form-good (f.Assign n e) h = ((h.0, tt), (expr-names e (each-parts G (spelled e) [] h.1.1).0, tt))
  form-good (f.Send r e n xs) h =
      let parts = each-parts G (spelled e) (Marked m.Comma ∷ Named n ∷ (tails spelled xs ++ (Marked m.Close ∷ []))) h.1.1 in
      let args = each-parts G (tails spelled xs) (Marked m.Close ∷ []) parts.1.1.1 in
      ((parts.1.1.0, tt), (expr-names e parts.0, tails-good spelled NamesGood expr-names xs args.0))
  form-good (f.SetTag g) h = (tt, tt)
  form-good (f.SetState n xs) h =
      let args = each-parts G (spelled_list spelled xs) (Marked m.BraceClose ∷ Marked m.Close ∷ []) h.1.1.1.1 in
      ((h.1.1.0, tt), list-good spelled NamesGood expr-names xs args.0)
  form-good (f.Suspend l n xs p) h =
      let args =
      each-parts G (spelled_list spelled xs) (Marked m.Semicolon ∷ Named p ∷ Marked m.BraceClose ∷ Marked m.Close ∷ [])
      h.1.1.1.1.1.1 in
      ((h.1.1.0, (h.1.1.1.1.0, (args.1.1.0, tt))), list-good spelled NamesGood expr-names xs args.0)
  form-good (f.Resume n) h = ((h.1.1.0, tt), tt)
  form-good (f.Error n) h = ((h.1.1.0, tt), tt)
  form-good f.Install h = (tt, tt)
  form-good f.Enqueue h = (tt, tt)
  form-good f.WakeUp h = (tt, tt)
  form-good (f.ForEach n e) h = ((h.1.0, tt), (expr-names e (each-parts G (spelled e) [] h.1.1).0, tt))
