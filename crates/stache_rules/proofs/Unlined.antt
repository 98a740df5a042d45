-- Walks over bodies with every line 0: they find as many lines, and each is 0.
use Rattle.std.proofs.Common.{◌≡◌, ◌∙◌, ℕ, ◌+◌, ◌*◌, max, Bool, true, false, ◌||◌, List, [], ◌∷◌, ◌++◌, map, Some, None, refl}
use Rattle.std.proofs.Common.{ap, sym}
use Rattle.std.specs.List.{flat_map, list_any}
use Rattle.std.proofs.lemmas.List.{map-append}
use Rattle.teapot_tree.specs.declared.stmt.Do.{Do, roll-Do, fold-Do, fold-roll-Do, map-Do}
use Rattle.teapot_tree.specs.declared.stmt.Do.TheOpen.{Do-F}
use Rattle.teapot_tree.specs.declared.stmt.Stmt.{Stmt, fold-Stmt, fold_out-Stmt}
use Rattle.teapot_tree.specs.Bare.{bare, bare_all}
use Rattle.teapot_tree.specs.Bodies.{Simple, assign, install, Body, done, plain, branch, branches, loop, each, body_of, do_of}
use Rattle.teapot_tree.specs.Bodies.{stmt, tree_of}
use Rattle.teapot_tree.specs.Paths.{Deed, does, tests, repeats, goes_on, Step, step, steps_in, sends}
use Rattle.teapot_tree.proofs.Iso.{body-tree, tree-body}
use Rattle.teapot_rules.specs.Lists.{line_if}
use Rattle.teapot_rules.specs.Walks.{is_some_body, meets, most, walk}

-- ---- lists of lines

abbrev pub zeros : List ℕ → List ℕ
zeros xs = map (λ n. 0) xs

pub joined : (xs ys : List ℕ) {us vs : List ℕ} → us ≡ zeros xs → vs ≡ zeros ys → us ++ vs ≡ zeros (xs ++ ys)
joined xs ys h k = (λ i. h i ++ k i) ∙ sym (map-append (λ n. 0) xs ys)

pub one_line : (b : Bool) (n : ℕ) → line_if b 0 ≡ zeros (line_if b n)
one_line true n = refl
one_line false n = refl

pub line-as : (a b : Bool) (n : ℕ) → a ≡ b → line_if a 0 ≡ zeros (line_if b n)
line-as a b n e = ap (λ t. line_if t 0) e ∙ one_line b n

pub any-map : {X Y : Type 0} (f : X → Y) (t : Y → Bool) (xs : List X) → list_any t (map f xs) ≡ list_any (λ x. t (f x)) xs
any-map f t [] = refl
any-map f t (x ∷ xs) = ap (λ v. t (f x) || v) (any-map f t xs)

pub flat-zeros : {X Y : Type 0} (f : X → Y) (g : Y → List ℕ) (h : X → List ℕ) → ((x : X) → g (f x) ≡ zeros (h x)) →
    (xs : List X) → flat_map g (map f xs) ≡ zeros (flat_map h xs)
flat-zeros f g h e [] = refl
flat-zeros f g h e (x ∷ xs) = joined (h x) (flat_map h xs) (e x) (flat-zeros f g h e xs)

-- ---- statements and bodies

abbrev pub bare_body : Body → Body
bare_body done = done
bare_body (plain n s b) = plain 0 s (bare_body b)
bare_body (branch n e x b) = branch 0 e (bare_body x) (bare_body b)
bare_body (branches n e x y b) = branches 0 e (bare_body x) (bare_body y) (bare_body b)
bare_body (loop n v e x b) = loop 0 v e (bare_body x) (bare_body b)
bare_body (each n v s x b) = each 0 v s (bare_body x) (bare_body b)

abbrev bare_level : Do-F Do Stmt → Do-F Do Stmt
bare_level (Do-F.If e first None) = Do-F.If e (bare_all first) None
bare_level (Do-F.If e first (Some second)) = Do-F.If e (bare_all first) (Some (bare_all second))
bare_level (Do-F.ForEach x e body) = Do-F.ForEach x e (bare_all body)
bare_level (Do-F.Each x set body) = Do-F.Each x set (bare_all body)
bare_level l = l

stmt-bare : (line : ℕ) (l : Do-F Do Stmt) → bare (stmt line l) ≡ stmt 0 (bare_level l)
unfolding bare
stmt-bare line l = rw fold_out-Stmt (rw fold-roll-Do (ap (stmt 0) (by_level l)))
  where
    by_level : (l : Do-F Do Stmt) → map-Do Do Stmt Do Stmt (fold-Do Do Stmt roll-Do (λ s. record { what = s.what; line = 0 }))
        (fold-Stmt Do Stmt roll-Do (λ s. record { what = s.what; line = 0 })) l ≡ bare_level l
    by_level (Do-F.If e first None) = refl
    by_level (Do-F.If e first (Some second)) = refl
    by_level (Do-F.ForEach x e body) = refl
    by_level (Do-F.Each x set body) = refl
    by_level Do-F.Install = refl
    by_level _ = refl

simple-bare : (s : Simple) → bare_level (do_of s) ≡ do_of s
simple-bare (assign n e) = refl
simple-bare install = refl
simple-bare _ = refl

tree-bare : (b : Body) → bare_all (tree_of b) ≡ tree_of (bare_body b)
tree-bare done = refl
tree-bare (plain n s b) = λ i. (stmt-bare n (do_of s) ∙ ap (stmt 0) (simple-bare s)) i ∷ tree-bare b i
tree-bare (branch n e x b) = λ i. (stmt-bare n (Do-F.If e (tree_of x) None)
    ∙ ap (λ z. stmt 0 (Do-F.If e z None)) (tree-bare x)) i ∷ tree-bare b i
tree-bare (branches n e x y b) = λ i. (stmt-bare n (Do-F.If e (tree_of x) (Some (tree_of y)))
    ∙ (λ j. stmt 0 (Do-F.If e (tree-bare x j) (Some (tree-bare y j))))) i ∷ tree-bare b i
tree-bare (loop n v e x b) = λ i. (stmt-bare n (Do-F.ForEach v e (tree_of x))
    ∙ ap (λ z. stmt 0 (Do-F.ForEach v e z)) (tree-bare x)) i ∷ tree-bare b i
tree-bare (each n v s x b) = λ i. (stmt-bare n (Do-F.Each v s (tree_of x)) ∙ ap (λ z. stmt 0 (Do-F.Each v s z)) (tree-bare x))
    i ∷ tree-bare b i

pub body-bare : (ss : List Stmt) → body_of (bare_all ss) ≡ bare_body (body_of ss)
body-bare ss = ap (λ z. body_of (bare_all z)) (sym (tree-body ss))
    ∙ (ap body_of (tree-bare (body_of ss)) ∙ body-tree (bare_body (body_of ss)))

-- ---- walks

abbrev bare_step : Step → Step
bare_step s = step 0 s.deed

both : (u v : List Step) {x y : List Step} → x ≡ map bare_step u → y ≡ map bare_step v → x ++ y ≡ map bare_step (u ++ v)
both u v h k = (λ i. h i ++ k i) ∙ sym (map-append bare_step u v)

steps-bare : (b : Body) → steps_in (bare_body b) ≡ map bare_step (steps_in b)
steps-bare done = refl
steps-bare (plain n s b) = ap (λ z. step 0 (does s) ∷ z) (steps-bare b)
steps-bare (branch n e x b) = ap (λ z. step 0 (tests e) ∷ z) (both (steps_in x) (steps_in b) (steps-bare x) (steps-bare b))
steps-bare (branches n e x y b) =
    ap (λ z. step 0 (tests e) ∷ z) (both (steps_in x) (steps_in y ++ steps_in b) (steps-bare x)
    (both (steps_in y) (steps_in b) (steps-bare y) (steps-bare b)))
steps-bare (loop n v e x b) = ap (λ z. step 0 (repeats v e) ∷ z) (both (steps_in x) (steps_in b) (steps-bare x) (steps-bare b))
steps-bare (each n v s x b) = ap (λ z. step 0 goes_on ∷ z) (steps-bare b)

meets-bare : (test : Deed → Bool) (b : Body) → meets test (bare_body b) ≡ meets test b
meets-bare test b = ap (λ z. list_any (λ (s : Step). test s.deed) z) (steps-bare b)
    ∙ any-map bare_step (λ (s : Step). test s.deed) (steps_in b)

some-bare : (b : Body) → is_some_body (bare_body b) ≡ is_some_body b
some-bare done = refl
some-bare (plain n s b) = refl
some-bare (branch n e x b) = refl
some-bare (branches n e x y b) = refl
some-bare (loop n v e x b) = refl
some-bare (each n v s x b) = refl

pub walk-bare : (one : Deed → Bool) (test : Bool → Bool → Deed → Bool) (b : Body) (had more : Bool) →
    walk one test (bare_body b) had more ≡ zeros (walk one test b had more)
walk-bare one test done had more = refl
walk-bare one test (plain n s b) had more =
    joined (line_if (test had (is_some_body b || more) (does s)) n) (walk one test b (had || one (does s)) more)
    (line-as _ (test had (is_some_body b || more) (does s)) n (λ i. test had (some-bare b i || more) (does s)))
    (walk-bare one test b (had || one (does s)) more)
walk-bare one test (branch n e x b) had more =
    joined (line_if (test had (is_some_body b || more) (tests e)) n)
    (walk one test x (had || one (tests e)) (is_some_body b || more)
    ++ walk one test b (had || one (tests e) || meets one x) more)
    (line-as _ (test had (is_some_body b || more) (tests e)) n (λ i. test had (some-bare b i || more) (tests e)))
    (joined (walk one test x (had || one (tests e)) (is_some_body b || more))
    (walk one test b (had || one (tests e) || meets one x) more)
    (ap (λ v. walk one test (bare_body x) (had || one (tests e)) (v || more)) (some-bare b)
    ∙ walk-bare one test x (had || one (tests e)) (is_some_body b || more))
    (ap (λ v. walk one test (bare_body b) (had || one (tests e) || v) more) (meets-bare one x)
    ∙ walk-bare one test b (had || one (tests e) || meets one x) more))
walk-bare one test (branches n e x y b) had more =
    joined (line_if (test had (is_some_body b || more) (tests e)) n)
    (walk one test x (had || one (tests e)) (is_some_body b || more)
    ++ (walk one test y (had || one (tests e)) (is_some_body b || more)
    ++ walk one test b (had || one (tests e) || meets one x || meets one y) more))
    (line-as _ (test had (is_some_body b || more) (tests e)) n (λ i. test had (some-bare b i || more) (tests e)))
    (joined (walk one test x (had || one (tests e)) (is_some_body b || more))
    (walk one test y (had || one (tests e)) (is_some_body b || more)
    ++ walk one test b (had || one (tests e) || meets one x || meets one y) more)
    (ap (λ v. walk one test (bare_body x) (had || one (tests e)) (v || more)) (some-bare b)
    ∙ walk-bare one test x (had || one (tests e)) (is_some_body b || more))
    (joined (walk one test y (had || one (tests e)) (is_some_body b || more))
    (walk one test b (had || one (tests e) || meets one x || meets one y) more)
    (ap (λ v. walk one test (bare_body y) (had || one (tests e)) (v || more)) (some-bare b)
    ∙ walk-bare one test y (had || one (tests e)) (is_some_body b || more))
    ((λ i. walk one test (bare_body b) (had || one (tests e) || meets-bare one x i || meets-bare one y i) more)
    ∙ walk-bare one test b (had || one (tests e) || meets one x || meets one y) more)))
walk-bare one test (loop n v e x b) had more =
    joined (line_if (test had (is_some_body b || more) (repeats v e)) n)
    (walk one test x (had || one (repeats v e) || meets one x) true
    ++ walk one test b (had || one (repeats v e) || meets one x) more)
    (line-as _ (test had (is_some_body b || more) (repeats v e)) n (λ i. test had (some-bare b i || more) (repeats v e)))
    (joined (walk one test x (had || one (repeats v e) || meets one x) true)
    (walk one test b (had || one (repeats v e) || meets one x) more)
    (ap (λ z. walk one test (bare_body x) (had || one (repeats v e) || z) true) (meets-bare one x)
    ∙ walk-bare one test x (had || one (repeats v e) || meets one x) true)
    (ap (λ z. walk one test (bare_body b) (had || one (repeats v e) || z) more) (meets-bare one x)
    ∙ walk-bare one test b (had || one (repeats v e) || meets one x) more))
walk-bare one test (each n v s x b) had more =
    joined (line_if (test had (is_some_body b || more) goes_on) n) (walk one test b (had || one goes_on) more)
    (line-as _ (test had (is_some_body b || more) goes_on) n (λ i. test had (some-bare b i || more) goes_on))
    (walk-bare one test b (had || one goes_on) more)

pub most-bare : (b : Body) → most (bare_body b) ≡ most b
most-bare done = refl
most-bare (plain n s b) = ap (λ k. sends s + k) (most-bare b)
most-bare (branch n e x b) = λ i. most-bare x i + most-bare b i
most-bare (branches n e x y b) = λ i. max (most-bare x i) (most-bare y i) + most-bare b i
most-bare (loop n v e x b) = λ i. 8 * most-bare x i + most-bare b i
most-bare (each n v s x b) = most-bare b
