-- One walk over statements for each kind of rule: it counts in place of going along each path.
use Rattle.std.specs.Prelude.{ℕ, ◌+◌, ◌*◌, max, Bool, true, false, ◌&&◌, ◌||◌, List, [], ◌++◌}
use Rattle.std.specs.List.{list_any, flat_map}
use Rattle.teapot_tree.specs.Bodies.{Body, done, plain, branch, branches, loop, each}
use Rattle.teapot_tree.specs.Paths.{Deed, does, tests, repeats, goes_on, Step, steps_in, sends}
use Rattle.teapot_rules.specs.Lists.{line_if}

-- the lines of the statements that pass a test
abbrev pub step_lines : (Deed → Bool) → Body → List ℕ
step_lines test b = flat_map (λ (s : Step). line_if (test s.deed) s.line) (steps_in b)

-- whether some statement passes a test
abbrev pub meets : (Deed → Bool) → Body → Bool
meets test b = list_any (λ (s : Step). test s.deed) (steps_in b)

-- the lines of those of the second kind that one of the first kind comes before on some path; had says that one does
abbrev pub follow : (Deed → Bool) → (Deed → Bool) → Body → Bool → List ℕ
follow one other done had = []
follow one other (plain line s b) had = line_if (had && other (does s)) line ++ follow one other b (had || one (does s))
follow one other (branch line e x b) had = line_if (had && other (tests e)) line
    ++ (follow one other x (had || one (tests e)) ++ follow one other b (had || one (tests e) || meets one x))
follow one other (branches line e x y b) had =
    line_if (had && other (tests e)) line
    ++ (follow one other x (had || one (tests e)) ++ (follow one other y (had || one (tests e))
    ++ follow one other b (had || one (tests e) || meets one x || meets one y)))
follow one other (loop line v e x b) had =
    line_if (had && other (repeats v e)) line ++ (follow one other x (had || one (repeats v e) || meets one x)
    ++ follow one other b (had || one (repeats v e) || meets one x))
follow one other (each line v s x b) had = line_if (had && other goes_on) line ++ follow one other b (had || one goes_on)

abbrev pub is_some_body : Body → Bool
is_some_body done = false
is_some_body _ = true

-- the lines of those that a statement follows on some path, where it is known whether one follows these statements
abbrev pub not_last : (Deed → Bool) → Body → Bool → List ℕ
not_last kind done more = []
not_last kind (plain line s b) more = line_if (kind (does s) && (is_some_body b || more)) line ++ not_last kind b more
not_last kind (branch line e x b) more = line_if (kind (tests e) && (is_some_body x || is_some_body b || more)) line
    ++ (not_last kind x (is_some_body b || more) ++ not_last kind b more)
not_last kind (branches line e x y b) more =
    line_if (kind (tests e) && (is_some_body x || is_some_body y || is_some_body b || more)) line
    ++ (not_last kind x (is_some_body b || more) ++ (not_last kind y (is_some_body b || more) ++ not_last kind b more))
not_last kind (loop line v e x b) more = line_if (kind (repeats v e) && (is_some_body x || is_some_body b || more)) line
    ++ (not_last kind x true ++ not_last kind b more)
not_last kind (each line v s x b) more = line_if (kind goes_on && (is_some_body b || more)) line ++ not_last kind b more

-- ---- all of these as one walk: a test is told whether one of a kind came before and whether a statement follows

abbrev pub walk : (Deed → Bool) → (Bool → Bool → Deed → Bool) → Body → Bool → Bool → List ℕ
walk one test done had more = []
walk one test (plain line s b) had more = line_if (test had (is_some_body b || more) (does s)) line
    ++ walk one test b (had || one (does s)) more
walk one test (branch line e x b) had more =
    line_if (test had (is_some_body b || more) (tests e)) line
    ++ (walk one test x (had || one (tests e)) (is_some_body b || more)
    ++ walk one test b (had || one (tests e) || meets one x) more)
walk one test (branches line e x y b) had more =
    line_if (test had (is_some_body b || more) (tests e)) line
    ++ (walk one test x (had || one (tests e)) (is_some_body b || more)
    ++ (walk one test y (had || one (tests e)) (is_some_body b || more)
    ++ walk one test b (had || one (tests e) || meets one x || meets one y) more))
walk one test (loop line v e x b) had more =
    line_if (test had (is_some_body b || more) (repeats v e)) line
    ++ (walk one test x (had || one (repeats v e) || meets one x) true
    ++ walk one test b (had || one (repeats v e) || meets one x) more)
walk one test (each line v s x b) had more = line_if (test had (is_some_body b || more) goes_on) line
    ++ walk one test b (had || one goes_on) more

-- the most messages that a path sends, as the rule counts them
abbrev pub most : Body → ℕ
most done = 0
most (plain line s b) = sends s + most b
most (branch line e x b) = most x + most b
most (branches line e x y b) = max (most x) (most y) + most b
most (loop line v e x b) = 8 * most x + most b
most (each line v s x b) = most b
