-- An empty loop over a set leaves its last node in the variable.
use Rattle.std.proofs.Common.{◌≡◌, ◌∙◌, ℕ, zero, suc, ◌<◌, Bool, false, cond, List, [], ◌∷◌, get_or, take, nat_lt, Option, Some}
use Rattle.std.proofs.Common.{None, refl, ap, sym, subst, arith}
use Rattle.std.specs.Prelude.{slice_get, slice_set}
use Rattle.std.specs.Str.{bytes_eq}
use Rattle.std.proofs.Math.Seq.{take-set-lt}
use Rattle.std.proofs.lemmas.List.{length-set, length-take}
use Rattle.std.proofs.lemmas.List.Folds.{position_or_len-set}
use Rattle.std.proofs.lemmas.List.Quantifiers.{position-Some}
use Rattle.std.proofs.lemmas.Slice.Eq.{bytes_eq-Decides}
use Rattle.tw_base.specs.NodeSets.{members, without}
use Rattle.tw_base.specs.declared.name.Name.{Name}
use Rattle.tw_base.specs.declared.value.Value.{Value}
use Rattle.tw_base.specs.declared.value.Value.TheVariants as v
use Rattle.teapot_tree.specs.declared.protocol.Protocol.{Protocol}
use Rattle.teapot_tree.specs.declared.stmt.Do.{out-roll-Do}
use Rattle.teapot_tree.specs.declared.stmt.Stmt.{Stmt}
use Rattle.teapot_meaning.specs.Depth.{nodes_in}
use Rattle.teapot_meaning.specs.Goes.{Goes, goes_on}
use Rattle.teapot_meaning.specs.Names.{info_number}
use Rattle.teapot_meaning.specs.Steps.{assigned, assigned_at, each, led_to, place_of, turned, turns}
use Rattle.teapot_meaning.specs.declared.state.Bound.{Bound}
use Rattle.teapot_meaning.specs.declared.state.Ended.{Ended}
use Rattle.teapot_meaning.specs.declared.state.Next.TheVariants.{On}
use Rattle.teapot_meaning.proofs.Members.{members_rest}
use Rattle.stache_table.specs.Runs.{Run, last_of, put, put_last, real}

nodes_left : (s : List Bool) (n : ℕ) (ns : List ℕ) → nodes_in s ≡ n ∷ ns → nodes_in (without s n) ≡ ns
unfolding without
nodes_left s n ns e =
    let r = members_rest n ns (take 8 s) e in
    let low : n < 8 = omega (arith, r.0, length-take 8 s) in
    ap members (take-set-lt 8 s n false low) ∙ r.1

pub put-is : (r : Run) (name : Name) (x : Value) (i j : Option ℕ) → assigned_at (real r) name x i j ≡ real (put r name x i j)
put-is r name x (Some i) j = refl
put-is r name x None (Some j) = refl
put-is r name x None None = refl

-- ---- the same variable once more

set_again : {X : Type 0} (xs : List X) (i : ℕ) (x y : X) → slice_set (slice_set xs i x) i y ≡ slice_set xs i y
set_again [] i x y = refl
set_again (z ∷ zs) zero x y = refl
set_again (z ∷ zs) (suc i) x y = ap (λ ws. z ∷ ws) (set_again zs i x y)

place_kept : (name : Name) (vars : List Bound) (i : ℕ) (x : Value) → place_of name vars ≡ Some i →
    place_of name (slice_set vars i (record { name = name; value = x })) ≡ Some i
place_kept name vars i x at =
    let test : Bound → Bool = λ b. bytes_eq b.name name in
    let new : Bound = record { name = name; value = x } in
    let found = position-Some test vars i new at in
    let same : test new ≡ test (get_or vars i new) = (bytes_eq-Decides name name).1 refl ∙ sym found.1 in
    (λ k. cond (nat_lt (position_or_len-set test vars i new new same k) (length-set vars i new k))
    (Some (position_or_len-set test vars i new new same k)) None) ∙ at

put_twice : (r : Run) (name : Name) (x y : Value) (i j : Option ℕ) → place_of name r.vars ≡ i →
    put (put r name x i j) name y (place_of name (put r name x i j).vars) j ≡ put r name y i j
put_twice r name x y (Some i) j at =
    ap (λ o. put (put r name x (Some i) j) name y o j) (place_kept name r.vars i x at)
    ∙ ap (λ vars. record r { vars = vars }) (set_again r.vars i (record { name = name; value = x })
    (record { name = name; value = y }))
put_twice r name x y None (Some j) at =
    ap (λ o. put (put r name x None (Some j)) name y o (Some j)) at
    ∙ ap (λ infos. record r { infos = infos }) (set_again r.infos j x y)
put_twice r name x y None None at = ap (λ o. put r name y o None) at

last_again : (r : Run) (name : Name) (n : ℕ) (ns : List ℕ) (i j : Option ℕ) → place_of name r.vars ≡ i →
    put_last (put r name (v.Node n) i j) name ns (place_of name (put r name (v.Node n) i j).vars) j
    ≡ put_last r name (n ∷ ns) i j
last_again r name n [] i j at = refl
last_again r name n (m ∷ ms) i j at = put_twice r name (v.Node n) (v.Node (last_of m ms)) i j at

-- ---- the loop

-- what follows the loop decides where it goes
pub looped : (p : Protocol) (name : Name) (rest : List Stmt) (r : Run) (e : Ended) (s : List Bool) (ns : List ℕ) → nodes_in s ≡ ns
    → Goes p rest (real (put_last r name ns (place_of name r.vars) (info_number p name))) e →
    Goes p (each name s [] ∷ rest) (real r) e
unfolding turns assigned
looped p name rest r e s [] is go = goes_on (ap (λ x. led_to p x rest (real r)) (out-roll-Do _)
    ∙ ap (λ ns. turned p name s (slice_get ns 0) [] rest (real r)) is) go
looped p name rest r e s (n ∷ ns) is go =
    let i = place_of name r.vars in
    let j = info_number p name in
    let next : Run = put r name (v.Node n) i j in
    goes_on
    (ap (λ x. led_to p x rest (real r)) (out-roll-Do _)
    ∙ (ap (λ ms. turned p name s (slice_get ms 0) [] rest (real r)) is
    ∙ ap (On (each name (without s n) [] ∷ rest)) (put-is r name (v.Node n) i j)))
    (looped p name rest next e (without s n) ns (nodes_left s n ns is)
    (subst (λ q. Goes p rest (real q) e) (sym (last_again r name n ns i j refl)) go))
