-- What follows a Suspend, and how deep states are.
use Rattle.std.proofs.Common.{◌≡◌, ◌∙◌, ℕ, zero, suc, ◌+◌, ◌<◌, Bool, true, List, [], ◌∷◌, ◌++◌, Option, Some, None, refl, ap}
use Rattle.std.proofs.Common.{sym, subst, arith}
use Rattle.std.specs.Prelude.{unwrap_or}
use Rattle.tw_base.specs.declared.name.Name.{Name}
use Rattle.tw_base.specs.declared.value.Value.{Value}
use Rattle.teapot_tree.specs.declared.expr.Expr.{Expr}
use Rattle.teapot_tree.specs.declared.protocol.Protocol.{Protocol}
use Rattle.teapot_tree.specs.declared.protocol.State.{State}
use Rattle.teapot_tree.specs.declared.protocol.ValType.TheVariants.{Node}
use Rattle.teapot_tree.specs.declared.stmt.Do.{out-roll-Do}
use Rattle.teapot_tree.specs.declared.stmt.Do.TheOpen.{Do-F}
use Rattle.teapot_tree.specs.declared.stmt.Stmt.{Stmt}
use Rattle.teapot_tree.specs.Paths.{repeats, tests}
use Rattle.teapot_tree.specs.Scopes.{Scope, is_of, locals_in, type_among}
use Rattle.teapot_meaning.specs.Depth.{depth}
use Rattle.teapot_meaning.specs.Fits.{ContFits, FollowsSuspend, at_suspend, later, in_first, in_second, in_loop, in_each}
use Rattle.teapot_meaning.specs.Fits.{fits_below}
use Rattle.teapot_meaning.specs.Layers.{what_of}
use Rattle.teapot_meaning.specs.Steps.{each}
use Rattle.teapot_meaning.specs.declared.state.Cont.{Cont, out-Cont, fold-Cont, fold_out-Cont}
use Rattle.teapot_meaning.specs.declared.state.StateVal.{StateVal, out-StateVal, fold_out-StateVal, map-StateVal}
use Rattle.teapot_meaning.proofs.Found.{both, first_of_both, second_of_both}
use Rattle.teapot_meaning.proofs.Sound.{are_sound, is_sound, keeps, sound_at, sound_both, unpacked}

-- ---- rests

pub follows_more : {stmts rest last : List Stmt} → FollowsSuspend stmts rest → FollowsSuspend rest last →
    FollowsSuspend stmts last
follows_more (at_suspend e) g = later g
follows_more (later f) g = later (follows_more f g)
follows_more (in_first e f) g = in_first e (follows_more f g)
follows_more (in_second e f) g = in_second e (follows_more f g)
follows_more (in_loop set e few f) g = in_loop set e few (follows_more f g)
follows_more (in_each set e few f) g = in_each set e few (follows_more f g)

-- a loop on its way, before others
pub each_sound : (c : Scope) (x : Name) (set : List Bool) (body stmts : List Stmt) →
    is_of Node (type_among (locals_in c) x) ≡ true → are_sound c body ≡ true → are_sound c stmts ≡ true →
    are_sound c (each x set body ∷ stmts) ≡ true
each_sound c x set body stmts node sound more =
    both _ _ (sound_at c (each x set body) (Do-F.Each x set body) (out-roll-Do (Do-F.Each x set body)) ∙ both _ _ node sound) more

-- its body, and then the loop again
pub turn_sound : (c : Scope) (x : Name) (set : List Bool) (body stmts : List Stmt) →
    is_of Node (type_among (locals_in c) x) ≡ true → are_sound c body ≡ true → are_sound c stmts ≡ true →
    are_sound c (body ++ each x set body ∷ stmts) ≡ true
turn_sound c x set body stmts node sound more =
    sound_both c body (each x set body ∷ stmts) sound (each_sound c x set body stmts node sound more)

-- what the parts of a statement keep
pub head_sound : (c : Scope) (s : Stmt) (stmts : List Stmt) → are_sound c (s ∷ stmts) ≡ true → is_sound c s ≡ true
head_sound c s stmts e = first_of_both (is_sound c s) _ e

pub tail_sound : (c : Scope) (s : Stmt) (stmts : List Stmt) → are_sound c (s ∷ stmts) ≡ true → are_sound c stmts ≡ true
tail_sound c s stmts e = second_of_both (is_sound c s) _ e

pub if_sound : (c : Scope) (s : Stmt) (e : Expr) (xs : List Stmt) (ys : Option (List Stmt)) → what_of s ≡ Do-F.If e xs ys →
    is_sound c s ≡ true → (are_sound c xs ≡ true) × (are_sound c (unwrap_or ys []) ≡ true)
if_sound c s e xs ys h k =
    let parts = second_of_both (keeps c (tests e)) _ (sym (sound_at c s (Do-F.If e xs ys) h) ∙ k) in
    (first_of_both (are_sound c xs) _ parts, second_of_both (are_sound c xs) _ parts)

pub loop_sound : (c : Scope) (s : Stmt) (x : Name) (e : Expr) (body : List Stmt) → what_of s ≡ Do-F.ForEach x e body →
    is_sound c s ≡ true → (is_of Node (type_among (locals_in c) x) ≡ true) × (are_sound c body ≡ true)
loop_sound c s x e body h k =
    let parts = sym (sound_at c s (Do-F.ForEach x e body) h) ∙ k in
    let typed = (unpacked c (repeats x e) (first_of_both (keeps c (repeats x e)) _ parts)).typed in
    (first_of_both (is_of Node (type_among (locals_in c) x)) _ typed, second_of_both (keeps c (repeats x e)) _ parts)

pub on_way_sound : (c : Scope) (s : Stmt) (x : Name) (set : List Bool) (body : List Stmt) → what_of s ≡ Do-F.Each x set body →
    is_sound c s ≡ true → (is_of Node (type_among (locals_in c) x) ≡ true) × (are_sound c body ≡ true)
on_way_sound c s x set body h k =
    let parts = sym (sound_at c s (Do-F.Each x set body) h) ∙ k in (
      first_of_both (is_of Node (type_among (locals_in c) x)) _ parts,
      second_of_both (is_of Node (type_among (locals_in c) x)) _ parts,
    )

pub rest_sound : (c : Scope) {stmts rest : List Stmt} → FollowsSuspend stmts rest → are_sound c stmts ≡ true →
    are_sound c rest ≡ true
rest_sound c (at_suspend {s = s} {rest = rest} e) k = tail_sound c s rest k
rest_sound c (later {s = s} {stmts = stmts} f) k = rest_sound c f (tail_sound c s stmts k)
rest_sound c (in_first {s = s} {stmts = stmts} {first = first} {e = e} {second = second} h f) k =
    rest_sound c f (sound_both c first stmts (if_sound c s e first second h (head_sound c s stmts k)).0 (tail_sound c s stmts k))
rest_sound c (in_second {s = s} {stmts = stmts} {first = first} {e = e} {second = second} h f) k =
    rest_sound c f (sound_both c (unwrap_or second []) stmts (if_sound c s e first second h (head_sound c s stmts k)).1
    (tail_sound c s stmts k))
rest_sound c (in_loop {s = s} {stmts = stmts} {body = body} {x = x} {e = e} set h few f) k =
    let parts = loop_sound c s x e body h (head_sound c s stmts k) in
    rest_sound c f (turn_sound c x set body stmts parts.0 parts.1 (tail_sound c s stmts k))
rest_sound c (in_each {s = s} {stmts = stmts} {body = body} {x = x} {was = was} set h few f) k =
    let parts = on_way_sound c s x was body h (head_sound c s stmts k) in
    rest_sound c f (turn_sound c x set body stmts parts.0 parts.1 (tail_sound c s stmts k))

-- A loop on its way leaves what the loop leaves.
pub each_leaves : (q : Stmt) (x : Name) (e : Expr) (set : List Bool) (body rest : List Stmt) (s : Stmt) →
    what_of s ≡ Do-F.ForEach x e body → what_of q ≡ Do-F.Each x set body →
    {stmts last : List Stmt} → stmts ≡ q ∷ rest → FollowsSuspend stmts last → FollowsSuspend (s ∷ rest) last
each_leaves q x e set body rest s h k same (at_suspend {s = d} {rest = more} {label = l} {name = n} {passed = w} {args = xs} g) =
    let one : q ≡ d = cc in let other : Do-F.Each x set body ≡ Do-F.Suspend l n xs w = sym k ∙ (ap what_of one ∙ g) in cc
each_leaves q x e set body rest s h k same (later {s = d} {stmts = more} {rest = last} f) =
    let eq : more ≡ rest = cc in later (subst (λ z. FollowsSuspend z last) eq f)
each_leaves q x e set body rest s h k same (in_first {s = d} {stmts = more} {first = xs} {e = t} {second = ys} g f) =
    let one : q ≡ d = cc in let other : Do-F.Each x set body ≡ Do-F.If t xs ys = sym k ∙ (ap what_of one ∙ g) in cc
each_leaves q x e set body rest s h k same (in_second {s = d} {stmts = more} {first = xs} {e = t} {second = ys} g f) =
    let one : q ≡ d = cc in let other : Do-F.Each x set body ≡ Do-F.If t xs ys = sym k ∙ (ap what_of one ∙ g) in cc
each_leaves q x e set body rest s h k same (in_loop {s = d} {stmts = more} {body = b} {x = y} {e = t} left g few f) =
    let one : q ≡ d = cc in let other : Do-F.Each x set body ≡ Do-F.ForEach y t b = sym k ∙ (ap what_of one ∙ g) in cc
each_leaves q x e set body rest s h k same (in_each {s = d} {stmts = more} {rest = last} {body = b} {x = y} {was = was} left g
    few f) =
    let one : q ≡ d = cc in
    let eq : more ≡ rest = cc in
    let other : Do-F.Each x set body ≡ Do-F.Each y was b = sym k ∙ (ap what_of one ∙ g) in
    let name : y ≡ x = cc in
    let block : b ≡ body = cc in
    in_loop left h few (subst (λ z. FollowsSuspend (body ++ each z left body ∷ rest) last) name
    (subst (λ z. FollowsSuspend (z ++ each y left z ∷ rest) last) block
    (subst (λ z. FollowsSuspend (b ++ each y left b ∷ z) last) eq f)))

-- ---- depth

abbrev pub cont_depth : Option Cont → ℕ
cont_depth (Some k) = depth (out-Cont k).saved + 1
cont_depth None = 0

depth_by : (n : ℕ) (args : List Value) (o : Option Cont) → unwrap_or
    (map-StateVal Cont StateVal ℕ ℕ (fold-Cont ℕ ℕ (λ k. k.saved + 1) (λ s. unwrap_or s.cont 0)) depth
    (record { state = n; args = args; cont = o })).cont 0 ≡ cont_depth o
unfolding depth
depth_by n args (Some k) = fold_out-Cont ℕ ℕ (λ k. k.saved + 1) (λ s. unwrap_or s.cont 0) k
depth_by n args None = refl

pub depth-is : (s : StateVal) → depth s ≡ cont_depth (out-StateVal s).cont
unfolding depth
depth-is s = rw fold_out-StateVal (depth_by (out-StateVal s).state (out-StateVal s).args (out-StateVal s).cont)

cont_as : (p : Protocol) (words : ℕ) (S T : StateVal → Type 0) (s : State) (o : Option Cont) →
    ((k : Cont) → o ≡ Some k → S (out-Cont k).saved → T (out-Cont k).saved) → ContFits S p words s o → ContFits T p words s o
cont_as p words S T s (Some k) f c = (c.0, f k refl c.1, c.2, c.3, c.4, c.5)
cont_as p words S T s None f c = c

-- a state fits with more suspensions than it has
pub fits_at : (p : Protocol) (words n m : ℕ) (x : StateVal) → fits_below n p words x → depth x < m → fits_below m p words x
unfolding fits_below
fits_at p words zero m x f lt = absurd f
fits_at p words (suc n) zero x f lt = absurd (omega arith)
fits_at p words (suc n) (suc m) x f lt = record {
  state = f.state;
  is_state = f.is_state;
  args = f.args;
  cont = cont_as p words (fits_below n p words) (fits_below m p words) f.state (out-StateVal x).cont
      (λ k e g. fits_at p words n m (out-Cont k).saved g (omega (arith, depth-is x, ap cont_depth e))) f.cont;
}

pub fits_more : (p : Protocol) (words n : ℕ) (x : StateVal) → fits_below n p words x → fits_below (suc n) p words x
unfolding fits_below
fits_more p words zero x f = absurd f
fits_more p words (suc n) x f = record {
  state = f.state;
  is_state = f.is_state;
  args = f.args;
  cont = cont_as p words (fits_below n p words) (fits_below (suc n) p words) f.state (out-StateVal x).cont
      (λ k e g. fits_more p words n (out-Cont k).saved g) f.cont;
}
