-- The turns of the loop over the items of a list.
use Rattle.std.proofs.Common.{◌≡◌, ℕ, zero, suc, ◌+◌, ◌-◌, ◌<◌, ◌≤◌, List, [], ◌∷◌, ◌++◌, Option, Some, None, refl, ap, sym}
use Rattle.std.proofs.Common.{◌∙◌, append_assoc, arith}
use Rattle.teapot_lines.specs.Seen.{Seen}
use Rattle.teapot_lines.specs.declared.parts.ReadError.{ReadError}
use Rattle.teapot_lines.specs.declared.parts.ReadError.TheVariants.{Bad, Memory}
use Rattle.teapot_lines.specs.Parts.{Misses, Got, with_front, more, comma}
use Rattle.std.proofs.lemmas.List.{append-nil}

regroup : {A : Type 0} (front : List A) (x : A) (r : Got (List A)) →
    with_front front (with_front (x ∷ []) r) ≡ with_front (front ++ x ∷ []) r
regroup front x None = refl
regroup front x (Some (xs, ts)) = ap (λ ys. Some (ys, ts)) (sym (append_assoc front (x ∷ []) xs))

pub items-on : {A : Type 0} (item : List Seen → Got A) (front : List A) (e c : ℕ) (ts us vs : List Seen) (x : A)
    (all : Got (List A)) → c < e → Some us ≡ comma ts → item us ≡ Some (x, vs)
    → with_front front (more item (e - c) ts) ≡ all → with_front (front ++ x ∷ []) (more item (e - (c + 1)) vs) ≡ all
unfolding more
items-on item front e c ts us vs x all lt here is so_far =
    let n : e - c ≡ suc (e - (c + 1)) = omega arith in
    let one : more item (suc (e - (c + 1))) ts ≡ with_front (x ∷ []) (more item (e - (c + 1)) vs) = rw (← here, is) refl in
    sym (regroup front x (more item (e - (c + 1)) vs)) ∙ ap (with_front front) (sym (ap (λ k. more item k ts) n ∙ one)) ∙ so_far

pub items-done : {A : Type 0} (item : List Seen → Got A) (front : List A) (e c : ℕ) (ts : List Seen) (all : Got (List A)) →
    c < e → None ≡ comma ts
    → with_front front (more item (e - c) ts) ≡ all → all ≡ Some (front, ts)
unfolding more
items-done item front e c ts all lt here so_far =
    let n : e - c ≡ suc (e - (c + 1)) = omega arith in
    let one : more item (suc (e - (c + 1))) ts ≡ Some ([], ts) = rw (← here) refl in
    sym so_far ∙ ap (with_front front) (ap (λ k. more item k ts) n ∙ one) ∙ ap (λ ys. Some (ys, ts)) (append-nil front)

pub items-bad : {A : Type 0} (item : List Seen → Got A) (front : List A) (e c : ℕ) (ts us : List Seen) (all : Got (List A)) →
    c < e → Some us ≡ comma ts → item us ≡ None
    → with_front front (more item (e - c) ts) ≡ all → all ≡ None
unfolding more
items-bad item front e c ts us all lt here is so_far =
    let n : e - c ≡ suc (e - (c + 1)) = omega arith in
    let one : more item (suc (e - (c + 1))) ts ≡ None = rw (← here, is) refl in
    sym so_far ∙ ap (with_front front) (ap (λ k. more item k ts) n ∙ one)

pub items-over : {A : Type 0} (item : List Seen → Got A) (front : List A) (e c : ℕ) (ts : List Seen) (all : Got (List A)) →
    e ≤ c → with_front front (more item (e - c) ts) ≡ all → all ≡ None
unfolding more
items-over item front e c ts all le so_far =
    let n : e - c ≡ zero = omega arith in
    sym so_far ∙ ap (λ k. with_front front (more item k ts)) n

-- an error that is passed on
pub passed : {Y W : Type 0} (e : ReadError) (due : Option Y) (due' : Option W) → Misses e due → (due ≡ None → due' ≡ None) →
    Misses e due'
passed Bad due due' h k = k h
passed Memory due due' h k = tt
