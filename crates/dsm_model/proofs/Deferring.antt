-- What handlers do to deferred messages, in place.
use Rattle.std.proofs.Common.{◌≡◌, ℕ, zero, suc, ◌+◌, ◌<◌, ◌≤◌, Bool, true, false, List, [], ◌∷◌, ◌++◌, length, length-append}
use Rattle.std.proofs.Common.{map, take, drop, get_or, set, append-nil, refl, ap, sym, ◌∙◌, subst, arith}
use Rattle.std.specs.List.{remove}
use Rattle.std.proofs.lemmas.List.{length-map}
use Rattle.std.proofs.lemmas.List.Edits.{remove-append_left}
use Rattle.tw_base.specs.declared.message.Message.{Message}
use Rattle.teapot_meaning.specs.declared.state.Kept.{Kept}
use Rattle.teapot_meaning.specs.declared.state.Kept.TheVariants as kept
use Rattle.dsm_runs.specs.declared.mode.Waiting.{Waiting}
use Rattle.dsm_runs.specs.Events.{free, freed_if, with_kept}

-- ---- the first are changed, one after the other

pub one_changed : {A : Type 0} (f : A → A) (xs : List A) (k : ℕ) (d : A) → k < length xs
    → set (map f (take k xs) ++ drop k xs) k (f (get_or (map f (take k xs) ++ drop k xs) k d)) ≡ map f (take (suc k) xs)
    ++ drop (suc k) xs
one_changed f [] k d l = absurd (omega arith)
one_changed f (x ∷ xs) zero d l = refl
one_changed {A} f (x ∷ xs) (suc k) d l = ap (λ (ys : List A). f x ∷ ys) (one_changed f xs k d (omega arith))

pub one_freed : (b : ℕ) (ws now : List Waiting) (k : ℕ) (d : Waiting) → k < length ws →
    now ≡ map (free b) (take k ws) ++ drop k ws → set now k (free b (get_or now k d)) ≡ map (free b) (take (k + 1) ws)
    ++ drop (k + 1) ws
one_freed b ws now k d l e =
    let next : suc k ≡ k + 1 = omega arith in
    subst (λ n. set now k (free b (get_or now k d)) ≡ map (free b) (take n ws) ++ drop n ws) next
    (ap (λ (xs : List Waiting). set xs k (free b (get_or xs k d))) e ∙ one_changed (free b) ws k d l)

changed_all : {A : Type 0} (f : A → A) (xs ys : List A) → map f (take (length xs) (xs ++ ys)) ++ drop (length xs) (xs ++ ys)
    ≡ map f xs ++ ys
changed_all f [] [] = refl
changed_all f [] (y ∷ ys) = refl
changed_all {A} f (x ∷ xs) ys = ap (λ (zs : List A). f x ∷ zs) (changed_all f xs ys)

-- ---- a message is put behind the others

pub kept_behind : (k : Kept) (m : Message) (ws : List Waiting) → ws ++ with_kept k m [] ≡ with_kept k m ws
kept_behind kept.No m ws = append-nil ws
kept_behind kept.Stale m ws = refl
kept_behind kept.Eligible m ws = refl

-- those before it are freed
pub freed_before : (b : ℕ) (k : Kept) (m : Message) (ws : List Waiting) →
    map (free b) (take (length ws) (with_kept k m ws)) ++ drop (length ws) (with_kept k m ws) ≡ with_kept k m (map (free b) ws)
freed_before b k m ws =
    subst (λ (xs : List Waiting). map (free b) (take (length ws) xs) ++ drop (length ws) xs ≡ with_kept k m (map (free b) ws))
    (kept_behind k m ws)
    (changed_all (free b) ws (with_kept k m []) ∙ kept_behind k m (map (free b) ws))

pub no_fewer_kept : (k : Kept) (m : Message) (ws : List Waiting) → length ws ≤ length (with_kept k m ws)
no_fewer_kept k m ws =
    let parts : length ws + length (with_kept k m []) ≡ length (with_kept k m ws) = sym (length-append ws (with_kept k m []))
    ∙ ap (λ (xs : List Waiting). length xs) (kept_behind k m ws) in
    omega (arith, parts)

freed-length : (is : Bool) (b : ℕ) (ws : List Waiting) → length (freed_if is b ws) ≡ length ws
freed-length true b ws = length-map ws (free b)
freed-length false b ws = refl

pub no_fewer : (k : Kept) (is : Bool) (b : ℕ) (m : Message) (ws : List Waiting) →
    length ws ≤ length (with_kept k m (freed_if is b ws))
no_fewer k is b m ws = omega (arith, no_fewer_kept k m (freed_if is b ws), freed-length is b ws)

-- ---- a message is taken out

remove-map : {A : Type 0} (f : A → A) (xs : List A) (i : ℕ) → i < length xs → remove (map f xs) i ≡ map f (remove xs i)
remove-map f [] i l = absurd (omega arith)
remove-map f (x ∷ xs) zero l = refl
remove-map {A} f (x ∷ xs) (suc i) l = ap (λ (ys : List A). f x ∷ ys) (remove-map f xs i (omega arith))

remove-freed : (is : Bool) (b : ℕ) (ws : List Waiting) (i : ℕ) → i < length ws →
    remove (freed_if is b ws) i ≡ freed_if is b (remove ws i)
remove-freed true b ws i l = remove-map (free b) ws i l
remove-freed false b ws i l = refl

pub removed : (k : Kept) (is : Bool) (b : ℕ) (m : Message) (ws : List Waiting) (i : ℕ) → i < length ws →
    remove (with_kept k m (freed_if is b ws)) i ≡ with_kept k m (freed_if is b (take i ws ++ drop (i + 1) ws))
removed k is b m ws i l =
    let next : suc i ≡ i + 1 = omega arith in
    let front : i < length (freed_if is b ws) = omega (arith, freed-length is b ws) in
    let due : remove (with_kept k m (freed_if is b ws)) i ≡ with_kept k m (freed_if is b (remove ws i)) =
    ap (λ (xs : List Waiting). remove xs i) (sym (kept_behind k m (freed_if is b ws)))
    ∙ remove-append_left (freed_if is b ws) (with_kept k m []) i front
    ∙ ap (λ (xs : List Waiting). xs ++ with_kept k m []) (remove-freed is b ws i l)
    ∙ kept_behind k m (freed_if is b (remove ws i)) in
    subst (λ n. remove (with_kept k m (freed_if is b ws)) i ≡ with_kept k m (freed_if is b (take i ws ++ drop n ws))) next due
