-- One handler, one state, one op more.
use Rattle.std.proofs.Common.{◌≡◌, ℕ, suc, ◌+◌, ◌<◌, List, [], ◌∷◌, ◌++◌, length, get_or, take, sym, ap, ◌∙◌, append_assoc, arith}
use Rattle.std.specs.List.{flat_map, enumerate_from}
use Rattle.std.proofs.lemmas.List.{append-nil, take_more, length-take-le}
use Rattle.std.proofs.lemmas.List.Concat.{flat_map-append}
use Rattle.std.proofs.lemmas.List.Sums.{fold-append}
use Rattle.teapot_tree.specs.declared.protocol.Protocol.{Protocol}
use Rattle.teapot_tree.specs.declared.protocol.State.{State}
use Rattle.handler_code.specs.declared.code.Code.{Code}
use Rattle.handler_code.specs.declared.code.OpCode.{OpCode}
use Rattle.handler_code.specs.declared.code.Rest.{Rest}
use Rattle.compiled_meaning.specs.Whole.{entries_from}
use Rattle.suspend_split.specs.Drafts.{entries_in, rest_after, rests_after, with_entries, with_entry}

enumerate_from-append : {X : Type 0} (n : ℕ) (xs ys : List X) →
    enumerate_from n (xs ++ ys) ≡ enumerate_from n xs ++ enumerate_from (n + length xs) ys
enumerate_from-append n [] ys = ap (λ k. enumerate_from k ys) (omega arith)
enumerate_from-append n (x ∷ xs) ys =
    ap (λ rest. (n, x) ∷ rest) (enumerate_from-append (n + 1) xs ys
    ∙ ap (λ k. enumerate_from (n + 1) xs ++ enumerate_from k ys) (omega arith))

enumerate_from-more : {X : Type 0} (xs : List X) (i : ℕ) (d : X) → i < length xs →
    enumerate_from 0 (take (i + 1) xs) ≡ enumerate_from 0 (take i xs) ++ (i, get_or xs i d) ∷ []
enumerate_from-more xs i d lt =
    ap (enumerate_from 0) (take_more xs i d lt) ∙ enumerate_from-append 0 (take i xs) (get_or xs i d ∷ [])
    ∙ ap (λ k. enumerate_from 0 (take i xs) ++ (k, get_or xs i d) ∷ []) (omega (arith, length-take-le i xs (omega arith)))

rests_more : (door at : ℕ) (ops : List OpCode) (i : ℕ) (o : OpCode) → i < length ops → o ≡ get_or ops i o →
    rests_after door at (take (i + 1) ops) ≡ rests_after door at (take i ops) ++ rest_after door (at + i) o
rests_more door at ops i o lt e =
    let f : ℕ × OpCode → List Rest = λ q. rest_after door (at + q.0) q.1 in
    ap (flat_map f) (enumerate_from-more ops i o lt ∙ ap (λ (q : OpCode). enumerate_from 0 (take i ops) ++ (i, q) ∷ []) (sym e))
    ∙ flat_map-append f (enumerate_from 0 (take i ops)) ((i, o) ∷ [])
    ∙ ap (λ l. flat_map f (enumerate_from 0 (take i ops)) ++ l) (append-nil (f (i, o)))

-- the rests that grew by those of an op
pub rests_grown : (old before after : List Rest) (door at place : ℕ) (ops : List OpCode) (i : ℕ) (o : OpCode) →
    i < length ops → o ≡ get_or ops i o → place ≡ at + i → before ≡ old ++ rests_after door at (take i ops) →
    after ≡ before ++ rest_after door place o → after ≡ old ++ rests_after door at (take (i + 1) ops)
rests_grown old before after door at place ops i o lt e there p q =
    q ∙ ap (λ n. before ++ rest_after door n o) there ∙ ap (λ l. l ++ rest_after door (at + i) o) p
    ∙ append_assoc old (rests_after door at (take i ops)) (rest_after door (at + i) o)
    ∙ ap (λ l. old ++ l) (sym (rests_more door at ops i o lt e))

entries_from-append : (n : ℕ) (xs ys : List State) → entries_from n (xs ++ ys) ≡ entries_from n xs
    ++ entries_from (n + length xs) ys
entries_from-append n [] ys = ap (λ k. entries_from k ys) (omega arith)
entries_from-append n (x ∷ xs) ys =
    ap (λ l. entries_in n x ++ l) (entries_from-append (n + 1) xs ys
    ∙ ap (λ k. entries_from (n + 1) xs ++ entries_from k ys) (omega arith))
    ∙ sym (append_assoc (entries_in n x) (entries_from (n + 1) xs) (entries_from (n + suc (length xs)) ys))

entries_more : (states : List State) (i : ℕ) (s : State) → i < length states → s ≡ get_or states i s →
    entries_from 0 (take (i + 1) states) ≡ entries_from 0 (take i states) ++ entries_in i s
entries_more states i s lt e =
    ap (entries_from 0) (take_more states i s lt) ∙ entries_from-append 0 (take i states) (get_or states i s ∷ [])
    ∙ ap (λ (q : State). entries_from 0 (take i states) ++ entries_from (0 + length (take i states)) (q ∷ [])) (sym e)
    ∙ ap (λ k. entries_from 0 (take i states) ++ entries_from k (s ∷ [])) (omega (arith, length-take-le i states (omega arith)))
    ∙ ap (λ l. entries_from 0 (take i states) ++ l) (append-nil (entries_in i s))

-- the code that grew by the handlers of a state
pub entries_grown : (p : Protocol) (old before after : Code) (states : List State) (i : ℕ) (s : State) → i < length states →
    s ≡ get_or states i s → before ≡ with_entries p old (entries_from 0 (take i states)) →
    after ≡ with_entries p before (entries_in i s) → after ≡ with_entries p old (entries_from 0 (take (i + 1) states))
entries_grown p old before after states i s lt e x y =
    y ∙ ap (λ c. with_entries p c (entries_in i s)) x
    ∙ sym (fold-append (with_entry p) old (entries_from 0 (take i states)) (entries_in i s))
    ∙ ap (with_entries p old) (sym (entries_more states i s lt e))
