-- Tokens that are due, one after the other, and what stands behind them.
use Rattle.std.proofs.Common.{◌≡◌, ℕ, ◌+◌, ◌<◌, ◌≤◌, ◌&&◌, if◌then◌else◌, Bool, true, false, List, [], ◌∷◌, ◌++◌, length, map}
use Rattle.std.proofs.Common.{drop, get_or, Option, Some, None, refl, ap, sym, ◌∙◌, arith}
use Rattle.std.proofs.lemmas.List.{append-nil, at_drop_all, at_drop_more}
use Rattle.tw_lex.specs.declared.token.Token.{Token}
use Rattle.tw_lex.specs.declared.token.What.{What}
use Rattle.printed_lines.specs.declared.said.Said.{Said}
use Rattle.printed_lines.specs.Saying.{meant, past, same_what, says}
use Rattle.printed_lines.specs.Tokens.{whats}

-- ---- one after the other

none-either : (b : Bool) (o : Option (List What)) → None ≡ o → None ≡ (if b then o else None)
none-either true o e = e
none-either false o e = refl

-- a line that is shorter does not have them
pub past-short : (ds : List Said) (ts : List Token) → length ts < length ds → None ≡ past (map meant ds) (whats ts)
unfolding past
past-short [] ts h = absurd (omega arith)
past-short (d ∷ ds) [] h = refl
past-short (d ∷ ds) (t ∷ ts) h =
    none-either (same_what (meant d) t.what) (past (map meant ds) (whats ts)) (past-short ds ts (omega arith))

past-turn : (ds : List Said) (ts : List Token) (i : ℕ) (d : Said) (t : Token) (b : Bool) → i < length ds → i < length ts →
    b ≡ same_what (meant (get_or ds i d)) (get_or ts i t).what →
    past (map meant (drop i ds)) (whats (drop i ts)) ≡ (if b then past (map meant (drop (i + 1) ds)) (whats (drop (i + 1) ts))
    else None)
unfolding past
past-turn ds ts i d t b h k e =
    at_drop_more (λ (l : List Said). past (map meant l) (whats (drop i ts))) ds i d h
    ∙ at_drop_more (λ (l : List Token). past (map meant (get_or ds i d ∷ drop (i + 1) ds)) (whats l)) ts i t k
    ∙ ap (λ (c : Bool). if c then past (map meant (drop (i + 1) ds)) (whats (drop (i + 1) ts)) else None) (sym e)

pub past-stops : (ds : List Said) (ts : List Token) (i : ℕ) (d : Said) (t : Token) (r : Bool) (all : Option (List What)) →
    i < length ds → i < length ts →
    r ≡ same_what (meant (get_or ds i d)) (get_or ts i t).what → r ≡ false →
    past (map meant (drop i ds)) (whats (drop i ts)) ≡ all → None ≡ all
past-stops ds ts i d t r all h k e other inv = sym (past-turn ds ts i d t false h k (sym other ∙ e)) ∙ inv

pub past-goes : (ds : List Said) (ts : List Token) (i : ℕ) (d : Said) (t : Token) (r : Bool) (all : Option (List What)) →
    i < length ds → i < length ts →
    r ≡ same_what (meant (get_or ds i d)) (get_or ts i t).what → r ≡ true →
    past (map meant (drop i ds)) (whats (drop i ts)) ≡ all →
    past (map meant (drop (i + 1) ds)) (whats (drop (i + 1) ts)) ≡ all
past-goes ds ts i d t r all h k e same inv = sym (past-turn ds ts i d t true h k (sym same ∙ e)) ∙ inv

pub past-ends : (ds : List Said) (ts rest : List Token) (i : ℕ) (all : Option (List What)) → length ds ≤ i → i ≤ length ds →
    rest ≡ drop (length ds) ts →
    past (map meant (drop i ds)) (whats (drop i ts)) ≡ all → Some (whats rest) ≡ all
unfolding past
past-ends ds ts rest i all h k e inv =
    let at : length ds ≡ i = omega arith in
    ap (λ (l : List Token). Some (whats l)) (e ∙ ap (λ (n : ℕ). drop n ts) at)
    ∙ sym (at_drop_all (λ (l : List Said). past (map meant l) (whats (drop i ts))) ds i h) ∙ inv

-- ---- a line by its parts

pub says-past : (ds more ts rest : List What) → Some rest ≡ past ds ts → says (ds ++ more) ts ≡ says more rest
unfolding past says
says-past [] more ts rest e = let is : rest ≡ ts = cc in ap (says more) (sym is)
says-past (d ∷ ds) more [] rest e = absurd cc
says-past (d ∷ ds) more (t ∷ ts) rest e = go (same_what d t) e (λ f. says-past ds more ts rest f)
  where
    go : (b : Bool) → Some rest ≡ (if b then past ds ts else None) →
        (Some rest ≡ past ds ts → says (ds ++ more) ts ≡ says more rest) →
        (b && says (ds ++ more) ts) ≡ says more rest
    go true f next = next f
    go false f next = absurd cc

pub says-none : (ds more ts : List What) → None ≡ past ds ts → says (ds ++ more) ts ≡ false
unfolding past says
says-none [] more ts e = absurd cc
says-none (d ∷ ds) more [] e = refl
says-none (d ∷ ds) more (t ∷ ts) e = go (same_what d t) e (λ f. says-none ds more ts f)
  where
    go : (b : Bool) → None ≡ (if b then past ds ts else None) → (None ≡ past ds ts → says (ds ++ more) ts ≡ false) →
        (b && says (ds ++ more) ts) ≡ false
    go true f next = next f
    go false f next = refl

-- a line with nothing behind
pub says-past_all : (ds ts rest : List What) → Some rest ≡ past ds ts → says ds ts ≡ says [] rest
says-past_all ds ts rest e = ap (λ (l : List What). says l ts) (sym (append-nil ds)) ∙ says-past ds [] ts rest e

pub says-none_all : (ds ts : List What) → None ≡ past ds ts → says ds ts ≡ false
says-none_all ds ts e = ap (λ (l : List What). says l ts) (sym (append-nil ds)) ∙ says-none ds [] ts e
