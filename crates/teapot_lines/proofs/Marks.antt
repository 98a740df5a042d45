-- A mark is known by its spelling.
use Rattle.std.proofs.Common.{◌≡◌, ℕ, Bool, true, false, List, [], ◌∷◌, Option, Some, None, IfSome, refl, ap, sym, ◌∙◌}
use Rattle.std.specs.Prelude.{if◌then◌else◌}
use Rattle.std.proofs.lemmas.Slice.Eq.{bytes_eq-Decides}
use Rattle.tw_lex.specs.declared.token.Mark.{Mark}
use Rattle.tw_lex.specs.declared.token.Mark.TheVariants.{Open, Close, BraceOpen, BraceClose, Comma, Semicolon, Colon, Becomes}
use Rattle.tw_lex.specs.declared.token.Mark.TheVariants.{Plus, Minus, Equal, Unequal, Less, LessEqual, Both, Either}
use Rattle.tw_lex.specs.Laws.{spelling}
use Rattle.tw_lex.specs.Lexemes.{pair_mark, single_mark}
use Rattle.teapot_tree.specs.declared.keyword.Keyword.{Keyword}
use Rattle.teapot_lines.specs.Parts.{same_mark, past}
use Rattle.teapot_lines.specs.Seen.{Seen, Key, Named, Number, Marked, seen_word}

-- the mark that is spelled so
abbrev unspelled : List ℕ → Option Mark
unspelled [] = None
unspelled (b ∷ []) = single_mark b
unspelled (b ∷ c ∷ []) = pair_mark b c
unspelled (b ∷ c ∷ d ∷ bs) = None

unspelled-spelling : (a : Mark) → unspelled (spelling a) ≡ Some a
unspelled-spelling Open = refl
unspelled-spelling Close = refl
unspelled-spelling BraceOpen = refl
unspelled-spelling BraceClose = refl
unspelled-spelling Comma = refl
unspelled-spelling Semicolon = refl
unspelled-spelling Colon = refl
unspelled-spelling Becomes = refl
unspelled-spelling Plus = refl
unspelled-spelling Minus = refl
unspelled-spelling Equal = refl
unspelled-spelling Unequal = refl
unspelled-spelling Less = refl
unspelled-spelling LessEqual = refl
unspelled-spelling Both = refl
unspelled-spelling Either = refl

some-same : (a b : Mark) → Some a ≡ Some b → a ≡ b
some-same a b e = cc

pub same_mark-is : (a b : Mark) → same_mark a b ≡ true → a ≡ b
same_mark-is a b e =
    some-same a b (sym (unspelled-spelling a) ∙ ap unspelled ((bytes_eq-Decides (spelling a) (spelling b)).0 e)
    ∙ unspelled-spelling b)

pub same_mark-self : (a b : Mark) → a ≡ b → same_mark a b ≡ true
same_mark-self a b e = (bytes_eq-Decides (spelling a) (spelling b)).1 (ap spelling e)

past-one : (mark found : Mark) (ts : List Seen) (v : Bool) → same_mark found mark ≡ v →
    IfSome (if v then Some ts else None) (λ us. Marked found ∷ ts ≡ Marked mark ∷ us)
past-one mark found ts true e = ap (λ (x : Mark). Marked x ∷ ts) (same_mark-is found mark e)
past-one mark found ts false e = tt

-- the mark stands at the front
pub past-is : (mark : Mark) (ts : List Seen) → IfSome (past mark ts) (λ us. ts ≡ Marked mark ∷ us)
past-is mark [] = tt
past-is mark (Marked found ∷ ts) = past-one mark found ts (same_mark found mark) refl
past-is mark (Key _ ∷ ts) = tt
past-is mark (Named _ ∷ ts) = tt
past-is mark (Number _ ∷ ts) = tt

pub word_is_no_mark : (mark : Mark) (word : List ℕ) (key : Option Keyword) (ts : List Seen) →
    past mark (seen_word word key ∷ ts) ≡ None
word_is_no_mark mark word (Some k) ts = refl
word_is_no_mark mark word None ts = refl
