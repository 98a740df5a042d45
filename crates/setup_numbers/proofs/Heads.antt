-- The word of a line that gives one has 64 bits.
use Rattle.std.proofs.Common.{Option, Some, None, ◌≡◌, ℕ, cond, codes, Bool, true, false, List, [], ◌∷◌, subst}
use Rattle.std.specs.Str.{bytes_eq}
use Rattle.tw_base.specs.Lists.{Each}
use Rattle.tw_lex.specs.declared.token.Token.{Token}
use Rattle.tw_lex.specs.declared.token.What.{What}
use Rattle.tw_lex.specs.declared.token.What.TheVariants as whats
use Rattle.printed_reports.specs.Named.{Small}
use Rattle.input_numbers.specs.Small.{SmallToken, SmallWhat}
use Rattle.tempest_input.specs.declared.head.Head.{Head}
use Rattle.tempest_input.specs.declared.head.Head.TheVariants as heads
use Rattle.tempest_input.specs.declared.head.Field.TheVariants.{Version, Nodes, Words, Blocks, Budget}
use Rattle.tempest_input.specs.declared.head.Shipped.{Shipped}
use Rattle.tempest_input.specs.Heads.{after_first, after_number, after_word, head_of, number_head, one_head, shipped_as}
use Rattle.tempest_input.specs.Heads.{shipped_head, three_head, two_head, word_head, words_head}

abbrev HeadSmall : Head → Type 0
HeadSmall (heads.Init address value) = Small value
HeadSmall _ = Unit {0}

cond-small : (b : Bool) (x y : Head) → HeadSmall x → HeadSmall y → HeadSmall (cond b x y)
cond-small true x y h k = h
cond-small false x y h k = k

word-small : (w : List ℕ) → HeadSmall (word_head w)
word-small w =
    cond-small (bytes_eq w (codes "protocol")) heads.Protocol _ tt
    (cond-small (bytes_eq w (codes "end")) heads.End _ tt (cond-small
    (bytes_eq w (codes "report")) heads.Report heads.Other tt tt))

shipped-small : (o : Option Shipped) → HeadSmall (shipped_head o)
shipped-small None = tt
shipped-small (Some which) = tt

words-small : (w v : List ℕ) → HeadSmall (words_head w v)
words-small w v = cond-small (bytes_eq w (codes "shipped")) (shipped_head (shipped_as v)) heads.Other
    (shipped-small (shipped_as v)) tt

number-small : (w : List ℕ) (n : ℕ) → HeadSmall (number_head w n)
number-small w n =
    cond-small (bytes_eq w (codes "tempest")) (heads.Number Version n) _ tt
    (cond-small (bytes_eq w (codes "nodes")) (heads.Number Nodes n) _ tt
    (cond-small (bytes_eq w (codes "words")) (heads.Number Words n) _ tt
    (cond-small (bytes_eq w (codes "blocks")) (heads.Number Blocks n) _ tt
    (cond-small (bytes_eq w (codes "budget")) (heads.Number Budget n) _ tt
    (cond-small (bytes_eq w (codes "program")) (heads.Program n) heads.Other tt tt)))))

after-small : (w : List ℕ) (b : What) → HeadSmall (after_word w b)
after-small w (whats.Word v) = words-small w v
after-small w (whats.Number n) = number-small w n
after-small w (whats.Mark m) = tt

init-small : (w : List ℕ) (a : ℕ) (c : What) → SmallWhat c → HeadSmall (after_number w a c)
init-small w a (whats.Number v) h = cond-small (bytes_eq w (codes "init")) (heads.Init a v) heads.Other h tt
init-small w a (whats.Word v) h = tt
init-small w a (whats.Mark m) h = tt

first-small : (w : List ℕ) (b c : What) → SmallWhat c → HeadSmall (after_first w b c)
first-small w (whats.Number a) c h = init-small w a c h
first-small w (whats.Word v) c h = tt
first-small w (whats.Mark m) c h = tt

one-small : (a : What) → HeadSmall (one_head a)
one-small (whats.Word w) = word-small w
one-small (whats.Number n) = tt
one-small (whats.Mark m) = tt

two-small : (a b : What) → HeadSmall (two_head a b)
two-small (whats.Word w) b = after-small w b
two-small (whats.Number n) b = tt
two-small (whats.Mark m) b = tt

three-small : (a b c : What) → SmallWhat c → HeadSmall (three_head a b c)
three-small (whats.Word w) b c h = first-small w b c h
three-small (whats.Number n) b c h = tt
three-small (whats.Mark m) b c h = tt

head-small : (ts : List Token) → Each SmallToken ts → HeadSmall (head_of ts)
unfolding head_of
head-small [] h = tt
head-small (a ∷ []) h = one-small a.what
head-small (a ∷ b ∷ []) h = two-small a.what b.what
head-small (a ∷ b ∷ c ∷ []) h = three-small a.what b.what c.what h.1.1.0
head-small (a ∷ b ∷ c ∷ d ∷ ts) h = tt

-- the value of a line that gives a word
pub value-small : (ts : List Token) (address value : ℕ) → Each SmallToken ts → head_of ts ≡ heads.Init address value
    → Small value
value-small ts address value h e = subst HeadSmall e (head-small ts h)
