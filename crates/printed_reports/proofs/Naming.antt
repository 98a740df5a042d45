-- What a line names that says what an entry did.
use Rattle.std.proofs.Common.{◌≡◌, ◌∙◌, ℕ, ◌<◌, true, List, [], ◌∷◌, Option, Some, None, refl, sym, ap, eq-eqb}
use Rattle.std.specs.Prelude.{nat_lt, slice_get}
use Rattle.std.specs.Option.{option_map}
use Rattle.std.proofs.lemmas.Bool.{and_from, lt-ltb}
use Rattle.std.proofs.lemmas.Option.{slice_get-map}
use Rattle.std.proofs.lemmas.Slice.Eq.{bytes_eq-Decides}
use Rattle.tw_base.specs.Answers.{◌>>?◌}
use Rattle.tw_base.specs.Lists.{Each}
use Rattle.tw_base.specs.declared.entry.Act.{Act}
use Rattle.tw_base.specs.declared.entry.Act.TheVariants as act
use Rattle.tw_base.specs.declared.entry.Entry.{Entry}
use Rattle.tw_lex.specs.declared.token.Token.{Token}
use Rattle.tw_lex.specs.declared.token.What.{What}
use Rattle.tw_lex.specs.declared.token.What.TheVariants as whats_are
use Rattle.mini_asm.specs.Spelling.{number_at, number_of_token, word_at, word_of}
use Rattle.teapot_tree.specs.declared.protocol.Protocol.{Protocol}
use Rattle.report_reader.specs.declared.kind.LineKind.{LineKind}
use Rattle.report_reader.specs.declared.kind.LineKind.TheVariants as kinds
use Rattle.printed_lines.specs.Reading.{kind_of, kind_or, node_at, node_numbered, node_of}
use Rattle.printed_lines.specs.Saying.{same_what, says}
use Rattle.printed_lines.specs.Tokens.{act_tokens, entry_tokens, whats}

-- ---- tokens and what they say

through-number : (o : Option Token) → (o >>? λ t. number_of_token t.what) ≡
    (option_map (λ (t : Token). t.what) o >>? number_of_token)
through-number None = refl
through-number (Some t) = refl

pub number-said : (ts : List Token) (at : ℕ) → number_at ts at ≡ (slice_get (whats ts) at >>? number_of_token)
number-said ts at = through-number (slice_get ts at) ∙ ap (λ o. o >>? number_of_token)
    (sym (slice_get-map (λ (t : Token). t.what) ts at))

through-word : (o : Option Token) → (o >>? λ t. word_of t.what) ≡ (option_map (λ (t : Token). t.what) o >>? word_of)
through-word None = refl
through-word (Some t) = refl

pub word-said : (ts : List Token) (at : ℕ) → word_at ts at ≡ (slice_get (whats ts) at >>? word_of)
word-said ts at = through-word (slice_get ts at) ∙ ap (λ o. o >>? word_of) (sym (slice_get-map (λ (t : Token). t.what) ts at))

-- ---- what is due is said

-- no mark
abbrev pub Unmarked : What → Type 0
Unmarked (whats_are.Word w) = Unit {0}
Unmarked (whats_are.Number n) = Unit {0}
Unmarked (whats_are.Mark m) = ⊥

same-same : (w : What) → Unmarked w → same_what w w ≡ true
same-same (whats_are.Word w) h = (bytes_eq-Decides w w).1 refl
same-same (whats_are.Number n) h = eq-eqb n n refl
same-same (whats_are.Mark m) h = absurd h

pub says-same : (ws : List What) → Each Unmarked ws → says ws ws ≡ true
unfolding says
says-same [] h = refl
says-same (w ∷ ws) (h, hs) = and_from (same_what w w) (says ws ws) (same-same w h) (says-same ws hs)

pub act-unmarked : (p : Protocol) (a : Act) → Each Unmarked (act_tokens p a)
act-unmarked p (act.Load address value) = (tt, (tt, (tt, tt)))
act-unmarked p (act.Store address value) = (tt, (tt, (tt, tt)))
act-unmarked p (act.Faa address value sum) = (tt, (tt, (tt, (tt, tt))))
act-unmarked p (act.Print value) = (tt, (tt, tt))
act-unmarked p act.Halt = (tt, tt)
act-unmarked p (act.Trapped why) = (tt, (tt, tt))
act-unmarked p act.Step = (tt, tt)
act-unmarked p (act.Fault store block) = (tt, (tt, (tt, (tt, tt))))
act-unmarked p (act.Redelivered kind block from) = (tt, (tt, (tt, (tt, (tt, (tt, tt))))))
act-unmarked p (act.Delivered kind block from chan number) = (tt, (tt, (tt, (tt, (tt, (tt, (tt, (tt, (tt, (tt, tt))))))))))

-- ---- kinds and nodes

abbrev pub kind_of_act : Act → LineKind
kind_of_act (act.Fault store block) = kinds.Fault
kind_of_act (act.Redelivered kind block from) = kinds.Redelivered
kind_of_act (act.Delivered kind block from chan number) = kinds.Delivered
kind_of_act _ = kinds.Completed

entry-kind : (p : Protocol) (k : ℕ) (e : Entry) (a : Act)
    → kind_or (slice_get (entry_tokens p (k, record e { act = a })) 6 >>? word_of) ≡ kind_of_act a
entry-kind p k e (act.Fault store block) = refl
entry-kind p k e (act.Redelivered kind block from) = refl
entry-kind p k e (act.Delivered kind block from chan number) = refl
entry-kind p k e (act.Load address value) = refl
entry-kind p k e (act.Store address value) = refl
entry-kind p k e (act.Faa address value sum) = refl
entry-kind p k e (act.Print value) = refl
entry-kind p k e act.Halt = refl
entry-kind p k e (act.Trapped why) = refl
entry-kind p k e act.Step = refl

pub kind-said : (p : Protocol) (k : ℕ) (e : Entry) (ts : List Token) → whats ts ≡ entry_tokens p (k, e)
    → kind_of ts ≡ kind_of_act e.act
kind-said p k e ts is = ap kind_or (word-said ts 6) ∙ ap (λ ws. kind_or (slice_get ws 6 >>? word_of)) is
    ∙ entry-kind p k e e.act

node-small : (n : ℕ) → n < 8 → node_numbered n ≡ Some n
node-small n lt = let e : nat_lt n 8 ≡ true = lt-ltb n 8 lt in rw e refl

-- a node stands at a place of what a line says
pub node-there : (ts : List Token) (ws : List What) (at n : ℕ) → whats ts ≡ ws → (slice_get ws at >>? number_of_token) ≡ Some n
    → n < 8 → node_at ts at ≡ Some n
node-there ts ws at n is here lt = ap (λ o. o >>? λ i. node_numbered i)
    (number-said ts at ∙ ap (λ w. slice_get w at >>? number_of_token) is ∙ here) ∙ node-small n lt

pub node-said : (p : Protocol) (k : ℕ) (e : Entry) (ts : List Token) → whats ts ≡ entry_tokens p (k, e) → e.node < 8
    → node_of ts ≡ Some e.node
node-said p k e ts is lt = node-there ts (entry_tokens p (k, e)) 5 e.node is refl lt
