-- A text is that of a literal tree, whose states are told.
use Rattle.std.proofs.Common.{◌≡◌, ◌∙◌, ℕ, List, [], ◌∷◌, ◌++◌, Option, Some, ap, map, refl, subst}
use Rattle.std.specs.Prelude.{Ok}
use Rattle.std.specs.List.{flat_map}
use Rattle.tw_lex.specs.declared.token.Lexed.{Lexed}
use Rattle.tw_lex.specs.Lines.{lexed}
use Rattle.teapot_lines.specs.declared.form.Form.TheVariants as f
use Rattle.teapot_parse.specs.Trees.{Lines, info_line, message_line, start_line, state_lines}
use Rattle.teapot_tree.specs.Bare.{bare_protocol}
use Rattle.teapot_tree.specs.Grammar.{IsTree}
use Rattle.teapot_tree.specs.Rules.{IsAccepted}
use Rattle.teapot_tree.specs.declared.protocol.MessageDecl.{MessageDecl}
use Rattle.teapot_tree.specs.declared.protocol.Param.{Param}
use Rattle.teapot_tree.specs.declared.protocol.Protocol.{Protocol}
use Rattle.teapot_tree.specs.declared.protocol.Start.{Start}
use Rattle.teapot_print.specs.Back.{CanonIsReadBack}
use Rattle.teapot_print.specs.Text.{canon, line_text, lines_text}
use Rattle.stache_rules.proofs.Doors.{Told, state_of}
use Rattle.protocol_texts.specs.Texts.{IsAcceptedText, IsTextOf, protocol_of, read_in, tree_in}
use Rattle.protocol_texts.proofs.Spelled.{states-text, states_text}

-- ---- the canonical text of a tree whose states are told

-- lines at no Begin, before a text
abbrev pub onto : Lines → List ℕ → List ℕ
onto [] text = text
onto (l ∷ ls) text = line_text 0 l.1 ++ onto ls text

-- the lines before the states, before a text
abbrev pub head_text : Protocol → List ℕ → List ℕ
head_text p text =
    line_text 0 (f.Protocol p.name p.profile) ++ onto (map message_line p.messages)
    (onto (map info_line p.infos) (onto (map start_line p.starts) text))

messages-text : (ms : List MessageDecl) (rest : Lines) → lines_text 0 (map message_line ms ++ rest)
    ≡ onto (map message_line ms) (lines_text 0 rest)
messages-text [] rest = refl
messages-text (m ∷ ms) rest = ap (λ y. line_text 0 (message_line m).1 ++ y) (messages-text ms rest)

infos-text : (infos : List Param) (rest : Lines) → lines_text 0 (map info_line infos ++ rest)
    ≡ onto (map info_line infos) (lines_text 0 rest)
infos-text [] rest = refl
infos-text (a ∷ infos) rest = ap (λ y. line_text 0 (info_line a).1 ++ y) (infos-text infos rest)

starts-text : (ss : List Start) (rest : Lines) → lines_text 0 (map start_line ss ++ rest)
    ≡ onto (map start_line ss) (lines_text 0 rest)
starts-text [] rest = refl
starts-text (s ∷ ss) rest = ap (λ y. line_text 0 (start_line s).1 ++ y) (starts-text ss rest)

head-is : (p : Protocol) → canon p ≡ head_text p (lines_text 0 (flat_map state_lines p.states))
unfolding canon
head-is p =
    let states = flat_map state_lines p.states in
    ap (λ y. line_text 0 (f.Protocol p.name p.profile) ++ y)
    (messages-text p.messages (map info_line p.infos ++ (map start_line p.starts ++ states))
    ∙ ap (onto (map message_line p.messages))
    (infos-text p.infos (map start_line p.starts ++ states) ∙ ap (onto (map info_line p.infos)) (starts-text p.starts states)))

pub canon-is : (p : Protocol) (told : List Told) → p.states ≡ map state_of told → canon p ≡ head_text p (states_text told)
canon-is p told is = head-is p ∙ ap (head_text p) (ap (λ ss. lines_text 0 (flat_map state_lines ss)) is ∙ states-text told)

-- ---- the text is read as that tree

pub text_of : CanonIsReadBack → (tree : Protocol) (text : List ℕ) → IsTree tree → bare_protocol tree ≡ tree →
    canon tree ≡ text → IsTextOf tree text
unfolding protocol_of
text_of back tree text grown literal same =
    let b = back tree grown in
    let found : Lexed = b.0 in
    let q : Protocol = b.1 in
    let lexes : lexed text ≡ Ok found = subst (λ t. lexed t ≡ Ok found) same b.2 in
    let reads : protocol_of text ≡ Some q = ap tree_in lexes ∙ ap read_in (b.3 found.all) in
    (q, reads, b.4, b.5 ∙ literal)

-- ---- what follows of it

some-one : (p q : Protocol) (o : Option Protocol) → o ≡ Some p → o ≡ Some q → q ≡ p
some-one p q o a b = cc

pub is-literal : (tree : Protocol) (text : List ℕ) → IsTextOf tree text → (c : Protocol) → protocol_of text ≡ Some c →
    bare_protocol c ≡ tree
is-literal tree text is c e = subst (λ p. bare_protocol p ≡ tree) (some-one c is.0 (protocol_of text) e is.1) is.3

pub accepted-text : (tree : Protocol) (text : List ℕ) → IsTextOf tree text →
    ((p : Protocol) → bare_protocol p ≡ tree → IsAccepted p) → IsAcceptedText text
accepted-text tree text is law = (is.0, is.1, law is.0 is.3)
