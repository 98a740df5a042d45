-- What is printed is read back.
use Rattle.std.proofs.Common.{◌≡◌, ℕ, ◌+◌, List, [], ◌∷◌, ◌++◌, map, length, None, Result, Ok, refl, ap, sym, ◌∙◌, append-nil}
use Rattle.std.specs.List.{flat_map}
use Rattle.tw_base.specs.Lists.{Each}
use Rattle.tw_lex.specs.declared.token.Lexed.{Lexed}
use Rattle.tw_lex.specs.declared.token.Line.{Line}
use Rattle.tw_lex.specs.Lines.{lexed, lines_from, lines_of}
use Rattle.teapot_tree.specs.declared.expr.Expr.{Expr}
use Rattle.teapot_tree.specs.declared.protocol.Protocol.{Protocol}
use Rattle.teapot_tree.specs.Bare.{bare_protocol}
use Rattle.teapot_tree.specs.Grammar.{IsTree}
use Rattle.teapot_lines.specs.declared.form.Form.{Form}
use Rattle.teapot_lines.specs.declared.form.Form.TheVariants as f
use Rattle.teapot_parse.specs.declared.build.Parts.{Parts}
use Rattle.teapot_parse.specs.declared.judge.Judged.TheVariants.{Nested}
use Rattle.teapot_parse.specs.declared.reading.ParseError.{ParseError}
use Rattle.teapot_parse.specs.Building.{built, built_on, no_parts}
use Rattle.teapot_parse.specs.Counting.{no_counts, first_over}
use Rattle.teapot_parse.specs.Given.{SpellAll}
use Rattle.teapot_parse.specs.Nesting.{judged, kinds}
use Rattle.teapot_parse.specs.Parsing.{parsed, profile_of, whole}
use Rattle.teapot_parse.specs.Trees.{Lines, info_line, lines_of as forms_of, message_line, start_line, state_lines}
use Rattle.teapot_parse.proofs.Again.{each-map, plain-states, profile_by, small-states}
use Rattle.teapot_parse.proofs.Builds.{built-protocol, cut_lines}
use Rattle.teapot_parse.proofs.Erasing.{forms-again, kind_at, kinds-at}
use Rattle.teapot_parse.proofs.Nests.{tree-nests, nested-judged}
use Rattle.teapot_parse.proofs.TextLines.{text-gives-tree}
use Rattle.teapot_parse.proofs.Whole.{tree-within}
use Rattle.teapot_print.specs.Back.{CanonIsReadBack}
use Rattle.teapot_print.specs.Text.{canon}
use Rattle.teapot_print.proofs.Forms.{GoodLine, tree-good}
use Rattle.teapot_print.proofs.LinesBack.{Back, lines-lexed, numbered, text-lexed}
use Rattle.teapot_print.proofs.Stays.{form-fits, form-stays}
use Rattle.teapot_print.proofs.Unnumbered.{built-numbered, kinds-numbered, over-numbered}

-- the profile that the first line names
profile-back : (p : Protocol) (qs : Lines) (ls : List Line) → IsTree p →
    SpellAll p.profile ls (numbered 1 ((p.line, f.Protocol p.name p.profile) ∷ qs)) → profile_of ls ≡ p.profile
profile-back p qs [] tree h = absurd h
profile-back p qs (l ∷ ls) tree (number, fits, tokens, more) = profile_by p.profile l.tokens p.name tree.profiles tokens

-- the tree of some parts, with every line 0
abbrev bare_of : Protocol → Parts → Protocol
bare_of p s = record {
  name = p.name;
  profile = p.profile;
  line = 0;
  messages = s.messages;
  infos = s.infos;
  starts = s.starts;
  states = s.states;
}

-- the tree of parts, with a name, a profile and a line
abbrev tree_of : Protocol → ℕ → Parts → Protocol
tree_of p line s = record {
  name = p.name;
  profile = p.profile;
  line = line;
  messages = s.messages;
  infos = s.infos;
  starts = s.starts;
  states = s.states;
}

-- the lines behind the first
abbrev rest_of : Protocol → Lines
rest_of p = map message_line p.messages ++ (map info_line p.infos ++ (map start_line p.starts ++ flat_map state_lines p.states))

-- the tree that these lines give behind a first line
abbrev given : Protocol → ℕ → Lines → Protocol
given p line qs = tree_of p line (built_on no_parts (cut_lines qs))

whole-is : (p : Protocol) (qs : Lines) (line after : ℕ) → whole
    (built (cut_lines ((line, f.Protocol p.name p.profile) ∷ qs))) after ≡ Ok (given p line qs)
unfolding built_on
whole-is p qs line after = refl

ok-same : (p q : Protocol) (r : Result Protocol ParseError) → r ≡ Ok p → r ≡ Ok q → p ≡ q
ok-same p q r a b = cc

-- what the numbered lines give, but for line numbers
same-tree : (p : Protocol) (qs : Lines) → whole (built (cut_lines ((p.line, f.Protocol p.name p.profile) ∷ qs))) 0 ≡ Ok p →
    bare_protocol (given p 1 (numbered 2 qs)) ≡ bare_protocol p
same-tree p qs e =
    let here : given p p.line qs ≡ p = ok-same (given p p.line qs) p
    (whole (built (cut_lines ((p.line, f.Protocol p.name p.profile) ∷ qs))) 0) (whole-is p qs p.line 0) e in
    ap (bare_of p) (built-numbered qs 2 no_parts) ∙ ap bare_protocol here

back : (p : Protocol) → (x : ℕ × Form Expr) → IsTree p → GoodLine p.profile x → Back p.profile x
back p x tree h = (form-fits p.profile tree.profiles x.1 h, form-stays p.profile tree.profiles x.1 h)

-- the lines of the canonical text
printed : (p : Protocol) → Each (Back p.profile) (forms_of p) →
    (ls : List Line) × (lines_from 1 0 (lines_of (canon p)) ≡ Ok ls) × SpellAll p.profile ls (numbered 1 (forms_of p))
unfolding canon
printed p h = lines-lexed p.profile (forms_of p) 0 1 0 h

parsed-back : (p : Protocol) (ls : List Line) (after : ℕ) → IsTree p → SpellAll p.profile ls (numbered 1 (forms_of p)) →
    parsed ls after ≡ Ok (given p 1 (numbered 2 (rest_of p)))
unfolding parsed
parsed-back p ls after tree spelled =
    let qs = numbered 1 (forms_of p) in
    let nested : judged (kinds (cut_lines qs)) ≡ Nested = ap judged (kinds-at qs ∙ kinds-numbered (forms_of p) 1)
    ∙ nested-judged (map kind_at (forms_of p)) (tree-nests p) in
    let few : first_over no_counts (cut_lines qs) ≡ None =
    over-numbered (forms_of p) 1 no_counts (tree-within p tree.few_states tree.few_handlers tree.few_messages tree.few_infos
    tree.few_message_args (small-states p tree)) in
    rw (profile-back p (rest_of p) ls tree spelled, forms-again p.profile ls qs spelled, nested, few)
    (whole-is p (numbered 2 (rest_of p)) 1 after)

pub canon-is-read-back : CanonIsReadBack
canon-is-read-back p tree =
    let goods : Each (Back p.profile) (forms_of p) = each-map (GoodLine p.profile) (Back p.profile) (λ x h. back p x tree h)
    (forms_of p) (tree-good p tree) in
    let lines = printed p goods in
    let found : Lexed = record { all = length (lines_of (canon p)); list = lines.0 } in
    let is : lexed (canon p) ≡ Ok found = text-lexed (canon p) lines.0 lines.1 in
    let q = given p 1 (numbered 2 (rest_of p)) in
    let read : (after : ℕ) → parsed lines.0 after ≡ Ok q = λ after. parsed-back p lines.0 after tree lines.2 in
    let is_tree = (text-gives-tree (canon p) found [] lines.0 [] q 0 is (sym (append-nil lines.0)) (read 0)).0 in
    (found, q, is, read, is_tree, same-tree p (rest_of p) (built-protocol p (plain-states p tree) 0))
