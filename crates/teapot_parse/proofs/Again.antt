-- The lines that a tree gives are read as that tree.
use Rattle.std.proofs.Common.{◌≡◌, ◌≤◌, ℕ, Bool, true, false, cond, List, [], ◌∷◌, length, map, Some, None, Ok, refl, ap, sym}
use Rattle.std.proofs.Common.{◌∙◌, subst, inl, inr}
use Rattle.std.specs.Prelude.{◌⊎◌, codes}
use Rattle.std.specs.List.{flat_map}
use Rattle.std.specs.Str.{bytes_eq}
use Rattle.std.proofs.lemmas.Slice.Eq.{bytes_eq-Decides}
use Rattle.tw_base.specs.Lists.{Each}
use Rattle.tw_lex.specs.declared.token.Line.{Line}
use Rattle.tw_lex.specs.declared.token.Token.{Token}
use Rattle.tw_lex.specs.declared.token.What.{What}
use Rattle.tw_lex.specs.declared.token.What.TheVariants as what
use Rattle.teapot_tree.specs.declared.expr.Expr.{Expr}
use Rattle.teapot_tree.specs.declared.keyword.Keyword.TheVariants as k
use Rattle.teapot_tree.specs.declared.protocol.Handler.{Handler}
use Rattle.teapot_tree.specs.declared.protocol.Protocol.{Protocol}
use Rattle.teapot_tree.specs.declared.protocol.State.{State}
use Rattle.teapot_tree.specs.Grammar.{IsTree, NoDefaultArgs, OnOneLine}
use Rattle.teapot_tree.specs.Keywords.{keyword_of}
use Rattle.teapot_tree.specs.Bodies.{body_of}
use Rattle.teapot_tree.specs.Parts.{eaches, exprs_of, handlers_of, loops, nest}
use Rattle.teapot_lines.specs.declared.form.Form.{Form}
use Rattle.teapot_lines.specs.declared.form.Form.TheVariants as f
use Rattle.teapot_lines.specs.Seen.{Seen, Key, Named, Number, seen, seen_what, seen_word}
use Rattle.teapot_lines.specs.Spelling.{spelling, spelled_profile}
use Rattle.teapot_parse.specs.declared.judge.Judged.TheVariants.{Nested}
use Rattle.teapot_parse.specs.Building.{built, no_parts}
use Rattle.teapot_parse.specs.Counting.{no_counts, first_over}
use Rattle.teapot_parse.specs.Given.{SpellAll, erased, IsGiven}
use Rattle.teapot_parse.specs.Nesting.{judged, kinds}
use Rattle.teapot_parse.specs.Parsing.{names_two, profile_of, whole, parsed}
use Rattle.teapot_parse.specs.Trees.{Lines, lines_of}
use Rattle.teapot_parse.proofs.Builds.{cut_lines, IsPlain, IsPlainState, IsShallow, each-parts, built-protocol}
use Rattle.teapot_parse.proofs.Erasing.{erased-form, kind_at, kinds-at, kinds-erased, built-erased, over-erased, forms-again}
use Rattle.teapot_parse.proofs.Limits.{IsWithin}
use Rattle.teapot_parse.proofs.Nests.{tree-nests, nested-judged}
use Rattle.teapot_parse.proofs.Whole.{IsSmall, tree-within}

-- ---- a word of profile 2 is the same in profile 1, or it is ForEach

keyword-same : (w : List ℕ) → bytes_eq w (codes "ForEach") ≡ false → keyword_of 1 w ≡ keyword_of 2 w
unfolding keyword_of
keyword-same w e = rw e refl

word-same : (w : List ℕ) (b : Bool) → bytes_eq w (codes "ForEach") ≡ b →
    (keyword_of 1 w ≡ keyword_of 2 w) ⊎ (bytes_eq w (codes "ForEach") ≡ true)
word-same w false e = inl (keyword-same w e)
word-same w true e = inr e

for_each : (w : List ℕ) → w ≡ codes "ForEach" → keyword_of 2 w ≡ Some k.ForEach
unfolding keyword_of
for_each w e = rw e refl

is-same : (w : List ℕ) → (keyword_of 1 w ≡ keyword_of 2 w) ⊎ (keyword_of 2 w ≡ Some k.ForEach)
is-same w = elim (word-same w (bytes_eq w (codes "ForEach")) refl) [
  | inl same ↦ inl same
  | inr here ↦ inr (for_each w ((bytes_eq-Decides w (codes "ForEach")).0 here))
]

-- a token that is not ForEach is seen the same in profile 1
seen-same : (x : What) (s : Seen) → seen_what 2 x ≡ s → (s ≡ Key k.ForEach → ⊥) → seen_what 1 x ≡ s
seen-same (what.Word w) s e other = elim (is-same w) [
  | inl same ↦ ap (seen_word w) same ∙ e
  | inr each ↦ absurd (other (sym e ∙ ap (seen_word w) each))
]
seen-same (what.Number n) s e other = e
seen-same (what.Mark m) s e other = e

no-key : (s : Seen) → s ≡ Key k.Protocol → s ≡ Key k.ForEach → ⊥
no-key s a b = cc

no-named : (s : Seen) (w : List ℕ) → s ≡ Named w → s ≡ Key k.ForEach → ⊥
no-named s w a b = cc

no-number : (s : Seen) (n : ℕ) → s ≡ Number n → s ≡ Key k.ForEach → ⊥
no-number s n a b = cc

two-named : (ts : List Token) (n : List ℕ) → map (seen 2) ts ≡ Key k.Protocol ∷ Named n ∷ Number 2 ∷ [] →
    names_two (map (seen 1) ts) ≡ true
two-named [] n e = absurd cc
two-named (a ∷ []) n e = absurd cc
two-named (a ∷ b ∷ []) n e = absurd cc
two-named (a ∷ b ∷ c ∷ []) n e =
    let ea : seen 2 a ≡ Key k.Protocol = cc in
    let eb : seen 2 b ≡ Named n = cc in
    let ec : seen 2 c ≡ Number 2 = cc in
    rw (
      seen-same a.what (Key k.Protocol) ea (no-key (Key k.Protocol) refl),
      seen-same b.what (Named n) eb (no-named (Named n) n refl),
      seen-same c.what (Number 2) ec (no-number (Number 2) 2 refl),
    ) refl
two-named (a ∷ b ∷ c ∷ d ∷ ts) n e = absurd cc

pub profile_by : (profile : ℕ) (ts : List Token) (n : List ℕ) → (profile ≡ 1) ⊎ (profile ≡ 2) →
    map (seen profile) ts ≡ Key k.Protocol ∷ Named n ∷ spelled_profile profile →
    cond (names_two (map (seen 1) ts)) 2 1 ≡ profile
profile_by profile ts n (inl one) e =
    let here : map (seen 1) ts ≡ Key k.Protocol ∷ Named n ∷ [] =
    subst (λ p. map (seen p) ts ≡ Key k.Protocol ∷ Named n ∷ spelled_profile p) one e in
    rw (here, one) refl
profile_by profile ts n (inr two) e =
    let here : map (seen 2) ts ≡ Key k.Protocol ∷ Named n ∷ Number 2 ∷ [] =
    subst (λ p. map (seen p) ts ≡ Key k.Protocol ∷ Named n ∷ spelled_profile p) two e in
    rw (two-named ts n here, two) refl

profile-again : (lines : List Line) (p : Protocol) (qs rest : Lines) → (p.profile ≡ 1) ⊎ (p.profile ≡ 2) →
    SpellAll p.profile lines qs → map erased qs ≡ (p.line, f.Protocol p.name p.profile) ∷ rest → profile_of lines ≡ p.profile
profile-again [] p [] rest which h e = absurd cc
profile-again [] p (q ∷ qs) rest which h e = absurd h
profile-again (l ∷ ls) p [] rest which h e = absurd h
profile-again (l ∷ ls) p (q ∷ qs) rest which (number, fits, tokens, more) e =
    let first : erased q ≡ (p.line, f.Protocol p.name p.profile) = cc in
    let form : q.1 ≡ f.Protocol p.name p.profile = sym (erased-form q.0 q.1) ∙ ap (λ (x : ℕ × Form Expr). x.1) first in
    profile_by p.profile l.tokens p.name which (tokens ∙ ap spelling form)

-- ---- the limits, as facts of each state

pub each-map : {X : Type 0} (P Q : X → Type 0) → ((x : X) → P x → Q x) → (xs : List X) → Each P xs → Each Q xs
each-map P Q g [] h = tt
each-map P Q g (x ∷ xs) (h, hs) = (g x h, each-map P Q g xs hs)

pub each-both : {X : Type 0} (P Q : X → Type 0) (xs : List X) → Each P xs → Each Q xs → Each (λ x. P x × Q x) xs
each-both P Q [] h k = tt
each-both P Q (x ∷ xs) (h, hs) (k, ks) = ((h, k), each-both P Q xs hs ks)

pub each-flat : (P : Handler → Type 0) (ss : List State) → Each P (flat_map (λ (s : State). s.handlers) ss) →
    Each (λ (s : State). Each P s.handlers) ss
each-flat P [] h = tt
each-flat P (s ∷ ss) h =
    let parts = each-parts P s.handlers (flat_map (λ (x : State). x.handlers) ss) h in
    (parts.0, each-flat P ss parts.1)

pub plain-states : (p : Protocol) → IsTree p → Each IsPlainState p.states
plain-states p t =
    let hs = handlers_of p in
    let two = each-both NoDefaultArgs (λ (h : Handler). (eaches (body_of h.body) ≡ 0) × Each IsShallow (exprs_of h)) hs
    t.default_args (each-both (λ (h : Handler). eaches (body_of h.body) ≡ 0)
    (λ (h : Handler). Each IsShallow (exprs_of h)) hs t.no_each t.shallow) in
    let plains = each-map _ IsPlain (λ h x. (x.0, x.1.0, x.1.1)) hs two in
    each-both OnOneLine (λ (s : State). Each IsPlain s.handlers) p.states t.param_lines (each-flat IsPlain p.states plains)

pub small-states : (p : Protocol) → IsTree p → Each IsSmall p.states
small-states p t =
    let hs = handlers_of p in
    let limits = each-both (λ (h : Handler). length h.locals ≤ 8)
    (λ (h : Handler). Each IsShallow (exprs_of h) × ((nest (body_of h.body) ≤ 16) × (loops (body_of h.body) ≤ 4))) hs
    t.few_locals
    (each-both (λ (h : Handler). Each IsShallow (exprs_of h))
    (λ (h : Handler). (nest (body_of h.body) ≤ 16) × (loops (body_of h.body) ≤ 4)) hs t.shallow
    (each-both (λ (h : Handler). nest (body_of h.body) ≤ 16)
    (λ (h : Handler). loops (body_of h.body) ≤ 4) hs t.little_nest t.few_loops)) in
    let within = each-map _ IsWithin (λ h x. (x.0, x.1.0, x.1.1.0, x.1.1.1)) hs limits in
    each-both (λ (s : State). length s.params ≤ 4) (λ (s : State). Each IsWithin s.handlers) p.states t.few_params
    (each-flat IsWithin p.states within)

-- ---- the whole

pub parsed-again : (lines : List Line) (p : Protocol) (after : ℕ) → IsTree p → IsGiven lines p → parsed lines after ≡ Ok p
unfolding parsed
parsed-again lines p after t (qs, spelled, given) =
    let nested : judged (kinds (cut_lines qs)) ≡ Nested =
    ap judged (kinds-at qs ∙ sym (kinds-erased qs) ∙ ap (map kind_at) given)
    ∙ nested-judged (map kind_at (lines_of p)) (tree-nests p) in
    let few : first_over no_counts (cut_lines qs) ≡ None =
    over-erased qs no_counts (ap (λ ls. first_over no_counts (cut_lines ls)) given
    ∙ tree-within p t.few_states t.few_handlers t.few_messages t.few_infos t.few_message_args (small-states p t)) in
    let tree : whole (built (cut_lines qs)) after ≡ Ok p =
    ap (λ s. whole s after) (sym (built-erased qs no_parts) ∙ ap (λ ls. built (cut_lines ls)) given)
    ∙ built-protocol p (plain-states p t) after in
    rw (profile-again lines p qs _ t.profiles spelled given, forms-again p.profile lines qs spelled, nested, few) tree
