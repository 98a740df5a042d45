-- Each refusal is of one kind.
use Rattle.std.proofs.Common.{◌≡◌, ◌⊎◌, inl, inr, ℕ, ◌*◌, List, Result, Ok, Err, refl, sym, ap, ◌∙◌}
use Rattle.tw_base.specs.Answers.{◌>>=◌}
use Rattle.tw_base.specs.Shape.{Sizes}
use Rattle.tw_lex.specs.declared.token.Lexed.{Lexed}
use Rattle.tw_lex.specs.declared.token.LexError.{LexError}
use Rattle.tw_lex.specs.declared.token.LexError.TheVariants as lexical
use Rattle.tw_lex.specs.Lines.{lexed}
use Rattle.mini_asm.specs.declared.instr.Instr.{Instr}
use Rattle.tempest_input.specs.declared.layout.Body.{Body}
use Rattle.tempest_input.specs.declared.layout.Ending.{Ending}
use Rattle.tempest_input.specs.declared.layout.Layout.{Layout}
use Rattle.tempest_input.specs.declared.error.InputError.{InputError}
use Rattle.tempest_input.specs.declared.error.InputError.TheVariants.{Refused, Memory}
use Rattle.tempest_input.specs.declared.error.Why.{Why}
use Rattle.tempest_input.specs.declared.error.Why.TheVariants as whys
use Rattle.tempest_input.specs.Layout.{laid_out}
use Rattle.tempest_input.specs.Numbers.{nodes_of, sizes_of, words_of}
use Rattle.tempest_input.specs.Settings.{Settings, each_below, in_line, settings_and_report, layout_of, parsed, program_for}
use Rattle.tempest_input.specs.Settings.{settings_of}
use Rattle.tempest_input.specs.Laws.{InputIsNeverBoth, InputIsNoMemory, InputIsValidOrRefused, IsRead, IsRefused}
use Rattle.tempest_input.specs.Laws.{RefusalIsOfAKind, RefusalIsOne, not_ascii, bad_token, misfits, bad_size, bad_word}
use Rattle.tempest_input.specs.Laws.{bad_node, bad_program}
use Rattle.tempest_input.proofs.NoMemory.{input-never}
use Rattle.tempest_input.proofs.Parts.{bind-err, bind-ok, ok-same}
use Rattle.tempest_input.proofs.Whole.{both_ways}

-- ---- a text is read, or it is not

line-ok : (r : Result Lexed LexError) (found : Lexed) → in_line r ≡ Ok found → r ≡ Ok found
line-ok (Ok x) found e = ap Ok (ok-same x found e)
line-ok (Err (lexical.NotAscii line)) found e = absurd (cc e)
line-ok (Err (lexical.BadToken line)) found e = absurd (cc e)
line-ok (Err lexical.Memory) found e = absurd (cc e)

read-back : (ending : Ending) (text : List ℕ) (l : Layout × Body) → layout_of ending text ≡ Ok l → IsRead ending text l.0
unfolding layout_of
read-back ending text l e =
    let p = bind-ok (in_line (lexed text)) (λ found. laid_out ending found.all found.list) l e in
    let both = both_ways ending p.0.all p.0.list l.0 l.1 in
    (p.0, l.1, line-ok (lexed text) p.0 p.1, both.0 p.2)

read-on : (ending : Ending) (text : List ℕ) (l : Layout) (h : IsRead ending text l) → layout_of ending text ≡ Ok (l, h.1)
unfolding layout_of
read-on ending text l h =
    let both = both_ways ending h.0.all h.0.list l h.1 in
    ap (λ r. in_line r >>= λ found. laid_out ending found.all found.list) h.2 ∙ both.1 h.3

-- ---- the kinds

line-err : (ending : Ending) (text : List ℕ) (line : ℕ) (why : Why) (r : Result Lexed LexError) → lexed text ≡ r →
    in_line r ≡ Err (Refused line why) → IsRefused ending text line why
line-err ending text line why (Ok x) is e = absurd (cc e)
line-err ending text line why (Err (lexical.NotAscii n)) is e =
    let here : n ≡ line = cc e in
    let kind : why ≡ whys.NotAscii = cc e in
    not_ascii (is ∙ ap (λ n. Err (lexical.NotAscii n)) here) kind
line-err ending text line why (Err (lexical.BadToken n)) is e =
    let here : n ≡ line = cc e in
    let kind : why ≡ whys.BadToken = cc e in
    bad_token (is ∙ ap (λ n. Err (lexical.BadToken n)) here) kind
line-err ending text line why (Err lexical.Memory) is e = absurd (cc e)

layout-err : (ending : Ending) (text : List ℕ) (line : ℕ) (why : Why) → layout_of ending text ≡ Err (Refused line why) →
    IsRefused ending text line why
unfolding layout_of
layout-err ending text line why e =
    elim (bind-err (in_line (lexed text)) (λ found. laid_out ending found.all found.list) (Refused line why) e)
    as (λ p. IsRefused ending text line why) [
      | inl p ↦ line-err ending text line why (lexed text) refl p
      | inr p ↦ misfits p.0 (line-ok (lexed text) p.0 p.1) p.2
    ]

set_up : Layout → Sizes → List (ℕ × ℕ) → List ℕ → List (List Instr) → Settings
set_up l sizes init nodes programs = record {
  version = l.version.value;
  shape = sizes;
  init = init;
  programs = each_below (program_for nodes programs) sizes.nodes;
  protocol = l.protocol;
}

abbrev programs_step : Layout → Sizes → List (ℕ × ℕ) → List ℕ → Result Settings InputError
programs_step l sizes init nodes = parsed l.version.value l.programs >>= λ programs. Ok (set_up l sizes init nodes programs)

abbrev nodes_step : Layout → Sizes → List (ℕ × ℕ) → Result Settings InputError
nodes_step l sizes init = nodes_of sizes.nodes l.programs >>= λ nodes. programs_step l sizes init nodes

abbrev words_step : Layout → Sizes → Result Settings InputError
words_step l sizes = words_of (sizes.words * sizes.blocks) l.inits >>= λ init. nodes_step l sizes init

in-steps : (l : Layout) → settings_of l ≡ (sizes_of l >>= λ sizes. words_step l sizes)
unfolding settings_of set_up
in-steps l = refl

programs-err : (ending : Ending) (text : List ℕ) (line : ℕ) (why : Why) (l : Layout) (sizes : Sizes) (init : List (ℕ × ℕ))
    (nodes : List ℕ) → IsRead ending text l → sizes_of l ≡ Ok sizes → words_of (sizes.words * sizes.blocks) l.inits ≡ Ok init
    → nodes_of sizes.nodes l.programs ≡ Ok nodes → programs_step l sizes init nodes ≡ Err (Refused line why) →
    IsRefused ending text line why
programs-err ending text line why l sizes init nodes read a b c e =
    elim (bind-err (parsed l.version.value l.programs) (λ programs. Ok (set_up l sizes init nodes programs))
    (Refused line why) e) as (λ p. IsRefused ending text line why) [
      | inl p ↦ bad_program l sizes init nodes read a b c p
      | inr p ↦ absurd (cc p.2)
    ]

nodes-err : (ending : Ending) (text : List ℕ) (line : ℕ) (why : Why) (l : Layout) (sizes : Sizes) (init : List (ℕ × ℕ)) →
    IsRead ending text l → sizes_of l ≡ Ok sizes → words_of (sizes.words * sizes.blocks) l.inits ≡ Ok init
    → nodes_step l sizes init ≡ Err (Refused line why) → IsRefused ending text line why
nodes-err ending text line why l sizes init read a b e =
    elim (bind-err (nodes_of sizes.nodes l.programs) (λ nodes. programs_step l sizes init nodes) (Refused line why) e)
    as (λ p. IsRefused ending text line why) [
      | inl p ↦ bad_node l sizes init read a b p
      | inr p ↦ programs-err ending text line why l sizes init p.0 read a b p.1 p.2
    ]

words-err : (ending : Ending) (text : List ℕ) (line : ℕ) (why : Why) (l : Layout) (sizes : Sizes) → IsRead ending text l →
    sizes_of l ≡ Ok sizes → words_step l sizes ≡ Err (Refused line why) → IsRefused ending text line why
words-err ending text line why l sizes read a e =
    elim (bind-err (words_of (sizes.words * sizes.blocks) l.inits) (λ init. nodes_step l sizes init) (Refused line why) e)
    as (λ p. IsRefused ending text line why) [
      | inl p ↦ bad_word l sizes read a p
      | inr p ↦ nodes-err ending text line why l sizes p.0 read a p.1 p.2
    ]

settings-err : (ending : Ending) (text : List ℕ) (line : ℕ) (why : Why) (l : Layout) → IsRead ending text l →
    settings_of l ≡ Err (Refused line why) → IsRefused ending text line why
settings-err ending text line why l read e =
    elim (bind-err (sizes_of l) (λ sizes. words_step l sizes) (Refused line why) (sym (in-steps l) ∙ e))
    as (λ p. IsRefused ending text line why) [
      | inl p ↦ bad_size l read p
      | inr p ↦ words-err ending text line why l p.0 read p.1 p.2
    ]

kind-back : (ending : Ending) (text : List ℕ) (line : ℕ) (why : Why) →
    settings_and_report ending text ≡ Err (Refused line why) → IsRefused ending text line why
kind-back ending text line why e =
    elim (bind-err (layout_of ending text) (λ l. settings_of l.0 >>= λ s. Ok (s, l.1)) (Refused line why) e)
    as (λ p. IsRefused ending text line why) [
      | inl p ↦ layout-err ending text line why p
      | inr p ↦ elim (bind-err (settings_of p.0.0) (λ s. Ok (s, p.0.1)) (Refused line why) p.2)
          as (λ q. IsRefused ending text line why) [
            | inl q ↦ settings-err ending text line why p.0.0 (read-back ending text p.0 p.1) q
            | inr q ↦ absurd (cc q.2)
          ]
    ]

after-read : (ending : Ending) (text : List ℕ) (l : Layout) (e : InputError) → IsRead ending text l →
    (sizes_of l >>= λ sizes. words_step l sizes) ≡ Err e → settings_and_report ending text ≡ Err e
after-read ending text l e read h =
    ap (λ r. r >>= λ l. settings_of l.0 >>= λ s. Ok (s, l.1)) (read-on ending text l read)
    ∙ ap (λ r. r >>= λ s. Ok (s, read.1)) (in-steps l ∙ h)

before-read : (ending : Ending) (text : List ℕ) (e : InputError) →
    (in_line (lexed text) >>= λ found. laid_out ending found.all found.list) ≡ Err e → settings_and_report ending text ≡ Err e
unfolding layout_of
before-read ending text e h = ap (λ r. r >>= λ l. settings_of l.0 >>= λ s. Ok (s, l.1)) h

kind-on : (ending : Ending) (text : List ℕ) (line : ℕ) (why : Why) → IsRefused ending text line why →
    settings_and_report ending text ≡ Err (Refused line why)
kind-on ending text line why (not_ascii is kind) = before-read ending text (Refused line why) (rw (is, kind) refl)
kind-on ending text line why (bad_token is kind) = before-read ending text (Refused line why) (rw (is, kind) refl)
kind-on ending text line why (misfits found is e) = before-read ending text (Refused line why) (rw (is, e) refl)
kind-on ending text line why (bad_size l read e) = after-read ending text l (Refused line why) read (rw e refl)
kind-on ending text line why (bad_word l sizes read a e) = after-read ending text l (Refused line why) read (rw (a, e) refl)
kind-on ending text line why (bad_node l sizes init read a b e) =
    after-read ending text l (Refused line why) read (rw (a, b, e) refl)
kind-on ending text line why (bad_program l sizes init nodes read a b c e) =
    after-read ending text l (Refused line why) read (rw (a, b, c, e) refl)

-- ---- the laws

pub of_a_kind : RefusalIsOfAKind
of_a_kind ending text line why = (kind-back ending text line why, kind-on ending text line why)

pub no_memory : InputIsNoMemory
no_memory ending text = input-never ending text

pub one_refusal : RefusalIsOne
one_refusal ending text line other why reason h k = same line other why reason
    (sym (kind-on ending text line why h) ∙ kind-on ending text other reason k)
  where
    same : (line other : ℕ) (why reason : Why) → ◌≡◌ {A = Result (Settings × Body) InputError} (Err (Refused line why))
        (Err (Refused other reason)) → (line ≡ other) × (why ≡ reason)
    same line other why reason e = (cc e, cc e)

pub never_both : InputIsNeverBoth
never_both ending text s report line why e h = apart (s, report) (Refused line why) (sym e ∙ kind-on ending text line why h)
  where
    apart : (s : Settings × Body) (e : InputError) → ¬ (◌≡◌ {A = Result (Settings × Body) InputError} (Ok s) (Err e))
    apart s e h = absurd (cc h)

pub valid_or_refused : InputIsValidOrRefused
valid_or_refused ending text = go (settings_and_report ending text) refl
  where
    go : (r : Result (Settings × Body) InputError) → settings_and_report ending text ≡ r
        → ((s : Settings) × (report : Body) × (settings_and_report ending text ≡ Ok (s, report)))
        ⊎ ((line : ℕ) × (why : Why) × IsRefused ending text line why)
    go (Ok s) is = inl (s.0, s.1, is)
    go (Err (Refused line why)) is = inr (line, why, kind-back ending text line why is)
    go (Err Memory) is = absurd (input-never ending text is)
