-- A layout is found exactly where its lines are written.
use Rattle.std.proofs.Common.{◌≡◌, ℕ, ◌≤◌, List, [], ◌∷◌, ◌++◌, Option, Some, None, Result, Ok, refl, sym, ap, subst, false}
use Rattle.std.proofs.Common.{◌∙◌, arith}
use Rattle.tw_base.specs.Answers.{◌>>=◌}
use Rattle.tw_lex.specs.declared.token.Line.{Line}
use Rattle.tempest_input.specs.declared.head.Head.{Head}
use Rattle.tempest_input.specs.declared.head.Head.TheVariants as heads
use Rattle.tempest_input.specs.declared.head.Field.TheVariants.{Version, Nodes, Words, Blocks, Budget}
use Rattle.tempest_input.specs.declared.layout.Numbered.{Numbered}
use Rattle.tempest_input.specs.declared.layout.Init.{Init}
use Rattle.tempest_input.specs.declared.layout.Section.{Section}
use Rattle.tempest_input.specs.declared.layout.Choice.{Choice}
use Rattle.tempest_input.specs.declared.layout.Choice.TheVariants as choices
use Rattle.tempest_input.specs.declared.layout.Body.{Body}
use Rattle.tempest_input.specs.declared.layout.Ending.{Ending}
use Rattle.tempest_input.specs.declared.layout.Ending.TheVariants as endings
use Rattle.tempest_input.specs.declared.layout.Layout.{Layout}
use Rattle.tempest_input.specs.declared.error.InputError.{InputError}
use Rattle.tempest_input.specs.Heads.{head_of}
use Rattle.tempest_input.specs.Layout.{budget_in, choice_in, ending_in, field_in, init_in, inits_in, laid_out, next_node}
use Rattle.tempest_input.specs.Layout.{node_in, number_in, sections_in}
use Rattle.tempest_input.specs.Laws.{IsBudget, IsChoice, IsEnding, IsField, IsInits, IsLaidOut, IsSections, LayoutIsReadBothWays}
use Rattle.tempest_input.proofs.Parts.{EndingOf, NoBudget, NoChoice, NoInit, all-sections-on, bind-ok, budget-back, budget-on}
use Rattle.tempest_input.proofs.Parts.{choice-back, choice-on, chooses, ending-back, ending-on, field-back, field-on}
use Rattle.tempest_input.proofs.Parts.{inits-back, inits-on, ok-same, sections-back, starts}

-- all before the protocol, and that each part goes as far as it can
pub record IsParted (lines rest : List Line) (l : Layout) : Type 0 where
  pub version : Line
  pub nodes : Line
  pub words : Line
  pub blocks : Line
  pub budget : List Line
  pub inits : List Line
  pub programs : List Line
  pub lines_are : lines ≡ version ∷ nodes ∷ words ∷ blocks ∷ (budget ++ (inits ++ (programs ++ rest)))
  pub version_is : IsField Version l.version version
  pub nodes_is : IsField Nodes l.nodes nodes
  pub words_is : IsField Words l.words words
  pub blocks_is : IsField Blocks l.blocks blocks
  pub budget_is : IsBudget l.budget budget
  pub inits_are : IsInits l.inits inits
  pub programs_are : IsSections l.programs programs
  pub no_budget : NoBudget l.budget (inits ++ (programs ++ rest))
  pub no_init : NoInit (programs ++ rest)
  pub no_node : next_node rest ≡ None

abbrev pub with_choice : Layout → Choice → Layout
with_choice l c = record {
  version = l.version;
  nodes = l.nodes;
  words = l.words;
  blocks = l.blocks;
  budget = l.budget;
  inits = l.inits;
  programs = l.programs;
  protocol = c;
}

-- the end of a layout behind its protocol
abbrev pub finished : Ending → ℕ → Layout → Choice × List Line → Result (Layout × Body) InputError
finished ending all l c = ending_in ending all c.1 >>= λ report. Ok (with_choice l c.0, report)

pub parted-on : (ending : Ending) (all : ℕ) (lines rest : List Line) (l : Layout) → IsParted lines rest l
    → laid_out ending all lines ≡ (choice_in l.version.value all rest >>= λ c. finished ending all l c)
unfolding laid_out
parted-on ending all lines rest l h =
    let tail : List Line = h.budget ++ (h.inits ++ (h.programs ++ rest)) in
    let v = field-on Version all h.version (h.nodes ∷ h.words ∷ h.blocks ∷ tail) l.version h.version_is in
    let n = field-on Nodes all h.nodes (h.words ∷ h.blocks ∷ tail) l.nodes h.nodes_is in
    let w = field-on Words all h.words (h.blocks ∷ tail) l.words h.words_is in
    let b = field-on Blocks all h.blocks tail l.blocks h.blocks_is in
    let g = budget-on l.budget h.budget (h.inits ++ (h.programs ++ rest)) h.budget_is h.no_budget in
    let i = inits-on l.inits h.inits (h.programs ++ rest) h.inits_are h.no_init in
    let s = all-sections-on all l.programs h.programs rest h.programs_are h.no_node in
    rw (h.lines_are, v, n, w, b, g, i, s) refl

abbrev pub laid : Numbered → Numbered → Numbered → Numbered × List Line → List Section → Choice → Layout
laid version nodes words blocks programs choice = record {
  version = version;
  nodes = nodes;
  words = words;
  blocks = blocks.0;
  budget = (budget_in blocks.1).0;
  inits = (inits_in (budget_in blocks.1).1).0;
  programs = programs;
  protocol = choice;
}

-- the lines behind the words at the start
abbrev pub after_inits : List Line → List Line
after_inits lines = (inits_in (budget_in lines).1).1

pub parted-back : (all : ℕ) (lines : List Line) (v n w b : Numbered × List Line) (s : List Section × List Line) (c : Choice) →
    field_in Version all lines ≡ Ok v → field_in Nodes all v.1 ≡ Ok n → field_in Words all n.1 ≡ Ok w →
    field_in Blocks all w.1 ≡ Ok b
    → sections_in all (after_inits b.1) ≡ Ok s → IsParted lines s.1 (laid v.0 n.0 w.0 b s.0 c)
parted-back all lines v n w b s c ve ne we be se =
    let vs = field-back Version all lines v ve in
    let ns = field-back Nodes all v.1 n ne in
    let ws = field-back Words all n.1 w we in
    let bs = field-back Blocks all w.1 b be in
    let g = budget-back b.1 in
    let i = inits-back (budget_in b.1).1 in
    let p = sections-back all _ (after_inits b.1) s (omega arith) se in
    let inner : (budget_in b.1).1 ≡ i.0 ++ (p.0 ++ s.1) = i.1 ∙ ap (λ z. i.0 ++ z) p.1 in
    record {
      version = vs.0;
      nodes = ns.0;
      words = ws.0;
      blocks = bs.0;
      budget = g.0;
      inits = i.0;
      programs = p.0;
      lines_are = vs.1
          ∙ ap (λ z. vs.0 ∷ z) (ns.1 ∙ ap (λ z. ns.0 ∷ z) (ws.1
          ∙ ap (λ z. ws.0 ∷ z) (bs.1 ∙ ap (λ z. bs.0 ∷ z) (g.1 ∙ ap (λ z. g.0 ++ z) inner))));
      version_is = vs.2;
      nodes_is = ns.2;
      words_is = ws.2;
      blocks_is = bs.2;
      budget_is = g.2;
      inits_are = i.2;
      programs_are = p.2;
      no_budget = subst (NoBudget (budget_in b.1).0) inner g.3;
      no_init = subst NoInit p.1 i.3;
      no_node = p.3;
    }

whole : (ending : Ending) (all : ℕ) (lines part behind : List Line) (l : Layout) (report : Body) →
    IsParted lines (part ++ behind) l → IsChoice l.version.value l.protocol part
    → EndingOf ending all behind report → IsLaidOut ending all lines l report
whole ending all lines part behind l report h k e = record {
  version = h.version;
  nodes = h.nodes;
  words = h.words;
  blocks = h.blocks;
  budget = h.budget;
  inits = h.inits;
  programs = h.programs;
  protocol = part;
  behind = behind;
  lines_are = h.lines_are;
  version_is = h.version_is;
  nodes_is = h.nodes_is;
  words_is = h.words_is;
  blocks_is = h.blocks_is;
  budget_is = h.budget_is;
  inits_are = h.inits_are;
  programs_are = h.programs_are;
  protocol_is = k;
  behind_is = e.0;
  end_is = e.1;
}

-- ---- the steps of the whole

abbrev pub report_in : Ending → ℕ → Numbered × List Line → Numbered × List Line → Numbered × List Line → Numbered × List Line →
    List Section × List Line → Choice × List Line → Result (Layout × Body) InputError
report_in ending all v n w b s c = ending_in ending all c.1 >>= λ report. Ok (laid v.0 n.0 w.0 b s.0 c.0, report)

abbrev pub protocol_in : Ending → ℕ → Numbered × List Line → Numbered × List Line → Numbered × List Line →
    Numbered × List Line → List Section × List Line → Result (Layout × Body) InputError
protocol_in ending all v n w b s = choice_in v.0.value all s.1 >>= λ c. report_in ending all v n w b s c

abbrev pub programs_in : Ending → ℕ → Numbered × List Line → Numbered × List Line → Numbered × List Line →
    Numbered × List Line → Result (Layout × Body) InputError
programs_in ending all v n w b = sections_in all (after_inits b.1) >>= λ s. protocol_in ending all v n w b s

abbrev pub blocks_in : Ending → ℕ → Numbered × List Line → Numbered × List Line → Numbered × List Line →
    Result (Layout × Body) InputError
blocks_in ending all v n w = field_in Blocks all w.1 >>= λ b. programs_in ending all v n w b

abbrev pub words_in : Ending → ℕ → Numbered × List Line → Numbered × List Line → Result (Layout × Body) InputError
words_in ending all v n = field_in Words all n.1 >>= λ w. blocks_in ending all v n w

abbrev pub nodes_in : Ending → ℕ → Numbered × List Line → Result (Layout × Body) InputError
nodes_in ending all v = field_in Nodes all v.1 >>= λ n. words_in ending all v n

pub in-steps : (ending : Ending) (all : ℕ) (lines : List Line) →
    laid_out ending all lines ≡ (field_in Version all lines >>= λ v. nodes_in ending all v)
unfolding laid_out
in-steps ending all lines = refl

abbrev LaidOut : Ending → ℕ → List Line → Layout × Body → Type 0
LaidOut ending all lines l = IsLaidOut ending all lines l.0 l.1

back-last : (ending : Ending) (all : ℕ) (lines : List Line) (v n w b : Numbered × List Line) (s : List Section × List Line)
    (l : Layout × Body) → ((c : Choice) → IsParted lines s.1 (laid v.0 n.0 w.0 b s.0 c))
    → protocol_in ending all v n w b s ≡ Ok l → LaidOut ending all lines l
back-last ending all lines v n w b s l parts e =
    let c = bind-ok (choice_in v.0.value all s.1) (λ c. report_in ending all v n w b s c) l e in
    let r = bind-ok (ending_in ending all c.0.1) (λ report. Ok (laid v.0 n.0 w.0 b s.0 c.0.0, report)) l c.2 in
    let k = choice-back v.0.value all s.1 c.0 c.1 in
    let parted : IsParted lines (k.0 ++ c.0.1) (laid v.0 n.0 w.0 b s.0 c.0.0) =
    subst (λ z. IsParted lines z (laid v.0 n.0 w.0 b s.0 c.0.0)) k.1 (parts c.0.0) in
    subst (LaidOut ending all lines) (ok-same (laid v.0 n.0 w.0 b s.0 c.0.0, r.0) l r.2)
    (whole ending all lines k.0 c.0.1 (laid v.0 n.0 w.0 b s.0 c.0.0) r.0 parted k.2 (ending-back ending all c.0.1 r.0 r.1))

back : (ending : Ending) (all : ℕ) (lines : List Line) (l : Layout × Body) → laid_out ending all lines ≡ Ok l →
    LaidOut ending all lines l
back ending all lines l e =
    let v = bind-ok (field_in Version all lines) (λ v. nodes_in ending all v) l (sym (in-steps ending all lines) ∙ e) in
    let n = bind-ok (field_in Nodes all v.0.1) (λ n. words_in ending all v.0 n) l v.2 in
    let w = bind-ok (field_in Words all n.0.1) (λ w. blocks_in ending all v.0 n.0 w) l n.2 in
    let b = bind-ok (field_in Blocks all w.0.1) (λ b. programs_in ending all v.0 n.0 w.0 b) l w.2 in
    let s = bind-ok (sections_in all (after_inits b.0.1)) (λ s. protocol_in ending all v.0 n.0 w.0 b.0 s) l b.2 in
    back-last ending all lines v.0 n.0 w.0 b.0 s.0 l (λ c. parted-back all lines v.0 n.0 w.0 b.0 s.0 c v.1 n.1 w.1 b.1 s.1) s.2

-- ---- each part goes as far as it can

-- the order in which lines come
abbrev rank : Head → ℕ
rank (heads.Number f n) = 0
rank (heads.Init a v) = 1
rank (heads.Program n) = 2
rank _ = 3

no_number : (h : Head) → 1 ≤ rank h → number_in Budget h ≡ None
no_number (heads.Number f n) le = absurd (omega (arith, le))
no_number _ le = refl

no_init : (h : Head) → 2 ≤ rank h → (line : ℕ) → init_in line h ≡ None
no_init (heads.Init a v) le line = absurd (omega (arith, le))
no_init _ le line = refl

no_node : (rest : List Line) → rank (starts rest) ≡ 3 → next_node rest ≡ None
no_node [] is = refl
no_node (l ∷ ls) is = go (head_of l.tokens) is
  where
    go : (h : Head) → rank h ≡ 3 → node_in h ≡ None
    go (heads.Program n) is = absurd (omega (arith, is))
    go _ is = refl

ending-rank : (ending : Ending) (report : Body) (lines : List Line) → IsEnding ending report lines → rank (starts lines) ≡ 3
ending-rank endings.Text report lines h = ap (λ z. rank (starts z)) h.0
ending-rank endings.Report report lines h = ap (λ z. rank (starts z)) h.1 ∙ ap rank h.2

choice-rank : (version : ℕ) (c : Choice) (part rest : List Line) → IsChoice version c part → rank (starts rest) ≡ 3 →
    rank (starts (part ++ rest)) ≡ 3
choice-rank version choices.Default part rest h is = ap (λ z. rank (starts (z ++ rest))) h ∙ is
choice-rank version (choices.Own line body) part rest h is = ap (λ z. rank (starts (z ++ rest))) h.lines_are ∙ ap rank h.opens
choice-rank version (choices.Shipped line which) part rest h is = ap (λ z. rank (starts (z ++ rest))) h.1 ∙ ap rank h.3

ending-chooses : (version : ℕ) (ending : Ending) (report : Body) (lines : List Line) → IsEnding ending report lines →
    chooses version (starts lines) ≡ false
ending-chooses version endings.Text report lines h = ap (λ z. chooses version (starts z)) h.0
ending-chooses version endings.Report report lines h = ap (λ z. chooses version (starts z)) h.1 ∙ ap (chooses version) h.2

no_choice : (version : ℕ) (c : Choice) (rest : List Line) → chooses version (starts rest) ≡ false → NoChoice version c rest
no_choice version choices.Default rest is = is
no_choice version (choices.Own line body) rest is = tt
no_choice version (choices.Shipped line which) rest is = tt

sections-rank : (ss : List Section) (part rest : List Line) → IsSections ss part → rank (starts rest) ≡ 3 →
    2 ≤ rank (starts (part ++ rest))
sections-rank [] part rest h is =
    let same : rank (starts (part ++ rest)) ≡ 3 = ap (λ z. rank (starts (z ++ rest))) h ∙ is in
    omega (arith, same)
sections-rank (s ∷ ss) part rest h is =
    let same : rank (starts (part ++ rest)) ≡ 2 = ap (λ z. rank (starts (z ++ rest))) (h.2 ∙ ap (λ z. z ++ h.1) h.3.lines_are)
    ∙ ap rank h.3.opens in
    omega (arith, same)

inits-rank : (given : List Init) (part rest : List Line) → IsInits given part → 2 ≤ rank (starts rest) →
    1 ≤ rank (starts (part ++ rest))
inits-rank [] [] rest h le = omega (arith, le)
inits-rank (i ∷ given) (l ∷ ls) rest h le =
    let same : rank (head_of l.tokens) ≡ 1 = ap rank h.0 in
    omega (arith, same)
inits-rank [] (l ∷ ls) rest h le = absurd h
inits-rank (i ∷ given) [] rest h le = absurd h

no_budget : (b : Option Numbered) (rest : List Line) → 1 ≤ rank (starts rest) → NoBudget b rest
no_budget None rest le = no_number (starts rest) le
no_budget (Some n) rest le = tt

pub parted : (ending : Ending) (all : ℕ) (lines : List Line) (l : Layout) (report : Body)
    (h : IsLaidOut ending all lines l report) → IsParted lines (h.protocol ++ h.behind) l
parted ending all lines l report h =
    let rest : List Line = h.protocol ++ h.behind in
    let three = choice-rank l.version.value l.protocol h.protocol h.behind h.protocol_is
    (ending-rank ending report h.behind h.behind_is) in
    let two = sections-rank l.programs h.programs rest h.programs_are three in
    let one = inits-rank l.inits h.inits (h.programs ++ rest) h.inits_are two in
    record {
      version = h.version;
      nodes = h.nodes;
      words = h.words;
      blocks = h.blocks;
      budget = h.budget;
      inits = h.inits;
      programs = h.programs;
      lines_are = h.lines_are;
      version_is = h.version_is;
      nodes_is = h.nodes_is;
      words_is = h.words_is;
      blocks_is = h.blocks_is;
      budget_is = h.budget_is;
      inits_are = h.inits_are;
      programs_are = h.programs_are;
      no_budget = no_budget l.budget (h.inits ++ (h.programs ++ rest)) one;
      no_init = no_init (starts (h.programs ++ rest)) two;
      no_node = no_node rest three;
    }

on : (ending : Ending) (all : ℕ) (lines : List Line) (l : Layout) (report : Body) → IsLaidOut ending all lines l report →
    laid_out ending all lines ≡ Ok (l, report)
on ending all lines l report h =
    let none = no_choice l.version.value l.protocol h.behind
    (ending-chooses l.version.value ending report h.behind h.behind_is) in
    parted-on ending all lines (h.protocol ++ h.behind) l (parted ending all lines l report h)
    ∙ ap (λ r. r >>= λ c. finished ending all l c) (choice-on l.version.value all h.protocol h.behind l.protocol h.protocol_is
    none)
    ∙ ap (λ r. r >>= λ b. Ok (with_choice l l.protocol, b)) (ending-on ending all h.behind report (h.behind_is, h.end_is))

pub both_ways : LayoutIsReadBothWays
both_ways ending all lines l report = (back ending all lines (l, report), on ending all lines l report)
