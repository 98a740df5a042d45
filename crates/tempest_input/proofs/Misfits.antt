-- The line that lines are refused at is the first that does not fit.
use Rattle.std.proofs.Common.{◌≡◌, ◌⊎◌, inl, inr, ℕ, ◌+◌, false, List, [], ◌∷◌, ◌++◌, Option, Some, None, Result, Ok, Err, refl}
use Rattle.std.proofs.Common.{sym, ap, subst, ◌∙◌, append_assoc}
use Rattle.std.proofs.lemmas.List.{append-nil}
use Rattle.std.specs.Prelude.{codes}
use Rattle.tw_base.specs.Answers.{◌>>=◌}
use Rattle.tw_lex.specs.declared.token.Line.{Line}
use Rattle.tempest_input.specs.declared.head.Field.TheVariants.{Version, Nodes, Words, Blocks, Budget}
use Rattle.tempest_input.specs.declared.layout.Numbered.{Numbered}
use Rattle.tempest_input.specs.declared.layout.Choice.{Choice}
use Rattle.tempest_input.specs.declared.layout.Choice.TheVariants as choices
use Rattle.tempest_input.specs.declared.layout.Body.{Body}
use Rattle.tempest_input.specs.declared.layout.Ending.{Ending}
use Rattle.tempest_input.specs.declared.layout.Ending.TheVariants as endings
use Rattle.tempest_input.specs.declared.layout.Layout.{Layout}
use Rattle.tempest_input.specs.declared.error.InputError.{InputError}
use Rattle.tempest_input.specs.Heads.{head_of}
use Rattle.tempest_input.specs.Layout.{budget_in, choice_in, ending_in, ends_so, field_in, init_in, laid_out, misfit, next_node}
use Rattle.tempest_input.specs.Layout.{node_in, number_in, sections_in}
use Rattle.tempest_input.specs.Laws.{AreLayout, CanGoOn, IsChoice, IsEnding, IsField, IsLaidOut, IsMisfit, IsStuck}
use Rattle.tempest_input.specs.Laws.{MisfitIsFirst, MisfitIsOne}
use Rattle.tempest_input.proofs.Parts.{NoBudget, NoChoice, bind-err, budget-back, choice-back, choice-on, chooses, field-back}
use Rattle.tempest_input.proofs.Parts.{field-on, inits-back, starts}
use Rattle.tempest_input.proofs.Whole.{IsParted, after_inits, blocks_in, both_ways, finished, in-steps, laid, nodes_in}
use Rattle.tempest_input.proofs.Whole.{parted-back, parted-on, programs_in, protocol_in, report_in, with_choice, words_in}
use Rattle.tempest_input.proofs.Cuts.{choice-cut, end_line, ending-cut, ends, ends-alike, field-err, last-lines-end, last_lines}
use Rattle.tempest_input.proofs.Cuts.{no-ending, no-field, one_line, sections-cut}

-- ---- nothing is laid out

-- the same with another number of all lines
again : (ending : Ending) (all : ℕ) (report : Body) (lines : List Line) → IsEnding ending report lines →
    IsEnding ending (record { lines = report.lines; end = all + 1 }) lines
again endings.Text all report lines h = h
again endings.Report all report lines h = h

renumbered : (ending : Ending) (k all : ℕ) (lines : List Line) (l : Layout) (report : Body) → IsLaidOut ending k lines l report
    → IsLaidOut ending all lines l (record { lines = report.lines; end = all + 1 })
renumbered ending k all lines l report h = record {
  version = h.version;
  nodes = h.nodes;
  words = h.words;
  blocks = h.blocks;
  budget = h.budget;
  inits = h.inits;
  programs = h.programs;
  protocol = h.protocol;
  behind = h.behind;
  lines_are = h.lines_are;
  version_is = h.version_is;
  nodes_is = h.nodes_is;
  words_is = h.words_is;
  blocks_is = h.blocks_is;
  budget_is = h.budget_is;
  inits_are = h.inits_are;
  programs_are = h.programs_are;
  protocol_is = h.protocol_is;
  behind_is = again ending all report h.behind h.behind_is;
  end_is = refl;
}

-- lines that are refused are no layout
not-laid : (ending : Ending) (all : ℕ) (lines : List Line) (e : InputError) → laid_out ending all lines ≡ Err e →
    ¬ AreLayout ending lines
not-laid ending all lines e is h =
    let report : Body = record { lines = h.2.lines; end = all + 1 } in
    let both = both_ways ending all lines h.1 report in
    apart (h.1, report) e (sym (both.1 (renumbered ending h.0 all lines h.1 h.2 h.3)) ∙ is)
  where
    apart : (l : Layout × Body) (e : InputError) → ¬ (◌≡◌ {A = Result (Layout × Body) InputError} (Ok l) (Err e))
    apart l e h = absurd (cc h)

-- it is refused, with whatever lines
abbrev IsOut : Ending → List Line → Type 0
IsOut ending lines = (e : InputError) × (laid_out ending 0 lines ≡ Err e)

stuck : (ending : Ending) (front rest : List Line) → ((other : List Line) → starts other ≡ starts rest →
    IsOut ending (front ++ other)) → IsStuck ending front rest
stuck ending front [] out =
    let p = out [] refl in
    not-laid ending 0 front p.0 (ap (laid_out ending 0) (sym (append-nil front)) ∙ p.1)
stuck ending front (next ∷ rest) out = λ more.
    let p = out (next ∷ more) refl in
    not-laid ending 0 (front ++ next ∷ more) p.0 p.1

-- ---- the header

abbrev one : Numbered
one = record { line = 0; value = 1 }

version_line : IsField Version one (one_line (codes "tempest"))
unfolding head_of
version_line = (refl, refl)

nodes_line : IsField Nodes one (one_line (codes "nodes"))
unfolding head_of
nodes_line = (refl, refl)

words_line : IsField Words one (one_line (codes "words"))
unfolding head_of
words_line = (refl, refl)

blocks_line : IsField Blocks one (one_line (codes "blocks"))
unfolding head_of
blocks_line = (refl, refl)

-- a header and nothing else
abbrev bare : Numbered → Numbered → Numbered → Numbered → Layout
bare v n w b = record {
  version = v;
  nodes = n;
  words = w;
  blocks = b;
  budget = None;
  inits = [];
  programs = [];
  protocol = choices.Default;
}

bare-laid : (ending : Ending) (v n w b : Numbered) (vl nl wl bl : Line) → IsField Version v vl → IsField Nodes n nl →
    IsField Words w wl → IsField Blocks b bl
    → AreLayout ending (vl ∷ nl ∷ wl ∷ bl ∷ last_lines ending)
bare-laid ending v n w b vl nl wl bl vi ni wi bi = let last = last-lines-end ending 0 in (
  0,
  bare v n w b,
  record { lines = []; end = 1 },
  record {
    version = vl;
    nodes = nl;
    words = wl;
    blocks = bl;
    budget = [];
    inits = [];
    programs = [];
    protocol = [];
    behind = last_lines ending;
    lines_are = refl;
    version_is = vi;
    nodes_is = ni;
    words_is = wi;
    blocks_is = bi;
    budget_is = refl;
    inits_are = tt;
    programs_are = refl;
    protocol_is = refl;
    behind_is = last.0;
    end_is = last.1;
  },
)

no-version : (ending : Ending) (other : List Line) → number_in Version (starts other) ≡ None → IsOut ending other
unfolding laid_out
no-version ending other n = (misfit 0 other, rw (no-field Version 0 other n) refl)

no-nodes : (ending : Ending) (v : Numbered) (vl : Line) (other : List Line) → IsField Version v vl →
    number_in Nodes (starts other) ≡ None → IsOut ending (vl ∷ other)
unfolding laid_out
no-nodes ending v vl other vi n = (misfit 0 other, rw (field-on Version 0 vl other v vi, no-field Nodes 0 other n) refl)

no-words : (ending : Ending) (v n : Numbered) (vl nl : Line) (other : List Line) → IsField Version v vl → IsField Nodes n nl →
    number_in Words (starts other) ≡ None → IsOut ending (vl ∷ nl ∷ other)
unfolding laid_out
no-words ending v n vl nl other vi ni none = (
  misfit 0 other,
  rw (field-on Version 0 vl (nl ∷ other) v vi, field-on Nodes 0 nl other n ni, no-field Words 0 other none) refl,
)

no-blocks : (ending : Ending) (v n w : Numbered) (vl nl wl : Line) (other : List Line) → IsField Version v vl →
    IsField Nodes n nl → IsField Words w wl → number_in Blocks (starts other) ≡ None → IsOut ending (vl ∷ nl ∷ wl ∷ other)
unfolding laid_out
no-blocks ending v n w vl nl wl other vi ni wi none = (
  misfit 0 other,
  rw (
    field-on Version 0 vl (nl ∷ wl ∷ other) v vi,
    field-on Nodes 0 nl (wl ∷ other) n ni,
    field-on Words 0 wl other w wi,
    no-field Blocks 0 other none,
  ) refl,
)

at-version : (ending : Ending) (all : ℕ) (lines : List Line) (e : InputError) → field_in Version all lines ≡ Err e →
    IsMisfit ending all lines e
at-version ending all lines e is =
    let p = field-err Version all lines e is in
    record {
      front = [];
      rest = lines;
      lines_are = refl;
      answer = p.0;
      goes_on = (
        one_line (codes "tempest") ∷ one_line (codes "nodes") ∷ one_line (codes "words") ∷ one_line
            (codes "blocks") ∷ last_lines ending,
        bare-laid ending one one one one _ _ _ _ version_line nodes_line words_line blocks_line,
      );
      stops = stuck ending [] lines (λ other same. no-version ending other (ap (number_in Version) same ∙ p.1));
    }

at-nodes : (ending : Ending) (all : ℕ) (rest : List Line) (v : Numbered) (vl : Line) (e : InputError) → IsField Version v vl →
    field_in Nodes all rest ≡ Err e → IsMisfit ending all (vl ∷ rest) e
at-nodes ending all rest v vl e vi is =
    let p = field-err Nodes all rest e is in
    record {
      front = vl ∷ [];
      rest = rest;
      lines_are = refl;
      answer = p.0;
      goes_on = (
        one_line (codes "nodes") ∷ one_line (codes "words") ∷ one_line (codes "blocks") ∷ last_lines ending,
        bare-laid ending v one one one vl _ _ _ vi nodes_line words_line blocks_line,
      );
      stops = stuck ending (vl ∷ []) rest (λ other same. no-nodes ending v vl other vi (ap (number_in Nodes) same ∙ p.1));
    }

at-words : (ending : Ending) (all : ℕ) (rest : List Line) (v n : Numbered) (vl nl : Line) (e : InputError) →
    IsField Version v vl → IsField Nodes n nl → field_in Words all rest ≡ Err e → IsMisfit ending all (vl ∷ nl ∷ rest) e
at-words ending all rest v n vl nl e vi ni is =
    let p = field-err Words all rest e is in
    record {
      front = vl ∷ nl ∷ [];
      rest = rest;
      lines_are = refl;
      answer = p.0;
      goes_on = (
        one_line (codes "words") ∷ one_line (codes "blocks") ∷ last_lines ending,
        bare-laid ending v n one one vl nl _ _ vi ni words_line blocks_line,
      );
      stops = stuck ending (vl ∷ nl ∷ []) rest (λ other same. no-words ending v n vl nl other vi ni
          (ap (number_in Words) same ∙ p.1));
    }

at-blocks : (ending : Ending) (all : ℕ) (rest : List Line) (v n w : Numbered) (vl nl wl : Line) (e : InputError) →
    IsField Version v vl → IsField Nodes n nl → IsField Words w wl → field_in Blocks all rest ≡ Err e →
    IsMisfit ending all (vl ∷ nl ∷ wl ∷ rest) e
at-blocks ending all rest v n w vl nl wl e vi ni wi is =
    let p = field-err Blocks all rest e is in
    record {
      front = vl ∷ nl ∷ wl ∷ [];
      rest = rest;
      lines_are = refl;
      answer = p.0;
      goes_on = (one_line (codes "blocks") ∷ last_lines ending, bare-laid ending v n w one vl nl wl _ vi ni wi blocks_line);
      stops = stuck ending (vl ∷ nl ∷ wl ∷ []) rest (λ other same. no-blocks ending v n w vl nl wl other vi ni wi
          (ap (number_in Blocks) same ∙ p.1));
    }

-- ---- sections

regroup-last : (a b c d last : List Line) → (a ++ (b ++ c)) ++ (d ++ last) ≡ a ++ (b ++ ((c ++ d) ++ last))
regroup-last a b c d last = append_assoc a (b ++ c) (d ++ last)
    ∙ ap (λ z. a ++ z) (append_assoc b c (d ++ last) ∙ ap (λ z. b ++ z) (sym (append_assoc c d last)))

at-sections : (ending : Ending) (all : ℕ) (rest : List Line) (v n w b : Numbered) (vl nl wl bl : Line) (e : InputError) →
    IsField Version v vl → IsField Nodes n nl → IsField Words w wl → IsField Blocks b bl
    → sections_in all (after_inits rest) ≡ Err e → laid_out ending all (vl ∷ nl ∷ wl ∷ bl ∷ rest) ≡ Err e →
    IsMisfit ending all (vl ∷ nl ∷ wl ∷ bl ∷ rest) e
at-sections ending all rest v n w b vl nl wl bl e vi ni wi bi is out =
    let c = sections-cut all _ (after_inits rest) e end_line ends is in
    let g = budget-back rest in
    let i = inits-back (budget_in rest).1 in
    let last = last-lines-end ending 0 in
    let tail : rest ++ (end_line ∷ last_lines ending) ≡ g.0 ++ (i.0
    ++ ((after_inits rest ++ end_line ∷ []) ++ last_lines ending)) =
    ap (λ z. z ++ (end_line ∷ last_lines ending)) (g.1 ∙ ap (λ z. g.0 ++ z) i.1)
    ∙ regroup-last g.0 i.0 (after_inits rest) (end_line ∷ []) (last_lines ending) in
    record {
      front = vl ∷ nl ∷ wl ∷ bl ∷ rest;
      rest = [];
      lines_are = sym (append-nil (vl ∷ nl ∷ wl ∷ bl ∷ rest));
      answer = c.0;
      goes_on = (
        end_line ∷ last_lines ending,
        (
          0,
          laid v n w (b, rest) c.1.0 choices.Default,
          record { lines = []; end = 1 },
          record {
            version = vl;
            nodes = nl;
            words = wl;
            blocks = bl;
            budget = g.0;
            inits = i.0;
            programs = after_inits rest ++ end_line ∷ [];
            protocol = [];
            behind = last_lines ending;
            lines_are = ap (λ z. vl ∷ nl ∷ wl ∷ bl ∷ z) tail;
            version_is = vi;
            nodes_is = ni;
            words_is = wi;
            blocks_is = bi;
            budget_is = g.2;
            inits_are = i.2;
            programs_are = c.1.1;
            protocol_is = refl;
            behind_is = last.0;
            end_is = last.1;
          },
        ),
      );
      stops = not-laid ending all _ e out;
    }

-- ---- lines that begin alike

starts-alike : (part x y : List Line) → starts x ≡ starts y → starts (part ++ x) ≡ starts (part ++ y)
starts-alike [] x y same = same
starts-alike (l ∷ part) x y same = refl

starts-next : (taken : List Line) (next : Line) (more left : List Line) →
    starts (taken ++ next ∷ more) ≡ starts (taken ++ next ∷ left)
starts-next taken next more left = starts-alike taken (next ∷ more) (next ∷ left) refl

budget-alike : (b : Option Numbered) (x y : List Line) → starts x ≡ starts y → NoBudget b x → NoBudget b y
budget-alike None x y same n = ap (number_in Budget) (sym same) ∙ n
budget-alike (Some k) x y same n = tt

node-starts : (lines : List Line) → next_node lines ≡ node_in (starts lines)
node-starts [] = refl
node-starts (l ∷ ls) = refl

choice-alike : (version : ℕ) (c : Choice) (x y : List Line) → starts x ≡ starts y → NoChoice version c x → NoChoice version c y
choice-alike version choices.Default x y same n = ap (chooses version) (sym same) ∙ n
choice-alike version (choices.Own line body) x y same n = tt
choice-alike version (choices.Shipped line which) x y same n = tt

-- ---- the protocol, and the end

regroup-begun : (a b c d : List Line) → (a ++ (b ++ c)) ++ d ≡ a ++ (b ++ (c ++ d))
regroup-begun a b c d = append_assoc a (b ++ c) d ∙ ap (λ z. a ++ z) (append_assoc b c d)

module _ (lines rest : List Line) (l : Layout) (h : IsParted lines rest l) where
  -- all before the protocol
  begun : List Line
  begun = h.version ∷ h.nodes ∷ h.words ∷ h.blocks ∷ (h.budget ++ (h.inits ++ h.programs))

  begun-before : (other : List Line) → begun ++ other ≡ h.version ∷ h.nodes ∷ h.words ∷ h.blocks ∷
      (h.budget ++ (h.inits ++ (h.programs ++ other)))
  unfolding begun
  begun-before other = ap (λ z. h.version ∷ h.nodes ∷ h.words ∷ h.blocks ∷ z) (regroup-begun h.budget h.inits h.programs other)

  begun-all : begun ++ rest ≡ lines
  begun-all = begun-before rest ∙ sym h.lines_are

  begun-with : (ending : Ending) (c : Choice) (part : List Line) → IsChoice l.version.value c part →
      AreLayout ending (begun ++ (part ++ last_lines ending))
  begun-with ending c part k =
      let last = last-lines-end ending 0 in (
        0,
        with_choice l c,
        record { lines = []; end = 1 },
        record {
          version = h.version;
          nodes = h.nodes;
          words = h.words;
          blocks = h.blocks;
          budget = h.budget;
          inits = h.inits;
          programs = h.programs;
          protocol = part;
          behind = last_lines ending;
          lines_are = begun-before (part ++ last_lines ending);
          version_is = h.version_is;
          nodes_is = h.nodes_is;
          words_is = h.words_is;
          blocks_is = h.blocks_is;
          budget_is = h.budget_is;
          inits_are = h.inits_are;
          programs_are = h.programs_are;
          protocol_is = k;
          behind_is = last.0;
          end_is = last.1;
        },
      )

  -- other lines that begin alike go as far
  begun-other : (other : List Line) → starts other ≡ starts rest → IsParted (begun ++ other) other l
  begun-other other same =
      let first : starts (h.programs ++ rest) ≡ starts (h.programs ++ other) = starts-alike h.programs rest other (sym same) in
      record {
        version = h.version;
        nodes = h.nodes;
        words = h.words;
        blocks = h.blocks;
        budget = h.budget;
        inits = h.inits;
        programs = h.programs;
        lines_are = begun-before other;
        version_is = h.version_is;
        nodes_is = h.nodes_is;
        words_is = h.words_is;
        blocks_is = h.blocks_is;
        budget_is = h.budget_is;
        inits_are = h.inits_are;
        programs_are = h.programs_are;
        no_budget = budget-alike l.budget (h.inits ++ (h.programs ++ rest)) (h.inits ++ (h.programs ++ other))
            (starts-alike h.inits (h.programs ++ rest) (h.programs ++ other) first) h.no_budget;
        no_init = λ line. ap (init_in line) (sym first) ∙ h.no_init line;
        no_node = node-starts other ∙ ap node_in same ∙ sym (node-starts rest) ∙ h.no_node;
      }

  -- a section of a protocol that does not end
  at-choice : (ending : Ending) (all : ℕ) (e : InputError) → choice_in l.version.value all rest ≡ Err e →
      laid_out ending all lines ≡ Err e → IsMisfit ending all lines e
  at-choice ending all e is out =
      let k = choice-cut l.version.value all rest e end_line ends is in
      let same : begun ++ ((rest ++ end_line ∷ []) ++ last_lines ending) ≡ lines ++ (end_line ∷ last_lines ending) =
      ap (λ z. begun ++ z) (append_assoc rest (end_line ∷ []) (last_lines ending))
      ∙ sym (append_assoc begun rest (end_line ∷ last_lines ending))
      ∙ ap (λ z. z ++ (end_line ∷ last_lines ending)) begun-all in
      record {
        front = lines;
        rest = [];
        lines_are = sym (append-nil lines);
        answer = k.0;
        goes_on = (
          end_line ∷ last_lines ending,
          subst (AreLayout ending) same
              (begun-with ending k.1.0 (rest ++ end_line ∷ []) k.1.1),
        );
        stops = not-laid ending all lines e out;
      }

  -- a line behind the protocol, or none, where the layout does not end so
  refused-ending : (ending : Ending) (c : Choice) (part next : List Line) → starts (part ++ next) ≡ starts rest →
      IsChoice l.version.value c part → NoChoice l.version.value c next → ends_so ending next ≡ false
      → laid_out ending 0 (begun ++ (part ++ next)) ≡ Err (misfit 0 next)
  refused-ending ending c part next same k none fails =
      parted-on ending 0 (begun ++ (part ++ next)) (part ++ next) l (begun-other (part ++ next) same)
      ∙ ap (λ r. r >>= λ c. finished ending 0 l c) (choice-on l.version.value 0 part next c k none)
      ∙ ap (λ r. r >>= λ report. Ok (with_choice l c, report)) (no-ending ending 0 next fails)

  stuck-ending : (ending : Ending) (all : ℕ) (c : Choice) (part left : List Line) (e : InputError) → rest ≡ part ++ left →
      IsChoice l.version.value c part → NoChoice l.version.value c left
      → ends_so ending left ≡ false → laid_out ending all lines ≡ Err e → IsStuck ending (begun ++ part) left
  stuck-ending ending all c part [] e is k none fails out =
      let same : begun ++ part ≡ lines = ap (λ z. begun ++ z) (sym (is ∙ append-nil part)) ∙ begun-all in
      not-laid ending all (begun ++ part) e (ap (laid_out ending all) same ∙ out)
  stuck-ending ending all c part (next ∷ left) e is k none fails out = λ more m.
      let alike : starts (part ++ next ∷ more) ≡ starts rest = starts-next part next more left ∙ ap starts (sym is) in
      let none_more = choice-alike l.version.value c (next ∷ left) (next ∷ more) refl none in
      let refused = refused-ending ending c part (next ∷ more) alike k none_more (ends-alike ending next more left ∙ fails) in
      not-laid ending 0 (begun ++ (part ++ next ∷ more)) (misfit 0 (next ∷ more)) refused
      (subst (AreLayout ending) (append_assoc begun part (next ∷ more)) m)

  at-ending : (ending : Ending) (all : ℕ) (c : Choice × List Line) (e : InputError) →
      choice_in l.version.value all rest ≡ Ok c → ending_in ending all c.1 ≡ Err e → laid_out ending all lines ≡ Err e
      → IsMisfit ending all lines e
  at-ending ending all c e is f out =
      let k = choice-back l.version.value all rest c is in
      let q = ending-cut ending all c.1 e f in
      record {
        front = begun ++ k.0;
        rest = c.1;
        lines_are = sym begun-all ∙ ap (λ z. begun ++ z) k.1 ∙ sym (append_assoc begun k.0 c.1);
        answer = q.0;
        goes_on = (
          last_lines ending,
          subst (AreLayout ending) (sym (append_assoc begun k.0 (last_lines ending)))
              (begun-with ending c.0 k.0 k.2),
        );
        stops = stuck-ending ending all c.0 k.0 c.1 e k.1 k.2 k.3 q.1 out;
      }

-- ---- the whole

at-last : (ending : Ending) (all : ℕ) (lines : List Line) (v n w b : Numbered × List Line) (e : InputError) →
    field_in Version all lines ≡ Ok v → field_in Nodes all v.1 ≡ Ok n → field_in Words all n.1 ≡ Ok w →
    field_in Blocks all w.1 ≡ Ok b
    → laid_out ending all lines ≡ Err e → programs_in ending all v n w b ≡ Err e → IsMisfit ending all lines e
at-last ending all lines v n w b e ve ne we be out is =
    elim (bind-err (sections_in all (after_inits b.1)) (λ s. protocol_in ending all v n w b s) e is)
    as (λ p. IsMisfit ending all lines e) [
      | inl p ↦
          let vs = field-back Version all lines v ve in
          let ns = field-back Nodes all v.1 n ne in
          let ws = field-back Words all n.1 w we in
          let bs = field-back Blocks all w.1 b be in
          let same : lines ≡ vs.0 ∷ ns.0 ∷ ws.0 ∷ bs.0 ∷ b.1 = vs.1
          ∙ ap (λ z. vs.0 ∷ z) (ns.1 ∙ ap (λ z. ns.0 ∷ z) (ws.1 ∙ ap (λ z. ws.0 ∷ z) bs.1)) in
          subst (λ z. IsMisfit ending all z e) (sym same) (at-sections ending all b.1 v.0 n.0 w.0 b.0 vs.0 ns.0 ws.0 bs.0 e
          vs.2 ns.2 ws.2 bs.2 p (ap (laid_out ending all) (sym same) ∙ out))
      | inr p ↦
          let begun : (c : Choice) → IsParted lines p.0.1 (laid v.0 n.0 w.0 b p.0.0 c) =
          λ c. parted-back all lines v n w b p.0 c ve ne we be p.1 in
          elim (bind-err (choice_in v.0.value all p.0.1) (λ c. report_in ending all v n w b p.0 c) e p.2)
          as (λ q. IsMisfit ending all lines e) [
            | inl q ↦ at-choice lines p.0.1 (laid v.0 n.0 w.0 b p.0.0 choices.Default) (begun choices.Default) ending all e q out
            | inr q ↦ elim (bind-err (ending_in ending all q.0.1)
                (λ report. Ok (laid v.0 n.0 w.0 b p.0.0 q.0.0, report)) e q.2) as (λ r. IsMisfit ending all lines e) [
                  | inl r ↦ at-ending lines p.0.1 (laid v.0 n.0 w.0 b p.0.0 choices.Default)
                      (begun choices.Default) ending all q.0 e q.1 r out
                  | inr r ↦ absurd (cc r.2)
                ]
          ]
    ]

at-header : (ending : Ending) (all : ℕ) (lines : List Line) (e : InputError) → laid_out ending all lines ≡ Err e →
    (field_in Version all lines >>= λ v. nodes_in ending all v) ≡ Err e → IsMisfit ending all lines e
at-header ending all lines e out is = elim (bind-err (field_in Version all lines) (λ v. nodes_in ending all v) e is)
    as (λ p. IsMisfit ending all lines e) [
      | inl p ↦ at-version ending all lines e p
      | inr v ↦
          let vs = field-back Version all lines v.0 v.1 in
          elim (bind-err (field_in Nodes all v.0.1) (λ n. words_in ending all v.0 n) e v.2) as (λ p. IsMisfit ending all lines e) [
            | inl p ↦ subst (λ z. IsMisfit ending all z e) (sym vs.1) (at-nodes ending all v.0.1 v.0.0 vs.0 e vs.2 p)
            | inr n ↦
                let ns = field-back Nodes all v.0.1 n.0 n.1 in
                let two : lines ≡ vs.0 ∷ ns.0 ∷ n.0.1 = vs.1 ∙ ap (λ z. vs.0 ∷ z) ns.1 in
                elim (bind-err (field_in Words all n.0.1) (λ w. blocks_in ending all v.0 n.0 w) e n.2)
                as (λ p. IsMisfit ending all lines e) [
                  | inl p ↦ subst (λ z. IsMisfit ending all z e) (sym two)
                      (at-words ending all n.0.1 v.0.0 n.0.0 vs.0 ns.0 e vs.2 ns.2 p)
                  | inr w ↦
                      let ws = field-back Words all n.0.1 w.0 w.1 in
                      let three : lines ≡ vs.0 ∷ ns.0 ∷ ws.0 ∷ w.0.1 = two ∙ ap (λ z. vs.0 ∷ ns.0 ∷ z) ws.1 in
                      elim (bind-err (field_in Blocks all w.0.1) (λ b. programs_in ending all v.0 n.0 w.0 b) e w.2)
                      as (λ p. IsMisfit ending all lines e) [
                        | inl p ↦ subst (λ z. IsMisfit ending all z e) (sym three)
                            (at-blocks ending all w.0.1 v.0.0 n.0.0 w.0.0 vs.0 ns.0 ws.0 e vs.2 ns.2 ws.2 p)
                        | inr b ↦ at-last ending all lines v.0 n.0 w.0 b.0 e v.1 n.1 w.1 b.1 out b.2
                      ]
                ]
          ]
    ]

pub first_misfit : MisfitIsFirst
first_misfit ending all lines e is = at-header ending all lines e is (sym (in-steps ending all lines) ∙ is)

-- ---- no other line

-- the other front goes on past this one
abbrev Longer : List Line → List Line → List Line → List Line → Type 0
Longer front rest other left = (next : Line) × (between : List Line) × (other ≡ front ++ next ∷ between)
    × (rest ≡ next ∷ (between ++ left))

compared : (front rest other left : List Line) → front ++ rest ≡ other ++ left →
    (rest ≡ left) ⊎ (Longer front rest other left ⊎ Longer other left front rest)
compared [] rest [] left e = inl e
compared [] rest (o ∷ os) left e = inr (inl (o, os, refl, e))
compared (f ∷ fs) rest [] left e = inr (inr (f, fs, refl, sym e))
compared (f ∷ fs) rest (o ∷ os) left e =
    let head : f ≡ o = cc e in
    let tail : fs ++ rest ≡ os ++ left = cc e in
    elim (compared fs rest os left tail) as (λ c. (rest ≡ left)
    ⊎ (Longer (f ∷ fs) rest (o ∷ os) left ⊎ Longer (o ∷ os) left (f ∷ fs) rest)) [
      | inl d ↦ inl d
      | inr c ↦ elim c as (λ c. (rest ≡ left) ⊎ (Longer (f ∷ fs) rest (o ∷ os) left ⊎ Longer (o ∷ os) left (f ∷ fs) rest)) [
        | inl d ↦ inr (inl (d.0, d.1, λ j. sym head j ∷ d.2 j, d.3))
        | inr d ↦ inr (inr (d.0, d.1, λ j. head j ∷ d.2 j, d.3))
      ]
    ]

past : (ending : Ending) (front rest other left : List Line) → Longer front rest other left → IsStuck ending front rest →
    ¬ CanGoOn ending other
past ending front rest other left h stops g =
    let here : IsStuck ending front (h.0 ∷ (h.1 ++ left)) = subst (IsStuck ending front) h.3 stops in
    here (h.1 ++ g.0) (subst (AreLayout ending) (ap (λ z. z ++ g.0) h.2 ∙ append_assoc front (h.0 ∷ h.1) g.0) g.1)

same-misfit : (ending : Ending) (all : ℕ) (lines : List Line) (e k : InputError) → IsMisfit ending all lines e →
    IsMisfit ending all lines k → e ≡ k
same-misfit ending all lines e k h m = elim (compared h.front h.rest m.front m.rest (sym h.lines_are ∙ m.lines_are))
    as (λ c. e ≡ k) [
      | inl same ↦ h.answer ∙ ap (misfit all) same ∙ sym m.answer
      | inr c ↦ elim c as (λ c. e ≡ k) [
        | inl d ↦ absurd (past ending h.front h.rest m.front m.rest d h.stops m.goes_on)
        | inr d ↦ absurd (past ending m.front m.rest h.front h.rest d m.stops h.goes_on)
      ]
    ]

no-layout : (ending : Ending) (lines front rest : List Line) → lines ≡ front ++ rest → IsStuck ending front rest →
    ¬ AreLayout ending lines
no-layout ending lines front [] is stops h = stops (subst (AreLayout ending) (is ∙ append-nil front) h)
no-layout ending lines front (next ∷ rest) is stops h = stops rest (subst (AreLayout ending) is h)

pub one_misfit : MisfitIsOne
one_misfit ending all lines e h = go (laid_out ending all lines) refl
  where
    go : (r : Result (Layout × Body) InputError) → laid_out ending all lines ≡ r → laid_out ending all lines ≡ Err e
    go (Ok l) is =
        let both = both_ways ending all lines l.0 l.1 in
        absurd (no-layout ending lines h.front h.rest h.lines_are h.stops (all, l.0, l.1, both.0 is))
    go (Err k) is = is ∙ ap Err (same-misfit ending all lines k e (first_misfit ending all lines k is) h)
