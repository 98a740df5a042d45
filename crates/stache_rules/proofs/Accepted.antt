-- A protocol that is the shipped one, or another whose states are told, but for line numbers is accepted.
use Rattle.std.proofs.Common.{◌≡◌, ◌∙◌, ℕ, List, [], ◌∷◌, ap, map, refl, subst, sym}
use Rattle.tw_base.specs.Lists.{Each}
use Rattle.teapot_tree.specs.declared.protocol.Param.{Param}
use Rattle.teapot_tree.specs.declared.protocol.Protocol.{Protocol}
use Rattle.teapot_tree.specs.declared.protocol.State.{State}
use Rattle.teapot_tree.specs.declared.rule.Rule.{Rule}
use Rattle.teapot_tree.specs.Bare.{bare_param, bare_protocol, bare_state}
use Rattle.teapot_tree.specs.Grammar.{IsTree, OnOneLine}
use Rattle.teapot_tree.specs.Rules.{Breaks, IsAccepted}
use Rattle.teapot_rules.specs.Faults.{lines}
use Rattle.teapot_rules.specs.Lists.{In}
use Rattle.teapot_rules.proofs.Faulty.{lines-are}
use Rattle.stache_tree.specs.Tree.{stache}
use Rattle.stache_rules.specs.Laws.{StacheIsAccepted}
use Rattle.stache_rules.proofs.Doors.{Told, state_of, told, told-is}
use Rattle.stache_rules.proofs.Given.{no-params, tree-is}
use Rattle.stache_rules.proofs.Lines.{lines-zeros}
use Rattle.stache_rules.proofs.Literal.{no-lines}
use Rattle.stache_rules.proofs.Trees.{each-back, tree-as}
use Rattle.stache_rules.proofs.Unlined.{zeros}

one_line : (line : ℕ) (ps : List Param) → map bare_param ps ≡ [] → Each (λ (a : Param). a.line ≡ line) ps
one_line line [] h = tt
one_line line (a ∷ ps) h = absurd cc

no_zeros : (xs : List ℕ) → zeros xs ≡ [] → xs ≡ []
no_zeros [] h = refl
no_zeros (x ∷ xs) h = absurd cc

-- what is told is a tree and breaks no rule: so each protocol that is this one but for line numbers
pub accepted-as : (l : Protocol) (ts : List Told) → l.states ≡ map state_of ts → IsTree l → ((r : Rule) → lines l r ≡ []) →
    (p : Protocol) → bare_protocol p ≡ l → IsAccepted p
accepted-as l ts told tree none p is = record { tree = is_tree; keeps = keeps }
  where
    bare : Each (λ (s : State). s.params ≡ []) (bare_protocol p).states
    bare = subst (λ ss. Each (λ (s : State). s.params ≡ []) ss) (sym (ap (λ q. q.states) is ∙ told)) (no-params ts)

    is_tree : IsTree p
    is_tree =
        tree-as p (subst IsTree (sym is) tree) (each-back bare_state (λ (s : State). s.params ≡ []) OnOneLine
        (λ s h. one_line s.line s.params h) p.states bare)

    no_lines : (r : Rule) → lines p r ≡ []
    no_lines r = no_zeros (lines p r) (sym (lines-zeros p r) ∙ (ap (λ q. lines q r) is ∙ none r))

    keeps : (line : ℕ) (rule : Rule) → Breaks p line rule → ⊥
    keeps line rule broken = subst (λ xs. In line xs) (no_lines rule) ((lines-are p rule line).1 broken)

pub accepted : StacheIsAccepted
accepted p is = accepted-as stache told told-is tree-is no-lines p is
