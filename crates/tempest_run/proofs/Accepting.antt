-- What the checker answers, by the first of all breaks.
use Rattle.std.proofs.Common.{◌≡◌, ℕ, Option, Some, None, refl, ap, ◌∙◌}
use Rattle.teapot_tree.specs.declared.protocol.Protocol.{Protocol}
use Rattle.teapot_tree.specs.declared.rule.Rule.{Rule}
use Rattle.teapot_tree.specs.Grammar.{IsTree}
use Rattle.teapot_tree.specs.Rules.{IsAccepted, IsFirstBreak}
use Rattle.teapot_tree.proofs.Firsts.{one_first}
use Rattle.teapot_rules.specs.declared.fault.Fault.{Fault}
use Rattle.teapot_rules.specs.Firsts.{all_rules, fault, first_of_rules}
use Rattle.teapot_rules.proofs.Firstly.{is_first, is_accepted}

pub nothing_broken : (p : Protocol) → IsAccepted p → first_of_rules p all_rules ≡ None
nothing_broken p a = go (first_of_rules p all_rules) refl
  where
    go : (f : Option Fault) → first_of_rules p all_rules ≡ f → first_of_rules p all_rules ≡ None
    go None e = e
    go (Some f) e = absurd (a.keeps f.line f.rule (is_first p f e).broken)

fault-of : (f : Fault) (line : ℕ) (rule : Rule) → f.line ≡ line → f.rule ≡ rule → f ≡ fault line rule
fault-of f line rule h k = ap (λ l. fault l f.rule) h ∙ ap (λ r. fault line r) k

pub first_broken : (p : Protocol) (line : ℕ) (rule : Rule) → IsTree p → IsFirstBreak p line rule →
    first_of_rules p all_rules ≡ Some (fault line rule)
first_broken p line rule t b = go (first_of_rules p all_rules) refl
  where
    go : (f : Option Fault) → first_of_rules p all_rules ≡ f → first_of_rules p all_rules ≡ Some (fault line rule)
    go None e = absurd ((is_accepted p t e).keeps line rule b.broken)
    go (Some f) e =
        let s = one_first p f.line line f.rule rule (is_first p f e) b in
        e ∙ ap Some (fault-of f line rule s.0 s.1)
