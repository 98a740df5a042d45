use Rattle.std.proofs.Common.{◌≡◌, is_none, drop}
use Rattle.std.specs.List.{flat_map}
use Rattle.teapot_tree.specs.declared.protocol.Start.{Start}
use Rattle.teapot_tree.specs.Scopes.{state_of}
use Rattle.teapot_rules.specs.Lists.{lesser, least, line_if}
use Rattle.teapot_rules.proofs.breaks.undeclared_starts.Given as goal

abbrev pub invariant-loop-s : goal.invariant-loop-s
invariant-loop-s l = least (flat_map (λ (s : Start). line_if (is_none (state_of l.protocol s.state)) s.line) l.starts)
    ≡ lesser l.least
    (least (flat_map (λ (s : Start). line_if (is_none (state_of l.protocol s.state)) s.line) (drop l.s-index l.starts)))
