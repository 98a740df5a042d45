use Rattle.std.proofs.Common.{◌≡◌, drop}
use Rattle.std.specs.List.{flat_map}
use Rattle.teapot_tree.specs.declared.protocol.Start.{Start}
use Rattle.teapot_tree.specs.Scopes.{state_of}
use Rattle.teapot_tree.specs.Rules.{is_wrong_start}
use Rattle.teapot_rules.specs.Lists.{lesser, least, line_if}
use Rattle.teapot_rules.proofs.breaks.wrong_starts.Given as goal

abbrev pub invariant-loop-s : goal.invariant-loop-s
invariant-loop-s l = least (flat_map (λ (s : Start). line_if (is_wrong_start (state_of l.protocol s.state)) s.line) l.starts)
    ≡ lesser l.least
    (least (flat_map (λ (s : Start). line_if (is_wrong_start (state_of l.protocol s.state)) s.line) (drop l.s-index l.starts)))
