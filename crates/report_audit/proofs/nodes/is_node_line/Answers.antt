use Rattle.std.proofs.Common.{◌≡◌, Bool, true, false, ◌||◌, sym, ◌∙◌}
use Rattle.report_audit.proofs.nodes.is_node_line.Goals as goal
use Rattle.report_audit.proofs.nodes.is_node_line.Goals.{then-says_mode, else-says_mode}

third : (a b c x : Bool) → a ≡ false → b ≡ false → x ≡ c → x ≡ (a || b || c)
third true b c x p q e = absurd cc
third false true c x p q e = absurd cc
third false false c x p q e = e

pub returns-else-says_so : goal.returns-else-says_so
returns-else-says_so c =
    elim c.if-says_mode.branch [
      | then-says_mode w ↦ absurd (cc (w.value-is, c.if-says_so.false))
      | else-says_mode w ↦
          third _ _ _ _ (sym c.says_mode.ensures ∙ w.if-says_mode.false)
          (sym w.says_so.ensures ∙ sym w.value-is ∙ c.if-says_so.false) c.says_failed.ensures
    ]
