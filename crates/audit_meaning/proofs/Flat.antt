-- A report that is accepted tells of one flat memory.
use Rattle.std.proofs.Common.{◌≡◌, ℕ, if◌then◌else◌, Bool, true, false, List, map, Option, Some, None, Ok, refl, ap, ◌∙◌}
use Rattle.report_reader.specs.declared.error.AuditRule.{AuditRule}
use Rattle.report_reader.specs.declared.error.AuditRule.TheVariants.{WrongPrint, WrongWord, WrongRegister, WrongNode}
use Rattle.report_reader.specs.declared.error.AuditRule.TheVariants.{WrongHistory}
use Rattle.report_reader.specs.declared.lines.Printed.{Printed}
use Rattle.printed_lines.specs.Saying.{says}
use Rattle.printed_lines.specs.Tokens.{whats}
use Rattle.report_audit.specs.declared.due.Due.{Due}
use Rattle.report_audit.specs.Audits.{agreement, audited, from_nodes, from_registers, from_words, pass, wrong_history}
use Rattle.report_audit.specs.Audits.{wrong_print, wrong_register, wrong_word}
use Rattle.report_audit.specs.Executing.{begun, executed}
use Rattle.report_audit.specs.Lines.{all_registers_due, due_tokens, words_due}
use Rattle.report_audit.specs.Nodes.{wrong_node}
use Rattle.audit_meaning.specs.Laws.{AcceptedReportsAreFlat}
use Rattle.audit_meaning.proofs.Executed.{all-done, bound}
use Rattle.audit_meaning.proofs.Said.{due-said, nodes-right, says-is}

passed : (rule : AuditRule) (o : Option ℕ) (u : Unit {0}) → pass rule o ≡ Ok u → o ≡ None
passed rule None u e = refl
passed rule (Some line) u e = absurd (cc e)

agrees : (p : Printed) → wrong_history p ≡ None → whats p.history.tokens ≡ agreement
agrees p e = go (says agreement (whats p.history.tokens)) refl e
  where
    go : (b : Bool) → says agreement (whats p.history.tokens) ≡ b → (if b then None else Some p.history.line) ≡ None →
        whats p.history.tokens ≡ agreement
    go true is f = says-is agreement (whats p.history.tokens) is
    go false is f = absurd (cc f)

pub reports-flat : AcceptedReportsAreFlat
unfolding audited
reports-flat s p a e =
    let x = bound (executed s.protocol (begun s) p.events) _ a e in
    let prints = bound (pass WrongPrint (wrong_print x.value p)) _ a x.gives in
    let words = bound (pass WrongWord (wrong_word x.value p)) _ a prints.gives in
    let registers = bound (pass WrongRegister (wrong_register s x.value p)) _ a words.gives in
    let nodes = bound (pass WrongNode (wrong_node p.events x.value.flat p.nodes)) _ a registers.gives in
    let history = bound (pass WrongHistory (wrong_history p)) _ a nodes.gives in
    let all = all-done s.protocol (begun s) x.value p.events x.is in
    record {
      done = all.done;
      flat = x.value.flat;
      executes = all.executes;
      told = all.tells;
      prints =
          due-said x.value.prints p.prints (from_words p) (passed WrongPrint (wrong_print x.value p) prints.value prints.is)
          ∙ ap (λ (ds : List Due). map due_tokens ds) all.prints;
      words = due-said (words_due x.value.flat) p.words (from_registers p)
          (passed WrongWord (wrong_word x.value p) words.value words.is);
      registers = due-said (all_registers_due s.shape.nodes x.value.flat) p.registers (from_nodes p)
          (passed WrongRegister (wrong_register s x.value p) registers.value registers.is);
      nodes = nodes-right p.events x.value.flat p.nodes (passed WrongNode
          (wrong_node p.events x.value.flat p.nodes) nodes.value nodes.is);
      history = agrees p (passed WrongHistory (wrong_history p) history.value history.is);
    }
