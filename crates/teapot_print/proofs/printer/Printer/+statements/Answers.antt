use Rattle.std.proofs.Common.{refl, ap, ◌∙◌}
use Rattle.teapot_tree.specs.declared.stmt.Do.TheOpen.{Do-F}
use Rattle.teapot_tree.specs.declared.stmt.Do.TheVariants as d
use Rattle.teapot_tree.specs.Bodies.{assign, send, send_all, set_tag, set_state, suspend, resume, install, enqueue, wake_up}
use Rattle.teapot_tree.specs.Bodies.{error}
use Rattle.teapot_lines.specs.declared.form.Form.TheVariants as f
use Rattle.teapot_lines.specs.declared.form.Reach.TheVariants as r
use Rattle.teapot_print.specs.Printing.{put_line, put_lines}
use Rattle.teapot_print.proofs.Puts.{on_ok, block-put, simple-put, if-put, loop-put, else-put, each-put, block_lines}
use Rattle.teapot_print.proofs.printer.Printer.+statements.Goals as goal

pub statement-returns-in-Assign : goal.statement-returns-in-Assign
statement-returns-in-Assign t c =
    on_ok c.assign_line.result (λ e. simple-put c.args.stmt.now (Do-F.Assign c.in-Assign.name c.in-Assign.value)
    (d.Assign c.in-Assign.name c.in-Assign.value) (assign c.in-Assign.name c.in-Assign.value) c.args.self.now
    c.assign_line.new.self c.in-Assign.is (d.rolls-Assign c.in-Assign.name c.in-Assign.value) (λ b. refl) e)
    c.assign_line.ensures

pub statement-returns-in-Send : goal.statement-returns-in-Send
statement-returns-in-Send t c =
    on_ok c.send_line.result (λ e. simple-put c.args.stmt.now (Do-F.Send c.in-Send.to c.in-Send.name c.in-Send.args)
    (d.Send c.in-Send.to c.in-Send.name c.in-Send.args) (send c.in-Send.to c.in-Send.name c.in-Send.args) c.args.self.now
    c.send_line.new.self c.in-Send.is (d.rolls-Send c.in-Send.to c.in-Send.name c.in-Send.args) (λ b. refl)
    (e ∙ ap (λ xs. put_line c.args.self.now (f.Send r.One c.in-Send.to c.in-Send.name xs)) c.items-in-Send.ensures))
    c.send_line.ensures

pub statement-returns-in-SendAll : goal.statement-returns-in-SendAll
statement-returns-in-SendAll t c =
    on_ok c.send_line-in-SendAll.result (λ e. simple-put c.args.stmt.now
    (Do-F.SendAll c.in-SendAll.to c.in-SendAll.name c.in-SendAll.args)
    (d.SendAll c.in-SendAll.to c.in-SendAll.name c.in-SendAll.args)
    (send_all c.in-SendAll.to c.in-SendAll.name c.in-SendAll.args) c.args.self.now c.send_line-in-SendAll.new.self
    c.in-SendAll.is (d.rolls-SendAll c.in-SendAll.to c.in-SendAll.name c.in-SendAll.args) (λ b. refl)
    (e ∙ ap (λ xs. put_line c.args.self.now (f.Send r.All c.in-SendAll.to c.in-SendAll.name xs))
    c.items-in-SendAll.ensures)) c.send_line-in-SendAll.ensures

pub statement-returns-in-SetTag : goal.statement-returns-in-SetTag
statement-returns-in-SetTag t c =
    on_ok c.set_tag_line.result (λ e. simple-put c.args.stmt.now (Do-F.SetTag c.in-SetTag.tag) (d.SetTag c.in-SetTag.tag)
    (set_tag c.in-SetTag.tag) c.args.self.now c.set_tag_line.new.self c.in-SetTag.is (d.rolls-SetTag c.in-SetTag.tag)
    (λ b. refl) e) c.set_tag_line.ensures

pub statement-returns-in-SetState : goal.statement-returns-in-SetState
statement-returns-in-SetState t c =
    on_ok c.set_state_line.result (λ e. simple-put c.args.stmt.now (Do-F.SetState c.in-SetState.name c.in-SetState.args)
    (d.SetState c.in-SetState.name c.in-SetState.args) (set_state c.in-SetState.name c.in-SetState.args) c.args.self.now
    c.set_state_line.new.self c.in-SetState.is (d.rolls-SetState c.in-SetState.name c.in-SetState.args) (λ b. refl)
    (e ∙ ap (λ xs. put_line c.args.self.now (f.SetState c.in-SetState.name xs)) c.items-in-SetState.ensures))
    c.set_state_line.ensures

pub statement-returns-in-Suspend : goal.statement-returns-in-Suspend
statement-returns-in-Suspend t c =
    on_ok c.suspend_line.result (λ e. simple-put c.args.stmt.now
    (Do-F.Suspend c.in-Suspend.label c.in-Suspend.name c.in-Suspend.args c.in-Suspend.passed)
    (d.Suspend c.in-Suspend.label c.in-Suspend.name c.in-Suspend.args c.in-Suspend.passed)
    (suspend c.in-Suspend.label c.in-Suspend.name c.in-Suspend.args c.in-Suspend.passed) c.args.self.now
    c.suspend_line.new.self c.in-Suspend.is (d.rolls-Suspend c.in-Suspend.label c.in-Suspend.name c.in-Suspend.args
    c.in-Suspend.passed) (λ b. refl)
    (e ∙ ap (λ xs. put_line c.args.self.now (f.Suspend c.in-Suspend.label c.in-Suspend.name xs c.in-Suspend.passed))
    c.items-in-Suspend.ensures)) c.suspend_line.ensures

pub statement-returns-in-Resume : goal.statement-returns-in-Resume
statement-returns-in-Resume t c =
    on_ok c.resume_line.result (λ e. simple-put c.args.stmt.now (Do-F.Resume c.in-Resume.name) (d.Resume c.in-Resume.name)
    (resume c.in-Resume.name) c.args.self.now c.resume_line.new.self c.in-Resume.is (d.rolls-Resume c.in-Resume.name)
    (λ b. refl) e) c.resume_line.ensures

pub statement-returns-in-Install : goal.statement-returns-in-Install
statement-returns-in-Install t c =
    on_ok c.word_line-in-Install.result (λ e. simple-put c.args.stmt.now Do-F.Install d.Install install c.args.self.now
    c.word_line-in-Install.new.self c.in-Install.is d.rolls-Install (λ b. refl) e) c.word_line-in-Install.ensures

pub statement-returns-in-Enqueue : goal.statement-returns-in-Enqueue
statement-returns-in-Enqueue t c =
    on_ok c.word_line-in-Enqueue.result (λ e. simple-put c.args.stmt.now Do-F.Enqueue d.Enqueue enqueue c.args.self.now
    c.word_line-in-Enqueue.new.self c.in-Enqueue.is d.rolls-Enqueue (λ b. refl) e) c.word_line-in-Enqueue.ensures

pub statement-returns-in-WakeUp : goal.statement-returns-in-WakeUp
statement-returns-in-WakeUp t c =
    on_ok c.word_line-in-WakeUp.result (λ e. simple-put c.args.stmt.now Do-F.WakeUp d.WakeUp wake_up c.args.self.now
    c.word_line-in-WakeUp.new.self c.in-WakeUp.is d.rolls-WakeUp (λ b. refl) e) c.word_line-in-WakeUp.ensures

pub statement-returns-in-Error : goal.statement-returns-in-Error
statement-returns-in-Error t c =
    on_ok c.error_line.result (λ e. simple-put c.args.stmt.now (Do-F.Error c.in-Error.name) (d.Error c.in-Error.name)
    (error c.in-Error.name) c.args.self.now c.error_line.new.self c.in-Error.is (d.rolls-Error c.in-Error.name)
    (λ b. refl) e) c.error_line.ensures

pub block-returns : goal.block-returns
block-returns t c =
    on_ok c.end_line.result (λ e. block-put c.args.stmts.now c.args.self.now c.begin_line.new.self c.statements.new.self
    c.end_line.new.self c.in_ok-begin_line.ensures c.in_ok-statements.ensures e) c.end_line.ensures

pub statement-returns-in-None : goal.statement-returns-in-None
statement-returns-in-None t c = λ b.
    if-put c.args.stmt.now c.in-If.test c.in-If.first c.args.self.now c.if_line.new.self c.block.new.self
    (c.in-If.is ∙ ap (d.If c.in-If.test c.in-If.first) c.in-None.is) c.in_ok-if_line-in-If.ensures
    (c.in_ok-block-in-If.ensures ∙ ap (λ ss. put_lines c.if_line.new.self (block_lines ss)) c.items.ensures) b

pub statement-returns-in_ok-word_line-in-Some : goal.statement-returns-in_ok-word_line-in-Some
statement-returns-in_ok-word_line-in-Some t c =
    on_ok c.block-in-Some.result (λ e.
    else-put c.args.stmt.now c.in-If.test c.in-If.first c.in-Some.second c.args.self.now c.if_line.new.self c.block.new.self
    c.word_line.new.self c.block-in-Some.new.self
    (c.in-If.is ∙ ap (d.If c.in-If.test c.in-If.first) c.in-Some.is) c.in_ok-if_line-in-If.ensures
    (c.in_ok-block-in-If.ensures ∙ ap (λ ss. put_lines c.if_line.new.self (block_lines ss)) c.items.ensures)
    c.in_ok-word_line-in-Some.ensures
    (e ∙ ap (λ ss. put_lines c.word_line.new.self (block_lines ss)) c.items-in-Some.ensures)) c.block-in-Some.ensures

pub statement-returns-in_ok-for_each_line-in-ForEach : goal.statement-returns-in_ok-for_each_line-in-ForEach
statement-returns-in_ok-for_each_line-in-ForEach t c =
    on_ok c.block-in-ForEach.result (λ e.
    loop-put c.args.stmt.now c.in-ForEach.name c.in-ForEach.set c.in-ForEach.body c.args.self.now c.for_each_line.new.self
    c.block-in-ForEach.new.self c.in-ForEach.is c.in_ok-for_each_line-in-ForEach.ensures
    (e ∙ ap (λ ss. put_lines c.for_each_line.new.self (block_lines ss)) c.items-in-ForEach.ensures)) c.block-in-ForEach.ensures

pub statement-returns-in-Each : goal.statement-returns-in-Each
statement-returns-in-Each t c = λ b. each-put c.args.stmt.now c.in-Each.field-0 c.in-Each.field-1 c.in-Each.field-2
    c.args.self.now c.in-Each.is b
