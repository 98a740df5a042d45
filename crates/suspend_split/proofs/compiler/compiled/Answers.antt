use Rattle.std.proofs.Common.{◌∙◌, ap}
use Rattle.teapot_tree.specs.declared.protocol.Protocol.{Protocol}
use Rattle.suspend_split.proofs.Complete.{complete_if, from_none}
use Rattle.suspend_split.proofs.compiler.compiled.Goals as goal

pub returns : goal.returns
returns c =
    let p = c.args.p.now in
    let states = c.items.ensures ∙ ap (λ (q : Protocol). q.states) c.protocol.ensures.value in
    let all =
    from_none p c.in_ok-words.words.protocol.now c.add_states.new.code c.new-2.result c.new-3.result c.new-4.result
    c.items.result.now
    c.in_ok-add_states.ensures c.in_ok-words.ensures c.new-2.ensures c.new-3.ensures c.new-4.ensures states
    in
    complete_if p c.add_states.new.code c.with_live.result all c.with_live.ensures
