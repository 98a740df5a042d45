use Rattle.std.proofs.Common.{◌≡◌, ◌∙◌, ◌≤◌, length, sym, arith}
use Rattle.std.proofs.lemmas.Bool.{leb-true}
use Rattle.teapot_meaning.proofs.Served.{defaults_from, defaults_have, have_defaults}
use Rattle.teapot_interpreter.proofs.interpreter.is_served.Goals as goal
use Rattle.teapot_interpreter.proofs.interpreter.is_served.Goals.{then-len-le64, else-len-le64}

pub returns-then-len-le64-2 : goal.returns-then-len-le64-2
returns-then-len-le64-2 c =
    let few : (length c.args.p.now.messages ≤ 64) × (length c.args.p.now.states ≤ 64) =
    elim c.if-len-le64.branch as (λ b. (length c.args.p.now.messages ≤ 64) × (length c.args.p.now.states ≤ 64)) [
      | then-len-le64 w ↦ (
        omega (arith, w.if-len-le64.true, c.len.ensures),
        omega (
          arith,
          leb-true w.len-then-len-le64.result 64 (sym w.value-is ∙ c.if-len-le64-2.true),
          w.len-then-len-le64.ensures,
        ),
      )
      | else-len-le64 w ↦ absurd
          (omega (arith, w.if-len-le64.false, leb-true c.len.result 64 (sym w.value-is ∙ c.if-len-le64-2.true)))
    ] in
    let all : c.have_defaults.result ≡ have_defaults c.args.p.now.states = rw c.items.ensures at c.have_defaults.ensures in (
      λ e. record { few_messages = few.0; few_states = few.1; defaults = defaults_from c.args.p.now.states (sym all ∙ e) },
      λ s. all ∙ defaults_have c.args.p.now.states s.defaults,
    )
