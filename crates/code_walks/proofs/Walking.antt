-- One op more.
use Rattle.std.proofs.Common.{◌≡◌, ℕ, suc, ◌+◌, ◌-◌, ◌≤◌, ◌++◌, List, ap, ◌∙◌, refl, arith}
use Rattle.handler_code.specs.declared.code.Code.{Code}
use Rattle.teapot_tree.specs.declared.protocol.Protocol.{Protocol}
use Rattle.teapot_tree.specs.declared.protocol.ValType.{ValType}
use Rattle.code_walks.specs.Jumps.{loop_at, loops_from}
use Rattle.code_walks.specs.Kinds.{types_after, types_before}
use Rattle.code_walks.specs.Parts.{op_at}
use Rattle.code_walks.specs.Stacks.{depth_after, depth_at}

-- so many ops from a place on, where the last of them stands at another place
abbrev Steps : {X : Type 0} → (ℕ → X) → (X → ℕ → X) → ℕ → Type 0
Steps f step from = (n : ℕ) → f (suc n) ≡ step (f n) (from + n)

at_next : {X : Type 0} (f : ℕ → X) (step : X → ℕ → X) (from at : ℕ) → Steps f step from → from ≤ at →
    f ((at + 1) - from) ≡ step (f (at - from)) at
at_next f step from at h le =
    let e : (at + 1) - from ≡ suc (at - from) = omega arith in
    let d : from + (at - from) ≡ at = omega arith in
    ap f e ∙ (h (at - from) ∙ ap (step (f (at - from))) d)

at_first : {X : Type 0} (f : ℕ → X) (from : ℕ) → f (from - from) ≡ f 0
at_first f from = let e : from - from ≡ 0 = omega arith in ap f e

pub loops_more : (code : Code) (from at : ℕ) → from ≤ at → loops_from code from ((at + 1) - from)
    ≡ loops_from code from (at - from) ++ loop_at at (op_at code at)
loops_more code from at le = at_next (loops_from code from) (λ ls k. ls ++ loop_at k (op_at code k)) from at (λ n. refl) le

pub depth_more : (p : Protocol) (code : Code) (from at : ℕ) → from ≤ at →
    depth_at p code from ((at + 1) - from) ≡ depth_after p (op_at code at) (depth_at p code from (at - from))
depth_more p code from at le = at_next (depth_at p code from) (λ d k. depth_after p (op_at code k) d) from at (λ n. refl) le

pub types_more : (p : Protocol) (code : Code) (slots : List ValType) (from at : ℕ) → from ≤ at →
    types_before p code slots from ((at + 1) - from) ≡ types_after p slots (op_at code at)
    (types_before p code slots from (at - from))
types_more p code slots from at le = at_next (types_before p code slots from)
    (λ s k. types_after p slots (op_at code k) s) from at (λ n. refl) le

pub depth_none : (p : Protocol) (code : Code) (from : ℕ) → depth_at p code from (from - from) ≡ 0
depth_none p code from = at_first (depth_at p code from) from
