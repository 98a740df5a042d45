-- The types on the stack, op by op.
use Rattle.std.proofs.Common.{◌≡◌, ℕ, ◌+◌, ◌-◌, ◌≤◌, true, false, not, List, Option, Some, MatchOption, ap, sym, subst, ◌∙◌}
use Rattle.handler_code.specs.declared.code.Code.{Code}
use Rattle.handler_code.specs.declared.code.OpCode.{OpCode}
use Rattle.teapot_tree.specs.declared.protocol.Protocol.{Protocol}
use Rattle.teapot_tree.specs.declared.protocol.ValType.{ValType}
use Rattle.code_walks.specs.Kinds.{is_mistyped, is_typed, types_after, types_before}
use Rattle.code_walks.specs.Parts.{op_at}
use Rattle.code_walks.proofs.Walking.{types_more}

pub types_next : (p : Protocol) (code : Code) (slots : List ValType) (from at : ℕ) (d r : List ValType) (o : OpCode) →
    from ≤ at → o ≡ op_at code at → d ≡ types_before p code slots from (at - from) → r ≡ types_after p slots o d →
    r ≡ types_before p code slots from ((at + 1) - from)
types_next p code slots from at d r o le e f g =
    g ∙ ap (λ z. types_after p slots z d) e ∙ ap (λ z. types_after p slots (op_at code at) z) f
    ∙ sym (types_more p code slots from at le)

mistyped-is : (p : Protocol) (code : Code) (slots : List ValType) (from at : ℕ) (d : List ValType) (o : OpCode) →
    o ≡ op_at code at → d ≡ types_before p code slots from (at - from) →
    is_mistyped p code slots from at ≡ not (is_typed p slots o d)
mistyped-is p code slots from at d o e f =
    ap (λ z. not (is_typed p slots z (types_before p code slots from (at - from)))) (sym e)
    ∙ ap (λ z. not (is_typed p slots o z)) (sym f)

pub typed_here : (p : Protocol) (code : Code) (slots : List ValType) (from at : ℕ) (d : List ValType) (o : OpCode) →
    o ≡ op_at code at → d ≡ types_before p code slots from (at - from) → is_typed p slots o d ≡ true →
    is_mistyped p code slots from at ≡ true → ⊥
typed_here p code slots from at d o e f t m =
    let h = ap not t in
    let q : not true ≡ true = sym h ∙ sym (mistyped-is p code slots from at d o e f) ∙ m in
    cc

pub typed_next : (p : Protocol) (slots : List ValType) (o : OpCode) (stack next : List ValType) (s : Option (List ValType)) →
    s ≡ Some next → MatchOption s (is_typed p slots o stack ≡ false)
    (λ n. (is_typed p slots o stack ≡ true) × (n ≡ types_after p slots o stack)) →
    (is_typed p slots o stack ≡ true) × (next ≡ types_after p slots o stack)
typed_next p slots o stack next s e m =
    subst (λ z. MatchOption z (is_typed p slots o stack ≡ false)
    (λ n. (is_typed p slots o stack ≡ true) × (n ≡ types_after p slots o stack))) e m
