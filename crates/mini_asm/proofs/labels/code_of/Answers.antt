use Rattle.std.specs.BTreeMap.{get_by}
use Rattle.std.specs.Cmp.Lexicographic.{slice_cmp}
use Rattle.std.specs.Ordering.{nat_cmp}
use Rattle.mini_asm.proofs.Codes.{code_of-found, code_of-none}
use Rattle.mini_asm.proofs.labels.code_of.Goals as goal

pub returns-in-Some-look : goal.returns-in-Some-look
returns-in-Some-look c =
    code_of-found (λ name. get_by (λ k. slice_cmp nat_cmp name k.now) c.args.places.now) _ _ c.in-Code.instr _ c.in-Code.target
    c.in-Some.label c.look.result c.in-Some-look.place c.in-Code.is c.in-Some.is c.look.ensures c.in-Some-look.is
    c.jump_to.ensures

pub returns-in-None-look : goal.returns-in-None-look
returns-in-None-look c =
    code_of-none (λ name. get_by (λ k. slice_cmp nat_cmp name k.now) c.args.places.now) _ _ c.in-Code.instr c.in-Code.target
    c.in-Some.label c.look.result c.in-Code.is c.in-Some.is c.look.ensures c.in-None-look.is
