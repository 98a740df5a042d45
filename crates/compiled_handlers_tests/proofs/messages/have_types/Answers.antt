use Rattle.std.proofs.Common.{◌≡◌, ◌∙◌, length, arith}
use Rattle.std.specs.Prelude.{map}
use Rattle.std.proofs.lemmas.List.{ext_get_or, length-map}
use Rattle.teapot_tree.specs.declared.protocol.ValType.TheVariants as ty
use Rattle.teapot_meaning.specs.Fits.{type_of}
use Rattle.compiled_handlers_tests.proofs.messages.have_types.Goals as goal

pub returns : goal.returns
returns c = λ _.
    let long : length (map type_of c.args.values.now) ≡ length c.args.types.now = length-map c.args.values.now type_of
    ∙ c.if-values-types.false in
    ext_get_or ty.Int _ _ long (λ k lt. c.loop-k.invariant k
    (omega (arith, lt, length-map c.args.values.now type_of, c.loop-k-test.false)))
