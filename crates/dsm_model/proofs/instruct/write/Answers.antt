use Rattle.std.proofs.Common.{◌≡◌, ◌<◌, List, Some, length, refl, ◌∙◌, ap, arith}
use Rattle.std.specs.Prelude.{slice_get}
use Rattle.std.proofs.lemmas.Option.{slice_get_read}
use Rattle.teapot_meaning.specs.declared.state.Here.{Here}
use Rattle.dsm_model.proofs.Completing.{write_is}
use Rattle.dsm_model.proofs.instruct.write.Goals as goal

pub returns : goal.returns
returns c =
    let l = c.args.l.now in
    let ys : List Here = c.into_vec-blocks.result.items in
    let here : Here = c.index_mut-here.result.now in
    let same : ys ≡ l.blocks = c.into_vec-blocks.ensures ∙ c.replace.ensures.value in
    let at : c.from.result ≡ c.args.block = c.from.ensures ∙ c.get.ensures.value in
    let within : c.from.result < length ys = omega (arith, at, ap length same, c.requires) in
    let read : slice_get ys c.from.result ≡ Some here = slice_get_read ys
    (length ys) c.from.result here refl within c.index_mut-here.ensures.value in
    let both = write_is l.blocks ys c.of.result c.args.block c.from.result here c.with_word-here.result c.args.offset
    c.args.value same at read c.with_word-here.ensures c.of.ensures in
    (here, both.0, ap (λ (bs : List Here). record l { blocks = bs }) both.1)
