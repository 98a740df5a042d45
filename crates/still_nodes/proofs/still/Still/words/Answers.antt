use Rattle.std.proofs.Common.{subst}
use Rattle.std.proofs.lemmas.Result.{IfOk-weaker}
use Rattle.still_meaning.specs.Stills.{StillShown}
use Rattle.still_nodes.specs.Telling.{Tells}
use Rattle.still_nodes.proofs.Wording.{few_words, words_kept}
use Rattle.still_nodes.proofs.still.Still.words.Goals as goal

pub of-requires : goal.of-requires
of-requires c = few_words _ c.self.invariant _ _ c.deref.ensures.value c.in_ok-words.ensures

pub returns : goal.returns
returns c = IfOk-weaker c.of.result _ _
    (λ words is. subst (λ (s : StillShown). Tells s words) c.self.view_is
    (words_kept _ c.self.invariant _ _ words c.deref.ensures.value c.in_ok-words.ensures is))
    c.of.ensures
