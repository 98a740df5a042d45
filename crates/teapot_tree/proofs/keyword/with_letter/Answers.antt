use Rattle.std.proofs.Common.{codes, [], ◌∷◌, None, ap, sym, ◌∙◌}
use Rattle.teapot_tree.specs.declared.keyword.Keyword.TheVariants.{HomeStart, Has, CacheStart, Count, Resume, ReadOnly}
use Rattle.teapot_tree.specs.declared.keyword.Keyword.TheVariants.{ReadWrite, RdFault}
use Rattle.teapot_tree.specs.Keywords.{spelled, with_letter}
use Rattle.teapot_tree.proofs.Spelled.{two_words}
use Rattle.teapot_tree.proofs.keyword.with_letter.Goals as goal

pub returns-in-72 : goal.returns-in-72
unfolding with_letter
returns-in-72 c =
    c.spelled-in-72.ensures
    ∙ two_words _ _ (codes "HomeStart") (codes "Has") HomeStart Has c.args.word.now c.as_slice-in-72.ensures
    c.as_slice-in-72-2.ensures
    ∙ ap (λ letter. spelled (with_letter letter) c.args.word.now None) (sym c.in-72.is)

pub returns-in-67 : goal.returns-in-67
unfolding with_letter
returns-in-67 c =
    c.spelled-in-67.ensures
    ∙ two_words _ _ (codes "CacheStart") (codes "Count") CacheStart Count c.args.word.now c.as_slice-in-67.ensures
    c.as_slice-in-67-2.ensures
    ∙ ap (λ letter. spelled (with_letter letter) c.args.word.now None) (sym c.in-67.is)

pub returns-in-82 : goal.returns-in-82
unfolding with_letter
returns-in-82 c =
    c.spelled-in-82.ensures
    ∙ ap (λ w. spelled ((w, Resume) ∷ (c.as_slice-in-82-2.result.now, ReadOnly) ∷ (c.as_slice-in-82-3.result.now, ReadWrite) ∷
    (c.as_slice-in-82-4.result.now, RdFault) ∷ []) c.args.word.now None) c.as_slice-in-82.ensures
    ∙ ap (λ w. spelled ((codes "Resume", Resume) ∷ (w, ReadOnly) ∷ (c.as_slice-in-82-3.result.now, ReadWrite) ∷
    (c.as_slice-in-82-4.result.now, RdFault) ∷ []) c.args.word.now None) c.as_slice-in-82-2.ensures
    ∙ ap (λ w. spelled ((codes "Resume", Resume) ∷ (codes "ReadOnly", ReadOnly) ∷ (w, ReadWrite) ∷
    (c.as_slice-in-82-4.result.now, RdFault) ∷ []) c.args.word.now None) c.as_slice-in-82-3.ensures
    ∙ ap (λ w. spelled ((codes "Resume", Resume) ∷ (codes "ReadOnly", ReadOnly) ∷ (codes "ReadWrite", ReadWrite) ∷
    (w, RdFault) ∷ []) c.args.word.now None) c.as_slice-in-82-4.ensures
    ∙ ap (λ letter. spelled (with_letter letter) c.args.word.now None) (sym c.in-82.is)
