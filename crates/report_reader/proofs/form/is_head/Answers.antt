use Rattle.report_reader.proofs.form.is_head.Goals as goal

pub returns : goal.returns
returns c = cc (
  c.fits.ensures,
  c.from.ensures,
  c.from-2.ensures,
  c.from-3.ensures,
  c.from-4.ensures,
  c.from-5.ensures,
  c.nodes.ensures.value,
  c.words.ensures.value,
  c.blocks-2.ensures.value,
  c.budget.ensures.value,
)
