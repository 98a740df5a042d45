use Rattle.printed_lines.proofs.entry.past_delivered.Goals as goal

pub returns : goal.returns
returns c = cc (
  c.past.ensures,
  c.kind.ensures,
  c.get.ensures.value,
  c.from.ensures,
  c.get-2.ensures.value,
  c.from-2.ensures,
  c.chan_number.ensures,
)
