use Rattle.teapot_parse.proofs.TextLines.{lexed-are-text-lines}
use Rattle.teapot_parse.proofs.laws.texts_have_text_lines.Goals as goal

pub returns : goal.returns
returns c = lexed-are-text-lines
