use Rattle.input_numbers.proofs.Tokens.{text-small}
use Rattle.input_numbers.proofs.laws.numbers_of_texts_are_small.Goals as goal

pub returns : goal.returns
returns c = text-small
