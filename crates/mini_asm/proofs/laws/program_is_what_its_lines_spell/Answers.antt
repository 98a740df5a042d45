use Rattle.mini_asm.proofs.Spelled.{program-spelled, place_of-stands}
use Rattle.mini_asm.proofs.laws.program_is_what_its_lines_spell.Goals as goal

pub returns-clause-lines : goal.returns-clause-lines
returns-clause-lines c = program-spelled

pub returns-clause-places : goal.returns-clause-places
returns-clause-places c = place_of-stands
