use Rattle.std.proofs.Common.{sym}
use Rattle.compiled_handlers_tests.proofs.Standing.{no_records, plain_fits, plain_stands}
use Rattle.compiled_handlers_tests.proofs.both.first_here.Goals as goal

pub returns-clause-fits : goal.returns-clause-fits
returns-clause-fits c = record {
  state = plain_fits _ _ _ _ c.requires.plain c.new-3.ensures;
  infos = c.in_ok-infos.ensures.types;
}

pub returns-clause-stands : goal.returns-clause-stands
returns-clause-stands c = λ absent code conts. record {
  tag = sym c.tag.ensures.value;
  words = sym c.words.ensures.value;
  chain = no_records _ _ _ absent;
  cell = record {
    infos = sym c.in_ok-infos.ensures.value;
    state = plain_stands c.args.p.now code conts c.args.cell.now _ c.requires.plain c.new-3.ensures absent;
  };
}
