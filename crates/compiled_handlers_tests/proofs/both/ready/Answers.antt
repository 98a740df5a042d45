use Rattle.std.proofs.Common.{ap}
use Rattle.cont_store.specs.Store.{record_at}
use Rattle.compiled_handlers_tests.proofs.Chaining.{same_chain}
use Rattle.compiled_handlers_tests.proofs.Parting.{room_beside}
use Rattle.compiled_handlers_tests.proofs.Standing.{stands_again}
use Rattle.compiled_handlers_tests.proofs.both.ready.Goals as goal

pub returns-clause-alike : goal.returns-clause-alike
returns-clause-alike c = λ p code a.
    let same = same_chain _ _ _ _ (λ k. ap (λ s. record_at s k) c.reserve.ensures.records) a.stands.chain in
    record {
      fits = a.fits;
      stands = stands_again _ _ _ _ _ a.stands same.0 same.1;
      within = a.within;
    }

pub returns-clause-beside : goal.returns-clause-beside
returns-clause-beside c = λ p code block other there b. room_beside p code _ other _ _ _ block there
    (λ k. ap (λ s. record_at s k) c.reserve.ensures.records) b
