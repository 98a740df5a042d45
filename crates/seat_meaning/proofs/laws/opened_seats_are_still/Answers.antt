use Rattle.seat_meaning.proofs.Opening.{opened_still}
use Rattle.seat_meaning.proofs.laws.opened_seats_are_still.Goals as goal

pub returns : goal.returns
returns c = opened_still
