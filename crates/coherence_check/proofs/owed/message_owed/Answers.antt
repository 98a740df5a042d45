use Rattle.std.proofs.Common.{◌≡◌, ap, sym, ◌∙◌, false, true}
use Rattle.block_spots.specs.Notes.{of_block}
use Rattle.block_spots.specs.Views.{seen_message}
use Rattle.coherence_check.specs.Owing.{owing}
use Rattle.coherence_check.proofs.Owing.{owed_none, owed_one}
use Rattle.coherence_check.proofs.owed.message_owed.Goals as goal

pub returns-then-not-is_of-clause-value : goal.returns-then-not-is_of-clause-value
returns-then-not-is_of-clause-value c =
    let e : of_block c.args.block (seen_message c.args.m.now) ≡ false = cc in
    sym (owed_none (owing c.args.inv) c.args.block (seen_message c.args.m.now) e)

pub returns-clause-value : goal.returns-clause-value
returns-clause-value c =
    let e : of_block c.args.block (seen_message c.args.m.now) ≡ true = cc in
    c.note_owed.ensures.value ∙ ap (owing c.args.inv) c.note_of.ensures
    ∙ sym (owed_one (owing c.args.inv) c.args.block (seen_message c.args.m.now) e)
