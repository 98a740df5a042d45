use Rattle.std.proofs.Common.{◌≡◌, ℕ, List, None, ap, refl, ◌∙◌}
use Rattle.std.specs.Prelude.{slice_get, unwrap_or}
use Rattle.teapot_meaning.specs.declared.state.Here.{Here}
use Rattle.dsm_runs.specs.declared.mode.Mode.TheVariants.{Running}
use Rattle.dsm_runs.specs.Setups.{first_here}
use Rattle.dsm_model.proofs.FirstSound.{first_sound}
use Rattle.dsm_model.proofs.Starting.{listed_or}
use Rattle.dsm_model.proofs.first.first.Goals as goal

pub returns-clause-same : goal.returns-clause-same
returns-clause-same c =
    let f = first_here c.args.setup.now c.args.me in
    let n = c.args.setup.now.shape.blocks in
    let blocks : (b : ℕ) → unwrap_or (slice_get c.in_ok-first_blocks.field-0 b) (f b) ≡ f b =
    λ b. ap (λ (xs : List Here). unwrap_or (slice_get xs b) (f b)) c.in_ok-first_blocks.ensures ∙ listed_or f n b in
    λ j. record {
      mode = Running;
      failed = None;
      clock = 0;
      cpu = c.new.ensures j;
      blocks = λ b. blocks b j;
      deferred = c.new-2.ensures j;
      instructions = 0;
      handled = 0;
      sent = 0;
    }

pub returns-clause-sound : goal.returns-clause-sound
returns-clause-sound c = first_sound c.args.setup.now c.args.me _ c.shape-shape.ensures.valid c.in_ok-first_blocks.ensures
    c.new-2.ensures refl
