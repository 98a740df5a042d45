use Rattle.std.proofs.Common.{◌≡◌, ◌∙◌, ◌<◌, length, refl, sym, ap, subst}
use Rattle.teapot_meaning.specs.Fits.{IsMessageOf}
use Rattle.compiled_handlers_tests.proofs.Parting.{run_beside}
use Rattle.compiled_handlers_tests.proofs.Standing.{still_fits, words_long}
use Rattle.compiled_handlers_tests.proofs.both.run_code.Goals as goal

pub handle-requires-clause-stands : goal.handle-requires-clause-stands
handle-requires-clause-stands c = (
  c.args.both.now.here,
  record { same_me = refl; same_home = refl; same_block = sym c.requires.block },
  c.requires.alike.fits,
  c.requires.alike.stands,
)

pub returns-clause-alike : goal.returns-clause-alike
returns-clause-alike c = λ e does.
    let both = c.args.both.now in
    let p = c.args.p.now in
    let long : length both.here.words ≡ both.blocks.shape.words =
    words_long _ _ _ _ c.requires.alike.stands c.shape-shape.ensures.whole c.requires.alike.within in
    let message : IsMessageOf p (length both.here.words) c.args.m.now =
    subst (λ n. IsMessageOf p n c.args.m.now) (sym long) c.requires.message in
    let meant =
    c.handle.ensures.meant both.here e (record { same_me = refl; same_home = refl; same_block = sym c.requires.block })
    c.requires.alike.fits c.requires.alike.stands does in
    record {
      fits = still_fits p both.here c.args.m.now e c.fitting_blocks_stay_fit.ensures c.protocol-protocol.ensures.accepted
          c.requires.alike.fits message does;
      stands = meant.stands;
      within = subst (λ n. both.here.block < n) (sym (ap (λ b. b.shape.blocks) meant.blocks)) c.requires.alike.within;
    }

pub returns-clause-beside : goal.returns-clause-beside
returns-clause-beside c = λ other there b.
    let both = c.args.both.now in
    let p = c.args.p.now in
    let m = c.args.m.now in
    let long : length both.here.words ≡ both.blocks.shape.words =
    words_long _ _ _ _ c.requires.alike.stands c.shape-shape.ensures.whole c.requires.alike.within in
    let message : IsMessageOf p (length both.here.words) m = subst (λ n. IsMessageOf p n m) (sym long) c.requires.message in
    let stays = c.fitting_blocks_stay_fit.ensures p both.here m c.protocol-protocol.ensures.accepted c.requires.alike.fits
    message in
    let meant = c.handle.ensures.meant both.here stays.meaning.end
    (record { same_me = refl; same_home = refl; same_block = sym c.requires.block }) c.requires.alike.fits
    c.requires.alike.stands stays.meaning.does in
    let within : m.block < both.blocks.shape.blocks = subst (λ n. n < both.blocks.shape.blocks)
    (sym c.requires.block) c.requires.alike.within in
    run_beside p c.args.code.now (record { cell = both.cell; blocks = both.blocks; conts = both.conts })
    (record { cell = c.handle.new.cell; blocks = c.handle.new.blocks; conts = c.handle.new.conts }) m.block _ _ other there
    c.chains_stay_apart.ensures c.shape-shape.ensures.whole within
    (stays.again.words ∙ long) meant.blocks c.requires.alike.stands.chain c.handle.ensures.others c.handle.ensures.chain b
