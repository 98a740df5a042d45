-- The table is the meaning: a handler that ends as the table says leaves the block whole.
use Rattle.std.proofs.Common.{true, false, ◌≡◌, ℕ, zero, suc, ◌≤◌, List, Option, Some, None, arith, refl, ◌∙◌, sym, ap, subst}
use Rattle.std.proofs.Common.{length}
use Rattle.std.specs.Prelude.{is_some, slice_get}
use Rattle.tw_base.specs.declared.value.Data.{Data}
use Rattle.block_spots.specs.Cases.{State, HomeRw, HomeRo, HomeExcl, HomeAcks, HomePut, CacheInv, CacheRo, CacheRw, CacheWaitRo}
use Rattle.block_spots.specs.Cases.{CacheWaitRw, Rest, NoRest, OfHome, OfLoad, OfCache, OfRo, OfRw, Effect}
use Rattle.block_spots.specs.Views.{seen_kind, seen_message, seen_here}
use Rattle.stache_d_tree.specs.Tree.{stache_d, IsStacheD}
use Rattle.stache_table.specs.Blocks.{Block, seen, LeftFits}
use Rattle.stache_d_table.specs.Blocks.{BlockFits, CarriesIf, read, IsBlock, Shows, here_of, reads}
use Rattle.stache_d_inv.specs.Coherent.{RestFits, standing}
use Rattle.tw_base.specs.declared.message.Kind.{Kind}
use Rattle.tw_base.specs.declared.message.Message.{Message}
use Rattle.teapot_tree.specs.declared.protocol.Protocol.{Protocol}
use Rattle.teapot_meaning.specs.Bare.{bare_ended, bare_here}
use Rattle.teapot_meaning.specs.declared.state.Here.{Here as Place}
use Rattle.stache_d_table.specs.Handling.{handle_in}
use Rattle.stache_d_table.specs.Laws.{IsCome}
use Rattle.stache_d_inv.specs.Parts.{IsPlaced, wording}
use Rattle.tw_base.specs.declared.message.Kind.TheVariants as number
use Rattle.stache_d_table.specs.Blocks as table
use Rattle.block_spots.specs.Cases as cases
use Rattle.stache_d_table.proofs.Shipped.{table_is_the_meaning}
use Rattle.stache_d_table.proofs.Told.{blocks_are_read}
use Rattle.coherence_frame.proofs.Scheme.{Fits, IsComing, IsNumbered, IsShown, has_data, few_sharers, owner_below, tag_fits}
use Rattle.teapot_meaning.specs.Does.{Does}
use Rattle.teapot_meaning.specs.declared.state.Ended.{Ended}
use Rattle.stache_d_inv.proofs.Says.{says}

rest_fits : (n h : ℕ) (x : State) (r : Rest) → n ≤ 8 → RestFits n h x r → table.RestFits x r
rest_fits n h HomeAcks OfHome few f = tt
rest_fits n h HomeAcks (OfRw a) few f = omega (arith, f.0)
rest_fits n h HomePut OfHome few f = tt
rest_fits n h HomePut OfLoad few f = tt
rest_fits n h HomePut (OfRo a) few f = omega (arith, f.0)
rest_fits n h HomePut (OfRw a) few f = omega (arith, f.0)
rest_fits n h CacheWaitRo OfCache few f = tt
rest_fits n h CacheWaitRw OfCache few f = tt
rest_fits n h HomeRw NoRest few f = tt
rest_fits n h HomeRo NoRest few f = tt
rest_fits n h HomeExcl NoRest few f = tt
rest_fits n h CacheInv NoRest few f = tt
rest_fits n h CacheRo NoRest few f = tt
rest_fits n h CacheRw NoRest few f = tt
rest_fits n h x r few f = absurd (grind arith)

fits_block : (n h : ℕ) (here : Place) → n ≤ 8 → IsPlaced here → Fits standing n h (seen_here reads here) → BlockFits (read here)
fits_block n h here few p f = record {
  rest = rest_fits n h _ _ few f.rest;
  left = p.left;
  tag = f.tag
      ∙ tag_fits _;
  eight = p.eight;
}

-- ---- messages

-- the declared messages are numbers 0 to 9
pub numbers : (n : ℕ) → is_some (slice_get stache_d.messages n) ≡ true → IsNumbered stache_d n
numbers zero e = (refl, refl, refl)
numbers (suc zero) e = (refl, refl, refl)
numbers (suc (suc zero)) e = (refl, refl, refl)
numbers (suc (suc (suc zero))) e = (refl, refl, refl)
numbers (suc (suc (suc (suc zero)))) e = (refl, refl, refl)
numbers (suc (suc (suc (suc (suc zero))))) e = (refl, refl, refl)
numbers (suc (suc (suc (suc (suc (suc zero)))))) e = (refl, refl, refl)
numbers (suc (suc (suc (suc (suc (suc (suc zero))))))) e = (refl, refl, refl)
numbers (suc (suc (suc (suc (suc (suc (suc (suc zero)))))))) e = (refl, refl, refl)
numbers (suc (suc (suc (suc (suc (suc (suc (suc (suc zero))))))))) e = (refl, refl, refl)
numbers (suc (suc (suc (suc (suc (suc (suc (suc (suc (suc n)))))))))) e = absurd cc

carries_if : (n : ℕ) (o : Option Data) → is_some (slice_get stache_d.messages n) ≡ true →
    is_some o ≡ has_data (seen_kind (number.Named n)) → CarriesIf (seen_kind (number.Named n)) o
carries_if zero (Some d) known e = absurd cc
carries_if zero None known e = tt
carries_if (suc zero) (Some d) known e = absurd cc
carries_if (suc zero) None known e = tt
carries_if (suc (suc zero)) (Some d) known e = tt
carries_if (suc (suc zero)) None known e = absurd cc
carries_if (suc (suc (suc zero))) (Some d) known e = tt
carries_if (suc (suc (suc zero))) None known e = absurd cc
carries_if (suc (suc (suc (suc zero)))) (Some d) known e = tt
carries_if (suc (suc (suc (suc zero)))) None known e = absurd cc
carries_if (suc (suc (suc (suc (suc zero))))) (Some d) known e = absurd cc
carries_if (suc (suc (suc (suc (suc zero))))) None known e = tt
carries_if (suc (suc (suc (suc (suc (suc zero)))))) (Some d) known e = absurd cc
carries_if (suc (suc (suc (suc (suc (suc zero)))))) None known e = tt
carries_if (suc (suc (suc (suc (suc (suc (suc zero))))))) (Some d) known e = absurd cc
carries_if (suc (suc (suc (suc (suc (suc (suc zero))))))) None known e = tt
carries_if (suc (suc (suc (suc (suc (suc (suc (suc zero)))))))) (Some d) known e = absurd cc
carries_if (suc (suc (suc (suc (suc (suc (suc (suc zero)))))))) None known e = tt
carries_if (suc (suc (suc (suc (suc (suc (suc (suc (suc zero))))))))) (Some d) known e = tt
carries_if (suc (suc (suc (suc (suc (suc (suc (suc (suc zero))))))))) None known e = absurd cc
carries_if (suc (suc (suc (suc (suc (suc (suc (suc (suc (suc n)))))))))) o known e = absurd cc

come : (m : Message) (here : Place) → IsComing stache_d m here → IsCome m here (seen_kind m.kind)
come m here c = record { kind = c.kind; block = c.block; from = c.from; carries = go m.kind refl }
  where
    none : (o : Option Data) → is_some o ≡ false → CarriesIf cases.RdFault o × CarriesIf cases.WrFault o
    none None e = (tt, tt)
    none (Some d) e = absurd cc

    go : (k : Kind) → m.kind ≡ k → CarriesIf (seen_kind m.kind) m.payload
    go number.RdFault e = rw e (none m.payload (let z = c.carried in rw e at z)).0
    go number.WrFault e = rw e (none m.payload (let z = c.carried in rw e at z)).1
    go (number.Named n) e = rw e (carries_if n m.payload (let z = c.known in rw e at z) (let z = c.carried in rw e at z))

-- ---- a handler

-- a block that is built as one at this place is one at its own
built_there : (here : Place) (me home b : ℕ) (y : Block) → bare_here here ≡ here_of me home b y → BlockFits y → IsBlock here y
built_there here me home b y e fits = record {
  block = e ∙ ap (λ n. here_of n home b y) (sym (ap (λ h. h.me) e))
      ∙ ap (λ n. here_of here.me n b y) (sym (ap (λ h. h.home) e))
      ∙ ap (λ n. here_of here.me here.home n y) (sym (ap (λ h. h.block) e));
  fits = fits;
}

-- ---- blocks

abbrev Left : Block → Type 0
Left x = LeftFits x.state x.left

-- a block that fits the table
placed_block : (here : Place) (x : Block) → IsBlock here x → IsPlaced here
placed_block here x is = record {
  literal = is.block ∙ ap (here_of here.me here.home here.block) (sym (blocks_are_read.literal here x is));
  left = subst (λ (y : Block). Left y) (sym (blocks_are_read.literal here x is)) is.fits.left;
  eight = ap (λ (y : Block). length y.set) (blocks_are_read.literal here x is) ∙ is.fits.eight;
}

-- with other words
pub placed_words : (here : Place) (ws : List ℕ) → IsPlaced here → IsPlaced (record here { words = ws })
placed_words here ws p = record {
  literal = ap (λ (h : Place). record h { words = ws }) p.literal;
  left = p.left;
  eight = p.eight;
}

pub shown : (p : Protocol) (n : ℕ) (here : Place) (m : Message) (e : Ended) (f : Effect) → IsStacheD p → n ≤ 8 →
    IsPlaced here → Fits standing n here.home (seen_here reads here) → IsComing stache_d m here → Does p here m e
    → handle_in n here.home here.me (seen_here reads here) (seen_message m) ≡ Some f → IsShown wording here e f
shown p n here m e f is few placed fits comes does row =
    let s : Shows here.block here.me here.home (read here) (bare_ended e) (Some f) =
    subst (λ (o : Option Effect). Shows here.block here.me here.home (read here) (bare_ended e) o) row
    (table_is_the_meaning p here (read here) m (seen_kind m.kind) e n is
    (record { block = placed.literal; fits = fits_block n here.home here few placed fits }) (come m here comes) few
    (few_sharers standing says n here.home (seen_here reads here) fits)
    (owner_below standing says n here.home (seen_here reads here) fits) does) in
    let there : IsBlock e.here s.0 = built_there e.here _ _ _ s.0 s.1.here s.1.fits in
    record {
      end = s.1.end;
      placed = placed_block e.here s.0 there;
      here = ap seen (blocks_are_read.literal e.here s.0 there) ∙ sym s.1.seen;
      sends = s.1.sends;
      kept = s.1.kept;
      freed = s.1.freed;
      woke = s.1.woke;
    }
