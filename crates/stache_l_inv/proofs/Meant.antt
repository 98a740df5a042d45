-- The table is the meaning: a handler that ends as the table says leaves the block whole.
use Rattle.std.proofs.Common.{◌≡◌, ℕ, ◌≤◌, List, Option, Some, arith, ◌∙◌, sym, ap, subst, length}
use Rattle.block_spots.specs.Cases.{State, HomeRw, HomeRo, HomeExcl, HomeAcks, HomePut, CacheInv, CacheRo, CacheRw, CacheWaitRo}
use Rattle.block_spots.specs.Cases.{CacheWaitRw, Rest, NoRest, OfHome, OfCache, OfRo, OfRw, Effect}
use Rattle.block_spots.specs.Views.{seen_kind, seen_message, seen_here}
use Rattle.stache_tree.specs.Tree.{stache}
use Rattle.stache_l_tree.specs.Tree.{stache_l, IsStacheL}
use Rattle.stache_table.specs.Blocks.{LeftFits, reads, seen}
use Rattle.stache_l_table.specs.Blocks.{BlockFits, read, Block, IsBlock, Shows, here_of}
use Rattle.stache_l_inv.specs.Coherent.{RestFits, standing}
use Rattle.tw_base.specs.declared.message.Message.{Message}
use Rattle.teapot_tree.specs.declared.protocol.Protocol.{Protocol}
use Rattle.teapot_meaning.specs.Bare.{bare_ended, bare_here}
use Rattle.teapot_meaning.specs.declared.state.Here.{Here as Place}
use Rattle.stache_l_table.specs.Handling.{handle_in}
use Rattle.stache_l_inv.specs.Parts.{IsPlaced, wording}
use Rattle.stache_l_table.specs.Blocks as table
use Rattle.stache_l_table.proofs.Shipped.{table_is_the_meaning}
use Rattle.stache_l_table.proofs.Told.{blocks_are_read, chosen-fits}
use Rattle.coherence_inv.proofs.Meant.{come}
use Rattle.coherence_frame.proofs.Scheme.{Fits, IsComing, IsShown, few_sharers, tag_fits}
use Rattle.stache_l_inv.proofs.Says.{says}
use Rattle.teapot_meaning.specs.Does.{Does}
use Rattle.teapot_meaning.specs.declared.state.Ended.{Ended}

rest_fits : (n h : ℕ) (x : State) (r : Rest) → n ≤ 8 → RestFits n h x r → table.RestFits x r
rest_fits n h HomeAcks OfHome few f = tt
rest_fits n h HomeAcks (OfRo a) few f = omega (arith, f.0)
rest_fits n h HomeAcks (OfRw a) few f = omega (arith, f.0)
rest_fits n h HomePut OfHome few f = tt
rest_fits n h HomePut (OfRo a) few f = omega (arith, f.0)
rest_fits n h HomePut (OfRw a) few f = omega (arith, f.0)
rest_fits n h CacheWaitRo OfCache few f = tt
rest_fits n h CacheWaitRw OfCache few f = tt
rest_fits n h HomeRw NoRest few f = tt
rest_fits n h HomeRo NoRest few f = tt
rest_fits n h HomeExcl NoRest few f = tt
rest_fits n h CacheInv NoRest few f = tt
rest_fits n h CacheRo NoRest few f = tt
rest_fits n h CacheRw NoRest few f = tt
rest_fits n h x r few f = absurd (grind arith)

fits_block : (n h : ℕ) (here : Place) → n ≤ 8 → IsPlaced here → Fits standing n h (seen_here reads here) → BlockFits (read here)
fits_block n h here few p f =
    let rest = rest_fits n h _ _ few f.rest in
    record { rest = rest; left = p.left; tag = f.tag ∙ tag_fits _; eight = p.eight; chosen = chosen-fits here p.literal rest }

-- ---- a handler

-- a block that is built as one at this place is one at its own
built_there : (here : Place) (me home b : ℕ) (y : Block) → bare_here here ≡ here_of me home b y → BlockFits y → IsBlock here y
built_there here me home b y e fits = record {
  block = e ∙ ap (λ n. here_of n home b y) (sym (ap (λ h. h.me) e))
      ∙ ap (λ n. here_of here.me n b y) (sym (ap (λ h. h.home) e))
      ∙ ap (λ n. here_of here.me here.home n y) (sym (ap (λ h. h.block) e));
  fits = fits;
}

-- ---- blocks

abbrev Left : Block → Type 0
Left x = LeftFits x.base.state x.base.left

-- a block that fits the table
placed_block : (here : Place) (x : Block) → IsBlock here x → IsPlaced here
placed_block here x is = record {
  literal = is.block ∙ ap (here_of here.me here.home here.block) (sym (blocks_are_read.literal here x is));
  left = subst (λ (y : Block). Left y) (sym (blocks_are_read.literal here x is)) is.fits.left;
  eight = ap (λ (y : Block). length y.base.set) (blocks_are_read.literal here x is) ∙ is.fits.eight;
}

-- with other words
pub placed_words : (here : Place) (ws : List ℕ) → IsPlaced here → IsPlaced (record here { words = ws })
placed_words here ws p = record {
  literal = ap (λ (h : Place). record h { words = ws }) p.literal;
  left = p.left;
  eight = p.eight;
}

-- the messages are those of Stache
as_stache : (m : Message) (here : Place) → IsComing stache_l m here → IsComing stache m here
as_stache m here c = record { known = c.known; kind = c.kind; block = c.block; from = c.from; carried = c.carried }

pub shown : (p : Protocol) (n : ℕ) (here : Place) (m : Message) (e : Ended) (f : Effect) → IsStacheL p → n ≤ 8 →
    IsPlaced here → Fits standing n here.home (seen_here reads here) → IsComing stache_l m here → Does p here m e
    → handle_in n here.home here.me (seen_here reads here) (seen_message m) ≡ Some f → IsShown wording here e f
shown p n here m e f is few placed fits comes does row =
    let s : Shows here.block here.me here.home (read here) (bare_ended e) (Some f) =
    subst (λ (o : Option Effect). Shows here.block here.me here.home (read here) (bare_ended e) o) row
    (table_is_the_meaning p here (read here) m (seen_kind m.kind) e n is
    (record { block = placed.literal; fits = fits_block n here.home here few placed fits })
    (come m here (as_stache m here comes)) few (few_sharers standing says n here.home (seen_here reads here) fits) does) in
    let there : IsBlock e.here s.0 = built_there e.here _ _ _ s.0 s.1.here s.1.fits in
    record {
      end = s.1.end;
      placed = placed_block e.here s.0 there;
      here = ap (λ (y : Block). seen y.base) (blocks_are_read.literal e.here s.0 there) ∙ sym s.1.seen;
      sends = s.1.sends;
      kept = s.1.kept;
      freed = s.1.freed;
      woke = s.1.woke;
    }
