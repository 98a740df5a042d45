-- A quiet run under a shipped protocol is explained by one memory, and its words are told.
use Rattle.std.proofs.Common.{◌≡◌, ℕ, ◌<◌, true, false, List, ap}
use Rattle.std.specs.Prelude.{slice_index}
use Rattle.std.specs.Option.{option_map}
use Rattle.tw_base.specs.declared.entry.Entry.{Entry}
use Rattle.mini_asm.specs.Run.{Machine}
use Rattle.block_tags.specs.Copies.{permits}
use Rattle.dsm_runs.specs.Events.{tag_here, word_here}
use Rattle.dsm_runs.specs.Flat.{Follows, IsBeside, flat_start}
use Rattle.dsm_runs.specs.Setups.{IsSetup, Setup, block_of, size_of}
use Rattle.dsm_runs.specs.Worlds.{IsQuiet, Runs, World, start}
use Rattle.journal.specs.Unbroken.{MayRead}
use Rattle.journal.proofs.Following.{followed_journals_have_no_break}
use Rattle.journal.proofs.Told.{read_words_are_told}
use Rattle.coherence_frame.specs.Laws.{Explained, HasReader, NoneInFlight}
use Rattle.coherence_frame.specs.Parts.{IsTreeOf}
use Rattle.coherence_frame.proofs.Done.{quiet_runs_are_done}
use Rattle.coherence_frame.proofs.Keeping.{runs_are_explained}
use Rattle.coherence_frame.proofs.Readers.{blocks_have_readers, copies_are_current}
use Rattle.coherence_frame.proofs.Scheme.{Scheme}
use Rattle.coherence_frame.proofs.StepsSeen.{block_within}
use Rattle.coherence_inv.proofs.Scheme.{scheme as of_stache}
use Rattle.stache_d_inv.proofs.Scheme.{scheme as of_stache_d}
use Rattle.stache_l_inv.proofs.Scheme.{scheme as of_stache_l}
use Rattle.sound_runs.specs.Shipped.{IsShipped, as_stache, as_stache_d, as_stache_l}
use Rattle.tempest_run.specs.OneMemory.{OneMemory}

-- ---- whatever the protocol

-- The flat machine follows the journal and stands beside the nodes; each address has a node that may read it, and all who may
-- read the machine's word.
pub record IsExplained (s : Setup) (j : List Entry) (g : World) : Type 0 where
  pub flat : Machine
  pub follows : Follows (flat_start s) j flat
  pub beside : IsBeside s g flat
  pub readers : (address : ℕ) → address < size_of s → MayRead s g address
  pub current : (i address : ℕ) → i < s.shape.nodes → address < size_of s →
      permits (tag_here s (g.locals i).blocks address) false ≡ true
      → word_here s (g.locals i).blocks address ≡ slice_index flat.words address

memory_of : (s : Setup) (j : List Entry) (g : World) → IsExplained s j g → OneMemory s j g
memory_of s j g x = record {
  unbroken = followed_journals_have_no_break s j x.flat x.follows;
  agrees =
      record {
        flat = x.flat;
        follows = x.follows;
        processors = λ i li. ap (option_map (λ core. core.cpu))
            (x.beside.cores i li);
      };
  words = read_words_are_told s g x.flat.words x.beside.size x.readers x.current;
}

-- ---- the shipped ones

explained : (p : Scheme) (s : Setup) (j : List Entry) (g : World) → IsSetup s → IsTreeOf p.wording s.protocol →
    Runs s (start s) j g → IsQuiet s g → IsExplained s j g
explained p s j g setup is r quiet =
    let x : Explained p.wording s j g = runs_are_explained p s j g setup is r in
    let none : NoneInFlight s g = (quiet_runs_are_done p s j g setup is r quiet).wires in
    record {
      flat = x.flat;
      follows = x.follows;
      beside = x.kept.tied.beside;
      readers = λ address lt.
          (let it : HasReader s g (block_of s address) = blocks_have_readers p s g x.flat
          (block_of s address) setup x.kept none (block_within s address setup lt) in
          record { node = it.node; within = it.within; may = it.may });
      current = λ i address li lt may. copies_are_current p s g x.flat i address setup x.kept li lt may;
    }

pub one_memory : (s : Setup) (j : List Entry) (g : World) → IsSetup s → IsShipped s.protocol → Runs s (start s) j g →
    IsQuiet s g → OneMemory s j g
one_memory s j g setup (as_stache is) r quiet = memory_of s j g (explained of_stache s j g setup is r quiet)
one_memory s j g setup (as_stache_d is) r quiet = memory_of s j g (explained of_stache_d s j g setup is r quiet)
one_memory s j g setup (as_stache_l is) r quiet = memory_of s j g (explained of_stache_l s j g setup is r quiet)
