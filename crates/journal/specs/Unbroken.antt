-- A journal that the flat machine follows, and words that all who may read them agree on.
use Rattle.std.specs.Prelude.{◌≡◌, ℕ, ◌<◌, slice_index, length, List, None, true, false}
use Rattle.block_tags.specs.Copies.{permits}
use Rattle.tw_base.specs.declared.entry.Entry.{Entry}
use Rattle.mini_asm.specs.Run.{Machine}
use Rattle.dsm_runs.specs.Flat.{Follows, flat_start}
use Rattle.dsm_runs.specs.Events.{tag_here, word_here}
use Rattle.dsm_runs.specs.Setups.{Setup, size_of}
use Rattle.dsm_runs.specs.Worlds.{World}
use Rattle.journal.specs.Gathered.{words_of}
use Rattle.journal.specs.History.{first_break}

-- A journal that the flat machine follows has no break.
abbrev pub FollowedJournalsHaveNoBreak : Type 0
FollowedJournalsHaveNoBreak = (s : Setup) (j : List Entry) (m : Machine) → Follows (flat_start s) j m → first_break s j ≡ None

-- a node that may read an address
pub record MayRead (s : Setup) (g : World) (address : ℕ) : Type 0 where
  pub node : ℕ
  pub within : node < s.shape.nodes
  pub may : permits (tag_here s (g.locals node).blocks address) false ≡ true

-- Where each address has a node that may read it, and all nodes that may read it have the word of a list, the words that
-- are told are that list.
abbrev pub ReadWordsAreTold : Type 0
ReadWordsAreTold =
    (s : Setup) (g : World) (words : List ℕ) →
    length words ≡ size_of s →
    ((address : ℕ) → address < size_of s → MayRead s g address) →
    ((i address : ℕ) → i < s.shape.nodes → address < size_of s → permits (tag_here s (g.locals i).blocks address) false ≡ true →
    word_here s (g.locals i).blocks address ≡ slice_index words address) →
    words_of s g ≡ words
