-- What a protocol has to show of its tree and of its handlers as they are meant, beside its rows over the sketch.
use Rattle.std.proofs.Common.{◌≡◌, ◌≢◌, ℕ, ◌<◌, ◌≤◌, Bool, true, false, List, map, Some, None, arith, refl, subst}
use Rattle.std.specs.Prelude.{is_some, slice_get, length}
use Rattle.tw_base.specs.Lists.{Each}
use Rattle.tw_base.specs.declared.entry.End.TheVariants.{Fine}
use Rattle.tw_base.specs.declared.message.Kind.TheVariants as number
use Rattle.tw_base.specs.declared.message.Message.{Message}
use Rattle.teapot_tree.specs.Rules.{carries}
use Rattle.teapot_tree.specs.declared.protocol.Protocol.{Protocol}
use Rattle.teapot_meaning.specs.Does.{Does, zero_of}
use Rattle.teapot_meaning.specs.Fits.{is_known}
use Rattle.teapot_meaning.specs.declared.state.Ended.{Ended}
use Rattle.teapot_meaning.specs.declared.state.Here.{Here as Place}
use Rattle.dsm_runs.specs.Messages.{declared_chan}
use Rattle.dsm_runs.specs.Setups.{start_tag}
use Rattle.block_spots.specs.Cases as cases
use Rattle.block_spots.specs.Cases.{DataRo, DataRw, Put, PutRo, NoRest, Here, Effect, Table, channel_of, State, HomeRw, HomeRo}
use Rattle.block_spots.specs.Cases.{HomeExcl, HomeAcks, HomePut, CacheInv, CacheRo, CacheRw, CacheWaitRo, CacheWaitRw}
use Rattle.block_spots.specs.Notes.{Note, NDataRo, NDataRw, NPut, NPutRo, Spot}
use Rattle.block_spots.specs.Views.{seen_here, seen_kind, seen_message}
use Rattle.stache_table.specs.Blocks.{kept_of, kind_of, seen_out, tag_at}
use Rattle.stache_table.specs.Laws.{IsOwn}
use Rattle.coherence_frame.specs.Words.{IsHomeState, tag_of}
use Rattle.coherence_frame.specs.Coherent.{AtCache, Standing}
use Rattle.coherence_frame.specs.Parts.{IsTreeOf, Wording}
use Rattle.coherence_frame.proofs.First.{first_place, infos_first, line_first, number_first, state_in, tag_first}
use Rattle.coherence_frame.proofs.Rows.{AtACache, AtTheHome, Plan, Says, Sends, SomeInfos}

-- ---- messages

abbrev pub has_data : cases.Kind → Bool
has_data DataRo = true
has_data DataRw = true
has_data Put = true
has_data PutRo = true
has_data _ = false

-- the message that a tree declares with this number is of the kind that the sketch sees, on its channel, with data where that
-- has it
abbrev pub IsNumbered : Protocol → ℕ → Type 0
IsNumbered tree n =
    (kind_of (seen_kind (number.Named n)) ≡ number.Named n)
    × (declared_chan (slice_get tree.messages n) ≡ channel_of (seen_kind (number.Named n)))
    × (carries (slice_get tree.messages n) ≡ has_data (seen_kind (number.Named n)))

-- data of w words
abbrev pub HasLength : ℕ → Note → Type 0
HasLength w (NDataRo ws) = length ws ≡ w
HasLength w (NDataRw ws) = length ws ≡ w
HasLength w (NPut ws) = length ws ≡ w
HasLength w (NPutRo ws) = length ws ≡ w
HasLength w _ = Unit {0}

-- a message of the tree's that comes to a block: a fault is the node's own, another comes from one of eight nodes
pub record IsComing (tree : Protocol) (m : Message) (here : Place) : Type 0 where
  pub known : is_known tree m.kind ≡ true
  pub kind : m.kind ≡ kind_of (seen_kind m.kind)
  pub block : m.block ≡ here.block
  pub from : IsOwn (seen_kind m.kind) m.from here.me
  pub carried : is_some m.payload ≡ has_data (seen_kind m.kind)

-- ---- blocks

-- what coherence says of a block at its home h, or at a cache
pub record Fits (w : Standing) (n h : ℕ) (here : Here) : Type 0 where
  pub tag : here.tag ≡ tag_of here.state
  pub rest : w.RestFits n h here.state here.rest
  pub infos : IsHomeState here.state → w.Infos n h here.state here

-- a handler ended as the table says, with the block whole again
pub record IsShown (o : Wording) (was : Place) (e : Ended) (f : Effect) : Type 0 where
  pub end : e.end ≡ Fine
  pub placed : o.IsPlaced e.here
  pub here : seen_here o.reads e.here ≡ f.here
  pub sends : f.sends ≡ map (seen_out was.block was.me) e.sends
  pub kept : e.kept ≡ kept_of f.kept
  pub freed : f.freed ≡ e.freed
  pub woke : f.woke ≡ e.woke

-- ---- a protocol over the model

pub record Shows (t : Table) (o : Wording) : Type 0 where
  -- the words of its own for what is on channel 1, and for copies
  pub down_is : (k n h : ℕ) (home : Here) (i : ℕ) (s : Spot) → AtCache o.standing n h home i s → Each (HasLength k) s.down →
      Each (o.IsDown k) s.down
  pub up_is : (k n h : ℕ) (home : Here) (i : ℕ) (s : Spot) → AtCache o.standing n h home i s → Each (HasLength k) s.up →
      Each (o.IsUp k) s.up
  pub copies_at : (n h : ℕ) (home : Here) (spots : ℕ → Spot) → o.Copies n h home spots → (i : ℕ) → i < n → i ≢ h →
      o.standing.Copies home (spots i)
  pub copies_of : (n h : ℕ) (home : Here) (spots : ℕ → Spot) → ((i : ℕ) → i < n → i ≢ h → o.standing.Copies home (spots i)) →
      o.Copies n h home spots
  -- its messages
  pub numbers : (n : ℕ) → is_some (slice_get o.tree.messages n) ≡ true → IsNumbered o.tree n
  -- the table is the meaning
  pub shown : (p : Protocol) (n : ℕ) (here : Place) (m : Message) (e : Ended) (f : Effect) → IsTreeOf o p → n ≤ 8 →
      o.IsPlaced here → Fits o.standing n here.home (seen_here o.reads here) → IsComing o.tree m here → Does p here m e →
      t n here.home here.me (seen_here o.reads here) (seen_message m) ≡ Some f → IsShown o here e f
  pub placed_words : (here : Place) (ws : List ℕ) → o.IsPlaced here → o.IsPlaced (record here { words = ws })
  -- the start
  pub tag_line : (home : Bool) → start_tag (line_first o.tree home) ≡ tag_first home
  pub state_line : (home : Bool) → state_in o.tree.states (line_first o.tree home) ≡ number_first home
  pub infos_line : map (λ a. zero_of a.ty) o.tree.infos ≡ infos_first
  pub reads_none : o.reads None ≡ NoRest
  pub placed_first : (i h b : ℕ) (home : Bool) (ws : List ℕ) → o.IsPlaced (first_place i h b home ws)

pub record Scheme : Type 1 where
  pub wording : Wording
  pub table : Table
  pub sends : Sends table wording.standing
  pub says : Says wording.standing
  pub home : AtTheHome table wording.standing
  pub cache : AtACache table wording.standing
  pub shows : Shows table wording

-- over the sketch
abbrev pub plan_of : Scheme → Plan
plan_of scheme = record {
  table = scheme.table;
  words = scheme.wording.standing;
  sends = scheme.sends;
  says = scheme.says;
  home = scheme.home;
  cache = scheme.cache;
}

-- ---- what a table may ask of a block that fits

pub tag_fits : (x : State) → tag_of x ≡ tag_at x
tag_fits HomeRw = refl
tag_fits HomeRo = refl
tag_fits HomeExcl = refl
tag_fits HomeAcks = refl
tag_fits HomePut = refl
tag_fits CacheInv = refl
tag_fits CacheRo = refl
tag_fits CacheRw = refl
tag_fits CacheWaitRo = refl
tag_fits CacheWaitRw = refl

module _ (w : Standing) (says : Says w) (n h : ℕ) (here : Here) (f : Fits w n h here) where
  -- the sharers at Home_RO are among the nodes
  pub few_sharers : here.state ≡ HomeRo → (j : ℕ) → n ≤ j → here.sharers j ≡ false
  few_sharers e j le = go (here.sharers j) refl
    where
      infos : SomeInfos n h HomeRo here
      infos = subst (λ st. SomeInfos n h st here) e (says.infos n h here here.state (f.infos (rw e tt)))

      go : (b : Bool) → here.sharers j ≡ b → here.sharers j ≡ false
      go false q = q
      go true q = absurd (let z : j < n = (infos j q).0 in omega arith)

  -- and the owner at Home_Put is
  pub owner_below : here.state ≡ HomePut → here.owner < n
  owner_below e = (subst (λ st. SomeInfos n h st here) e (says.infos n h here here.state (f.infos (rw e tt)))).0
