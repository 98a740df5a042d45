-- What is fixed in a run, and what follows from it: addresses, programs, and the blocks at the start.
use Rattle.std.specs.Prelude.{◌≡◌, ◌⊎◌, ℕ, ◌*◌, ◌/◌, ◌%◌, nat_eq, not, map, find, length, unwrap_or, Bool, true, false, List}
use Rattle.std.specs.Prelude.{[], Option, Some, None}
use Rattle.std.specs.List.{slice_index_or}
use Rattle.tw_base.specs.Lists.{Each}
use Rattle.tw_base.specs.Shape.{Sizes, IsWithinLimits}
use Rattle.tw_base.specs.declared.value.Tag.{Tag}
use Rattle.tw_base.specs.declared.value.Tag.TheVariants.{Invalid}
use Rattle.block_tags.specs.Copies.{Copies, at_start, tag_of, block_words}
use Rattle.mini_asm.specs.Machine.{next_of, finish_of}
use Rattle.mini_asm.specs.Programs.{has_faa}
use Rattle.mini_asm.specs.Run.{IsInit}
use Rattle.mini_asm.specs.declared.cpu.Cpu.{Cpu}
use Rattle.mini_asm.specs.declared.cpu.Next.{Next}
use Rattle.mini_asm.specs.declared.instr.Instr.{Instr}
use Rattle.teapot_meaning.specs.Does.{zero_of}
use Rattle.teapot_tree.specs.Rules.{IsAccepted}
use Rattle.teapot_tree.specs.Scopes.{state_number}
use Rattle.teapot_meaning.specs.declared.state.Here.{Here}
use Rattle.teapot_meaning.specs.declared.state.StateVal.{roll-StateVal}
use Rattle.teapot_tree.specs.declared.protocol.Protocol.{Protocol}
use Rattle.teapot_tree.specs.declared.protocol.Start.{Start}

pub record Setup : Type 0 where
  pub version : ℕ
  pub shape : Sizes
  pub init : List (ℕ × ℕ)  -- addresses and the words that they start with
  pub programs : List (List Instr)  -- by node
  pub protocol : Protocol

pub record IsSetup (s : Setup) : Type 0 where
  pub limits : IsWithinLimits s.shape
  pub init : IsInit (s.shape.words * s.shape.blocks) s.init
  pub programs : length s.programs ≡ s.shape.nodes
  pub accepted : IsAccepted s.protocol
  pub version : (s.version ≡ 1) ⊎ (s.version ≡ 2)
  pub plain : s.version ≡ 1 → Each (λ program. has_faa program ≡ false) s.programs  -- fetch-and-add is there from version 2 on

-- ---- addresses

-- how many words of memory there are
abbrev pub size_of : Setup → ℕ
size_of s = s.shape.words * s.shape.blocks

-- the block of an address, and its place in the block
abbrev pub block_of : Setup → ℕ → ℕ
block_of s address = address / s.shape.words

abbrev pub offset_of : Setup → ℕ → ℕ
offset_of s address = address % s.shape.words

-- the node that keeps a block from the start
abbrev pub home_of : Setup → ℕ → ℕ
home_of s block = block % s.shape.nodes

-- ---- instructions

abbrev pub program_at : Setup → ℕ → List Instr
program_at s i = slice_index_or s.programs i []

-- what the next instruction of node i asks for
abbrev pub asked : Setup → ℕ → Cpu → Next
asked s i cpu = next_of (program_at s i) cpu (size_of s)

-- the processor of node i when its instruction is done, having loaded this word
abbrev pub finished : Setup → ℕ → Cpu → ℕ → Cpu
finished s i cpu loaded = finish_of (program_at s i) cpu loaded

-- ---- the start

-- how a block starts at its home (true), or elsewhere
abbrev pub is_start : Bool → Start → Bool
is_start true start = start.home
is_start false start = not start.home

abbrev pub start_line : Setup → Bool → Option Start
start_line s home = find (λ start. is_start home start) s.protocol.starts

abbrev pub start_state : Setup → Option Start → ℕ
start_state s None = 0
start_state s (Some start) = unwrap_or (state_number s.protocol start.state) 0

abbrev pub start_tag : Option Start → Tag
start_tag None = Invalid
start_tag (Some start) = start.tag

-- the tags and words of node i at the start
abbrev pub first_copies : Setup → ℕ → Copies
first_copies s i = at_start s.shape i (start_tag (start_line s true)) (start_tag (start_line s false)) s.init

-- a block at node i at the start
abbrev pub first_here : Setup → ℕ → ℕ → Here
first_here s i block = record {
  me = i;
  home = home_of s block;
  block = block;
  infos = map (λ info. zero_of info.ty) s.protocol.infos;
  state = roll-StateVal (record { state = start_state s (start_line s (nat_eq (home_of s block) i)); args = []; cont = None });
  tag = tag_of (first_copies s i) block;
  words = block_words (first_copies s i) block;
}
