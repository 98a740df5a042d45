-- The machines that are run as samples, each by its number.
use Rattle.std.specs.Prelude.{ℕ, ◌+◌, ◌*◌, ◌%◌, List, [], ◌∷◌, unwrap_or}
use Rattle.tw_base.specs.Shape.{Sizes}
use Rattle.mini_asm.specs.declared.instr.Instr.{Instr}
use Rattle.mini_asm.specs.declared.instr.Instr.TheVariants.{Li, Add, Sub, Ld, St, Bne, Blt, Print, Halt}
use Rattle.teapot_tree.specs.declared.protocol.Protocol.{Protocol}
use Rattle.stache_tree.specs.Tree.{stache}
use Rattle.stache_protocol.specs.Shipped.{shipped}
use Rattle.dsm_runs.specs.Setups.{Setup}

-- how often a node goes over its words
abbrev pub rounds_of : ℕ → ℕ
rounds_of k = 20 + k % 13

-- what node i adds to each of its words, each time
abbrev pub increment_of : ℕ → ℕ → ℕ
increment_of k i = 1 + (k * (2 * i + 1) + i) % 97

-- Node i has the words i, i + 4, .., i + 60. It goes over them, adding to each, as often as there are rounds, and then prints
-- its first word. `outer` is place 5, and `inner` place 6:
--
--     li r1 ROUNDS            inner: ld r5 r3 0        sub r1 r1 r7
--     li r2 INCREMENT                add r5 r5 r2      bne r1 r0 outer
--     li r4 64                       st r5 r3 0        ld r8 r0 I
--     li r6 4                        add r3 r3 r6      print r8
--     li r7 1                        blt r3 r4 inner   halt
--     outer: li r3 I
abbrev pub sample_program : ℕ → ℕ → List Instr
sample_program k i =
    Li 1 (rounds_of k) ∷ Li 2 (increment_of k i) ∷ Li 4 64 ∷ Li 6 4 ∷ Li 7 1 ∷ Li 3 i
    ∷ Ld 5 3 0 ∷ Add 5 5 2 ∷ St 5 3 0 ∷ Add 3 3 6 ∷ Blt 3 4 6
    ∷ Sub 1 1 7 ∷ Bne 1 0 5 ∷ Ld 8 0 i ∷ Print 8 ∷ Halt ∷ []

-- four nodes, 64 words in 16 blocks, and the budget of a text that gives none
abbrev pub sample_shape : Sizes
sample_shape = record { nodes = 4; words = 4; blocks = 16; budget = 4000 }

-- the tree of the shipped text, which is read (TextIsStache)
unfoldable pub shipped_protocol : Protocol
shipped_protocol = unwrap_or shipped stache

abbrev pub sample_setup : ℕ → Setup
sample_setup k = record {
  version = 1;
  shape = sample_shape;
  init = [];
  programs = sample_program k 0 ∷ sample_program k 1 ∷ sample_program k 2 ∷ sample_program k 3 ∷ [];
  protocol = shipped_protocol;
}
