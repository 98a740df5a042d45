-- What is written of a state that a replay came to.
use Rattle.std.specs.Prelude.{ℕ, ◌==◌, nat_eq, if◌then◌else◌, min, codes, length, count_by, List, [], ◌∷◌, ◌++◌, Option, Some}
use Rattle.std.specs.Prelude.{None}
use Rattle.std.specs.Fmt.{decimal}
use Rattle.std.specs.List.{flat_map, range_with_len}
use Rattle.tw_base.specs.declared.entry.End.{End}
use Rattle.tw_base.specs.declared.message.Chan.{Chan}
use Rattle.tw_base.specs.declared.message.Chan.TheVariants.{Zero, One}
use Rattle.printed_text.specs.Lines.{line}
use Rattle.printed_text.specs.Names.{chan_text, state_name, tag_text}
use Rattle.teapot_meaning.specs.Depth.{depth}
use Rattle.teapot_meaning.specs.declared.state.Here.{Here}
use Rattle.teapot_meaning.specs.declared.state.StateVal.{out-StateVal}
use Rattle.teapot_tree.specs.declared.protocol.Protocol.{Protocol}
use Rattle.dsm_runs.specs.declared.mode.Mode.{Mode}
use Rattle.dsm_runs.specs.declared.mode.Mode.TheVariants as mode
use Rattle.dsm_runs.specs.declared.mode.Waiting.{Waiting}
use Rattle.dsm_runs.specs.Locals.{Local}
use Rattle.dsm_runs.specs.Setups.{Setup}
use Rattle.dsm_runs.specs.Worlds.{World}

-- ---- nodes

abbrev pub mode_text : Mode → List ℕ
mode_text mode.Running = codes "running"
mode_text (mode.Blocked b) = codes "blocked"
mode_text mode.Woken = codes "woken"
mode_text mode.Halted = codes "halted"
mode_text (mode.Trapped why) = codes "trapped"

-- how a node stands: failed, or what its processor does
abbrev pub stand_text : Option End → Mode → List ℕ
stand_text (Some how) m = codes "failed"
stand_text None m = mode_text m

abbrev pub stand_line : ℕ → List ℕ → ℕ → ℕ → ℕ → ℕ → ℕ → List ℕ
stand_line i stand place clock instructions handled sent =
    line (codes "node" ∷ decimal i ∷ stand ∷ codes "place" ∷ decimal place ∷ codes "clock" ∷ decimal clock ∷ codes
    "instructions" ∷ decimal instructions
    ∷ codes "handlers" ∷ decimal handled ∷ codes "sent" ∷ decimal sent ∷ [])

abbrev pub local_line : ℕ → Local → List ℕ
local_line i l = stand_line i (stand_text l.failed l.mode) l.cpu.place l.clock l.instructions l.handled l.sent

abbrev pub node_line : World → ℕ → List ℕ
node_line g i = local_line i (g.locals i)

-- ---- blocks

-- how many messages of a block are deferred
abbrev pub deferred : List Waiting → ℕ → ℕ
deferred waiting b = count_by (λ w. nat_eq w.message.block b) waiting

-- how many suspensions a state holds, at most 255
abbrev pub depth_told : Here → ℕ
depth_told here = min (depth here.state) 255

abbrev pub here_line : Protocol → ℕ → ℕ → Here → ℕ → List ℕ
here_line p i b here waiting =
    line (codes "block" ∷ decimal i ∷ decimal b ∷ codes "state" ∷ state_name p
    (out-StateVal here.state).state ∷ codes "tag" ∷ tag_text here.tag
    ∷ codes "depth" ∷ decimal (depth_told here) ∷ codes "deferred" ∷ decimal waiting ∷ [])

abbrev pub block_line : Protocol → World → ℕ → ℕ → List ℕ
block_line p g i b = here_line p i b ((g.locals i).blocks b) (deferred (g.locals i).deferred b)

-- of each block at a node, and of each node
abbrev pub block_lines : Protocol → ℕ → World → ℕ → List ℕ
block_lines p blocks g i = flat_map (block_line p g i) (range_with_len 0 blocks)

-- ---- wires

-- how many messages a wire holds, where it is not empty
abbrev pub held_line : ℕ → ℕ → Chan → ℕ → List ℕ
held_line f t c held =
    if held == 0 then [] else line (codes "wire" ∷ decimal f ∷ decimal t ∷ chan_text c ∷ codes "held" ∷ decimal held ∷ [])

abbrev pub wire_line : World → ℕ → ℕ → Chan → List ℕ
wire_line g f t c = held_line f t c (length (g.wires f t c))

abbrev pub wires_between : World → ℕ → ℕ → List ℕ
wires_between g f t = wire_line g f t Zero ++ wire_line g f t One

-- from a node to each
abbrev pub wires_from : ℕ → World → ℕ → List ℕ
wires_from nodes g f = flat_map (wires_between g f) (range_with_len 0 nodes)

-- ---- the whole

abbrev pub head : ℕ → ℕ → List ℕ
head k events = line (codes "replay" ∷ decimal k ∷ codes "of" ∷ decimal events ∷ [])

-- The state behind k of so many events: the nodes, the blocks of each node, and the wires that hold a message, by sender,
-- receiver and channel.
unfoldable pub replay_text : Setup → World → ℕ → ℕ → List ℕ
replay_text s g k events =
    head k events ++ flat_map (node_line g) (range_with_len 0 s.shape.nodes)
    ++ flat_map (block_lines s.protocol s.shape.blocks g) (range_with_len 0 s.shape.nodes)
    ++ flat_map (wires_from s.shape.nodes g) (range_with_len 0 s.shape.nodes) ++ codes "end\n"
