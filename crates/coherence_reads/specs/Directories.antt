-- What the words of coherence are that each protocol has of its own, by the protocol.
use Rattle.std.specs.Prelude.{◌≡◌, ℕ}
use Rattle.tw_base.specs.Lists.{Each}
use Rattle.block_spots.specs.Cases.{CacheRo, Here, HomePut, Rest, State}
use Rattle.block_spots.specs.Notes.{Note, Spot}
use Rattle.block_spots.specs.Sketches.{Next}
use Rattle.coherence_frame.specs.Parts.{Wording}
use Rattle.coherence_inv.specs.Parts as parts
use Rattle.stache_d_inv.specs.Coherent.{HasAnswered}
use Rattle.stache_d_inv.specs.Parts as parts_d
use Rattle.stache_l_inv.specs.Parts as parts_l
use Rattle.stache_check.specs.declared.directory.Directory.{Directory}
use Rattle.stache_check.specs.declared.directory.Directory.TheVariants.{Stache, StacheD, StacheL}

abbrev pub wording_under : Directory → Wording
wording_under Stache = parts.wording
wording_under StacheD = parts_d.wording
wording_under StacheL = parts_l.wording

abbrev pub RestFitsUnder : Directory → ℕ → ℕ → State → Rest → Type 0
RestFitsUnder d = (wording_under d).standing.RestFits

abbrev pub InfosUnder : Directory → ℕ → ℕ → State → Here → Type 0
InfosUnder d = (wording_under d).standing.Infos

abbrev pub StandsUnder : Directory → State → Here → ℕ → Spot → ℕ → ℕ → Type 0
StandsUnder d = (wording_under d).standing.Stands

abbrev pub IsDownUnder : Directory → ℕ → Note → Type 0
IsDownUnder d = (wording_under d).IsDown

abbrev pub IsUpUnder : Directory → ℕ → Note → Type 0
IsUpUnder d = (wording_under d).IsUp

-- an owner that keeps its copy has answered with its words
abbrev pub AnsweredUnder : Directory → Here → Spot → Type 0
AnsweredUnder StacheD home s = home.state ≡ HomePut → s.state ≡ CacheRo → Each (HasAnswered s.words) s.up
AnsweredUnder _ home s = Unit {0}

-- what the home's next instruction is while its continuation is of its own fault
abbrev pub HeldUnder : Directory → State → Rest → Next → ℕ → Type 0
HeldUnder d = (wording_under d).standing.HeldFor
