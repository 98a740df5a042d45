-- What an event leaves of a node where a handler ran in it, and found these parts of the node.
use Rattle.std.specs.Prelude.{◌≡◌, ◌≢◌, ℕ, ◌+◌, if◌then◌else◌, List, [], ◌∷◌, ◌++◌, Some, None, length}
use Rattle.tw_base.specs.declared.entry.Entry.{Entry}
use Rattle.tw_base.specs.declared.message.Chan.{Chan}
use Rattle.tw_base.specs.declared.message.Message.{Message}
use Rattle.handler_vm.specs.declared.cell.Ran.{Ran}
use Rattle.dsm_runs.specs.Worlds.{takes_from}
use Rattle.node_meaning.specs.Nodes.{Parts, Shown, cell_at, front_at}
use Rattle.node_meaning.specs.Sending.{post_all}
use Rattle.node_meaning.specs.Handling.{RanFor, after_at, outbox_of, parts_after}

-- what the node shows, with what no event changes as it was before
abbrev pub kept_on : Shown → Shown → Shown
kept_on old new = record new { setup = old.setup; code = old.code; me = old.me; accepted = old.accepted }

-- The event of the entry leaves `new`, where a handler ran for the message, and found these parts of the node.
pub record Handled (old new : Shown) (found : Parts) (m : Message) (entry : Entry) : Type 0 where
  pub sent : List Message
  pub ran : Ran
  pub runs : RanFor old new m sent ran
  pub infos : length (cell_at new m.block).infos ≡ length (cell_at old m.block).infos
  pub cells : length new.cells ≡ length old.cells
  pub other_cells : (b : ℕ) → b ≢ m.block → cell_at new b ≡ cell_at old b
  pub outbox : outbox_of new ≡ post_all entry.stamp sent (outbox_of old)
  pub parts : new.parts ≡ parts_after found m ran entry.stamp (length sent)
  pub ops : new.ops ≡ old.ops + ran.ops
  pub records : new.records ≡ old.records + ran.records
  pub node : entry.node ≡ old.me
  pub count : entry.sends ≡ length sent
  pub after : entry.after ≡ Some (after_at new m.block ran)
  pub log : new.log ≡ old.log ++ entry ∷ []
  pub fronts : (f : ℕ) (ch : Chan) → front_at new f ch ≡ (if takes_from entry.act f ch then None else front_at old f ch)
  pub all_fronts : length new.fronts ≡ length old.fronts
  pub same_setup : new.setup ≡ old.setup
  pub same_code : new.code ≡ old.code
  pub same_me : new.me ≡ old.me
  pub same_accepted : new.accepted ≡ old.accepted
