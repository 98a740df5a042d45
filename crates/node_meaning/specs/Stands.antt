-- A node on compiled handlers, and the course of the model that it stands for. The course is not a function of the node: the
-- rests of suspended handlers, and what was taken and sent, are known to exist and no more. So each clause on an event
-- speaks of every course that the node stood for.
use Rattle.std.specs.Prelude.{◌≡◌, ℕ, ◌+◌, ◌<◌, ◌≤◌, ◌^◌, if◌then◌else◌, List, [], ◌∷◌, ◌++◌, Option, Some, None, length}
use Rattle.std.specs.Prelude.{option_to_list}
use Rattle.tw_base.specs.Lists.{Each}
use Rattle.tw_base.specs.declared.entry.Entry.{Entry}
use Rattle.tw_base.specs.declared.entry.Event.{Event}
use Rattle.tw_base.specs.declared.message.Chan.{Chan}
use Rattle.tw_base.specs.declared.message.Message.{Message}
use Rattle.block_tags.specs.Copies.{IsWhole}
use Rattle.handler_vm.specs.Apart.{AreChains}
use Rattle.compiled_handlers.specs.Standing.{BlockStands}
use Rattle.compiled_meaning.specs.Whole.{IsCode}
use Rattle.value_nodes.specs.Within.{IsCellWithin, IsMessageWithin, IsSavedWithin}
use Rattle.dsm_runs.specs.Beside.{ReplaysBeside}
use Rattle.dsm_runs.specs.Invariants.{IsNodeOf, IsOnTheWay}
use Rattle.dsm_runs.specs.Replays.{Course, ReplaysOne, begin}
use Rattle.dsm_runs.specs.Setups.{IsSetup, Setup}
use Rattle.dsm_runs.specs.Worlds.{event_of, takes_from}
use Rattle.node_meaning.specs.Nodes.{Shown, accepted_at, cell_at, front_at, keeping, onto, posted_at, tally_of, with_blocks}
use Rattle.node_meaning.specs.Tallies.{Counts, Tally, first_tally}

-- A message on the way from node f to node t, both of the machine, with nodes of the machine alone in its arguments.
pub record IsFit (s : Setup) (f t : ℕ) (m : Message) : Type 0 where
  pub on : IsOnTheWay s f t m
  pub within : IsMessageWithin s.shape.nodes m
  pub receiver : t < s.shape.nodes

-- The node stands for the course: its log leads there, and the machine of ops to what it keeps.
pub record StandsFor (n : Shown) (c : Course) : Type 0 where
  pub replays : ReplaysBeside (Counts n.setup n.code) n.setup n.me (begin n.setup n.me) (first_tally n.setup n.me) n.log c
      (tally_of n)
  pub parts : c.local ≡ with_blocks n.parts c.local.blocks
  pub blocks : (b : ℕ) → b < n.setup.shape.blocks → BlockStands n.setup.protocol n.code (keeping n b) (c.local.blocks b)
  pub sound : IsNodeOf n.setup n.me c.local
  pub took : (f : ℕ) (ch : Chan) → length (c.took f ch) + length (option_to_list (front_at n f ch)) ≡ accepted_at n f ch
  pub sent : (t : ℕ) (ch : Chan) → length (c.sent t ch) ≡ posted_at n t ch
  pub fit : (t : ℕ) (ch : Chan) → Each (IsFit n.setup n.me t) (c.sent t ch)

-- nodes of the machine alone stand in what the machine of ops keeps
pub record IsTallyWithin (n : ℕ) (t : Tally) : Type 0 where
  pub cells : (b : ℕ) → IsCellWithin n (t.cells b)
  pub chains : (b : ℕ) → Each (IsSavedWithin n) (t.chains b)

-- the message kept of a wire is fit, and was the last that was accepted from it
pub record IsFront (n : Shown) (f : ℕ) (ch : Chan) (m : Message) : Type 0 where
  pub fit : IsFit n.setup f n.me m
  pub chan : m.chan ≡ ch
  pub number : m.number + 1 ≡ accepted_at n f ch

-- What holds of a node by itself.
pub record IsWell (n : Shown) : Type 0 where
  pub setup : IsSetup n.setup
  pub code : IsCode n.setup.protocol n.code
  pub short : length n.code.ops < 2 ^ 22
  pub at_node : n.me < n.setup.shape.nodes
  pub copies : IsWhole n.copies
  pub shape : n.copies.shape ≡ n.setup.shape
  pub cells : length n.cells ≡ n.setup.shape.blocks
  pub chains : AreChains n.setup.shape.words n.conts (λ b. (cell_at n b).cont)
  pub within : IsTallyWithin n.setup.shape.nodes (tally_of n)
  pub all_fronts : length n.fronts ≡ 16
  pub all_accepted : length n.accepted ≡ 16
  pub all_posted : length n.posted ≡ 16
  pub fronts : (f : ℕ) (ch : Chan) (m : Message) → front_at n f ch ≡ Some m → IsFront n f ch m
  pub waiting : Each (λ m. IsFit n.setup n.me m.to m) n.waiting
  pub deferred : Each (λ w. IsMessageWithin n.setup.shape.nodes w.message) n.parts.deferred
  pub few_sent : n.parts.sent < 2 ^ 32
  pub few_posted : (t : ℕ) (ch : Chan) → posted_at n t ch ≤ n.parts.sent
  pub few_accepted : (f : ℕ) (ch : Chan) → accepted_at n f ch ≤ n.parts.handled + length (option_to_list (front_at n f ch))

-- ---- an event

-- The course goes on by this entry, and the node stands for where it gets. `front` is the message that it takes from a wire,
-- and `more` are those that it sends.
pub record GoesOn (old new : Shown) (c : Course) (entry : Entry) (front : Option Message) (more : List Message) : Type 0 where
  pub after : Course
  pub goes : ReplaysOne old.setup old.me c entry after
  pub takes : goes.front ≡ front
  pub stands : StandsFor new after
  pub sent : (t : ℕ) (ch : Chan) → after.sent t ch ≡ c.sent t ch ++ onto old.me t ch more
  pub counted : Counts old.setup old.code old.me c.local front entry.act (tally_of old) (tally_of new)

-- One event of a node, whatever course it stood for.
pub record Makes (old new : Shown) (front : Option Message) (e : Event) : Type 0 where
  pub entry : Entry
  pub more : List Message
  pub tells : event_of entry ≡ e
  pub log : new.log ≡ old.log ++ entry ∷ []
  pub waits : new.waiting ≡ old.waiting ++ more
  pub same_setup : new.setup ≡ old.setup
  pub same_code : new.code ≡ old.code
  pub same_me : new.me ≡ old.me
  pub same_accepted : new.accepted ≡ old.accepted
  pub fronts : (f : ℕ) (ch : Chan) → front_at new f ch ≡ (if takes_from entry.act f ch then None else front_at old f ch)
  pub goes : (c : Course) → StandsFor old c → GoesOn old new c entry front more

-- a message is kept or handed out, or memory is taken: the node stands for each course that it stood for
abbrev pub StandsAsBefore : Shown → Shown → Type 0
StandsAsBefore old new = (c : Course) → StandsFor old c → StandsFor new c

-- the node stands for a replay of its log
pub record IsReplayed (n : Shown) : Type 0 where
  pub course : Course
  pub stands : StandsFor n course
