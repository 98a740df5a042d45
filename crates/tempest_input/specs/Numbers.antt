-- The numbers of the header: their limits, and words and programs that are given twice.
use Rattle.std.specs.Prelude.{ℕ, ◌+◌, ◌*◌, ◌==◌, ◌&&◌, not, nat_le, nat_lt, Bool, true, false, List, [], ◌∷◌, ◌++◌, Option}
use Rattle.std.specs.Prelude.{Some, None, Result, Ok, Err}
use Rattle.std.specs.List.{list_any}
use Rattle.tw_base.specs.Answers.{◌>>=◌}
use Rattle.tw_base.specs.Shape.{Sizes}
use Rattle.tempest_input.specs.declared.layout.Numbered.{Numbered}
use Rattle.tempest_input.specs.declared.layout.Init.{Init}
use Rattle.tempest_input.specs.declared.layout.Section.{Section}
use Rattle.tempest_input.specs.declared.layout.Layout.{Layout}
use Rattle.tempest_input.specs.declared.error.InputError.{InputError}
use Rattle.tempest_input.specs.declared.error.InputError.TheVariants.{Refused}
use Rattle.tempest_input.specs.declared.error.Why.{Why}
use Rattle.tempest_input.specs.declared.error.Why.TheVariants.{OutOfRange, Repeated}

-- refused, where a test fails
abbrev pub unless : Bool → ℕ → Why → Result (Unit {0}) InputError
unless true line why = Ok tt
unless false line why = Err (Refused line why)

abbrev pub is_within : ℕ → ℕ → ℕ → Bool
is_within least most n = nat_le least n && nat_le n most

-- at least one instruction, and at most 1,250,000 handler events a node
abbrev pub is_budget : ℕ → ℕ → Bool
is_budget nodes budget = nat_lt 0 budget && nat_le ((4 * nodes + 4) * nodes * budget) 1250000

-- without a line for it, a node has 4,000 instructions
abbrev pub budget_or : Numbered → Option Numbered → Numbered
budget_or blocks None = record { line = blocks.line; value = 4000 }
budget_or blocks (Some budget) = budget

-- the shape of the machine, its limits tested line by line
unfoldable pub sizes_of : Layout → Result Sizes InputError
sizes_of l =
    unless (is_within 1 2 l.version.value) l.version.line OutOfRange >>= λ version.
    unless (is_within 1 8 l.nodes.value) l.nodes.line OutOfRange >>= λ nodes.
    unless (is_within 1 8 l.words.value) l.words.line OutOfRange >>= λ words.
    unless (is_within 1 64 l.blocks.value) l.blocks.line OutOfRange >>= λ blocks.
    unless (is_budget l.nodes.value (budget_or l.blocks l.budget).value) (budget_or l.blocks l.budget).line OutOfRange >>=
    λ budget.
    Ok (record {
      nodes = l.nodes.value;
      words = l.words.value;
      blocks = l.blocks.value;
      budget = (budget_or l.blocks l.budget).value;
    })

abbrev pub is_given : List (ℕ × ℕ) → ℕ → Bool
is_given done address = list_any (λ given. given.0 == address) done

-- the word of a line: its address is in the memory, and not given before
unfoldable pub word_in : ℕ → List (ℕ × ℕ) → Init → Result (ℕ × ℕ) InputError
word_in size done i =
    unless (nat_lt i.address size) i.line OutOfRange >>= λ within.
    unless (not (is_given done i.address)) i.line Repeated >>= λ once.
    Ok (i.address, i.value)

abbrev pub has_program : List ℕ → ℕ → Bool
has_program done node = list_any (λ other. other == node) done

-- the node of a section: one of the machine's, without a program before
unfoldable pub node_in : ℕ → List ℕ → Section → Result ℕ InputError
node_in nodes done s =
    unless (nat_lt s.node nodes) s.line OutOfRange >>= λ within.
    unless (not (has_program done s.node)) s.line Repeated >>= λ once.
    Ok s.node

-- one after the other, each read with those before it at hand; the first that is refused ends it
unfoldable pub gathered : {X Y : Type 0} → (List Y → X → Result Y InputError) → List Y → List X → Result (List Y) InputError
gathered step done [] = Ok done
gathered step done (x ∷ xs) = step done x >>= λ y. gathered step (done ++ y ∷ []) xs

abbrev pub words_of : ℕ → List Init → Result (List (ℕ × ℕ)) InputError
words_of size inits = gathered (word_in size) [] inits

abbrev pub nodes_of : ℕ → List Section → Result (List ℕ) InputError
nodes_of nodes sections = gathered (node_in nodes) [] sections
