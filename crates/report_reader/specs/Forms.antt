-- The forms of the lines of a report, kind by kind.
use Rattle.std.specs.Prelude.{ℕ, codes, Bool, List, [], ◌∷◌, ◌++◌, map}
use Rattle.std.specs.List.{list_any}
use Rattle.tw_base.specs.Shape.{Sizes}
use Rattle.tw_lex.specs.declared.token.Token.{Token}
use Rattle.report_reader.specs.declared.kind.LineKind.{LineKind}
use Rattle.report_reader.specs.declared.kind.LineKind.TheVariants as kinds
use Rattle.report_reader.specs.Slots.{Slot, Says, Name, Trap, Tag, Number, Is, Node, Next, Register, Address, Block, Channel}
use Rattle.report_reader.specs.Slots.{fits}

-- the first line, which names the setup
abbrev pub head_form : ℕ → Sizes → List Slot
head_form version shape =
    Says (codes "tempest") ∷ Says (codes "report") ∷ Is version ∷ Says (codes "nodes") ∷ Is shape.nodes ∷ Says
    (codes "words") ∷ Is shape.words
    ∷ Says (codes "blocks") ∷ Is shape.blocks ∷ Says (codes "budget") ∷ Is shape.budget ∷ []

-- a node that ended so
abbrev pub node_form : List Slot → List Slot
node_form outcome =
    Says (codes "node") ∷ Next ∷ outcome ++ Says (codes "place") ∷ Number ∷ Says (codes "instructions") ∷ Number ∷ Says
    (codes "handlers") ∷ Number ∷ []

-- an event that did this
abbrev pub event_form : List Slot → List Slot
event_form did = Says (codes "event") ∷ Number ∷ Says (codes "stamp") ∷ Number ∷ Says (codes "node") ∷ Node ∷ did

-- an event without a handler: an instruction that completed
abbrev pub completed_forms : List (List Slot)
completed_forms =
    map event_form
    ((Says (codes "ld") ∷ Address ∷ Number ∷ [])
    ∷ (Says (codes "st") ∷ Address ∷ Number ∷ [])
    ∷ (Says (codes "faa") ∷ Address ∷ Number ∷ Number ∷ [])
    ∷ (Says (codes "print") ∷ Number ∷ [])
    ∷ (Says (codes "halt") ∷ [])
    ∷ (Says (codes "trap") ∷ Trap ∷ [])
    ∷ (Says (codes "step") ∷ [])
    ∷ [])

-- what a handler left
abbrev pub left : List Slot
left = Says (codes "sends") ∷ Number ∷ Says (codes "state") ∷ Name ∷ Says (codes "tag") ∷ Tag ∷ []

-- an event with a handler, in which the node failed or did not
abbrev pub handled_forms : List Slot → List (List Slot)
handled_forms did = event_form (did ++ left) ∷ event_form (did ++ (left ++ Says (codes "failed") ∷ Name ∷ [])) ∷ []

abbrev pub forms_of : LineKind → List (List Slot)
forms_of kinds.Print = (Says (codes "print") ∷ Node ∷ Number ∷ []) ∷ []
forms_of kinds.Word = (Says (codes "word") ∷ Address ∷ Number ∷ []) ∷ []
forms_of kinds.Register = (Says (codes "register") ∷ Node ∷ Register ∷ Number ∷ []) ∷ []
forms_of kinds.Node =
    map node_form
    ((Says (codes "halted") ∷ [])
    ∷ (Says (codes "trapped") ∷ Trap ∷ [])
    ∷ (Says (codes "spent") ∷ [])
    ∷ (Says (codes "stuck") ∷ [])
    ∷ (Says (codes "failed") ∷ Name ∷ [])
    ∷ [])
forms_of kinds.Counts = (Says (codes "counts") ∷ Next ∷ Says (codes "ops") ∷ Number ∷ Says (codes "records") ∷ Number ∷ []) ∷ []
forms_of kinds.Completed = completed_forms
forms_of kinds.Fault = handled_forms (Says (codes "fault") ∷ Name ∷ Says (codes "block") ∷ Block ∷ [])
forms_of kinds.Redelivered =
    handled_forms (Says (codes "redeliver") ∷ Name ∷ Says (codes "block") ∷ Block ∷ Says (codes "from") ∷ Node ∷ [])
forms_of kinds.Delivered =
    handled_forms
    (Says (codes "deliver") ∷ Name ∷ Says (codes "block") ∷ Block ∷ Says (codes "from") ∷ Node ∷ Says (codes "channel") ∷ Channel
    ∷ Says (codes "number") ∷ Number ∷ [])
forms_of kinds.History =
    (Says (codes "history") ∷ Says (codes "agrees") ∷ [])
    ∷ (Says (codes "history") ∷ Says (codes "broken") ∷ Says (codes "event") ∷ Number ∷ Says (codes "node") ∷ Node ∷ Says
    (codes "address") ∷ Address
    ∷ Says (codes "read") ∷ Number ∷ Says (codes "due") ∷ Number ∷ [])
    ∷ []
forms_of kinds.End = (Says (codes "end") ∷ []) ∷ []

-- a line has one of the forms of its kind; so many lines of the kind stand before
abbrev pub is_line : Sizes → LineKind → ℕ → List Token → Bool
is_line shape kind before ts = list_any (λ form. fits shape before form ts) (forms_of kind)
