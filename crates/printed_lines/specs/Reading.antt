-- What the line of an event names.
use Rattle.std.specs.Prelude.{ℕ, ◌==◌, nat_lt, if◌then◌else◌, codes, List, Option, Some, None}
use Rattle.std.specs.Str.{bytes_eq}
use Rattle.tw_base.specs.Answers.{◌>>?◌}
use Rattle.tw_base.specs.declared.entry.Event.{Event}
use Rattle.tw_base.specs.declared.entry.Event.TheVariants as event
use Rattle.tw_base.specs.declared.message.Chan.{Chan}
use Rattle.tw_base.specs.declared.message.Chan.TheVariants.{Zero, One}
use Rattle.tw_lex.specs.declared.token.Token.{Token}
use Rattle.mini_asm.specs.Spelling.{number_at, word_at}
use Rattle.report_reader.specs.declared.kind.LineKind.{LineKind}
use Rattle.report_reader.specs.declared.kind.LineKind.TheVariants as kinds

abbrev pub kind_by : List ℕ → LineKind
kind_by word =
    if bytes_eq word (codes "fault") then kinds.Fault
    else (if bytes_eq word (codes "redeliver") then kinds.Redelivered
    else (if bytes_eq word (codes "deliver") then kinds.Delivered else kinds.Completed))

abbrev pub kind_or : Option (List ℕ) → LineKind
kind_or None = kinds.Completed
kind_or (Some word) = kind_by word

-- The kind of an event, by the word behind its node: an event that is no fault, redelivery or delivery is an instruction that
-- completed.
abbrev pub kind_of : List Token → LineKind
kind_of ts = kind_or (word_at ts 6)

-- ---- parts of a line

-- a node has a number below 8
abbrev pub node_numbered : ℕ → Option ℕ
node_numbered n = if nat_lt n 8 then Some n else None

abbrev pub node_at : List Token → ℕ → Option ℕ
node_at ts i = number_at ts i >>? λ n. node_numbered n

abbrev pub chan_numbered : ℕ → Option Chan
chan_numbered n = if n == 0 then Some Zero else (if n == 1 then Some One else None)

abbrev pub chan_at : List Token → ℕ → Option Chan
chan_at ts i = number_at ts i >>? λ n. chan_numbered n

-- the node at which an event happened
abbrev pub node_of : List Token → Option ℕ
node_of ts = node_at ts 5

-- ---- the event of a line

abbrev pub event_by : LineKind → List Token → Option Event
event_by kinds.Redelivered ts = node_of ts >>? λ i. Some (event.Redeliver i)
event_by kinds.Delivered ts = node_of ts >>? λ i. node_at ts 11 >>? λ from. chan_at ts 13 >>? λ chan. Some
    (event.Deliver i from chan)
event_by _ ts = node_of ts >>? λ i. Some (event.Instr i)

-- the event that a line tells of: an instruction, whether it completed or was refused, a redelivery, or a delivery from a node
-- on a channel
abbrev pub event_in : List Token → Option Event
event_in ts = event_by (kind_of ts) ts
