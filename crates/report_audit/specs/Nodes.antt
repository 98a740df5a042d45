-- The lines of nodes beside the flat machine and the events.
use Rattle.std.specs.Prelude.{ℕ, nat_eq, if◌then◌else◌, ◌&&◌, ◌||◌, codes, Bool, true, false, List, [], ◌∷◌, ◌++◌, count_by}
use Rattle.std.specs.Prelude.{slice_get, Option, Some, None, unwrap_or}
use Rattle.tw_lex.specs.declared.token.Token.{Token}
use Rattle.tw_lex.specs.declared.token.What.{What}
use Rattle.tw_lex.specs.declared.token.What.TheVariants.{Word, Number}
use Rattle.mini_asm.specs.Run.{Machine}
use Rattle.mini_asm.specs.Spelling.{word_at}
use Rattle.mini_asm.specs.declared.processor.Core.{Core}
use Rattle.mini_asm.specs.declared.processor.FlatMode.{FlatMode}
use Rattle.mini_asm.specs.declared.processor.FlatMode.TheVariants as flat
use Rattle.printed_text.specs.Names.{trap_text}
use Rattle.report_reader.specs.declared.kind.LineKind.{LineKind}
use Rattle.report_reader.specs.declared.kind.LineKind.TheVariants as kinds
use Rattle.report_reader.specs.declared.lines.PrintedLine.{PrintedLine}
use Rattle.printed_lines.specs.Reading.{kind_of, node_at, node_of}
use Rattle.printed_lines.specs.Saying.{says}
use Rattle.printed_lines.specs.Tokens.{whats}

-- ---- the events of a node

abbrev pub is_node : ℕ → Option ℕ → Bool
is_node node None = false
is_node node (Some other) = nat_eq other node

-- an instruction, whether it completed or was refused; else a message that was handled
abbrev pub is_try : LineKind → Bool
is_try kinds.Completed = true
is_try kinds.Fault = true
is_try _ = false

abbrev pub is_tried : ℕ → List Token → Bool
is_tried node ts = is_node node (node_of ts) && is_try (kind_of ts)

abbrev pub is_handling : LineKind → Bool
is_handling kinds.Redelivered = true
is_handling kinds.Delivered = true
is_handling _ = false

abbrev pub is_handled : ℕ → List Token → Bool
is_handled node ts = is_node node (node_of ts) && is_handling (kind_of ts)

-- how many instructions a node tried, and how many messages it handled
abbrev pub tried : ℕ → List PrintedLine → ℕ
tried node events = count_by (λ l. is_tried node l.tokens) events

abbrev pub handled : ℕ → List PrintedLine → ℕ
handled node events = count_by (λ l. is_handled node l.tokens) events

-- ---- the line of a node

-- what a line says of a node that the flat machine has left so, where it says how the processor stands
abbrev pub end_tokens : FlatMode → List What
end_tokens flat.Running = Word (codes "stuck") ∷ []
end_tokens flat.Halted = Word (codes "halted") ∷ []
end_tokens (flat.Trapped why) = Word (codes "trapped") ∷ Word (trap_text why) ∷ []

-- that a handler failed, by any name
abbrev pub failed_tokens : List Token → List What
failed_tokens ts = Word (codes "failed") ∷ Word (unwrap_or (word_at ts 3) []) ∷ []

abbrev pub name_tokens : ℕ → List What
name_tokens node = Word (codes "node") ∷ Number node ∷ []

abbrev pub count_tokens : ℕ → ℕ → ℕ → List What
count_tokens place instructions handlers =
    Word (codes "place") ∷ Number place ∷ Word (codes "instructions") ∷ Number instructions ∷ Word
    (codes "handlers") ∷ Number handlers ∷ []

-- a node that ended so
abbrev pub node_tokens : ℕ → List What → ℕ → ℕ → ℕ → List What
node_tokens node end place instructions handlers = name_tokens node ++ (end ++ count_tokens place instructions handlers)

-- The line of a node says how its processor stands, or that the node is spent or failed, of which the flat machine knows
-- nothing; and its place and the numbers of its events are these.
abbrev pub is_node_line : ℕ → FlatMode → ℕ → ℕ → ℕ → List Token → Bool
is_node_line node mode place instructions handlers ts =
    says (node_tokens node (end_tokens mode) place instructions handlers) (whats ts)
    || says (node_tokens node (Word (codes "spent") ∷ []) place instructions handlers) (whats ts)
    || says (node_tokens node (failed_tokens ts) place instructions handlers) (whats ts)

-- with this processor
abbrev pub is_line_beside : List PrintedLine → ℕ → Option Core → List Token → Bool
is_line_beside events node None ts = false
is_line_beside events node (Some core) ts = is_node_line node core.mode core.cpu.place (tried node events)
    (handled node events) ts

abbrev pub is_line_of : List PrintedLine → Machine → Option ℕ → List Token → Bool
is_line_of events m None ts = false
is_line_of events m (Some node) ts = is_line_beside events node (slice_get m.cores node) ts

-- the line is right, of the node that it names
abbrev pub is_right : List PrintedLine → Machine → List Token → Bool
is_right events m ts = is_line_of events m (node_at ts 1) ts

-- the first line of a node that is not right
unfoldable pub wrong_node : List PrintedLine → Machine → List PrintedLine → Option ℕ
wrong_node events m [] = None
wrong_node events m (l ∷ ls) = if is_right events m l.tokens then wrong_node events m ls else Some l.line
