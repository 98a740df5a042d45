-- The text of code.
use Rattle.std.specs.Prelude.{ℕ, ◌+◌, ◌==◌, if◌then◌else◌, codes, length, min, Bool, true, false, List, [], ◌∷◌, ◌++◌}
use Rattle.std.specs.List.{flat_map, enumerate_from, range_with_len, slice_range}
use Rattle.std.specs.Int.{bit_at}
use Rattle.std.specs.Fmt.{decimal}
use Rattle.tw_base.specs.declared.message.Kind.TheVariants as kind
use Rattle.tw_base.specs.declared.value.Value.{Value}
use Rattle.tw_base.specs.declared.value.Value.TheVariants as v
use Rattle.teapot_tree.specs.declared.expr.Op.{Op}
use Rattle.teapot_tree.specs.declared.expr.Op.TheVariants as two
use Rattle.teapot_tree.specs.declared.protocol.Protocol.{Protocol}
use Rattle.printed_text.specs.Names.{error_name, kind_name, message_name, state_name, tag_text}
use Rattle.handler_code.specs.declared.code.Code.{Code}
use Rattle.handler_code.specs.declared.code.Door.{Door}
use Rattle.handler_code.specs.declared.code.Kind2.{Kind2}
use Rattle.handler_code.specs.declared.code.Kind2.TheVariants as on
use Rattle.handler_code.specs.declared.code.OpCode.{OpCode}
use Rattle.handler_code.specs.declared.code.OpCode.TheVariants as op
use Rattle.handler_code.specs.declared.code.Rest.{Rest}
use Rattle.code_walks.specs.Parts.{end_of}

-- ---- names

abbrev pub trigger_name : Protocol → Kind2 → List ℕ
trigger_name p on.RdFault = kind_name p kind.RdFault
trigger_name p on.WrFault = kind_name p kind.WrFault
trigger_name p (on.Named number) = message_name p number
trigger_name p on.Default = codes "Default"

-- ---- ops

-- The set of a constant is the empty one, and no constant is a node.
abbrev pub value_text : Value → List ℕ
value_text (v.Int n) = decimal n
value_text (v.Bool true) = codes "True"
value_text (v.Bool false) = codes "False"
value_text (v.Set s) = codes "Empty"
value_text (v.Node n) = decimal n

abbrev pub two_text : Op → List ℕ
two_text two.Add = codes "Add"
two_text two.Sub = codes "Sub"
two_text two.Eq = codes "Eq"
two_text two.Ne = codes "Ne"
two_text two.Lt = codes "Lt"
two_text two.Le = codes "Le"
two_text two.And = codes "And"
two_text two.Or = codes "Or"
two_text two.Has = codes "Has"
two_text two.With = codes "With"
two_text two.Without = codes "Without"

-- a word, and what it is said of
abbrev pub of : List ℕ → List ℕ → List ℕ
of word what = word ++ 32 ∷ what

abbrev pub op_text : Protocol → OpCode → List ℕ
op_text p (op.Const x) = of (codes "Const") (value_text x)
op_text p (op.Get k) = of (codes "Get") (decimal k)
op_text p (op.GetInfo k) = of (codes "GetInfo") (decimal k)
op_text p op.Me = codes "Self"
op_text p op.Home = codes "Home"
op_text p op.One = codes "One"
op_text p op.Not = codes "Not"
op_text p op.Count = codes "Count"
op_text p (op.Two o) = two_text o
op_text p (op.Put k) = of (codes "Put") (decimal k)
op_text p (op.PutInfo k) = of (codes "PutInfo") (decimal k)
op_text p (op.JumpIfNot to) = of (codes "JumpIfNot") (decimal to)
op_text p (op.Jump to) = of (codes "Jump") (decimal to)
op_text p (op.Tag g) = of (codes "Tag") (tag_text g)
op_text p op.Install = codes "Install"
op_text p op.Enqueue = codes "Enqueue"
op_text p op.Wake = codes "Wake"
op_text p (op.Send m) = of (codes "Send") (message_name p m)
op_text p (op.SendAll m) = of (codes "SendAll") (message_name p m)
op_text p (op.Goto s) = of (codes "State") (state_name p s)
op_text p (op.Suspend s r) = of (codes "Suspend") (of (state_name p s) (decimal r))
op_text p op.Resume = codes "Resume"
op_text p (op.Fail n) = of (codes "Fail") (error_name p n)
op_text p op.Done = codes "Done"
op_text p (op.EachNext k h to) = of (codes "EachNext") (of (decimal k) (of (decimal h) (decimal to)))
op_text p (op.JumpBack to) = of (codes "JumpBack") (decimal to)

-- an op at its place
abbrev pub op_line : Protocol → ℕ → OpCode → List ℕ
op_line p place o = 32 ∷ 32 ∷ of (decimal place) (op_text p o ++ 10 ∷ [])

-- ---- rests

abbrev pub slot_text : ℕ → ℕ → List ℕ
slot_text live k = if bit_at live k == 1 then 32 ∷ decimal k else []

-- the live slots in rising order
abbrev pub live_text : ℕ → List ℕ
live_text live = if live == 0 then codes " none" else flat_map (slot_text live) (range_with_len 0 32)

abbrev pub rest_line : ℕ → Rest → List ℕ
rest_line number rest =
    of (codes "rest")
    (of (decimal number) (of (codes "at") (of (decimal rest.at) (codes "live" ++ (live_text rest.live ++ 10 ∷ [])))))

-- where it is of the handler of this door
abbrev pub rest_of : ℕ → ℕ × Rest → List ℕ
rest_of door q = if q.1.door == door then rest_line q.0 q.1 else []

-- ---- handlers

abbrev pub head_line : Protocol → Door → List ℕ
head_line p d =
    of (codes "handler") (of (state_name p d.state) (of (trigger_name p d.on) (of (codes "slots") (decimal d.slots ++ 10 ∷ []))))

-- where the handler of this door ends, at the latest at the end of all ops
abbrev pub end_within : Code → ℕ → ℕ
end_within code door = min (end_of code door) (length code.ops)

abbrev pub ops_text : Protocol → ℕ → List OpCode → List ℕ
ops_text p at ops = flat_map (λ q. op_line p (at + q.0) q.1) (enumerate_from 0 ops)

abbrev pub rests_text : ℕ → List Rest → List ℕ
rests_text door rests = flat_map (rest_of door) (enumerate_from 0 rests)

abbrev pub door_text : Protocol → Code → ℕ × Door → List ℕ
door_text p code q =
    head_line p q.1 ++ (ops_text p q.1.at (slice_range code.ops q.1.at (end_within code q.0)) ++ rests_text q.0 code.rests)

-- handler after handler, and a last line
abbrev pub text_of : Protocol → Code → List ℕ
text_of p code = flat_map (door_text p code) (enumerate_from 0 code.doors) ++ (codes "end" ++ 10 ∷ [])
