-- A message within a bound enters the code within it.
use Rattle.std.proofs.Common.{ℕ, ◌-◌, ◌<◌, List, [], ◌∷◌, ◌++◌, length, take, arith}
use Rattle.std.specs.Prelude.{replicate}
use Rattle.tw_base.specs.declared.message.Message.{Message}
use Rattle.tw_base.specs.declared.value.Value.TheVariants as v
use Rattle.teapot_tree.specs.declared.protocol.Param.{Param}
use Rattle.teapot_tree.specs.declared.protocol.Protocol.{Protocol}
use Rattle.teapot_tree.specs.declared.protocol.ValType.{ValType}
use Rattle.teapot_tree.specs.declared.protocol.ValType.TheVariants as ty
use Rattle.teapot_meaning.specs.Does.{zero_of}
use Rattle.handler_code.specs.declared.code.Door.{Door}
use Rattle.handler_code.specs.declared.code.Kind2.{Kind2}
use Rattle.handler_code.specs.declared.code.Kind2.TheVariants as on
use Rattle.handler_code.specs.Doors.{Cell, args_taken, locals_of, slots_at, zeros_of}
use Rattle.value_nodes.specs.Within.{AreWithin, IsCellWithin, IsMessageWithin, IsValueWithin, MessagesStayWithin}
use Rattle.value_nodes.proofs.Constants.{code_has_no_nodes}
use Rattle.value_nodes.proofs.Running.{runs_stay_within}
use Rattle.value_nodes.proofs.Within.{each_append, each_replicate, empty_within}

zero_within : (n : ℕ) (t : ValType) → 0 < n → IsValueWithin n (zero_of t)
zero_within n ty.Int some = tt
zero_within n ty.Bool some = tt
zero_within n ty.Node some = some
zero_within n ty.Set some = empty_within n

zeros_within : (n : ℕ) (locals : List Param) → 0 < n → AreWithin n (zeros_of locals)
zeros_within n [] some = tt
zeros_within n (l ∷ locals) some = (zero_within n l.ty some, zeros_within n locals some)

taken_within : (n : ℕ) (k : Kind2) (m : Message) → AreWithin n (take m.arg_count m.args) → AreWithin n (args_taken k m)
taken_within n on.Default m h = tt
taken_within n on.RdFault m h = h
taken_within n on.WrFault m h = h
taken_within n (on.Named k) m h = h

slots_within : (n : ℕ) (p : Protocol) (door : Door) (cell : Cell) (m : Message) → 0 < n → IsCellWithin n cell →
    IsMessageWithin n m → AreWithin n (slots_at p door cell.args m)
slots_within n p door cell m some c h =
    let zeros = zeros_of (locals_of p door) in
    let taken = args_taken door.on m in
    let vars = v.Node m.from ∷ (cell.args ++ (taken ++ zeros)) in
    let first : AreWithin n (taken ++ zeros) = each_append (IsValueWithin n) taken zeros (taken_within n door.on m h.1)
    (zeros_within n (locals_of p door) some) in
    let both : AreWithin n (cell.args ++ (taken ++ zeros)) = each_append (IsValueWithin n) cell.args (taken ++ zeros) c.0 first in
    each_append (IsValueWithin n) vars (replicate (door.slots - length vars) (v.Int 0)) (h.0, both)
    (each_replicate (IsValueWithin n) (door.slots - length vars) (v.Int 0) tt)

pub messages_stay_within : MessagesStayWithin
messages_stay_within n p code me home block tag words cell chain m e is low high cells chains message enters =
    let some : 0 < n = omega arith in
    runs_stay_within n p code _ e some (code_has_no_nodes p code is) (record {
      slots = slots_within n p enters.door cell m some cells message;
      stack = tt;
      infos = cells.1;
      args = cells.0;
      chain = chains;
      me = low;
      home = high;
      sends = tt;
    }) enters.runs
