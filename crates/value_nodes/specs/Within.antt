-- Values, messages and machines whose nodes are numbered below a bound.
use Rattle.std.specs.Prelude.{ℕ, ◌≡◌, ◌<◌, true, List, take}
use Rattle.tw_base.specs.Lists.{Each}
use Rattle.tw_base.specs.NodeSets.{has}
use Rattle.tw_base.specs.declared.message.Message.{Message}
use Rattle.tw_base.specs.declared.value.Data.{Data}
use Rattle.tw_base.specs.declared.value.Tag.{Tag}
use Rattle.tw_base.specs.declared.value.Value.{Value}
use Rattle.tw_base.specs.declared.value.Value.TheVariants as v
use Rattle.teapot_tree.specs.declared.protocol.Protocol.{Protocol}
use Rattle.teapot_meaning.specs.declared.state.Out.{Out}
use Rattle.handler_code.specs.declared.code.Code.{Code}
use Rattle.handler_code.specs.declared.code.OpCode.TheVariants as op
use Rattle.handler_code.specs.Doors.{Cell, Enters}
use Rattle.handler_code.specs.Live.{HasOp}
use Rattle.handler_code.specs.Machine.{Machine, Runs, Saved, Stopped}
use Rattle.compiled_meaning.specs.Whole.{IsCode}

-- a node, or each member of a set, is below n
abbrev pub IsValueWithin : ℕ → Value → Type 0
IsValueWithin n (v.Node k) = k < n
IsValueWithin n (v.Set s) = (k : ℕ) → has s k ≡ true → k < n
IsValueWithin n (v.Int x) = Unit {0}
IsValueWithin n (v.Bool b) = Unit {0}

abbrev pub AreWithin : ℕ → List Value → Type 0
AreWithin n values = Each (IsValueWithin n) values

-- a record of a suspension
abbrev pub IsSavedWithin : ℕ → Saved → Type 0
IsSavedWithin n x = AreWithin n x.values × AreWithin n x.args

-- a message that is sent: its receiver, and its arguments
abbrev pub IsSendWithin : ℕ → Out → Type 0
IsSendWithin n o = (o.to < n) × AreWithin n o.args

-- all that the machine holds
pub record IsMachineWithin (n : ℕ) (m : Machine) : Type 0 where
  pub slots : AreWithin n m.slots
  pub stack : AreWithin n m.stack
  pub infos : AreWithin n m.around.infos
  pub args : AreWithin n m.args
  pub chain : Each (IsSavedWithin n) m.chain
  pub me : m.around.me < n
  pub home : m.around.home < n
  pub sends : Each (IsSendWithin n) m.around.sends

-- all that is left when it stops
pub record IsStoppedWithin (n : ℕ) (e : Stopped) : Type 0 where
  pub infos : AreWithin n e.around.infos
  pub args : AreWithin n e.args
  pub chain : Each (IsSavedWithin n) e.chain
  pub sends : Each (IsSendWithin n) e.around.sends

-- no op puts a node on the stack that the machine does not hold
abbrev pub HasNoNodes : Code → Type 0
HasNoNodes code = (at : ℕ) (x : Value) → HasOp code.ops at (op.Const x) → IsValueWithin 0 x

abbrev pub CodeHasNoNodes : Type 0
CodeHasNoNodes = (p : Protocol) (code : Code) → IsCode p code → HasNoNodes code

-- A missing operand is the number 0, which as a receiver is node 0: so there is a node.
abbrev pub RunsStayWithin : Type 0
RunsStayWithin = (n : ℕ) (p : Protocol) (code : Code) (m : Machine) (e : Stopped) →
    0 < n → HasNoNodes code → IsMachineWithin n m → Runs p code m e → IsStoppedWithin n e

-- ---- a message at a block

abbrev pub IsCellWithin : ℕ → Cell → Type 0
IsCellWithin n cell = AreWithin n cell.args × AreWithin n cell.infos

abbrev pub IsMessageWithin : ℕ → Message → Type 0
IsMessageWithin n m = (m.from < n) × AreWithin n (take m.arg_count m.args)

-- With compiled code, where all nodes are below n, a message is answered to nodes below n alone, and what is sent and kept
-- holds nodes below n alone.
abbrev pub MessagesStayWithin : Type 0
MessagesStayWithin =
    (n : ℕ) (p : Protocol) (code : Code) (me home block : ℕ) (tag : Tag) (words : Data) (cell : Cell) (chain : List Saved)
    (m : Message) (e : Stopped) →
    IsCode p code →
    me < n →
    home < n →
    IsCellWithin n cell →
    Each (IsSavedWithin n) chain →
    IsMessageWithin n m →
    Enters p code me home block tag words cell chain m e →
    IsStoppedWithin n e
