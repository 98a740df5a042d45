-- The code of a protocol, handler after handler.
use Rattle.std.specs.Prelude.{ℕ, ◌≡◌, ◌+◌, List, [], ◌∷◌, ◌++◌, Bool, true, length, map, nat_lt, slice_index}
use Rattle.std.specs.List.{flat_map, enumerate_from, fold, list_all}
use Rattle.teapot_tree.specs.declared.protocol.Handler.{Handler}
use Rattle.teapot_tree.specs.declared.protocol.Protocol.{Protocol}
use Rattle.teapot_tree.specs.declared.protocol.State.{State}
use Rattle.handler_code.specs.declared.code.Code.{Code}
use Rattle.handler_code.specs.declared.code.OpCode.{OpCode}
use Rattle.handler_code.specs.declared.code.OpCode.TheVariants as op
use Rattle.handler_code.specs.declared.code.Rest.{Rest}
use Rattle.compiled_meaning.specs.Whole.{Entry, door_of, entry_code}
use Rattle.live_slots.specs.Tables.{IsExact}

abbrev pub entry_in : ℕ → State → Handler → Entry
entry_in number s h = record { number = number; state = s; handler = h }

abbrev pub entries_in : ℕ → State → List Entry
entries_in number s = map (entry_in number s) s.handlers

-- what a `Suspend` at a place leaves for later. Which slots are live is not known yet
abbrev pub rest_after : ℕ → ℕ → OpCode → List Rest
rest_after door at (op.Suspend s r) = record { at = at + 1; door = door; live = 0 } ∷ []
rest_after door at _ = []

abbrev pub rests_after : ℕ → ℕ → List OpCode → List Rest
rests_after door at ops = flat_map (λ q. rest_after door (at + q.0) q.1) (enumerate_from 0 ops)

-- the code with that of one handler more
abbrev pub with_ops : Protocol → Code → Entry → List OpCode → Code
with_ops p code d ops = record {
  ops = code.ops ++ ops;
  doors = code.doors ++ door_of p d (length code.ops) ops ∷ [];
  rests = code.rests ++ rests_after (length code.doors) (length code.ops) ops;
}

unfoldable pub with_entry : Protocol → Code → Entry → Code
with_entry p code d = with_ops p code d (entry_code p d (length code.ops) (length code.rests) 0)

abbrev pub with_entries : Protocol → Code → List Entry → Code
with_entries p code entries = fold (with_entry p) code entries

abbrev pub no_code : Code
no_code = record { ops = []; doors = []; rests = [] }

-- the slot that the op reads, if it reads one, is below 32
abbrev pub reads_low : OpCode → Bool
reads_low (op.Get k) = nat_lt k 32
reads_low (op.EachNext k h to) = nat_lt h 32
reads_low _ = true

-- the slots of the table at the place of the rest
abbrev pub with_live : List ℕ → Rest → Rest
with_live table r = record r { live = slice_index table r.at }

-- the code with the live slots of its rests
pub record HasLive (code full : Code) : Type 0 where
  pub low : list_all reads_low code.ops ≡ true
  pub table : List ℕ
  pub exact : IsExact code.ops table
  pub is : full ≡ record code { rests = map (with_live table) code.rests }
