-- Handlers under way, on plain data: a state holds at most one continuation, and that is kept in the notation.
use Rattle.std.specs.Prelude.{ℕ, zero, suc, Bool, true, List, [], ◌∷◌, ◌++◌, Option, Some, None, map, slice_get, slice_set}
use Rattle.std.specs.Prelude.{unwrap_or, codes}
use Rattle.tw_base.specs.declared.name.Name.{Name}
use Rattle.tw_base.specs.declared.value.Data.{Data}
use Rattle.tw_base.specs.declared.value.Tag.{Tag}
use Rattle.tw_base.specs.declared.value.Value.{Value}
use Rattle.tw_base.specs.declared.value.Value.TheVariants as v
use Rattle.teapot_tree.specs.declared.protocol.Protocol.{Protocol}
use Rattle.tw_base.specs.NodeSets.{empty}
use Rattle.teapot_tree.specs.Scopes.{message_number, state_number}
use Rattle.teapot_meaning.specs.Depth.{nodes_in}
use Rattle.teapot_meaning.specs.Names.{declared, error_number, info_number}
use Rattle.teapot_meaning.specs.declared.state.Bound.{Bound}
use Rattle.teapot_meaning.specs.declared.state.Cont.{Cont, roll-Cont}
use Rattle.tw_base.specs.declared.entry.End.{End}
use Rattle.tw_base.specs.declared.entry.End.TheVariants.{Fine, Failed}
use Rattle.teapot_meaning.specs.declared.state.Ended.{Ended}
use Rattle.teapot_meaning.specs.declared.state.Here.{Here}
use Rattle.teapot_meaning.specs.declared.state.Kept.{Kept}
use Rattle.teapot_meaning.specs.declared.state.Kept.TheVariants.{Stale}
use Rattle.teapot_meaning.specs.declared.state.Out.{Out}
use Rattle.teapot_meaning.specs.declared.state.Running.{Running}
use Rattle.teapot_meaning.specs.declared.state.StateVal.{StateVal, roll-StateVal}
use Rattle.teapot_meaning.specs.Steps.{freed_kept, node_of, out_to, payload_of, place_of, set_of}
use Rattle.teapot_meaning.specs.Values.{bound_in, count_of, info_at, one_of, two_of, variable_or}
use Rattle.stache_tree.specs.Code.{Code, Term, Done, Assign, When, Last, Send, SendAll, SetTag, SetState, Suspend, Resume}
use Rattle.stache_tree.specs.Code.{Error, Install, Enqueue, WakeUp, Number, Empty, Src, Home, Var, One, Count, Two, stmts_of}

-- the rest, its variables, and the number of the state that was left
pub record Later : Type 0 where
  pub rest : Code
  pub vars : List Bound
  pub came : Option Data
  pub state : ℕ

pub record Run : Type 0 where
  pub me : ℕ
  pub home : ℕ
  pub block : ℕ
  pub infos : List Value
  pub state : ℕ
  pub later : Option Later
  pub tag : Tag
  pub words : Data
  pub vars : List Bound
  pub came : Option Data
  pub sends : List Out
  pub kept : Kept
  pub freed : Bool
  pub woke : Bool

abbrev pub alone : ℕ → StateVal
alone n = roll-StateVal (record { state = n; args = []; cont = None })

abbrev pub cont_of : Later → Cont
cont_of k = roll-Cont (record { rest = stmts_of k.rest; vars = k.vars; came = k.came; saved = alone k.state })

abbrev pub cont_if : Option Later → Option Cont
cont_if (Some k) = Some (cont_of k)
cont_if None = None

abbrev pub state_val : ℕ → Option Later → StateVal
state_val n later = roll-StateVal (record { state = n; args = []; cont = cont_if later })

abbrev pub here_in : Run → Here
here_in r = record {
  me = r.me;
  home = r.home;
  block = r.block;
  infos = r.infos;
  state = state_val r.state r.later;
  tag = r.tag;
  words = r.words;
}

abbrev pub real : Run → Running
real r = record {
  here = here_in r;
  vars = r.vars;
  came = r.came;
  sends = r.sends;
  kept = r.kept;
  freed = r.freed;
  woke = r.woke;
}

abbrev pub over : Run → End → Ended
over r end = record { here = here_in r; sends = r.sends; kept = r.kept; freed = r.freed; woke = r.woke; end = end }

abbrev pub var : Protocol → Run → Name → Value
var p r name = variable_or (bound_in r.vars name) (info_at r.infos (info_number p name))

abbrev pub val : Protocol → Run → Term → Value
val p r (Number n) = v.Int n
val p r Empty = v.Set empty
val p r Src = var p r (codes "src")
val p r Home = v.Node r.home
val p r (Var name) = var p r name
val p r (One a) = one_of (val p r a)
val p r (Count a) = count_of (val p r a)
val p r (Two op a b) = two_of op (val p r a) (val p r b)

abbrev pub put : Run → Name → Value → Option ℕ → Option ℕ → Run
put r name value (Some i) info = record r { vars = slice_set r.vars i (record { name = name; value = value }) }
put r name value None (Some i) = record r { infos = slice_set r.infos i value }
put r name value None None = r

-- the last of these numbers
abbrev pub last_of : ℕ → List ℕ → ℕ
last_of n [] = n
last_of n (m ∷ ms) = last_of m ms

-- the variable has been each of these nodes in turn
abbrev pub put_last : Run → Name → List ℕ → Option ℕ → Option ℕ → Run
put_last r name [] i j = r
put_last r name (n ∷ ns) i j = put r name (v.Node (last_of n ns)) i j

abbrev pub out : Protocol → Run → ℕ → ℕ → Out
out p r to n = out_to n [] (payload_of (slice_get p.messages n) r.words) to

abbrev pub joined : Code → Code → Code
joined Done d = d
joined (Assign name e c) d = Assign name e (joined c d)
joined (When e first c) d = When e first (joined c d)
joined (Last name e c) d = Last name e (joined c d)
joined (Send to name c) d = Send to name (joined c d)
joined (SendAll to name c) d = SendAll to name (joined c d)
joined (SetTag tag c) d = SetTag tag (joined c d)
joined (SetState name c) d = SetState name (joined c d)
joined (Suspend name c) d = Suspend name (joined c d)
joined (Resume name c) d = Resume name (joined c d)
joined (Error name c) d = Error name (joined c d)
joined (Install c) d = Install (joined c d)
joined (Enqueue c) d = Enqueue (joined c d)
joined (WakeUp c) d = WakeUp (joined c d)

abbrev pub picked : Value → Code → Code → Code
picked (v.Bool true) first c = joined first c
picked _ first c = c

pub data Turn : Type 0 where
  Going : Code → Run → Turn
  Stopped : Run → End → Turn
  Lost : Turn

abbrev pub suspend : Code → Run → ℕ → Option Later → Turn
suspend c r n None =
    Stopped (record r { state = n; later = Some (record { rest = c; vars = r.vars; came = r.came; state = r.state }) }) Fine
suspend c r n (Some k) = Lost

abbrev pub resume : Run → Option Later → Turn
resume r (Some k) =
    Going k.rest (record r {
      state = k.state;
      later = None;
      vars = k.vars;
      came = k.came;
      freed = true;
      kept = freed_kept r.kept;
    })
resume r None = Stopped r Fine

-- what the first statement leads to; an empty loop is one turn
abbrev pub turn : Protocol → Code → Run → Turn
turn p Done r = Stopped r Fine
turn p (Assign name e c) r = Going c (put r name (val p r e) (place_of name r.vars) (info_number p name))
turn p (When e first c) r = Going (picked (val p r e) first c) r
turn p (Last name e c) r = Going c (put_last r name (nodes_in (set_of (val p r e))) (place_of name r.vars) (info_number p name))
turn p (Send to name c) r =
    Going c (record r { sends = r.sends ++ out p r (node_of (val p r to)) (declared (message_number p name)) ∷ [] })
turn p (SendAll to name c) r =
    Going c (record r {
      sends = r.sends ++ map (λ i. out p r i (declared (message_number p name)))
          (nodes_in (set_of (val p r to)));
    })
turn p (SetTag tag c) r = Going c (record r { tag = tag })
turn p (SetState name c) r =
    Going c (record r { state = declared (state_number p name); freed = true; kept = freed_kept r.kept })
turn p (Suspend name c) r = suspend c r (declared (state_number p name)) r.later
turn p (Resume name c) r = resume r r.later
turn p (Error name c) r = Stopped r (Failed (error_number p name))
turn p (Install c) r = Going c (record r { words = unwrap_or r.came r.words })
turn p (Enqueue c) r = Going c (record r { kept = Stale })
turn p (WakeUp c) r = Going c (record r { woke = true })

abbrev pub then_on : Turn → (Code → Run → Option (Run × End)) → Option (Run × End)
then_on (Going c r) on = on c r
then_on (Stopped r end) on = Some (r, end)
then_on Lost on = None

-- the end, if it comes within so many statements
abbrev pub play : ℕ → Protocol → Code → Run → Option (Run × End)
play zero p c r = None
play (suc n) p c r = then_on (turn p c r) (play n p)
