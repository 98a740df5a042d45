-- What each statement does.
use Rattle.std.specs.Prelude.{ℕ, ◌∷◌, ◌++◌, Bool, true, if◌then◌else◌, nat_le, List, [], Option, Some, None, map, slice_get}
use Rattle.std.specs.Prelude.{slice_set, position, unwrap_or}
use Rattle.std.specs.Str.{bytes_eq}
use Rattle.tw_base.specs.NodeSets.{empty, without}
use Rattle.tw_base.specs.declared.name.Name.{Name}
use Rattle.tw_base.specs.declared.message.Kind.TheVariants.{Named}
use Rattle.tw_base.specs.declared.value.Data.{Data}
use Rattle.tw_base.specs.declared.value.Tag.{Tag}
use Rattle.tw_base.specs.declared.value.Value.{Value}
use Rattle.tw_base.specs.declared.value.Value.TheVariants as v
use Rattle.teapot_tree.specs.declared.expr.Expr.{Expr}
use Rattle.teapot_tree.specs.declared.protocol.MessageDecl.{MessageDecl}
use Rattle.teapot_tree.specs.declared.protocol.Protocol.{Protocol}
use Rattle.teapot_tree.specs.declared.stmt.Do.{roll-Do}
use Rattle.teapot_tree.specs.declared.stmt.Do.TheOpen.{Do-F}
use Rattle.teapot_tree.specs.declared.stmt.Stmt.{Stmt}
use Rattle.teapot_tree.specs.Scopes.{message_number, state_number}
use Rattle.teapot_meaning.specs.Layers.{Layer, what_of}
use Rattle.teapot_meaning.specs.Names.{declared, error_number, info_number}
use Rattle.teapot_meaning.specs.declared.state.Bound.{Bound}
use Rattle.teapot_meaning.specs.declared.state.Cont.{Cont, out-Cont, roll-Cont}
use Rattle.tw_base.specs.declared.entry.End.{End}
use Rattle.tw_base.specs.declared.entry.End.TheVariants.{Fine, Failed, TooDeep}
use Rattle.teapot_meaning.specs.declared.state.Ended.{Ended}
use Rattle.teapot_meaning.specs.declared.state.Kept.{Kept}
use Rattle.teapot_meaning.specs.declared.state.Kept.TheVariants.{Stale, Eligible}
use Rattle.teapot_meaning.specs.declared.state.Next.{Next}
use Rattle.teapot_meaning.specs.declared.state.Next.TheVariants.{On, Over}
use Rattle.teapot_meaning.specs.declared.state.Out.{Out}
use Rattle.teapot_meaning.specs.declared.state.Running.{Running}
use Rattle.teapot_meaning.specs.declared.state.StateVal.{StateVal, out-StateVal, roll-StateVal}
use Rattle.teapot_meaning.specs.Values.{value_of}
use Rattle.teapot_meaning.specs.Depth.{depth, nodes_in}

unfoldable pub ended : Running → End → Ended
ended r end =
    record { here = r.here; sends = r.sends; kept = r.kept; freed = r.freed; woke = r.woke; end = end }

abbrev pub values_of : Protocol → Running → List Expr → List Value
values_of p r es = map (value_of p r) es

abbrev pub with_state : Running → StateVal → Running
with_state r s = record r { here = record r.here { state = s } }

unfoldable pub tagged : Running → Tag → Running
tagged r tag = record r { here = record r.here { tag = tag } }

abbrev pub installed : Running → Data → Running
installed r words = record r { here = record r.here { words = words } }

abbrev pub deferred : Running → Running
deferred r = record r { kept = Stale }

abbrev pub woken : Running → Running
woken r = record r { woke = true }

abbrev pub place_of : Name → List Bound → Option ℕ
place_of name vars = position (λ b. bytes_eq b.name name) vars

abbrev pub assigned_info : Running → Value → Option ℕ → Running
assigned_info r value (Some i) = record r { here = record r.here { infos = slice_set r.here.infos i value } }
assigned_info r value None = r

-- a new value for a variable of the handler, else for an info
abbrev pub assigned_at : Running → Name → Value → Option ℕ → Option ℕ → Running
assigned_at r name value (Some i) info =
    record r { vars = slice_set r.vars i (record { name = name; value = value }) }
assigned_at r name value None info = assigned_info r value info

unfoldable pub assigned : Protocol → Running → Name → Value → Running
assigned p r name value = assigned_at r name value (place_of name r.vars) (info_number p name)

unfoldable pub branch : Value → List Stmt → Option (List Stmt) → List Stmt
branch (v.Bool true) first second = first
branch _ first second = unwrap_or second []

abbrev pub node_of : Value → ℕ
node_of (v.Node n) = n
node_of _ = 0

-- the block's words, where the message carries them
unfoldable pub payload_of : Option MessageDecl → Data → Option Data
payload_of (Some m) words = if m.carries then Some words else None
payload_of None words = None

abbrev pub out_to : ℕ → List Value → Option Data → ℕ → Out
out_to number args payload node = record { to = node; kind = Named number; args = args; payload = payload }

abbrev pub out_of : Protocol → Running → Value → ℕ → List Value → Out
out_of p r to number args = out_to number args (payload_of (slice_get p.messages number) r.here.words) (node_of to)

unfoldable pub sent : Protocol → Running → Value → ℕ → List Value → Running
sent p r to number args = record r { sends = r.sends ++ out_of p r to number args ∷ [] }

abbrev pub set_of : Value → List Bool
set_of (v.Set s) = s
set_of _ = empty

-- to each node of the set in rising order
unfoldable pub sent_all : Protocol → Running → Value → ℕ → List Value → Running
sent_all p r to number args =
    record r {
      sends = r.sends ++ map (out_to number args (payload_of (slice_get p.messages number) r.here.words))
          (nodes_in (set_of to));
    }

abbrev pub freed_kept : Kept → Kept
freed_kept Stale = Eligible
freed_kept k = k

-- the state of this number, and the block's deferred messages eligible
unfoldable pub moved : Running → ℕ → List Value → Running
moved r state args =
    record (with_state r (roll-StateVal (record { state = state; args = args; cont = (out-StateVal r.here.state).cont }))) {
      freed = true;
      kept = freed_kept r.kept;
    }

-- the state of this number, from which the rest is resumed
abbrev pub suspended : Running → ℕ → List Value → List Stmt → Running
suspended r state args rest =
    let kept = roll-Cont (record { rest = rest; vars = r.vars; came = r.came; saved = r.here.state }) in
    with_state r (roll-StateVal (record { state = state; args = args; cont = Some kept }))

unfoldable pub suspends : Running → ℕ → List Value → List Stmt → Next
suspends r state args rest =
    if nat_le 8 (depth r.here.state) then Over (ended r TooDeep)
    else Over (ended (suspended r state args rest) Fine)

-- the state that was left, and the rest with its variables
unfoldable pub resumes : Running → Option Cont → Next
resumes r (Some k) =
    On (out-Cont k).rest (record (with_state r (out-Cont k).saved) {
      vars = (out-Cont k).vars;
      came = (out-Cont k).came;
      freed = true;
      kept = freed_kept r.kept;
    })
resumes r None = Over (ended r Fine)

abbrev pub each : Name → List Bool → List Stmt → Stmt
each x set body = record { what = roll-Do (Do-F.Each x set body); line = 0 }

-- the least node of a set
abbrev pub least_of : List Bool → Option ℕ
least_of set = slice_get (nodes_in set) 0

-- the body for the least node, and then the loop again without it; or what follows the loop
abbrev pub turned : Protocol → Name → List Bool → Option ℕ → List Stmt → List Stmt → Running → Next
turned p x set None body rest r = On rest r
turned p x set (Some n) body rest r = On (body ++ each x (without set n) body ∷ rest) (assigned p r x (v.Node n))

unfoldable pub turns : Protocol → Name → List Bool → List Stmt → List Stmt → Running → Next
turns p x set body rest r = turned p x set (least_of set) body rest r

-- what a statement leads to, with the statements that follow it
abbrev pub led_to : Protocol → Layer → List Stmt → Running → Next
led_to p (Do-F.Assign name e) rest r = On rest (assigned p r name (value_of p r e))
led_to p (Do-F.If e first second) rest r = On (branch (value_of p r e) first second ++ rest) r
led_to p (Do-F.Send to name args) rest r =
    On rest (sent p r (value_of p r to) (declared (message_number p name)) (values_of p r args))
led_to p (Do-F.SendAll to name args) rest r =
    On rest (sent_all p r (value_of p r to) (declared (message_number p name)) (values_of p r args))
led_to p (Do-F.SetTag tag) rest r = On rest (tagged r tag)
led_to p (Do-F.SetState name args) rest r =
    On rest (moved r (declared (state_number p name)) (values_of p r args))
led_to p (Do-F.Suspend label name args passed) rest r =
    suspends r (declared (state_number p name)) (values_of p r args) rest
led_to p (Do-F.Resume name) rest r = resumes r (out-StateVal r.here.state).cont
led_to p (Do-F.ForEach x e body) rest r = On (each x (set_of (value_of p r e)) body ∷ rest) r
led_to p (Do-F.Each x set body) rest r = turns p x set body rest r
led_to p Do-F.Install rest r = On rest (installed r (unwrap_or r.came r.here.words))
led_to p Do-F.Enqueue rest r = On rest (deferred r)
led_to p Do-F.WakeUp rest r = On rest (woken r)
led_to p (Do-F.Error name) rest r = Over (ended r (Failed (error_number p name)))

-- what the first statement leads to
abbrev pub next_of : Protocol → List Stmt → Running → Next
next_of p [] r = Over (ended r Fine)
next_of p (s ∷ rest) r = led_to p (what_of s) rest r
