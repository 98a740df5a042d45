-- What the words, terms, statements and states stand for by which the protocols are told.
use Rattle.std.specs.Prelude.{Bool, true, false, codes, List, [], ◌∷◌, None, Option, Some, map}
use Rattle.tw_base.specs.declared.name.Name.{Name}
use Rattle.teapot_tree.specs.declared.expr.Expr.{Expr}
use Rattle.teapot_tree.specs.declared.expr.Op.TheVariants as op
use Rattle.teapot_tree.specs.declared.stmt.Stmt.{Stmt}
use Rattle.teapot_tree.specs.declared.stmt.Do.TheOpen.{Do-F}
use Rattle.stache_tree.specs.Code as code
use Rattle.stache_tree.specs.Code.{Number, Empty, Src, Home, Var, One, Count, Two, expr_of, label, said}
use Rattle.stache_check.specs.declared.word.Word.{Word}
use Rattle.stache_check.specs.declared.word.Word.TheVariants as w
use Rattle.stache_check.specs.declared.term.Atom.{Atom}
use Rattle.stache_check.specs.declared.term.Atom.TheVariants as a
use Rattle.stache_check.specs.declared.term.Term.{Term}
use Rattle.stache_check.specs.declared.term.Term.TheVariants as t
use Rattle.stache_check.specs.declared.line.Plain.{Plain}
use Rattle.stache_check.specs.declared.line.Plain.TheVariants as p
use Rattle.stache_check.specs.declared.line.Branch.{Branch}
use Rattle.stache_check.specs.declared.line.Branch.TheVariants as b
use Rattle.stache_tree.specs.Tree.{info, message, home_rw, home_ro, home_excl, home_acks, home_put, cache_inv, cache_ro}
use Rattle.stache_tree.specs.Tree.{cache_rw, cache_wait_ro, cache_wait_rw}
use Rattle.stache_d_tree.specs.Tree.{cache_rw_d, home_excl_d, home_put_d}
use Rattle.stache_l_tree.specs.Tree.{home_ro_l}
use Rattle.stache_check.specs.declared.directory.Directory.{Directory}
use Rattle.stache_check.specs.declared.directory.Directory.TheVariants as d
use Rattle.stache_check.specs.declared.protocol.Sent.{Sent}
use Rattle.stache_check.specs.declared.protocol.Place.{Place}
use Rattle.stache_check.specs.declared.protocol.Place.TheVariants as pl
use Rattle.teapot_tree.specs.declared.protocol.MessageDecl.{MessageDecl}
use Rattle.teapot_tree.specs.declared.protocol.State.{State}
use Rattle.stache_check.specs.declared.handler.On.{On}
use Rattle.stache_check.specs.declared.handler.On.TheVariants as o
use Rattle.teapot_tree.specs.declared.protocol.Handler.{Handler}
use Rattle.teapot_tree.specs.declared.protocol.Trigger.{Trigger}
use Rattle.teapot_tree.specs.declared.protocol.Trigger.TheVariants as tr
use Rattle.teapot_tree.specs.declared.protocol.ValType.TheVariants as ty
use Rattle.stache_check.specs.declared.line.Line.{Line}
use Rattle.stache_check.specs.declared.line.Line.TheVariants as l

abbrev pub word_of : Word → Name
word_of w.Stache = codes "Stache"
word_of w.StacheD = codes "Stache_D"
word_of w.StacheL = codes "Stache_L"
word_of w.Sharers = codes "sharers"
word_of w.Owner = codes "owner"
word_of w.Acks = codes "acks"
word_of w.C = codes "C"
word_of w.L = label
word_of w.X = codes "x"
word_of w.Unexpected = codes "Unexpected"
word_of w.GetRo = codes "GET_RO"
word_of w.GetRw = codes "GET_RW"
word_of w.DataRo = codes "DATA_RO"
word_of w.DataRw = codes "DATA_RW"
word_of w.Put = codes "PUT"
word_of w.Inv = codes "INV"
word_of w.Ack = codes "ACK"
word_of w.Recall = codes "RECALL"
word_of w.RecallRo = codes "RECALL_RO"
word_of w.PutRo = codes "PUT_RO"
word_of w.HomeRw = codes "Home_RW"
word_of w.HomeRo = codes "Home_RO"
word_of w.HomeExcl = codes "Home_Excl"
word_of w.HomeAcks = codes "Home_Acks"
word_of w.HomePut = codes "Home_Put"
word_of w.CacheInv = codes "Cache_Inv"
word_of w.CacheRo = codes "Cache_RO"
word_of w.CacheRw = codes "Cache_RW"
word_of w.CacheWaitRo = codes "Cache_Wait_RO"
word_of w.CacheWaitRw = codes "Cache_Wait_RW"

abbrev pub atom_of : Atom → code.Term
atom_of (a.Number n) = Number n
atom_of a.Empty = Empty
atom_of a.Src = Src
atom_of a.Home = Home
atom_of (a.Var w) = Var (word_of w)

abbrev pub term_of : Term → code.Term
term_of (t.Atom x) = atom_of x
term_of (t.One x) = One (atom_of x)
term_of (t.Count x) = Count (atom_of x)
term_of (t.Two op x y) = Two op (atom_of x) (atom_of y)
term_of (t.WithOne x y) = Two op.With (One (atom_of x)) (atom_of y)
term_of (t.CountIs x y) = Two op.Eq (Count (atom_of x)) (atom_of y)

abbrev pub atom_expr : Atom → Expr
atom_expr x = expr_of (atom_of x)

abbrev pub term_expr : Term → Expr
term_expr x = expr_of (term_of x)

-- a statement that holds no other
abbrev pub plain_of : Plain → Stmt
plain_of (p.Assign w e) = said (Do-F.Assign (word_of w) (term_expr e))
plain_of (p.Last w e) = said (Do-F.ForEach (word_of w) (term_expr e) [])
plain_of (p.Send to w) = said (Do-F.Send (atom_expr to) (word_of w) [])
plain_of (p.SendAll to w) = said (Do-F.SendAll (atom_expr to) (word_of w) [])
plain_of (p.SetTag tag) = said (Do-F.SetTag tag)
plain_of (p.SetState w) = said (Do-F.SetState (word_of w) [])
plain_of (p.Suspend w) = said (Do-F.Suspend label (word_of w) [] label)
plain_of (p.Resume w) = said (Do-F.Resume (word_of w))
plain_of (p.Error w) = said (Do-F.Error (word_of w))
plain_of p.Install = said Do-F.Install
plain_of p.Enqueue = said Do-F.Enqueue
plain_of p.WakeUp = said Do-F.WakeUp

abbrev pub plains : List Plain → List Stmt
plains ps = map plain_of ps

abbrev pub branch_of : Branch → List Plain
branch_of b.Revoke = p.SendAll (a.Var w.Sharers) w.Inv ∷ p.Assign w.Sharers (t.Atom a.Empty) ∷ p.Suspend w.HomeAcks ∷ []
branch_of b.RevokeOne =
    p.Last w.X (t.Atom (a.Var w.Sharers)) ∷ p.Assign w.Sharers (t.Two op.Without (a.Var w.Sharers) (a.Var w.X))
    ∷ p.Assign w.Acks (t.Atom (a.Number 1)) ∷ p.Send (a.Var w.X) w.Inv ∷ p.Suspend w.HomeAcks ∷ []
branch_of b.Finish = p.Resume w.C ∷ []

abbrev pub line_of : Line → Stmt
line_of (l.Just x) = plain_of x
line_of (l.When e b) = said (Do-F.If (term_expr e) (plains (branch_of b)) None)

abbrev pub trigger_of : On → Trigger
trigger_of o.RdFault = tr.RdFault
trigger_of o.WrFault = tr.WrFault
trigger_of (o.Named w) = tr.Named (word_of w)
trigger_of o.Default = tr.Default

abbrev pub handler_of : On → List Line → Handler
handler_of on lines = record { on = trigger_of on; args = []; locals = []; body = map line_of lines; line = 0 }

-- a handler with one variable of its own, a node
abbrev pub handler_choosing : On → Word → List Line → Handler
handler_choosing on x lines = record {
  on = trigger_of on;
  args = [];
  locals = info (word_of x) ty.Node ∷ [];
  body = map line_of lines;
  line = 0;
}

abbrev pub message_of : Sent → MessageDecl
message_of s = message (word_of s.word) s.chan s.carries

abbrev pub cont_of : Bool → Option Name
cont_of true = Some (codes "C")
cont_of false = None

abbrev pub state_by : Place → State
state_by pl.HomeRw = home_rw
state_by pl.HomeRo = home_ro
state_by pl.HomeExcl = home_excl
state_by pl.HomeAcks = home_acks
state_by pl.HomePut = home_put
state_by pl.CacheInv = cache_inv
state_by pl.CacheRo = cache_ro
state_by pl.CacheRw = cache_rw
state_by pl.CacheWaitRo = cache_wait_ro
state_by pl.CacheWaitRw = cache_wait_rw

abbrev pub state_by_d : Place → State
state_by_d pl.HomeExcl = home_excl_d
state_by_d pl.HomePut = home_put_d
state_by_d pl.CacheRw = cache_rw_d
state_by_d place = state_by place

abbrev pub state_by_l : Place → State
state_by_l pl.HomeRo = home_ro_l
state_by_l place = state_by place

abbrev pub state_under : Directory → Place → State
state_under d.Stache = state_by
state_under d.StacheD = state_by_d
state_under d.StacheL = state_by_l
