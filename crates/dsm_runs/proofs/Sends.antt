-- Each message carries its sender and the stamp of the event that sent it.
use Rattle.std.proofs.Common.{◌≡◌, ℕ, ◌≤◌, length, List, [], ◌∷◌, ◌++◌, Option, arith, refl, ap, sym, ◌∙◌, append_assoc}
use Rattle.std.proofs.Common.{append-nil}
use Rattle.std.specs.List.{filter}
use Rattle.tw_base.specs.declared.entry.Act.{Act}
use Rattle.tw_base.specs.declared.entry.Act.TheVariants as act
use Rattle.tw_base.specs.declared.message.Chan.{Chan}
use Rattle.tw_base.specs.declared.entry.Entry.{Entry}
use Rattle.tw_base.specs.declared.message.Message.{Message}
use Rattle.teapot_meaning.specs.declared.state.Out.{Out}
use Rattle.teapot_tree.specs.declared.protocol.Protocol.{Protocol}
use Rattle.dsm_runs.specs.Setups.{Setup}
use Rattle.dsm_runs.specs.Locals.{Local}
use Rattle.tw_base.specs.Lists.{Each}
use Rattle.dsm_runs.specs.Messages.{outgoing, on_wire, posted}
use Rattle.dsm_runs.specs.Events.{LocalStep, Acts}
use Rattle.dsm_runs.specs.Worlds.{taken}
use Rattle.dsm_runs.specs.Replays.{Course, ReplaysOn}
use Rattle.dsm_runs.proofs.Lists.{Each-append, Each-implied, Each-filter, Each-numbered}

pub record IsSent (i stamp : ℕ) (m : Message) : Type 0 where
  pub sender : m.from ≡ i
  pub at : m.stamp ≡ stamp

outgoing_sent : (p : Protocol) (i b stamp : ℕ) (os : List Out) → Each (IsSent i stamp) (outgoing p i b stamp os)
outgoing_sent p i b stamp [] = tt
outgoing_sent p i b stamp (o ∷ os) = (record { sender = refl; at = refl }, outgoing_sent p i b stamp os)

none_sent : (i stamp : ℕ) (sends : List Message) → sends ≡ [] → Each (IsSent i stamp) sends
none_sent i stamp sends e = rw e tt

some_sent : (p : Protocol) (i b stamp : ℕ) (sends : List Message) (os : List Out) → sends ≡ outgoing p i b stamp os →
    Each (IsSent i stamp) sends
some_sent p i b stamp sends os e = rw e (outgoing_sent p i b stamp os)

acts_sent : (s : Setup) (i : ℕ) (l : Local) (front : Option Message) (l2 : Local) (e : Entry) (sends : List Message)
    (a : Act) → Acts s i l front l2 e sends a → Each (IsSent i e.stamp) sends
acts_sent s i l front l2 e sends (act.Load address value) r = none_sent i e.stamp sends r.0.sends_nothing
acts_sent s i l front l2 e sends (act.Store address value) r = none_sent i e.stamp sends r.0.sends_nothing
acts_sent s i l front l2 e sends (act.Faa address value sum) r = none_sent i e.stamp sends r.0.sends_nothing
acts_sent s i l front l2 e sends (act.Print value) r = none_sent i e.stamp sends r.0.sends_nothing
acts_sent s i l front l2 e sends act.Halt r = none_sent i e.stamp sends r.0.sends_nothing
acts_sent s i l front l2 e sends (act.Trapped why) r = none_sent i e.stamp sends r.0.sends_nothing
acts_sent s i l front l2 e sends act.Step r = none_sent i e.stamp sends r.0.sends_nothing
acts_sent s i l front l2 e sends (act.Fault store block) r =
    some_sent s.protocol i block e.stamp sends r.handles.ended.sends r.handles.outs
acts_sent s i l front l2 e sends (act.Redelivered kind block from) r =
    some_sent s.protocol i r.message.block e.stamp sends r.handles.ended.sends r.handles.outs
acts_sent s i l front l2 e sends (act.Delivered kind block from chan number) r =
    some_sent s.protocol i r.message.block e.stamp sends r.handles.ended.sends r.handles.outs

pub step_sent : (s : Setup) (i : ℕ) (l : Local) (front : Option Message) (l2 : Local) (e : Entry) (sends : List Message) →
    LocalStep s i l front l2 e sends → Each (IsSent i e.stamp) sends
step_sent s i l front l2 e sends r = acts_sent s i l front l2 e sends e.act r.acts

-- what comes onto a wire has the stamp of the event too
pub posted_sent : (i stamp k : ℕ) (t : ℕ) (c : Chan) (sends : List Message) → Each (IsSent i stamp) sends →
    Each (IsSent i stamp) (posted k i t c sends)
posted_sent i stamp k t c sends h =
    Each-numbered (IsSent i stamp) (λ m j r. record { sender = r.sender; at = r.at }) k (filter (on_wire i t c) sends)
    (Each-filter (IsSent i stamp) (on_wire i t c) sends h)

abbrev pub From : ℕ → Message → Type 0
From k m = k ≤ m.stamp

abbrev pub NotEarlier : ℕ → Entry → Type 0
NotEarlier k e = k ≤ e.stamp

-- What a node will still send, where each of its events has a stamp of at least k, has such stamps.
pub sends_later : (s : Setup) (i k : ℕ) (es : List Entry) (a b : Course) (t : ℕ) (c : Chan) → ReplaysOn s i a es b →
    Each (NotEarlier k) es → (more : List Message) × (b.sent t c ≡ a.sent t c ++ more) × Each (From k) more
sends_later s i k [] a b t c r h = ([], ap (λ (x : Course). x.sent t c) (sym r) ∙ sym (append-nil (a.sent t c)), tt)
sends_later s i k (e ∷ es) a b t c r h =
    let rest = sends_later s i k es r.0 b t c r.2 h.1 in
    let here = posted_sent i e.stamp _ t c r.1.sends (step_sent s i a.local r.1.front r.0.local e r.1.sends r.1.local) in
    let put : List Message = posted (length (a.sent t c)) i t c r.1.sends in (
      put ++ rest.0,
      rest.1 ∙ ap (λ (x : List Message). x ++ rest.0) (r.1.sent t c) ∙ append_assoc (a.sent t c) put rest.0,
      Each-append (From k) put rest.0 (Each-implied (IsSent i e.stamp) (From k) put (λ m q. omega (arith, q.at, h.0)) here)
          rest.2,
    )

-- What a node will still take comes behind what it took.
pub takes_later : (s : Setup) (i : ℕ) (es : List Entry) (a b : Course) (f : ℕ) (c : Chan) → ReplaysOn s i a es b →
    (more : List Message) × (b.took f c ≡ a.took f c ++ more)
takes_later s i [] a b f c r = ([], ap (λ (x : Course). x.took f c) (sym r) ∙ sym (append-nil (a.took f c)))
takes_later s i (e ∷ es) a b f c r =
    let rest = takes_later s i es r.0 b f c r.2 in
    let took : List Message = taken e r.1.front f i c in
    (took ++ rest.0, rest.1 ∙ ap (λ (x : List Message). x ++ rest.0) (r.1.took f c) ∙ append_assoc (a.took f c) took rest.0)
