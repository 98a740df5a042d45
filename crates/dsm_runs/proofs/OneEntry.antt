-- An event has one entry.
use Rattle.std.proofs.Common.{◌≡◌, ℕ, ◌+◌, ◌<◌, length, Bool, true, false, ◌&&◌, nat_eq, if◌then◌else◌, List, ◌∷◌, ◌++◌, Option}
use Rattle.std.proofs.Common.{Some, refl, ap, sym, ◌∙◌, subst}
use Rattle.tw_base.specs.declared.entry.Act.{Act}
use Rattle.tw_base.specs.declared.entry.Act.TheVariants as act
use Rattle.tw_base.specs.declared.message.Chan.{Chan}
use Rattle.tw_base.specs.declared.entry.Entry.{Entry}
use Rattle.tw_base.specs.declared.entry.Event.{Event}
use Rattle.tw_base.specs.declared.entry.Event.TheVariants as event
use Rattle.tw_base.specs.declared.message.Kind.{Kind}
use Rattle.tw_base.specs.declared.message.Message.{Message}
use Rattle.teapot_meaning.specs.declared.state.Here.{Here}
use Rattle.mini_asm.specs.declared.cpu.Next.{Next}
use Rattle.mini_asm.specs.declared.cpu.Next.TheVariants as next
use Rattle.block_tags.specs.Copies.{permits}
use Rattle.mini_asm.specs.Machine.{wrap}
use Rattle.dsm_runs.specs.Setups.{Setup, block_of, asked}
use Rattle.dsm_runs.specs.Locals.{Local}
use Rattle.dsm_runs.specs.Messages.{chan_eq}
use Rattle.dsm_runs.specs.Events.{LocalStep, Acts, IsRefused, added_by, latest, tag_here, word_here}
use Rattle.dsm_runs.specs.Worlds.{event_at, event_of, IsEnabled, Step, takes_from, World}
use Rattle.dsm_runs.proofs.Lists.{nat_eq_refl, chan_eq_refl}
use Rattle.dsm_runs.proofs.OneStep.{acts_front, acts_same, first_one, SameParts}
use Rattle.dsm_runs.proofs.Turns.{cons_head}
use Rattle.dsm_runs.proofs.OneEnd.{taken_here}

-- what an instruction event is told as
told : Setup → Next → (ℕ → Here) → Act
told s (next.Access false a v) bs = if permits (tag_here s bs a) false then act.Load a (word_here s bs a)
    else act.Fault false (block_of s a)
told s (next.Access true a v) bs = if permits (tag_here s bs a) true then act.Store a v else act.Fault true (block_of s a)
told s (next.Faa a n) bs = if permits (tag_here s bs a) true then act.Faa a (word_here s bs a) (wrap (word_here s bs a + n))
    else act.Fault true (block_of s a)
told s (next.Trap why) bs = act.Trapped why
told s next.Halt bs = act.Halt
told s (next.Print v) bs = act.Print v
told s next.Step bs = act.Step

moved_tag : (s : Setup) (bs : ℕ → Here) (store : Bool) (a b : ℕ) → b ≡ block_of s a → permits (bs b).tag store ≡ false →
    permits (tag_here s bs a) store ≡ false
moved_tag s bs store a b at refused = subst (λ k. permits (bs k).tag store ≡ false) at refused

refused_told : (s : Setup) (n : Next) (bs : ℕ → Here) (store : Bool) (b : ℕ) → IsRefused s n store b (bs b).tag →
    act.Fault store b ≡ told s n bs
unfolding told
refused_told s (next.Access false a v) bs store b h = rw (moved_tag s bs false a b h.1 h.2) (rw (h.0, h.1) refl)
refused_told s (next.Access true a v) bs store b h = rw (moved_tag s bs true a b h.1 h.2) (rw (h.0, h.1) refl)
refused_told s (next.Faa a n) bs store b h = rw (moved_tag s bs true a b h.1 h.2) (rw (h.0, h.1) refl)
refused_told s (next.Trap why) bs store b h = absurd h
refused_told s next.Halt bs store b h = absurd h
refused_told s (next.Print v) bs store b h = absurd h
refused_told s next.Step bs store b h = absurd h

added_told : (s : Setup) (bs : ℕ → Here) (a value n sum : ℕ) → value ≡ word_here s bs a → sum ≡ wrap (value + n) →
    permits (tag_here s bs a) true ≡ true → act.Faa a value sum ≡ told s (next.Faa a n) bs
unfolding told
added_told s bs a value n sum reads sums allowed = rw (sums, reads, allowed) refl

instr_told : (s : Setup) (i : ℕ) (l : Local) (front : Option Message) (x : Local) (e : Entry) (sends : List Message)
    (a : Act) → event_at i a ≡ event.Instr i → Acts s i l front x e sends a → a ≡ told s (asked s i l.cpu) l.blocks
unfolding told
instr_told s i l front x e sends (act.Load address value) h p = rw (p.0.needed, p.1.reads, p.1.allowed) refl
instr_told s i l front x e sends (act.Store address value) h p = rw (p.0.needed, p.1.allowed) refl
instr_told s i l front x e sends (act.Faa address value sum) h p =
    added_told s l.blocks address value (added_by (asked s i l.cpu)) sum p.1.reads p.1.sums p.1.stores.allowed
    ∙ sym (ap (λ (n : Next). told s n l.blocks) p.0.needed)
instr_told s i l front x e sends (act.Print value) h p = rw p.0.needed refl
instr_told s i l front x e sends act.Halt h p = rw p.0.needed refl
instr_told s i l front x e sends (act.Trapped why) h p = rw p.0.needed refl
instr_told s i l front x e sends act.Step h p = rw p.0.needed refl
instr_told s i l front x e sends (act.Fault store block) h p = refused_told s (asked s i l.cpu) l.blocks store block p.refused
instr_told s i l front x e sends (act.Redelivered kind block from) h p = absurd cc
instr_told s i l front x e sends (act.Delivered kind block from chan number) h p = absurd cc

-- the event of an entry was enabled
acts_enabled : (s : Setup) (g : World) (i : ℕ) (front : Option Message) (x : Local) (e : Entry) (sends : List Message) (a : Act)
    → ((f : ℕ) (c : Chan) (m : Message) → takes_from a f c ≡ true → front ≡ Some m →
    (rest : List Message) × (g.wires f i c ≡ m ∷ rest))
    → i < s.shape.nodes → Acts s i (g.locals i) front x e sends a → IsEnabled s g (event_at i a)
acts_enabled s g i front x e sends (act.Load address value) h l p = (l, p.0.instructs.may)
acts_enabled s g i front x e sends (act.Store address value) h l p = (l, p.0.instructs.may)
acts_enabled s g i front x e sends (act.Faa address value sum) h l p = (l, p.0.instructs.may)
acts_enabled s g i front x e sends (act.Print value) h l p = (l, p.0.instructs.may)
acts_enabled s g i front x e sends act.Halt h l p = (l, p.0.instructs.may)
acts_enabled s g i front x e sends (act.Trapped why) h l p = (l, p.0.instructs.may)
acts_enabled s g i front x e sends act.Step h l p = (l, p.0.instructs.may)
acts_enabled s g i front x e sends (act.Fault store block) h l p = (l, p.instructs.may)
acts_enabled s g i front x e sends (act.Redelivered kind block from) h l p =
    (l, record { may = p.counts.may; message = p.message; earlier = p.earlier; later = p.later; takes = p.takes })
acts_enabled s g i front x e sends (act.Delivered kind block from chan number) h l p =
    let here : (nat_eq from from && chan_eq chan chan) ≡ true = rw (nat_eq_refl from) (chan_eq_refl chan) in
    let at = h from chan p.message here p.is_front in (
      l,
      p.from_node,
      record {
        may = p.counts.may;
        none_eligible = p.none_eligible;
        message = p.message;
        rest = at.0;
        front = at.1;
        early = p.early;
      },
    )

pub front_on_wire : (s : Setup) (g : World) (e : Entry) (g2 : World) (r : Step s g e g2) (f : ℕ) (c : Chan) (m : Message) →
    takes_from e.act f c ≡ true → r.front ≡ Some m → (rest : List Message) × (g.wires f e.node c ≡ m ∷ rest)
front_on_wire s g e g2 r f c m h q = (
  r.between f e.node c,
  r.takes f e.node c
      ∙ ap (λ (l : List Message). l ++ r.between f e.node c) (taken_here e r.front f e.node c m refl h q),
)

pub step_enabled : (s : Setup) (g : World) (e : Entry) (g2 : World) → Step s g e g2 → IsEnabled s g (event_of e)
step_enabled s g e g2 r = acts_enabled s g e.node r.front (g2.locals e.node) e r.sends e.act
    (front_on_wire s g e g2 r) r.local.at_node r.local.acts

redelivered_same : (s : Setup) (i : ℕ) (l : Local) (front front2 : Option Message) (x y : Local) (e e2 : Entry)
    (sends sends2 : List Message) (kind : Kind) (block from : ℕ) (a : Act)
    → event.Redeliver i ≡ event_at i a → Acts s i l front x e sends (act.Redelivered kind block from) →
    Acts s i l front2 y e2 sends2 a → act.Redelivered kind block from ≡ a
redelivered_same s i l front front2 x y e e2 sends sends2 kind block from (act.Redelivered kind2 block2 from2) h p q =
    let one = first_one p.message q.message p.earlier p.later q.earlier q.later l.deferred p.takes.found q.takes.found
    p.takes.stale q.takes.stale in
    let kinds : kind ≡ kind2 = sym p.of_kind ∙ ap (λ (m : Message). m.kind) one.0 ∙ q.of_kind in
    let blocks : block ≡ block2 = sym p.of_block ∙ ap (λ (m : Message). m.block) one.0 ∙ q.of_block in
    let senders : from ≡ from2 = sym p.of_sender ∙ ap (λ (m : Message). m.from) one.0 ∙ q.of_sender in
    cc (kinds, blocks, senders)
redelivered_same s i l front front2 x y e e2 sends sends2 kind block from (act.Load address value) h p q = absurd cc
redelivered_same s i l front front2 x y e e2 sends sends2 kind block from (act.Store address value) h p q = absurd cc
redelivered_same s i l front front2 x y e e2 sends sends2 kind block from (act.Faa address value sum) h p q = absurd cc
redelivered_same s i l front front2 x y e e2 sends sends2 kind block from (act.Print value) h p q = absurd cc
redelivered_same s i l front front2 x y e e2 sends sends2 kind block from act.Halt h p q = absurd cc
redelivered_same s i l front front2 x y e e2 sends sends2 kind block from (act.Trapped why) h p q = absurd cc
redelivered_same s i l front front2 x y e e2 sends sends2 kind block from act.Step h p q = absurd cc
redelivered_same s i l front front2 x y e e2 sends sends2 kind block from (act.Fault store b) h p q = absurd cc
redelivered_same s i l front front2 x y e e2 sends sends2 kind block from
    (act.Delivered kind2 block2 from2 chan number) h p q = absurd cc

delivered_same : (s : Setup) (i : ℕ) (l : Local) (front front2 : Option Message) (x y : Local) (e e2 : Entry)
    (sends sends2 : List Message) (kind : Kind) (block from : ℕ) (chan : Chan) (number : ℕ) (a : Act)
    → ((m m2 : Message) → takes_from a from chan ≡ true → front ≡ Some m → front2 ≡ Some m2 → m ≡ m2)
    → event.Deliver i from chan ≡ event_at i a → Acts s i l front x e sends (act.Delivered kind block from chan number) →
    Acts s i l front2 y e2 sends2 a → act.Delivered kind block from chan number ≡ a
delivered_same s i l front front2 x y e e2 sends sends2 kind block from chan number
    (act.Delivered kind2 block2 from2 chan2 number2) heads h p q =
    let froms : from ≡ from2 = cc in
    let chans : chan ≡ chan2 = cc in
    let here : (nat_eq from from2 && chan_eq chan chan2) ≡ true = rw (← froms, ← chans, nat_eq_refl from) (chan_eq_refl chan) in
    let one : p.message ≡ q.message = heads p.message q.message here p.is_front q.is_front in
    let kinds : kind ≡ kind2 = sym p.of_kind ∙ ap (λ (m : Message). m.kind) one ∙ q.of_kind in
    let blocks : block ≡ block2 = sym p.of_block ∙ ap (λ (m : Message). m.block) one ∙ q.of_block in
    let numbers : number ≡ number2 = sym p.of_number ∙ ap (λ (m : Message). m.number) one ∙ q.of_number in
    cc (froms, chans, kinds, blocks, numbers)
delivered_same s i l front front2 x y e e2 sends sends2 kind block from chan number (act.Load address value) heads h p q =
    absurd cc
delivered_same s i l front front2 x y e e2 sends sends2 kind block from chan number (act.Store address value) heads h p q =
    absurd cc
delivered_same s i l front front2 x y e e2 sends sends2 kind block from chan number (act.Faa address value sum) heads h p q =
    absurd cc
delivered_same s i l front front2 x y e e2 sends sends2 kind block from chan number (act.Print value) heads h p q = absurd cc
delivered_same s i l front front2 x y e e2 sends sends2 kind block from chan number act.Halt heads h p q = absurd cc
delivered_same s i l front front2 x y e e2 sends sends2 kind block from chan number (act.Trapped why) heads h p q = absurd cc
delivered_same s i l front front2 x y e e2 sends sends2 kind block from chan number act.Step heads h p q = absurd cc
delivered_same s i l front front2 x y e e2 sends sends2 kind block from chan number (act.Fault store b) heads h p q = absurd cc
delivered_same s i l front front2 x y e e2 sends sends2 kind block from chan number
    (act.Redelivered kind2 block2 from2) heads h p q = absurd cc

act_same : (s : Setup) (i : ℕ) (l : Local) (front front2 : Option Message) (x y : Local) (e e2 : Entry)
    (sends sends2 : List Message) (a a2 : Act)
    → ((f : ℕ) (c : Chan) (m m2 : Message) → takes_from a f c ≡ true → takes_from a2 f c ≡ true → front ≡ Some m →
    front2 ≡ Some m2 → m ≡ m2)
    → event_at i a ≡ event_at i a2 → Acts s i l front x e sends a → Acts s i l front2 y e2 sends2 a2 → a ≡ a2
act_same s i l front front2 x y e e2 sends sends2 (act.Load address value) a2 heads h p q =
    instr_told s i l front x e sends (act.Load address value) refl p ∙ sym (instr_told s i l front2 y e2 sends2 a2 (sym h) q)
act_same s i l front front2 x y e e2 sends sends2 (act.Store address value) a2 heads h p q =
    instr_told s i l front x e sends (act.Store address value) refl p ∙ sym (instr_told s i l front2 y e2 sends2 a2 (sym h) q)
act_same s i l front front2 x y e e2 sends sends2 (act.Faa address value sum) a2 heads h p q =
    instr_told s i l front x e sends (act.Faa address value sum) refl p ∙ sym (instr_told s i l front2 y e2 sends2 a2 (sym h) q)
act_same s i l front front2 x y e e2 sends sends2 (act.Print value) a2 heads h p q =
    instr_told s i l front x e sends (act.Print value) refl p ∙ sym (instr_told s i l front2 y e2 sends2 a2 (sym h) q)
act_same s i l front front2 x y e e2 sends sends2 act.Halt a2 heads h p q = instr_told s i l front x e sends act.Halt refl p
    ∙ sym (instr_told s i l front2 y e2 sends2 a2 (sym h) q)
act_same s i l front front2 x y e e2 sends sends2 (act.Trapped why) a2 heads h p q =
    instr_told s i l front x e sends (act.Trapped why) refl p ∙ sym (instr_told s i l front2 y e2 sends2 a2 (sym h) q)
act_same s i l front front2 x y e e2 sends sends2 act.Step a2 heads h p q = instr_told s i l front x e sends act.Step refl p
    ∙ sym (instr_told s i l front2 y e2 sends2 a2 (sym h) q)
act_same s i l front front2 x y e e2 sends sends2 (act.Fault store block) a2 heads h p q =
    instr_told s i l front x e sends (act.Fault store block) refl p ∙ sym (instr_told s i l front2 y e2 sends2 a2 (sym h) q)
act_same s i l front front2 x y e e2 sends sends2 (act.Redelivered kind block from) a2 heads h p q =
    redelivered_same s i l front front2 x y e e2 sends sends2 kind block from a2 h p q
act_same s i l front front2 x y e e2 sends sends2 (act.Delivered kind block from chan number) a2 heads h p q =
    let here : (nat_eq from from && chan_eq chan chan) ≡ true = rw (nat_eq_refl from) (chan_eq_refl chan) in
    delivered_same s i l front front2 x y e e2 sends sends2 kind block from chan number a2
    (λ m m2 k. heads from chan m m2 here k) h p q

node_in : Event → ℕ
node_in (event.Instr i) = i
node_in (event.Redeliver i) = i
node_in (event.Deliver i f c) = i

node_at : (i : ℕ) (a : Act) → node_in (event_at i a) ≡ i
unfolding node_in
node_at i (act.Load address value) = refl
node_at i (act.Store address value) = refl
node_at i (act.Faa address value sum) = refl
node_at i (act.Print value) = refl
node_at i act.Halt = refl
node_at i (act.Trapped why) = refl
node_at i act.Step = refl
node_at i (act.Fault store block) = refl
node_at i (act.Redelivered kind block from) = refl
node_at i (act.Delivered kind block from chan number) = refl

-- one node, one state before, one wire before each front: one entry
local_entry : (s : Setup) (i : ℕ) (l : Local) (front front2 : Option Message) (x y : Local) (e e2 : Entry)
    (sends sends2 : List Message)
    → ((f : ℕ) (c : Chan) (m m2 : Message) → takes_from e.act f c ≡ true → takes_from e2.act f c ≡ true → front ≡ Some m →
    front2 ≡ Some m2 → m ≡ m2)
    → event_at i e.act ≡ event_at i e2.act → LocalStep s i l front x e sends → LocalStep s i l front2 y e2 sends2 → e ≡ e2
local_entry s i l front front2 x y e e2 sends sends2 heads h p q =
    λ j. record { stamp = stamps j; node = nodes j; act = acts j; sends = counts j; after = parts.after_same j }
  where
    acts : e.act ≡ e2.act
    acts = act_same s i l front front2 x y e e2 sends sends2 e.act e2.act heads h p.acts q.acts

    nodes : e.node ≡ e2.node
    nodes = p.node ∙ sym q.node

    theirs : Acts s i l front2 y e2 sends2 e.act
    theirs = subst (λ (a : Act). Acts s i l front2 y e2 sends2 a) (sym acts) q.acts

    fronts : front ≡ front2
    fronts = acts_front s i l front front2 x y e e2 sends sends2 e.act
        (λ f c m m2 t. heads f c m m2 t (ap (λ (a : Act). takes_from a f c) (sym acts) ∙ t)) p.acts theirs

    stamps : e.stamp ≡ e2.stamp
    stamps = p.stamp ∙ ap (λ (o : Option Message). latest l.clock o + 1) fronts ∙ sym q.stamp

    parts : SameParts x y sends sends2 e.after e2.after
    parts = acts_same s i l front front2 x y e e2 sends sends2 e.act stamps fronts p.acts theirs

    counts : e.sends ≡ e2.sends
    counts = p.count ∙ ap length parts.sends_same ∙ sym q.count

pub step_entry : (s : Setup) (g : World) (e e2 : Entry) (x y : World) → event_of e ≡ event_of e2 → Step s g e x →
    Step s g e2 y → e ≡ e2
step_entry s g e e2 x y h p q =
    local_entry s e.node (g.locals e.node) p.front q.front (x.locals e.node)
    (y.locals e.node) e e2 p.sends q.sends heads events p.local theirs
  where
    nodes : e2.node ≡ e.node
    nodes = sym (sym (node_at e.node e.act) ∙ ap node_in h ∙ node_at e2.node e2.act)

    events : event_at e.node e.act ≡ event_at e.node e2.act
    events = h ∙ ap (λ k. event_at k e2.act) nodes

    theirs : LocalStep s e.node (g.locals e.node) q.front (y.locals e.node) e2 q.sends
    theirs = subst (λ k. LocalStep s k (g.locals k) q.front (y.locals k) e2 q.sends) nodes q.local

    heads : (f : ℕ) (c : Chan) (m m2 : Message) → takes_from e.act f c ≡ true → takes_from e2.act f c ≡ true →
        p.front ≡ Some m → q.front ≡ Some m2 → m ≡ m2
    heads f c m m2 a b u v =
        let one = front_on_wire s g e x p f c m a u in
        let two = front_on_wire s g e2 y q f c m2 b v in
        cons_head m m2 one.0 two.0 (sym one.1 ∙ subst (λ k. g.wires f k c ≡ m2 ∷ two.0) nodes two.1)
