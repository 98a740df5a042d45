-- What every state of a run has: the start has it, and each event keeps it.
use Rattle.std.proofs.Common.{◌≡◌, ◌∙◌, ℕ, ◌<◌, ◌≤◌, Bool, true, false, ◌&&◌, nat_eq, List, [], ◌∷◌, ◌++◌, Option, Some, None}
use Rattle.std.proofs.Common.{length, map, refl, ap, sym, subst, arith, inl, inr, eqb-true, zero, suc}
use Rattle.std.specs.Prelude.{replicate, slice_get, slice_set, take, ◌-◌}
use Rattle.std.specs.List.{filter}
use Rattle.std.proofs.Math.ListN.{length-set}
use Rattle.std.proofs.Math.Nat.{mul_comm}
use Rattle.std.proofs.lemmas.List.{length-map, take_all}
use Rattle.std.proofs.Math.Seq.{take-append_seam}
use Rattle.std.proofs.lemmas.Bool.{cases_eq}
use Rattle.std.proofs.lemmas.Nat.{div_below}
use Rattle.tw_base.specs.Lists.{Each}
use Rattle.tw_base.specs.declared.entry.Act.{Act}
use Rattle.tw_base.specs.declared.entry.Act.TheVariants as act
use Rattle.tw_base.specs.declared.entry.After.{After}
use Rattle.tw_base.specs.declared.entry.Entry.{Entry}
use Rattle.tw_base.specs.declared.message.Chan.{Chan}
use Rattle.tw_base.specs.declared.message.Kind.{Kind}
use Rattle.tw_base.specs.declared.message.Kind.TheVariants as kind
use Rattle.tw_base.specs.declared.message.Message.{Message}
use Rattle.tw_base.specs.declared.value.Tag.{Tag}
use Rattle.tw_base.specs.declared.value.Value.{Value}
use Rattle.tw_base.specs.declared.value.Value.TheVariants.{Int}
use Rattle.mini_asm.specs.declared.cpu.Cpu.{Cpu}
use Rattle.mini_asm.specs.declared.cpu.Next.{Next}
use Rattle.mini_asm.specs.declared.cpu.Next.TheVariants as next
use Rattle.teapot_tree.specs.declared.protocol.MessageDecl.{MessageDecl}
use Rattle.teapot_tree.specs.declared.protocol.Protocol.{Protocol}
use Rattle.teapot_tree.specs.Grammar.{IsTree}
use Rattle.teapot_tree.specs.Scopes.{args_of}
use Rattle.teapot_meaning.specs.Fits.{IsMessageOf, IsSendOf, declared_as, fits_below, type_of}
use Rattle.teapot_meaning.specs.declared.state.Here.{Here}
use Rattle.teapot_meaning.specs.declared.state.Kept.{Kept}
use Rattle.teapot_meaning.specs.declared.state.Kept.TheVariants as kept
use Rattle.teapot_meaning.specs.declared.state.Out.{Out}
use Rattle.teapot_meaning.proofs.Starting.{fits_again}
use Rattle.dsm_runs.specs.declared.mode.Mode.TheVariants as mode
use Rattle.dsm_runs.specs.declared.mode.Waiting.{Waiting}
use Rattle.dsm_runs.specs.Args.{padded_args, used_args}
use Rattle.dsm_runs.specs.Setups.{IsSetup, Setup, asked, block_of, offset_of, size_of}
use Rattle.dsm_runs.specs.Locals.{IsFirst, Local}
use Rattle.dsm_runs.specs.Messages.{chan_eq, fault, message_of, on_wire, outgoing, posted}
use Rattle.dsm_runs.specs.Events.{Acts, Completes, Handles, IsRefused, SameBlocks, Stores, free, freed_if, with_kept}
use Rattle.dsm_runs.specs.Events.{with_word_here}
use Rattle.dsm_runs.specs.Worlds.{Runs, World, start, taken, takes_from}
use Rattle.dsm_runs.specs.Replays.{Course, ReplaysOn, ReplaysOne, begin}
use Rattle.dsm_runs.specs.Invariants.{EventsKeepNodes, IsBlockAt, IsCourseOf, IsDeferredAt, IsNodeOf, IsOnTheWay, IsPosted}
use Rattle.dsm_runs.specs.Invariants.{IsRunState, LogsKeepNodes, NodesStartSound, RunsKeepTheirState, StepsKeepTheirState}
use Rattle.dsm_runs.specs.Invariants.{is_fault}
use Rattle.dsm_runs.specs.Shown.{AsksWell}
use Rattle.dsm_runs.proofs.Asking.{asked_well}
use Rattle.dsm_runs.proofs.Handled.{IsNoFault, does_leave}
use Rattle.dsm_runs.proofs.Lists.{Each-append, Each-filter, Each-numbered, and_left, and_right, chan_eq_refl, nat_eq_refl}
use Rattle.dsm_runs.proofs.OnWires.{each_behind}
use Rattle.dsm_runs.proofs.OneEnd.{taken_here}
use Rattle.dsm_runs.proofs.OneEntry.{front_on_wire}
use Rattle.dsm_runs.proofs.Sends.{takes_later}
use Rattle.dsm_runs.proofs.Stamps.{each_both, passes}
use Rattle.dsm_runs.proofs.StartFits.{first_block}

-- ---- what is sent

-- the arguments come back from their places
args_back : (xs : List Value) → length xs ≤ 4 → take (length (used_args xs)) (padded_args xs) ≡ xs
args_back xs few = take-append_seam (used_args xs) (replicate (4 - length (used_args xs)) (Int 0)) ∙ take_all 4 xs few

each_get : {X : Type 0} (P : X → Type 0) (xs : List X) (k : ℕ) (x : X) → slice_get xs k ≡ Some x → Each P xs → P x
each_get P [] k x e h = absurd cc
each_get P (y ∷ ys) zero x e h = let same : y ≡ x = cc in subst P same h.0
each_get P (y ∷ ys) (suc k) x e h = each_get P ys k x e h.1

few_declared : (p : Protocol) (k : Kind) → IsTree p → length (args_of (declared_as p k)) ≤ 4
few_declared p kind.RdFault tree = omega arith
few_declared p kind.WrFault tree = omega arith
few_declared p (kind.Named n) tree = go (slice_get p.messages n) refl
  where
    go : (o : Option MessageDecl) → slice_get p.messages n ≡ o → length (args_of (slice_get p.messages n)) ≤ 4
    go None e = rw e (omega arith)
    go (Some m) e = rw e (each_get (λ (d : MessageDecl). length d.args ≤ 4) p.messages n m e tree.few_message_args)

sent_is_of : (p : Protocol) (words i b stamp : ℕ) (o : Out) → IsTree p → IsSendOf p words o →
    IsMessageOf p words (message_of p i b stamp o)
sent_is_of p words i b stamp o tree h =
    let few : length o.args ≤ 4 = omega (arith, few_declared p o.kind tree, length-map o.args type_of, ap length h.types) in
    record {
      known = h.known;
      types = ap (λ xs. map type_of xs) (args_back o.args few)
          ∙ h.types;
      carried = h.carried;
      plain = h.plain;
    }

outs_posted : (s : Setup) (i b stamp : ℕ) (os : List Out) → IsTree s.protocol → b < s.shape.blocks →
    Each (IsSendOf s.protocol s.shape.words) os → Each IsNoFault os → Each (IsPosted s) (outgoing s.protocol i b stamp os)
outs_posted s i b stamp [] tree lt h k = tt
outs_posted s i b stamp (o ∷ os) tree lt h k = (
  record { is_message = sent_is_of s.protocol s.shape.words i b stamp o tree h.0; named = k.0; block = lt },
  outs_posted s i b stamp os tree lt h.1 k.1,
)

on_the_way : (s : Setup) (f t : ℕ) (c : Chan) (m : Message) → IsPosted s m → on_wire f t c m ≡ true → IsOnTheWay s f t m
on_the_way s f t c m h on =
    let ends : (nat_eq m.from f && nat_eq m.to t) ≡ true = and_left (nat_eq m.from f && nat_eq m.to t) (chan_eq m.chan c) on in
    record {
      is_message = h.is_message;
      named = h.named;
      from = eqb-true m.from f (and_left (nat_eq m.from f) (nat_eq m.to t) ends);
      to = eqb-true m.to t (and_right (nat_eq m.from f) (nat_eq m.to t) ends);
      block = h.block;
    }

posted_on_way : (s : Setup) (k f t : ℕ) (c : Chan) (ms : List Message) → Each (IsPosted s) ms →
    Each (IsOnTheWay s f t) (posted k f t c ms)
posted_on_way s k f t c ms h =
    let new : List Message = filter (on_wire f t c) ms in
    Each-numbered (IsOnTheWay s f t) (λ m j x. record {
      is_message = x.is_message;
      named = x.named;
      from = x.from;
      to = x.to;
      block = x.block;
    }) k new
    (each_both (IsPosted s) (λ m. on_wire f t c m ≡ true) (IsOnTheWay s f t) new (λ m x y. on_the_way s f t c m x y)
    (Each-filter (IsPosted s) (on_wire f t c) ms h) (passes (on_wire f t c) ms))

-- ---- what is deferred

abbrev Waits : Setup → ℕ → Waiting → Type 0
Waits s i w = IsDeferredAt s i w.message

freed_waits : (s : Setup) (i b : ℕ) (ws : List Waiting) → Each (Waits s i) ws → Each (Waits s i) (map (free b) ws)
freed_waits s i b [] h = tt
freed_waits s i b (w ∷ ws) h = (h.0, freed_waits s i b ws h.1)

freed_if_waits : (s : Setup) (i b : ℕ) (freed : Bool) (ws : List Waiting) → Each (Waits s i) ws →
    Each (Waits s i) (freed_if freed b ws)
freed_if_waits s i b true ws h = freed_waits s i b ws h
freed_if_waits s i b false ws h = h

kept_waits : (s : Setup) (i : ℕ) (k : Kept) (m : Message) (ws : List Waiting) → IsDeferredAt s i m → Each (Waits s i) ws →
    Each (Waits s i) (with_kept k m ws)
kept_waits s i kept.No m ws q h = h
kept_waits s i kept.Stale m ws q h = Each-append (Waits s i) ws _ h (q, tt)
kept_waits s i kept.Eligible m ws q h = Each-append (Waits s i) ws _ h (q, tt)

pub first_waits : (s : Setup) (i : ℕ) (m : Message) (earlier later ws : List Waiting) → IsFirst m earlier later ws →
    Each (Waits s i) ws → IsDeferredAt s i m × Each (Waits s i) (earlier ++ later)
first_waits s i m earlier later ws first h = go earlier (subst (λ (xs : List Waiting). Each (Waits s i) xs) first.found h)
  where
    go : (xs : List Waiting) → Each (Waits s i) (xs ++ record { message = m; eligible = true } ∷ later) →
        IsDeferredAt s i m × Each (Waits s i) (xs ++ later)
    go [] k = (k.0, k.1)
    go (x ∷ xs) k = let rest = go xs k.1 in (rest.0, (k.0, rest.1))

-- a message that comes is no fault
pub arrived : (s : Setup) (f t : ℕ) (m : Message) → IsOnTheWay s f t m → IsDeferredAt s t m
arrived s f t m h = record {
  is_message = h.is_message;
  to = h.to;
  own = λ is. absurd (not_both (is_fault m.kind) h.named is);
  block = h.block;
}
  where
    not_both : (b : Bool) → b ≡ false → b ≡ true → ⊥
    not_both b e f = absurd cc

fault_of : (s : Setup) (store : Bool) (b i : ℕ) → IsMessageOf s.protocol s.shape.words (fault store b i)
fault_of s true b i = record { known = refl; types = refl; carried = λ h. absurd cc; plain = λ h. refl }
fault_of s false b i = record { known = refl; types = refl; carried = λ h. absurd cc; plain = λ h. refl }

block_within : (s : Setup) (address b : ℕ) → IsSetup s → b ≡ block_of s address → address < size_of s → b < s.shape.blocks
block_within s address b is e lt = subst (λ k. k < s.shape.blocks) (sym e)
    (div_below address s.shape.words s.shape.blocks is.limits.some_word
    (subst (λ k. address < k) (mul_comm s.shape.words s.shape.blocks) lt))

pub refused_within : (s : Setup) (n : Next) (store : Bool) (b : ℕ) (tag : Tag) → IsSetup s → AsksWell (size_of s) n →
    IsRefused s n store b tag → b < s.shape.blocks
refused_within s (next.Access true address value) store b tag is well h = block_within s address b is h.1 well
refused_within s (next.Access false address value) store b tag is well h = block_within s address b is h.1 well.0
refused_within s (next.Faa address added) store b tag is well h = block_within s address b is h.1 well
refused_within s (next.Trap why) store b tag is well h = absurd h
refused_within s next.Halt store b tag is well h = absurd h
refused_within s (next.Print value) store b tag is well h = absurd h
refused_within s next.Step store b tag is well h = absurd h

-- ---- a node

abbrev Keeps : Setup → ℕ → Local → List Message → Type 0
Keeps s i l sends = IsNodeOf s i l × Each (IsPosted s) sends

handles_keep : (s : Setup) (i stamp : ℕ) (m : Message) (l l2 : Local) (sends : List Message) (after : Option After) →
    IsSetup s → IsNodeOf s i l → IsDeferredAt s i m → Handles s i stamp m l l2 sends after → Keeps s i l2 sends
handles_keep s i stamp m l l2 sends after is h q r =
    let p = s.protocol in
    let old = h.blocks m.block q.block in
    let again = fits_again p (l.blocks m.block) m r.ended is.accepted old.fits
    (subst (λ n. IsMessageOf p n m) (sym old.words) q.is_message) r.does in
    let left = does_leave p (l.blocks m.block) m r.ended r.does in
    let new : IsBlockAt s i m.block (l2.blocks m.block) =
    subst (λ (x : Here). IsBlockAt s i m.block x) (sym r.here)
    (record {
      fits = again.fits;
      words = again.words ∙ old.words;
      me = left.me ∙ old.me;
      block = left.block
          ∙ old.block;
      home = left.home ∙ old.home;
    }) in (
      record {
        blocks = λ b lt. elim (cases_eq b m.block) [
          | inl e ↦ subst (λ k. IsBlockAt s i k (l2.blocks k)) (sym e) new
          | inr d ↦ subst (λ (x : Here). IsBlockAt s i b x) (sym (r.others b d)) (h.blocks b lt)
        ];
        deferred = subst (λ (ws : List Waiting). Each (Waits s i) ws) (sym r.deferred)
            (kept_waits s i r.ended.kept m _ q (freed_if_waits s i m.block r.ended.freed l.deferred h.deferred));
      },
      subst (λ (ms : List Message). Each (IsPosted s) ms) (sym r.outs)
          (outs_posted s i m.block stamp r.ended.sends is.accepted.tree q.block
          (subst (λ n. Each (IsSendOf p n) r.ended.sends) old.words again.sends) left.sends),
    )

-- an instruction that completes sends nothing, and defers nothing
completes_keep : (s : Setup) (i : ℕ) (l : Local) (front : Option Message) (l2 : Local) (e : Entry) (sends : List Message)
    (n : Next) (cpu : Cpu) (m : _) → IsNodeOf s i l → Completes s i l front l2 e sends n cpu m
    → ((b : ℕ) → b < s.shape.blocks → IsBlockAt s i b (l2.blocks b)) → Keeps s i l2 sends
completes_keep s i l front l2 e sends n cpu m h r blocks = (
  record { blocks = blocks; deferred = subst (λ (ws : List Waiting). Each (Waits s i) ws) (sym r.deferred) h.deferred },
  subst (λ (ms : List Message). Each (IsPosted s) ms) (sym r.sends_nothing) tt,
)

same_keep : (s : Setup) (i : ℕ) (l l2 : Local) → IsNodeOf s i l → SameBlocks l l2 → (b : ℕ) → b < s.shape.blocks →
    IsBlockAt s i b (l2.blocks b)
same_keep s i l l2 h same b lt = subst (λ (x : Here). IsBlockAt s i b x) (sym (same b)) (h.blocks b lt)

written_fits : (s : Setup) (i b address value : ℕ) (here : Here) → IsBlockAt s i b here →
    IsBlockAt s i b (with_word_here s address value here)
written_fits s i b address value here h =
    let long : length (slice_set here.words (offset_of s address) value) ≡ length here.words =
    length-set here.words (offset_of s address) value in
    record {
      fits = record { state = subst (λ n. fits_below 9 s.protocol n here.state) (sym long) h.fits.state; infos = h.fits.infos };
      words = long ∙ h.words;
      me = h.me;
      block = h.block;
      home = h.home;
    }

stores_keep : (s : Setup) (i : ℕ) (l l2 : Local) (address value : ℕ) → IsNodeOf s i l → Stores s l l2 address value → (b : ℕ) →
    b < s.shape.blocks → IsBlockAt s i b (l2.blocks b)
stores_keep s i l l2 address value h r b lt = elim (cases_eq b (block_of s address)) [
  | inl e ↦
      let old : IsBlockAt s i b (l.blocks (block_of s address)) = subst (λ k. IsBlockAt s i b (l.blocks k)) e (h.blocks b lt) in
      subst (λ (x : Here). IsBlockAt s i b x) (sym (ap (λ k. l2.blocks k) e ∙ r.block))
      (written_fits s i b address value (l.blocks (block_of s address)) old)
  | inr d ↦ subst (λ (x : Here). IsBlockAt s i b x) (sym (r.others b d)) (h.blocks b lt)
]

abbrev Comes : Setup → ℕ → Option Message → Act → Type 0
Comes s i front a = (f : ℕ) (c : Chan) (m : Message) → takes_from a f c ≡ true → front ≡ Some m → IsDeferredAt s i m

acts_keep : (s : Setup) (i : ℕ) (l : Local) (front : Option Message) (l2 : Local) (e : Entry) (sends : List Message)
    (a : Act) → IsSetup s → IsNodeOf s i l → Comes s i front a → Acts s i l front l2 e sends a → Keeps s i l2 sends
acts_keep s i l front l2 e sends (act.Load address value) is h comes r =
    completes_keep s i l front l2 e sends _ _ _ h r.0 (same_keep s i l l2 h r.1.blocks)
acts_keep s i l front l2 e sends (act.Store address value) is h comes r =
    completes_keep s i l front l2 e sends _ _ _ h r.0 (stores_keep s i l l2 address value h r.1)
acts_keep s i l front l2 e sends (act.Faa address value sum) is h comes r =
    completes_keep s i l front l2 e sends _ _ _ h r.0 (stores_keep s i l l2 address sum h r.1.stores)
acts_keep s i l front l2 e sends (act.Print value) is h comes r =
    completes_keep s i l front l2 e sends _ _ _ h r.0 (same_keep s i l l2 h r.1)
acts_keep s i l front l2 e sends act.Halt is h comes r = completes_keep s i l front l2 e sends _ _ _ h r.0
    (same_keep s i l l2 h r.1)
acts_keep s i l front l2 e sends (act.Trapped why) is h comes r =
    completes_keep s i l front l2 e sends _ _ _ h r.0 (same_keep s i l l2 h r.1)
acts_keep s i l front l2 e sends act.Step is h comes r = completes_keep s i l front l2 e sends _ _ _ h r.0
    (same_keep s i l l2 h r.1)
acts_keep s i l front l2 e sends (act.Fault store b) is h comes r =
    let lt = refused_within s (asked s i l.cpu) store b _ is (asked_well s i l.cpu (asked s i l.cpu) refl) r.refused in
    handles_keep s i e.stamp (fault store b i) (record l { mode = mode.Blocked b }) l2 sends e.after is
    (record { blocks = h.blocks; deferred = h.deferred })
    (record { is_message = fault_of s store b i; to = refl; own = λ is. refl; block = lt }) r.handles
acts_keep s i l front l2 e sends (act.Redelivered kind block from) is h comes r =
    let parts = first_waits s i r.message r.earlier r.later l.deferred r.takes h.deferred in
    handles_keep s i e.stamp r.message (record l { deferred = r.earlier ++ r.later }) l2 sends e.after is
    (record { blocks = h.blocks; deferred = parts.1 }) parts.0 r.handles
acts_keep s i l front l2 e sends (act.Delivered kind block from chan number) is h comes r =
    let here : takes_from (act.Delivered kind block from chan number) from chan ≡ true =
    rw (nat_eq_refl from) (chan_eq_refl chan) in
    handles_keep s i e.stamp r.message l l2 sends e.after is h (comes from chan r.message here r.is_front) r.handles

-- ---- one node alone

pub nodes_start : NodesStartSound
nodes_start s i is = record { blocks = λ b lt. first_block s i b is lt; deferred = tt }

pub events_keep : EventsKeepNodes
events_keep s i l front l2 e sends is h comes r =
    let k = acts_keep s i l front l2 e sends e.act is h (λ f c m q at. comes m at) r.acts in
    record { node = k.0; sent = k.1; on = λ n t c. posted_on_way s n i t c sends k.1 }

each_before : (P : Message → Type 0) (xs ys : List Message) → Each P (xs ++ ys) → Each P xs
each_before P [] ys h = tt
each_before P (x ∷ xs) ys h = (h.0, each_before P xs ys h.1)

-- one entry of a log
one_keeps : (s : Setup) (i : ℕ) (e : Entry) (a b : Course) → IsSetup s → IsCourseOf s i a →
    ((f : ℕ) (c : Chan) → Each (IsDeferredAt s i) (b.took f c)) → ReplaysOne s i a e b → IsCourseOf s i b
one_keeps s i e a b is h took r = record {
  node = here.0;
  sent = λ t c. subst (λ (ms : List Message). Each (IsOnTheWay s i t) ms) (sym (r.sent t c))
      (Each-append (IsOnTheWay s i t) (a.sent t c) _ (h.sent t c) (posted_on_way s (length (a.sent t c)) i t c r.sends here.1));
}
  where
    comes : Comes s i r.front e.act
    comes f c m q front =
        let mine : b.took f c ≡ a.took f c ++ m ∷ [] = r.took f c
        ∙ ap (λ (ms : List Message). a.took f c ++ ms) (taken_here e r.front f i c m (sym r.local.node) q front) in
        (each_behind (IsDeferredAt s i) (a.took f c) (m ∷ [])
        (subst (λ (ms : List Message). Each (IsDeferredAt s i) ms) mine (took f c))).0

    here : Keeps s i b.local r.sends
    here = acts_keep s i a.local r.front b.local e r.sends e.act is h.node comes r.local.acts

log_keeps : (s : Setup) (i : ℕ) (es : List Entry) (a b : Course) → IsSetup s → IsCourseOf s i a →
    ((f : ℕ) (c : Chan) → Each (IsDeferredAt s i) (b.took f c)) → ReplaysOn s i a es b → IsCourseOf s i b
log_keeps s i [] a b is h took r = subst (λ (x : Course). IsCourseOf s i x) r h
log_keeps s i (e ∷ es) a b is h took r =
    let before : (f : ℕ) (c : Chan) → Each (IsDeferredAt s i) (r.0.took f c) =
    λ f c. let later = takes_later s i es r.0 b f c r.2 in each_before (IsDeferredAt s i) (r.0.took f c) later.0
    (subst (λ (ms : List Message). Each (IsDeferredAt s i) ms) later.1 (took f c)) in
    log_keeps s i es r.0 b is (one_keeps s i e a r.0 is h before r.1) took r.2

pub logs_keep : LogsKeepNodes
logs_keep s i log a is r took = log_keeps s i log (begin s i) a is (record { node = nodes_start s i is; sent = λ t c. tt }) took r

-- ---- all nodes and wires

start_keeps : (s : Setup) → IsSetup s → IsRunState s (start s)
start_keeps s is = record { nodes = λ i. nodes_start s i is; wires = λ f t c. tt }

pub step_keeps : StepsKeepTheirState
step_keeps s g e g2 is h r = record {
  nodes = λ k. elim (cases_eq k e.node) [
    | inl same ↦ subst (λ j. IsNodeOf s j (g2.locals j)) (sym same) here.0
    | inr other ↦ subst (λ (l : Local). IsNodeOf s k l) (sym (r.others k other)) (h.nodes k)
  ];
  wires = λ f t c.
      let stayed = each_behind (IsOnTheWay s f t) (taken e r.front f t c) (r.between f t c)
      (subst (λ (ms : List Message). Each (IsOnTheWay s f t) ms) (r.takes f t c) (h.wires f t c)) in
      subst (λ (ms : List Message). Each (IsOnTheWay s f t) ms) (sym (r.wires f t c))
      (Each-append (IsOnTheWay s f t) (r.between f t c) (posted (g.next f t c) f t c r.sends) stayed
      (posted_on_way s (g.next f t c) f t c r.sends here.1));
}
  where
    comes : Comes s e.node r.front e.act
    comes f c m q front =
        let at = front_on_wire s g e g2 r f c m q front in
        let all = subst (λ (ms : List Message). Each (IsOnTheWay s f e.node) ms) at.1 (h.wires f e.node c) in
        arrived s f e.node m all.0

    here : Keeps s e.node (g2.locals e.node) r.sends
    here = acts_keep s e.node (g.locals e.node) r.front (g2.locals e.node) e r.sends e.act is (h.nodes e.node) comes r.local.acts

run_keeps : (s : Setup) (es : List Entry) (g g2 : World) → IsSetup s → IsRunState s g → Runs s g es g2 → IsRunState s g2
run_keeps s [] g g2 is h r = subst (λ (x : World). IsRunState s x) r h
run_keeps s (e ∷ es) g g2 is h r = run_keeps s es r.0 g2 is (step_keeps s g e r.0 is h r.1) r.2

pub runs_keep : RunsKeepTheirState
runs_keep s journal g is r = run_keeps s journal (start s) g is (start_keeps s is) r
