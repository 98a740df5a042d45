-- In a run of a sample each node goes from spot to spot, and makes few instruction events.
use Rattle.std.proofs.Common.{◌≡◌, ◌≢◌, ℕ, ◌+◌, ◌*◌, ◌<◌, ◌≤◌, ◌⊎◌, inl, inr, Bool, true, false, if◌then◌else◌}
use Rattle.std.proofs.Common.{List, [], ◌∷◌, ◌++◌, Option, None, refl, sym, ap, subst, ◌∙◌, arith}
use Rattle.std.specs.Prelude.{slice_index, unwrap_or}
use Rattle.std.proofs.lemmas.Bool.{cases_eq, eq-eqb, ne_eqb}
use Rattle.tw_base.specs.declared.entry.Act.TheVariants as act
use Rattle.tw_base.specs.declared.entry.Entry.{Entry}
use Rattle.mini_asm.specs.Run.{Machine}
use Rattle.mini_asm.specs.declared.processor.FlatMode.TheVariants as flat
use Rattle.dsm_runs.specs.Flat.{FollowsOne, core_of, is_completed}
use Rattle.dsm_runs.specs.Locals.{Local}
use Rattle.dsm_runs.specs.Setups.{IsSetup, Setup}
use Rattle.dsm_runs.specs.Worlds.{Runs, Step, World}
use Rattle.dsm_runs.proofs.GoingOn.{run_goes_on}
use Rattle.dsm_runs.proofs.Repeating.{acts-stay, silent-words}
use Rattle.coherence_inv.specs.Ends.{IsDoneAccess, NoInstruction}
use Rattle.coherence_inv.specs.Laws.{IsKept, KeepsOn}
use Rattle.coherence_inv.specs.Potential.{is_handler_event}
use Rattle.coherence_inv.proofs.Followed.{faults_are_followed}
use Rattle.coherence_inv.proofs.Keeping.{events_keep}
use Rattle.sample_runs.specs.Summaries.{first_print, printed, printed_by}
use Rattle.sample_sums.proofs.Acts.{Completed, Fault, Handler, Kind, acts_count, fault_may, fault_undone, kind_of}
use Rattle.sample_sums.proofs.Acts.{price_of_access, price_some, ready_runs}
use Rattle.sample_sums.proofs.Nodes.{IsSample, Moved, NodeAt, completes_at, stays_at}
use Rattle.sample_sums.proofs.Spots.{Fresh, HasRounds, HasIncrement, HasEnd, HasStride, Outer, Load, AddUp, Keep, Move, Back}
use Rattle.sample_sums.proofs.Spots.{Count, Again, Fetch, Show, Stop, Over, IsPrintStep, Spot, core_at, cost_of, is_to_print}
use Rattle.sample_sums.proofs.Spots.{price_of}

-- ---- a refused access, which is still to be made

pub record Owes (s : Setup) (i : ℕ) (g : World) : Type 0 where
  pub before : World
  pub after : World
  pub machine : Machine
  pub entry : Entry
  pub between : List Entry
  pub store : Bool
  pub block : ℕ
  pub kept : IsKept s before machine
  pub faults : Step s before entry after
  pub fault : entry.act ≡ act.Fault store block
  pub node : entry.node ≡ i
  pub goes : Runs s after between g
  pub silent : NoInstruction entry.node between

silent_on : (i : ℕ) (es : List Entry) (e : Entry) → (e.node ≡ i → is_handler_event e.act ≡ 1) → NoInstruction i es
    → NoInstruction i (es ++ e ∷ [])
silent_on i [] e h n = (h, tt)
silent_on i (x ∷ es) e h n = (n.0, silent_on i es e h n.1)

owes_on : (s : Setup) (i : ℕ) (g h : World) (e : Entry) → Step s g e h → (e.node ≡ i → is_handler_event e.act ≡ 1) → Owes s i g
    → Owes s i h
owes_on s i g h e step handles o = record {
  before = o.before;
  after = o.after;
  machine = o.machine;
  entry = o.entry;
  between = o.between ++ e ∷ [];
  store = o.store;
  block = o.block;
  kept = o.kept;
  faults = o.faults;
  fault = o.fault;
  node = o.node;
  goes = run_goes_on s o.between (e ∷ []) o.after g h o.goes (h, step, refl);
  silent = silent_on o.entry.node o.between e (λ q. handles (q ∙ o.node)) o.silent;
}

owes_new : (s : Setup) (g h : World) (m : Machine) (e : Entry) (store : Bool) (block : ℕ) → IsKept s g m → Step s g e h
    → e.act ≡ act.Fault store block → Owes s e.node h
owes_new s g h m e store block kept step is = record {
  before = g;
  after = h;
  machine = m;
  entry = e;
  between = [];
  store = store;
  block = block;
  kept = kept;
  faults = step;
  fault = is;
  node = refl;
  goes = refl;
  silent = tt;
}

makes_it : (s : Setup) (g h : World) (e : Entry) → IsSetup s → (o : Owes s e.node g) → Step s g e h → is_handler_event e.act ≡ 0
    → IsDoneAccess s o.store o.block e.act
makes_it s g h e setup o step none =
    faults_are_followed s o.before o.after g h o.machine o.entry e o.between o.store o.block setup o.kept o.faults o.fault
    o.goes o.silent step (sym o.node) none

-- ---- how many instruction events a node has made

abbrev bound : ℕ → ℕ
bound R = 115 * R + 9

-- With what may follow they are few; one more is allowed for while the node owes an access that was refused.
pub data IsFew (s : Setup) (R i : ℕ) (g : World) (made cost : ℕ) : Type 0 where
  Free : made + cost ≤ bound R → IsFew s R i g made cost
  Owing : Owes s i g → 1 ≤ cost → made + cost ≤ bound R + 1 → IsFew s R i g made cost

pub few_made : (s : Setup) (R i : ℕ) (g : World) (made cost : ℕ) → IsFew s R i g made cost → made ≤ bound R
few_made s R i g made cost (Free h) = omega arith
few_made s R i g made cost (Owing o some h) = omega arith

-- an event that is no instruction of the node
few_stay : (s : Setup) (R i : ℕ) (g h : World) (e : Entry) (made cost : ℕ) → Step s g e h
    → (e.node ≡ i → is_handler_event e.act ≡ 1) → IsFew s R i g made cost → IsFew s R i h made cost
few_stay s R i g h e made cost step handles (Free f) = Free f
few_stay s R i g h e made cost step handles (Owing o some f) = Owing (owes_on s i g h e step handles o) some f

-- a refused access
few_refused : (s : Setup) (R : ℕ) (g h : World) (m : Machine) (e : Entry) (store : Bool) (block made cost : ℕ) → IsSetup s
    → IsKept s g m → Step s g e h → e.act ≡ act.Fault store block
    → is_handler_event e.act ≡ 0 → 1 ≤ cost → IsFew s R e.node g made cost → IsFew s R e.node h (made + 1) cost
few_refused s R g h m e store block made cost setup kept step is none some (Free f) =
    Owing (owes_new s g h m e store block kept step is) some (omega arith)
few_refused s R g h m e store block made cost setup kept step is none some (Owing o some2 f) =
    absurd (fault_undone s o.store store o.block block e.act is (makes_it s g h e setup o step none))

-- an instruction that completes
few_completed : (s : Setup) (R : ℕ) (g h : World) (e : Entry) (made cost cost2 : ℕ) → IsSetup s → Step s g e h
    → is_handler_event e.act ≡ 0
    → cost2 + price_of e.act ≤ cost → IsFew s R e.node g made cost → IsFew s R e.node h (made + 1) cost2
few_completed s R g h e made cost cost2 setup step none less (Free f) =
    Free (let p : 1 ≤ price_of e.act = price_some e.act in omega arith)
few_completed s R g h e made cost cost2 setup step none less (Owing o some f) =
    Free (let p : price_of e.act ≡ 2 = price_of_access s o.store o.block e.act (makes_it s g h e setup o step none) in
    omega arith)

-- ---- a node in a run

pub record NodeIn (s : Setup) (R : ℕ) (d : ℕ → ℕ) (i : ℕ) (g : World) (words : List ℕ) : Type 0 where
  pub place : NodeAt R (d i) i (g.locals i) words
  pub few : IsFew s R i g (g.locals i).instructions (cost_of R place.spot)

-- what an event makes of it, and prints there
pub record After (s : Setup) (R : ℕ) (d : ℕ → ℕ) (i : ℕ) (spot : Spot) (did : Option ℕ) (h : World)
    (words : List ℕ) : Type 0 where
  pub node : NodeIn s R d i h words
  pub prints : IsPrintStep (R * d i) (is_to_print spot) (is_to_print node.place.spot) did

prints_nothing : (v : ℕ) (b : Bool) (did : Option ℕ) → did ≡ None → IsPrintStep v b b did
prints_nothing v true did none = inr (none, refl)
prints_nothing v false did none = tt

-- the node stays at its spot
stays : (s : Setup) (R : ℕ) (d : ℕ → ℕ) (i : ℕ) (g h : World) (words words2 : List ℕ) (did : Option ℕ)
    (n : NodeIn s R d i g words)
    → core_of (h.locals i) ≡ core_of (g.locals i) → ((k : ℕ) → slice_index words2 (i + 4 * k) ≡ slice_index words (i + 4 * k))
    → did ≡ None
    → IsFew s R i h (h.locals i).instructions (cost_of R n.place.spot) → After s R d i n.place.spot did h words2
stays s R d i g h words words2 did n same words_same none few = record {
  node = record {
    place = record {
      spot = n.place.spot;
      core = same ∙ n.place.core;
      fits = n.place.fits;
      mine = stays_at R (d i) i (g.locals i) (h.locals i) words words2 n.place same words_same;
    };
    few = few;
  };
  prints = prints_nothing (R * d i) (is_to_print n.place.spot) did none;
}

-- a spot from which a node runs
runs_cost : (R d i : ℕ) (spot : Spot) → (core_at R d i spot).mode ≡ flat.Running → 1 ≤ cost_of R spot
runs_cost R d i Fresh e = omega arith
runs_cost R d i HasRounds e = omega arith
runs_cost R d i HasIncrement e = omega arith
runs_cost R d i HasEnd e = omega arith
runs_cost R d i HasStride e = omega arith
runs_cost R d i (Outer l a x y) e = omega arith
runs_cost R d i (Load l a m n y) e = omega arith
runs_cost R d i (AddUp l a m n) e = omega arith
runs_cost R d i (Keep l a m n) e = omega arith
runs_cost R d i (Move l a m n) e = omega arith
runs_cost R d i (Back l a m n) e = omega arith
runs_cost R d i (Count l a) e = omega arith
runs_cost R d i (Again l a) e = omega arith
runs_cost R d i Fetch e = omega arith
runs_cost R d i Show e = omega arith
runs_cost R d i Stop e = omega arith
runs_cost R d i Over e = absurd (let z : flat.Halted ≡ flat.Running = e in cc)

-- ---- one event, at each node

own_print : (e : Entry) → printed_by e.node e ≡ printed e.act
own_print e = ap (λ (b : Bool). if b then printed e.act else None) (eq-eqb e.node e.node refl)

other_print : (i : ℕ) (e : Entry) → i ≢ e.node → printed_by i e ≡ None
other_print i e ne = ap (λ (b : Bool). if b then printed e.act else None) (ne_eqb e.node i (λ q. ne (sym q)))

module _ (s : Setup) (R : ℕ) (d : ℕ → ℕ) (is : IsSample s R d) (setup : IsSetup s) (g h : World) (m : Machine) (e : Entry)
    (kept : IsKept s g m) (step : Step s g e h) (on : KeepsOn s m e h)
    (nodes : (i : ℕ) → i < 4 → NodeIn s R d i g m.words) where
  abbrev next : Machine
  next = on.goes.next

  counted : (h.locals e.node).instructions + is_handler_event e.act ≡ (g.locals e.node).instructions + 1
  counted = acts_count s e.node (g.locals e.node) step.front (h.locals e.node) e step.sends e.act step.local.acts

  within : e.node < 4
  within = let a : e.node < s.shape.nodes = step.local.at_node in let b : s.shape.nodes ≡ 4 = is.nodes in omega arith

  silent_core : is_completed e.act ≡ false → core_of (h.locals e.node) ≡ core_of (g.locals e.node)
  silent_core silent = acts-stay s e.node (g.locals e.node) step.front (h.locals e.node) e step.sends e.act silent step.local.acts

  silent_same : is_completed e.act ≡ false → next.words ≡ m.words
  silent_same silent = on.goes.words ∙ silent-words e.act m.words silent

  -- the node of an instruction that completed
  moved : is_completed e.act ≡ true → (li : e.node < 4)
      → Moved R (d e.node) e.node (nodes e.node li).place.spot (h.locals e.node) m.words next.words e.act
  moved completed li =
      completes_at s R d is g h m next e.node e.act kept.tied.beside on.goes.beside
      (subst (λ (b : Bool). FollowsOne b m e next) completed on.goes.follows) li (nodes e.node li).place

  others_same : Kind e.act → (o k : ℕ) → o < 4 → o ≢ e.node → slice_index next.words (o + 4 * k) ≡ slice_index m.words (o + 4 * k)
  others_same (Completed completed none) o k lo ne = (moved completed within).others o k lo ne
  others_same (Fault store block fault) o k lo ne =
      ap (λ (w : List ℕ). slice_index w (o + 4 * k)) (silent_same (ap is_completed fault))
  others_same (Handler silent handles none) o k lo ne = ap (λ (w : List ℕ). slice_index w (o + 4 * k)) (silent_same silent)

  own_goes : Kind e.act → (li : e.node < 4) → After s R d e.node (nodes e.node li).place.spot (printed_by e.node e) h next.words
  own_goes (Completed completed none) li =
      let n = nodes e.node li in
      let to = moved completed li in
      record {
        node = record {
          place = to.node;
          few = subst (λ (c : ℕ). IsFew s R e.node h c (cost_of R to.node.spot))
              (let q : (g.locals e.node).instructions + 1 ≡ (h.locals e.node).instructions = omega (arith, counted, none) in q)
              (few_completed s R g h e (g.locals e.node).instructions (cost_of R n.place.spot)
              (cost_of R to.node.spot) setup step none to.cost n.few);
        };
        prints = subst (λ (p : Option ℕ). IsPrintStep (R * d e.node) (is_to_print n.place.spot) (is_to_print to.node.spot) p)
            (sym (own_print e)) to.prints;
      }
  own_goes (Fault store block fault) li =
      let n = nodes e.node li in
      let silent : is_completed e.act ≡ false = ap is_completed fault in
      let none : is_handler_event e.act ≡ 0 = ap is_handler_event fault in
      let may = fault_may s e.node (g.locals e.node) step.front
      (h.locals e.node) e step.sends e.act store block fault step.local.acts in
      let running : flat.Running ≡ (core_at R (d e.node) e.node n.place.spot).mode =
      sym (ready_runs (g.locals e.node).mode may.ready) ∙ ap (λ c. c.mode) n.place.core in
      stays s R d e.node g h m.words next.words (printed_by e.node e) n (silent_core silent)
      (λ k. ap (λ (w : List ℕ). slice_index w (e.node + 4 * k)) (silent_same silent))
      (own_print e ∙ ap printed fault)
      (subst (λ (c : ℕ). IsFew s R e.node h c (cost_of R n.place.spot))
      (let q : (g.locals e.node).instructions + 1 ≡ (h.locals e.node).instructions = omega (arith, counted, none) in q)
      (few_refused s R g h m e store block (g.locals e.node).instructions (cost_of R n.place.spot) setup kept step fault none
      (runs_cost R (d e.node) e.node n.place.spot (sym running)) n.few))
  own_goes (Handler silent handles none) li =
      let n = nodes e.node li in
      stays s R d e.node g h m.words next.words (printed_by e.node e) n (silent_core silent)
      (λ k. ap (λ (w : List ℕ). slice_index w (e.node + 4 * k)) (silent_same silent))
      (own_print e ∙ none)
      (subst (λ (c : ℕ). IsFew s R e.node h c (cost_of R n.place.spot))
      (let q : (g.locals e.node).instructions ≡ (h.locals e.node).instructions = omega (arith, counted, handles) in q)
      (few_stay s R e.node g h e (g.locals e.node).instructions (cost_of R n.place.spot) step (λ q. handles) n.few))

  other_goes : (i : ℕ) → i ≢ e.node → (li : i < 4) → After s R d i (nodes i li).place.spot (printed_by i e) h next.words
  other_goes i ne li =
      let n = nodes i li in
      let same : h.locals i ≡ g.locals i = step.others i ne in
      stays s R d i g h m.words next.words (printed_by i e) n (ap core_of same) (λ k. others_same (kind_of e.act) i k li ne)
      (other_print i e ne)
      (subst (λ (c : ℕ). IsFew s R i h c (cost_of R n.place.spot)) (ap (λ (l : Local). l.instructions) (sym same))
      (few_stay s R i g h e (g.locals i).instructions (cost_of R n.place.spot) step (λ q. absurd (ne (sym q))) n.few))

  pub event_goes : (i : ℕ) (li : i < 4) → After s R d i (nodes i li).place.spot (printed_by i e) h next.words
  event_goes i li = go (cases_eq i e.node)
    where
      go : (i ≡ e.node) ⊎ (i ≢ e.node) → After s R d i (nodes i li).place.spot (printed_by i e) h next.words
      go (inl here) = subst (λ (x : ℕ). (lx : x < 4) → After s R d x (nodes x lx).place.spot (printed_by x e) h next.words)
          (sym here) (own_goes (kind_of e.act)) li
      go (inr other) = other_goes i other li

-- ---- a run

-- node i at the end of a run from this spot, and its first print
pub record NodeEnds (s : Setup) (R : ℕ) (d : ℕ → ℕ) (i : ℕ) (spot : Spot) (j : List Entry) (h : World)
    (words : List ℕ) : Type 0 where
  pub node : NodeIn s R d i h words
  pub prints : is_to_print spot ≡ true → is_to_print node.place.spot ≡ false → first_print i j ≡ R * d i

pub record RunEnds (s : Setup) (R : ℕ) (d : ℕ → ℕ) (spots : (i : ℕ) → i < 4 → Spot) (j : List Entry) (h : World) : Type 0 where
  pub machine : Machine
  pub kept : IsKept s h machine
  pub nodes : (i : ℕ) (li : i < 4) → NodeEnds s R d i (spots i li) j h machine.words

prints_first : (v rest : ℕ) (before mid last : Bool) (did : Option ℕ) → IsPrintStep v before mid did
    → (mid ≡ true → last ≡ false → rest ≡ v) → before ≡ true → last ≡ false → unwrap_or did rest ≡ v
prints_first v rest true mid last did (inl some) later b l = ap (λ (o : Option ℕ). unwrap_or o rest) some
prints_first v rest true mid last did (inr none) later b l = ap (λ (o : Option ℕ). unwrap_or o rest) none.0 ∙ later none.1 l
prints_first v rest false mid last did p later b l = absurd (let z : false ≡ true = b in cc)

pub run_ends : (s : Setup) (R : ℕ) (d : ℕ → ℕ) → IsSample s R d → IsSetup s
    → (g : World) (j : List Entry) (h : World) (m : Machine) → IsKept s g m
    → (nodes : (i : ℕ) → i < 4 → NodeIn s R d i g m.words) → Runs s g j h → RunEnds s R d (λ i li. (nodes i li).place.spot) j h
run_ends s R d is setup g [] h m kept nodes r =
    subst (λ (x : World). RunEnds s R d (λ i li. (nodes i li).place.spot) [] x) r (record {
      machine = m;
      kept = kept;
      nodes = λ i li. record { node = nodes i li; prints = λ t f. absurd (let z : true ≡ false = sym t ∙ f in cc) };
    })
run_ends s R d is setup g (e ∷ j) h m kept nodes r =
    let on : KeepsOn s m e r.0 = events_keep s g e r.0 m setup kept r.1 in
    let mid = event_goes s R d is setup g r.0 m e kept r.1 on nodes in
    let rest = run_ends s R d is setup r.0 j h on.goes.next on.kept (λ i li. (mid i li).node) r.2 in
    record {
      machine = rest.machine;
      kept = rest.kept;
      nodes = λ i li. record {
        node = (rest.nodes i li).node;
        prints = prints_first (R * d i) (first_print i j) (is_to_print (nodes i li).place.spot)
            (is_to_print (mid i li).node.place.spot) (is_to_print (rest.nodes i li).node.place.spot)
            (printed_by i e) (mid i li).prints (rest.nodes i li).prints;
      };
    }
