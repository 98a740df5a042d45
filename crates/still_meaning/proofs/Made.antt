-- What a node's clause says of its event, as the event of all.
use Rattle.std.proofs.Common.{◌≡◌, ◌∙◌, ℕ, ◌<◌, true, nat_eq, if◌then◌else◌, List, [], ◌∷◌, ◌++◌, Option, Some, None, length}
use Rattle.std.proofs.Common.{refl, ap, sym, subst}
use Rattle.std.specs.Prelude.{slice_get, slice_set}
use Rattle.std.proofs.lemmas.Bool.{eqb-true}
use Rattle.std.proofs.lemmas.List.{length-set}
use Rattle.std.proofs.lemmas.Option.{slice_get_within}
use Rattle.tw_base.specs.declared.entry.Act.{Act}
use Rattle.tw_base.specs.declared.entry.Act.TheVariants as act
use Rattle.tw_base.specs.declared.entry.Entry.{Entry}
use Rattle.tw_base.specs.declared.entry.Event.{Event}
use Rattle.tw_base.specs.declared.entry.Event.TheVariants as event
use Rattle.tw_base.specs.declared.message.Chan.{Chan}
use Rattle.tw_base.specs.declared.message.Message.{Message}
use Rattle.dsm_runs.specs.Messages.{chan_eq}
use Rattle.dsm_runs.specs.Replays.{Course}
use Rattle.dsm_runs.specs.Worlds.{Runs, event_at, event_of, takes_from}
use Rattle.dsm_runs.proofs.Lists.{and_left, and_right, chan_eq-true}
use Rattle.node_meaning.specs.Nodes.{Shown, front_at}
use Rattle.node_meaning.specs.Stands.{GoesOn, Makes, StandsFor}
use Rattle.still_meaning.specs.Laws.{IsFrontOf, node_of}
use Rattle.still_meaning.specs.Stills.{GoesThrough, StillShown}
use Rattle.still_meaning.proofs.Making.{MakesOne, one_through}
use Rattle.still_meaning.proofs.Passing.{set_here, set_other}

node_is : (i : ℕ) (a : Act) → node_of (event_at i a) ≡ i
node_is i (act.Load address value) = refl
node_is i (act.Store address value) = refl
node_is i (act.Faa address value sum) = refl
node_is i (act.Print value) = refl
node_is i act.Halt = refl
node_is i (act.Trapped why) = refl
node_is i act.Step = refl
node_is i (act.Fault store block) = refl
node_is i (act.Redelivered kind block from) = refl
node_is i (act.Delivered kind block from chan number) = refl

-- an event that takes a message from a wire is its delivery
pub taken_at : (i : ℕ) (a : Act) (f : ℕ) (c : Chan) → takes_from a f c ≡ true → event_at i a ≡ event.Deliver i f c
taken_at i (act.Delivered kind block from chan number) f c h =
    let at : f ≡ from = eqb-true f from (and_left (nat_eq f from) (chan_eq c chan) h) in
    let on : c ≡ chan = chan_eq-true c chan (and_right (nat_eq f from) (chan_eq c chan) h) in
    ap (λ k. event.Deliver i k chan) (sym at) ∙ ap (λ (d : Chan). event.Deliver i f d) (sym on)
taken_at i (act.Load address value) f c h = absurd cc
taken_at i (act.Store address value) f c h = absurd cc
taken_at i (act.Faa address value sum) f c h = absurd cc
taken_at i (act.Print value) f c h = absurd cc
taken_at i act.Halt f c h = absurd cc
taken_at i (act.Trapped why) f c h = absurd cc
taken_at i act.Step f c h = absurd cc
taken_at i (act.Fault store block) f c h = absurd cc
taken_at i (act.Redelivered kind block from) f c h = absurd cc

makes_one : (a b : StillShown) (old new : Shown) (front : Option Message) (ev : Event) (m : Makes old new front ev)
    (e : Entry) → m.entry ≡ e → e.node ≡ old.me → slice_get a.nodes old.me ≡ Some old → old.me < a.setup.shape.nodes
    → IsFrontOf a.setup.shape.nodes old ev front → b.setup ≡ a.setup → b.code ≡ a.code → b.rows ≡ a.rows →
    b.nodes ≡ slice_set a.nodes old.me new → b.taken ≡ a.taken ++ e ∷ [] → MakesOne a b e front m.more old new
makes_one a b old new front ev m e is at there within takes setup code rows nodes taken =
    let i : e.node ≡ old.me = at in
    let l : old.me < length a.nodes = slice_get_within a.nodes old.me old there in
    record {
      there = ap (λ k. slice_get a.nodes k) i ∙ there;
      here = ap (λ k. slice_get b.nodes k) i ∙ ap (λ (ns : List Shown). slice_get ns old.me) nodes
          ∙ set_here a.nodes old.me new l;
      away = λ k d. ap (λ (ns : List Shown). slice_get ns k) nodes ∙ set_other a.nodes old.me k new (λ q. d (q ∙ sym i));
      count = ap (λ (ns : List Shown). length ns) nodes ∙ length-set a.nodes old.me new;
      rows = rows;
      same_setup = setup;
      same_code = code;
      taken = taken;
      node = subst (λ k. k < a.setup.shape.nodes) (sym i) within;
      within = λ f c h. subst (λ (v : Event). IsFrontOf a.setup.shape.nodes old v front)
          (sym m.tells ∙ ap (λ (x : Entry). event_of x) is ∙ taken_at e.node e.act f c h) takes;
      waits = m.waits;
      setup = m.same_setup;
      code = m.same_code;
      me = m.same_me;
      fronts = subst (λ (x : Entry). (f : ℕ) (c : Chan) → front_at new f c
          ≡ (if takes_from x.act f c then None else front_at old f c)) is m.fronts;
      goes = subst (λ (x : Entry). (c : Course) → StandsFor old c → GoesOn old new c x front m.more) is m.goes;
    }

-- A node of the still makes an event, and its entry is put behind those that were taken: all go through it.
pub made_through : (a b : StillShown) (old new : Shown) (front : Option Message) (ev : Event) (m : Makes old new front ev) →
    node_of ev ≡ old.me → slice_get a.nodes old.me ≡ Some old → old.me < a.setup.shape.nodes →
    IsFrontOf a.setup.shape.nodes old ev front
    → b.setup ≡ a.setup → b.code ≡ a.code → b.rows ≡ a.rows → b.nodes ≡ slice_set a.nodes old.me new →
    b.taken ≡ a.taken ++ m.entry ∷ [] → GoesThrough a b (m.entry ∷ []) (Runs a.setup)
made_through a b old new front ev m me there within takes setup code rows nodes taken =
    let at : m.entry.node ≡ old.me = sym (node_is m.entry.node m.entry.act) ∙ ap (λ (v : Event). node_of v) m.tells ∙ me in
    one_through a b m.entry front m.more old new (makes_one a b old new front ev m m.entry refl at there within takes setup
    code rows nodes taken)
