-- Where nothing may happen at a coherent sketch, nothing is left to do.
use Rattle.std.proofs.Common.{ℕ, ◌≤◌, ◌≡◌, ◌≢◌, ◌+◌, ◌<◌, true, false, List, [], ◌∷◌, arith, refl, sym, ap, ◌∙◌, inl, inr}
use Rattle.block_spots.specs.Cases.{Here, State, HomeRw, HomeRo, HomeExcl, HomeAcks, HomePut}
use Rattle.coherence_frame.specs.Coherent.{AtHome, AtBlock, Coherent}
use Rattle.coherence_frame.proofs.Rows.{SomeInfos, SomeRest, Plan}
use Rattle.std.proofs.lemmas.Bool.{cases_eq}
use Rattle.tw_base.specs.Lists.{Each, how_many}
use Rattle.tw_base.specs.declared.message.Chan.{Chan}
use Rattle.tw_base.specs.declared.message.Chan.TheVariants.{Zero, One}
use Rattle.block_spots.specs.Notes.{Waiting, note, notes, kept_notes, Spot, owes, held_home, is_rd_fault, is_wr_fault}
use Rattle.block_spots.specs.Sketches.{Layout, Sketch, home_at, spot_at}
use Rattle.block_spots.proofs.Sums.{sum_below_same}
use Rattle.coherence_frame.specs.Words.{AllEligible, IsSettled, IsWaiting, own_rd, own_wr}
use Rattle.coherence_frame.proofs.Loads.{sum_below_const}
use Rattle.coherence_frame.proofs.Views.{kept_notes_nil, kept_notes_other, kept_notes_same, notes_nil}
use Rattle.dsm_runs.specs.declared.mode.Mode.TheVariants as mode

-- no wire holds a message, no deferred one is eligible, and each is of a block of the machine
pub record IsStill (s : Layout) (g : Sketch) : Type 0 where
  pub wires : (f t : ℕ) (c : Chan) → f < s.nodes → t < s.nodes → g.wires f t c ≡ []
  pub stale : (i : ℕ) → i < s.nodes → Each (λ w. w.eligible ≡ false) (g.locals i).deferred
  pub within : (i : ℕ) → i < s.nodes → Each (λ w. w.message.block < s.blocks) (g.locals i).deferred

-- a node that is blocked waits for a block of the machine
abbrev pub BlockedWithin : Layout → Sketch → Type 0
BlockedWithin s g = (i b : ℕ) → i < s.nodes → (g.locals i).mode ≡ mode.Blocked b → b < s.blocks

none_of : (b j : ℕ) (ws : List Waiting) → AllEligible b ws → Each (λ w. w.eligible ≡ false) ws → kept_notes b j ws ≡ []
none_of b j [] e t = kept_notes_nil b j
none_of b j (w ∷ ws) e t = elim (cases_eq w.message.block b) [
  | inl p ↦ absurd (let x : w.eligible ≡ true = e.0 p in let y : w.eligible ≡ false = t.0 in let z : true ≡ false = sym x
      ∙ y in cc)
  | inr d ↦ kept_notes_other b j w ws d ∙ none_of b j ws e.1 t.1
]

-- a list of which nothing is of any block of the machine is empty
empty_of : (n : ℕ) (ws : List Waiting) → Each (λ w. w.message.block < n) ws → ((b j : ℕ) → b < n → kept_notes b j ws ≡ []) →
    ws ≡ []
empty_of n [] h none = refl
empty_of n (w ∷ ws) h none = absurd (let e : note w.message ∷ kept_notes w.message.block w.message.from ws
    ≡ [] = sym (kept_notes_same w.message.block w.message.from w ws refl refl) ∙ none w.message.block w.message.from h.0 in cc)

-- ---- one block

record Calm (s : Spot) : Type 0 where
  ask : s.ask ≡ []
  down : s.down ≡ []
  up : s.up ≡ []

module _ (plan : Plan) where
  infos_of : (n h : ℕ) (home : Here) (s : Spot) → AtHome plan.words n h home s → SomeInfos n h home.state home
  infos_of n h home s a = plan.says.infos n h home home.state a.infos

  put_owner : (n h : ℕ) (home : Here) (s : Spot) → AtHome plan.words n h home s → home.state ≡ HomePut →
      (home.owner < n) × (home.owner ≢ h)
  put_owner n h home s a p = let i : SomeInfos n h home.state home = infos_of n h home s a in grind arith

  some_acks : (n h : ℕ) (home : Here) (s : Spot) → AtHome plan.words n h home s → home.state ≡ HomeAcks → 1 ≤ home.acks
  some_acks n h home s a p = let i : SomeInfos n h home.state home = infos_of n h home s a in grind arith

  settled_rest : (n h : ℕ) (home : Here) (s : Spot) → AtHome plan.words n h home s → IsSettled home.state →
      held_home home.rest ≡ 0
  settled_rest n h home s a p = let k : SomeRest n h home.state home.rest =
      plan.says.rests n h home.state home.rest a.rest in grind arith

  module _ (s : Layout) (flat : ℕ → List ℕ) (g : Sketch) (k : Coherent plan.words s flat g) (q : IsStill s g) where
    module _ (b : ℕ) (lb : b < s.blocks) where
      calm : (i : ℕ) → i < s.nodes → Calm (spot_at g b (s.home b) i)
      unfolding spot_at
      calm i l = record {
        ask = ap (notes b) (q.wires i (s.home b) Zero l (k.homes b)) ∙ notes_nil b;
        down = ap (notes b) (q.wires (s.home b) i One (k.homes b) l) ∙ notes_nil b;
        up = ap (notes b) (q.wires i (s.home b) One l (k.homes b)) ∙ notes_nil b;
      }

      owes_none : (i : ℕ) → i < s.nodes → owes (spot_at g b (s.home b) i) ≡ 0
      owes_none i l = let c = calm i l in grind arith

      settled : IsSettled (home_at g b (s.home b)).state
      settled = go (home_at g b (s.home b)).state refl
        where
          a : AtBlock plan.words s.nodes (s.home b) (flat b) (home_at g b (s.home b)) (spot_at g b (s.home b))
          a = k.block b lb

          go : (x : State) → (home_at g b (s.home b)).state ≡ x → IsSettled (home_at g b (s.home b)).state
          go HomeRw p = rw p tt
          go HomeRo p = rw p tt
          go HomeExcl p = rw p tt
          go HomeAcks p =
              absurd (omega (
                arith,
                some_acks _ _ _ _ a.at_home p,
                a.acks p,
                sum_below_same s.nodes (λ j. owes (spot_at g b (s.home b) j)) (λ j. 0) owes_none,
                sum_below_const s.nodes 0,
              ))
          go HomePut p =
              absurd (let o = put_owner _ _ _ _ a.at_home p in let c = calm
              (home_at g b (s.home b)).owner o.0 in plan.says.gives_nothing _ _ _ _ _
              (a.caches (home_at g b (s.home b)).owner o.0 o.1) p refl c.down c.up)
          go x p =
              absurd (let i : SomeInfos s.nodes (s.home b) (home_at g b (s.home b)).state
              (home_at g b (s.home b)) = infos_of s.nodes (s.home b) _ _ a.at_home in grind arith)

      pub none_kept : (j : ℕ) → kept_notes b j (g.locals (s.home b)).deferred ≡ []
      none_kept j = none_of b j (g.locals (s.home b)).deferred (k.settled b lb settled) (q.stale (s.home b) (k.homes b))

      waits_not : (i : ℕ) → i < s.nodes → i ≢ s.home b → IsWaiting ((g.locals i).blocks b).state → ⊥
      unfolding spot_at
      waits_not i l d w = plan.says.not_waiting s.nodes (s.home b) (home_at g b (s.home b)) i (spot_at g b (s.home b) i)
          (spot_at g b (s.home b) (s.home b)) ((k.block b lb).caches i l d) (k.block b lb).at_home settled (calm i l).ask
          (none_kept i) (calm i l).down w

      pub not_blocked : (i : ℕ) → i < s.nodes → (g.locals i).mode ≢ mode.Blocked b
      not_blocked i l m =
          elim (cases_eq i (s.home b)) [ inl p ↦ home p | inr d ↦ waits_not i l d ((k.node i b l lb).blocked d m) ]
        where
          home : i ≡ s.home b → ⊥
          home p =
              let one : own_rd (g.locals i) i b + own_wr (g.locals i) i b + held_home ((g.locals i).blocks b).rest ≡ 1 =
              (k.node i b l lb).blocked_home p m in
              let none : kept_notes b i (g.locals i).deferred ≡ [] = rw p (none_kept (s.home b)) in
              let free : held_home ((g.locals i).blocks b).rest ≡ 0 =
              rw p (settled_rest _ _ _ _ (k.block b lb).at_home settled) in
              omega (arith, one, ap (how_many is_rd_fault) none, ap (how_many is_wr_fault) none, free)

    none_anywhere : (i : ℕ) → i < s.nodes → (b j : ℕ) → b < s.blocks → kept_notes b j (g.locals i).deferred ≡ []
    none_anywhere i l b j lb =
        elim (cases_eq i (s.home b)) [ inl p ↦ rw p (none_kept b lb j) | inr d ↦ (k.elsewhere b lb).deferred i j l d ]

    pub none_deferred : (i : ℕ) → i < s.nodes → (g.locals i).deferred ≡ []
    none_deferred i l = empty_of s.blocks (g.locals i).deferred (q.within i l) (none_anywhere i l)

    pub none_blocked : BlockedWithin s g → (i b : ℕ) → i < s.nodes → (g.locals i).mode ≢ mode.Blocked b
    none_blocked w i b l m = not_blocked b (w i b l m) i l m
