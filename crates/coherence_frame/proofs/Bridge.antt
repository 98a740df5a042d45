-- From the seven parts to the form in which coherence is proved, and back.
use Rattle.coherence_frame.proofs.Scheme.{HasLength, Scheme}
use Rattle.coherence_frame.proofs.Rows.{SomeInfos}
use Rattle.std.proofs.Common.{◌≡◌, ℕ, ◌<◌, List, [], ◌∷◌, map, None, arith, refl, subst}
use Rattle.tw_base.specs.Lists.{Each}
use Rattle.tw_base.specs.declared.message.Chan.{Chan}
use Rattle.tw_base.specs.declared.message.Message.{Message}
use Rattle.dsm_runs.specs.Invariants.{IsOnTheWay, IsRunState}
use Rattle.dsm_runs.specs.Setups.{IsSetup, Setup, home_of}
use Rattle.dsm_runs.specs.Worlds.{World}
use Rattle.block_spots.specs.Cases.{State, HomeRw, HomeRo, HomeExcl, HomeAcks, HomePut, Here}
use Rattle.block_spots.specs.Notes.{Spot, notes}
use Rattle.block_spots.specs.Sketches.{Layout, Sketch, home_at, spot_at}
use Rattle.block_spots.specs.Views.{layout, seen_message}
use Rattle.coherence_frame.specs.Words.{AllSentBy, IsHomeState}
use Rattle.coherence_frame.specs.Coherent.{AtBlock, AtHome, Coherent}
use Rattle.coherence_frame.specs.Parts.{First, Second, Third, Fourth, Fifth, Sixth, Seventh, IsCoherent, Which, Part, current}
use Rattle.coherence_frame.specs.Parts.{seen, IsTreeOf}

sent_seen : (s : Setup) (f t : ℕ) (ms : List Message) → Each (IsOnTheWay s f t) ms → AllSentBy f (map seen_message ms)
sent_seen s f t [] h = tt
sent_seen s f t (m ∷ ms) h = (h.0.from, sent_seen s f t ms h.1)

home_below : (s : Setup) (b : ℕ) → IsSetup s → home_of s b < s.shape.nodes
home_below s b is = let some : 0 < s.shape.nodes = is.limits.some_node in omega (arith, some)

module _ (scheme : Scheme) where
  pub coherent_of : (s : Setup) (g : World) (flat : ℕ → List ℕ) → IsSetup s → IsRunState s g → IsCoherent scheme.wording s g →
      ((b : ℕ) → b < s.shape.blocks → current scheme.wording s g b ≡ flat b) →
      Coherent scheme.wording.standing (layout s) flat (seen scheme.wording s g)
  coherent_of s g flat is state parts tie = record {
    homes = λ b. home_below s b is;
    block = λ b lb. (let p = parts b lb in record {
      caches = λ i li d. record {
        state = ((p First).caches i li d).0;
        tag = ((p First).caches i li d).1;
        rest = (p Second).of_caches i li d;
        asks = ((p Third).0.caches i li d).0;
        keeps = ((p Third).0.caches i li d).1;
        one = (p Fourth).0.caches i li d;
        stands = (p Fifth).caches i li d;
        copies = scheme.shows.copies_at _ _ _ _ (p Sixth) i li d;
      };
      at_home = record {
        tag = (p First).home_tag;
        rest = (p Second).of_home;
        infos = (p Fifth).infos;
        ask = (p Third).0.own.0;
        down = (p Third).0.own.1;
        up = (p Third).0.own.2;
        faults = (p Third).0.own.3;
        one = (p Fourth).0.own;
        none = (p Fourth).0.none;
      };
      acks = (p Fifth).acks;
      tie = tie b lb;
    });
    elsewhere = λ b lb. (parts b lb Third).1;
    node = λ i b li lb. (parts b lb Fourth).1 i li;
    settled = λ b lb. parts b lb Seventh;
    sent = λ f t c. sent_seen s f t (g.wires f t c) (state.wires f t c);
  }

  -- coherence looks at one flat memory block by block
  pub coherent_flat : (s : Layout) (flat flat2 : ℕ → List ℕ) (g : Sketch) → ((b : ℕ) → b < s.blocks → flat b ≡ flat2 b) →
      Coherent scheme.wording.standing s flat g → Coherent scheme.wording.standing s flat2 g
  coherent_flat s flat flat2 g same k = record {
    homes = k.homes;
    block = λ b lb. subst (λ ws. AtBlock scheme.wording.standing s.nodes (s.home b) ws (home_at g b (s.home b))
        (spot_at g b (s.home b))) (same b lb) (k.block b lb);
    elsewhere = k.elsewhere;
    node = k.node;
    settled = k.settled;
    sent = k.sent;
  }

  home_state_is : (n h : ℕ) (home : Here) (sp : Spot) → AtHome scheme.wording.standing n h home sp → IsHomeState home.state
  home_state_is n h home sp a = go home.state refl
    where
      go : (x : State) → home.state ≡ x → IsHomeState home.state
      go HomeRw p = rw p tt
      go HomeRo p = rw p tt
      go HomeAcks p = rw p tt
      go HomeExcl p = rw p tt
      go HomePut p = rw p tt
      go x p = absurd (let i : SomeInfos n h home.state home = scheme.says.infos n h home home.state a.infos in grind arith)

  module _ (s : Setup) (g : World) (flat : ℕ → List ℕ) (k : Coherent scheme.wording.standing (layout s) flat
      (seen scheme.wording s g)) (is : IsTreeOf scheme.wording s.protocol)
      (unfailed : (i : ℕ) → i < s.shape.nodes → (g.locals i).failed ≡ None)
      (placed : (i b : ℕ) → i < s.shape.nodes → b < s.shape.blocks → scheme.wording.IsPlaced ((g.locals i).blocks b))
      (long : (f t b : ℕ) (c : Chan) → Each (HasLength s.shape.words) (notes b ((seen scheme.wording s g).wires f t c))) where
    part : (b : ℕ) → b < s.shape.blocks → (q : Which) → Part scheme.wording s g b q
    unfolding spot_at
    part b lb First = let a = k.block b lb in record {
      stache = is;
      unfailed = unfailed;
      home_state = home_state_is _ _ _ _ a.at_home;
      home_tag = a.at_home.tag;
      caches = λ i li d. ((a.caches i li d).state, (a.caches i li d).tag);
    }
    part b lb Second = let a = k.block b lb in record {
      placed = λ i li. placed i b li lb;
      of_home = a.at_home.rest;
      of_caches = λ i li d. (a.caches i li d).rest;
    }
    part b lb Third = let a = k.block b lb in (
      record {
        caches = λ i li d. (
          (a.caches i li d).asks,
          (a.caches i li d).keeps,
          scheme.shows.down_is _ _ _ _ i _ (a.caches i li d) (long _ _ b _),
          scheme.shows.up_is _ _ _ _ i _ (a.caches i li d) (long _ _ b _),
        );
        own = (a.at_home.ask, a.at_home.down, a.at_home.up, a.at_home.faults);
      },
      k.elsewhere b lb,
    )
    part b lb Fourth = let a =
        k.block b lb in (
          record { caches = λ i li d. (a.caches i li d).one; own = a.at_home.one; none = a.at_home.none },
          λ i li. k.node i b li lb,
        )
    part b lb Fifth = let a = k.block b lb in record {
      infos = a.at_home.infos;
      caches = λ i li d. (a.caches i li d).stands;
      acks = a.acks;
    }
    part b lb Sixth = let a = k.block b lb in scheme.shows.copies_of _ _ _ _ (λ i li d. (a.caches i li d).copies)
    part b lb Seventh = k.settled b lb

    pub parts_of : IsCoherent scheme.wording s g
    parts_of b lb q = part b lb q
