-- What nodes may read at the end: the flat machine's words, and where nothing is in flight each block has a reader.
use Rattle.coherence_frame.proofs.Rows.{SomeInfos}
use Rattle.std.proofs.Common.{◌≡◌, ◌≢◌, ℕ, ◌<◌, [], map, arith, refl, sym, ap, subst, ◌∙◌}
use Rattle.std.specs.Prelude.{slice_index}
use Rattle.tw_base.specs.declared.message.Chan.{Chan}
use Rattle.mini_asm.specs.Run.{Machine}
use Rattle.dsm_runs.specs.Setups.{IsSetup, Setup, block_of, home_of, offset_of}
use Rattle.dsm_runs.specs.Worlds.{World}
use Rattle.block_spots.specs.Cases.{State, HomeRw, HomeRo, HomeExcl, HomeAcks, HomePut, Here}
use Rattle.block_spots.specs.Notes.{Spot, notes}
use Rattle.block_spots.specs.Sketches.{home_at, spot_at}
use Rattle.block_spots.specs.Views.{layout, seen_message}
use Rattle.block_tags.specs.Copies.{block_slice}
use Rattle.block_tags.proofs.Slices.{slice_word}
use Rattle.coherence_frame.proofs.Kept.{read_is_current}
use Rattle.coherence_frame.proofs.Views.{notes_nil}
use Rattle.coherence_frame.specs.Coherent.{AtBlock, AtHome, Coherent}
use Rattle.coherence_frame.specs.Words.{IsCacheNode, IsHomeState, allows_load}
use Rattle.coherence_frame.specs.Laws.{BlocksHaveReaders, CopiesAreCurrent, HasReader, IsKept}
use Rattle.coherence_frame.specs.Parts.{First, seen}
use Rattle.coherence_frame.proofs.Bridge.{coherent_of}
use Rattle.coherence_frame.proofs.StepsSeen.{block_within}
use Rattle.coherence_frame.proofs.Scheme.{Scheme, plan_of}

module _ (scheme : Scheme) where
  form_of : (s : Setup) (g : World) (m : Machine) → IsSetup s → IsKept scheme.wording s g m →
      Coherent scheme.wording.standing (layout s) (block_slice s.shape.words m.words) (seen scheme.wording s g)
  form_of s g m setup kept = coherent_of scheme s g (block_slice s.shape.words m.words) setup kept.state kept.coherent
      kept.tied.words

  pub copies_are_current : CopiesAreCurrent scheme.wording
  copies_are_current s g m i address setup kept li lt may =
      ap (λ ws. slice_index ws (offset_of s address)) (read_is_current (plan_of scheme) (layout s)
      (block_slice s.shape.words m.words) (seen scheme.wording s g) i (block_of s address) li
      (block_within s address setup lt) (form_of s g m setup kept) may)
      ∙ slice_word s.shape.words address m.words setup.limits.some_word

  infos_of : (n h : ℕ) (home : Here) (sp : Spot) → AtHome scheme.wording.standing n h home sp → SomeInfos n h home.state home
  infos_of n h home sp a = scheme.says.infos n h home home.state a.infos

  owner_is : (n h : ℕ) (home : Here) (sp : Spot) → AtHome scheme.wording.standing n h home sp → home.state ≡ HomeExcl →
      IsCacheNode n h home.owner
  owner_is n h home sp a e = subst (λ st. SomeInfos n h st home) e (infos_of n h home sp a)

  owner_was : (n h : ℕ) (home : Here) (sp : Spot) → AtHome scheme.wording.standing n h home sp → home.state ≡ HomePut →
      IsCacheNode n h home.owner
  owner_was n h home sp a e = subst (λ st. SomeInfos n h st home) e (infos_of n h home sp a)

  home_reads : (n h : ℕ) (home : Here) (sp : Spot) → AtHome scheme.wording.standing n h home sp → home.state ≢ HomeExcl →
      home.state ≢ HomePut → allows_load home.tag
  home_reads n h home sp a x y = go home.state refl
    where
      go : (st : State) → home.state ≡ st → allows_load home.tag
      go HomeRw p = grind arith
      go HomeRo p = grind arith
      go HomeAcks p = grind arith
      go HomeExcl p = absurd (x p)
      go HomePut p = absurd (y p)
      go st p = absurd (let i : SomeInfos n h home.state home = infos_of n h home sp a in grind arith)

  pub blocks_have_readers : BlocksHaveReaders scheme.wording
  unfolding spot_at
  blocks_have_readers s g m b setup kept none lb = go (home_at (seen scheme.wording s g) b (home_of s b)).state refl
    where
      at : AtBlock scheme.wording.standing s.shape.nodes (home_of s b) (block_slice s.shape.words m.words b)
          (home_at (seen scheme.wording s g) b (home_of s b)) (spot_at (seen scheme.wording s g) b (home_of s b))
      at = (form_of s g m setup kept).block b lb

      li : home_of s b < s.shape.nodes
      li = let some : 0 < s.shape.nodes = setup.limits.some_node in omega (arith, some)

      silent : (f t : ℕ) (c : Chan) → f < s.shape.nodes → t < s.shape.nodes → notes b ((seen scheme.wording s g).wires f t c) ≡ []
      silent f t c lf lt = ap (λ ms. notes b (map seen_message ms)) (none f t c lf lt) ∙ notes_nil b

      at_home : (st : State) → (home_at (seen scheme.wording s g) b (home_of s b)).state ≡ st → st ≢ HomeExcl → st ≢ HomePut →
          HasReader s g b
      at_home st p x y = record {
        node = home_of s b;
        within = li;
        may = home_reads _ _ _ _ at.at_home (λ q. x (sym p ∙ q)) (λ q. y (sym p ∙ q));
      }

      go : (st : State) → (home_at (seen scheme.wording s g) b (home_of s b)).state ≡ st → HasReader s g b
      go HomeExcl p =
          let is = owner_is _ _ _ _ at.at_home p in
          record {
            node = _;
            within = is.0;
            may = scheme.says.owner_reads _ _ _ _ (at.caches _ is.0 is.1) p
                (silent _ _ _ li is.0);
          }
      go HomePut p =
          let is = owner_was _ _ _ _ at.at_home p in
          absurd (scheme.says.gives_nothing _ _ _ _ _ (at.caches _ is.0 is.1) p refl (silent _ _ _ li is.0)
          (silent _ _ _ is.0 li))
      go HomeRw p = at_home HomeRw p (λ q. cc) (λ q. cc)
      go HomeRo p = at_home HomeRo p (λ q. cc) (λ q. cc)
      go HomeAcks p = at_home HomeAcks p (λ q. cc) (λ q. cc)
      go st p = absurd (subst (λ x. IsHomeState x) p (kept.coherent b lb First).home_state)
