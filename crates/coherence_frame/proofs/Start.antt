-- The start of a run is kept: each block at its home alone, and the words of the flat machine.
use Rattle.tw_base.specs.declared.value.Tag.{Tag}
use Rattle.tw_base.specs.declared.value.Value.{Value}
use Rattle.teapot_meaning.specs.declared.state.Cont.{Cont}
use Rattle.teapot_meaning.specs.declared.state.Cont.TheOpen.{StateVal-F}
use Rattle.teapot_meaning.specs.declared.state.Here.{Here as Place}
use Rattle.teapot_meaning.specs.declared.state.StateVal.{StateVal, out-roll-StateVal}
use Rattle.teapot_meaning.specs.Steps.{node_of, set_of}
use Rattle.block_spots.specs.Views.{int_of, state_numbered, value_at, Reads, layout, seen_here}
use Rattle.block_spots.specs.Cases.{NoRest}
use Rattle.coherence_frame.proofs.First.{first_place, infos_first, line_first, number_first, place_of, state_in, tag_first}
use Rattle.std.proofs.Common.{◌≡◌, ℕ, zero, suc, ◌+◌, ◌<◌, nat_eq, nat_lt, not, cond, if◌then◌else◌, Bool, true, false, List}
use Rattle.std.proofs.Common.{[], ◌∷◌, length, map, Option, Some, None, arith, refl, sym, ap, subst, ◌∙◌}
use Rattle.std.specs.Prelude.{find, position, unwrap_or, slice_index}
use Rattle.std.specs.List.{position_or_len, range_with_len}
use Rattle.std.specs.Str.{bytes_eq}
use Rattle.std.proofs.lemmas.List.{length-map, ext_get_or}
use Rattle.std.proofs.lemmas.List.FromFn.{get_or-map-range_with_len, length-map-range_with_len}
use Rattle.tw_base.specs.NodeSets.{empty, has}
use Rattle.tw_base.specs.declared.name.Name.{Name}
use Rattle.tw_base.specs.declared.value.Tag.TheVariants.{Invalid}
use Rattle.block_tags.specs.Copies.{block_slice, block_words, first_tag, init_value, tag_of}
use Rattle.mini_asm.specs.Run.{first_words}
use Rattle.teapot_tree.specs.Bare.{bare_param, bare_start, bare_state}
use Rattle.teapot_tree.specs.declared.protocol.Param.{Param}
use Rattle.teapot_tree.specs.declared.protocol.Start.{Start}
use Rattle.teapot_tree.specs.declared.protocol.State.{State}
use Rattle.teapot_meaning.specs.Does.{zero_of}
use Rattle.dsm_runs.specs.Flat.{IsBeside, flat_start}
use Rattle.dsm_runs.specs.Events.{word_here}
use Rattle.dsm_runs.specs.Invariants.{IsRunState}
use Rattle.dsm_runs.specs.Locals.{first}
use Rattle.dsm_runs.specs.Setups.{IsSetup, Setup, first_copies, first_here, home_of, is_start, size_of, start_line, start_state}
use Rattle.dsm_runs.specs.Setups.{start_tag}
use Rattle.dsm_runs.specs.Worlds.{start}
use Rattle.dsm_runs.proofs.Lists.{nat_eq_refl}
use Rattle.dsm_runs.proofs.Turns.{nat_eq_other}
use Rattle.block_tags.proofs.Slices.{slice_word}
use Rattle.coherence_frame.proofs.AtStart.{IsStart, start_coherent}
use Rattle.coherence_frame.proofs.Views.{notes_nil}
use Rattle.coherence_frame.specs.Coherent.{Coherent}
use Rattle.coherence_frame.specs.Laws.{IsKept}
use Rattle.coherence_frame.proofs.Bridge.{parts_of}
use Rattle.coherence_frame.specs.Parts.{seen, IsTreeOf}
use Rattle.coherence_frame.proofs.Scheme.{Scheme, plan_of}
use Rattle.block_spots.specs.Cases as cases

-- ---- the start lines of the protocol

abbrev bare_line : Option Start → Option Start
bare_line None = None
bare_line (Some x) = Some (bare_start x)

found_bare : (home : Bool) (xs : List Start) → find (λ x. is_start home x) (map bare_start xs)
    ≡ bare_line (find (λ x. is_start home x) xs)
found_bare home [] = refl
found_bare true (x ∷ xs) = go x.home (found_bare true xs)
  where
    go : (b : Bool) → find (λ y. is_start true y) (map bare_start xs) ≡ bare_line (find (λ y. is_start true y) xs)
        → cond b (Some (bare_start x)) (find (λ y. is_start true y) (map bare_start xs))
        ≡ bare_line (cond b (Some x) (find (λ y. is_start true y) xs))
    go true rest = refl
    go false rest = rest
found_bare false (x ∷ xs) = go (not x.home) (found_bare false xs)
  where
    go : (b : Bool) → find (λ y. is_start false y) (map bare_start xs) ≡ bare_line (find (λ y. is_start false y) xs)
        → cond b (Some (bare_start x)) (find (λ y. is_start false y) (map bare_start xs))
        ≡ bare_line (cond b (Some x) (find (λ y. is_start false y) xs))
    go true rest = refl
    go false rest = rest

abbrev placed : ℕ → ℕ → Option ℕ
placed k long = cond (nat_lt k long) (Some k) None

position_bare : (n : Name) (xs : List State) → position (λ x. bytes_eq x.name n) (map bare_state xs)
    ≡ position (λ x. bytes_eq x.name n) xs
position_bare n xs = ap (λ k. placed k (length (map bare_state xs))) (prefix xs)
    ∙ ap (placed (position_or_len (λ (x : State). bytes_eq x.name n) xs)) (length-map xs bare_state)
  where
    prefix : (ys : List State) → position_or_len (λ x. bytes_eq x.name n) (map bare_state ys)
        ≡ position_or_len (λ x. bytes_eq x.name n) ys
    prefix [] = refl
    prefix (y ∷ ys) = ap (λ k. cond (not (bytes_eq y.name n)) (1 + k) 0) (prefix ys)

state_in_bare : (xs : List State) (o : Option Start) → state_in (map bare_state xs) (bare_line o) ≡ state_in xs o
state_in_bare xs None = refl
state_in_bare xs (Some x) = ap (λ k. unwrap_or k 0) (position_bare x.state xs)

state_is_in : (s : Setup) (o : Option Start) → start_state s o ≡ state_in s.protocol.states o
state_is_in s None = refl
state_is_in s (Some x) = refl

tag_bare : (o : Option Start) → start_tag (bare_line o) ≡ start_tag o
tag_bare None = refl
tag_bare (Some x) = refl

infos_bare : (xs : List Param) → map (λ a. zero_of a.ty) (map bare_param xs) ≡ map (λ a. zero_of a.ty) xs
infos_bare [] = refl
infos_bare (x ∷ xs) = ap (λ l. zero_of x.ty ∷ l) (infos_bare xs)

nobody_has : (k : ℕ) → has empty k ≡ false
unfolding empty has
nobody_has zero = refl
nobody_has (suc zero) = refl
nobody_has (suc (suc zero)) = refl
nobody_has (suc (suc (suc zero))) = refl
nobody_has (suc (suc (suc (suc zero)))) = refl
nobody_has (suc (suc (suc (suc (suc zero))))) = refl
nobody_has (suc (suc (suc (suc (suc (suc zero)))))) = refl
nobody_has (suc (suc (suc (suc (suc (suc (suc zero))))))) = refl
nobody_has (suc (suc (suc (suc (suc (suc (suc (suc k)))))))) = refl

tag_here_is : (s : Setup) (i b : ℕ) → b < s.shape.blocks → tag_of (first_copies s i) b
    ≡ (if nat_eq (home_of s b) i then start_tag (start_line s true) else start_tag (start_line s false))
tag_here_is s i b lb =
    get_or-map-range_with_len (first_tag s.shape i (start_tag (start_line s true)) (start_tag (start_line s false))) 0
    s.shape.blocks b b Invalid lb (omega arith)

abbrev words_first : Setup → ℕ → ℕ → List ℕ
words_first s i b = block_words (first_copies s i) b

-- ---- the words of memory

-- each node's copy has the words of the flat machine
abbrev pub NodesStartFlat : Type 0
NodesStartFlat = (s : Setup) (i address : ℕ) → IsSetup s → address < size_of s →
    word_here s (first s i).blocks address ≡ slice_index (first_words (size_of s) s.init) address

-- what is seen of it
abbrev seen_open : Reads → List Value → Tag → List ℕ → StateVal-F Cont StateVal → cases.Here
seen_open reads infos tag ws o = record {
  state = state_numbered o.state;
  rest = reads o.cont;
  sharers = has (set_of (value_at infos 0));
  owner = node_of (value_at infos 1);
  acks = int_of (value_at infos 2);
  tag = tag;
  words = ws;
}

abbrev seen_at : Reads → Bool → List ℕ → cases.Here
seen_at reads home ws = seen_open reads infos_first (tag_first home) ws
    (record { state = number_first home; args = []; cont = None })

seen_first : (reads : Reads) (i h b : ℕ) (home : Bool) (ws : List ℕ) →
    seen_here reads (first_place i h b home ws) ≡ seen_at reads home ws
unfolding place_of
seen_first reads i h b home ws = ap (seen_open reads infos_first (tag_first home) ws)
    (out-roll-StateVal (record { state = number_first home; args = []; cont = None }))

module _ (scheme : Scheme) where
  line_is : (s : Setup) (home : Bool) → IsTreeOf scheme.wording s.protocol →
      bare_line (start_line s home) ≡ line_first scheme.wording.tree home
  line_is s home is = sym (found_bare home s.protocol.starts) ∙ ap (λ q. find (λ x. is_start home x) q.starts) is

  tag_is : (s : Setup) (home : Bool) → IsTreeOf scheme.wording s.protocol → start_tag (start_line s home) ≡ tag_first home
  tag_is s home is = sym (tag_bare (start_line s home)) ∙ ap start_tag (line_is s home is) ∙ scheme.shows.tag_line home

  state_is : (s : Setup) (home : Bool) → IsTreeOf scheme.wording s.protocol →
      start_state s (start_line s home) ≡ number_first home
  state_is s home is =
      state_is_in s (start_line s home) ∙ sym (state_in_bare s.protocol.states (start_line s home))
      ∙ ap (λ q. state_in q.states (bare_line (start_line s home))) is
      ∙ ap (state_in scheme.wording.tree.states) (line_is s home is) ∙ scheme.shows.state_line home

  infos_are : (s : Setup) → IsTreeOf scheme.wording s.protocol → map (λ a. zero_of a.ty) s.protocol.infos ≡ infos_first
  infos_are s is = sym (infos_bare s.protocol.infos) ∙ ap (λ q. map (λ a. zero_of a.ty) q.infos) is ∙ scheme.shows.infos_line

  here_first : (s : Setup) (i b : ℕ) → IsTreeOf scheme.wording s.protocol → b < s.shape.blocks → (home : Bool) →
      nat_eq (home_of s b) i ≡ home → first_here s i b ≡ first_place i (home_of s b) b home (words_first s i b)
  unfolding place_of
  here_first s i b is lb home e =
      ap (λ infos. place_of i (home_of s b) b (start_state s (start_line s (nat_eq (home_of s b) i))) infos
      (tag_of (first_copies s i) b) (words_first s i b)) (infos_are s is)
      ∙ ap (λ n. place_of i (home_of s b) b n infos_first (tag_of (first_copies s i) b) (words_first s i b))
      (ap (λ x. start_state s (start_line s x)) e ∙ state_is s home is)
      ∙ ap (λ t. place_of i (home_of s b) b (number_first home) infos_first t (words_first s i b))
      (tag_here_is s i b lb ∙ ap (λ x. if x then start_tag (start_line s true) else start_tag (start_line s false)) e
      ∙ by home)
    where
      by : (x : Bool) → (if x then start_tag (start_line s true) else start_tag (start_line s false)) ≡ tag_first x
      by true = tag_is s true is
      by false = tag_is s false is

  module _ (s : Setup) (setup : IsSetup s) (is : IsTreeOf scheme.wording s.protocol) (flat_words : NodesStartFlat)
      (state : IsRunState s (start s)) (beside : IsBeside s (start s) (flat_start s)) where
    abbrev all_words : List ℕ
    all_words = map (init_value s.init) (range_with_len 0 (size_of s))

    memory_is : all_words ≡ first_words (size_of s) s.init
    memory_is = ext_get_or 0 all_words (first_words (size_of s) s.init) (long ∙ sym beside.size)
        (λ a lt. sym (slice_word s.shape.words a all_words setup.limits.some_word)
        ∙ flat_words s 0 a setup (subst (λ k. a < k) long lt))
      where
        long : length all_words ≡ size_of s
        long = length-map-range_with_len (init_value s.init) 0 (size_of s)

    abbrev flat_of : ℕ → List ℕ
    flat_of b = block_slice s.shape.words (flat_start s).words b

    words_are : (i b : ℕ) → words_first s i b ≡ flat_of b
    words_are i b = ap (λ ws. block_slice s.shape.words ws b) memory_is

    placed_at : (i b : ℕ) → b < s.shape.blocks → (home : Bool) → nat_eq (home_of s b) i ≡ home →
        scheme.wording.IsPlaced (first_here s i b)
    placed_at i b lb home e = subst (λ (h : Place). scheme.wording.IsPlaced h) (sym (here_first s i b is lb home e))
        (scheme.shows.placed_first i (home_of s b) b home (words_first s i b))

    seen_is : (i b : ℕ) → b < s.shape.blocks → (home : Bool) → nat_eq (home_of s b) i ≡ home →
        seen_here scheme.wording.reads (first_here s i b) ≡ seen_at scheme.wording.reads home (words_first s i b)
    seen_is i b lb home e = ap (seen_here scheme.wording.reads) (here_first s i b is lb home e)
        ∙ seen_first scheme.wording.reads i (home_of s b) b home (words_first s i b)

    no_rest : (home : Bool) (ws : List ℕ) → (seen_at scheme.wording.reads home ws).rest ≡ NoRest
    no_rest true ws = scheme.shows.reads_none
    no_rest false ws = scheme.shows.reads_none

    no_sharer : (home : Bool) (ws : List ℕ) (k : ℕ) → (seen_at scheme.wording.reads home ws).sharers k ≡ false
    no_sharer true ws k = nobody_has k
    no_sharer false ws k = nobody_has k

    is_start_seen : IsStart (layout s) flat_of (seen scheme.wording s (start s))
    is_start_seen = record {
      home = λ b. (let some : 0 < s.shape.nodes = setup.limits.some_node in omega (arith, some));
      words = λ b lb. words_are (home_of s b) b;
      modes = λ i. tt;
      deferred = λ i. refl;
      wires = λ f t c. refl;
      rests = λ i b lb. ap (λ (h : cases.Here). h.rest) (seen_is i b lb _ refl)
          ∙ no_rest (nat_eq (home_of s b) i) (words_first s i b);
      sharers = λ b k lb. ap (λ (h : cases.Here). h.sharers k) (seen_is (home_of s b) b lb _ refl)
          ∙ no_sharer (nat_eq (home_of s b) (home_of s b)) (words_first s (home_of s b) b) k;
      homes = λ b lb. (let q = seen_is (home_of s b) b lb true (nat_eq_refl (home_of s b)) in
          (ap (λ (h : cases.Here). h.state) q, ap (λ (h : cases.Here). h.tag) q));
      caches =
          λ i b lb d. (let q = seen_is i b lb false (nat_eq_other (home_of s b) i (λ e. d (sym e))) in
          (ap (λ (h : cases.Here). h.state) q, ap (λ (h : cases.Here). h.tag) q));
    }

    coherent_start : Coherent scheme.wording.standing (layout s) flat_of (seen scheme.wording s (start s))
    coherent_start = start_coherent (plan_of scheme) (layout s) flat_of (seen scheme.wording s (start s)) is_start_seen

    pub start_kept : IsKept scheme.wording s (start s) (flat_start s)
    start_kept = record {
      state = state;
      coherent = parts_of scheme s (start s) flat_of coherent_start is (λ i li. refl) (λ i b li lb. placed_at i b lb _ refl)
          (λ f t b c. rw (notes_nil b) tt);
      tied = record { words = λ b lb. (coherent_start.block b lb).tie; beside = beside };
    }
