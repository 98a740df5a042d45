-- Words that the walk of `clap` takes: a flag, the batch, a positional; and words that come too late for it.
use Rattle.std.proofs.Common.{◌≡◌, ℕ, ◌+◌, ◌==◌, ◌&&◌, ◌||◌, Bool, true, false, cond, min, List, [], ◌∷◌, ◌++◌, Option, Some}
use Rattle.std.proofs.Common.{None, refl, sym, ap, ap₂, ◌∙◌, subst, codes}
use Rattle.std.specs.Option.{option_map_or}
use Rattle.std.specs.Str.{bytes_eq}
use Rattle.clap.specs.Faults.{positional_fault, settle_fault, step_fault, stray_fault, turn_fault, use_fault}
use Rattle.std.proofs.lemmas.Slice.Eq.{bytes_eq-Decides}
use Rattle.clap.specs.Kinds.{or_else}
use Rattle.clap.specs.Lexer.{long_of, usize_max}
use Rattle.clap.specs.Walk.{Held, Row, Rule, Text, Walk, after_step, arg_by_index, arg_by_long, has_row, idle, is_pending}
use Rattle.clap.specs.Walk.{pushed, settled, to_positional, used, used_by_id, value, walked}
use Rattle.tempest_words.proofs.Rows.{value_row}
use Rattle.tempest_words.proofs.Rules.{LongOf, TakesOne, batch-again, batch_rule, batch_takes, batched, flag-again, flag-new}
use Rattle.tempest_words.proofs.Rules.{flag-used, flag_rule, flagged, long_of_name, positional_rule, rules, shape, unknown}
use Rattle.tempest_words.proofs.Settling.{IsFault, Pending, Settles, awaiting, batch_pending, faults, faults-cons, faults-here}
use Rattle.tempest_words.proofs.Settling.{faults-nil, held, idle_at, waiting_by, walk_at}
use Rattle.tempest_words.proofs.Turns.{Goes, IsPlain, Looks, batch_is_late, behind_long-is, dashes, dashes_go, flag_is_late}
use Rattle.tempest_words.proofs.Turns.{long, looks, plain, short, turn_long-is, unknown_is_refused}

-- ---- what is pending with its value

pub nothing_settles : (rows : List Row) → Settles rows None rows
nothing_settles rows = record { fault = refl; uses = refl }

pub value_settles : (a : Rule) (rows : List Row) (v : Text) → TakesOne a → has_row a.id rows ≡ false
    → Settles rows (Some (a.id, v ∷ [])) (rows ++ value_row a.id v ∷ [])
value_settles a rows v takes none = record {
  fault = ap (λ o. option_map_or (λ b. use_fault false b (v ∷ []) rows) o []) takes.by_id ∙ takes.fault_new v rows none;
  uses = ap (λ o. used_by_id o (v ∷ []) rows) takes.by_id ∙ takes.uses v rows none;
}

-- ---- options

module _ (rows : List Row) (pending : Pending) (shown : List Row) (settles : Settles rows pending shown) (position : ℕ) where
  module _ (x id : Text) (ends : bytes_eq x dashes ≡ false) (named : long_of x ≡ Some (id, None))
      (finds : arg_by_long rules id ≡ Some (flag_rule id)) where
    flag_turn : turn_fault shape [] (idle_at rows pending position) x ≡ or_else (use_fault false (flag_rule id) [] shown) []
    flag_turn =
        turn_long-is x id None (Some (flag_rule id)) ends named finds false position (held rows pending)
        ∙ ap₂ (λ a r. or_else (or_else a (use_fault false (flag_rule id) [] r)) []) settles.fault settles.uses

    pub flag_goes : has_row id shown ≡ false
        → Goes (idle_at rows pending position) x (idle_at (shown ++ value_row id (codes "true") ∷ []) None position)
    flag_goes none = record {
      fault = flag_turn ∙ ap (λ u. or_else u []) (flag-new id shown none);
      walks =
          behind_long-is x id None (Some (flag_rule id)) ends named finds false position (held rows pending)
          ∙ ap (λ r. idle_at (used (flag_rule id) [] r) None position) settles.uses
          ∙ ap (λ r. idle_at r None position) (flag-used id shown none);
    }

    pub flag_is_refused : has_row id shown ≡ true → IsFault (turn_fault shape [] (idle_at rows pending position) x)
    flag_is_refused there = subst IsFault (sym (flag_turn ∙ ap (λ u. or_else u []) (flag-again id shown there))) tt

  module _ (x v : Text) (ends : bytes_eq x dashes ≡ false) (named : long_of x ≡ Some (codes "batch", Some v)) where
    batch_turn : turn_fault shape [] (idle_at rows pending position) x ≡ or_else (use_fault false batch_rule (v ∷ []) shown) []
    batch_turn =
        turn_long-is x (codes "batch") (Some v) (Some batch_rule) ends named refl false position (held rows pending)
        ∙ ap₂ (λ a r. or_else (or_else a (use_fault false batch_rule (v ∷ []) r)) []) settles.fault settles.uses

    pub batch_goes : has_row (codes "batch") shown ≡ false
        → Goes (idle_at rows pending position) x (idle_at (shown ++ value_row (codes "batch") v ∷ []) None position)
    batch_goes none = record {
      fault = batch_turn ∙ ap (λ u. or_else u []) (batch_takes.fault_new v shown none);
      walks =
          behind_long-is x (codes "batch") (Some v) (Some batch_rule) ends named refl false position (held rows pending)
          ∙ ap (λ r. idle_at (used batch_rule (v ∷ []) r) None position) settles.uses
          ∙ ap (λ r. idle_at r None position) (batch_takes.uses v shown none);
    }

    pub batch_is_refused : has_row (codes "batch") shown ≡ true
        → IsFault (turn_fault shape [] (idle_at rows pending position) x)
    batch_is_refused there = subst IsFault (sym (batch_turn ∙ ap (λ u. or_else u []) (batch-again v shown there))) tt

  -- the batch is the next word
  pub batch_waits : (x : Text) → bytes_eq x dashes ≡ false → long_of x ≡ Some (codes "batch", None)
      → Goes (idle_at rows pending position) x (awaiting shown position)
  batch_waits x ends named = record {
    fault =
        turn_long-is x (codes "batch") None (Some batch_rule) ends named refl false position (held rows pending)
        ∙ ap (λ a. or_else a []) settles.fault;
    walks =
        behind_long-is x (codes "batch") None (Some batch_rule) ends named refl false position (held rows pending)
        ∙ ap (λ r. walk_at (held r batch_pending) (waiting_by true) position false) settles.uses;
  }

-- the next word
pub batch_comes : (rows : List Row) (position : ℕ) (x : Text) → IsPlain x
    → Goes (awaiting rows position) x (idle_at rows (Some (codes "batch", x ∷ [])) position)
batch_comes rows position x is = record {
  fault = is.fault true position rows batch_pending;
  walks = is.walks true position rows batch_pending;
}

-- ---- positionals

and_false : (b : Bool) → (b && false) ≡ false
and_false true = refl
and_false false = refl

or_false : (b : Bool) → (b || false) ≡ b
or_false true = refl
or_false false = refl

-- the walk behind a word in this mode
pub word_place : (waits : Bool) (position : ℕ) (k : Held) (x : Text)
    → turn_fault shape [] (walk_at k (waiting_by waits) position true) x ≡ step_fault shape position k value
word_place waits position k x = refl

pub walk_place : (waits : Bool) (position : ℕ) (k : Held) (x : Text)
    → walked rules [] (walk_at k (waiting_by waits) position true) x ≡ after_step rules x
    (walk_at k (waiting_by waits) position true) k value
unfolding walked
walk_place waits position k x = refl

-- a word that goes to the positional of this place
module _ (rows : List Row) (pending : Pending) (shown : List Row) (settles : Settles rows pending shown) (position : ℕ)
    (x id : Text) (place : ℕ)
    (finds : arg_by_index rules position ≡ Some (positional_rule id place)) where
  abbrev placed : Held → Bool → Walk
  placed k ended = walk_at k idle (min (position + 1) usize_max) ended

  place_fault : step_fault shape position (held rows pending) value ≡ []
  place_fault =
      ap (λ o. option_map_or (λ a. positional_fault rules false a (held rows pending)) o (stray_fault shape)) finds
      ∙ ap (λ b. cond b [] (settle_fault rules false (held rows pending)))
      (and_false (is_pending (positional_rule id place) pending)) ∙ settles.fault

  place_walk : (ended : Bool)
      → after_step rules x (walk_at (held rows pending) idle position ended) (held rows pending) value ≡ placed
      (held shown (Some (id, x ∷ []))) ended
  place_walk ended =
      ap (λ o. to_positional rules o x (walk_at (held rows pending) idle position ended) (held rows pending)) finds
      ∙ ap (λ b. placed (pushed id x (cond b (held rows pending) (settled rules (held rows pending)))) (ended || false))
      (and_false (is_pending (positional_rule id place) pending))
      ∙ ap₂ (λ r b. placed (held r (Some (id, x ∷ []))) b) settles.uses (or_false ended)

  pub place_goes : (ended : Bool) → (ended ≡ false → IsPlain x)
      → Goes (walk_at (held rows pending) idle position ended) x (placed (held shown (Some (id, x ∷ []))) ended)
  place_goes true is = record {
    fault = word_place false position (held rows pending) x
        ∙ place_fault;
    walks = walk_place false position (held rows pending) x ∙ place_walk true;
  }
  place_goes false is = record {
    fault = (is refl).fault false position rows pending ∙ place_fault;
    walks = (is refl).walks false position rows pending ∙ place_walk false;
  }

-- a word that no positional takes
pub stray_is_refused : (rows : List Row) (pending : Pending) (x : Text) (ended : Bool) → (ended ≡ false → IsPlain x)
    → IsFault (turn_fault shape [] (walk_at (held rows pending) idle 3 ended) x)
stray_is_refused rows pending x true is = tt
stray_is_refused rows pending x false is = subst IsFault (sym ((is refl).fault false 3 rows pending)) tt

-- ---- words that come too late

module _ (rows : List Row) (pending : Pending) (late : IsFault (settle_fault rules false (held rows pending))) where
  late_place : (position : ℕ) → IsFault (step_fault shape position (held rows pending) value)
  late_place position = go (1 == position) (2 == position)
    where
      placed_late : (id : Text) (place : ℕ)
          → IsFault (positional_fault rules false (positional_rule id place) (held rows pending))
      placed_late id place =
          subst (λ b. IsFault (cond b [] (settle_fault rules false (held rows pending))))
          (sym (and_false (is_pending (positional_rule id place) pending))) late

      go : (a b : Bool)
          → IsFault (option_map_or (λ a. positional_fault rules false a (held rows pending))
          (cond a (Some (positional_rule (codes "command") 1))
          (cond b (Some (positional_rule (codes "number") 2)) None)) (stray_fault shape))
      go true b = placed_late (codes "command") 1
      go false true = placed_late (codes "number") 2
      go false false = tt

  pub ended_late : (waits : Bool) (position : ℕ) (ws : List Text)
      → IsFault (faults (walk_at (held rows pending) (waiting_by waits) position true) ws)
  ended_late waits position [] = subst IsFault
      (sym (faults-nil (walk_at (held rows pending) (waiting_by waits) position true))) late
  ended_late waits position (x ∷ ws) =
      faults-here (walk_at (held rows pending) (waiting_by waits) position true) x ws
      (subst IsFault (sym (word_place waits position (held rows pending) x)) (late_place position))

  -- an argument of a long name
  pub long_late : (x name : Text) (v : Option Text) → bytes_eq x dashes ≡ false → long_of x ≡ Some (name, v)
      → (waits : Bool) (position : ℕ)
      → LongOf name (arg_by_long rules name)
      → IsFault (turn_fault shape [] (walk_at (held rows pending) (waiting_by waits) position false) x)
  long_late x name v ends named waits position
      (flagged is finds) = flag_is_late x name v name ends named finds waits position (held rows pending) late
  long_late x name v ends named waits position (batched is finds) = batch_is_late x name v ends named finds waits position
      (held rows pending) late
  long_late x name v ends named waits position (unknown finds) = unknown_is_refused x name v ends named finds waits position
      (held rows pending)

  -- nothing waits for a value
  idle_late : (position : ℕ) (ws : List Text) → IsFault (faults (idle_at rows pending position) ws)
  idle_late position [] = subst IsFault (sym (faults-nil (idle_at rows pending position))) late
  idle_late position (x ∷ ws) = go (bytes_eq x dashes) refl
    where
      here : IsFault (turn_fault shape [] (idle_at rows pending position) x)
          → IsFault (faults (idle_at rows pending position) (x ∷ ws))
      here is = faults-here (idle_at rows pending position) x ws is

      by_looks : bytes_eq x dashes ≡ false → Looks x → IsFault (faults (idle_at rows pending position) (x ∷ ws))
      by_looks ends (plain is) = here (subst IsFault (sym (is.fault false position rows pending)) (late_place position))
      by_looks ends (short dashed is) = here (is false position rows pending)
      by_looks ends (long name v named) = here (long_late x name v ends named false position (long_of_name name))

      go : (b : Bool) → bytes_eq x dashes ≡ b → IsFault (faults (idle_at rows pending position) (x ∷ ws))
      go true e =
          let is : x ≡ dashes = (bytes_eq-Decides x dashes).0 e in
          let goes = dashes_go false position (held rows pending) in
          subst (λ y. IsFault (faults (idle_at rows pending position) (y ∷ ws))) (sym is)
          (subst IsFault (sym (faults-cons (idle_at rows pending position)
          (walk_at (held rows pending) idle position true) dashes ws goes.fault goes.walks))
          (ended_late false position ws))
      go false e = by_looks e (looks x e)

-- a batch that has no value
pub unvalued : (rows : List Row) → IsFault (settle_fault rules false (held rows batch_pending))
unvalued rows = tt

-- a second batch
pub again : (rows : List Row) (v : Text) → has_row (codes "batch") rows ≡ true
    → IsFault (settle_fault rules false (held rows (Some (codes "batch", v ∷ []))))
again rows v there = subst IsFault (sym (batch-again v rows there)) tt

-- where a second batch waits for its value
pub twice_late : (rows : List Row) (position : ℕ) → has_row (codes "batch") rows ≡ true → (ws : List Text)
    → IsFault (faults (awaiting rows position) ws)
twice_late rows position there [] =
    subst IsFault (sym (faults-nil (awaiting rows position))) (unvalued rows)
twice_late rows position there (x ∷ ws) = go (bytes_eq x dashes) refl
  where
    at : Walk
    at = awaiting rows position

    by_looks : bytes_eq x dashes ≡ false → Looks x → IsFault (faults at (x ∷ ws))
    by_looks ends (plain is) =
        let comes = batch_comes rows position x is in
        subst IsFault (sym (faults-cons at (idle_at rows (Some (codes "batch", x ∷ [])) position) x ws comes.fault comes.walks))
        (idle_late rows (Some (codes "batch", x ∷ [])) (again rows x there) position ws)
    by_looks ends (short dashed is) = faults-here at x ws (is true position rows batch_pending)
    by_looks ends (long name v named) =
        faults-here at x ws (long_late rows batch_pending (unvalued rows) x name v ends named true position (long_of_name name))

    go : (b : Bool) → bytes_eq x dashes ≡ b → IsFault (faults at (x ∷ ws))
    go true e =
        let is : x ≡ dashes = (bytes_eq-Decides x dashes).0 e in
        let goes = dashes_go true position (held rows batch_pending) in
        subst (λ y. IsFault (faults at (y ∷ ws))) (sym is)
        (subst IsFault (sym (faults-cons at
        (walk_at (held rows batch_pending) (waiting_by true) position true) dashes ws goes.fault goes.walks))
        (ended_late rows batch_pending (unvalued rows) true position ws))
    go false e = by_looks e (looks x e)
