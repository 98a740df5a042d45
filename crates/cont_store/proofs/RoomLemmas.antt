-- A change of one place of a room is a change of the store at its key.
use Rattle.std.proofs.Common.{◌≡◌, ◌≢◌, ℕ, zero, suc, List, [], ◌∷◌, Option, Some, None, is_some, count_by, get_or, map, refl}
use Rattle.std.proofs.Common.{sym, ap, subst, ◌∙◌, arith}
use Rattle.std.proofs.Math.ListN.{get_or-map}
use Rattle.std.specs.Option.{option_map}
use Rattle.std.proofs.lemmas.Grind.{common_steps}
use Rattle.slab.specs.Slab.{Slab, get, Updates}
use Rattle.cont_store.specs.declared.record.Record.{Record}
use Rattle.cont_store.specs.declared.record.RecordKey.{RecordKey}
use Rattle.cont_store.specs.Rooms.{records_in}
use Rattle.cont_store.specs.Store.{Store, places_of, Changes}

-- one place has this, each other what it had before
pub record Places (old new : List (Option Record)) (at : ℕ) (named : Option Record) : Type 0 where
  pub changed : get_or new at None ≡ named
  pub others : (other : ℕ) → other ≢ at → get_or new other None ≡ get_or old other None

module _ {T : Type 0} (whole : T → Record) where
  pub records_in-get : (room : Slab T) (at : ℕ) → get_or (records_in whole room) at None ≡ option_map whole (get room at)
  records_in-get room at = get_or-map (option_map whole) room.slots at None

  pub Places-updates : (old new : Slab T) (at : ℕ) (slot : Option T) (named : Option Record) → option_map whole slot ≡ named →
      Updates old new at slot → Places (records_in whole old) (records_in whole new) at named
  Places-updates old new at slot named is u =
      record {
        changed = records_in-get new at ∙ ap (option_map whole) u.changed ∙ is;
        others = λ other differs. records_in-get new other ∙ ap (option_map whole) (u.others other differs)
            ∙ sym (records_in-get old other);
      }

  -- a room has as many records as its slab has values
  pub records_in-count : (slots : List (Option T)) → count_by is_some (map (option_map whole) slots) ≡ count_by is_some slots
  records_in-count [] = refl
  records_in-count (None ∷ rest) = grind (arith, common_steps, records_in-count rest)
  records_in-count (Some value ∷ rest) = grind (arith, common_steps, records_in-count rest)

other_place : (other key : RecordKey) → other ≢ key → other.class ≡ key.class → other.at ≡ key.at → ⊥
other_place other key differs same_class same_place = differs (λ j. record { class = same_class j; at = same_place j })

-- a place of the first room is a key of class 0
pub Changes-small : (s : Store) (room : List (Option Record)) (spare at : ℕ) (named : Option Record) →
    Places s.small room at named → Changes s (record { small = room; medium = s.medium; large = s.large; spare = spare })
    (record { class = 0; at = at }) named
Changes-small s room spare at named p =
    record {
      changed = p.changed;
      others = λ other differs. elsewhere other.class other.at
          (other_place other (record { class = 0; at = at }) differs);
    }
  where
    elsewhere : (n place : ℕ) → (n ≡ 0 → place ≡ at → ⊥) → get_or
        (places_of (record { small = room; medium = s.medium; large = s.large; spare = spare }) n) place None
        ≡ get_or (places_of s n) place None
    elsewhere zero place differs = p.others place (differs refl)
    elsewhere (suc zero) place differs = refl
    elsewhere (suc (suc zero)) place differs = refl
    elsewhere (suc (suc (suc n))) place differs = refl

-- a place of the second room is a key of class 1
pub Changes-medium : (s : Store) (room : List (Option Record)) (spare at : ℕ) (named : Option Record) →
    Places s.medium room at named → Changes s (record { small = s.small; medium = room; large = s.large; spare = spare })
    (record { class = 1; at = at }) named
Changes-medium s room spare at named p =
    record {
      changed = p.changed;
      others = λ other differs. elsewhere other.class other.at
          (other_place other (record { class = 1; at = at }) differs);
    }
  where
    elsewhere : (n place : ℕ) → (n ≡ 1 → place ≡ at → ⊥) → get_or
        (places_of (record { small = s.small; medium = room; large = s.large; spare = spare }) n) place None
        ≡ get_or (places_of s n) place None
    elsewhere zero place differs = refl
    elsewhere (suc zero) place differs = p.others place (differs refl)
    elsewhere (suc (suc zero)) place differs = refl
    elsewhere (suc (suc (suc n))) place differs = refl

pub Changes-at : (s t : Store) (n : ℕ) (key : RecordKey) (named : Option Record) → key.class ≡ n →
    Changes s t (record { class = n; at = key.at }) named → Changes s t key named
Changes-at s t n key named is changes =
    let P : RecordKey → Type 0 = λ k. Changes s t k named in
    subst P (λ j. record { class = sym is j; at = key.at }) changes
