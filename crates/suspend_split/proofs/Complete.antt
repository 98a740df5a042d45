-- Handler after handler, the code becomes that of the protocol.
use Rattle.std.proofs.Common.{◌≡◌, ℕ, zero, suc, ◌+◌, ◌<◌, true, List, [], ◌∷◌, ◌++◌, Option, Some, None, length, refl, sym, ap}
use Rattle.std.proofs.Common.{subst, ◌∙◌, arith, append_assoc, length-append, replicate}
use Rattle.std.specs.Prelude.{map, slice_get, ◌↔◌, IfOk, Result, Ok, Err}
use Rattle.tw_base.specs.declared.memory.Memory.{Memory}
use Rattle.std.specs.Option.{option_map}
use Rattle.std.specs.List.{flat_map, enumerate_from, list_all}
use Rattle.std.proofs.lemmas.Bool.{and_parts, ltb-true}
use Rattle.std.proofs.lemmas.List.{append-nil}
use Rattle.std.proofs.lemmas.Option.{slice_get-map}
use Rattle.teapot_tree.specs.declared.protocol.Protocol.{Protocol}
use Rattle.teapot_tree.specs.declared.protocol.State.{State}
use Rattle.handler_code.specs.declared.code.Code.{Code}
use Rattle.handler_code.specs.declared.code.Door.{Door}
use Rattle.handler_code.specs.declared.code.OpCode.{OpCode}
use Rattle.handler_code.specs.declared.code.OpCode.TheVariants as op
use Rattle.handler_code.specs.declared.code.Rest.{Rest}
use Rattle.handler_code.specs.Live.{ReadsFirst, later, read_by, reads}
use Rattle.handler_code.specs.Machine.{is_live}
use Rattle.compiled_meaning.specs.Compiled.{in_order, loops_in, rests_by, rests_in}
use Rattle.compiled_meaning.specs.Whole.{Entry, IsCode, door_of, doors_from, entries_code, entries_from, entries_of, entry_code}
use Rattle.compiled_meaning.specs.Whole.{place_by, rest_doors, rest_places}
use Rattle.suspend_split.specs.Drafts.{HasLive, no_code, reads_low, rest_after, rests_after, with_entries, with_entry}
use Rattle.suspend_split.specs.Drafts.{with_live, with_ops}
use Rattle.live_slots.specs.Tables.{IsExact, IsReadFirst}

map-append : {X Y : Type 0} (f : X → Y) (xs ys : List X) → map f (xs ++ ys) ≡ map f xs ++ map f ys
map-append f [] ys = refl
map-append f (x ∷ xs) ys = ap (λ l. f x ∷ l) (map-append f xs ys)

length-map : {X Y : Type 0} (f : X → Y) (xs : List X) → length (map f xs) ≡ length xs
length-map f [] = refl
length-map f (x ∷ xs) = ap suc (length-map f xs)

length-replicate : (n x : ℕ) → length (replicate n x) ≡ n
length-replicate zero x = refl
length-replicate (suc n) x = ap suc (length-replicate n x)

-- ---- rests of ops

place_step : (door at : ℕ) (o : OpCode) (rs : List Rest) (places : List ℕ) → map (λ r. r.at) rs ≡ places →
    map (λ r. r.at) (rest_after door at o ++ rs) ≡ place_by o at places
place_step door at (op.Suspend s r) rs places e = ap (λ l. (at + 1) ∷ l) e
place_step door at _ rs places e = e

owner_step : (door at : ℕ) (o : OpCode) (rs : List Rest) (n : ℕ) → map (λ r. r.door) rs ≡ replicate n door →
    map (λ r. r.door) (rest_after door at o ++ rs) ≡ replicate (rests_by o n) door
owner_step door at (op.Suspend s r) rs n e = let next : suc n ≡ n + 1 = omega arith in ap (λ l. door ∷ l) e
    ∙ ap (λ k. replicate k door) next
owner_step door at _ rs n e = e

module _ (door at : ℕ) where
  from : ℕ → List OpCode → List Rest
  from n ops = flat_map (λ q. rest_after door (at + q.0) q.1) (enumerate_from n ops)

  places_from : (n : ℕ) (ops : List OpCode) → map (λ r. r.at) (from n ops) ≡ rest_places (at + n) ops
  unfolding from
  places_from n [] = refl
  places_from n (o ∷ ops) =
      let next : at + (n + 1) ≡ at + n + 1 = omega arith in
      place_step door (at + n) o (from (n + 1) ops) (rest_places (at + n + 1) ops)
      (places_from (n + 1) ops ∙ ap (λ k. rest_places k ops) next)

  owners_from : (n : ℕ) (ops : List OpCode) → map (λ r. r.door) (from n ops) ≡ replicate (rests_in ops) door
  unfolding from
  owners_from n [] = refl
  owners_from n (o ∷ ops) = owner_step door (at + n) o (from (n + 1) ops) (rests_in ops) (owners_from (n + 1) ops)

  places_after : (ops : List OpCode) → map (λ r. r.at) (rests_after door at ops) ≡ rest_places at ops
  unfolding from
  places_after ops = let same : at + 0 ≡ at = omega arith in places_from 0 ops ∙ ap (λ k. rest_places k ops) same

  owners_after : (ops : List OpCode) → map (λ r. r.door) (rests_after door at ops) ≡ replicate (rests_in ops) door
  unfolding from
  owners_after ops = owners_from 0 ops

  length-rests_after : (ops : List OpCode) → length (rests_after door at ops) ≡ rests_in ops
  length-rests_after ops =
      sym (length-map (λ (r : Rest). r.door) (rests_after door at ops)) ∙ ap length (owners_after ops)
      ∙ length-replicate (rests_in ops) door

place_by-more : (o : OpCode) (at : ℕ) (xs ys : List ℕ) → place_by o at (xs ++ ys) ≡ place_by o at xs ++ ys
place_by-more (op.Suspend s r) at xs ys = refl
place_by-more _ at xs ys = refl

rest_places-append : (at : ℕ) (a b : List OpCode) → rest_places at (a ++ b) ≡ rest_places at a ++ rest_places (at + length a) b
rest_places-append at [] b = let same : at ≡ at + 0 = omega arith in ap (λ k. rest_places k b) same
rest_places-append at (o ∷ a) b =
    let next : at + 1 + length a ≡ at + suc (length a) = omega arith in
    ap (place_by o at) (rest_places-append (at + 1) a b ∙ ap (λ k. rest_places (at + 1) a ++ rest_places k b) next)
    ∙ place_by-more o at (rest_places (at + 1) a) (rest_places (at + suc (length a)) b)

-- ---- handler after handler

module _ (p : Protocol) where
  ops_from : ℕ → ℕ → ℕ → List Entry → List OpCode
  ops_from at r h entries = in_order (map (entry_code p) entries) at r h

  -- the slots of a handler's loops do not depend on the loops of others
  any_slot : (entries : List Entry) (at r h : ℕ) → ops_from at r h entries ≡ ops_from at r 0 entries
  unfolding ops_from
  any_slot [] at r h = refl
  any_slot (d ∷ entries) at r h =
      let ops = entry_code p d at r h in
      ap (λ l. ops ++ l)
      (any_slot entries (at + length ops) (r + rests_in ops) (h + loops_in ops)
      ∙ sym (any_slot entries (at + length ops) (r + rests_in ops) (0 + loops_in ops)))

  -- what is done, before what these handlers add, is the code of all
  record Draws (all : List Entry) (code : Code) (entries : List Entry) : Type 0 where
    ops : code.ops ++ ops_from (length code.ops) (length code.rests) 0 entries ≡ entries_code p all
    doors : code.doors ++ doors_from p (length code.ops) (length code.rests) entries ≡ doors_from p 0 0 all
    owners : map (λ r. r.door) code.rests ++ rest_doors p (length code.ops) (length code.rests) (length code.doors) entries
        ≡ rest_doors p 0 0 0 all
    places : map (λ r. r.at) code.rests ≡ rest_places 0 code.ops

  module _ (all : List Entry) where
    begun : Draws all no_code all
    unfolding ops_from
    begun = record { ops = refl; doors = refl; owners = refl; places = refl }

    module _ (code : Code) (d : Entry) (entries : List Entry) (h : Draws all code (d ∷ entries)) where
      at : ℕ
      at = length code.ops

      r : ℕ
      r = length code.rests

      door : ℕ
      door = length code.doors

      ops : List OpCode
      ops = entry_code p d at r 0

      after : Code
      after = with_ops p code d ops

      at-after : length (code.ops ++ ops) ≡ at + length ops
      unfolding at
      at-after = length-append code.ops ops

      r-after : length (code.rests ++ rests_after door at ops) ≡ r + rests_in ops
      unfolding r
      r-after = length-append code.rests (rests_after door at ops)
          ∙ ap (λ n. length code.rests + n) (length-rests_after door at ops)

      door-after : length (code.doors ++ door_of p d at ops ∷ []) ≡ door + 1
      unfolding door
      door-after = length-append code.doors (door_of p d at ops ∷ [])

      drawn : Draws all after entries
      unfolding at r door ops after ops_from
      drawn = record {
        ops =
            append_assoc code.ops ops (ops_from (length (code.ops ++ ops))
            (length (code.rests ++ rests_after door at ops)) 0 entries)
            ∙ ap (λ l. code.ops ++ (ops ++ l))
            (ap (λ n. ops_from n (length (code.rests ++ rests_after door at ops)) 0 entries) at-after
            ∙ ap (λ n. ops_from (at + length ops) n 0 entries) r-after
            ∙ sym (any_slot entries (at + length ops) (r + rests_in ops) (0 + loops_in ops)))
            ∙ h.ops;
        doors =
            append_assoc code.doors (door_of p d at ops ∷ [])
            (doors_from p (length (code.ops ++ ops)) (length (code.rests ++ rests_after door at ops)) entries)
            ∙ ap (λ l. code.doors ++ door_of p d at ops ∷ l)
            (ap (λ n. doors_from p n (length (code.rests ++ rests_after door at ops)) entries) at-after
            ∙ ap (λ n. doors_from p (at + length ops) n entries) r-after)
            ∙ h.doors;
        owners =
            ap (λ l. l ++ rest_doors p (length (code.ops ++ ops)) (length (code.rests ++ rests_after door at ops))
            (length (code.doors ++ door_of p d at ops ∷ [])) entries)
            (map-append (λ (q : Rest). q.door) code.rests (rests_after door at ops)
            ∙ ap (λ l. map (λ (q : Rest). q.door) code.rests ++ l) (owners_after door at ops))
            ∙ append_assoc (map (λ (q : Rest). q.door) code.rests) (replicate (rests_in ops) door)
            (rest_doors p (length (code.ops ++ ops)) (length (code.rests ++ rests_after door at ops))
            (length (code.doors ++ door_of p d at ops ∷ [])) entries)
            ∙ ap (λ l. map (λ (q : Rest). q.door) code.rests ++ (replicate (rests_in ops) door ++ l))
            (ap (λ n. rest_doors p n (length (code.rests ++ rests_after door at ops))
            (length (code.doors ++ door_of p d at ops ∷ [])) entries) at-after
            ∙ ap (λ n. rest_doors p (at + length ops) n (length (code.doors ++ door_of p d at ops ∷ [])) entries) r-after
            ∙ ap (λ n. rest_doors p (at + length ops) (r + rests_in ops) n entries) door-after)
            ∙ h.owners;
        places =
            map-append (λ (q : Rest). q.at) code.rests (rests_after door at ops)
            ∙ ap (λ l. l ++ map (λ (q : Rest). q.at) (rests_after door at ops)) h.places
            ∙ ap (λ l. rest_places 0 code.ops ++ l) (places_after door at ops)
            ∙ sym (rest_places-append 0 code.ops ops ∙ ap (λ n. rest_places 0 code.ops ++ rest_places n ops) (omega arith));
      }

    drawn_all : (entries : List Entry) (code : Code) → Draws all code entries → Draws all (with_entries p code entries) []
    unfolding with_entry at r ops after
    drawn_all [] code h = h
    drawn_all (d ∷ entries) code h = drawn_all entries (with_entry p code d) (drawn code d entries h)

-- ---- live slots

low_read : (o : OpCode) (k : ℕ) → reads_low o ≡ true → read_by o ≡ Some k → k < 32
low_read (op.Get j) k low e = let same : j ≡ k = cc in subst (λ n. n < 32) same (ltb-true j 32 low)
low_read (op.EachNext j h to) k low e = let same : h ≡ k = cc in subst (λ n. n < 32) same (ltb-true h 32 low)
low_read _ k low e = absurd (cc)

low_op : (ops : List OpCode) (at : ℕ) (o : OpCode) → list_all reads_low ops ≡ true → slice_get ops at ≡ Some o →
    reads_low o ≡ true
low_op [] at o low e = absurd (cc)
low_op (x ∷ ops) zero o low e =
    let same : x ≡ o = cc in subst (λ q. reads_low q ≡ true) same (and_parts (reads_low x) (list_all reads_low ops) low).0
low_op (x ∷ ops) (suc at) o low e = low_op ops at o (and_parts (reads_low x) (list_all reads_low ops) low).1 e

-- where each op reads a slot below 32, no other is read first
below : (ops : List OpCode) → list_all reads_low ops ≡ true → {at k : ℕ} → ReadsFirst ops at k → k < 32
below ops low (reads {at = at} {slot = k} {o = o} h r) = low_read o k (low_op ops at o low h) r
below ops low (later h l w x) = below ops low x

module _ (ops : List OpCode) (low : list_all reads_low ops ≡ true) (table : List ℕ) (exact : IsExact ops table) (k : ℕ) where
  live_here : (b : Rest) → (is_live (with_live table b) k ≡ true) ↔ ReadsFirst ops b.at k
  live_here b = (
    λ e. let r = (exact b.at k).0 e in r.reads,
    λ r. let first : IsReadFirst ops b.at k = record { small = below ops low r; reads = r } in (exact b.at k).1 first,
  )

  live_at : (o : Option Rest) (rest : Rest) → option_map (with_live table) o ≡ Some rest →
      (is_live rest k ≡ true) ↔ ReadsFirst ops rest.at k
  live_at None rest e = absurd (let never : ⊥ = cc in never)
  live_at (Some b) rest e =
      let same : with_live table b ≡ rest = cc in
      subst (λ (q : Rest). (is_live q k ≡ true) ↔ ReadsFirst ops q.at k) same (live_here b)

live_in : (ops : List OpCode) (low : list_all reads_low ops ≡ true) (table : List ℕ) (rests : List Rest) → IsExact ops table →
    (r k : ℕ) (rest : Rest) → slice_get (map (with_live table) rests) r ≡ Some rest →
    (is_live rest k ≡ true) ↔ ReadsFirst ops rest.at k
live_in ops low table rests exact r k rest e =
    live_at ops low table exact k (slice_get rests r) rest (sym (slice_get-map (with_live table) rests r) ∙ e)

same_places : (table : List ℕ) (rests : List Rest) → map (λ r. r.at) (map (with_live table) rests) ≡ map (λ r. r.at) rests
same_places table [] = refl
same_places table (r ∷ rests) = ap (λ l. r.at ∷ l) (same_places table rests)

same_owners : (table : List ℕ) (rests : List Rest) → map (λ r. r.door) (map (with_live table) rests) ≡ map (λ r. r.door) rests
same_owners table [] = refl
same_owners table (r ∷ rests) = ap (λ l. r.door ∷ l) (same_owners table rests)

module _ (p : Protocol) (code : Code) (is : code ≡ with_entries p no_code (entries_of p))
    (low : list_all reads_low code.ops ≡ true) (table : List ℕ) (exact : IsExact code.ops table) where
  draws : Draws p (entries_of p) code []
  draws = subst (λ c. Draws p (entries_of p) c []) (sym is) (drawn_all p (entries_of p) (entries_of p) no_code
      (begun p (entries_of p)))

  complete_by : IsCode p (record code { rests = map (with_live table) code.rests })
  unfolding ops_from
  complete_by = record {
    ops = sym (append-nil code.ops) ∙ draws.ops;
    doors = sym (append-nil code.doors) ∙ draws.doors;
    places = same_places table code.rests ∙ draws.places;
    owners = same_owners table code.rests ∙ sym (append-nil (map (λ (r : Rest). r.door) code.rests)) ∙ draws.owners;
    live = live_in code.ops low table code.rests exact;
  }

-- the code of all handlers with the live slots of its rests is that of the protocol
pub complete : (p : Protocol) (code full : Code) → code ≡ with_entries p no_code (entries_of p) → HasLive code full →
    IsCode p full
complete p code full is h = subst (IsCode p) (sym h.is) (complete_by p code is h.low h.table h.exact)

pub complete_if : (p : Protocol) (code : Code) (r : Result Code Memory) → code ≡ with_entries p no_code (entries_of p) →
    IfOk r (HasLive code) → IfOk r (IsCode p)
complete_if p code (Ok full) is h = complete p code full is h
complete_if p code (Err e) is h = tt

-- from no code on
pub from_none : (p q : Protocol) (code : Code) (ops : List OpCode) (doors : List Door) (rests : List Rest)
    (states : List State) → code ≡ with_entries q (record { ops = ops; doors = doors; rests = rests })
    (entries_from 0 states) → q ≡ p → ops ≡ [] → doors ≡ [] → rests ≡ [] → states ≡ p.states →
    code ≡ with_entries p no_code (entries_of p)
from_none p q code ops doors rests states e a b c d f =
    e ∙ ap (λ (x : Protocol). with_entries x (record { ops = ops; doors = doors; rests = rests }) (entries_from 0 states)) a
    ∙ ap (λ x. with_entries p (record { ops = x; doors = doors; rests = rests }) (entries_from 0 states)) b
    ∙ ap (λ x. with_entries p (record { ops = []; doors = x; rests = rests }) (entries_from 0 states)) c
    ∙ ap (λ x. with_entries p (record { ops = []; doors = []; rests = x }) (entries_from 0 states)) d
    ∙ ap (λ x. with_entries p no_code (entries_from 0 x)) f
