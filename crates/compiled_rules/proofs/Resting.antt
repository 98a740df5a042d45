-- Rests follow their one Suspend behind their door, and keep what is read.
use Rattle.std.proofs.Common.{◌≡◌, ◌∙◌, ℕ, zero, suc, ◌+◌, ◌-◌, ◌/◌, ◌%◌, ◌^◌, ◌<◌, ◌≤◌, ◌⊎◌, Bool, true, false, List, [], ◌∷◌}
use Rattle.std.proofs.Common.{◌++◌, length, length-append, Option, Some, refl, ap, sym, subst, arith, inl, inr}
use Rattle.std.specs.Prelude.{nat_le, ◌||◌, ◌==◌, count_by, map, replicate, slice_get}
use Rattle.std.specs.Int.{bit_at}
use Rattle.std.proofs.lemmas.Bool.{eq-eqb, eqb-true}
use Rattle.std.proofs.Math.Nat.{div-div-eq-div-mul}
use Rattle.std.proofs.lemmas.Nat.{pow-add}
use Rattle.std.proofs.lemmas.Nat.Bits.{bit_at-lt, bit_at-zero, same_from_bits}
use Rattle.teapot_tree.specs.declared.protocol.Protocol.{Protocol}
use Rattle.teapot_tree.specs.Rules.{IsAccepted}
use Rattle.teapot_meaning.proofs.Found.{both, is_false}
use Rattle.handler_code.specs.declared.code.Code.{Code}
use Rattle.handler_code.specs.declared.code.Door.{Door}
use Rattle.handler_code.specs.declared.code.OpCode.{OpCode}
use Rattle.handler_code.specs.declared.code.OpCode.TheVariants as op
use Rattle.handler_code.specs.declared.code.Rest.{Rest}
use Rattle.handler_code.specs.Live.{HasOp, LeadsTo, ReadsFirst, read_by, reads, later}
use Rattle.handler_code.specs.Machine.{is_live}
use Rattle.code_walks.specs.Parts.{AtRest, end_of, op_at, place_or}
use Rattle.code_rules.specs.Serving.{LosesSlot, is_behind, is_placed, suspends_to}
use Rattle.code_rules.specs.Structure.{has_slots_of, is_live_below, is_rest_of}
use Rattle.compiled_meaning.specs.Compiled.{in_order, loops_in, rests_by, rests_in}
use Rattle.compiled_meaning.specs.Whole.{Entry, IsCode, doors_from, entries_code, entries_of, entry_code, place_by, rest_doors}
use Rattle.compiled_meaning.specs.Whole.{rest_places}
use Rattle.compiled_meaning.proofs.Accepted.{all_fine}
use Rattle.compiled_meaning.proofs.Handlers.{all_numbered}
use Rattle.compiled_meaning.proofs.Rests.{NumberedFrom}
use Rattle.compiled_rules.proofs.Counting.{count_one}
use Rattle.compiled_rules.proofs.Facts.{fin_there, is_neat, op_is, rests_stand}
use Rattle.compiled_rules.proofs.Handled.{Handled, handled, names_of, next_place}
use Rattle.compiled_rules.proofs.Neat.{Fits, Neat}
use Rattle.compiled_rules.proofs.Spans.{before_or, le_true, lt_true}

-- ---- live slots

pub keeps_live : (p : Protocol) (code : Code) → IsCode p code → (at : ℕ) → AtRest code (λ number rest. LosesSlot code rest) at → ⊥
keeps_live p code c at w =
    let l = w.holds in
    let read = l.read in
    let live = (c.live w.number l.slot w.rest w.is_rest).1 read.reads in
    let lost = l.lost in
    cc

-- ---- the Suspend of a rest

-- a Suspend with this number stands right before the place
pub record Suspends (ops : List OpCode) (at number place : ℕ) : Type 0 where
  pub index : ℕ
  pub state : ℕ
  pub stands : HasOp ops index (op.Suspend state number)
  pub is : place ≡ at + index + 1

suspend_first : (ops : List OpCode) (at s n r place : ℕ) → n ≡ r + 0 → Some (at + 1) ≡ Some place →
    Suspends (op.Suspend s n ∷ ops) at (r + 0) place
suspend_first ops at s n r place e f =
    let is : at + 1 ≡ place = cc in
    record { index = 0; state = s; stands = ap (λ z. Some (op.Suspend s z)) e; is = omega arith }

suspend_later : (o : OpCode) (ops : List OpCode) (at m n place : ℕ) → m ≡ n → Suspends ops (at + 1) m place →
    Suspends (o ∷ ops) at n place
suspend_later o ops at m n place e x =
    let is = x.is in
    record {
      index = suc x.index;
      state = x.state;
      stands = subst (λ z. HasOp ops x.index (op.Suspend x.state z)) e x.stands;
      is = omega arith;
    }

suspends : (ops : List OpCode) (at r j place : ℕ) → NumberedFrom r ops → slice_get (rest_places at ops) j ≡ Some place →
    Suspends ops at (r + j) place
suspends [] at r j place n e = cc
suspends (op.Suspend s k ∷ ops) at r zero place n e = suspend_first ops at s k r place (let q = n.0 in omega arith) e
suspends (op.Suspend s k ∷ ops) at r (suc j) place n e =
    let same : r + 1 + j ≡ r + suc j = omega arith in
    suspend_later (op.Suspend s k) ops at (r + 1 + j) (r + suc j) place same (suspends ops (at + 1) (r + 1) j place n.1 e)
suspends (op.Const x ∷ ops) at r j place n e = suspend_later _ ops at _ _ place refl (suspends ops (at + 1) r j place n.1 e)
suspends (op.Get k ∷ ops) at r j place n e = suspend_later _ ops at _ _ place refl (suspends ops (at + 1) r j place n.1 e)
suspends (op.GetInfo k ∷ ops) at r j place n e = suspend_later _ ops at _ _ place refl (suspends ops (at + 1) r j place n.1 e)
suspends (op.Me ∷ ops) at r j place n e = suspend_later _ ops at _ _ place refl (suspends ops (at + 1) r j place n.1 e)
suspends (op.Home ∷ ops) at r j place n e = suspend_later _ ops at _ _ place refl (suspends ops (at + 1) r j place n.1 e)
suspends (op.One ∷ ops) at r j place n e = suspend_later _ ops at _ _ place refl (suspends ops (at + 1) r j place n.1 e)
suspends (op.Not ∷ ops) at r j place n e = suspend_later _ ops at _ _ place refl (suspends ops (at + 1) r j place n.1 e)
suspends (op.Count ∷ ops) at r j place n e = suspend_later _ ops at _ _ place refl (suspends ops (at + 1) r j place n.1 e)
suspends (op.Two x ∷ ops) at r j place n e = suspend_later _ ops at _ _ place refl (suspends ops (at + 1) r j place n.1 e)
suspends (op.Put k ∷ ops) at r j place n e = suspend_later _ ops at _ _ place refl (suspends ops (at + 1) r j place n.1 e)
suspends (op.PutInfo k ∷ ops) at r j place n e = suspend_later _ ops at _ _ place refl (suspends ops (at + 1) r j place n.1 e)
suspends (op.JumpIfNot k ∷ ops) at r j place n e = suspend_later _ ops at _ _ place refl (suspends ops (at + 1) r j place n.1 e)
suspends (op.Jump k ∷ ops) at r j place n e = suspend_later _ ops at _ _ place refl (suspends ops (at + 1) r j place n.1 e)
suspends (op.Tag k ∷ ops) at r j place n e = suspend_later _ ops at _ _ place refl (suspends ops (at + 1) r j place n.1 e)
suspends (op.Install ∷ ops) at r j place n e = suspend_later _ ops at _ _ place refl (suspends ops (at + 1) r j place n.1 e)
suspends (op.Enqueue ∷ ops) at r j place n e = suspend_later _ ops at _ _ place refl (suspends ops (at + 1) r j place n.1 e)
suspends (op.Wake ∷ ops) at r j place n e = suspend_later _ ops at _ _ place refl (suspends ops (at + 1) r j place n.1 e)
suspends (op.Send k ∷ ops) at r j place n e = suspend_later _ ops at _ _ place refl (suspends ops (at + 1) r j place n.1 e)
suspends (op.SendAll k ∷ ops) at r j place n e = suspend_later _ ops at _ _ place refl (suspends ops (at + 1) r j place n.1 e)
suspends (op.Goto k ∷ ops) at r j place n e = suspend_later _ ops at _ _ place refl (suspends ops (at + 1) r j place n.1 e)
suspends (op.Resume ∷ ops) at r j place n e = suspend_later _ ops at _ _ place refl (suspends ops (at + 1) r j place n.1 e)
suspends (op.Fail k ∷ ops) at r j place n e = suspend_later _ ops at _ _ place refl (suspends ops (at + 1) r j place n.1 e)
suspends (op.Done ∷ ops) at r j place n e = suspend_later _ ops at _ _ place refl (suspends ops (at + 1) r j place n.1 e)
suspends (op.EachNext k h to ∷ ops) at r j place n e = suspend_later _ ops at _ _ place refl
    (suspends ops (at + 1) r j place n.1 e)
suspends (op.JumpBack k ∷ ops) at r j place n e = suspend_later _ ops at _ _ place refl (suspends ops (at + 1) r j place n.1 e)

-- ---- the door of a rest

places_by-append : (o : OpCode) (at : ℕ) (a b : List ℕ) → place_by o at (a ++ b) ≡ place_by o at a ++ b
places_by-append (op.Suspend s n) at a b = refl
places_by-append _ at a b = refl

places-append : (a b : List OpCode) (at : ℕ) → rest_places at (a ++ b) ≡ rest_places at a ++ rest_places (at + length a) b
places-append [] b at = let z : at ≡ at + 0 = omega arith in ap (λ k. rest_places k b) z
places-append (o ∷ a) b at =
    let z : at + 1 + length a ≡ at + suc (length a) = omega arith in
    ap (place_by o at) (places-append a b (at + 1) ∙ ap (λ k. rest_places (at + 1) a ++ rest_places k b) z)
    ∙ places_by-append o at (rest_places (at + 1) a) (rest_places (at + suc (length a)) b)

length_by : (o : OpCode) (at n : ℕ) (places : List ℕ) → length places ≡ n → length (place_by o at places) ≡ rests_by o n
length_by (op.Suspend s k) at n places e = omega arith
length_by _ at n places e = e

places-length : (ops : List OpCode) (at : ℕ) → length (rest_places at ops) ≡ rests_in ops
places-length [] at = refl
places-length (o ∷ ops) at = length_by o at (rests_in ops) (rest_places (at + 1) ops) (places-length ops (at + 1))

-- each place is one of these ops', or right behind them
IsIn : ℕ → ℕ → ℕ → Type 0
IsIn lo hi place = (lo < place) × (place ≤ hi)

in_by : (o : OpCode) (at hi : ℕ) (places : List ℕ) → at + 1 ≤ hi →
    ((j place : ℕ) → slice_get places j ≡ Some place → IsIn (at + 1) hi place) → (j place : ℕ) →
    slice_get (place_by o at places) j ≡ Some place → IsIn at hi place
unfolding IsIn
in_by (op.Suspend s k) at hi places l f zero place e = let is : at + 1 ≡ place = cc in (omega arith, omega arith)
in_by (op.Suspend s k) at hi places l f (suc j) place e = let g = f j place e in let g0 = g.0 in (omega arith, g.1)
in_by _ at hi places l f j place e = let g = f j place e in let g0 = g.0 in (omega arith, g.1)

places_in : (ops : List OpCode) (at j place : ℕ) → slice_get (rest_places at ops) j ≡ Some place → IsIn at (at + length ops) place
places_in [] at j place e = cc
places_in (o ∷ ops) at j place e =
    let z : at + 1 + length ops ≡ at + suc (length ops) = omega arith in
    in_by o at (at + suc (length ops)) (rest_places (at + 1) ops) (omega arith)
    (λ i q f. subst (λ k. IsIn (at + 1) k q) z (places_in ops (at + 1) i q f)) j place e

-- a place of a list behind another
split_get : {X : Type 0} (xs ys : List X) (j : ℕ) (x : X) → slice_get (xs ++ ys) j ≡ Some x →
    ((j < length xs) × (slice_get xs j ≡ Some x)) ⊎ ((i : ℕ) × (j ≡ length xs + i) × (slice_get ys i ≡ Some x))
split_get [] ys j x e = inr (j, omega arith, e)
split_get (y ∷ xs) ys zero x e = inl (omega arith, e)
split_get (y ∷ xs) ys (suc j) x e = by_side (split_get xs ys j x e)
  where
    by_side : ((j < length xs) × (slice_get xs j ≡ Some x)) ⊎ ((i : ℕ) × (j ≡ length xs + i) × (slice_get ys i ≡ Some x)) →
        ((suc j < suc (length xs)) × (slice_get xs j ≡ Some x))
        ⊎ ((i : ℕ) × (suc j ≡ suc (length xs) + i) × (slice_get ys i ≡ Some x))
    by_side (inl f) = let l = f.0 in inl (omega arith, f.1)
    by_side (inr f) = let l = f.1 in inr (f.0, omega arith, f.2)

behind_get : {X : Type 0} (xs ys : List X) (i : ℕ) (x : X) → slice_get (xs ++ ys) (length xs + i) ≡ Some x →
    slice_get ys i ≡ Some x
behind_get [] ys i x e = let z : 0 + i ≡ i = omega arith in subst (λ k. slice_get ys k ≡ Some x) z e
behind_get (y ∷ xs) ys i x e =
    let z : suc (length xs) + i ≡ suc (length xs + i) = omega arith in
    behind_get xs ys i x (subst (λ k. slice_get (y ∷ (xs ++ ys)) k ≡ Some x) z e)

front_get : {X : Type 0} (xs ys : List X) (j : ℕ) (x : X) → j < length xs → slice_get (xs ++ ys) j ≡ Some x →
    slice_get xs j ≡ Some x
front_get [] ys j x l e = absurd (omega arith)
front_get (y ∷ xs) ys zero x l e = e
front_get (y ∷ xs) ys (suc j) x l e = front_get xs ys j x (omega arith) e

length_replicate : (n x : ℕ) → length (replicate n x) ≡ n
length_replicate zero x = refl
length_replicate (suc n) x = ap suc (length_replicate n x)

replicate_get : (n x j y : ℕ) → slice_get (replicate n x) j ≡ Some y → x ≡ y
replicate_get zero x j y e = cc
replicate_get (suc n) x zero y e = cc
replicate_get (suc n) x (suc j) y e = replicate_get n x j y e

-- the handler of this number among these has the place
record Holds (p : Protocol) (entries : List Entry) (at r total first number place : ℕ) : Type 0 where
  pub index : ℕ
  door : Door
  is : number ≡ first + index
  is_door : slice_get (doors_from p at r entries) index ≡ Some door
  from : door.at < place
  upto : place ≤ place_or (slice_get (doors_from p at r entries) (suc index)) total

module _ (p : Protocol) where
  holds_place : (entries : List Entry) (at r h first j number place : ℕ) →
      slice_get (rest_doors p at r first entries) j ≡ Some number →
      slice_get (rest_places at (in_order (map (entry_code p) entries) at r h)) j ≡ Some place →
      Holds p entries at r (at + length (in_order (map (entry_code p) entries) at r h)) first number place
  unfolding IsIn
  holds_place [] at r h first j number place e f = cc
  holds_place (d ∷ entries) at r h first j number place e f =
      by_side (split_get (replicate (rests_in ops) first) (rest_doors p (at + length ops) (r + rests_in ops)
      (first + 1) entries) j number e) (λ i k m. holds_place entries (at + length ops) (r + rests_in ops)
      (h + loops_in ops) (first + 1) i number place k m)
    where
      ops : List OpCode
      ops = entry_code p d at r 0

      more : List OpCode
      more = in_order (map (entry_code p) entries) (at + length ops) (r + rests_in ops) (h + loops_in ops)

      all : at + length (ops ++ more) ≡ at + length ops + length more
      all = omega (arith, length-append ops more)

      places : slice_get (rest_places at ops ++ rest_places (at + length ops) more) j ≡ Some place
      places = subst (λ l. slice_get l j ≡ Some place) (places-append ops more at) f

      by_side : ((j < length (replicate (rests_in ops) first)) × (slice_get (replicate (rests_in ops) first) j ≡ Some number))
          ⊎ ((i : ℕ) × (j ≡ length (replicate (rests_in ops) first) + i)
          × (slice_get (rest_doors p (at + length ops) (r + rests_in ops) (first + 1) entries) i ≡ Some number)) →
          ((i : ℕ) → slice_get (rest_doors p (at + length ops) (r + rests_in ops) (first + 1) entries) i ≡ Some number →
          slice_get (rest_places (at + length ops) more) i ≡ Some place →
          Holds p entries (at + length ops) (r + rests_in ops) (at + length ops + length more) (first + 1) number place) →
          Holds p (d ∷ entries) at r (at + length (ops ++ more)) first number place
      by_side (inl g) rec =
          let lt = g.0 in
          let n = replicate_get (rests_in ops) first j number g.1 in
          let here = front_get (rest_places at ops) (rest_places (at + length ops) more) j place
          (omega (arith, places-length ops at, length_replicate (rests_in ops) first)) places in
          let inside = places_in ops at j place here in
          let next : place_or (slice_get (doors_from p (at + length ops) (r + rests_in ops) entries) 0)
          (at + length (ops ++ more)) ≡ at + length ops =
          ap (place_or (slice_get (doors_from p (at + length ops) (r + rests_in ops) entries) 0)) all
          ∙ next_place p [] entries (at + length ops) (r + rests_in ops) (h + loops_in ops) in
          let top = inside.1 in
          record { index = 0; door = _; is = omega arith; is_door = refl; from = inside.0; upto = omega (arith, next) }
      by_side (inr g) rec =
          let at_rest : j ≡ length (rest_places at ops) + g.0 =
          omega (arith, g.1, places-length ops at, length_replicate (rests_in ops) first) in
          let there = behind_get (rest_places at ops) (rest_places (at + length ops) more) g.0 place
          (subst (λ k. slice_get (rest_places at ops ++ rest_places (at + length ops) more) k ≡ Some place) at_rest
          places) in
          let y = rec g.0 g.2 there in
          let n = y.is in
          record {
            index = suc y.index;
            door = y.door;
            is = omega arith;
            is_door = y.is_door;
            from = y.from;
            upto = subst
                (λ k. place ≤ place_or (slice_get (doors_from p (at + length ops) (r + rests_in ops) entries) (suc y.index)) k)
                (sym all) y.upto;
          }

-- ---- paths stay in their handler

module _ (p : Protocol) (code : Code) (a : IsAccepted p) (c : IsCode p code) (number : ℕ) (door : Door)
    (x : Handled p code number door) where
  neat_here : Neat p (names_of x.entry) code.ops door.at x.fin (length (names_of x.entry)) door.slots
  neat_here = is_neat p code a c number door x

  abbrev FitsHere : ℕ → OpCode → Type 0
  FitsHere at o = Fits p (names_of x.entry) code.ops door.at x.fin (length (names_of x.entry)) door.slots at o

  read_small : (at slot : ℕ) (o : OpCode) → length (names_of x.entry) ≤ door.slots → FitsHere at o → read_by o ≡ Some slot →
      slot < door.slots
  read_small at slot (op.Get k) g f e = let same : k ≡ slot = cc in omega arith
  read_small at slot (op.EachNext k h to) g f e = let same : h ≡ slot = cc in let u = f.set_to in omega arith
  read_small at slot _ g f e = cc

  pub leads_inside : (at next : ℕ) (o : OpCode) (written : Option ℕ) → door.at ≤ at → at < x.fin → FitsHere at o →
      LeadsTo o at next written → (door.at ≤ next) × (next ≤ x.fin)
  leads_inside at next (op.Jump to) written l u f e = let is = e.0 in let k = f.later in let m =
      f.within in (omega arith, omega arith)
  leads_inside at next (op.JumpBack to) written l u f e = let is = e.0 in let k = f.within in let m =
      f.earlier in (omega arith, omega arith)
  leads_inside at next (op.JumpIfNot to) written l u f e = by_side e.0
    where
      by_side : (next ≡ to) ⊎ (next ≡ at + 1) → (door.at ≤ next) × (next ≤ x.fin)
      by_side (inl is) = let k = f.later in let m = f.within in (omega arith, omega arith)
      by_side (inr is) = (omega arith, omega arith)
  leads_inside at next (op.EachNext s h to) written l u f (inl e) = let is = e.0 in let k = f.after in let m =
      f.within in let n = f.ends in (omega arith, omega arith)
  leads_inside at next (op.EachNext s h to) written l u f (inr e) = let is = e.0 in (omega arith, omega arith)
  leads_inside at next op.Resume written l u f e = absurd e
  leads_inside at next op.Done written l u f e = absurd e
  leads_inside at next _ written l u f e = let is = e.0 in (omega arith, omega arith)

  -- the op at a place up to the last
  pub op_fits : (at : ℕ) (o : OpCode) → door.at ≤ at → at ≤ x.fin → HasOp code.ops at o →
      ((at < x.fin) × FitsHere at o) ⊎ (o ≡ op.Done)
  op_fits at o l u has = by_side (before_or at x.fin)
    where
      by_side : (at < x.fin) ⊎ (x.fin ≤ at) → ((at < x.fin) × FitsHere at o) ⊎ (o ≡ op.Done)
      by_side (inl lt) = inl (lt, neat_here.fits at o l lt has)
      by_side (inr le) =
          let is : x.fin ≡ at = omega arith in
          let done : HasOp code.ops at op.Done = subst (λ z. HasOp code.ops z op.Done) is x.done in
          let same : o ≡ op.Done = cc in
          inr same

  done_reads : (o : OpCode) (slot : ℕ) → o ≡ op.Done → read_by o ≡ Some slot → ⊥
  done_reads o slot e f = let g : read_by op.Done ≡ Some slot = subst (λ z. read_by z ≡ Some slot) e f in cc

  done_leads : (o : OpCode) (at next : ℕ) (written : Option ℕ) → o ≡ op.Done → LeadsTo o at next written → ⊥
  done_leads o at next written e f = subst (λ z. LeadsTo z at next written) e f

  pub reads_small : {at slot : ℕ} → ReadsFirst code.ops at slot → door.at ≤ at → at ≤ x.fin → slot < door.slots
  reads_small (reads {at = at} {slot = slot} {o = o} has e) l u = by_side (op_fits at o l u has)
    where
      by_side : ((at < x.fin) × FitsHere at o) ⊎ (o ≡ op.Done) → slot < door.slots
      by_side (inl f) = let n = neat_here in let g = n.grow in read_small at slot o g f.1 e
      by_side (inr f) = absurd (done_reads o slot f e)
  reads_small (later {at = at} {next = next} {slot = slot} {o = o} {written = written} has leads never r) l u =
      by_side (op_fits at o l u has) (reads_small r)
    where
      by_side : ((at < x.fin) × FitsHere at o) ⊎ (o ≡ op.Done) → (door.at ≤ next → next ≤ x.fin → slot < door.slots) →
          slot < door.slots
      by_side (inl f) more = let k = leads_inside at next o written l f.0 f.1 leads in more k.0 k.1
      by_side (inr f) more = absurd (done_leads o at next written f leads)

-- ---- a number whose bits are all below a place

-- the bits from a place on are those of the number without the lower ones
high_bits : (n k i : ℕ) → bit_at (n / 2 ^ k) i ≡ bit_at n (k + i)
high_bits n k i = ap (λ x. x % 2) (div-div-eq-div-mul n (2 ^ k) (2 ^ i) ∙ ap (λ x. n / x) (sym (pow-add 2 k i)))

high_zero : (n k : ℕ) → ((i : ℕ) → k ≤ i → bit_at n i ≡ 0) → n / 2 ^ k ≡ 0
high_zero n k f = same_from_bits (n / 2 ^ k) 0 (λ i. high_bits n k i ∙ (f (k + i) (omega arith) ∙ sym (bit_at-zero i)))

-- ---- rests

module _ (p : Protocol) (code : Code) (a : IsAccepted p) (c : IsCode p code) (number : ℕ) (rest : Rest)
    (is_rest : slice_get code.rests number ≡ Some rest) where
  map_get : {X Y : Type 0} (f : X → Y) (xs : List X) (i : ℕ) (y : X) → slice_get xs i ≡ Some y →
      slice_get (map f xs) i ≡ Some (f y)
  map_get f [] i y e = cc
  map_get f (z ∷ xs) zero y e = let same : z ≡ y = cc in ap (λ q. Some (f q)) same
  map_get f (z ∷ xs) (suc i) y e = map_get f xs i y e

  place : slice_get (rest_places 0 code.ops) number ≡ Some rest.at
  place = subst (λ l. slice_get l number ≡ Some rest.at) c.places (map_get (λ r. r.at) code.rests number rest is_rest)

  owner : slice_get (rest_doors p 0 0 0 (entries_of p)) number ≡ Some rest.door
  owner = subst (λ l. slice_get l number ≡ Some rest.door) c.owners (map_get (λ r. r.door) code.rests number rest is_rest)

  numbered : NumberedFrom 0 code.ops
  numbered = subst (NumberedFrom 0) (sym c.ops) (all_numbered p (entries_of p) 0 0 0 (all_fine p a))

  pub suspension : Suspends code.ops 0 number rest.at
  suspension = let z : 0 + number ≡ number = omega arith in subst (λ k. Suspends code.ops 0 k rest.at) z
      (suspends code.ops 0 0 number rest.at numbered place)

  -- the handler of the rest
  record Owner : Type 0 where
    door : Door
    is_door : slice_get code.doors rest.door ≡ Some door
    from : door.at < rest.at
    upto : rest.at ≤ end_of code rest.door

  owned : Owner
  owned =
      let places = subst (λ l. slice_get (rest_places 0 l) number ≡ Some rest.at) c.ops place in
      let y = holds_place p (entries_of p) 0 0 0 0 number rest.door rest.at owner places in
      let is = y.is in
      let same : y.index ≡ rest.door = omega arith in
      let next : suc y.index ≡ rest.door + 1 = omega arith in
      let total : 0 + length (entries_code p (entries_of p)) ≡ length code.ops = omega (arith, ap length c.ops) in
      let there : slice_get code.doors rest.door ≡ Some y.door = ap (λ l. slice_get l rest.door) c.doors
      ∙ subst (λ k. slice_get (doors_from p 0 0 (entries_of p)) k ≡ Some y.door) same y.is_door in
      let end : place_or (slice_get (doors_from p 0 0 (entries_of p)) (suc y.index))
      (0 + length (entries_code p (entries_of p))) ≡ end_of code rest.door =
      ap (place_or (slice_get (doors_from p 0 0 (entries_of p)) (suc y.index))) total
      ∙ (ap (λ k. place_or (slice_get (doors_from p 0 0 (entries_of p)) k) (length code.ops)) next
      ∙ ap (λ l. place_or (slice_get l (rest.door + 1)) (length code.ops)) (sym c.doors)) in
      record { door = y.door; is_door = there; from = y.from; upto = subst (λ k. rest.at ≤ k) end y.upto }

  suspends_is : (o : OpCode) → suspends_to number o ≡ true → (s : ℕ) × (o ≡ op.Suspend s number)
  suspends_is (op.Suspend s r) e = (s, ap (op.Suspend s) (eqb-true r number e))
  suspends_is _ e = cc

  one_suspend : (j : ℕ) (o : OpCode) → HasOp code.ops j o → suspends_to number o ≡ true → j + 1 ≡ rest.at
  one_suspend j o has e =
      let k = suspends_is o e in
      let there : HasOp code.ops j (op.Suspend k.0 number) = subst (HasOp code.ops j) k.1 has in
      let r = rests_stand p code a c j k.0 number there in
      let found = r.1 in
      let same : r.0 ≡ rest = cc in
      sym (sym (ap (λ (q : Rest). q.at) same) ∙ r.2)

  pub placed : is_placed code number rest ≡ true
  placed =
      let s = suspension in
      let is = s.is in
      let before : rest.at - 1 ≡ s.index = omega arith in
      let here : op_at code (rest.at - 1) ≡ op.Suspend s.state number = ap (op_at code) before
      ∙ op_is code s.index (op.Suspend s.state number) s.stands in
      let one = count_one (suspends_to number) code.ops s.index (op.Suspend s.state number) s.stands
      (eq-eqb number number refl) (λ j o e t. let k = one_suspend j o e t in omega arith) in
      let own = owned in
      let from = own.from in
      let upto = own.upto in
      let behind : is_behind code rest.door (slice_get code.doors rest.door) (rest.at - 1) ≡ true =
      ap (λ d. is_behind code rest.door d (rest.at - 1)) own.is_door
      ∙ both _ _ (le_true (own.door).at (rest.at - 1) (omega arith))
      (lt_true (rest.at - 1) (end_of code rest.door) (omega arith)) in
      both _ _ (eq-eqb (count_by (suspends_to number) code.ops) 1 one)
      (both _ _ (lt_true 0 rest.at (omega arith)) (both _ _
      (ap (suspends_to number) here ∙ eq-eqb number number refl) behind))

  -- no slot is live that the handler does not have
  live_below : (slots : ℕ) → ((k : ℕ) → is_live rest k ≡ true → k < slots) → is_live_below slots rest.live ≡ true
  live_below slots f =
      let none : rest.live / 2 ^ slots ≡ 0 = high_zero rest.live slots (λ i l. no_bit i l) in
      by_test (nat_le 32 slots) (eq-eqb (rest.live / 2 ^ slots) 0 none)
    where
      no_bit : (i : ℕ) → slots ≤ i → bit_at rest.live i ≡ 0
      no_bit i l =
          let never : (bit_at rest.live i == 1) ≡ false = is_false _ (λ e. let k = f i e in omega arith) in
          let two = bit_at-lt rest.live i in
          let other : bit_at rest.live i ≡ 1 → ⊥ = λ e. let yet = eq-eqb (bit_at rest.live i) 1 e in cc in
          low (bit_at rest.live i) two other
        where
          low : (b : ℕ) → b < 2 → (b ≡ 1 → ⊥) → b ≡ 0
          low zero l g = refl
          low (suc zero) l g = absurd (g refl)
          low (suc (suc b)) l g = absurd (omega arith)

      by_test : (b : Bool) → (rest.live / 2 ^ slots == 0) ≡ true → (b || (rest.live / 2 ^ slots == 0)) ≡ true
      by_test true e = refl
      by_test false e = e

  pub is_rest_here : is_rest_of code.doors (length code.ops) rest ≡ true
  is_rest_here =
      let own = owned in
      let x = handled p code c rest.door own.door own.is_door in
      let end = x.end in
      let from = own.from in
      let upto = own.upto in
      let last = fin_there p code a c rest.door own.door x in
      let s = suspension in
      let is = s.is in
      let inside = op_fits p code a c rest.door own.door x s.index (op.Suspend s.state number) (omega arith)
      (omega arith) s.stands in
      let lt = not_done inside in
      let few : (k : ℕ) → is_live rest k ≡ true → k < (own.door).slots =
      λ k e. reads_small p code a c rest.door own.door x ((c.live number k rest is_rest).0 e) (omega arith) (omega arith) in
      both _ _ (lt_true rest.at (length code.ops) (omega arith))
      (ap (λ d. has_slots_of d rest.live) own.is_door ∙ live_below (own.door).slots few)
    where
      not_done : {A : Type 0} {B : Type 0} {i s : ℕ} → ((A × B) ⊎ (op.Suspend s i ≡ op.Done)) → A
      not_done (inl f) = f.0
      not_done (inr e) = cc

pub keeps_rests : (p : Protocol) (code : Code) → IsAccepted p → IsCode p code → (at : ℕ) →
    AtRest code (λ number rest. is_placed code number rest ≡ false) at → ⊥
keeps_rests p code a c at w = let ok = placed p code a c w.number w.rest w.is_rest in let bad = w.holds in cc
