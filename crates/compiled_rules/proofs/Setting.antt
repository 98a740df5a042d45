-- Each loop has a slot for its set to itself.
use Rattle.std.proofs.Common.{◌≡◌, ◌∙◌, ℕ, ◌+◌, ◌-◌, ◌<◌, ◌≤◌, ◌⊎◌, Bool, true, false, length, Some, refl, ap, sym, subst}
use Rattle.std.proofs.Common.{arith, inl, inr, take}
use Rattle.std.specs.Prelude.{count_by, slice_get}
use Rattle.std.proofs.lemmas.Bool.{eq-eqb, eqb-true}
use Rattle.teapot_tree.specs.declared.protocol.Protocol.{Protocol}
use Rattle.teapot_tree.specs.Rules.{IsAccepted}
use Rattle.teapot_meaning.proofs.Found.{both, not_false, not_true}
use Rattle.handler_code.specs.declared.code.Code.{Code}
use Rattle.handler_code.specs.declared.code.Door.{Door}
use Rattle.handler_code.specs.declared.code.OpCode.{OpCode}
use Rattle.handler_code.specs.declared.code.OpCode.TheVariants as op
use Rattle.handler_code.specs.Live.{HasOp}
use Rattle.code_walks.specs.declared.parts.Part.{Part}
use Rattle.code_walks.specs.Parts.{AtOp, end_of, op_at, ops_of, part_of}
use Rattle.code_rules.specs.Sets.{has_own_set, is_each_into, is_each_over, is_put, is_put_before, is_set_of_one, shares_set}
use Rattle.compiled_meaning.specs.Whole.{IsCode}
use Rattle.compiled_rules.proofs.Counting.{any_none, count_one, drop_get, get_drop, get_take, take_get}
use Rattle.compiled_rules.proofs.Facts.{each_op, is_neat, op_is}
use Rattle.compiled_rules.proofs.Handled.{Handled, handled, names_of}
use Rattle.compiled_rules.proofs.Neat.{Fits, Neat, Outside, Whole}
use Rattle.compiled_rules.proofs.Spans.{before_or, lt_true}

module _ (p : Protocol) (code : Code) (a : IsAccepted p) (c : IsCode p code) (number : ℕ) (door : Door)
    (x : Handled p code number door) where
  abbrev part : Part
  part = part_of code number door

  neat_here : Neat p (names_of x.entry) code.ops door.at x.fin (length (names_of x.entry)) door.slots
  neat_here = is_neat p code a c number door x

  -- ops of the handler, by their place among all
  placed : (b : ℕ) (o : OpCode) → door.at ≤ b → b < end_of code number → HasOp code.ops b o →
      slice_get (ops_of code part) (b - door.at) ≡ Some o
  placed b o l u has =
      let place : door.at + (b - door.at) ≡ b = omega arith in
      let there = get_take code.ops (end_of code number) b o u has in
      get_drop (take (end_of code number) code.ops) door.at (b - door.at) o
      (subst (λ k. slice_get (take (end_of code number) code.ops) k ≡ Some o) (sym place) there)

  found : (j : ℕ) (o : OpCode) → slice_get (ops_of code part) j ≡ Some o →
      (door.at + j < end_of code number) × (HasOp code.ops (door.at + j) o)
  found j o e = take_get code.ops (end_of code number) (door.at + j) o
      (drop_get (take (end_of code number) code.ops) door.at j o e)

  module _ (at s h to : ℕ) (l : door.at ≤ at) (u : at < x.fin) (has : HasOp code.ops at (op.EachNext s h to))
      (w : Whole p (names_of x.entry) code.ops door.at x.fin (length (names_of x.entry)) door.slots at s h to) where
    over_once : (b : ℕ) (o : OpCode) → door.at ≤ b → b < x.fin → HasOp code.ops b o → is_each_over h o ≡ true → b ≡ at
    over_once b (op.EachNext z g e) m n hb f =
        let out = neat_here.apart b at (op.EachNext z g e) (op.EachNext s h to) m n l u hb has in out.1 (eqb-true g h f)
    over_once b _ m n hb f = cc

    put_once : (b : ℕ) (o : OpCode) → door.at ≤ b → b < x.fin → HasOp code.ops b o → is_put h o ≡ true → b + 1 ≡ at
    put_once b (op.Put k) m n hb f =
        let out : Outside p (names_of x.entry) code.ops b (op.Put k) at h to =
        neat_here.apart b at (op.Put k) (op.EachNext s h to) m n l u hb has in out (eqb-true k h f)
    put_once b _ m n hb f = cc

    into_never : (b : ℕ) (o : OpCode) → door.at ≤ b → b < x.fin → HasOp code.ops b o → is_each_into h o ≡ true → ⊥
    into_never b (op.EachNext z g e) m n hb f =
        let k = neat_here.fits b (op.EachNext z g e) m n hb in
        let variable = k.variable in
        let from = w.set_from in
        let same = eqb-true z h f in
        omega arith
    into_never b _ m n hb f = cc

    -- the last op is none of these
    not_last : (f : OpCode → Bool) (j : ℕ) (o : OpCode) → f op.Done ≡ false → slice_get (ops_of code part) j ≡ Some o →
        f o ≡ true → (door.at + j < x.fin) × (HasOp code.ops (door.at + j) o)
    not_last f j o never e t = by_side (before_or (door.at + j) x.fin)
      where
        k : (door.at + j < end_of code number) × (HasOp code.ops (door.at + j) o)
        k = found j o e

        by_side : (door.at + j < x.fin) ⊎ (x.fin ≤ door.at + j) → (door.at + j < x.fin) × (HasOp code.ops (door.at + j) o)
        by_side (inl lt) = (lt, k.1)
        by_side (inr le) =
            let end = x.end in
            let upto = k.0 in
            let is : door.at + j ≡ x.fin = omega arith in
            let here : HasOp code.ops x.fin o = subst (λ z. HasOp code.ops z o) is k.1 in
            let done = x.done in
            let same : o ≡ op.Done = cc in
            let bad : f op.Done ≡ true = subst (λ z. f z ≡ true) same t in
            absurd (cc)

    owns : has_own_set code part at (op.EachNext s h to) ≡ true
    owns =
        let begins = w.begins in
        let end = x.end in
        let follows = w.follows in
        let before : at - 1 ≡ w.before = omega arith in
        let put : op_at code (at - 1) ≡ op.Put h = ap (op_at code) before ∙ op_is code w.before (op.Put h) w.filled in
        let there = placed at (op.EachNext s h to) l (omega arith) has in
        let filled = placed w.before (op.Put h) (omega arith) (omega arith) w.filled in
        let one = count_one (is_each_over h) (ops_of code part) (at - door.at) (op.EachNext s h to) there (eq-eqb h h refl)
        (λ j o e t.
        let k = not_last (is_each_over h) j o refl e t in
        let same = over_once (door.at + j) o (omega arith) k.0 k.1 t in
        omega arith) in
        let two = count_one (is_put h) (ops_of code part) (w.before - door.at) (op.Put h) filled (eq-eqb h h refl) (λ j o e t.
        let k = not_last (is_put h) j o refl e t in
        let same = put_once (door.at + j) o (omega arith) k.0 k.1 t in
        omega arith) in
        let none = any_none (is_each_into h) (ops_of code part) (λ j o e t.
        let k = not_last (is_each_into h) j o refl e t in
        into_never (door.at + j) o (omega arith) k.0 k.1 t) in
        let first : is_put_before code part at h ≡ true = both _ _ (lt_true door.at at begins)
        (ap (is_put h) put ∙ eq-eqb h h refl) in
        let second : is_set_of_one (ops_of code part) h ≡ true =
        both _ _ (eq-eqb (count_by (is_each_over h) (ops_of code part)) 1 one)
        (both _ _ (eq-eqb (count_by (is_put h) (ops_of code part)) 1 two) (not_true _ none)) in
        both _ _ first second

  own : (at : ℕ) (o : OpCode) → door.at ≤ at → at < x.fin → HasOp code.ops at o →
      Fits p (names_of x.entry) code.ops door.at x.fin (length (names_of x.entry)) door.slots at o →
      has_own_set code part at o ≡ true
  own at (op.EachNext s h to) l u has f = owns at s h to l u has f
  own at _ l u has f = refl

  sets_kept : (at : ℕ) → door.at ≤ at → at < end_of code number → shares_set code part at ≡ true → ⊥
  sets_kept at l u e =
      let ok : has_own_set code part at (op_at code at) ≡ true =
      each_op p code a c number door x (λ o. has_own_set code part at o ≡ true) at l u (λ q. refl)
      (λ lt has. own at (op_at code at) l lt has (neat_here.fits at (op_at code at) l lt has)) in
      let bad : has_own_set code part at (op_at code at) ≡ false = not_false _ e in
      cc

pub keeps_sets : (p : Protocol) (code : Code) → IsAccepted p → IsCode p code → (at : ℕ) →
    AtOp code (λ part at. shares_set code part at ≡ true) at → ⊥
keeps_sets p code a c at w = let i = w.within in sets_kept p code a c w.number w.door
    (handled p code c w.number w.door w.is_door) at i.from i.before i.holds
