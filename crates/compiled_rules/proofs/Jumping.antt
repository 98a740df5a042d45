-- Jumps go forward in their handler and into no loop, loops are closed and nest, and each has a slot for its set.
use Rattle.std.proofs.Common.{◌≡◌, ◌∙◌, ℕ, zero, suc, ◌+◌, ◌-◌, ◌<◌, ◌≤◌, ◌⊎◌, Bool, true, false, length, refl, ap, subst}
use Rattle.std.proofs.Common.{arith, inl, inr}
use Rattle.std.specs.Prelude.{not, nat_le, nat_lt, ◌&&◌, ◌||◌}
use Rattle.std.specs.List.{list_all}
use Rattle.std.proofs.lemmas.Bool.{eq-eqb}
use Rattle.std.proofs.lemmas.Bool.Decides.{Decides-ltb, leb_tells}
use Rattle.std.proofs.lemmas.List.Folds.{list_all-append}
use Rattle.teapot_tree.specs.declared.protocol.Protocol.{Protocol}
use Rattle.teapot_tree.specs.Rules.{IsAccepted}
use Rattle.teapot_meaning.proofs.Found.{both, not_false}
use Rattle.handler_code.specs.declared.code.Code.{Code}
use Rattle.handler_code.specs.declared.code.Door.{Door}
use Rattle.handler_code.specs.declared.code.OpCode.{OpCode}
use Rattle.handler_code.specs.declared.code.OpCode.TheVariants as op
use Rattle.handler_code.specs.Live.{HasOp}
use Rattle.code_walks.specs.declared.jumps.Loop.{Loop}
use Rattle.code_walks.specs.declared.parts.Part.{Part}
use Rattle.code_walks.specs.Jumps.{is_back_to, is_each_to, is_nested, is_not_entered, leads_forward, leads_well, leads_wrongly}
use Rattle.code_walks.specs.Jumps.{loop_at, loops_from, loops_of}
use Rattle.code_walks.specs.Parts.{AtOp, end_of, op_at, part_of}
use Rattle.compiled_meaning.specs.Whole.{IsCode}
use Rattle.compiled_rules.proofs.Facts.{each_op, is_neat, op_is}
use Rattle.compiled_rules.proofs.Handled.{Handled, handled, names_of}
use Rattle.compiled_rules.proofs.Neat.{Fits, Neat}
use Rattle.compiled_rules.proofs.Spans.{le_true, lt_true}

lt_from : (a b : ℕ) → nat_lt a b ≡ true → a < b
lt_from a b e = (Decides-ltb a b).0 e

le_from : (a b : ℕ) → nat_le a b ≡ true → a ≤ b
le_from a b e = by_test (leb_tells a b)
  where
    by_test : ((nat_le a b ≡ true) × (a ≤ b)) ⊎ ((nat_le a b ≡ false) × (b < a)) → a ≤ b
    by_test (inl f) = f.1
    by_test (inr f) = let g = f.0 in absurd (cc)

not_entered : (b e at to : ℕ) → (b ≤ to → to < e → (b ≤ at) × (at < e)) → is_not_entered at to (record { at = b; end = e }) ≡ true
not_entered b e at to f = by_test (nat_le b to) (nat_lt to e) refl refl
  where
    by_test : (m n : Bool) → nat_le b to ≡ m → nat_lt to e ≡ n → (not (m && n) || (nat_le b at && nat_lt at e)) ≡ true
    by_test true true g h = let k = f (le_from b to g) (lt_from to e h) in both _ _ (le_true b at k.0) (lt_true at e k.1)
    by_test true false g h = refl
    by_test false n g h = refl

nested : (b e at to : ℕ) → (b < at → at < e → to ≤ e) → is_nested at to (record { at = b; end = e }) ≡ true
nested b e at to f = by_test (nat_lt b at) (nat_lt at e) (nat_lt e to) refl refl refl
  where
    by_test : (l m n : Bool) → nat_lt b at ≡ l → nat_lt at e ≡ m → nat_lt e to ≡ n → not (l && (m && n)) ≡ true
    by_test true true true g h k =
        let w = f (lt_from b at g) (lt_from at e h) in let z = lt_from e to k in absurd (omega arith)
    by_test true true false g h k = refl
    by_test true false n g h k = refl
    by_test false m n g h k = refl

-- ---- all loops of a handler

module _ (code : Code) (f : Loop → Bool) where
  loop_test : (at : ℕ) (o : OpCode) → ((s h to : ℕ) → o ≡ op.EachNext s h to → f (record { at = at; end = to }) ≡ true) →
      list_all f (loop_at at o) ≡ true
  loop_test at (op.EachNext s h to) g = both _ _ (g s h to refl) refl
  loop_test at _ g = refl

  loops_tested : (from n : ℕ) → ((b s h to : ℕ) → from ≤ b → b < from + n → op_at code b ≡ op.EachNext s h to →
      f (record { at = b; end = to }) ≡ true) → list_all f (loops_from code from n) ≡ true
  loops_tested from zero g = refl
  loops_tested from (suc n) g =
      let front = loops_tested from n (λ b s h to l u e. g b s h to l (omega arith) e) in
      let last = loop_test (from + n) (op_at code (from + n)) (λ s h to e. g (from + n) s h to (omega arith) (omega arith) e) in
      list_all-append f (loops_from code from n) (loop_at (from + n) (op_at code (from + n))) ∙ both _ _ front last

module _ (p : Protocol) (code : Code) (a : IsAccepted p) (c : IsCode p code) (number : ℕ) (door : Door)
    (x : Handled p code number door) where
  abbrev part : Part
  part = part_of code number door

  neat_here : Neat p (names_of x.entry) code.ops door.at x.fin (length (names_of x.entry)) door.slots
  neat_here = is_neat p code a c number door x

  -- a loop of the handler is one of its ops before the last
  loops_all : (f : Loop → Bool) → ((b s h to : ℕ) → door.at ≤ b → b < x.fin → HasOp code.ops b (op.EachNext s h to) →
      f (record { at = b; end = to }) ≡ true) → list_all f (loops_of code part) ≡ true
  loops_all f g =
      let end = x.end in
      loops_tested code f door.at (end_of code number - door.at) (λ b s h to l u e.
      let before : b < end_of code number = omega arith in
      let P : OpCode → Type 0 = λ o. o ≡ op.EachNext s h to → f (record { at = b; end = to }) ≡ true in
      each_op p code a c number door x P b l before (λ q z. absurd (cc))
      (λ lt has z. g b s h to l lt (subst (HasOp code.ops b) z has)) e)

  forward : (at to : ℕ) → door.at ≤ at → at < x.fin → at < to → to ≤ x.fin →
      ((b s h e : ℕ) → door.at ≤ b → b < x.fin → HasOp code.ops b (op.EachNext s h e) → b ≤ to → to < e →
      (b ≤ at) × (at < e)) → leads_forward (loops_of code part) part at to ≡ true
  forward at to l u later within out =
      let end = x.end in
      both _ _ (lt_true at to later) (both _ _ (lt_true to (end_of code number) (omega arith))
      (loops_all (is_not_entered at to) (λ b s h e m n has. not_entered b e at to (out b s h e m n has))))

  -- by what the op names, and how it stands to each loop
  well : (at : ℕ) (o : OpCode) → door.at ≤ at → at < x.fin → HasOp code.ops at o →
      Fits p (names_of x.entry) code.ops door.at x.fin (length (names_of x.entry)) door.slots at o →
      leads_well (loops_of code part) code part at o ≡ true
  well at (op.Jump to) l u has f = forward at to l u f.later f.within
      (λ b s h e m n hb. neat_here.apart at b (op.Jump to) (op.EachNext s h e) l u m n has hb)
  well at (op.JumpIfNot to) l u has f = forward at to l u f.later f.within
      (λ b s h e m n hb. neat_here.apart at b (op.JumpIfNot to) (op.EachNext s h e) l u m n has hb)
  well at (op.JumpBack to) l u has f =
      let is = op_is code to (op.EachNext f.variable f.set (at + 1)) f.loop in
      both _ _ (le_true door.at to f.within) (both _ _ (lt_true to at f.earlier)
      (ap (is_each_to (at + 1)) is ∙ eq-eqb (at + 1) (at + 1) refl))
  well at (op.EachNext s h to) l u has f =
      let end = x.end in
      let within = f.within in
      let after = f.after in
      let ends = f.ends in
      let last : to - 1 ≡ f.last = omega arith in
      let is = ap (op_at code) last ∙ op_is code f.last (op.JumpBack at) f.closed in
      let nests = loops_all (is_nested at to) (λ b z g e m n hb.
      let out = neat_here.apart at b (op.EachNext s h to) (op.EachNext z g e) l u m n has hb in
      nested b e at to out.0) in
      both _ _ (lt_true (at + 1) to (omega arith)) (both _ _ (le_true to (end_of code number) (omega arith))
      (both _ _ (ap (is_back_to at) is ∙ eq-eqb at at refl) nests))
  well at _ l u has f = refl

  jumps_kept : (at : ℕ) → door.at ≤ at → at < end_of code number → leads_wrongly code part at ≡ true → ⊥
  jumps_kept at l u e =
      let ok : leads_well (loops_of code part) code part at (op_at code at) ≡ true =
      each_op p code a c number door x (λ o. leads_well (loops_of code part) code part at o ≡ true) at l u (λ q. refl)
      (λ lt has. well at (op_at code at) l lt has (neat_here.fits at (op_at code at) l lt has)) in
      let bad : leads_well (loops_of code part) code part at (op_at code at) ≡ false = not_false _ e in
      cc

pub keeps_jumps : (p : Protocol) (code : Code) → IsAccepted p → IsCode p code → (at : ℕ) →
    AtOp code (λ part at. leads_wrongly code part at ≡ true) at → ⊥
keeps_jumps p code a c at w = let i = w.within in jumps_kept p code a c w.number w.door
    (handled p code c w.number w.door w.is_door) at i.from i.before i.holds
