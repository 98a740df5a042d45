-- What the rows do to the facts on a node's mode and its next instruction.
use Rattle.std.proofs.Common.{◌≡◌, ◌≢◌, ℕ, ◌+◌, ◌≤◌, true, false, Some, arith, refl, sym, ◌∙◌, inl, inr, ◌⊎◌, subst}
use Rattle.std.proofs.lemmas.Bool.Decides.{nat_tests}
use Rattle.block_spots.specs.Cases.{Kind, RdFault, WrFault, State, HomeRw, HomeRo, HomeExcl, HomeAcks, HomePut, Message, Here}
use Rattle.block_spots.specs.Cases.{No, Effect}
use Rattle.block_spots.specs.Notes.{Spot, held_home, is_rd_fault, is_wr_fault}
use Rattle.block_spots.specs.Sketches.{Stores, Next}
use Rattle.stache_l_inv.specs.Coherent.{AtHome, RestFits, HeldFor, standing}
use Rattle.tw_base.specs.declared.value.Tag.TheVariants.{ReadOnly, ReadWrite}
use Rattle.stache_l_table.specs.Handling.{handle_in}
use Rattle.coherence_frame.proofs.Nodes.{FaultOf, HomeEffect, OwnEffect, note_kept}

-- what a row at the home does to its rest and wakes, at a message of another node
record Served (home : Here) (e : Effect) : Type 0 where
  sleeps : e.woke ≡ false → (held_home e.here.rest ≡ held_home home.rest)
      × (1 ≤ held_home e.here.rest → e.here.state ≡ home.state)
  wakes : e.woke ≡ true → (1 ≤ held_home home.rest) × (held_home e.here.rest ≡ 0) × (e.here.tag ≡ ReadWrite)

served : (n h : ℕ) (home : Here) (sp : Spot) (m : Message) (e : Effect) → AtHome n h home sp →
    handle_in n h h home m ≡ Some e → m.kind ≢ RdFault → m.kind ≢ WrFault → Served home e
served n h home sp m e a does u v = go home.state refl a.rest
  where
    go : (x : State) → home.state ≡ x → RestFits n h home.state home.rest → Served home e
    go HomeRw p r = grind (arith, nat_tests)
    go HomeRo p r = grind (arith, nat_tests)
    go HomeExcl p r = grind (arith, nat_tests)
    go HomeAcks p r = grind (arith, nat_tests)
    go HomePut p r = grind (arith, nat_tests)
    go x p r = absurd (grind arith)

pub home_effect : (n h : ℕ) (home : Here) (sp : Spot) (m : Message) (e : Effect) → AtHome n h home sp →
    handle_in n h h home m ≡ Some e → m.kind ≢ RdFault → m.kind ≢ WrFault → HomeEffect standing home e
home_effect n h home sp m e a does u v = let f = served n h home sp m e a does u v in record {
  sleeps = λ w. ((f.sleeps w).0, λ held x b holds. subst (λ st. HeldFor st x b) (sym ((f.sleeps w).1 held)) holds);
  wakes = λ w. ((f.wakes w).0, (f.wakes w).1, λ x b holds. (λ z. rw (f.wakes w).2 refl, λ z. rw (f.wakes w).2 refl));
}

-- the home's own fault
record Own (m : Message) (e : Effect) (b : ℕ) : Type 0 where
  sleeps : e.woke ≡ false → (held_home e.here.rest + is_rd_fault (note_kept e m) + is_wr_fault (note_kept e m) ≡ 1)
  store_held : e.woke ≡ false → 1 ≤ held_home e.here.rest → (m.kind ≡ WrFault) ⊎ (e.here.state ≡ HomePut)
  wakes : e.woke ≡ true → (e.here.tag ≡ ReadOnly) × (m.kind ≡ RdFault) × (held_home e.here.rest ≡ 0) × (e.kept ≡ No)

own : (n h : ℕ) (home : Here) (sp : Spot) (m : Message) (e : Effect) (b : ℕ) → AtHome n h home sp →
    handle_in n h h home m ≡ Some e → (m.kind ≡ RdFault) ⊎ (m.kind ≡ WrFault) → held_home home.rest ≡ 0 → home.state ≢ HomeRw →
    Own m e b
own n h home sp m e b a does k u v = go home.state refl k a.rest
  where
    go : (x : State) → home.state ≡ x → (m.kind ≡ RdFault) ⊎ (m.kind ≡ WrFault) → RestFits n h home.state home.rest → Own m e b
    go HomeRo p (inl q) r = grind (arith, nat_tests)
    go HomeRo p (inr q) r = grind (arith, nat_tests)
    go HomeExcl p (inl q) r = grind (arith, nat_tests)
    go HomeExcl p (inr q) r = grind (arith, nat_tests)
    go HomeAcks p (inl q) r = grind (arith, nat_tests)
    go HomeAcks p (inr q) r = grind (arith, nat_tests)
    go HomePut p (inl q) r = grind (arith, nat_tests)
    go HomePut p (inr q) r = grind (arith, nat_tests)
    go x p q r = absurd (grind arith)

either : (k : Kind) (x : Next) (b : ℕ) → FaultOf b k x → HeldFor HomePut x b
either k x b (inl v) = inl v.1
either k x b (inr v) = inr v.1

weaker : (st : State) (x : Next) (b : ℕ) → x ≡ Stores b → HeldFor st x b
weaker HomePut x b h = inr h
weaker _ x b h = h

holds : (m : Message) (e : Effect) (x : Next) (b : ℕ) → (m.kind ≡ WrFault) ⊎ (e.here.state ≡ HomePut) → FaultOf b m.kind x →
    HeldFor e.here.state x b
holds m e x b (inl v) (inl z) = absurd (let f : RdFault ≡ WrFault = sym z.0 ∙ v in cc)
holds m e x b (inl v) (inr z) = weaker _ x b z.1
holds m e x b (inr v) z = rw v (either m.kind x b z)

pub own_effect : (n h : ℕ) (home : Here) (sp : Spot) (m : Message) (e : Effect) (b : ℕ) → AtHome n h home sp →
    handle_in n h h home m ≡ Some e → (m.kind ≡ RdFault) ⊎ (m.kind ≡ WrFault) → held_home home.rest ≡ 0 → home.state ≢ HomeRw →
    OwnEffect standing m e b
own_effect n h home sp m e b a does k u v = let f = own n h home sp m e b a does k u v in record {
  sleeps = f.sleeps;
  holds = λ w held x z. holds m e x b (f.store_held w held) z;
  wakes = f.wakes;
}
