-- An event on one block leaves what is said of another, whatever the table, where the table sends of the message's block alone.
use Rattle.std.proofs.Common.{◌≡◌, ◌≢◌, ℕ, Bool, true, List, ◌∷◌, ◌++◌, Some, arith, sym, ap, ◌∙◌}
use Rattle.std.proofs.lemmas.List.{append-nil}
use Rattle.std.proofs.lemmas.Bool.{cases_eq}
use Rattle.block_spots.specs.Cases.{Effect, Here, Message, Table}
use Rattle.block_spots.specs.Notes.{Waiting, notes, kept_notes}
use Rattle.block_spots.specs.Sketches.{Local, Wires, Sketch, Handles, Takes, Delivers, Redelivers, Faults, Layout, on_wire}
use Rattle.block_spots.specs.Sketches.{spot_at}
use Rattle.tw_base.specs.declared.message.Chan.{Chan}
use Rattle.block_spots.proofs.Noted.{AllOf, notes-append, notes_other, notes_all_other, kept_notes-append, kept_notes_other}
use Rattle.block_spots.proofs.Noted.{kept_notes-freed_if, kept_notes-with_kept_other}

-- what the table sends is of the block of the message
abbrev pub SendsOfBlock : Table → Type 0
SendsOfBlock t = (n home i : ℕ) (h : Here) (m : Message) (e : Effect) → t n home i h m ≡ Some e → AllOf m.block e.sends

module _ (t : Table) (own : SendsOfBlock t) (n home i : ℕ) (m : Message) (l : Local) (w : Wires) (l2 : Local) (w2 : Wires)
    (a : Handles t n home i m l w l2 w2) (b : ℕ) (d : m.block ≢ b) where
  handles_notes : (f k : ℕ) (c : Chan) → notes b (w2 f k c) ≡ notes b (w f k c)
  handles_notes f k c =
      ap (notes b) (a.wires f k c) ∙ notes-append b _ _
      ∙ ap (λ x. notes b (w f k c) ++ x) (notes_all_other b m.block (on_wire f k c) a.effect.sends
      (own n home i _ m a.effect a.does) d)
      ∙ append-nil _

  handles_kept : (j : ℕ) → kept_notes b j l2.deferred ≡ kept_notes b j l.deferred
  handles_kept j =
      ap (kept_notes b j) a.deferred ∙ kept_notes-freed_if b j m.block a.effect.freed _
      ∙ kept_notes-with_kept_other b j a.effect.kept m l.deferred d

pub takes_notes_other : (f t : ℕ) (c : Chan) (m : Message) (w w2 : Wires) → Takes f t c m w w2 → (b : ℕ) → m.block ≢ b →
    (f2 t2 : ℕ) (c2 : Chan) → notes b (w2 f2 t2 c2) ≡ notes b (w f2 t2 c2)
takes_notes_other f t c m w w2 a b d f2 t2 c2 = grind (arith, cases_eq f2 f, cases_eq t2 t, notes_other b m (w2 f t c) d)

-- what a step leaves of a block that it is not about
pub record SameBlock (g g2 : Sketch) (b : ℕ) : Type 0 where
  pub blocks : (k : ℕ) → (g2.locals k).blocks b ≡ (g.locals k).blocks b
  pub kept : (k j : ℕ) → kept_notes b j (g2.locals k).deferred ≡ kept_notes b j (g.locals k).deferred
  pub notes : (f t : ℕ) (c : Chan) → notes b (g2.wires f t c) ≡ notes b (g.wires f t c)

pub same_spot : (g g2 : Sketch) (b : ℕ) → SameBlock g g2 b → (h i : ℕ) → spot_at g2 b h i ≡ spot_at g b h i
unfolding spot_at
same_spot g g2 b s h i = simp (s.blocks, s.kept, s.notes)

pub delivers_frame : (t : Table) → SendsOfBlock t → (s : Layout) (g : Sketch) (i f : ℕ) (c : Chan) (g2 : Sketch)
    (e : Delivers t s g i f c g2) (b : ℕ) → e.message.block ≢ b → SameBlock g g2 b
delivers_frame t own s g i f c g2 e b d = record {
  blocks = λ k. grind (arith, cases_eq k i, e.handles.others b);
  kept = λ k j. grind (arith, cases_eq k i, handles_kept t own _ _ _ _ _ _ _ _ e.handles b d j);
  notes = λ f2 t2 c2. handles_notes t own _ _ _ _ _ _ _ _ e.handles b d f2 t2 c2
      ∙ takes_notes_other f i c e.message g.wires e.between e.takes b d f2 t2 c2;
}

pub faults_frame : (t : Table) → SendsOfBlock t → (s : Layout) (g : Sketch) (i : ℕ) (store : Bool) (c : ℕ) (g2 : Sketch)
    (e : Faults t s g i store c g2) (b : ℕ) → c ≢ b → SameBlock g g2 b
faults_frame t own s g i store c g2 e b d = record {
  blocks = λ k. grind (arith, cases_eq k i, e.handles.others b);
  kept = λ k j. grind (arith, cases_eq k i, handles_kept t own _ _ _ _ _ _ _ _ e.handles b d j);
  notes = λ f2 t2 c2. handles_notes t own _ _ _ _ _ _ _ _ e.handles b d f2 t2 c2;
}

pub kept_notes-taken_other : (b j : ℕ) (x : Waiting) (xs ys : List Waiting) → x.message.block ≢ b →
    kept_notes b j (xs ++ ys) ≡ kept_notes b j (xs ++ x ∷ ys)
kept_notes-taken_other b j x xs ys d =
    kept_notes-append b j xs ys ∙ ap (λ z. kept_notes b j xs ++ z) (sym (kept_notes_other b j x ys d))
    ∙ sym (kept_notes-append b j xs (x ∷ ys))

pub redelivers_frame : (t : Table) → SendsOfBlock t → (s : Layout) (g : Sketch) (i : ℕ) (g2 : Sketch)
    (e : Redelivers t s g i g2) (b : ℕ) → e.message.block ≢ b → SameBlock g g2 b
redelivers_frame t own s g i g2 e b d = record {
  blocks = λ k. grind (arith, cases_eq k i, e.handles.others b);
  kept = λ k j. grind (
    arith,
    cases_eq k i,
    handles_kept t own _ _ _ _ _ _ _ _ e.handles b d j,
    kept_notes-taken_other b j (record { message = e.message; eligible = true }) e.earlier e.later d,
  );
  notes = λ f2 t2 c2. handles_notes t own _ _ _ _ _ _ _ _ e.handles b d f2 t2 c2;
}
