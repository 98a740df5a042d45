-- What a proof about one protocol reads off a step.
use Rattle.std.proofs.Common.{arith, ◌≡◌, ◌≢◌, ℕ, suc, Bool, true, false, ◌&&◌, nat_eq, if◌then◌else◌, map, List, [], ◌∷◌, ◌++◌}
use Rattle.std.proofs.Common.{Option, ◌⊎◌, refl, ap, ◌∙◌, subst, inl, inr}
use Rattle.std.specs.Prelude.{option_to_list}
use Rattle.std.specs.List.{filter}
use Rattle.std.proofs.lemmas.List.{map-append}
use Rattle.std.proofs.lemmas.List.Elements.{filter-append}
use Rattle.tw_base.specs.declared.entry.Act.{Act}
use Rattle.tw_base.specs.declared.entry.Act.TheVariants as act
use Rattle.tw_base.specs.declared.message.Chan.{Chan}
use Rattle.tw_base.specs.declared.entry.Entry.{Entry}
use Rattle.tw_base.specs.declared.message.Kind.{Kind}
use Rattle.tw_base.specs.declared.message.Message.{Message}
use Rattle.dsm_runs.specs.declared.mode.Mode.TheVariants as mode
use Rattle.dsm_runs.specs.Setups.{Setup}
use Rattle.dsm_runs.specs.Locals.{Local, MayInstruct}
use Rattle.dsm_runs.specs.Messages.{chan_eq, numbered, on_wire}
use Rattle.dsm_runs.specs.Events.{CountsHandler, Delivers, Acts, LocalStep}
use Rattle.dsm_runs.specs.Worlds.{taken, takes_from, World, Step}
pub use Rattle.dsm_runs.specs.Shown.{TakesFront}
use Rattle.dsm_runs.proofs.Lists.{nat_eq_refl, chan_eq_refl, chan_eq-true}
use Rattle.dsm_runs.proofs.Turns.{nat_eq_other}
use Rattle.dsm_runs.proofs.OneEnd.{taken_here}
use Rattle.dsm_runs.proofs.Stamps.{latest_more}

-- numbers make no difference to a view of messages that does not read them
pub view-numbered : {V : Type 0} (p : Message → Bool) (v : Message → V) →
    ((m : Message) (k : ℕ) → p (record m { number = k }) ≡ p m) → ((m : Message) (k : ℕ) → v (record m { number = k }) ≡ v m)
    → (k : ℕ) (ms : List Message) → map v (filter p (numbered k ms)) ≡ map v (filter p ms)
view-numbered p v hp hv k [] = refl
view-numbered {V} p v hp hv k (m ∷ ms) = rw (hp m k) (go (p m) (view-numbered p v hp hv (suc k) ms))
  where
    go : (b : Bool) → map v (filter p (numbered (suc k) ms)) ≡ map v (filter p ms) →
        map v (if b then record m { number = k } ∷ filter p (numbered (suc k) ms) else filter p (numbered (suc k) ms))
        ≡ map v (if b then m ∷ filter p ms else filter p ms)
    go true rest = ap (λ (x : V). x ∷ map v (filter p (numbered (suc k) ms))) (hv m k) ∙ ap (λ (l : List V). v m ∷ l) rest
    go false rest = rest

chan_eq_other : (c d : Chan) → c ≢ d → chan_eq c d ≡ false
chan_eq_other c d ne = go (chan_eq c d) refl
  where
    go : (b : Bool) → chan_eq c d ≡ b → chan_eq c d ≡ false
    go true h = absurd (ne (chan_eq-true c d h))
    go false h = h

false_left : (a b : Bool) → a ≡ false → (a && b) ≡ false
false_left true b h = absurd cc
false_left false b h = refl

pub false_right : (a b : Bool) → b ≡ false → (a && b) ≡ false
false_right true b h = h
false_right false b h = refl

pub nothing_if : (b : Bool) (front : Option Message) → b ≡ false → (if b then option_to_list front else []) ≡ []
nothing_if true front h = absurd cc
nothing_if false front h = refl

pub delivery : (s : Setup) (g : World) (e : Entry) (g2 : World) (kind : Kind) (block from : ℕ) (c : Chan) (number : ℕ)
    (r : Step s g e g2) → e.act ≡ act.Delivered kind block from c number
    → (d : Delivers s e.node (g.locals e.node) r.front (g2.locals e.node) e r.sends kind block from number)
    × TakesFront g from e.node c d.message r.between
delivery s g e g2 kind block from c number r is = (
  d,
  record {
    front = r.takes from e.node c ∙ ap (λ (l : List Message). l ++ r.between from e.node c)
        (taken_here e r.front from e.node c d.message refl here d.is_front);
    others = λ f t c2 away. r.takes f t c2 ∙ ap (λ (l : List Message). l ++ r.between f t c2) (nothing f t c2 away);
  },
)
  where
    d : Delivers s e.node (g.locals e.node) r.front (g2.locals e.node) e r.sends kind block from number
    d = subst (λ (a : Act). Acts s e.node (g.locals e.node) r.front (g2.locals e.node) e r.sends a) is r.local.acts

    here : takes_from e.act from c ≡ true
    here = rw (is, nat_eq_refl from) (chan_eq_refl c)

    nothing : (f t : ℕ) (c2 : Chan) → (f ≢ from) ⊎ (t ≢ e.node) ⊎ (c2 ≢ c) → taken e r.front f t c2 ≡ []
    nothing f t c2 (inl x) = nothing_if (nat_eq t e.node && takes_from e.act f c2) r.front
        (false_right (nat_eq t e.node) _ (rw is (false_left (nat_eq f from) (chan_eq c2 c) (nat_eq_other f from x))))
    nothing f t c2 (inr (inl x)) = nothing_if (nat_eq t e.node && takes_from e.act f c2) r.front
        (false_left (nat_eq t e.node) _ (nat_eq_other t e.node x))
    nothing f t c2 (inr (inr x)) = nothing_if (nat_eq t e.node && takes_from e.act f c2) r.front
        (false_right (nat_eq t e.node) _ (rw is (false_right (nat_eq f from) (chan_eq c2 c) (chan_eq_other c2 c x))))

-- A node that is not held while it handles a message is not held afterwards: its budgets, its stamps and its failure do not
-- come back.
pub may_before : (s : Setup) (i : ℕ) (l : Local) (front : Option Message) (l2 : Local) (e : Entry) (sends : List Message) →
    LocalStep s i l front l2 e sends → CountsHandler s l l2 → l.mode ≡ mode.Woken → MayInstruct s l2 → MayInstruct s l
may_before s i l front l2 e sends r counts woken may = record {
  unfailed = counts.may.unfailed;
  ready = rw woken tt;
  instructions = omega (arith, counts.instructions, may.instructions);
  sent = omega (arith, r.sent, may.sent);
  clock = omega (arith, r.clock, r.stamp, latest_more l.clock front, may.clock);
}

-- an event that is no delivery takes nothing
pub untaken : (s : Setup) (g : World) (e : Entry) (g2 : World) (r : Step s g e g2) →
    ((f : ℕ) (c : Chan) → takes_from e.act f c ≡ false) → (f t : ℕ) (c : Chan) → g.wires f t c ≡ r.between f t c
untaken s g e g2 r none f t c = r.takes f t c ∙ ap (λ (l : List Message). l ++ r.between f t c)
    (nothing_if (nat_eq t e.node && takes_from e.act f c) r.front
    (false_right (nat_eq t e.node) (takes_from e.act f c) (none f c)))

-- A view of a wire after a step: what stayed, and then the same view of what was sent on it.
pub view_after : {V : Type 0} (p : Message → Bool) (v : Message → V) →
    ((m : Message) (k : ℕ) → p (record m { number = k }) ≡ p m) → ((m : Message) (k : ℕ) → v (record m { number = k }) ≡ v m)
    → (s : Setup) (g : World) (e : Entry) (g2 : World) (r : Step s g e g2) (f t : ℕ) (c : Chan) →
    map v (filter p (g2.wires f t c)) ≡ map v (filter p (r.between f t c))
    ++ map v (filter p (filter (on_wire f t c) r.sends))
view_after {V} p v hp hv s g e g2 r f t c =
    let new : List Message = filter (on_wire f t c) r.sends in
    ap (λ (ms : List Message). map v (filter p ms)) (r.wires f t c)
    ∙ ap (λ (ms : List Message). map v ms) (filter-append p (r.between f t c) (numbered (g.next f t c) new))
    ∙ map-append v (filter p (r.between f t c)) (filter p (numbered (g.next f t c) new))
    ∙ ap (λ (l : List V). map v (filter p (r.between f t c)) ++ l) (view-numbered p v hp hv (g.next f t c) new)
