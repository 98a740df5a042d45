-- What a step sends is declared, and on its channel.
use Rattle.coherence_frame.proofs.Coming.{channel_declared}
use Rattle.coherence_frame.specs.Parts.{IsTreeOf}
use Rattle.coherence_frame.proofs.Scheme.{Scheme}
use Rattle.std.proofs.Common.{Bool, true, false, ◌≡◌, ℕ, suc, List, [], ◌∷◌, ◌++◌, if◌then◌else◌, refl, subst}
use Rattle.std.specs.List.{filter}
use Rattle.tw_base.specs.Lists.{Each}
use Rattle.tw_base.specs.declared.entry.Entry.{Entry}
use Rattle.tw_base.specs.declared.message.Chan.{Chan}
use Rattle.tw_base.specs.declared.message.Message.{Message}
use Rattle.teapot_tree.specs.declared.protocol.Protocol.{Protocol}
use Rattle.teapot_meaning.specs.Fits.{is_known}
use Rattle.teapot_meaning.specs.declared.state.Out.{Out}
use Rattle.dsm_runs.specs.Invariants.{IsOnTheWay, IsRunState}
use Rattle.dsm_runs.specs.Messages.{numbered, on_wire, outgoing, posted}
use Rattle.dsm_runs.specs.Setups.{Setup}
use Rattle.dsm_runs.specs.Worlds.{Step as Stepping, World}
use Rattle.dsm_runs.proofs.Lists.{chan_eq_refl, nat_eq_refl}
use Rattle.coherence_frame.proofs.Seeing.{OnDeclaredChannel}

abbrev KnownKind : Protocol → Message → Type 0
KnownKind p m = is_known p m.kind ≡ true

behind : {X : Type 0} (P : X → Type 0) (xs ys : List X) → Each P (xs ++ ys) → Each P ys
behind P [] ys h = h
behind P (x ∷ xs) ys h = behind P xs ys h.1

on_way_known : (s : Setup) (f t : ℕ) (ms : List Message) → Each (IsOnTheWay s f t) ms → Each (KnownKind s.protocol) ms
on_way_known s f t [] h = tt
on_way_known s f t (m ∷ ms) h = (h.0.is_message.known, on_way_known s f t ms h.1)

unnumbered : (p : Protocol) (k : ℕ) (ms : List Message) → Each (KnownKind p) (numbered k ms) → Each (KnownKind p) ms
unnumbered p k [] h = tt
unnumbered p k (m ∷ ms) h = (h.0, unnumbered p (suc k) ms h.1)

first_of_if : (p : Protocol) (b : Bool) (m : Message) (xs : List Message) → b ≡ true →
    Each (KnownKind p) (if b then m ∷ xs else xs) → KnownKind p m
first_of_if p true m xs e h = h.0
first_of_if p false m xs e h = absurd cc

rest_of_if : (p : Protocol) (b : Bool) (m : Message) (xs : List Message) → Each (KnownKind p) (if b then m ∷ xs else xs) →
    Each (KnownKind p) xs
rest_of_if p true m xs h = h.1
rest_of_if p false m xs h = h

-- each message is on the wire that it names
on_own_wire : (m : Message) → on_wire m.from m.to m.chan m ≡ true
on_own_wire m = rw (nat_eq_refl m.from, nat_eq_refl m.to, chan_eq_refl m.chan) refl

all_known : (p : Protocol) (ms : List Message) → ((f t : ℕ) (c : Chan) → Each (KnownKind p) (filter (on_wire f t c) ms)) →
    Each (KnownKind p) ms
all_known p [] h = tt
all_known p (m ∷ ms) h = (
  first_of_if p (on_wire m.from m.to m.chan m) m (filter (on_wire m.from m.to m.chan) ms) (on_own_wire m) (h m.from m.to m.chan),
  all_known p ms (λ f t c. rest_of_if p (on_wire f t c m) m (filter (on_wire f t c) ms) (h f t c)),
)

pub sent_known : (s : Setup) (g : World) (e : Entry) (g2 : World) → IsRunState s g2 → (r : Stepping s g e g2) →
    Each (KnownKind s.protocol) r.sends
sent_known s g e g2 after r =
    all_known s.protocol r.sends (λ f t c. unnumbered s.protocol (g.next f t c) (filter (on_wire f t c) r.sends)
    (behind (KnownKind s.protocol) (r.between f t c) (posted (g.next f t c) f t c r.sends)
    (subst (λ (ms : List Message). Each (KnownKind s.protocol) ms) (r.wires f t c)
    (on_way_known s f t (g2.wires f t c) (after.wires f t c)))))

module _ (scheme : Scheme) where
  pub on_channels : (p : Protocol) (i b stamp : ℕ) (os : List Out) → IsTreeOf scheme.wording p →
      Each (KnownKind p) (outgoing p i b stamp os) → Each (OnDeclaredChannel p) os
  on_channels p i b stamp [] is h = tt
  on_channels p i b stamp (o ∷ os) is h = (channel_declared scheme p o.kind is h.0, on_channels p i b stamp os is h.1)
