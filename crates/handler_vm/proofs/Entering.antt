-- What an accepted protocol and its code say of a run at its start.
use Rattle.std.proofs.Common.{◌≡◌, ℕ, zero, suc, ◌≤◌, Bool, true, false, List, [], ◌∷◌, ◌++◌, Option, Some, None, length}
use Rattle.std.proofs.Common.{replicate, ◌-◌, arith, length-append}
use Rattle.std.specs.Prelude.{cond, find, slice_get}
use Rattle.std.specs.List.{flat_map}
use Rattle.std.proofs.lemmas.List.{length-replicate}
use Rattle.tw_base.specs.Lists.{Each}
use Rattle.tw_base.specs.declared.message.Kind.{Kind}
use Rattle.tw_base.specs.declared.value.Value.{Value}
use Rattle.tw_base.specs.declared.value.Value.TheVariants.{Int}
use Rattle.teapot_tree.specs.declared.protocol.Handler.{Handler}
use Rattle.teapot_tree.specs.declared.protocol.MessageDecl.{MessageDecl}
use Rattle.teapot_tree.specs.declared.protocol.Protocol.{Protocol}
use Rattle.teapot_tree.specs.declared.protocol.State.{State}
use Rattle.teapot_tree.specs.Rules.{IsAccepted}
use Rattle.handler_code.specs.declared.code.Code.{Code}
use Rattle.handler_code.specs.declared.code.Door.{Door}
use Rattle.handler_code.specs.Doors.{door_for, door_or, filled, handlers_at, kind_of, locals_at, locals_of, same_kind}
use Rattle.handler_code.specs.Machine.{message_arity, state_arity}
use Rattle.handler_vm.specs.Inside.{HasFew}

-- ---- four arguments, eight infos, eight locals

few_in : (ms : List MessageDecl) → Each (λ m. length m.args ≤ 4) ms → (k : ℕ) → message_arity (slice_get ms k) ≤ 4
few_in [] few k = omega arith
few_in (m ∷ ms) few zero = few.0
few_in (m ∷ ms) few (suc k) = few_in ms few.1 k

few_of : (ss : List State) → Each (λ s. length s.params ≤ 4) ss → (k : ℕ) → state_arity (slice_get ss k) ≤ 4
few_of [] few k = omega arith
few_of (s ∷ ss) few zero = few.0
few_of (s ∷ ss) few (suc k) = few_of ss few.1 k

pub has_few : (p : Protocol) → IsAccepted p → HasFew p
has_few p a = record {
  messages = few_in p.messages a.tree.few_message_args;
  states = few_of p.states a.tree.few_params;
  infos = a.tree.few_infos;
}

abbrev Short : Handler → Type 0
Short h = length h.locals ≤ 8

each_left : (hs more : List Handler) → Each Short (hs ++ more) → Each Short hs
each_left [] more all = tt
each_left (h ∷ hs) more all = (all.0, each_left hs more all.1)

each_right : (hs more : List Handler) → Each Short (hs ++ more) → Each Short more
each_right [] more all = all
each_right (h ∷ hs) more all = each_right hs more all.1

handlers_short : (ss : List State) → Each Short (flat_map (λ (s : State). s.handlers) ss) → (k : ℕ) →
    Each Short (handlers_at (slice_get ss k))
handlers_short [] all k = tt
handlers_short (s ∷ ss) all zero = each_left s.handlers (flat_map (λ (t : State). t.handlers) ss) all
handlers_short (s ∷ ss) all (suc k) = handlers_short ss (each_right s.handlers (flat_map (λ (t : State). t.handlers) ss) all) k

picked_short : (b : Bool) (h : Handler) (o : Option Handler) → Short h → length (locals_at o) ≤ 8 →
    length (locals_at (cond b (Some h) o)) ≤ 8
picked_short true h o few more = few
picked_short false h o few more = more

found_short : (test : Handler → Bool) (hs : List Handler) → Each Short hs → length (locals_at (find test hs)) ≤ 8
found_short test [] all = omega arith
found_short test (h ∷ hs) all = picked_short (test h) h (find test hs) all.0 (found_short test hs all.1)

pub few_locals : (p : Protocol) (door : Door) → IsAccepted p → length (locals_of p door) ≤ 8
few_locals p door a = found_short (λ h. same_kind (kind_of p h.on) door.on) (handlers_at (slice_get p.states door.state))
    (handlers_short p.states a.tree.few_locals door.state)

-- ---- as many slots as are filled

pub wide_filled : (slots : ℕ) (xs : List Value) → slots ≤ length (filled slots xs)
wide_filled slots xs = omega (
  arith,
  length-append xs (replicate (slots - length xs) (Int 0)),
  length-replicate (slots - length xs) (Int 0),
)

-- ---- a door that is found is one of the code's

pub record IsAmong (doors : List Door) (d : Door) : Type 0 where
  pub place : ℕ
  pub is : slice_get doors place ≡ Some d

further : (x d : Door) (xs : List Door) → IsAmong xs d → IsAmong (x ∷ xs) d
further x d xs a = record { place = suc a.place; is = a.is }

picked : (b : Bool) (x d : Door) (xs : List Door) (o : Option Door) → (o ≡ Some d → IsAmong xs d) →
    cond b (Some x) o ≡ Some d → IsAmong (x ∷ xs) d
picked true x d xs o rest e = record { place = 0; is = e }
picked false x d xs o rest e = further x d xs (rest e)

found : (test : Door → Bool) (xs : List Door) (d : Door) → find test xs ≡ Some d → IsAmong xs d
found test [] d e = absurd (cc)
found test (x ∷ xs) d e = picked (test x) x d xs (find test xs) (found test xs d) e

either : (doors : List Door) (own other : Option Door) (d : Door) → (own ≡ Some d → IsAmong doors d) →
    (other ≡ Some d → IsAmong doors d) → door_or own other ≡ Some d → IsAmong doors d
either doors (Some x) other d first second e = first e
either doors None other d first second e = second e

pub door_among : (code : Code) (state : ℕ) (kind : Kind) (d : Door) → door_for code state kind ≡ Some d → IsAmong code.doors d
door_among code state kind d e =
    either code.doors _ _ d (found _ code.doors d) (found _ code.doors d) e
