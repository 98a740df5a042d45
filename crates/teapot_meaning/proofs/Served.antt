-- What an accepted protocol has.
use Rattle.std.proofs.Common.{◌≡◌, ℕ, zero, suc, ◌<◌, Bool, true, false, not, List, [], ◌∷◌, length, get_or, refl, inl, inr}
use Rattle.std.proofs.Common.{arith}
use Rattle.std.specs.Prelude.{◌&&◌, All, Some, find, if◌then◌else◌, is_some}
use Rattle.std.specs.List.{list_all}
use Rattle.teapot_tree.specs.declared.protocol.Handler.{Handler}
use Rattle.teapot_tree.specs.declared.protocol.Protocol.{Protocol}
use Rattle.teapot_tree.specs.declared.protocol.State.{State}
use Rattle.teapot_tree.specs.declared.rule.Rule.TheVariants.{NoDefault}
use Rattle.teapot_tree.specs.Rules.{Any, IsAccepted, has_default, is_default}
use Rattle.teapot_meaning.specs.Handlers.{HasDefault, IsServed, default_of}
use Rattle.teapot_meaning.proofs.Found.{both, first_of_both, second_of_both}

found : (d : Handler → Bool) (hs : List Handler) → not (list_all (λ h. not (d h)) hs) ≡ true → is_some (find d hs) ≡ true
found d [] e = e
found d (h ∷ hs) e = by_test (d h) e (found d hs)
  where
    by_test : (b : Bool) → not (not b && list_all (λ x. not (d x)) hs) ≡ true →
        (not (list_all (λ x. not (d x)) hs) ≡ true → is_some (find d hs) ≡ true) →
        is_some (if b then Some h else find d hs) ≡ true
    by_test true e f = refl
    by_test false e f = f e

by_rule : (s : State) (b : Bool) → has_default s ≡ b → (has_default s ≡ false → ⊥) → HasDefault s
by_rule s true e free = found (λ h. is_default h.on) s.handlers e
by_rule s false e free = absurd (free e)

each_has : (ss : List State) → ((line : ℕ) → Any (λ (s : State). (s.line ≡ line) × (has_default s ≡ false)) ss → ⊥) →
    (k : ℕ) (d : State) → k < length ss → HasDefault (get_or ss k d)
each_has [] free k d lt = absurd (omega arith)
each_has (s ∷ ss) free zero d lt = by_rule s (has_default s) refl (λ e. free s.line (inl (refl, e)))
each_has (s ∷ ss) free (suc k) d lt = each_has ss (λ line a. free line (inr a)) k d (omega arith)

pub served : (p : Protocol) → IsAccepted p → IsServed p
served p a = record {
  few_messages = a.tree.few_messages;
  few_states = a.tree.few_states;
  defaults = each_has p.states (λ line b. a.keeps line NoDefault b);
}

-- ---- by a test

abbrev pub have_defaults : List State → Bool
have_defaults ss = list_all (λ s. is_some (default_of s)) ss

pub defaults_from : (ss : List State) → have_defaults ss ≡ true → All HasDefault ss
defaults_from [] e k d lt = absurd (omega arith)
defaults_from (s ∷ ss) e zero d lt = first_of_both (is_some (default_of s)) _ e
defaults_from (s ∷ ss) e (suc k) d lt = defaults_from ss (second_of_both (is_some (default_of s)) _ e) k d (omega arith)

pub defaults_have : (ss : List State) → All HasDefault ss → have_defaults ss ≡ true
defaults_have [] a = refl
defaults_have (s ∷ ss) a = both _ _ (a 0 s (omega arith)) (defaults_have ss (λ k d lt. a (suc k) d (omega arith)))
