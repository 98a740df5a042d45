-- One word of the walk of `clap`: its faults, and where the walk stands behind it.
use Rattle.std.proofs.Common.{◌≡◌, ℕ, Bool, true, false, length, List, [], ◌∷◌, Option, Some, None, if◌then◌else◌, refl, sym}
use Rattle.std.proofs.Common.{ap, ap₂, ◌∙◌, subst, codes}
use Rattle.std.specs.Prelude.{slice_get}
use Rattle.std.specs.Option.{option_map_or}
use Rattle.std.specs.Str.{bytes_eq, chars}
use Rattle.clap.specs.Faults.{flag_word_fault, bundle_fault, bundle_step_fault, flags_fault, long_fault, settle_fault}
use Rattle.clap.specs.Faults.{step_fault, turn_fault}
use Rattle.clap.specs.Kinds.{Kinds, or_else}
use Rattle.clap.specs.Lexer.{long_of, short_of}
use Rattle.clap.specs.Walk.{Held, Row, Rule, Step, Text, Waiting, Walk, after_flag, after_step, arg_by_long, bundle_met}
use Rattle.clap.specs.Walk.{bundle_step, idle, long_met, long_or_other, option, plain_word, short_or_plain, trailing, walked}
use Rattle.clap.specs.Walk as walks
use Rattle.tempest_words.proofs.Dashed.{IsDashed, short-dashed}
use Rattle.tempest_words.proofs.Rules.{batch_rule, flag_rule, rules, shape}
use Rattle.tempest_words.proofs.Settling.{IsFault, Pending, held, waiting_by, walk_at}

abbrev pub dashes : Text
dashes = 45 ∷ 45 ∷ []

-- ---- a word by what it looks like

abbrev met : Waiting → ℕ → Text → Held → Bool → Option (Text × Option Text) → Held × Step
met waiting position x k ends long = if ends then (k, trailing position) else long_or_other rules waiting x long k

abbrev turn : Waiting → ℕ → Text → Held → Bool → Option (Text × Option Text) → Kinds
turn waiting position x k ends long =
    or_else (if ends then [] else flag_word_fault rules false long x k)
    (step_fault shape position (met waiting position x k ends long).0 (met waiting position x k ends long).1)

abbrev behind : Waiting → ℕ → Text → Held → Bool → Option (Text × Option Text) → Walk
behind waiting position x k ends long =
    after_step rules x (walk_at k waiting position false) (met waiting position x k ends long).0
    (met waiting position x k ends long).1

turn-is : (waits : Bool) (position : ℕ) (x : Text) (k : Held)
    → turn_fault shape [] (walk_at k (waiting_by waits) position false) x ≡ turn (waiting_by waits) position x k
    (bytes_eq x dashes) (long_of x)
turn-is true position x k = refl
turn-is false position x k = refl

behind-is : (waits : Bool) (position : ℕ) (x : Text) (k : Held)
    → walked rules [] (walk_at k (waiting_by waits) position false) x ≡ behind (waiting_by waits) position x k
    (bytes_eq x dashes) (long_of x)
unfolding walked
behind-is true position x k = refl
behind-is false position x k = refl

-- a word makes no fault, and leaves the walk so
pub record Goes (w : Walk) (x : Text) (on : Walk) : Type 0 where
  pub fault : turn_fault shape [] w x ≡ []
  pub walks : walked rules [] w x ≡ on

-- ---- `--`

pub dashes_go : (waits : Bool) (position : ℕ) (k : Held)
    → Goes (walk_at k (waiting_by waits) position false) dashes (walk_at k (waiting_by waits) position true)
dashes_go waits position k = record { fault = turn-is waits position dashes k; walks = behind-is waits position dashes k }

-- ---- a long name

abbrev turn_long : Waiting → ℕ → Text → Held → Option Text → Option Rule → Kinds
turn_long waiting position x k v found =
    or_else (long_fault rules false found v k)
    (step_fault shape position (after_flag rules waiting x (long_met rules found v k).0 (long_met rules found v k).1).0
    (after_flag rules waiting x (long_met rules found v k).0 (long_met rules found v k).1).1)

abbrev behind_long : Waiting → ℕ → Text → Held → Option Text → Option Rule → Walk
behind_long waiting position x k v found =
    after_step rules x (walk_at k waiting position false)
    (after_flag rules waiting x (long_met rules found v k).0 (long_met rules found v k).1).0
    (after_flag rules waiting x (long_met rules found v k).0 (long_met rules found v k).1).1

-- a word that has a long name, of this argument if of any
module _ (x name : Text) (v : Option Text) (found : Option Rule) (plain : bytes_eq x dashes ≡ false)
    (long : long_of x ≡ Some (name, v)) (finds : arg_by_long rules name ≡ found) where
  pub turn_long-is : (waits : Bool) (position : ℕ) (k : Held)
      → turn_fault shape [] (walk_at k (waiting_by waits) position false) x ≡ turn_long (waiting_by waits) position x k v found
  turn_long-is waits position k = turn-is waits position x k ∙ ap₂ (turn (waiting_by waits) position x k) plain long
      ∙ ap (turn_long (waiting_by waits) position x k v) finds

  pub behind_long-is : (waits : Bool) (position : ℕ) (k : Held)
      → walked rules [] (walk_at k (waiting_by waits) position false) x ≡ behind_long (waiting_by waits) position x k v found
  behind_long-is waits position k =
      behind-is waits position x k ∙ ap₂ (behind (waiting_by waits) position x k) plain long
      ∙ ap (behind_long (waiting_by waits) position x k v) finds

fault_front : (a b : Kinds) → IsFault a → IsFault (or_else a b)
fault_front [] b is = absurd is
fault_front (k ∷ ks) b is = tt

fault_back : (a b : Kinds) → IsFault b → IsFault (or_else a b)
fault_back [] b is = is
fault_back (k ∷ ks) b is = tt

pub unknown_is_refused : (x name : Text) (v : Option Text) → bytes_eq x dashes ≡ false → long_of x ≡ Some (name, v)
    → arg_by_long rules name ≡ None
    → (waits : Bool) (position : ℕ) (k : Held) → IsFault (turn_fault shape [] (walk_at k (waiting_by waits) position false) x)
unknown_is_refused x name v plain long finds waits position k = subst IsFault
    (sym (turn_long-is x name v None plain long finds waits position k)) tt

pub flag_value_is_refused : (x name v id : Text) → bytes_eq x dashes ≡ false → long_of x ≡ Some (name, Some v)
    → arg_by_long rules name ≡ Some (flag_rule id)
    → (waits : Bool) (position : ℕ) (k : Held) → IsFault (turn_fault shape [] (walk_at k (waiting_by waits) position false) x)
flag_value_is_refused x name v id plain long finds waits position k =
    subst IsFault (sym (turn_long-is x name (Some v) (Some (flag_rule id)) plain long finds waits position k)) tt

-- what is pending is at fault: then so is each argument of a long name
long_settles : (name : Text) (v : Option Text) (id : Text) (k : Held) → IsFault (settle_fault rules false k)
    → IsFault (long_fault rules false (Some (flag_rule id)) v k)
long_settles name (Some v) id k is = tt
long_settles name None id k is = fault_front (settle_fault rules false k) _ is

batch_settles : (v : Option Text) (k : Held) → IsFault (settle_fault rules false k)
    → IsFault (long_fault rules false (Some batch_rule) v k)
batch_settles (Some v) k is = fault_front (settle_fault rules false k) _ is
batch_settles None k is = is

pub flag_is_late : (x name : Text) (v : Option Text) (id : Text) → bytes_eq x dashes ≡ false → long_of x ≡ Some (name, v)
    → arg_by_long rules name ≡ Some (flag_rule id)
    → (waits : Bool) (position : ℕ) (k : Held) → IsFault (settle_fault rules false k)
    → IsFault (turn_fault shape [] (walk_at k (waiting_by waits) position false) x)
flag_is_late x name v id plain long finds waits position k is =
    subst IsFault (sym (turn_long-is x name v (Some (flag_rule id)) plain long finds waits position k))
    (fault_front (long_fault rules false (Some (flag_rule id)) v k) _ (long_settles name v id k is))

pub batch_is_late : (x name : Text) (v : Option Text) → bytes_eq x dashes ≡ false → long_of x ≡ Some (name, v)
    → arg_by_long rules name ≡ Some batch_rule
    → (waits : Bool) (position : ℕ) (k : Held) → IsFault (settle_fault rules false k)
    → IsFault (turn_fault shape [] (walk_at k (waiting_by waits) position false) x)
batch_is_late x name v plain long finds waits position k is =
    subst IsFault (sym (turn_long-is x name v (Some batch_rule) plain long finds waits position k))
    (fault_front (long_fault rules false (Some batch_rule) v k) _ (batch_settles v k is))

-- ---- a word that is no long name

abbrev short_turn : Waiting → ℕ → Text → Held → Option Text → Kinds
short_turn waiting position x k short =
    or_else (option_map_or (λ flags. bundle_fault rules false flags k) short [])
    (step_fault shape position (short_or_plain rules waiting x short k).0 (short_or_plain rules waiting x short k).1)

abbrev short_behind : Waiting → ℕ → Text → Held → Option Text → Walk
short_behind waiting position x k short =
    after_step rules x (walk_at k waiting position false) (short_or_plain rules waiting x short k).0
    (short_or_plain rules waiting x short k).1

abbrev plain_turn : Waiting → ℕ → Text → Held → Kinds
plain_turn waiting position x k = step_fault shape position (plain_word rules waiting x k).0 (plain_word rules waiting x k).1

abbrev plain_behind : Waiting → ℕ → Text → Held → Walk
plain_behind waiting position x k =
    after_step rules x (walk_at k waiting position false) (plain_word rules waiting x k).0 (plain_word rules waiting x k).1

-- the word is read as no option
pub record IsPlain (x : Text) : Type 0 where
  pub fault : (waits : Bool) (position : ℕ) (rows : List Row) (pending : Pending)
      → turn_fault shape [] (walk_at (held rows pending) (waiting_by waits) position false) x ≡ plain_turn
      (waiting_by waits) position x (held rows pending)
  pub walks : (waits : Bool) (position : ℕ) (rows : List Row) (pending : Pending)
      → walked rules [] (walk_at (held rows pending) (waiting_by waits) position false) x ≡ plain_behind
      (waiting_by waits) position x (held rows pending)

pub data Looks (x : Text) : Type 0 where
  plain : IsPlain x → Looks x
  short : IsDashed x → ((waits : Bool) (position : ℕ) (rows : List Row) (pending : Pending)
      → IsFault (turn_fault shape [] (walk_at (held rows pending) (waiting_by waits) position false) x)) → Looks x
  long : (name : Text) (v : Option Text) → long_of x ≡ Some (name, v) → Looks x

module _ (x : Text) (ends : bytes_eq x dashes ≡ false) (no_long : long_of x ≡ None) where
  turn_short-is : (shown : Option Text) → short_of x ≡ shown → (waits : Bool) (position : ℕ) (k : Held)
      → turn_fault shape [] (walk_at k (waiting_by waits) position false) x ≡ short_turn (waiting_by waits) position x k shown
  turn_short-is shown is waits position k =
      turn-is waits position x k ∙ ap₂ (turn (waiting_by waits) position x k) ends no_long
      ∙ ap (short_turn (waiting_by waits) position x k) is

  behind_short-is : (shown : Option Text) → short_of x ≡ shown → (waits : Bool) (position : ℕ) (k : Held)
      → walked rules [] (walk_at k (waiting_by waits) position false) x ≡ short_behind (waiting_by waits) position x k shown
  behind_short-is shown is waits position k =
      behind-is waits position x k ∙ ap₂ (behind (waiting_by waits) position x k) ends no_long
      ∙ ap (short_behind (waiting_by waits) position x k) is

  no_short : short_of x ≡ None → IsPlain x
  no_short is = record {
    fault = λ waits position rows pending. turn_short-is None is waits position (held rows pending);
    walks = λ waits position rows pending. behind_short-is None is waits position (held rows pending);
  }

  nil_turn : (waits : Bool) (position : ℕ) (rows : List Row) (pending : Pending)
      → short_turn (waiting_by waits) position x (held rows pending) (Some []) ≡ plain_turn (waiting_by waits) position x
      (held rows pending)
  unfolding flags_fault bundle_met
  nil_turn waits position rows pending = refl

  nil_behind : (waits : Bool) (position : ℕ) (rows : List Row) (pending : Pending)
      → short_behind (waiting_by waits) position x (held rows pending) (Some []) ≡ plain_behind
      (waiting_by waits) position x (held rows pending)
  unfolding bundle_met
  nil_behind waits position rows pending = refl

  nil_short : short_of x ≡ Some [] → IsPlain x
  nil_short is = record {
    fault = λ waits position rows pending. turn_short-is (Some []) is waits position (held rows pending)
        ∙ nil_turn waits position rows pending;
    walks = λ waits position rows pending. behind_short-is (Some []) is waits position (held rows pending)
        ∙ nil_behind waits position rows pending;
  }

  module _ (y : ℕ) (ys : Text) where
    abbrev first_turn : Waiting → ℕ → Held → Option ℕ → Kinds
    first_turn waiting position k first =
        or_else (bundle_step_fault rules false first (y ∷ ys) 0 k (flags_fault rules false (length ys)))
        (step_fault shape position
        (after_flag rules waiting x (bundle_step rules first (y ∷ ys) 0 walks.plain k (bundle_met rules (length ys))).0
        (bundle_step rules first (y ∷ ys) 0 walks.plain k (bundle_met rules (length ys))).1).0
        (after_flag rules waiting x (bundle_step rules first (y ∷ ys) 0 walks.plain k (bundle_met rules (length ys))).0
        (bundle_step rules first (y ∷ ys) 0 walks.plain k (bundle_met rules (length ys))).1).1)

    abbrev first_behind : Waiting → ℕ → Held → Option ℕ → Walk
    first_behind waiting position k first =
        after_step rules x (walk_at k waiting position false)
        (after_flag rules waiting x (bundle_step rules first (y ∷ ys) 0 walks.plain k (bundle_met rules (length ys))).0
        (bundle_step rules first (y ∷ ys) 0 walks.plain k (bundle_met rules (length ys))).1).0
        (after_flag rules waiting x (bundle_step rules first (y ∷ ys) 0 walks.plain k (bundle_met rules (length ys))).0
        (bundle_step rules first (y ∷ ys) 0 walks.plain k (bundle_met rules (length ys))).1).1

    first_turn-is : (waits : Bool) (position : ℕ) (rows : List Row) (pending : Pending)
        → short_turn (waiting_by waits) position x (held rows pending) (Some (y ∷ ys)) ≡ first_turn
        (waiting_by waits) position (held rows pending) (slice_get (chars (y ∷ ys)) 0)
    unfolding flags_fault bundle_met
    first_turn-is waits position rows pending = refl

    first_behind-is : (waits : Bool) (position : ℕ) (rows : List Row) (pending : Pending)
        → short_behind (waiting_by waits) position x (held rows pending) (Some (y ∷ ys)) ≡ first_behind
        (waiting_by waits) position (held rows pending) (slice_get (chars (y ∷ ys)) 0)
    unfolding bundle_met
    first_behind-is waits position rows pending = refl

    no_char : short_of x ≡ Some (y ∷ ys) → slice_get (chars (y ∷ ys)) 0 ≡ None → IsPlain x
    no_char is none = record {
      fault = λ waits position rows pending.
          turn_short-is (Some (y ∷ ys)) is waits position (held rows pending) ∙ first_turn-is waits position rows pending
          ∙ ap (first_turn (waiting_by waits) position (held rows pending)) none;
      walks = λ waits position rows pending.
          behind_short-is (Some (y ∷ ys)) is waits position (held rows pending) ∙ first_behind-is waits position rows pending
          ∙ ap (first_behind (waiting_by waits) position (held rows pending)) none;
    }

    one_char : (c : ℕ) → short_of x ≡ Some (y ∷ ys) → slice_get (chars (y ∷ ys)) 0 ≡ Some c
        → (waits : Bool) (position : ℕ) (rows : List Row) (pending : Pending)
        → IsFault (turn_fault shape [] (walk_at (held rows pending) (waiting_by waits) position false) x)
    one_char c is some waits position rows pending =
        subst IsFault
        (sym (turn_short-is (Some (y ∷ ys)) is waits position (held rows pending) ∙ first_turn-is waits position rows pending
        ∙ ap (first_turn (waiting_by waits) position (held rows pending)) some)) tt

    by_char : (first : Option ℕ) → short_of x ≡ Some (y ∷ ys) → slice_get (chars (y ∷ ys)) 0 ≡ first → Looks x
    by_char None is e = plain (no_char is e)
    by_char (Some c) is e = short (short-dashed x (y ∷ ys) is) (one_char c is e)

  by_short : (shown : Option Text) → short_of x ≡ shown → Looks x
  by_short None is = plain (no_short is)
  by_short (Some []) is = plain (nil_short is)
  by_short (Some (y ∷ ys)) is = by_char y ys (slice_get (chars (y ∷ ys)) 0) is refl

by_long : (x : Text) → bytes_eq x dashes ≡ false → (found : Option (Text × Option Text)) → long_of x ≡ found → Looks x
by_long x ends None is = by_short x ends is (short_of x) refl
by_long x ends (Some p) is = long p.0 p.1 is

-- how a word looks that is not `--`
pub looks : (x : Text) → bytes_eq x dashes ≡ false → Looks x
looks x ends = by_long x ends (long_of x) refl
