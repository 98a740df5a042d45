-- Compiled code names what there is, its jumps go forward, and its loops nest.
use Rattle.std.proofs.Common.{◌≡◌, ℕ, ◌+◌, ◌<◌, ◌≤◌, ◌⊎◌, Bool, true, false, List, length, Option, Some, None, refl, sym, subst}
use Rattle.std.proofs.Common.{arith, inl, inr}
use Rattle.std.specs.Prelude.{cond, codes, is_some, nat_lt, not, position}
use Rattle.std.specs.List.{prefix_len}
use Rattle.std.specs.Str.{bytes_eq}
use Rattle.std.proofs.lemmas.Bool.{and_parts}
use Rattle.std.proofs.lemmas.Bool.Decides.{Decides-ltb}
use Rattle.std.proofs.lemmas.Option.{slice_get_within}
use Rattle.tw_base.specs.declared.name.Name.{Name}
use Rattle.teapot_tree.specs.declared.expr.Expr.{Expr, out-Expr}
use Rattle.teapot_tree.specs.declared.expr.Expr.TheOpen.{Expr-F}
use Rattle.teapot_tree.specs.declared.protocol.Handler.{Handler}
use Rattle.teapot_tree.specs.declared.protocol.Protocol.{Protocol}
use Rattle.teapot_tree.specs.declared.protocol.State.{State}
use Rattle.teapot_tree.specs.Bodies.{Simple, assign, send, send_all, set_tag, set_state, suspend, resume, install, enqueue}
use Rattle.teapot_tree.specs.Bodies.{wake_up, error}
use Rattle.teapot_tree.specs.Paths.{does}
use Rattle.teapot_tree.specs.Scopes.{message_number, message_of, state_number, state_of}
use Rattle.teapot_meaning.specs.Fits.{names_in}
use Rattle.teapot_meaning.specs.Names.{declared, info_number}
use Rattle.teapot_meaning.proofs.Found.{place_found}
use Rattle.teapot_meaning.proofs.Sound.{Keeps, scope_of}
use Rattle.handler_code.specs.declared.code.OpCode.{OpCode}
use Rattle.handler_code.specs.declared.code.OpCode.TheVariants as op
use Rattle.handler_code.specs.Live.{HasOp}
use Rattle.compiled_meaning.specs.Follows.{Evaluates, EvaluatesAll, atom_op, get_op, put_op, slot_of}
use Rattle.compiled_meaning.specs.Follows as follows
use Rattle.compiled_meaning.proofs.Accepted.{some_of}
use Rattle.compiled_rules.proofs.Spans.{Over, all_rise, before_or, over_joined, over_none, over_one, rises}
use Rattle.compiled_rules.proofs.Walk.{Closed, last_op}

-- a place is one of the list's
pub place_below : {X : Type 0} (f : X → Bool) (xs : List X) (k : ℕ) → position f xs ≡ Some k → k < length xs
place_below f xs k e = by_test (nat_lt n (length xs)) refl e
  where
    n : ℕ
    n = prefix_len (λ y. not (f y)) xs

    by_test : (b : Bool) → nat_lt n (length xs) ≡ b → cond b (Some n) None ≡ Some k → k < length xs
    by_test true h g = let same : n ≡ k = cc in let lt : n < length xs =
        (Decides-ltb n (length xs)).0 h in subst (λ z. z < length xs) same lt
    by_test false h g = cc

-- ---- ops that do not lead away and begin no loop

module _ (p : Protocol) (names : List Name) where
  -- what it names is there
  abbrev pub Plain : OpCode → Type 0
  Plain (op.Get s) = s < length names
  Plain (op.GetInfo s) = s < length p.infos
  Plain (op.Put s) = s < length names
  Plain (op.PutInfo s) = s < length p.infos
  Plain (op.Send m) = m < length p.messages
  Plain (op.SendAll m) = m < length p.messages
  Plain (op.Goto s) = s < length p.states
  Plain (op.Suspend s r) = s < length p.states
  Plain (op.Jump to) = ⊥
  Plain (op.JumpIfNot to) = ⊥
  Plain (op.JumpBack to) = ⊥
  Plain (op.EachNext s h to) = ⊥
  Plain op.Done = ⊥
  Plain _ = Unit {0}

  by_some : (o o' : OpCode) → Some o ≡ Some o' → Plain o → Plain o'
  by_some o o' e x = let same : o ≡ o' = cc in subst Plain same x

  get_plain : (i j : Option ℕ) → ((k : ℕ) → i ≡ Some k → k < length names) → ((k : ℕ) → j ≡ Some k → k < length p.infos) →
      Plain (get_op i j)
  get_plain (Some k) j f g = f k refl
  get_plain None (Some k) f g = g k refl
  get_plain None None f g = tt

  name_plain : (n : Name) → Plain (get_op (slot_of names n) (info_number p n))
  name_plain n =
      get_plain (slot_of names n) (info_number p n) (λ k e. place_below (λ m. bytes_eq m n) names k e)
      (λ k e. place_below (λ i. bytes_eq i.name n) p.infos k e)

  put_plain : (i j : Option ℕ) (o : OpCode) → ((k : ℕ) → i ≡ Some k → k < length names) →
      ((k : ℕ) → j ≡ Some k → k < length p.infos) → put_op i j ≡ Some o → Plain o
  put_plain (Some k) j o f g e = by_some (op.Put k) o e (f k refl)
  put_plain None (Some k) o f g e = by_some (op.PutInfo k) o e (g k refl)
  put_plain None None o f g e = cc

  atom_plain : (l : Expr-F Expr) (o : OpCode) → atom_op p names l ≡ Some o → Plain o
  atom_plain (Expr-F.Number n) o e = by_some _ o e tt
  atom_plain Expr-F.True o e = by_some _ o e tt
  atom_plain Expr-F.False o e = by_some _ o e tt
  atom_plain Expr-F.Empty o e = by_some _ o e tt
  atom_plain Expr-F.Src o e = by_some _ o e (name_plain (codes "src"))
  atom_plain Expr-F.SelfNode o e = by_some _ o e tt
  atom_plain Expr-F.Home o e = by_some _ o e tt
  atom_plain (Expr-F.Var n) o e = by_some _ o e (name_plain n)
  atom_plain (Expr-F.One a) o e = cc
  atom_plain (Expr-F.Not a) o e = cc
  atom_plain (Expr-F.Count a) o e = cc
  atom_plain (Expr-F.Two t a b) o e = cc

  module _ (ops : List OpCode) where
    abbrev pub IsPlain : ℕ → OpCode → Type 0
    IsPlain a o = Plain o

    pub expr_plain : {at after : ℕ} {e : Expr} → Evaluates p names ops at e after → Over ops IsPlain at after
    expr_plain (follows.atom {at = at} {e = e} {o = o} d has) = over_one ops IsPlain at o has (atom_plain (out-Expr e) o d)
    expr_plain (follows.single {at = at} {after = after} d x has) =
        over_joined ops IsPlain at after (after + 1) (expr_plain x) (over_one ops IsPlain after op.One has tt)
    expr_plain (follows.negation {at = at} {after = after} d x has) =
        over_joined ops IsPlain at after (after + 1) (expr_plain x) (over_one ops IsPlain after op.Not has tt)
    expr_plain (follows.counting {at = at} {after = after} d x has) =
        over_joined ops IsPlain at after (after + 1) (expr_plain x) (over_one ops IsPlain after op.Count has tt)
    expr_plain (follows.pair {at = at} {middle = middle} {after = after} {o = o} d x y has) =
        over_joined ops IsPlain at middle (after + 1) (expr_plain x)
        (over_joined ops IsPlain middle after (after + 1) (expr_plain y) (over_one ops IsPlain after (op.Two o) has tt))

    pub all_plain : {at after : ℕ} {es : List Expr} → EvaluatesAll p names ops at es after → Over ops IsPlain at after
    all_plain (follows.none {at = at}) = over_none ops IsPlain at
    all_plain (follows.more {at = at} {middle = middle} {after = after} x xs) =
        over_joined ops IsPlain at middle after (expr_plain x) (all_plain xs)

message_there : (p : Protocol) (n : Name) → is_some (message_of p n) ≡ true → declared (message_number p n) < length p.messages
message_there p n e =
    let m = some_of (message_of p n) e in
    let k = place_found (λ d. bytes_eq d.name n) p.messages m.0 m.1 in
    subst (λ o. declared o < length p.messages) (sym k.1) (slice_get_within p.messages k.0 m.0 k.2)

state_there : (p : Protocol) (n : Name) → is_some (state_of p n) ≡ true → declared (state_number p n) < length p.states
state_there p n e =
    let m = some_of (state_of p n) e in
    let k = place_found (λ d. bytes_eq d.name n) p.states m.0 m.1 in
    subst (λ o. declared o < length p.states) (sym k.1) (slice_get_within p.states k.0 m.0 k.2)

last_plain : (p : Protocol) (t : State) (h : Handler) (a : Simple) (o : OpCode) (r : ℕ) → Keeps (scope_of p t h) (does a) →
    last_op p (names_in t h) a r ≡ Some o → Plain p (names_in t h) o
last_plain p t h (assign n e) o r k f =
    put_plain p (names_in t h) (slot_of (names_in t h) n) (info_number p n) o
    (λ i q. place_below (λ m. bytes_eq m n) (names_in t h) i q) (λ i q. place_below (λ d. bytes_eq d.name n) p.infos i q) f
last_plain p t h (send e n xs) o r k f = by_some p (names_in t h) _ o f (message_there p n k.declared)
last_plain p t h (send_all e n xs) o r k f = by_some p (names_in t h) _ o f (message_there p n k.declared)
last_plain p t h (set_tag g) o r k f = by_some p (names_in t h) _ o f tt
last_plain p t h (set_state n xs) o r k f = by_some p (names_in t h) _ o f (state_there p n k.declared)
last_plain p t h (suspend l n xs q) o r k f = by_some p (names_in t h) _ o f
    (state_there p n (and_parts (is_some (state_of p n)) _ k.declared).0)
last_plain p t h (resume n) o r k f = by_some p (names_in t h) _ o f tt
last_plain p t h install o r k f = by_some p (names_in t h) _ o f tt
last_plain p t h enqueue o r k f = by_some p (names_in t h) _ o f tt
last_plain p t h wake_up o r k f = by_some p (names_in t h) _ o f tt
last_plain p t h (error n) o r k f = by_some p (names_in t h) _ o f tt

-- ---- jumps and loops

module _ (p : Protocol) (names : List Name) (ops : List OpCode) where
  pub record Ahead (hi a to : ℕ) : Type 0 where
    pub later : a < to
    pub within : to ≤ hi

  pub record Back (lo a to : ℕ) : Type 0 where
    pub within : lo ≤ to
    pub earlier : to < a
    pub variable : ℕ
    pub set : ℕ
    pub loop : HasOp ops to (op.EachNext variable set (a + 1))

  -- a loop of code from one place up to another, whose loops have the slots from one up to another
  pub record Whole (lo hi k i a s h to : ℕ) : Type 0 where
    pub variable : s < length names
    pub set_from : k ≤ h
    pub set_to : h < i
    pub begins : lo < a
    pub within : to ≤ hi
    pub last : ℕ
    pub after : a < last
    pub ends : last + 1 ≡ to
    pub closed : HasOp ops last (op.JumpBack a)
    pub before : ℕ
    pub follows : before + 1 ≡ a
    pub filled : HasOp ops before (op.Put h)

  -- what an op names is there
  abbrev pub Fits : ℕ → ℕ → ℕ → ℕ → ℕ → OpCode → Type 0
  Fits lo hi k i a (op.Get s) = s < length names
  Fits lo hi k i a (op.GetInfo s) = s < length p.infos
  Fits lo hi k i a (op.Put s) = (s < length names) ⊎ ((k ≤ s) × (s < i))
  Fits lo hi k i a (op.PutInfo s) = s < length p.infos
  Fits lo hi k i a (op.Send m) = m < length p.messages
  Fits lo hi k i a (op.SendAll m) = m < length p.messages
  Fits lo hi k i a (op.Goto s) = s < length p.states
  Fits lo hi k i a (op.Suspend s r) = s < length p.states
  Fits lo hi k i a (op.Jump to) = Ahead hi a to
  Fits lo hi k i a (op.JumpIfNot to) = Ahead hi a to
  Fits lo hi k i a (op.JumpBack to) = Back lo a to
  Fits lo hi k i a (op.EachNext s h to) = Whole lo hi k i a s h to
  Fits lo hi k i a op.Done = ⊥
  Fits lo hi k i a _ = Unit {0}

  -- an op at one place and a loop at another: no jump enters it, what begins in it ends in it, and its slot is its own
  abbrev pub Outside : ℕ → OpCode → ℕ → ℕ → ℕ → Type 0
  Outside a (op.Jump x) b h to = b ≤ x → x < to → (b ≤ a) × (a < to)
  Outside a (op.JumpIfNot x) b h to = b ≤ x → x < to → (b ≤ a) × (a < to)
  Outside a (op.EachNext s x y) b h to = (b < a → a < to → y ≤ to) × (x ≡ h → a ≡ b)
  Outside a (op.Put x) b h to = x ≡ h → a + 1 ≡ b
  Outside a _ b h to = Unit {0}

  abbrev pub Apart : ℕ → OpCode → ℕ → OpCode → Type 0
  Apart a o b (op.EachNext s h to) = Outside a o b h to
  Apart a o b _ = Unit {0}

  pub record Neat (lo hi k i : ℕ) : Type 0 where
    pub up : lo ≤ hi
    pub grow : k ≤ i
    pub fits : Over ops (Fits lo hi k i) lo hi
    pub apart : (a b : ℕ) (x y : OpCode) → lo ≤ a → a < hi → lo ≤ b → b < hi → HasOp ops a x → HasOp ops b y → Apart a x b y

  widen : (lo hi k i lo' hi' k' i' a : ℕ) (o : OpCode) → lo' ≤ lo → hi ≤ hi' → k' ≤ k → i ≤ i' → Fits lo hi k i a o →
      Fits lo' hi' k' i' a o
  widen lo hi k i lo' hi' k' i' a (op.Put s) l u m n (inl e) = inl e
  widen lo hi k i lo' hi' k' i' a (op.Put s) l u m n (inr e) = let f = e.0 in let g = e.1 in inr (omega arith, omega arith)
  widen lo hi k i lo' hi' k' i' a (op.Jump to) l u m n e = let f = e.within in record { later = e.later; within = omega arith }
  widen lo hi k i lo' hi' k' i' a (op.JumpIfNot to) l u m n e = let f =
      e.within in record { later = e.later; within = omega arith }
  widen lo hi k i lo' hi' k' i' a (op.JumpBack to) l u m n e =
      let f = e.within in record { within = omega arith; earlier = e.earlier; variable = e.variable; set = e.set; loop = e.loop }
  widen lo hi k i lo' hi' k' i' a (op.EachNext s h to) l u m n e =
      let from = e.set_from in
      let upto = e.set_to in
      let begins = e.begins in
      let within = e.within in
      record {
        variable = e.variable;
        set_from = omega arith;
        set_to = omega arith;
        begins = omega arith;
        within = omega arith;
        last = e.last;
        after = e.after;
        ends = e.ends;
        closed = e.closed;
        before = e.before;
        follows = e.follows;
        filled = e.filled;
      }
  widen lo hi k i lo' hi' k' i' a _ l u m n e = e

  pub fits_wider : (lo hi k i lo' hi' k' i' from upto : ℕ) → lo' ≤ lo → hi ≤ hi' → k' ≤ k → i ≤ i' →
      Over ops (Fits lo hi k i) from upto → Over ops (Fits lo' hi' k' i') from upto
  fits_wider lo hi k i lo' hi' k' i' from upto l u m n f a o b c has = widen lo hi k i lo' hi' k' i' a o l u m n (f a o b c has)

  -- ---- plain code

  plain_fits : (lo hi k i a : ℕ) (o : OpCode) → Plain p names o → Fits lo hi k i a o
  plain_fits lo hi k i a (op.Put s) e = inl e
  plain_fits lo hi k i a (op.Jump to) e = absurd e
  plain_fits lo hi k i a (op.JumpIfNot to) e = absurd e
  plain_fits lo hi k i a (op.JumpBack to) e = absurd e
  plain_fits lo hi k i a (op.EachNext s h to) e = absurd e
  plain_fits lo hi k i a op.Done e = absurd e
  plain_fits lo hi k i a _ e = e

  plain_apart : (a b : ℕ) (x y : OpCode) → Plain p names y → Apart a x b y
  plain_apart a b x (op.EachNext s h to) e = absurd e
  plain_apart a b x _ e = tt

  plain_neat : (lo hi k : ℕ) → lo ≤ hi → Over ops (λ a o. Plain p names o) lo hi → Neat lo hi k k
  plain_neat lo hi k l f = record {
    up = l;
    grow = omega arith;
    fits = λ a o b c has. plain_fits lo hi k k a o (f a o b c has);
    apart = λ a b x y la ua lb ub hx hy. plain_apart a b x y (f b y lb ub hy);
  }

  -- ---- one piece behind another

  loop_behind : (lo mid hi k i j a b s h to : ℕ) (x : OpCode) → length names ≤ k → k ≤ i → a < mid → Fits lo mid k i a x →
      Whole mid hi i j b s h to → Outside a x b h to
  loop_behind lo mid hi k i j a b s h to (op.Jump y) few g lt f w = let begins = w.begins in let within =
      f.within in λ l u. absurd (omega arith)
  loop_behind lo mid hi k i j a b s h to (op.JumpIfNot y) few g lt f w = let begins = w.begins in let within =
      f.within in λ l u. absurd (omega arith)
  loop_behind lo mid hi k i j a b s h to (op.EachNext z y q) few g lt f w =
      let begins = w.begins in
      let from = w.set_from in
      let upto = f.set_to in
      (λ l u. absurd (omega arith), λ e. absurd (omega arith))
  loop_behind lo mid hi k i j a b s h to (op.Put y) few g lt (inl f) w = let from = w.set_from in λ e. absurd (omega arith)
  loop_behind lo mid hi k i j a b s h to (op.Put y) few g lt (inr f) w = let from = w.set_from in let upto =
      f.1 in λ e. absurd (omega arith)
  loop_behind lo mid hi k i j a b s h to _ few g lt f w = tt

  loop_before : (lo mid hi k i j a b s h to : ℕ) (x : OpCode) → length names ≤ k → k ≤ i → mid ≤ a → Fits mid hi i j a x →
      Whole lo mid k i b s h to → Outside a x b h to
  loop_before lo mid hi k i j a b s h to (op.Jump y) few g le f w = let within = w.within in let later =
      f.later in λ l u. absurd (omega arith)
  loop_before lo mid hi k i j a b s h to (op.JumpIfNot y) few g le f w = let within = w.within in let later =
      f.later in λ l u. absurd (omega arith)
  loop_before lo mid hi k i j a b s h to (op.EachNext z y q) few g le f w =
      let within = w.within in
      let from = f.set_from in
      let upto = w.set_to in
      (λ l u. absurd (omega arith), λ e. absurd (omega arith))
  loop_before lo mid hi k i j a b s h to (op.Put y) few g le (inl f) w = let from = w.set_from in λ e. absurd (omega arith)
  loop_before lo mid hi k i j a b s h to (op.Put y) few g le (inr f) w = let upto = w.set_to in let from =
      f.0 in λ e. absurd (omega arith)
  loop_before lo mid hi k i j a b s h to _ few g le f w = tt

  apart_behind : (lo mid hi k i j a b : ℕ) (x y : OpCode) → length names ≤ k → k ≤ i → a < mid → Fits lo mid k i a x →
      Fits mid hi i j b y → Apart a x b y
  apart_behind lo mid hi k i j a b x (op.EachNext s h to) few g lt f w = loop_behind lo mid hi k i j a b s h to x few g lt f w
  apart_behind lo mid hi k i j a b x _ few g lt f w = tt

  apart_before : (lo mid hi k i j a b : ℕ) (x y : OpCode) → length names ≤ k → k ≤ i → mid ≤ a → Fits mid hi i j a x →
      Fits lo mid k i b y → Apart a x b y
  apart_before lo mid hi k i j a b x (op.EachNext s h to) few g le f w = loop_before lo mid hi k i j a b s h to x few g le f w
  apart_before lo mid hi k i j a b x _ few g le f w = tt

  joined_neat : (lo mid hi k i j : ℕ) → length names ≤ k → Neat lo mid k i → Neat mid hi i j → Neat lo hi k j
  joined_neat lo mid hi k i j few x y =
      let ux = x.up in
      let uy = y.up in
      let gx = x.grow in
      let gy = y.grow in
      record {
        up = omega arith;
        grow = omega arith;
        fits = over_joined ops (Fits lo hi k j) lo mid hi (fits_wider lo mid k i lo hi k j lo mid (omega arith) uy
            (omega arith) gy x.fits) (fits_wider mid hi i j lo hi k j mid hi ux (omega arith) gx (omega arith) y.fits);
        apart = λ a b m n la ua lb ub hm hn. by_side a b m n la ua lb ub hm hn (before_or a mid) (before_or b mid);
      }
    where
      by_side : (a b : ℕ) (m n : OpCode) → lo ≤ a → a < hi → lo ≤ b → b < hi → HasOp ops a m → HasOp ops b n →
          (a < mid) ⊎ (mid ≤ a) → (b < mid) ⊎ (mid ≤ b) → Apart a m b n
      by_side a b m n la ua lb ub hm hn (inl e) (inl f) = x.apart a b m n la e lb f hm hn
      by_side a b m n la ua lb ub hm hn (inl e) (inr f) = apart_behind lo mid hi k i j a b m n few x.grow e
          (x.fits a m la e hm) (y.fits b n f ub hn)
      by_side a b m n la ua lb ub hm hn (inr e) (inl f) = apart_before lo mid hi k i j a b m n few x.grow e
          (y.fits a m e ua hm) (x.fits b n lb f hn)
      by_side a b m n la ua lb ub hm hn (inr e) (inr f) = y.apart a b m n e ua f ub hm hn

  -- ---- a jump before a piece

  abbrev Forward : ℕ → OpCode → Type 0
  Forward x (op.Jump y) = y ≡ x
  Forward x (op.JumpIfNot y) = y ≡ x
  Forward x _ = ⊥

  forward_fits : (lo hi k i a x : ℕ) (o : OpCode) → Forward x o → a < x → x ≤ hi → Fits lo hi k i a o
  forward_fits lo hi k i a x (op.Jump y) e l u = record { later = omega arith; within = omega arith }
  forward_fits lo hi k i a x (op.JumpIfNot y) e l u = record { later = omega arith; within = omega arith }
  forward_fits lo hi k i a x _ e l u = absurd e

  to_forward : (a b x : ℕ) (o y : OpCode) → Forward x y → Apart a o b y
  to_forward a b x o (op.EachNext s h to) e = absurd e
  to_forward a b x o _ e = tt

  forward_out : (a b x h to : ℕ) (o : OpCode) → Forward x o → (b ≤ x → x < to → ⊥) → Outside a o b h to
  forward_out a b x h to (op.Jump y) e f = λ l u. absurd (f (omega arith) (omega arith))
  forward_out a b x h to (op.JumpIfNot y) e f = λ l u. absurd (f (omega arith) (omega arith))
  forward_out a b x h to _ e f = absurd e

  -- the place is in no loop
  Free : ℕ → ℕ → ℕ → Type 0
  Free x lo hi = (b s h to : ℕ) → lo ≤ b → b < hi → HasOp ops b (op.EachNext s h to) → b ≤ x → x < to → ⊥

  from_forward : (a b x lo hi : ℕ) (o y : OpCode) → Forward x o → Free x lo hi → lo ≤ b → b < hi → HasOp ops b y → Apart a o b y
  unfolding Free
  from_forward a b x lo hi o (op.EachNext s h to) e f l u has = forward_out a b x h to o e (f b s h to l u has)
  from_forward a b x lo hi o _ e f l u has = tt

  jump_neat : (lo hi k i x : ℕ) (o : OpCode) → HasOp ops lo o → Forward x o → lo < x → x ≤ hi → Free x (lo + 1) hi →
      Neat (lo + 1) hi k i → Neat lo hi k i
  jump_neat lo hi k i x o has e l u free n =
      let up = n.up in
      record {
        up = omega arith;
        grow = n.grow;
        fits = over_joined ops (Fits lo hi k i) lo (lo + 1) hi
            (over_one ops (Fits lo hi k i) lo o has (forward_fits lo hi k i lo x o e l u))
            (fits_wider (lo + 1) hi k i lo hi k i (lo + 1) hi (omega arith) (omega arith) (omega arith) (omega arith) n.fits);
        apart = λ a b m y la ua lb ub hm hy. by_side a b m y la ua lb ub hm hy (before_or a (lo + 1)) (before_or b (lo + 1));
      }
    where
      first : (a : ℕ) (m : OpCode) → lo ≤ a → a < lo + 1 → HasOp ops a m → Forward x m
      first a m la ua hm =
          let place : lo ≡ a = omega arith in
          let there : HasOp ops a o = subst (λ z. HasOp ops z o) place has in
          let same : o ≡ m = cc in
          subst (Forward x) same e

      by_side : (a b : ℕ) (m y : OpCode) → lo ≤ a → a < hi → lo ≤ b → b < hi → HasOp ops a m → HasOp ops b y →
          (a < lo + 1) ⊎ (lo + 1 ≤ a) → (b < lo + 1) ⊎ (lo + 1 ≤ b) → Apart a m b y
      by_side a b m y la ua lb ub hm hy s (inl g) = to_forward a b x m y (first b y lb g hy)
      by_side a b m y la ua lb ub hm hy (inl f) (inr g) = from_forward a b x (lo + 1) hi m y (first a m la f hm) free g ub hy
      by_side a b m y la ua lb ub hm hy (inr f) (inr g) = n.apart a b m y f ua g ub hm hy

  -- past the end of a piece
  free_past : (x lo hi k i : ℕ) → hi ≤ x → Neat lo hi k i → Free x lo hi
  unfolding Free
  free_past x lo hi k i le n b s h to l u has from upto = let w = n.fits b (op.EachNext s h to) l u has in let within =
      w.within in absurd (omega arith)

  -- at its beginning
  free_first : (x lo hi k i : ℕ) → x ≤ lo → Neat lo hi k i → Free x lo hi
  unfolding Free
  free_first x lo hi k i le n b s h to l u has from upto = let w = n.fits b (op.EachNext s h to) l u has in let begins =
      w.begins in absurd (omega arith)

  free_jump : (x at y : ℕ) → HasOp ops at (op.Jump y) → Free x at (at + 1)
  unfolding Free
  free_jump x at y has b s h to l u has' from upto =
      let place : at ≡ b = omega arith in
      let there : HasOp ops b (op.Jump y) = subst (λ z. HasOp ops z (op.Jump y)) place has in
      absurd (cc)

  free_joined : (x lo mid hi : ℕ) → Free x lo mid → Free x mid hi → Free x lo hi
  unfolding Free
  free_joined x lo mid hi f g b s h to l u has from upto = by_side (before_or b mid)
    where
      by_side : (b < mid) ⊎ (mid ≤ b) → ⊥
      by_side (inl e) = f b s h to l e has from upto
      by_side (inr e) = g b s h to e u has from upto

  -- ---- a loop

  -- the ops of a loop, from the Put of its set on
  record Round (after end s k i : ℕ) : Type 0 where
    slot : s < length names
    put : HasOp ops after (op.Put k)
    next : HasOp ops (after + 1) (op.EachNext s k (end + 1))
    body : Neat (after + 1 + 1) end (k + 1) i
    back : HasOp ops end (op.JumpBack (after + 1))

  same_op : (a b : ℕ) (x y : OpCode) → a ≡ b → HasOp ops a x → HasOp ops b y → x ≡ y
  same_op a b x y e hx hy = let there : HasOp ops b x = subst (λ z. HasOp ops z x) e hx in cc

  round_fits : (after end s k i : ℕ) → Round after end s k i → Over ops (Fits after (end + 1) k i) after (end + 1)
  round_fits after end s k i r =
      let body = r.body in
      let up = body.up in
      let grow = body.grow in
      let P = Fits after (end + 1) k i in
      let f1 : P after (op.Put k) = inr (omega arith, omega arith) in
      let f2 : Whole after (end + 1) k i (after + 1) s k (end + 1) = record {
        variable = r.slot;
        set_from = omega arith;
        set_to = omega arith;
        begins = omega arith;
        within = omega arith;
        last = end;
        after = omega arith;
        ends = refl;
        closed = r.back;
        before = after;
        follows = refl;
        filled = r.put;
      } in
      let f3 : Back after end (after + 1) = record {
        within = omega arith;
        earlier = omega arith;
        variable = s;
        set = k;
        loop = r.next;
      } in
      let inside = fits_wider (after + 1 + 1) end (k + 1) i after (end + 1) k i (after + 1 + 1) end (omega arith) (omega arith)
      (omega arith) (omega arith) body.fits in
      over_joined ops P after (after + 1) (end + 1) (over_one ops P after (op.Put k) r.put f1)
      (over_joined ops P (after + 1) (after + 1 + 1) (end + 1)
      (over_one ops P (after + 1) (op.EachNext s k (end + 1)) r.next f2)
      (over_joined ops P (after + 1 + 1) end (end + 1) inside (over_one ops P end (op.JumpBack (after + 1)) r.back f3)))

  -- the loop itself, and what is in its body
  in_body : (after end k i a : ℕ) (x : OpCode) → length names ≤ k → after + 1 + 1 ≤ a → a < end →
      Fits (after + 1 + 1) end (k + 1) i a x → Outside a x (after + 1) k (end + 1)
  in_body after end k i a (op.Jump y) few l u f = λ m n. (omega arith, omega arith)
  in_body after end k i a (op.JumpIfNot y) few l u f = λ m n. (omega arith, omega arith)
  in_body after end k i a (op.EachNext z y q) few l u f =
      let within = f.within in let from = f.set_from in (λ m n. omega arith, λ e. absurd (omega arith))
  in_body after end k i a (op.Put y) few l u (inl f) = λ e. absurd (omega arith)
  in_body after end k i a (op.Put y) few l u (inr f) = let from = f.0 in λ e. absurd (omega arith)
  in_body after end k i a _ few l u f = tt

  module _ (after end s k i : ℕ) (few : length names ≤ k) (r : Round after end s k i) where
    of_loop : (a : ℕ) (x : OpCode) → after ≤ a → a < end + 1 → HasOp ops a x → Outside a x (after + 1) k (end + 1)
    of_loop a x l u has = by_place (before_or a (after + 1)) (before_or a (after + 1 + 1)) (before_or a end)
      where
        by_place : (a < after + 1) ⊎ (after + 1 ≤ a) → (a < after + 1 + 1) ⊎ (after + 1 + 1 ≤ a) → (a < end) ⊎ (end ≤ a) →
            Outside a x (after + 1) k (end + 1)
        by_place (inl e) m n =
            let is : after ≡ a = omega arith in
            let f : Outside a (op.Put k) (after + 1) k (end + 1) = λ q. omega arith in
            subst (λ z. Outside a z (after + 1) k (end + 1)) (same_op after a (op.Put k) x is r.put has) f
        by_place (inr e) (inl m) n =
            let is : after + 1 ≡ a = omega arith in
            let f : Outside a (op.EachNext s k (end + 1)) (after + 1) k (end + 1) = (λ v w. omega arith, λ q. omega arith) in
            subst (λ z. Outside a z (after + 1) k (end + 1)) (same_op (after + 1) a (op.EachNext s k (end + 1)) x is r.next has) f
        by_place (inr e) (inr m) (inl n) = let body = r.body in in_body after end k i a x few m n (body.fits a x m n has)
        by_place (inr e) (inr m) (inr n) =
            let is : end ≡ a = omega arith in
            subst (λ z. Outside a z (after + 1) k (end + 1)) (same_op end a (op.JumpBack (after + 1)) x is r.back has) tt

    of_inner : (a b z h to : ℕ) (x : OpCode) → after ≤ a → a < end + 1 → after + 1 + 1 ≤ b → b < end → HasOp ops a x →
        HasOp ops b (op.EachNext z h to) → Outside a x b h to
    of_inner a b z h to x l u lb ub has hb = by_place (before_or a (after + 1)) (before_or a (after + 1 + 1)) (before_or a end)
      where
        w : Whole (after + 1 + 1) end (k + 1) i b z h to
        w = let body = r.body in body.fits b (op.EachNext z h to) lb ub hb

        by_place : (a < after + 1) ⊎ (after + 1 ≤ a) → (a < after + 1 + 1) ⊎ (after + 1 + 1 ≤ a) → (a < end) ⊎ (end ≤ a) →
            Outside a x b h to
        by_place (inl e) m n =
            let is : after ≡ a = omega arith in
            let from : k + 1 ≤ h = w.set_from in
            let f : Outside a (op.Put k) b h to = λ q. absurd (omega arith) in
            subst (λ y. Outside a y b h to) (same_op after a (op.Put k) x is r.put has) f
        by_place (inr e) (inl m) n =
            let is : after + 1 ≡ a = omega arith in
            let from : k + 1 ≤ h = w.set_from in
            let f : Outside a (op.EachNext s k (end + 1)) b h to = (λ v q. absurd (omega arith), λ q. absurd (omega arith)) in
            subst (λ y. Outside a y b h to) (same_op (after + 1) a (op.EachNext s k (end + 1)) x is r.next has) f
        by_place (inr e) (inr m) (inl n) = let body = r.body in body.apart a b x (op.EachNext z h to) m n lb ub has hb
        by_place (inr e) (inr m) (inr n) =
            let is : end ≡ a = omega arith in
            subst (λ y. Outside a y b h to) (same_op end a (op.JumpBack (after + 1)) x is r.back has) tt

    inner_apart : (a b : ℕ) (x y : OpCode) → after ≤ a → a < end + 1 → after + 1 + 1 ≤ b → b < end → HasOp ops a x →
        HasOp ops b y → Apart a x b y
    inner_apart a b x (op.EachNext z h to) l u lb ub has hb = of_inner a b z h to x l u lb ub has hb
    inner_apart a b x _ l u lb ub has hb = tt

    round_apart : (a b : ℕ) (x y : OpCode) → after ≤ a → a < end + 1 → after ≤ b → b < end + 1 → HasOp ops a x →
        HasOp ops b y → Apart a x b y
    round_apart a b x y l u lb ub has hb = by_place (before_or b (after + 1)) (before_or b (after + 1 + 1)) (before_or b end)
      where
        by_place : (b < after + 1) ⊎ (after + 1 ≤ b) → (b < after + 1 + 1) ⊎ (after + 1 + 1 ≤ b) → (b < end) ⊎ (end ≤ b) →
            Apart a x b y
        by_place (inl e) m n =
            let is : after ≡ b = omega arith in
            subst (λ z. Apart a x b z) (same_op after b (op.Put k) y is r.put hb) tt
        by_place (inr e) (inl m) n =
            let is : after + 1 ≡ b = omega arith in
            let f : Outside a x b k (end + 1) = subst (λ z. Outside a x z k (end + 1)) is (of_loop a x l u has) in
            subst (λ z. Apart a x b z) (same_op (after + 1) b (op.EachNext s k (end + 1)) y is r.next hb) f
        by_place (inr e) (inr m) (inl n) = inner_apart a b x y l u m n has hb
        by_place (inr e) (inr m) (inr n) =
            let is : end ≡ b = omega arith in
            subst (λ z. Apart a x b z) (same_op end b (op.JumpBack (after + 1)) y is r.back hb) tt

    round_neat : Neat after (end + 1) k i
    round_neat =
        let body = r.body in
        let up = body.up in
        let grow = body.grow in
        record { up = omega arith; grow = omega arith; fits = round_fits after end s k i r; apart = round_apart }

-- ---- statements

module _ (p : Protocol) (t : State) (h : Handler) (ops : List OpCode) where
  abbrev names : List Name
  names = names_in t h

  abbrev pub IsNeat : ℕ → ℕ → ℕ → ℕ → Type 0
  IsNeat lo hi k i = length names ≤ k → Neat p names ops lo hi k i

  of_expr : (at after k : ℕ) (e : Expr) → Evaluates p names ops at e after → Neat p names ops at after k k
  of_expr at after k e x = let up = rises p names ops x in plain_neat p names ops at after k (omega arith)
      (expr_plain p names ops x)

  pub neat : Closed p t h ops IsNeat
  neat = record {
    empty = λ at k few. plain_neat p names ops at at k (omega arith) (over_none ops (λ a o. Plain p names o) at);
    joined = λ lo mid hi k i j x y few.
        let a = x few in
        let g = a.grow in
        joined_neat p names ops lo mid hi k i j few a (y (omega arith));
    simple = λ a o at last r k keeps shallow lasted ev has few.
        let up = all_rise p names ops ev in
        let P : ℕ → OpCode → Type 0 = λ a o. Plain p names o in
        plain_neat p names ops at (last + 1) k (omega arith)
        (over_joined ops P at last (last + 1) (all_plain p names ops ev)
        (over_one ops P last o has (last_plain p t h a o r keeps lasted)));
    tested = λ e at after to k i keeps shallow ev has x few.
        let n = x few in
        let up = n.up in
        let j = jump_neat p names ops after to k i to (op.JumpIfNot to) has refl (omega arith) (omega arith)
        (free_past p names ops to (after + 1) to k i (omega arith) n) n in
        joined_neat p names ops at after to k k i few (of_expr at after k e ev) j;
    branched = λ e at after mid to k i j keeps shallow ev has x jump y few.
        let a = x few in
        let ua = a.up in
        let ga = a.grow in
        let b = y (omega arith) in
        let ub = b.up in
        let after_jump = jump_neat p names ops mid to i j to (op.Jump to) jump refl (omega arith) (omega arith)
        (free_past p names ops to (mid + 1) to i j (omega arith) b) b in
        let both = joined_neat p names ops (after + 1) mid to k i j few a after_jump in
        let free_b = free_joined p names ops (mid + 1) mid (mid + 1) to (free_jump p names ops (mid + 1) mid to jump)
        (free_first p names ops (mid + 1) (mid + 1) to i j (omega arith) b) in
        let free = free_joined p names ops (mid + 1) (after + 1) mid to
        (free_past p names ops (mid + 1) (after + 1) mid k i (omega arith) a) free_b in
        let all = jump_neat p names ops after to k j (mid + 1) (op.JumpIfNot (mid + 1)) has refl (omega arith)
        (omega arith) free both in
        joined_neat p names ops at after to k k j few (of_expr at after k e ev) all;
    looped = λ v e s at after end k i keeps shallow slot ev put next x back few.
        let there = place_below (λ m. bytes_eq m v) names s slot in
        let all = round_neat p names ops after end s k i few
        (record { slot = there; put = put; next = next; body = x (omega arith); back = back }) in
        joined_neat p names ops at after (end + 1) k k i few (of_expr at after k e ev) all;
  }
