-- At the start each block fits.
use Rattle.std.proofs.Common.{◌≡◌, ◌∙◌, ℕ, suc, ◌*◌, ◌<◌, ◌≤◌, Bool, true, false, not, cond, nat_eq, nat_lt, List, [], ◌∷◌}
use Rattle.std.proofs.Common.{Option, Some, None, length, map, drop, take, refl, ap, sym, subst, arith, inl, inr}
use Rattle.std.specs.Prelude.{find, if◌then◌else◌, is_none, is_some, position, slice_get, unwrap_or, ◌||◌, ◌==◌}
use Rattle.std.specs.List.{position_or_len, range_with_len}
use Rattle.std.specs.Str.{bytes_eq}
use Rattle.std.proofs.Math.Nat.{mul-le-mul_right}
use Rattle.std.proofs.lemmas.Bool.Decides.{Decides-eqb, Decides-ltb}
use Rattle.std.proofs.lemmas.List.{length-drop, length-take-le}
use Rattle.std.proofs.lemmas.List.Folds.{find_at}
use Rattle.std.proofs.lemmas.List.FromFn.{length-map-range_with_len}
use Rattle.std.proofs.lemmas.Option.{slice_get_within}
use Rattle.tw_base.specs.declared.name.Name.{Name}
use Rattle.block_tags.specs.Copies.{init_value}
use Rattle.teapot_tree.specs.declared.protocol.Param.{Param}
use Rattle.teapot_tree.specs.declared.protocol.Protocol.{Protocol}
use Rattle.teapot_tree.specs.declared.protocol.Start.{Start}
use Rattle.teapot_tree.specs.declared.protocol.State.{State}
use Rattle.teapot_tree.specs.declared.protocol.ValType.{ValType}
use Rattle.teapot_tree.specs.declared.protocol.ValType.TheVariants as ty
use Rattle.teapot_tree.specs.declared.rule.Rule.TheVariants.{ArgCount, NotTwoStarts, Undeclared}
use Rattle.teapot_tree.specs.Rules.{Any, IsAccepted, is_wrong_start}
use Rattle.teapot_tree.specs.Scopes.{state_of}
use Rattle.teapot_meaning.specs.Does.{zero_of}
use Rattle.teapot_meaning.specs.Fits.{ContFits, Fits, fits_below, type_of, types_of}
use Rattle.teapot_meaning.specs.declared.state.Cont.{Cont}
use Rattle.teapot_meaning.specs.declared.state.Cont.TheOpen.{StateVal-F}
use Rattle.teapot_meaning.specs.declared.state.StateVal.{StateVal, roll-StateVal, out-roll-StateVal}
use Rattle.dsm_runs.specs.Invariants.{IsBlockAt}
use Rattle.dsm_runs.specs.Setups.{IsSetup, Setup, first_here, home_of, is_start, start_line, start_state}

-- ---- what a search finds

some_same : {X : Type 0} (x y : X) → Some x ≡ Some y → x ≡ y
some_same x y e = cc

found_any : (P : Start → Type 0) (test : Start → Bool) (xs : List Start) (x : Start) → find test xs ≡ Some x → P x → Any P xs
found_any P test [] x e h = absurd cc
found_any P test (y ∷ ys) x e h = by_test (test y) e (found_any P test ys x)
  where
    by_test : (b : Bool) → cond b (Some y) (find test ys) ≡ Some x → (find test ys ≡ Some x → P x → Any P ys) → Any P (y ∷ ys)
    by_test true f more = inl (subst P (sym (some_same y x f)) h)
    by_test false f more = inr (more f h)

found_at : (test : State → Bool) (xs : List State) (x : State) → find test xs ≡ Some x →
    slice_get xs (unwrap_or (position test xs) 0) ≡ Some x
found_at test xs x e =
    let k = position_or_len test xs in
    let at : slice_get xs k ≡ Some x = sym (find_at test xs) ∙ e in
    let within : nat_lt k (length xs) ≡ true = (Decides-ltb k (length xs)).1 (slice_get_within xs k x at) in
    ap (λ b. slice_get xs (unwrap_or (if b then Some k else None) 0)) within ∙ at

-- ---- an accepted protocol has a start of either kind, and its state takes no arguments

one_of_two : (home a b : Bool) (x y : Start) (more : List Start) → x.home ≡ a → y.home ≡ b → (y.home ≡ x.home → ⊥) →
    (start : Start) × (find (λ z. is_start home z) (x ∷ y ∷ more) ≡ Some start)
one_of_two true true b x y more e f apart = (x, rw e refl)
one_of_two true false true x y more e f apart = (y, rw (e, f) refl)
one_of_two true false false x y more e f apart = absurd (apart (f ∙ sym e))
one_of_two false true true x y more e f apart = absurd (apart (f ∙ sym e))
one_of_two false true false x y more e f apart = (y, rw (e, f) refl)
one_of_two false false b x y more e f apart = (x, rw e refl)

some_start : (p : Protocol) (home : Bool) → IsAccepted p → (start : Start) × (find (λ z. is_start home z) p.starts ≡ Some start)
some_start p home a = go p.starts refl
  where
    go : (starts : List Start) → p.starts ≡ starts → (start : Start) × (find (λ z. is_start home z) p.starts ≡ Some start)
    go [] e = absurd (a.keeps p.line NotTwoStarts (inr (refl, rw e (omega arith))))
    go (x ∷ []) e = absurd (a.keeps p.line NotTwoStarts (inr (refl, rw e (omega arith))))
    go (x ∷ y ∷ more) e =
        subst (λ (xs : List Start). (start : Start) × (find (λ z. is_start home z) xs ≡ Some start)) (sym e)
        (one_of_two home x.home y.home x y more refl refl (λ same. a.keeps y.line NotTwoStarts
        (inl (rw e (inl (inl (same, refl)))))))

-- the state of a start
record IsPlain (p : Protocol) (name : Name) : Type 0 where
  pub state : State
  pub is_state : state_of p name ≡ Some state
  pub params : length state.params ≡ 0
  pub cont : is_some state.cont ≡ false

no_arguments : (a b : Bool) → (not a || b) ≡ false → (a ≡ true) × (b ≡ false)
no_arguments true true h = absurd cc
no_arguments true false h = (refl, refl)
no_arguments false b h = absurd cc

never_true : (b : Bool) → (b ≡ true → ⊥) → b ≡ false
never_true true never = absurd (never refl)
never_true false never = refl

plain_start : (p : Protocol) (home : Bool) (start : Start) → IsAccepted p → find (λ z. is_start home z) p.starts ≡ Some start →
    IsPlain p start.state
plain_start p home start a found = go (state_of p start.state) refl
  where
    go : (o : Option State) → state_of p start.state ≡ o → IsPlain p start.state
    go None e =
        absurd (a.keeps start.line Undeclared
        (inl (found_any (λ (x : Start). (x.line ≡ start.line) × (is_none (state_of p x.state) ≡ true))
        (λ z. is_start home z) p.starts start found (refl, rw e refl))))
    go (Some d) e =
        let right : is_wrong_start (Some d) ≡ false = never_true (is_wrong_start (Some d))
        (λ h. a.keeps start.line ArgCount
        (inl (found_any (λ (x : Start). (x.line ≡ start.line) × (is_wrong_start (state_of p x.state) ≡ true))
        (λ z. is_start home z) p.starts start found (refl, rw e h)))) in
        let parts = no_arguments (length d.params == 0) (is_some d.cont) right in
        record { state = d; is_state = e; params = (Decides-eqb (length d.params) 0).0 parts.0; cont = parts.1 }

-- ---- its state fits

no_params : (ps : List Param) → length ps ≡ 0 → types_of ps ≡ []
no_params [] h = refl
no_params (a ∷ ps) h = absurd (omega arith)

plain_fits : (p : Protocol) (count n k : ℕ) (d : State) → slice_get p.states k ≡ Some d → length d.params ≡ 0 →
    is_some d.cont ≡ false → fits_below (suc n) p count (roll-StateVal (record { state = k; args = []; cont = None }))
unfolding fits_below
plain_fits p count n k d is_state params cont =
    let x : StateVal-F Cont StateVal = record { state = k; args = []; cont = None } in
    let e = sym (out-roll-StateVal x) in
    record {
      state = d;
      is_state = subst (λ (z : StateVal-F Cont StateVal). slice_get p.states z.state ≡ Some d) e is_state;
      args = subst (λ (z : StateVal-F Cont StateVal). map type_of z.args ≡ types_of d.params) e (sym (no_params d.params params));
      cont = subst (λ (z : StateVal-F Cont StateVal). ContFits (fits_below n p count) p count d z.cont) e cont;
    }

zero_typed : (t : ValType) → type_of (zero_of t) ≡ t
zero_typed ty.Int = refl
zero_typed ty.Bool = refl
zero_typed ty.Node = refl
zero_typed ty.Set = refl

infos_typed : (ps : List Param) → map type_of (map (λ a. zero_of a.ty) ps) ≡ types_of ps
infos_typed [] = refl
infos_typed (a ∷ ps) = ap (λ t. t ∷ map type_of (map (λ a. zero_of a.ty) ps)) (zero_typed a.ty)
    ∙ ap (λ ts. a.ty ∷ ts) (infos_typed ps)

first_fits : (s : Setup) (i b : ℕ) → IsAccepted s.protocol → Fits s.protocol (first_here s i b)
first_fits s i b a =
    let home = nat_eq (home_of s b) i in
    let line = some_start s.protocol home a in
    let plain = plain_start s.protocol home line.0 a line.1 in
    let at = found_at (λ (x : State). bytes_eq x.name line.0.state) s.protocol.states plain.state plain.is_state in
    let number : slice_get s.protocol.states (start_state s (start_line s home)) ≡ Some plain.state =
    ap (λ o. slice_get s.protocol.states (start_state s o)) line.1 ∙ at in
    record {
      state = plain_fits s.protocol _ 8 (start_state s (start_line s home)) plain.state number plain.params plain.cont;
      infos = infos_typed s.protocol.infos;
    }

-- ---- its words

words_long : (f : ℕ → ℕ) (w n b : ℕ) → b < n → length (take w (drop (b * w) (map f (range_with_len 0 (w * n))))) ≡ w
words_long f w n b lt =
    let all : List ℕ = map f (range_with_len 0 (w * n)) in
    let room : suc b * w ≤ n * w = mul-le-mul_right w (omega (arith, lt)) in
    length-take-le w (drop (b * w) all) (omega (arith, room, length-drop (b * w) all, length-map-range_with_len f 0 (w * n)))

pub first_block : (s : Setup) (i b : ℕ) → IsSetup s → b < s.shape.blocks → IsBlockAt s i b (first_here s i b)
first_block s i b is lt = record {
  fits = first_fits s i b is.accepted;
  words = words_long (init_value s.init) s.shape.words s.shape.blocks b lt;
  me = refl;
  block = refl;
  home = refl;
}
