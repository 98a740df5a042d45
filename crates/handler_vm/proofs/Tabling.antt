-- The table of doors, a place at a time.
use Rattle.std.proofs.Common.{◌≡◌, ◌∙◌, ℕ, zero, suc, ◌+◌, ◌-◌, ◌*◌, ◌/◌, ◌%◌, ◌<◌, ◌≤◌, true, false, List, [], ◌∷◌, ◌++◌}
use Rattle.std.proofs.Common.{Option, Some, None, get_or, length, length-append, refl, sym, ap, subst, ⊎_elim, arith}
use Rattle.std.specs.Prelude.{IsSome, is_some, slice_get}
use Rattle.std.proofs.lemmas.Bool.{cases_lt}
use Rattle.std.proofs.lemmas.List.{get_or_append_left}
use Rattle.std.proofs.lemmas.Nat.{div-mul-add, mod-mul-add}
use Rattle.std.proofs.lemmas.Option.{get_or_from_slice_get, slice_get-get_or, slice_get_past, slice_get_within}
use Rattle.std.proofs.Math.Nat.{mul-le-mul_right}
use Rattle.std.proofs.Math.Seq.{get_or-append_seam}
use Rattle.tw_base.specs.declared.message.Kind.{Kind}
use Rattle.tw_base.specs.declared.message.Kind.TheVariants as kind
use Rattle.teapot_tree.specs.declared.protocol.Protocol.{Protocol}
use Rattle.teapot_meaning.specs.Fits.{is_known}
use Rattle.handler_code.specs.declared.code.Code.{Code}
use Rattle.handler_vm.specs.declared.doors.Place.{Place}
use Rattle.handler_code.specs.declared.code.Door.{Door}
use Rattle.handler_code.specs.Doors.{door_for}
use Rattle.handler_vm.specs.Tables.{IsPlaceOf, IsRight, IsTableOf, StandsAt, Table, column_of, kind_at}

-- ---- columns

pub kind_from : (n : ℕ) → 2 ≤ n → kind_at n ≡ kind.Named (n - 2)
kind_from zero low = absurd (omega (arith, low))
kind_from (suc zero) low = absurd (omega (arith, low))
kind_from (suc (suc n)) low = ap kind.Named (omega arith)

kind_back : (k : Kind) → kind_at (column_of k) ≡ k
kind_back kind.RdFault = refl
kind_back kind.WrFault = refl
kind_back (kind.Named n) = let e : n + 2 ≡ suc (suc n) = omega arith in ap kind_at e

pub column_low : (p : Protocol) (k : Kind) → is_known p k ≡ true → column_of k < length p.messages + 2
column_low p kind.RdFault known = omega arith
column_low p kind.WrFault known = omega arith
column_low p (kind.Named n) known =
    ⊎_elim (λ low. omega (arith, low)) (λ high.
    let no : false ≡ true = sym (ap is_some (slice_get_past p.messages n high)) ∙ known in
    absurd (cc)) (cases_lt n (length p.messages))

-- ---- one place more

of_front : {X : Type 0} (xs : List X) (y x : X) (k : ℕ) → k < length xs → slice_get (xs ++ y ∷ []) k ≡ Some x →
    slice_get xs k ≡ Some x
of_front xs y x k low e =
    slice_get-get_or xs k x low ∙ ap Some (sym (get_or_append_left xs (y ∷ []) x k low)
    ∙ get_or_from_slice_get (xs ++ y ∷ []) k x x e)

of_last : {X : Type 0} (xs : List X) (y x : X) (k : ℕ) → k ≡ length xs → slice_get (xs ++ y ∷ []) k ≡ Some x → y ≡ x
of_last xs y x k last e =
    sym (get_or-append_seam xs y [] x) ∙ ap (λ (i : ℕ). get_or (xs ++ y ∷ []) i x) (sym last)
    ∙ get_or_from_slice_get (xs ++ y ∷ []) k x x e

module _ (p : Protocol) (code : Code) (kinds : ℕ) (places : List (Option Place)) (more : Option Place)
    (many : kinds ≡ length p.messages + 2) (right : IsRight p code kinds places) where
  right_more : IsPlaceOf p code (length places / kinds) (kind_at (length places % kinds)) more →
      IsRight p code kinds (places ++ more ∷ [])
  right_more is state k o known at =
      let low : column_of k < kinds = omega (arith, column_low p k known, many) in
      let i = state * kinds + column_of k in
      let within = slice_get_within (places ++ more ∷ []) i o at in
      ⊎_elim (λ front. right state k o known (of_front places more o i front at)) (λ behind.
      let last : i ≡ length places = omega (arith, behind, within, length-append places (more ∷ [])) in
      let same_state : length places / kinds ≡ state = ap (λ n. n / kinds) (sym last)
      ∙ div-mul-add state kinds (column_of k) low in
      let same_kind : kind_at (length places % kinds) ≡ k = ap kind_at
      (ap (λ n. n % kinds) (sym last) ∙ mod-mul-add state kinds (column_of k) low) ∙ kind_back k in
      let a : IsPlaceOf p code state (kind_at (length places % kinds)) more =
      subst (λ n. IsPlaceOf p code n (kind_at (length places % kinds)) more) same_state is in
      let b : IsPlaceOf p code state k more = subst (λ x. IsPlaceOf p code state x more) same_kind a in
      subst (IsPlaceOf p code state k) (of_last places more o i last at) b) (cases_lt i (length places))

  pub right_at : (index : ℕ) (k : Kind) → length places ≡ index → k ≡ kind_at (index % kinds) →
      IsPlaceOf p code (index / kinds) k more → IsRight p code kinds (places ++ more ∷ [])
  right_at index k last is place =
      let a : IsPlaceOf p code (index / kinds) (kind_at (index % kinds)) more =
      subst (λ x. IsPlaceOf p code (index / kinds) x more) is place in
      right_more (subst (λ n. IsPlaceOf p code (n / kinds) (kind_at (n % kinds)) more) (sym last) a)

-- ---- a place that is looked up

low_at : (state states kinds column : ℕ) → state < states → column < kinds → state * kinds + column < states * kinds
low_at state states kinds column low few =
    let next : state + 1 ≤ states = omega (arith, low) in
    omega (arith, few, mul-le-mul_right kinds next)

module _ (p : Protocol) (code : Code) (table : Table) (is : IsTableOf p code table) (state : ℕ) (k : Kind)
    (known : is_known p k ≡ true) where
  pub place_there : state < length p.states → state * table.kinds + column_of k < length table.places
  place_there low =
      omega (
        arith,
        low_at state (length p.states) table.kinds (column_of k) low
            (omega (arith, column_low p k known, is.kinds)),
        is.many,
      )

  pub place_is : (o : Option Place) (place : Place) → slice_get table.places (state * table.kinds + column_of k) ≡ Some o →
      o ≡ Some place → StandsAt p code state k place
  place_is o place at some = subst (IsPlaceOf p code state k) some (is.leads state k o known at)

  -- a message that enters has a door
  pub place_some : (o : Option Place) → slice_get table.places (state * table.kinds + column_of k) ≡ Some o →
      IsSome (door_for code state k) → o ≡ None → ⊥
  place_some o at some none =
      let no : door_for code state k ≡ None = subst (IsPlaceOf p code state k) none (is.leads state k o known at) in
      let off : false ≡ true = subst (λ (d : Option Door). IsSome d) no some in
      cc

pub item_is : {X : Type 0} (xs ys : List X) (i k : ℕ) (x d : X) → xs ≡ ys → i ≡ k → slice_get ys k ≡ Some x → get_or xs i d ≡ x
item_is xs ys i k x d all same at = get_or_from_slice_get xs i x d (ap (λ zs. slice_get zs i) all ∙ ap (slice_get ys) same ∙ at)
