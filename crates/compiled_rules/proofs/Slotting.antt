-- The slots of a handler have the types of its variables, and those of its loops are sets.
use Rattle.std.proofs.Common.{◌≡◌, ◌∙◌, ℕ, zero, suc, ◌+◌, ◌-◌, ◌<◌, ◌≤◌, ◌⊎◌, Bool, true, false, List, [], ◌∷◌, ◌++◌, length}
use Rattle.std.proofs.Common.{length-append, Option, Some, None, refl, ap, sym, subst, arith, inl, inr}
use Rattle.std.specs.Prelude.{codes, cond, find, is_none, is_some, map, nat_lt, not, position, slice_get, unwrap_or, Contains}
use Rattle.std.specs.List.{prefix_len}
use Rattle.std.specs.Option.{option_and_then}
use Rattle.std.specs.Str.{bytes_eq}
use Rattle.std.proofs.lemmas.Bool.{eqb-true}
use Rattle.tw_base.specs.declared.name.Name.{Name}
use Rattle.teapot_tree.specs.declared.protocol.Handler.{Handler}
use Rattle.teapot_tree.specs.declared.protocol.MessageDecl.{MessageDecl}
use Rattle.teapot_tree.specs.declared.protocol.Param.{Param}
use Rattle.teapot_tree.specs.declared.protocol.Protocol.{Protocol}
use Rattle.teapot_tree.specs.declared.protocol.State.{State}
use Rattle.teapot_tree.specs.declared.protocol.Trigger.{Trigger}
use Rattle.teapot_tree.specs.declared.protocol.Trigger.TheVariants as on
use Rattle.teapot_tree.specs.declared.protocol.ValType.{ValType}
use Rattle.teapot_tree.specs.declared.protocol.ValType.TheVariants as ty
use Rattle.teapot_tree.specs.declared.rule.Rule.TheVariants.{ArgCount}
use Rattle.teapot_tree.specs.Grammar.{NoArgsOf, NoDefaultArgs}
use Rattle.teapot_tree.specs.Rules.{AtHandler, AtStep, IsAccepted, answers_undeclared, counts_wrongly, has_wrong_count}
use Rattle.teapot_tree.specs.Rules.{is_message_count}
use Rattle.teapot_tree.specs.Scopes.{Scope, Variable, args_of, infos_in, is_among, message_of, taken_message, type_among, visible}
use Rattle.teapot_meaning.specs.Fits.{names_in, types_in, types_of}
use Rattle.teapot_meaning.specs.Names.{info_number}
use Rattle.teapot_meaning.proofs.Found.{each_at, each_flat, is_false, no_place, place_found}
use Rattle.teapot_meaning.proofs.Sound.{in_handler, scope_of}
use Rattle.teapot_meaning.proofs.Variables.{info_found, inner, inner_named, inner_typed, len_map, typed_among, typed_parts}
use Rattle.teapot_meaning.proofs.Visible.{apart_parts, name_in, visible_apart, visible_free}
use Rattle.handler_code.specs.declared.code.OpCode.{OpCode}
use Rattle.handler_code.specs.declared.code.OpCode.TheVariants as op
use Rattle.code_walks.specs.Kinds.{filled_types, gives, needs, type_at, with_sets}
use Rattle.compiled_meaning.specs.Follows.{get_op, put_op, slot_of}
use Rattle.compiled_rules.proofs.Doorways.{is_declared}
use Rattle.compiled_rules.proofs.Spans.{before_or}

-- ---- lists

prefix_map : {X Y : Type 0} (f : Y → Bool) (g : X → Y) (xs : List X) → prefix_len f (map g xs) ≡ prefix_len (λ x. f (g x)) xs
prefix_map f g [] = refl
prefix_map f g (x ∷ xs) = ap (λ n. cond (f (g x)) (1 + n) 0) (prefix_map f g xs)

position_map : {X Y : Type 0} (f : Y → Bool) (g : X → Y) (xs : List X) → position f (map g xs) ≡ position (λ x. f (g x)) xs
position_map f g xs =
    ap (λ n. cond (nat_lt n (length (map g xs))) (Some n) None) (prefix_map (λ y. not (f y)) g xs)
    ∙ ap (λ l. cond (nat_lt (prefix_len (λ x. not (f (g x))) xs) l) (Some (prefix_len (λ x. not (f (g x))) xs)) None)
    (len_map g xs)

map_get : {X Y : Type 0} (f : X → Y) (xs : List X) (i : ℕ) (y : X) → slice_get xs i ≡ Some y → slice_get (map f xs) i ≡ Some (f y)
map_get f [] i y e = cc
map_get f (z ∷ xs) zero y e = let same : z ≡ y = cc in ap (λ q. Some (f q)) same
map_get f (z ∷ xs) (suc i) y e = map_get f xs i y e

unmap_get : (xs : List ValType) (i : ℕ) (u : ValType) → slice_get (map (λ t. Some t) xs) i ≡ Some (Some u) →
    slice_get xs i ≡ Some u
unmap_get [] i u e = cc
unmap_get (x ∷ xs) zero u e = let same : Some x ≡ Some u = cc in same
unmap_get (x ∷ xs) (suc i) u e = unmap_get xs i u e

get_front : {X : Type 0} (xs ys : List X) (i : ℕ) (x : X) → slice_get xs i ≡ Some x → slice_get (xs ++ ys) i ≡ Some x
get_front [] ys i x e = cc
get_front (y ∷ xs) ys zero x e = e
get_front (y ∷ xs) ys (suc i) x e = get_front xs ys i x e

get_last : {X : Type 0} (xs : List X) (x : X) (i : ℕ) → i ≡ length xs → slice_get (xs ++ x ∷ []) i ≡ Some x
get_last [] x zero e = refl
get_last [] x (suc i) e = absurd (omega arith)
get_last (y ∷ xs) x zero e = absurd (omega arith)
get_last (y ∷ xs) x (suc i) e = get_last xs x i (omega arith)

-- ---- slots of loops

sets-length : (n : ℕ) (types : List ValType) → length (with_sets n types) ≡ length types + n
sets-length zero types = omega arith
sets-length (suc n) types = omega (arith, length-append (with_sets n types) (ty.Set ∷ []), sets-length n types)

sets_front : (n : ℕ) (types : List ValType) (k : ℕ) (u : ValType) → slice_get types k ≡ Some u →
    slice_get (with_sets n types) k ≡ Some u
sets_front zero types k u e = e
sets_front (suc n) types k u e = get_front (with_sets n types) (ty.Set ∷ []) k u (sets_front n types k u e)

sets_behind : (n : ℕ) (types : List ValType) (k : ℕ) → length types ≤ k → k < length types + n →
    slice_get (with_sets n types) k ≡ Some ty.Set
sets_behind zero types k l u = absurd (omega arith)
sets_behind (suc n) types k l u = by_side (before_or k (length types + n)) (sets_behind n types k l)
  where
    by_side : (k < length types + n) ⊎ (length types + n ≤ k) →
        (k < length types + n → slice_get (with_sets n types) k ≡ Some ty.Set) →
        slice_get (with_sets (suc n) types) k ≡ Some ty.Set
    by_side (inl lt) more = get_front (with_sets n types) (ty.Set ∷ []) k ty.Set (more lt)
    by_side (inr le) more = get_last (with_sets n types) ty.Set k (omega (arith, sets-length n types))

-- ---- the arguments of a handler are as many as those of its message

module _ (p : Protocol) (a : IsAccepted p) (t : State) (i : Contains p.states t) (h : Handler) (j : Contains t.handlers h) where
  counted : counts_wrongly p h.on h.args ≡ false
  counted =
      is_false _
      (λ e. a.keeps h.line ArgCount
      (inr (in_handler p t h (λ c. AtHandler (counts_wrongly p c.handler.on c.handler.args) c h.line
      ⊎ AtStep has_wrong_count c h.line) i j (inl (refl, e)))))

  no_args : NoDefaultArgs h
  no_args = each_at NoDefaultArgs t.handlers h j (each_flat _ (λ (s : State). s.handlers) p.states t i a.tree.default_args)

  un_not : (b : Bool) → not b ≡ false → b ≡ true
  un_not true e = refl
  un_not false e = cc

  by_message : (o : Option MessageDecl) (n : ℕ) → is_none o ≡ false → not (is_message_count o n) ≡ false → n ≡ length (args_of o)
  by_message None n d e = cc
  by_message (Some m) n d e = eqb-true n (length m.args) (un_not _ e)

  by_trigger : (trigger : Trigger) (args : List Name) → answers_undeclared p trigger ≡ false →
      counts_wrongly p trigger args ≡ false → NoArgsOf trigger args → length args ≡ length (args_of (taken_message p trigger))
  by_trigger on.RdFault args d e n = eqb-true (length args) 0 (un_not _ e)
  by_trigger on.WrFault args d e n = eqb-true (length args) 0 (un_not _ e)
  by_trigger (on.Named name) args d e n = by_message (message_of p name) (length args) d e
  by_trigger on.Default args d e n = ap length n

  pub few : length h.args ≡ length (args_of (taken_message p h.on))
  few = by_trigger h.on h.args (is_declared p a t h i j) counted no_args

  -- ---- variables and their places

  abbrev c : Scope
  c = scope_of p t h

  abbrev names : List Name
  names = names_in t h

  abbrev types : List ValType
  types = types_in p t h

  abbrev sender : Variable
  sender = record { name = codes "src"; ty = Some ty.Node }

  abbrev whole : List Variable
  whole = sender ∷ inner c

  whole_named : map name_in whole ≡ names
  whole_named = ap (λ l. codes "src" ∷ l) (inner_named c)

  whole_typed : map (λ (u : Variable). u.ty) whole ≡ map (λ u. Some u) types
  whole_typed = ap (λ l. Some ty.Node ∷ l) (inner_typed c few)

  types-length : length types ≡ length names
  types-length =
      sym (len_map (λ (u : ValType). Some u) types) ∙ (sym (ap length whole_typed)
      ∙ (len_map (λ (u : Variable). u.ty) whole ∙ (sym (len_map name_in whole) ∙ ap length whole_named)))

  abbrev has_name : Name → Variable → Bool
  has_name n v = bytes_eq v.name n

  slot-is : (n : Name) → slot_of names n ≡ position (has_name n) whole
  slot-is n = ap (position (λ m. bytes_eq m n)) (sym whole_named) ∙ position_map (λ m. bytes_eq m n) name_in whole

  abbrev InSlot : Name → ValType → Type 0
  InSlot n u = (k : ℕ) × (slot_of names n ≡ Some k) × (slice_get types k ≡ Some u)

  in_slot : (n : Name) (v : Variable) (u : ValType) → find (has_name n) whole ≡ Some v → v.ty ≡ Some u → InSlot n u
  in_slot n v u e f =
      let k = place_found (has_name n) whole v e in
      let type = map_get (λ (w : Variable). w.ty) whole k.0 v k.2 in
      let there : slice_get (map (λ u. Some u) types) k.0 ≡ Some (Some u) = sym (ap (λ l. slice_get l k.0) whole_typed)
      ∙ (type ∙ ap (λ o. Some o) f) in
      (k.0, slot-is n ∙ k.1, unmap_get types k.0 u there)

  sender_slot : InSlot (codes "src") ty.Node
  sender_slot = in_slot (codes "src") sender ty.Node refl refl

  abbrev InInfo : Name → ValType → Type 0
  InInfo n u = (slot_of names n ≡ None) × ((k : ℕ) × (info_number p n ≡ Some k) × (slice_get (types_of p.infos) k ≡ Some u))

  typed_found : (vs : List Variable) (n : Name) (u : ValType) → type_among vs n ≡ Some u →
      (v : Variable) × (find (has_name n) vs ≡ Some v) × (v.ty ≡ Some u)
  typed_found vs n u e = by_found (find (has_name n) vs) refl e
    where
      by_found : (o : Option Variable) → find (has_name n) vs ≡ o → option_and_then (λ (w : Variable). w.ty) o ≡ Some u →
          (v : Variable) × (find (has_name n) vs ≡ Some v) × (v.ty ≡ Some u)
      by_found (Some v) f g = (v, f, g)
      by_found None f g = cc (g)

  not_found : (vs : List Variable) (n : Name) → is_among vs n ≡ false → find (has_name n) vs ≡ None
  not_found vs n e = by_found (find (has_name n) vs) refl e
    where
      by_found : (o : Option Variable) → find (has_name n) vs ≡ o → is_some o ≡ false → find (has_name n) vs ≡ None
      by_found (Some v) f g = cc (g)
      by_found None f g = f

  pub placed : (n : Name) (u : ValType) → type_among (visible c) n ≡ Some u → InSlot n u ⊎ InInfo n u
  placed n u e = by_part (typed_parts (infos_in c) (inner c) n u e)
    where
      free : bytes_eq (codes "src") n ≡ false
      free = visible_free p t h a.tree i j n (typed_among (visible c) n u e)

      past : find (has_name n) whole ≡ find (has_name n) (inner c)
      past = ap (λ b. cond b (Some sender) (find (has_name n) (inner c))) free

      by_part : (type_among (infos_in c) n ≡ Some u) ⊎ ((is_among (infos_in c) n ≡ false)
          × (type_among (inner c) n ≡ Some u)) → InSlot n u ⊎ InInfo n u
      by_part (inr f) =
          let v = typed_found (inner c) n u f.1 in
          inl (in_slot n v.0 u (past ∙ v.1) v.2)
      by_part (inl f) =
          let out = apart_parts (infos_in c) (inner c) n (visible_apart p t h a i j) (typed_among (infos_in c) n u f) in
          let none = slot-is n ∙ no_place (has_name n) whole (past ∙ not_found (inner c) n out) in
          let info = info_found p.infos n u f in
          let k = place_found (λ (x : Param). bytes_eq x.name n) p.infos info.0 info.1 in
          let type = map_get (λ (x : Param). x.ty) p.infos k.0 info.0 k.2 in
          inr (none, (k.0, k.1, type ∙ ap (λ u. Some u) info.2))

-- ---- what ops read and write

pub record SlotsFit (p : Protocol) (t : State) (h : Handler) (slots : List ValType) (width : ℕ) : Type 0 where
  pub reads : (n : Name) (u : ValType) → type_among (visible (scope_of p t h)) n ≡ Some u →
      gives p slots (get_op (slot_of (names_in t h) n) (info_number p n)) ≡ Some u
  pub source : gives p slots (get_op (slot_of (names_in t h) (codes "src")) (info_number p (codes "src"))) ≡ Some ty.Node
  pub writes : (n : Name) (u : ValType) (o : OpCode) (top : ValType) → type_among (visible (scope_of p t h)) n ≡ Some u →
      put_op (slot_of (names_in t h) n) (info_number p n) ≡ Some o → needs p slots o top ≡ u ∷ []
  pub nodes : (n : Name) (s : ℕ) → type_among (visible (scope_of p t h)) n ≡ Some ty.Node → slot_of (names_in t h) n ≡ Some s →
      type_at slots s ≡ ty.Node
  pub sets : (k : ℕ) → length (names_in t h) ≤ k → k < width → type_at slots k ≡ ty.Set

module _ (p : Protocol) (a : IsAccepted p) (t : State) (i : Contains p.states t) (h : Handler) (j : Contains t.handlers h)
    (width : ℕ) where
  abbrev slots : List ValType
  slots = filled_types width (types_in p t h)

  slot_typed : (k : ℕ) (u : ValType) → slice_get (types_in p t h) k ≡ Some u → type_at slots k ≡ u
  slot_typed k u e = ap (λ o. unwrap_or o ty.Int) (sets_front (width - length (types_in p t h)) (types_in p t h) k u e)

  info_typed : (k : ℕ) (u : ValType) → slice_get (types_of p.infos) k ≡ Some u → type_at (types_of p.infos) k ≡ u
  info_typed k u e = ap (λ o. unwrap_or o ty.Int) e

  reads_as : (n : Name) (u : ValType) → InSlot p a t i h j n u ⊎ InInfo p a t i h j n u →
      gives p slots (get_op (slot_of (names_in t h) n) (info_number p n)) ≡ Some u
  reads_as n u (inl e) = ap (λ o. gives p slots (get_op o (info_number p n))) e.1 ∙ ap (λ u. Some u) (slot_typed e.0 u e.2)
  reads_as n u (inr e) =
      let k = e.1 in
      ap (λ o. gives p slots (get_op o (info_number p n))) e.0
      ∙ (ap (λ o. gives p slots (get_op None o)) k.1 ∙ ap (λ u. Some u) (info_typed k.0 u k.2))

  needs_of : (o q : OpCode) (top : ValType) (us : List ValType) → Some o ≡ Some q → needs p slots o top ≡ us →
      needs p slots q top ≡ us
  needs_of o q top us e f = let same : o ≡ q = cc in subst (λ z. needs p slots z top ≡ us) same f

  writes_as : (n : Name) (u : ValType) (o : OpCode) (top : ValType) → InSlot p a t i h j n u ⊎ InInfo p a t i h j n u →
      put_op (slot_of (names_in t h) n) (info_number p n) ≡ Some o → needs p slots o top ≡ u ∷ []
  writes_as n u o top (inl e) f =
      let is : Some (op.Put e.0) ≡ Some o = sym (ap (λ s. put_op s (info_number p n)) e.1) ∙ f in
      needs_of (op.Put e.0) o top (u ∷ []) is (ap (λ u. u ∷ []) (slot_typed e.0 u e.2))
  writes_as n u o top (inr e) f =
      let k = e.1 in
      let is : Some (op.PutInfo k.0) ≡ Some o = sym (ap (λ s. put_op s (info_number p n)) e.0 ∙ ap (put_op None) k.1) ∙ f in
      needs_of (op.PutInfo k.0) o top (u ∷ []) is (ap (λ u. u ∷ []) (info_typed k.0 u k.2))

  nodes_as : (n : Name) (s : ℕ) → InSlot p a t i h j n ty.Node ⊎ InInfo p a t i h j n ty.Node →
      slot_of (names_in t h) n ≡ Some s → type_at slots s ≡ ty.Node
  nodes_as n s (inl e) f = let g = e.1 in let same : e.0 ≡ s = cc in ap (type_at slots) (sym same) ∙ slot_typed e.0 ty.Node e.2
  nodes_as n s (inr e) f = let g = e.0 in cc

  pub slots_fit : SlotsFit p t h slots width
  slots_fit = record {
    reads = λ n u e. reads_as n u (placed p a t i h j n u e);
    source = reads_as (codes "src") ty.Node (inl (sender_slot p a t i h j));
    writes = λ n u o top e f. writes_as n u o top (placed p a t i h j n u e) f;
    nodes = λ n s e f. nodes_as n s (placed p a t i h j n ty.Node e) f;
    sets = λ k l u.
        let same = types-length p a t i h j in
        ap (λ o. unwrap_or o ty.Int) (sets_behind (width - length (types_in p t h)) (types_in p t h) k (omega arith)
        (omega arith));
  }
