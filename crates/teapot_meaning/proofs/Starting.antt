-- A message of an accepted protocol starts a handler with variables of their types, and so the block stays fit.
use Rattle.std.proofs.Common.{◌≡◌, ◌∙◌, ℕ, suc, Bool, true, false, not, List, [], ◌∷◌, ◌++◌, Option, Some, None, length, map}
use Rattle.std.proofs.Common.{refl, ap, sym, subst, arith, inl, inr, ◌⊎◌}
use Rattle.std.specs.Prelude.{codes, find, is_some, position, slice_get, take, ◌==◌, Contains}
use Rattle.std.specs.Str.{bytes_eq}
use Rattle.tw_base.specs.declared.message.Kind.{Kind}
use Rattle.tw_base.specs.declared.message.Kind.TheVariants as kind
use Rattle.tw_base.specs.declared.message.Message.{Message}
use Rattle.tw_base.specs.declared.name.Name.{Name}
use Rattle.tw_base.specs.declared.value.Data.{Data}
use Rattle.tw_base.specs.declared.value.Value.{Value}
use Rattle.teapot_tree.specs.declared.protocol.Handler.{Handler}
use Rattle.teapot_tree.specs.declared.protocol.MessageDecl.{MessageDecl}
use Rattle.teapot_tree.specs.declared.protocol.Param.{Param}
use Rattle.teapot_tree.specs.declared.protocol.Protocol.{Protocol}
use Rattle.teapot_tree.specs.declared.protocol.State.{State}
use Rattle.teapot_tree.specs.declared.protocol.Trigger.{Trigger}
use Rattle.teapot_tree.specs.declared.protocol.Trigger.TheVariants.{RdFault, WrFault, Named, Default}
use Rattle.teapot_tree.specs.declared.protocol.ValType.{ValType}
use Rattle.teapot_tree.specs.declared.protocol.ValType.TheVariants as ty
use Rattle.teapot_tree.specs.declared.rule.Rule.TheVariants.{ArgCount}
use Rattle.teapot_tree.specs.Grammar.{NoArgsOf, NoDefaultArgs}
use Rattle.teapot_tree.specs.Rules.{AtHandler, AtStep, IsAccepted, carries, counts_wrongly, has_wrong_count, is_default}
use Rattle.teapot_tree.specs.Rules.{is_message_count}
use Rattle.teapot_tree.specs.Scopes.{args_of, message_number, message_of, taken_message}
use Rattle.teapot_meaning.specs.Does.{Does, bound, local_of, vars_of, zero_of}
use Rattle.teapot_meaning.specs.Fits.{Fits, HasWords, IsMessageOf, IsOf, StateFits, fits_below, type_of, types_of}
use Rattle.teapot_meaning.specs.Handlers.{answers, default_of, handler_in, is_at, own_or}
use Rattle.teapot_meaning.specs.Stays.{FitsAgain, FittingBlocksStayFit}
use Rattle.teapot_meaning.specs.declared.state.Bound.{Bound}
use Rattle.teapot_meaning.specs.declared.state.Ended.{Ended}
use Rattle.teapot_meaning.specs.declared.state.Here.{Here}
use Rattle.teapot_meaning.specs.declared.state.StateVal.{out-StateVal}
use Rattle.teapot_meaning.proofs.Found.{each_at, each_flat, find_has, find_holds, is_false, no_place, place_found, slice_has}
use Rattle.teapot_meaning.proofs.Meanings.{one_meaning}
use Rattle.teapot_meaning.proofs.Sound.{in_handler, sound_body}
use Rattle.teapot_meaning.proofs.Staying.{EndsFit, cont_known, count_is, goes_fit}
use Rattle.teapot_meaning.proofs.Variables.{HasVars, len_map}
use Rattle.teapot_meaning.proofs.Visible.{map_both}

-- ---- names bound to values

pub bound_named : (ns : List Name) (xs : List Value) → length ns ≡ length xs → map (λ b. b.name) (bound ns xs) ≡ ns
bound_named [] xs e = refl
bound_named (n ∷ ns) [] e = absurd (omega arith)
bound_named (n ∷ ns) (x ∷ xs) e = ap (λ ms. n ∷ ms) (bound_named ns xs (omega arith))

bound_typed : (ns : List Name) (xs : List Value) → length ns ≡ length xs →
    map (λ b. type_of b.value) (bound ns xs) ≡ map type_of xs
bound_typed [] [] e = refl
bound_typed [] (x ∷ xs) e = absurd (omega arith)
bound_typed (n ∷ ns) [] e = absurd (omega arith)
bound_typed (n ∷ ns) (x ∷ xs) e = ap (λ ts. type_of x ∷ ts) (bound_typed ns xs (omega arith))

zero_typed : (t : ValType) → type_of (zero_of t) ≡ t
zero_typed ty.Int = refl
zero_typed ty.Bool = refl
zero_typed ty.Node = refl
zero_typed ty.Set = refl

pub locals_named : (ps : List Param) → map (λ b. b.name) (map local_of ps) ≡ map (λ a. a.name) ps
locals_named [] = refl
locals_named (a ∷ ps) = ap (λ ns. a.name ∷ ns) (locals_named ps)

locals_typed : (ps : List Param) → map (λ b. type_of b.value) (map local_of ps) ≡ types_of ps
locals_typed [] = refl
locals_typed (a ∷ ps) = ap (λ t. t ∷ map (λ b. type_of b.value) (map local_of ps)) (zero_typed a.ty)
    ∙ ap (λ ts. a.ty ∷ ts) (locals_typed ps)

-- what a trigger with these names takes of a message
pub record Takes (p : Protocol) (on : Trigger) (names : List Name) (count : ℕ) (args : List Value)
    (payload : Option Data) : Type 0 where
  pub named : map (λ b. b.name) (bound names args) ≡ names
  pub typed : map (λ b. type_of b.value) (bound names args) ≡ args_of (taken_message p on)
  pub brought : carries (taken_message p on) ≡ true → HasWords count payload

vars_typed : (p : Protocol) (s : State) (h : Handler) (here : Here) (m : Message) (count : ℕ) →
    map type_of (out-StateVal here.state).args ≡ types_of s.params →
    Takes p h.on h.args count (take m.arg_count m.args) m.payload
    → map type_of here.infos ≡ types_of p.infos → HasVars p s h here.infos (vars_of s h here m)
unfolding vars_of
vars_typed p s h here m count state takes infos =
    let xs = (out-StateVal here.state).args in
    let ys = take m.arg_count m.args in
    let N : Bound → Name = λ b. b.name in
    let T : Bound → ValType = λ b. type_of b.value in
    let ps = map (λ (a : Param). a.name) s.params in
    let alike : length ps ≡ length xs = omega (
      arith,
      len_map (λ (a : Param). a.name) s.params,
      len_map (λ (a : Param). a.ty) s.params,
      sym (ap length state) ∙ len_map type_of xs,
    ) in
    let names : map N (bound h.args ys ++ map local_of h.locals) ≡ h.args ++ map (λ a. a.name) h.locals =
    map_both N (bound h.args ys) (map local_of h.locals) ∙ ap (λ ns. ns ++ map N (map local_of h.locals)) takes.named
    ∙ ap (λ ns. h.args ++ ns) (locals_named h.locals) in
    let types : map T (bound h.args ys ++ map local_of h.locals) ≡ args_of (taken_message p h.on) ++ types_of h.locals =
    map_both T (bound h.args ys) (map local_of h.locals) ∙ ap (λ ts. ts ++ map T (map local_of h.locals)) takes.typed
    ∙ ap (λ ts. args_of (taken_message p h.on) ++ ts) (locals_typed h.locals) in
    record {
      names = ap (λ ns. codes "src" ∷ ns) (map_both N (bound ps xs) _
          ∙ ap (λ ns. ns ++ map N (bound h.args ys ++ map local_of h.locals)) (bound_named ps xs alike)
          ∙ ap (λ ns. ps ++ ns) names);
      types = ap (λ ts. ty.Node ∷ ts) (map_both T (bound ps xs) _
          ∙ ap (λ ts. ts ++ map T (bound h.args ys ++ map local_of h.locals)) (bound_typed ps xs alike ∙ state)
          ∙ ap (λ ts. types_of s.params ++ ts) types);
      info_types = infos;
    }

-- ---- the handler

pub taker : (p : Protocol) (k : Kind) (s : State) (h : Handler) → handler_in p k s ≡ Some h →
    Contains s.handlers h × ((answers p k h.on ≡ true) ⊎ (is_default h.on ≡ true))
unfolding handler_in
taker p k s h e = by_own (find (λ x. answers p k x.on) s.handlers) refl e
  where
    by_own : (o : Option Handler) → find (λ x. answers p k x.on) s.handlers ≡ o → own_or o (default_of s) ≡ Some h →
        Contains s.handlers h × ((answers p k h.on ≡ true) ⊎ (is_default h.on ≡ true))
    by_own (Some x) f e =
        let same : x ≡ h = cc in
        let g = subst (λ z. find (λ y. answers p k y.on) s.handlers ≡ Some z) same f in
        (find_has _ s.handlers h g, inl (find_holds (λ y. answers p k y.on) s.handlers h g))
    by_own None f e = (find_has _ s.handlers h e, inr (find_holds (λ y. is_default y.on) s.handlers h e))

-- the handler counts its arguments rightly
counts : (p : Protocol) (s : State) (h : Handler) → IsAccepted p → Contains p.states s → Contains s.handlers h →
    counts_wrongly p h.on h.args ≡ false
counts p s h a i j =
    is_false _
    (λ e. a.keeps h.line ArgCount
    (inr (in_handler p s h (λ c. AtHandler (counts_wrongly p c.handler.on c.handler.args) c h.line
    ⊎ AtStep has_wrong_count c h.line) i j (inl (refl, e)))))

-- what stands at its place is what is found
pub found_at : {X : Type 0} (t : X → Bool) (xs : List X) (n : ℕ) → is_at (position t xs) n ≡ true → find t xs ≡ slice_get xs n
found_at t xs n e = by_found (find t xs) refl
  where
    by_found : (o : Option _) → find t xs ≡ o → o ≡ slice_get xs n
    by_found (Some x) h =
        let k = place_found t xs x h in
        let same : k.0 ≡ n = count_is k.0 n (subst (λ q. is_at q n ≡ true) k.1 e) in
        sym k.2 ∙ ap (slice_get xs) same
    by_found None h = let f : is_at None n ≡ true = subst (λ q. is_at q n ≡ true) (no_place t xs h) e in cc

no_names : (ns : List Name) → not (length ns == 0) ≡ false → ns ≡ []
no_names [] e = refl
no_names (n ∷ ns) e = let f : suc (length ns) ≡ 0 = count_is (suc (length ns)) 0 (un_not (suc (length ns) == 0) e) in absurd
    (omega (arith, f))
  where
    un_not : (b : Bool) → not b ≡ false → b ≡ true
    un_not true e = refl
    un_not false e = cc

takes_none : (p : Protocol) (on : Trigger) (ns : List Name) (count : ℕ) (args : List Value) (payload : Option Data) →
    taken_message p on ≡ None → ns ≡ [] → Takes p on ns count args payload
takes_none p on ns count args payload e f = record {
  named = subst (λ ms. map (λ b. b.name) (bound ms args) ≡ ms) (sym f) refl;
  typed = subst (λ ms. map (λ b. type_of b.value) (bound ms args) ≡ args_of (taken_message p on)) (sym f) (sym (ap args_of e));
  brought = λ g. let h : carries None ≡ true = subst (λ o. carries o ≡ true) e g in cc;
}

-- a message that the trigger names
takes_it : (p : Protocol) (name : Name) (ns : List Name) (n count : ℕ) (args : List Value) (payload : Option Data) →
    is_at (message_number p name) n ≡ true → not (is_message_count (message_of p name) (length ns)) ≡ false →
    IsOf p count (kind.Named n) args payload → Takes p (Named name) ns count args payload
takes_it p name ns n count args payload at counted is =
    let same : message_of p name ≡ slice_get p.messages n = found_at (λ m. bytes_eq m.name name) p.messages n at in
    let types : map type_of args ≡ args_of (message_of p name) = is.types ∙ ap args_of (sym same) in
    let few : length ns ≡ length args = by_message (message_of p name)
    (subst (λ o. is_some o ≡ true) (sym same) is.known) counted types in
    record {
      named = bound_named ns args few;
      typed = bound_typed ns args few
          ∙ types;
      brought = λ e. is.carried (sym (ap carries same) ∙ e);
    }
  where
    un_not : (b : Bool) → not b ≡ false → b ≡ true
    un_not true e = refl
    un_not false e = cc

    by_message : (o : Option MessageDecl) → is_some o ≡ true → not (is_message_count o (length ns)) ≡ false →
        map type_of args ≡ args_of o → length ns ≡ length args
    by_message (Some d) k counted types =
        omega (arith, count_is (length ns) (length d.args) (un_not _ counted), sym (len_map type_of args) ∙ ap length types)
    by_message None k counted types = cc

takes_by : (p : Protocol) (k : Kind) (on : Trigger) (ns : List Name) (count : ℕ) (args : List Value) (payload : Option Data) →
    answers p k on ≡ true → counts_wrongly p on ns ≡ false → IsOf p count k args payload → Takes p on ns count args payload
takes_by p kind.RdFault RdFault ns count args payload e w is = takes_none p RdFault ns count args payload refl (no_names ns w)
takes_by p kind.WrFault WrFault ns count args payload e w is = takes_none p WrFault ns count args payload refl (no_names ns w)
takes_by p (kind.Named n) (Named name) ns count args payload e w is = takes_it p name ns n count args payload e w is
takes_by p kind.RdFault WrFault ns count args payload e w is = cc
takes_by p kind.RdFault (Named name) ns count args payload e w is = cc
takes_by p kind.RdFault Default ns count args payload e w is = cc
takes_by p kind.WrFault RdFault ns count args payload e w is = cc
takes_by p kind.WrFault (Named name) ns count args payload e w is = cc
takes_by p kind.WrFault Default ns count args payload e w is = cc
takes_by p (kind.Named n) RdFault ns count args payload e w is = cc
takes_by p (kind.Named n) WrFault ns count args payload e w is = cc
takes_by p (kind.Named n) Default ns count args payload e w is = cc

-- all else, by a default
takes_else : (p : Protocol) (on : Trigger) (ns : List Name) (count : ℕ) (args : List Value) (payload : Option Data) →
    is_default on ≡ true → NoArgsOf on ns → Takes p on ns count args payload
takes_else p RdFault ns count args payload e f = cc
takes_else p WrFault ns count args payload e f = cc
takes_else p (Named name) ns count args payload e f = cc
takes_else p Default ns count args payload e f = takes_none p Default ns count args payload refl f

pub takes : (p : Protocol) (a : IsAccepted p) (k : Kind) (s : State) (h : Handler) (count : ℕ) (args : List Value)
    (payload : Option Data) → Contains p.states s → Contains s.handlers h →
    (answers p k h.on ≡ true) ⊎ (is_default h.on ≡ true) → IsOf p count k args payload → Takes p h.on h.args count args payload
takes p a k s h count args payload i j (inl e) is = takes_by p k h.on h.args count args payload e (counts p s h a i j) is
takes p a k s h count args payload i j (inr e) is = takes_else p h.on h.args count args payload e
    (each_at NoDefaultArgs s.handlers h j (each_flat NoDefaultArgs
    (λ (d : State). d.handlers) p.states s i a.tree.default_args))

-- ---- the law

does_end : (p : Protocol) (here : Here) (m : Message) (e : Ended) → IsAccepted p → Fits p here →
    IsMessageOf p (length here.words) m → Does p here m e → EndsFit p (length here.words) e
unfolding fits_below
does_end p here m e a fits is d =
    let count = length here.words in
    let s = d.state in
    let h = d.handler in
    let fit : StateFits p count (fits_below 8 p count) here.state = fits.state in
    let same : fit.state ≡ s = cc (fit.is_state, d.is_state) in
    let i : Contains p.states s = slice_has p.states (out-StateVal here.state).state s d.is_state in
    let took = taker p m.kind s h d.is_handler in
    let args : map type_of (out-StateVal here.state).args ≡ types_of s.params =
    subst (λ z. map type_of (out-StateVal here.state).args ≡ types_of z.params) same fit.args in
    let known : is_some s.cont ≡ is_some (out-StateVal here.state).cont =
    subst (λ z. is_some z.cont ≡ is_some (out-StateVal here.state).cont) same
    (cont_known p count (fits_below 8 p count) fit.state (out-StateVal here.state).cont fit.cont) in
    let gets = takes p a m.kind s h count (take m.arg_count m.args) m.payload i took.0 took.1 is in
    goes_fit p a count s h d.goes
    (record { in_states = i; in_handlers = took.0; sound = sound_body p s h a i took.0; left = λ last f. f })
    (record {
      has = vars_typed p s h here m count args gets fits.infos;
      brought = gets.brought;
      fits = fits.state;
      cont = sym known;
      words = refl;
      sent = tt;
    })

-- for the crates above
pub fits_again : (p : Protocol) (here : Here) (m : Message) (e : Ended) → IsAccepted p → Fits p here →
    IsMessageOf p (length here.words) m → Does p here m e → FitsAgain p here e
fits_again p here m e a fits is d =
    let ends = does_end p here m e a fits is d in
    record {
      fits = record { state = subst (λ n. fits_below 9 p n e.here.state) (sym ends.words) ends.fits; infos = ends.infos };
      words = ends.words;
      sends = ends.sent;
    }

pub fitting_blocks_stay_fit : FittingBlocksStayFit
fitting_blocks_stay_fit p here m a fits is =
    let one = one_meaning p here m a fits in
    record { meaning = one; again = fits_again p here m one.end a fits is one.does }
