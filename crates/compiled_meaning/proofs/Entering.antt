-- What a message means at a block, the code does, and soon.
use Rattle.std.proofs.Common.{◌≡◌, ◌∙◌, ℕ, zero, suc, ◌+◌, ◌*◌, ◌-◌, ◌<◌, ◌≤◌, true, List, [], ◌∷◌, ◌++◌, Some, length}
use Rattle.std.proofs.Common.{length-append, refl, ap, sym, subst, arith, inl, inr, ◌⊎◌}
use Rattle.std.specs.Prelude.{codes, map, replicate, take, Contains}
use Rattle.std.specs.Str.{bytes_eq}
use Rattle.std.proofs.lemmas.List.{length-map}
use Rattle.tw_base.specs.declared.message.Kind.{Kind}
use Rattle.tw_base.specs.declared.message.Kind.TheVariants as kind
use Rattle.tw_base.specs.declared.message.Message.{Message}
use Rattle.tw_base.specs.declared.name.Name.{Name}
use Rattle.tw_base.specs.declared.value.Value.{Value}
use Rattle.tw_base.specs.declared.value.Value.TheVariants as v
use Rattle.teapot_tree.specs.declared.protocol.Handler.{Handler}
use Rattle.teapot_tree.specs.declared.protocol.Param.{Param}
use Rattle.teapot_tree.specs.declared.protocol.Protocol.{Protocol}
use Rattle.teapot_tree.specs.declared.protocol.State.{State}
use Rattle.teapot_tree.specs.declared.protocol.Trigger.{Trigger}
use Rattle.teapot_tree.specs.declared.protocol.Trigger.TheVariants as t
use Rattle.teapot_tree.specs.Rules.{IsAccepted, is_default}
use Rattle.teapot_tree.specs.Scopes.{args_of, taken_message}
use Rattle.teapot_tree.specs.declared.stmt.Stmt.{Stmt}
use Rattle.teapot_meaning.specs.declared.state.Bound.{Bound}
use Rattle.teapot_meaning.specs.declared.state.Ended.{Ended}
use Rattle.teapot_meaning.specs.declared.state.Here.{Here}
use Rattle.teapot_meaning.specs.declared.state.Running.{Running}
use Rattle.teapot_meaning.specs.declared.state.StateVal.{out-StateVal}
use Rattle.teapot_meaning.specs.Does.{Does, bound, local_of, started, vars_of, zero_of}
use Rattle.teapot_meaning.specs.Fits.{Fits, IsMessageOf, IsOf, StateFits, declared_as, fits_below, names_in, type_of, types_of}
use Rattle.teapot_meaning.specs.Handlers.{answers}
use Rattle.teapot_meaning.proofs.Found.{slice_has}
use Rattle.teapot_meaning.proofs.Starting.{Takes, bound_named, found_at, locals_named, taker, takes}
use Rattle.teapot_sends.specs.Counts.{steps}
use Rattle.handler_code.specs.declared.code.Code.{Code}
use Rattle.handler_code.specs.declared.code.Door.{Door}
use Rattle.handler_code.specs.declared.code.OpCode.{OpCode}
use Rattle.handler_code.specs.declared.code.OpCode.TheVariants as op
use Rattle.handler_code.specs.Doors.{Cell, args_taken, door_for, entered, filled, kind_of, locals_of, slots_at, zeros_of}
use Rattle.handler_code.specs.Machine.{Around, Machine, Runs, Saved, StopsOnce, value_at}
use Rattle.compiled_meaning.specs.Compiled.{loops_in, rests_in}
use Rattle.compiled_meaning.specs.Follows.{Follows}
use Rattle.compiled_meaning.specs.Stands.{Agrees, SavesAll, Stands, around_of, names_of, ops_a_step, values_of}
use Rattle.compiled_meaning.specs.Whole.{CellStands, DoesWhatIsMeant, IsCode, TakesFewOpsAt, entries_code, entry_code}
use Rattle.compiled_meaning.proofs.Accepted.{all_fine}
use Rattle.compiled_meaning.proofs.Doors.{DoorOf, door_of_handler, entry}
use Rattle.compiled_meaning.proofs.Handlers.{body_code, entry_follows}
use Rattle.compiled_meaning.proofs.Placed.{loops_in-append}
use Rattle.compiled_meaning.proofs.Steps.{simulation, takes_few}
use Rattle.compiled_meaning.proofs.Vars.{length-values, length_of_names}

-- ---- the values of variables

values-append : (xs ys : List Bound) → values_of (xs ++ ys) ≡ values_of xs ++ values_of ys
values-append [] ys = refl
values-append (x ∷ xs) ys = ap (λ l. x.value ∷ l) (values-append xs ys)

names-append : (xs ys : List Bound) → names_of (xs ++ ys) ≡ names_of xs ++ names_of ys
names-append [] ys = refl
names-append (x ∷ xs) ys = ap (λ l. x.name ∷ l) (names-append xs ys)

values_bound : (ns : List Name) (xs : List Value) → length ns ≡ length xs → values_of (bound ns xs) ≡ xs
values_bound [] [] e = refl
values_bound [] (x ∷ xs) e = absurd (omega arith)
values_bound (n ∷ ns) [] e = absurd (omega arith)
values_bound (n ∷ ns) (x ∷ xs) e = ap (λ l. x ∷ l) (values_bound ns xs (omega arith))

values_locals : (ps : List Param) → values_of (map local_of ps) ≡ zeros_of ps
values_locals [] = refl
values_locals (a ∷ ps) = ap (λ l. zero_of a.ty ∷ l) (values_locals ps)

no_values : (bs : List Bound) → length bs ≡ 0 → values_of bs ≡ []
no_values [] e = refl
no_values (b ∷ bs) e = absurd (omega arith)

-- ---- the arguments of a message

taken_as : (p : Protocol) (k : Kind) (on : Trigger) → answers p k on ≡ true → taken_message p on ≡ declared_as p k
taken_as p kind.RdFault t.RdFault e = refl
taken_as p kind.WrFault t.WrFault e = refl
taken_as p (kind.Named n) (t.Named name) e = found_at (λ m. bytes_eq m.name name) p.messages n e
taken_as p kind.RdFault t.WrFault e = cc
taken_as p kind.RdFault (t.Named name) e = cc
taken_as p kind.RdFault t.Default e = cc
taken_as p kind.WrFault t.RdFault e = cc
taken_as p kind.WrFault (t.Named name) e = cc
taken_as p kind.WrFault t.Default e = cc
taken_as p (kind.Named n) t.RdFault e = cc
taken_as p (kind.Named n) t.WrFault e = cc
taken_as p (kind.Named n) t.Default e = cc

all_taken : (p : Protocol) (k : Kind) (on : Trigger) (m : Message) → answers p k on ≡ true →
    args_taken (kind_of p on) m ≡ take m.arg_count m.args
all_taken p k t.RdFault m e = refl
all_taken p k t.WrFault m e = refl
all_taken p k (t.Named name) m e = refl
all_taken p kind.RdFault t.Default m e = cc
all_taken p kind.WrFault t.Default m e = cc
all_taken p (kind.Named n) t.Default m e = cc

args_values : (p : Protocol) (k : Kind) (on : Trigger) (ns : List Name) (count : ℕ) (m : Message) →
    (answers p k on ≡ true) ⊎ (is_default on ≡ true) → Takes p on ns count (take m.arg_count m.args) m.payload →
    IsOf p count k (take m.arg_count m.args) m.payload → values_of (bound ns (take m.arg_count m.args))
    ≡ args_taken (kind_of p on) m
args_values p k on ns count m (inl e) takes is =
    let xs = take m.arg_count m.args in
    let given : length xs ≡ length (args_of (declared_as p k)) = sym (length-map xs type_of) ∙ ap length is.types in
    let named : length (bound ns xs) ≡ length ns = sym (length-map (bound ns xs) (λ b. b.name)) ∙ ap length takes.named in
    let typed : length (bound ns xs) ≡ length (args_of (taken_message p on)) =
    sym (length-map (bound ns xs) (λ b. type_of b.value)) ∙ ap length takes.typed in
    let alike : length (args_of (taken_message p on)) ≡ length (args_of (declared_as p k)) =
    ap (λ o. length (args_of o)) (taken_as p k on e) in
    values_bound ns xs (sym named ∙ typed ∙ alike ∙ sym given) ∙ sym (all_taken p k on m e)
args_values p k t.Default ns count m (inr e) takes is =
    let xs = take m.arg_count m.args in
    no_values (bound ns xs) (sym (length-map (bound ns xs) (λ b. type_of b.value)) ∙ ap length takes.typed)
args_values p k t.RdFault ns count m (inr e) takes is = cc
args_values p k t.WrFault ns count m (inr e) takes is = cc
args_values p k (t.Named name) ns count m (inr e) takes is = cc

-- ---- the variables of a handler

module _ (p : Protocol) (s : State) (h : Handler) (here : Here) (m : Message) (count : ℕ)
    (few : map type_of (out-StateVal here.state).args ≡ types_of s.params)
    (gets : Takes p h.on h.args count (take m.arg_count m.args) m.payload) where
  alike : length (map (λ (a : Param). a.name) s.params) ≡ length (out-StateVal here.state).args
  alike =
      length-map s.params (λ (a : Param). a.name) ∙ sym (sym (length-map (out-StateVal here.state).args type_of)
      ∙ ap length few ∙ length-map s.params (λ (a : Param). a.ty))

  vars_named : names_of (vars_of s h here m) ≡ names_in s h
  unfolding vars_of
  vars_named =
      let ps = map (λ (a : Param). a.name) s.params in
      let xs = (out-StateVal here.state).args in
      let args = bound h.args (take m.arg_count m.args) in
      let inner : names_of (args ++ map local_of h.locals) ≡ h.args ++ map (λ a. a.name) h.locals =
      names-append args (map local_of h.locals) ∙ ap (λ l. l ++ names_of (map local_of h.locals)) gets.named
      ∙ ap (λ l. h.args ++ l) (locals_named h.locals) in
      ap (λ l. codes "src" ∷ l) (names-append (bound ps xs) (args ++ map local_of h.locals)
      ∙ ap (λ l. l ++ names_of (args ++ map local_of h.locals)) (bound_named ps xs alike) ∙ ap (λ l. ps ++ l) inner)

  vars_valued : (ys : List Value) → values_of (bound h.args (take m.arg_count m.args)) ≡ ys →
      values_of (vars_of s h here m) ≡ v.Node m.from ∷ ((out-StateVal here.state).args ++ (ys ++ zeros_of h.locals))
  unfolding vars_of
  vars_valued ys e =
      let ps = map (λ (a : Param). a.name) s.params in
      let xs = (out-StateVal here.state).args in
      let args = bound h.args (take m.arg_count m.args) in
      let inner : values_of (args ++ map local_of h.locals) ≡ ys ++ zeros_of h.locals =
      values-append args (map local_of h.locals) ∙ ap (λ l. l ++ values_of (map local_of h.locals)) e
      ∙ ap (λ l. ys ++ l) (values_locals h.locals) in
      ap (λ l. v.Node m.from ∷ l) (values-append (bound ps xs) (args ++ map local_of h.locals)
      ∙ ap (λ l. l ++ values_of (args ++ map local_of h.locals)) (values_bound ps xs alike) ∙ ap (λ l. xs ++ l) inner)

-- ---- slots

length_replicate : (n : ℕ) (x : Value) → length (replicate n x) ≡ n
length_replicate zero x = refl
length_replicate (suc n) x = ap suc (length_replicate n x)

value-front : (xs ys : List Value) (k : ℕ) → k < length xs → value_at (xs ++ ys) k ≡ value_at xs k
value-front [] ys k lt = absurd (omega arith)
value-front (x ∷ xs) ys zero lt = refl
value-front (x ∷ xs) ys (suc k) lt = value-front xs ys k (omega arith)

filled_by : (n width : ℕ) (xs : List Value) → n ≡ length xs → filled (n + width) xs ≡ xs ++ replicate width (v.Int 0)
filled_by n width xs e =
    let left : n + width - length xs ≡ width = omega (arith, e) in ap (λ k. xs ++ replicate k (v.Int 0)) left

agrees : (ops : List OpCode) (at width : ℕ) (vars : List Bound) →
    Agrees ops (length (names_of vars) + width) at (values_of vars ++ replicate width (v.Int 0)) vars []
agrees ops at width vars = record {
  sized = omega (
    arith,
    length-append (values_of vars) (replicate width (v.Int 0)),
    length_replicate width (v.Int 0),
    length-values vars,
    length_of_names vars,
  );
  fits = omega (arith, length_of_names vars);
  nested = omega arith;
  live = λ k lt r. value-front (values_of vars) (replicate width (v.Int 0)) k (omega (arith, length-values vars));
  sets = tt;
}

-- ---- the message at the door

-- the message's machine stands at a door before these statements
record AtDoor (p : Protocol) (code : Code) (here : Here) (cell : Cell) (chain : List Saved) (m : Message) (stmts : List Stmt)
    (r : Running) : Type 0 where
  door : Door
  is_door : door_for code cell.state m.kind ≡ Some door
  stands : Stands p code (entered p door here.me here.home here.block here.tag here.words cell chain m) stmts r

module _ (p : Protocol) (code : Code) (a : IsAccepted p) (compiled : IsCode p code) where
  -- the code of a handler, from the place of its door on
  handler_follows : (s : State) (h : Handler) (number : ℕ) (k : Kind) (d : DoorOf p code k number s h) (width : ℕ) →
      width ≡ loops_in (entry_code p (entry number s h) (length (entries_code p d.before))
      (rests_in (entries_code p d.before)) 0) → Follows p (names_in s h) (length (names_in s h) + width) code
      (length (entries_code p d.before)) h.body []
  handler_follows s h number k d width e =
      let room : loops_in (body_code p d.before (entry number s h)) ≤ width =
      omega (arith, e, loops_in-append (body_code p d.before (entry number s h)) (op.Done ∷ [])) in
      entry_follows p code compiled (all_fine p a) d.before d.after (entry number s h) d.are width room

  module _ (here : Here) (cell : Cell) (chain : List Saved) (m : Message) (stands : CellStands p code cell chain here)
      (s : State) (h : Handler) (few : map type_of (out-StateVal here.state).args ≡ types_of s.params)
      (choice : (answers p m.kind h.on ≡ true) ⊎ (is_default h.on ≡ true))
      (gets : Takes p h.on h.args (length here.words) (take m.arg_count m.args) m.payload)
      (is : IsMessageOf p (length here.words) m) (d : DoorOf p code m.kind (out-StateVal here.state).state s h) where
    number : ℕ
    number = (out-StateVal here.state).state

    place : ℕ
    place = length (entries_code p d.before)

    ops : List OpCode
    ops = entry_code p (entry (out-StateVal here.state).state s h) (length (entries_code p d.before))
        (rests_in (entries_code p d.before)) 0

    vars : List Bound
    vars = vars_of s h here m

    names : names_of (vars_of s h here m) ≡ names_in s h
    names = vars_named p s h here m (length here.words) few gets

    -- the slots at the door are the values of the variables, and then 0
    slots : slots_at p d.door cell.args m ≡ values_of (vars_of s h here m) ++ replicate (loops_in ops) (v.Int 0)
    unfolding ops
    slots =
        let on-is : d.door.on ≡ kind_of p h.on = ap (λ x. x.on) d.door-is in
        let count-is : d.door.slots ≡ length (names_in s h) + loops_in ops = ap (λ x. x.slots) d.door-is in
        let given = args_values p m.kind h.on h.args (length here.words) m choice gets is in
        let valued = vars_valued p s h here m (length here.words) few gets (args_taken (kind_of p h.on) m) given in
        let long : length (names_in s h) ≡ length (values_of (vars_of s h here m)) =
        omega (arith, sym (ap length names), length_of_names (vars_of s h here m), length-values (vars_of s h here m)) in
        ap (λ n. filled n (v.Node m.from ∷ (cell.args ++ (args_taken d.door.on m ++ zeros_of (locals_of p d.door))))) count-is
        ∙ ap (λ o. filled (length (names_in s h) + loops_in ops)
        (v.Node m.from ∷ (cell.args ++ (args_taken o m ++ zeros_of (locals_of p d.door))))) on-is
        ∙ ap (λ l. filled (length (names_in s h) + loops_in ops)
        (v.Node m.from ∷ (cell.args ++ (args_taken (kind_of p h.on) m ++ zeros_of l)))) d.locals
        ∙ ap (λ l. filled (length (names_in s h) + loops_in ops)
        (v.Node m.from ∷ (l ++ (args_taken (kind_of p h.on) m ++ zeros_of h.locals)))) stands.state.same_args
        ∙ ap (filled (length (names_in s h) + loops_in ops)) (sym valued)
        ∙ filled_by (length (names_in s h)) (loops_in ops) (values_of (vars_of s h here m)) long

    -- the machine at the door
    at_door : Machine
    at_door = entered p d.door here.me here.home here.block here.tag here.words cell chain m

    follows : Follows p (names_of (vars_of s h here m)) (length (names_of (vars_of s h here m)) + loops_in ops) code d.door.at
        h.body []
    unfolding ops
    follows =
        let f = handler_follows s h (out-StateVal here.state).state m.kind d (loops_in ops) refl in
        let named = subst (λ ns. Follows p ns (length ns + loops_in ops) code (length (entries_code p d.before)) h.body [])
        (sym names) f in
        subst (λ q. Follows p (names_of (vars_of s h here m))
        (length (names_of (vars_of s h here m)) + loops_in ops) code q h.body []) (sym (ap (λ x. x.at) d.door-is)) named

    around : at_door.around ≡ around_of (started s h here m)
    unfolding at_door
    around =
        let with_infos : List Value → Around = λ infos. record (around_of (started s h here m)) { infos = infos } in
        ap with_infos stands.infos

    door_stands : AtDoor p code here cell chain m h.body (started s h here m)
    unfolding at_door
    door_stands = record {
      door = d.door;
      is_door = ap (λ n. door_for code n m.kind) stands.state.same_state ∙ d.found;
      stands = record {
        width = length (names_of (vars_of s h here m)) + loops_in ops;
        loops = [];
        follows = follows;
        carries = record {
          vars = subst (λ l. Agrees code.ops (length (names_of (vars_of s h here m)) + loops_in ops) d.door.at l
              (vars_of s h here m) []) (sym slots) (agrees code.ops d.door.at (loops_in ops) (vars_of s h here m));
          around = around;
          came = refl;
          state = stands.state;
        };
      };
    }

  at_its_door : (here : Here) (cell : Cell) (chain : List Saved) (m : Message) (e : Ended) → Fits p here →
      IsMessageOf p (length here.words) m → CellStands p code cell chain here → (does : Does p here m e) →
      AtDoor p code here cell chain m does.handler.body (started does.state does.handler here m)
  unfolding fits_below
  at_its_door here cell chain m e fits is stands does =
      let count = length here.words in
      let s = does.state in
      let h = does.handler in
      let fit : StateFits p count (fits_below 8 p count) here.state = fits.state in
      let same : fit.state ≡ s = cc (fit.is_state, does.is_state) in
      let i : Contains p.states s = slice_has p.states (out-StateVal here.state).state s does.is_state in
      let took = taker p m.kind s h does.is_handler in
      let few : map type_of (out-StateVal here.state).args ≡ types_of s.params =
      subst (λ z. map type_of (out-StateVal here.state).args ≡ types_of z.params) same fit.args in
      let gets = takes p a m.kind s h count (take m.arg_count m.args) m.payload i took.0 took.1 is in
      let d = door_of_handler p code a compiled m.kind (out-StateVal here.state).state s does.is_state h does.is_handler in
      door_stands here cell chain m stands s h few took.1 gets is d

  -- each rest saves what it reads
  saves_all : SavesAll code
  saves_all r k rest is first = (compiled.live r k rest is).1 first

  pub what_is_meant : DoesWhatIsMeant p code
  what_is_meant here cell chain m e fits is stands does =
      let x = at_its_door here cell chain m e fits is stands does in
      let start = entered p x.door here.me here.home here.block here.tag here.words cell chain m in
      let y = simulation p code saves_all start does.handler.body (started does.state does.handler here m) e x.stands does.goes in
      record { stopped = y.stopped; enters = record { door = x.door; is_door = x.is_door; runs = y.runs }; stands = y.stands }

  pub what_is_meant_soon : StopsOnce p code → TakesFewOpsAt p code
  what_is_meant_soon once here cell chain m e s fits is stands does goes_in =
      let x = at_its_door here cell chain m e fits is stands does in
      let same : goes_in.door ≡ x.door = cc (goes_in.is_door, x.is_door) in
      let start : Door → Machine = λ door. entered p door here.me here.home here.block here.tag here.words cell chain m in
      let runs : Runs p code (start x.door) s = subst (λ q. Runs p code (start q) s) same goes_in.runs in
      let few : s.ops ≤ 0 + ops_a_step code * steps does.goes =
      takes_few p code once saves_all (start x.door) does.handler.body
      (started does.state does.handler here m) e s x.stands does.goes runs in
      omega arith

pub meant : (p : Protocol) (code : Code) → IsAccepted p → IsCode p code → DoesWhatIsMeant p code
meant p code a compiled = what_is_meant p code a compiled

pub meant_soon : (p : Protocol) (code : Code) → StopsOnce p code → IsAccepted p → IsCode p code → TakesFewOpsAt p code
meant_soon p code once a compiled = what_is_meant_soon p code a compiled once
