-- Each step of the meaning is matched by few ops of the machine.
use Rattle.std.proofs.Common.{◌≡◌, ℕ, ◌+◌, ◌*◌, ◌-◌, ◌<◌, ◌≤◌, List, [], ◌∷◌, ◌++◌, length, Option, Some, None, Bool, true}
use Rattle.std.proofs.Common.{false, inl, inr, refl, sym, ap, subst, ◌∙◌, reverse, take, drop, arith}
use Rattle.std.proofs.Math.Nat.{le_refl}
use Rattle.std.proofs.lemmas.Option.{slice_get_within}
use Rattle.std.specs.Prelude.{if◌then◌else◌, map, nat_le, slice_get, slice_set, unwrap_or}
use Rattle.tw_base.specs.NodeSets.{without}
use Rattle.tw_base.specs.declared.name.Name.{Name}
use Rattle.tw_base.specs.declared.value.Value.{Value}
use Rattle.tw_base.specs.declared.value.Value.TheVariants as v
use Rattle.teapot_tree.specs.declared.expr.Expr.{Expr}
use Rattle.teapot_tree.specs.declared.protocol.Protocol.{Protocol}
use Rattle.teapot_tree.specs.declared.stmt.Do.TheOpen.{Do-F}
use Rattle.teapot_tree.specs.declared.stmt.Stmt.{Stmt}
use Rattle.teapot_meaning.specs.Layers.{Layer, what_of}
use Rattle.teapot_meaning.specs.Names.{declared, error_number, info_number}
use Rattle.teapot_tree.specs.Scopes.{message_number, state_number}
use Rattle.teapot_meaning.specs.declared.state.Cont.{Cont, out-Cont, roll-Cont}
use Rattle.tw_base.specs.declared.entry.End.TheVariants.{Fine, Failed, TooDeep}
use Rattle.teapot_meaning.specs.declared.state.Ended.{Ended}
use Rattle.teapot_meaning.specs.declared.state.Kept.TheVariants.{Stale}
use Rattle.teapot_meaning.specs.declared.state.Next.{Next as Step}
use Rattle.teapot_meaning.specs.declared.state.Next.TheVariants.{On, Over}
use Rattle.teapot_meaning.specs.declared.state.Running.{Running}
use Rattle.teapot_meaning.specs.declared.state.StateVal.{out-StateVal, roll-StateVal}
use Rattle.teapot_meaning.specs.Goes.{Goes, ends as over, goes_on}
use Rattle.teapot_meaning.specs.Steps.{each, least_of, set_of, turned, turns as turning, assigned, assigned_at, branch, ended}
use Rattle.teapot_meaning.specs.Steps.{led_to, moved, next_of, place_of, resumes, sent, sent_all, suspends, tagged}
use Rattle.teapot_meaning.specs.Steps as meaning
use Rattle.teapot_meaning.specs.Values.{value_of}
use Rattle.teapot_sends.specs.Counts.{steps}
use Rattle.handler_code.specs.declared.code.Code.{Code}
use Rattle.handler_code.specs.declared.code.OpCode.{OpCode}
use Rattle.handler_code.specs.declared.code.OpCode.TheVariants as op
use Rattle.handler_code.specs.declared.code.Rest.{Rest}
use Rattle.handler_code.specs.Live.{HasOp, LeadsTo, reads}
use Rattle.handler_code.specs.Machine.{Around, Machine, Next, Stop, Runs, Saved, Stopped, StopsOnce, act_at, below, counted}
use Rattle.handler_code.specs.Machine.{freeing, landing, message_arity, move_of, place_of_rest, resumed, saved_values, turn}
use Rattle.handler_code.specs.Machine.{state_arity, stopped, suspended, top, value_at, with_send, with_sends}
use Rattle.handler_code.specs.Machine as machine
use Rattle.compiled_meaning.specs.Follows.{Evaluates, EvaluatesAll, Follows, Loop, Nested, begins, ends_loop, turns, jumps_back}
use Rattle.compiled_meaning.specs.Follows.{ends, jumps, plain, assigns, branches, sends, sends_all, moves, suspends as leaves}
use Rattle.compiled_meaning.specs.Follows.{resumes as returns, fails, plain_op, put_op, slot_of}
use Rattle.compiled_meaning.specs.Stands.{Agrees, ChainStands, none, some, Carries, EndStands, SavesAll, Simulates, Stands}
use Rattle.compiled_meaning.specs.Stands.{StateStands, TakesFewOps, around_of, names_of, ops_a_step}
use Rattle.compiled_meaning.proofs.Vars.{names-set, place_within, slot-place}
use Rattle.compiled_meaning.proofs.Agree.{agrees_end, agrees_new, agrees_set, agrees_turn}
use Rattle.compiled_meaning.proofs.Exprs.{Comes, after_expr, agrees_on, both_straight, expr_yields, one}
use Rattle.compiled_meaning.proofs.Args.{after_all, all_yield, dropped, length_values, taken}
use Rattle.compiled_meaning.proofs.Firsts.{args_begin_no_loop, expr_begins_no_loop, plain_begins_no_loop}
use Rattle.compiled_meaning.proofs.Chains.{chained, depth-length, rolled, saved_agree}

-- the machine comes to stand before these statements, within so many ops
pub record Reaches (p : Protocol) (code : Code) (m : Machine) (rest : List Stmt) (after : Running) (n : ℕ) : Type 0 where
  pub machine : Machine
  pub comes : Comes p code m machine
  pub stands : Stands p code machine rest after
  pub few : machine.ops ≤ m.ops + n

-- the machine comes to an end that stands for this one, within so many ops
pub record EndsWithin (p : Protocol) (code : Code) (m : Machine) (e : Ended) (n : ℕ) : Type 0 where
  pub stopped : Stopped
  pub runs : Runs p code m stopped
  pub stands : EndStands p code stopped e
  pub few : stopped.ops ≤ m.ops + n

abbrev pub Matched : Protocol → Code → Machine → Step → ℕ → Type 0
Matched p code m (On rest after) n = Reaches p code m rest after n
Matched p code m (Over e) n = EndsWithin p code m e n

few_before : (start middle last a b : ℕ) → middle + b ≤ start + a → last ≤ middle + b → last ≤ start + a
few_before start middle last a b le few = omega arith

-- what the second machine is matched by within `b` ops, the first is within `a`
matched_before : (p : Protocol) (code : Code) (m n : Machine) (x : Step) (a b : ℕ) → Comes p code m n → n.ops + b ≤ m.ops + a →
    Matched p code n x b → Matched p code m x a
matched_before p code m n (On rest after) a b c le y =
    record {
      machine = y.machine;
      comes = λ s z. c s (y.comes s z);
      stands = y.stands;
      few = few_before m.ops n.ops y.machine.ops a b le y.few;
    }
matched_before p code m n (Over e) a b c le d =
    record {
      stopped = d.stopped;
      runs = c d.stopped d.runs;
      stands = d.stands;
      few = few_before m.ops n.ops d.stopped.ops a b le d.few;
    }

matched_within : (p : Protocol) (code : Code) (m : Machine) (x : Step) (a b : ℕ) → b ≤ a → Matched p code m x b →
    Matched p code m x a
matched_within p code m x a b le y =
    let more : m.ops + b ≤ m.ops + a = omega arith in matched_before p code m m x a b (λ s z. z) more y

module _ (p : Protocol) (code : Code) (width : ℕ) (loops : List Loop) where
  by_what : (m : Machine) (s : Stmt) (rest : List Stmt) (r : Running) (l : Layer) (n : ℕ) → what_of s ≡ l →
      Matched p code m (led_to p l rest r) n → Matched p code m (next_of p (s ∷ rest) r) n
  by_what m s rest r l n d y = subst (λ x. Matched p code m (led_to p x rest r) n) (sym d) y

  -- a machine with other slots, and the place after an op that writes nothing
  carries_on : (r : Running) (m : Machine) (at next : ℕ) (o : OpCode) → HasOp code.ops at o → LeadsTo o at next None →
      Carries p code width at m r loops → Carries p code width next m r loops
  carries_on r m at next o h l g =
      record {
        vars = agrees_on code.ops width at next o m.slots r.vars loops h l g.vars;
        around = g.around;
        came = g.came;
        state = g.state;
      }

  carries_expr : (r : Running) (m : Machine) {at after : ℕ} {e : Expr} → Evaluates p (names_of r.vars) code.ops at e after →
      Carries p code width at m r loops → Carries p code width after m r loops
  carries_expr r m x g =
      record {
        vars = after_expr p (names_of r.vars) code.ops width loops m.slots r.vars x g.vars;
        around = g.around;
        came = g.came;
        state = g.state;
      }

  carries_all : (r : Running) (m : Machine) {at after : ℕ} {es : List Expr} →
      EvaluatesAll p (names_of r.vars) code.ops at es after → Carries p code width at m r loops →
      Carries p code width after m r loops
  carries_all r m x g =
      record {
        vars = after_all p (names_of r.vars) code.ops width loops m.slots r.vars x g.vars;
        around = g.around;
        came = g.came;
        state = g.state;
      }

  plain_matched : (r : Running) (m : Machine) (at : ℕ) (l : Layer) (rest : List Stmt) (o : OpCode) → plain_op l ≡ Some o →
      HasOp code.ops at o → Follows p (names_of r.vars) width code (at + 1) rest loops → Carries p code width at m r loops →
      Matched p code (record m { at = at }) (led_to p l rest r) 1
  unfolding tagged
  plain_matched r m at (Do-F.SetTag tag) rest o e h f g =
      let same : o ≡ op.Tag tag = cc in
      let k = subst (HasOp code.ops at) same h in
      record {
        machine = record m { at = at + 1; around = record m.around { tag = tag }; ops = m.ops + 1 };
        comes = one p code (op.Tag tag) (record m { at = at }) _ k refl;
        few = le_refl (m.ops + 1);
        stands = record {
          width = width;
          loops = loops;
          follows = f;
          carries = record {
            vars = agrees_on code.ops width at (at + 1) (op.Tag tag) m.slots r.vars loops k (refl, refl) g.vars;
            around = ap {A = Around} (λ a. record a { tag = tag }) g.around;
            came = g.came;
            state = g.state;
          };
        };
      }
  plain_matched r m at Do-F.Install rest o e h f g =
      let same : o ≡ op.Install = cc in
      let k = subst (HasOp code.ops at) same h in
      record {
        machine = record m { at = at + 1; around = record m.around { words = unwrap_or m.came m.around.words }; ops = m.ops + 1 };
        comes = one p code op.Install (record m { at = at }) _ k refl;
        few = le_refl (m.ops + 1);
        stands = record {
          width = width;
          loops = loops;
          follows = f;
          carries = record {
            vars = agrees_on code.ops width at (at + 1) op.Install m.slots r.vars loops k (refl, refl) g.vars;
            around = ap {A = Around} (λ a. record a { words = unwrap_or m.came a.words }) g.around
                ∙ ap (λ c. record (around_of r) { words = unwrap_or c r.here.words }) g.came;
            came = g.came;
            state = g.state;
          };
        };
      }
  plain_matched r m at Do-F.Enqueue rest o e h f g =
      let same : o ≡ op.Enqueue = cc in
      let k = subst (HasOp code.ops at) same h in
      record {
        machine = record m { at = at + 1; around = record m.around { kept = Stale }; ops = m.ops + 1 };
        comes = one p code op.Enqueue (record m { at = at }) _ k refl;
        few = le_refl (m.ops + 1);
        stands = record {
          width = width;
          loops = loops;
          follows = f;
          carries = record {
            vars = agrees_on code.ops width at (at + 1) op.Enqueue m.slots r.vars loops k (refl, refl) g.vars;
            around = ap {A = Around} (λ a. record a { kept = Stale }) g.around;
            came = g.came;
            state = g.state;
          };
        };
      }
  plain_matched r m at Do-F.WakeUp rest o e h f g =
      let same : o ≡ op.Wake = cc in
      let k = subst (HasOp code.ops at) same h in
      record {
        machine = record m { at = at + 1; around = record m.around { woke = true }; ops = m.ops + 1 };
        comes = one p code op.Wake (record m { at = at }) _ k refl;
        few = le_refl (m.ops + 1);
        stands = record {
          width = width;
          loops = loops;
          follows = f;
          carries = record {
            vars = agrees_on code.ops width at (at + 1) op.Wake m.slots r.vars loops k (refl, refl) g.vars;
            around = ap {A = Around} (λ a. record a { woke = true }) g.around;
            came = g.came;
            state = g.state;
          };
        };
      }
  plain_matched r m at (Do-F.Assign name x) rest o e h f g = cc
  plain_matched r m at (Do-F.If x first second) rest o e h f g = cc
  plain_matched r m at (Do-F.Send to name args) rest o e h f g = cc
  plain_matched r m at (Do-F.SendAll to name args) rest o e h f g = cc
  plain_matched r m at (Do-F.SetState name args) rest o e h f g = cc
  plain_matched r m at (Do-F.Suspend label name args passed) rest o e h f g = cc
  plain_matched r m at (Do-F.ForEach name x body) rest o e h f g = cc
  plain_matched r m at (Do-F.Each name set body) rest o e h f g = cc
  plain_matched r m at (Do-F.Resume name) rest o e h f g = cc
  plain_matched r m at (Do-F.Error name) rest o e h f g = cc

  assign_matched : (r : Running) (m : Machine) (at : ℕ) (rest : List Stmt) (name : Name) (x : Value) (i j : Option ℕ)
      (o : OpCode) → slot_of (names_of r.vars) name ≡ i → info_number p name ≡ j → put_op i j ≡ Some o → HasOp code.ops at o →
      Follows p (names_of r.vars) width code (at + 1) rest loops → Carries p code width at m r loops →
      Matched p code (record m { at = at; stack = x ∷ m.stack }) (On rest (assigned p r name x)) 1
  unfolding assigned
  assign_matched r m at rest name x (Some k) j o a b c h f g =
      let same : o ≡ op.Put k = cc in
      let z = subst (HasOp code.ops at) same h in
      let place : place_of name r.vars ≡ Some k = slot-place name r.vars ∙ a in
      let start : Machine = record m { at = at; stack = x ∷ m.stack } in
      let done : Reaches p code start rest (record r { vars = slice_set r.vars k (record { name = name; value = x }) }) 1 =
      record {
        machine = record m { at = at + 1; slots = slice_set m.slots k x; ops = m.ops + 1 };
        comes = one p code (op.Put k) start _ z refl;
        few = le_refl (m.ops + 1);
        stands = record {
          width = width;
          loops = loops;
          follows = subst (λ names. Follows p names width code (at + 1) rest loops) (sym (names-set r.vars name k x place)) f;
          carries = record {
            vars = agrees_set code.ops width m.slots r.vars loops at (at + 1) k (op.Put k) name x z (refl, refl)
                (place_within r.vars name k place) (names-set r.vars name k x place) g.vars;
            around = g.around;
            came = g.came;
            state = g.state;
          };
        };
      } in
      subst (λ q. Reaches p code start rest (assigned_at r name x q (info_number p name)) 1) (sym place) done
  assign_matched r m at rest name x None (Some i) o a b c h f g =
      let same : o ≡ op.PutInfo i = cc in
      let z = subst (HasOp code.ops at) same h in
      let place : place_of name r.vars ≡ None = slot-place name r.vars ∙ a in
      let start : Machine = record m { at = at; stack = x ∷ m.stack } in
      let done : Reaches p code start rest (record r { here = record r.here { infos = slice_set r.here.infos i x } }) 1 = record {
        machine = record m { at = at + 1; around = record m.around { infos = slice_set m.around.infos i x }; ops = m.ops + 1 };
        comes = one p code (op.PutInfo i) start _ z refl;
        few = le_refl (m.ops + 1);
        stands = record {
          width = width;
          loops = loops;
          follows = f;
          carries = record {
            vars = agrees_on code.ops width at (at + 1) (op.PutInfo i) m.slots r.vars loops z (refl, refl) g.vars;
            around = ap {A = Around} (λ q. record q { infos = slice_set q.infos i x }) g.around;
            came = g.came;
            state = g.state;
          };
        };
      } in
      subst (λ q. Reaches p code start rest (assigned_at r name x q (info_number p name)) 1) (sym place)
      (subst (λ q. Reaches p code start rest (assigned_at r name x None q) 1) (sym b) done)
  assign_matched r m at rest name x None None o a b c h f g = cc

  landed : (r : Running) (m : Machine) (at to : ℕ) (x : Value) (stmts : List Stmt) → HasOp code.ops at (op.JumpIfNot to) →
      LeadsTo (op.JumpIfNot to) at (landing x (at + 1) to) None →
      Follows p (names_of r.vars) width code (landing x (at + 1) to) stmts loops → Carries p code width at m r loops →
      Reaches p code (record m { at = at; stack = x ∷ m.stack }) stmts r 1
  landed r m at to x stmts h l f g = record {
    machine = record m { at = landing x (at + 1) to; ops = m.ops + 1 };
    comes = one p code (op.JumpIfNot to) (record m { at = at; stack = x ∷ m.stack }) _ h refl;
    few = le_refl (m.ops + 1);
    stands = record {
      width = width;
      loops = loops;
      follows = f;
      carries = record {
        vars = agrees_on code.ops width at (landing x (at + 1) to) (op.JumpIfNot to) m.slots r.vars loops h l g.vars;
        around = g.around;
        came = g.came;
        state = g.state;
      };
    };
  }

  branch_matched : (r : Running) (m : Machine) (at to : ℕ) (rest first : List Stmt) (second : Option (List Stmt)) (x : Value) →
      HasOp code.ops at (op.JumpIfNot to) → Follows p (names_of r.vars) width code (at + 1) (first ++ rest) loops →
      Follows p (names_of r.vars) width code to (unwrap_or second [] ++ rest) loops → Carries p code width at m r loops →
      Matched p code (record m { at = at; stack = x ∷ m.stack }) (On (branch x first second ++ rest) r) 1
  unfolding branch
  branch_matched r m at to rest first second (v.Bool true) h f k g =
      landed r m at to (v.Bool true) (first ++ rest) h (inr refl, refl) f g
  branch_matched r m at to rest first second (v.Bool false) h f k g =
      landed r m at to (v.Bool false) (unwrap_or second [] ++ rest) h (inl refl, refl) k g
  branch_matched r m at to rest first second (v.Int n) h f k g =
      landed r m at to (v.Int n) (unwrap_or second [] ++ rest) h (inl refl, refl) k g
  branch_matched r m at to rest first second (v.Node n) h f k g =
      landed r m at to (v.Node n) (unwrap_or second [] ++ rest) h (inl refl, refl) k g
  branch_matched r m at to rest first second (v.Set n) h f k g =
      landed r m at to (v.Set n) (unwrap_or second [] ++ rest) h (inl refl, refl) k g

  record Offers (r : Running) (m : Machine) (at after : ℕ) (to : Expr) (args : List Expr) : Type 0 where
    ops : ℕ
    straight : ops + at ≡ m.ops + after
    comes : Comes p code (record m { at = at }) (record m {
      at = after;
      stack = reverse (map (value_of p r) args) ++ (value_of p r to ∷ m.stack);
      ops = ops;
    })
    carries : Carries p code width after (record m { at = after; ops = ops }) r loops

  -- the receiver and the arguments of a message are on the stack
  offered : (r : Running) (m : Machine) {at middle after : ℕ} {to : Expr} {args : List Expr} →
      Evaluates p (names_of r.vars) code.ops at to middle → EvaluatesAll p (names_of r.vars) code.ops middle args after →
      Carries p code width at m r loops → Offers r m at after to args
  offered r m {at = at} {middle = middle} {after = after} {to = to} {args = args} x xs g =
      let y = expr_yields p code width loops r m x g.vars g.around in
      let n : Machine = record m { at = middle; stack = value_of p r to ∷ m.stack; ops = y.ops } in
      let i = carries_expr r m x g in
      let w = all_yield p code width loops r n xs i.vars i.around in
      let j = carries_all r m xs i in
      record {
        ops = w.ops;
        straight = both_straight y.ops w.ops m.ops at middle after y.straight w.straight;
        comes = λ e z. y.comes e (w.comes e z);
        carries = record { vars = j.vars; around = j.around; came = j.came; state = j.state };
      }

  send_matched : (r : Running) (m : Machine) (at number : ℕ) (rest : List Stmt) (to : Value) (xs : List Value) →
      HasOp code.ops at (op.Send number) → message_arity (slice_get p.messages number) ≡ length xs →
      Follows p (names_of r.vars) width code (at + 1) rest loops → Carries p code width at m r loops →
      Matched p code (record m { at = at; stack = reverse xs ++ (to ∷ m.stack) }) (On rest (sent p r to number xs)) 1
  unfolding sent
  send_matched r m at number rest to xs h e f g =
      let stack = reverse xs ++ (to ∷ m.stack) in
      let count = message_arity (slice_get p.messages number) in
      record {
        machine =
            record m {
              at = at + 1;
              around = with_send p m.around (top (drop count stack)) number (reverse (take count stack));
              stack = below (drop count stack);
              ops = m.ops + 1;
            };
        comes = one p code (op.Send number) (record m { at = at; stack = stack }) _ h refl;
        few = le_refl (m.ops + 1);
        stands = record {
          width = width;
          loops = loops;
          follows = f;
          carries = record {
            vars = agrees_on code.ops width at (at + 1) (op.Send number) m.slots r.vars loops h (refl, refl) g.vars;
            around =
                ap (λ d. with_send p m.around (top d) number (reverse (take count stack))) (dropped xs (to ∷ m.stack) count e)
                ∙ ap (with_send p m.around to number) (taken xs (to ∷ m.stack) count e)
                ∙ ap (λ a. with_send p a to number xs) g.around;
            came = g.came;
            state = g.state;
          };
        };
      }

  send_all_matched : (r : Running) (m : Machine) (at number : ℕ) (rest : List Stmt) (to : Value) (xs : List Value) →
      HasOp code.ops at (op.SendAll number) → message_arity (slice_get p.messages number) ≡ length xs →
      Follows p (names_of r.vars) width code (at + 1) rest loops → Carries p code width at m r loops →
      Matched p code (record m { at = at; stack = reverse xs ++ (to ∷ m.stack) }) (On rest (sent_all p r to number xs)) 1
  unfolding sent_all
  send_all_matched r m at number rest to xs h e f g =
      let stack = reverse xs ++ (to ∷ m.stack) in
      let count = message_arity (slice_get p.messages number) in
      record {
        machine =
            record m {
              at = at + 1;
              around = with_sends p m.around (top (drop count stack)) number
                  (reverse (take count stack));
              stack = below (drop count stack);
              ops = m.ops + 1;
            };
        comes = one p code (op.SendAll number) (record m { at = at; stack = stack }) _ h refl;
        few = le_refl (m.ops + 1);
        stands = record {
          width = width;
          loops = loops;
          follows = f;
          carries = record {
            vars = agrees_on code.ops width at (at + 1) (op.SendAll number) m.slots r.vars loops h (refl, refl) g.vars;
            around =
                ap (λ d. with_sends p m.around (top d) number (reverse (take count stack))) (dropped xs (to ∷ m.stack) count e)
                ∙ ap (with_sends p m.around to number) (taken xs (to ∷ m.stack) count e)
                ∙ ap (λ a. with_sends p a to number xs) g.around;
            came = g.came;
            state = g.state;
          };
        };
      }

  move_matched : (r : Running) (m : Machine) (at number : ℕ) (rest : List Stmt) (xs : List Value) →
      HasOp code.ops at (op.Goto number) → state_arity (slice_get p.states number) ≡ length xs →
      Follows p (names_of r.vars) width code (at + 1) rest loops → Carries p code width at m r loops →
      Matched p code (record m { at = at; stack = reverse xs ++ m.stack }) (On rest (moved r number xs)) 1
  unfolding moved
  move_matched r m at number rest xs h e f g =
      let stack = reverse xs ++ m.stack in
      let count = state_arity (slice_get p.states number) in
      record {
        machine = record m {
          at = at + 1;
          around = freeing m.around;
          state = number;
          args = reverse (take count stack);
          stack = drop count stack;
          ops = m.ops + 1;
        };
        comes = one p code (op.Goto number) (record m { at = at; stack = stack }) _ h refl;
        few = le_refl (m.ops + 1);
        stands = record {
          width = width;
          loops = loops;
          follows = f;
          carries = record {
            vars = agrees_on code.ops width at (at + 1) (op.Goto number) m.slots r.vars loops h (refl, refl) g.vars;
            around = ap freeing g.around;
            came = g.came;
            state =
                subst (λ l. StateStands p code number l m.chain
                (roll-StateVal (record { state = number; args = xs; cont = (out-StateVal r.here.state).cont })))
                (sym (taken xs m.stack count e)) (rolled p code m.chain
                (record { state = number; args = xs; cont = (out-StateVal r.here.state).cont }) g.state.conts);
          };
        };
      }

  suspend_matched : SavesAll code → (r : Running) (m : Machine) (at number n : ℕ) (rest : List Stmt) (saved : Rest)
      (xs : List Value) → HasOp code.ops at (op.Suspend number n) → state_arity (slice_get p.states number) ≡ length xs →
      slice_get code.rests n ≡ Some saved → saved.at ≡ at + 1 → Follows p (names_of r.vars) width code (at + 1) rest loops →
      Carries p code width at m r loops → Matched p code (record m { at = at; stack = reverse xs ++ m.stack })
      (suspends r number xs rest) 1
  unfolding suspends ended
  suspend_matched lives r m at number n rest saved xs h e k w f g =
      subst (λ d. Matched p code start (if nat_le 8 d then Over (ended r TooDeep)
      else Over (ended (meaning.suspended r number xs rest) Fine)) 1)
      (sym (depth-length p code m.chain r.here.state g.state.conts)) (by_depth (nat_le 8 (length m.chain)) refl)
    where
      start : Machine
      start = record m { at = at; stack = reverse xs ++ m.stack }

      args : List Value
      args = reverse (take (state_arity (slice_get p.states number)) (reverse xs ++ m.stack))

      first : Saved
      first = record {
        rest = n;
        values = saved_values (slice_get code.rests n) m.slots;
        came = m.came;
        state = m.state;
        args = m.args;
      }

      move : (b : Bool) → nat_le 8 (length m.chain) ≡ b → move_of p code start
          ≡ (if b then Stop (stopped (counted start) TooDeep)
          else Stop (stopped (suspended code (counted start) number args n) Fine))
      move b z =
          ap (λ q. act_at p code q start) h ∙ ap (λ b. if b then Stop (stopped (counted start) TooDeep)
          else Stop (stopped (suspended code (counted start) number args n) Fine)) z

      agree : Agrees code.ops width saved.at first.values r.vars loops
      agree =
          subst (λ o. Agrees code.ops width saved.at (saved_values o m.slots) r.vars loops) (sym k)
          (saved_agree code.ops width saved m.slots r.vars loops (λ j z. lives n j saved k z)
          (subst (λ a. Agrees code.ops width a m.slots r.vars loops) (sym w)
          (agrees_on code.ops width at (at + 1) (op.Suspend number n) m.slots r.vars loops h (refl, refl) g.vars)))

      chain : ChainStands p code (first ∷ m.chain)
          (Some (roll-Cont (record { rest = rest; vars = r.vars; came = r.came; saved = r.here.state })))
      chain =
          chained p code width loops first saved m.chain (record
          { rest = rest; vars = r.vars; came = r.came; saved = r.here.state }) k
          (subst (λ a. Follows p (names_of r.vars) width code a rest loops) (sym w) f) agree g.came g.state

      by_depth : (b : Bool) → nat_le 8 (length m.chain) ≡ b →
          Matched p code start (if b then Over (ended r TooDeep) else Over (ended (meaning.suspended r number xs rest) Fine)) 1
      by_depth true z = record {
        stopped = stopped (counted start) TooDeep;
        runs = machine.stops (move true z);
        few = le_refl (m.ops + 1);
        stands = record { around = g.around; end = refl; state = g.state };
      }
      by_depth false z = record {
        stopped = stopped (suspended code (counted start) number args n) Fine;
        runs = machine.stops (move false z);
        few = le_refl (m.ops + 1);
        stands = record {
          around = g.around;
          end = refl;
          state =
              subst (λ l. StateStands p code number l (first ∷ m.chain)
              (roll-StateVal (record {
                state = number;
                args = xs;
                cont = Some (roll-Cont (record { rest = rest; vars = r.vars; came = r.came; saved = r.here.state }));
              })))
              (sym (taken xs m.stack (state_arity (slice_get p.states number)) e))
              (rolled p code (first ∷ m.chain) (record {
                state = number;
                args = xs;
                cont = Some (roll-Cont (record { rest = rest; vars = r.vars; came = r.came; saved = r.here.state }));
              })
              chain);
        };
      }

  resume_matched : (r : Running) (m : Machine) (at : ℕ) → HasOp code.ops at op.Resume → Carries p code width at m r loops →
      {chain : List Saved} {o : Option Cont} → ChainStands p code chain o → m.chain ≡ chain →
      (out-StateVal r.here.state).cont ≡ o → Matched p code (record m { at = at }) (resumes r o) 1
  unfolding resumes ended
  resume_matched r m at h g none a b =
      let start : Machine = record m { at = at } in
      record {
        stopped = stopped (counted start) Fine;
        runs = machine.stops (ap (λ q. act_at p code q start) h ∙ ap (resumed code (counted start)) a);
        few = le_refl (m.ops + 1);
        stands = record { around = g.around; end = refl; state = g.state };
      }
  resume_matched r m at h g (some {first = first} {chain = chain} {k = k} {rest = rest} {width = wide} {loops = under} x f y
      came c d z) a b =
      let start : Machine = record m { at = at } in
      let place : place_of_rest (slice_get code.rests first.rest) ≡ rest.at = ap place_of_rest x in
      record {
        machine = record m {
          at = place_of_rest (slice_get code.rests first.rest);
          slots = first.values;
          came = first.came;
          stack = [];
          state = first.state;
          args = first.args;
          chain = chain;
          around = freeing m.around;
          ops = m.ops + 1;
        };
        comes = one p code op.Resume start _ h (ap (resumed code (counted start)) a);
        few = le_refl (m.ops + 1);
        stands = record {
          width = wide;
          loops = under;
          follows = subst (λ q. Follows p (names_of (out-Cont k).vars) wide code q (out-Cont k).rest under) (sym place) f;
          carries = record {
            vars = subst (λ q. Agrees code.ops wide q first.values (out-Cont k).vars under) (sym place) y;
            around = ap freeing g.around;
            came = came;
            state = record { same_state = c; same_args = d; conts = z };
          };
        };
      }

  -- where the set of a loop stands
  set_now : (r : Running) (m : Machine) (at k slot to : ℕ) (set : List Bool) → HasOp code.ops at (op.EachNext k slot to) →
      Agrees code.ops width at m.slots r.vars (record { slot = slot; set = set } ∷ loops) → set_of (value_at m.slots slot) ≡ set
  set_now r m at k slot to set h g = g.sets.0 (reads h refl)

  begin_matched : (r : Running) (m : Machine) (at slot : ℕ) (rest body : List Stmt) (name : Name) (x : Value) →
      HasOp code.ops at (op.Put slot) → slot < width → Nested (names_of r.vars) slot loops →
      ((set : List Bool) → Follows p (names_of r.vars) width code (at + 1) (each name set body ∷ rest)
      (record { slot = slot; set = set } ∷ loops)) → Carries p code width at m r loops →
      Matched p code (record m { at = at; stack = x ∷ m.stack }) (On (each name (set_of x) body ∷ rest) r) 1
  begin_matched r m at slot rest body name x h lt n f g = record {
    machine = record m { at = at + 1; slots = slice_set m.slots slot x; ops = m.ops + 1 };
    comes = one p code (op.Put slot) (record m { at = at; stack = x ∷ m.stack }) _ h refl;
    few = le_refl (m.ops + 1);
    stands = record {
      width = width;
      loops = record { slot = slot; set = set_of x } ∷ loops;
      follows = f (set_of x);
      carries = record {
        vars = agrees_new code.ops width m.slots r.vars loops at (at + 1) slot (op.Put slot) x h (refl, refl) lt n g.vars;
        around = g.around;
        came = g.came;
        state = g.state;
      };
    };
  }

  over_matched : (r : Running) (m : Machine) (at k slot to : ℕ) (set : List Bool) (rest body : List Stmt) (name : Name) →
      least_of set ≡ None → HasOp code.ops at (op.EachNext k slot to) → Follows p (names_of r.vars) width code to rest loops →
      Carries p code width at m r (record { slot = slot; set = set } ∷ loops) →
      Matched p code (record m { at = at }) (turning p name set body rest r) 1
  unfolding turning
  over_matched r m at k slot to set rest body name e h f g =
      let start : Machine = record m { at = at } in
      let now : turn start k slot to (set_of (value_at m.slots slot)) (least_of (set_of (value_at m.slots slot)))
      ≡ turn start k slot to set None =
      ap (λ s. turn start k slot to s (least_of s)) (set_now r m at k slot to set h g.vars) ∙ ap (turn start k slot to set) e in
      let done : Reaches p code start rest r 1 = record {
        machine = record m { at = to; ops = m.ops + 1 };
        comes = one p code (op.EachNext k slot to) start _ h (ap Next now);
        few = le_refl (m.ops + 1);
        stands = record {
          width = width;
          loops = loops;
          follows = f;
          carries = record {
            vars = agrees_end code.ops width m.slots r.vars loops to slot set
                (agrees_on code.ops width at to (op.EachNext k slot to) m.slots r.vars
                (record { slot = slot; set = set } ∷ loops) h (inl (refl, refl)) g.vars);
            around = g.around;
            came = g.came;
            state = g.state;
          };
        };
      } in
      subst (λ o. Matched p code start (turned p name set o body rest r) 1) (sym e) done

  turn_matched : (r : Running) (m : Machine) (at k slot to n : ℕ) (set : List Bool) (rest body : List Stmt) (name : Name) →
      least_of set ≡ Some n → slot_of (names_of r.vars) name ≡ Some k → HasOp code.ops at (op.EachNext k slot to) →
      Follows p (names_of r.vars) width code (at + 1) (body ++ each name (without set n) body ∷ rest)
      (record { slot = slot; set = without set n } ∷ loops) →
      Carries p code width at m r (record { slot = slot; set = set } ∷ loops) →
      Matched p code (record m { at = at }) (turning p name set body rest r) 1
  unfolding turning assigned
  turn_matched r m at k slot to n set rest body name e a h f g =
      let start : Machine = record m { at = at } in
      let x : Value = v.Node n in
      let y : Value = v.Set (without set n) in
      let place : place_of name r.vars ≡ Some k = slot-place name r.vars ∙ a in
      let same = names-set r.vars name k x place in
      let next = body ++ each name (without set n) body ∷ rest in
      let new = slice_set r.vars k (record { name = name; value = x }) in
      let wrote = agrees_set code.ops width m.slots r.vars (record { slot = slot; set = set } ∷ loops) at (at + 1) k
      (op.EachNext k slot to) name x h (inr (refl, refl)) (place_within r.vars name k place) same g.vars in
      let now : turn start k slot to (set_of (value_at m.slots slot)) (least_of (set_of (value_at m.slots slot)))
      ≡ turn start k slot to set (Some n) =
      ap (λ s. turn start k slot to s (least_of s)) (set_now r m at k slot to set h g.vars) ∙ ap (turn start k slot to set) e in
      let done : Reaches p code start next (record r { vars = new }) 1 = record {
        machine = record m { at = at + 1; slots = slice_set (slice_set m.slots k x) slot y; ops = m.ops + 1 };
        comes = one p code (op.EachNext k slot to) start _ h (ap Next now);
        few = le_refl (m.ops + 1);
        stands = record {
          width = width;
          loops = record { slot = slot; set = without set n } ∷ loops;
          follows =
              subst (λ names. Follows p names width code (at + 1) next (record { slot = slot; set = without set n } ∷ loops))
              (sym same) f;
          carries = record {
            vars = agrees_turn code.ops width (slice_set m.slots k x) new loops (at + 1) slot set y wrote;
            around = g.around;
            came = g.came;
            state = g.state;
          };
        };
      } in
      let assigned_now : Reaches p code start next (assigned_at r name x (place_of name r.vars) (info_number p name)) 1 =
      subst (λ q. Reaches p code start next (assigned_at r name x q (info_number p name)) 1) (sym place) done in
      subst (λ o. Matched p code start (turned p name set o body rest r) 1) (sym e) assigned_now

module _ (p : Protocol) (code : Code) where
  -- the op at a place, and the last op of a statement that begins at a place
  room_one : (at n : ℕ) (o : OpCode) → ops_a_step code ≤ n + at → HasOp code.ops at o → 1 ≤ n
  room_one at n o le h = let within = slice_get_within code.ops at o h in omega arith

  room_last : (at after ops start n : ℕ) (o : OpCode) → ops_a_step code ≤ n + at → HasOp code.ops after o →
      ops + at ≡ start + after → ops + 1 ≤ start + n
  room_last at after ops start n o le h e = let within = slice_get_within code.ops after o h in omega arith

  -- a jump past itself, and a jump to an op that one op matches
  room_jump : (at to start n : ℕ) (o : OpCode) → ops_a_step code ≤ n + at → HasOp code.ops at o → at < to →
      (ops_a_step code ≤ (n - 1) + to) × (start + 1 + (n - 1) ≤ start + n)
  room_jump at to start n o le h past = let within = slice_get_within code.ops at o h in (omega arith, omega arith)

  room_back : (at start n : ℕ) (o : OpCode) → ops_a_step code ≤ n + at → HasOp code.ops at o → start + 1 + 1 ≤ start + n
  room_back at start n o le h = let within = slice_get_within code.ops at o h in omega arith

  -- The loop's own op matches what follows at its place.
  loop_matched : (r : Running) {width at : ℕ} {stmts : List Stmt} {loops : List Loop} (m : Machine) (k slot out : ℕ) →
      HasOp code.ops at (op.EachNext k slot out) → Follows p (names_of r.vars) width code at stmts loops →
      Carries p code width at m r loops → Matched p code (record m { at = at }) (next_of p stmts r) 1
  loop_matched r m k slot out z (ends h) g = cc
  loop_matched r m k slot out z (jumps h past f) g = cc
  loop_matched r m k slot out z (plain {s = s} {o = o} e h f) g =
      let same : o ≡ op.EachNext k slot out = cc in absurd (plain_begins_no_loop (what_of s) k slot out (e ∙ ap Some same))
  loop_matched r m k slot out z (assigns d x put h f) g = absurd (expr_begins_no_loop x k slot out z)
  loop_matched r m k slot out z (branches d x h f l) g = absurd (expr_begins_no_loop x k slot out z)
  loop_matched r m k slot out z (sends d x xs h c f) g = absurd (expr_begins_no_loop x k slot out z)
  loop_matched r m k slot out z (sends_all d x xs h c f) g = absurd (expr_begins_no_loop x k slot out z)
  loop_matched r m k slot out z (moves d xs h c f) g = let last = args_begin_no_loop xs k slot out _ z h in cc
  loop_matched r m k slot out z (leaves d xs h c i w f) g = let last = args_begin_no_loop xs k slot out _ z h in cc
  loop_matched r m k slot out z (returns d h) g = cc
  loop_matched r m k slot out z (fails d h) g = cc
  loop_matched r m k slot out z (jumps_back h x f) g = cc
  loop_matched r m k slot out z (begins d x h lt n f) g = absurd (expr_begins_no_loop x k slot out z)
  loop_matched r {width = width} m k slot out z (ends_loop {at = at} {k = i} {slot = j} {to = to} {set = set} {s = s}
      {rest = rest} {body = body} {loops = loops} {x = name} d e h f) g =
      by_what p code width loops _ s rest r _ 1 d (over_matched p code width loops r m at i j to set rest body name e h f g)
  loop_matched r {width = width} m k slot out z (turns {at = at} {k = i} {slot = j} {to = to} {n = n} {set = set} {s = s}
      {rest = rest} {body = body} {loops = loops} {x = name} d e a h f) g =
      by_what p code width loops _ s rest r _ 1 d (turn_matched p code width loops r m at i j to n set rest body name e a h f g)

  follow : SavesAll code → (r : Running) {width at : ℕ} {stmts : List Stmt} {loops : List Loop} (m : Machine) (n : ℕ) →
      ops_a_step code ≤ n + at → Follows p (names_of r.vars) width code at stmts loops → Carries p code width at m r loops →
      Matched p code (record m { at = at }) (next_of p stmts r) n
  unfolding ended
  follow lives r {width = width} m n le (ends {at = at} h) g =
      let start : Machine = record m { at = at } in
      matched_within p code start (Over (ended r Fine)) n 1 (room_one at n op.Done le h) (record {
        stopped = stopped (counted start) Fine;
        runs = machine.stops (ap (λ q. act_at p code q start) h);
        few = le_refl (m.ops + 1);
        stands = record { around = g.around; end = refl; state = g.state };
      })
  follow lives r {width = width} m n le (jumps {at = at} {to = to} {stmts = stmts} {loops = loops} h past f) g =
      let q : Machine = record m { at = to; ops = m.ops + 1 } in
      let k : Carries p code width to q r loops = carries_on p code width loops r q at to (op.Jump to) h (refl, refl)
      (record { vars = g.vars; around = g.around; came = g.came; state = g.state }) in
      let room = room_jump at to m.ops n (op.Jump to) le h past in
      matched_before p code (record m { at = at }) q (next_of p stmts r) n (n - 1)
      (one p code (op.Jump to) (record m { at = at }) q h refl) room.1 (follow lives r q (n - 1) room.0 f k)
  follow lives r {width = width} m n le (plain {at = at} {s = s} {rest = rest} {loops = loops} {o = o} e h f) g =
      matched_within p code (record m { at = at }) (led_to p (what_of s) rest r) n 1 (room_one at n o le h)
      (plain_matched p code width loops r m at (what_of s) rest o e h f g)
  follow lives r {width = width} m n le (assigns {at = at} {after = after} {s = s} {rest = rest} {loops = loops} {name = name}
      {e = e} {o = o} d x put h f) g =
      let y = expr_yields p code width loops r m x g.vars g.around in
      let q : Machine = record m { at = after; ops = y.ops } in
      let k : Carries p code width after q r loops = let j =
      carries_expr p code width loops r m x g in record {
        vars = j.vars;
        around = j.around;
        came = j.came;
        state = j.state;
      } in
      by_what p code width loops _ s rest r _ n d (matched_before p code _ _
      (On rest (assigned p r name (value_of p r e))) n 1 y.comes (room_last at after y.ops m.ops n o le h y.straight)
      (assign_matched p code width loops r q after rest name (value_of p r e) _ _ o refl refl put h f k))
  follow lives r {width = width} m n le (branches {at = at} {after = after} {to = to} {s = s} {rest = rest} {first = first}
      {loops = loops} {second = second} {e = e} d x h f l) g =
      let y = expr_yields p code width loops r m x g.vars g.around in
      let q : Machine = record m { at = after; ops = y.ops } in
      let k : Carries p code width after q r loops = let j =
      carries_expr p code width loops r m x g in record {
        vars = j.vars;
        around = j.around;
        came = j.came;
        state = j.state;
      } in
      by_what p code width loops _ s rest r _ n d (matched_before p code _ _
      (On (branch (value_of p r e) first second ++ rest) r) n 1 y.comes
      (room_last at after y.ops m.ops n (op.JumpIfNot to) le h y.straight)
      (branch_matched p code width loops r q after to rest first second (value_of p r e) h f l k))
  follow lives r {width = width} m n le (sends {at = at} {middle = middle} {after = after} {s = s} {rest = rest}
      {loops = loops} {to = to} {name = name} {args = args} d x xs h c f) g =
      let number = declared (message_number p name) in
      let y = offered p code width loops r m x xs g in
      let q : Machine = record m { at = after; ops = y.ops } in
      let values = map (value_of p r) args in
      by_what p code width loops _ s rest r _ n d (matched_before p code _ _
      (On rest (sent p r (value_of p r to) number values)) n 1 y.comes
      (room_last at after y.ops m.ops n (op.Send number) le h y.straight)
      (send_matched p code width loops r q after number rest (value_of p r to) values h
      (c ∙ length_values p r args) f y.carries))
  follow lives r {width = width} m n le (sends_all {at = at} {middle = middle} {after = after} {s = s} {rest = rest}
      {loops = loops} {to = to} {name = name} {args = args} d x xs h c f) g =
      let number = declared (message_number p name) in
      let y = offered p code width loops r m x xs g in
      let q : Machine = record m { at = after; ops = y.ops } in
      let values = map (value_of p r) args in
      by_what p code width loops _ s rest r _ n d (matched_before p code _ _
      (On rest (sent_all p r (value_of p r to) number values)) n 1 y.comes
      (room_last at after y.ops m.ops n (op.SendAll number) le h y.straight)
      (send_all_matched p code width loops r q after number rest (value_of p r to) values h
      (c ∙ length_values p r args) f y.carries))
  follow lives r {width = width} m n le (moves {at = at} {after = after} {s = s} {rest = rest} {loops = loops} {name = name}
      {args = args} d xs h c f) g =
      let number = declared (state_number p name) in
      let w = all_yield p code width loops r m xs g.vars g.around in
      let q : Machine = record m { at = after; ops = w.ops } in
      let k : Carries p code width after q r loops = let j =
      carries_all p code width loops r m xs g in record {
        vars = j.vars;
        around = j.around;
        came = j.came;
        state = j.state;
      } in
      let values = map (value_of p r) args in
      by_what p code width loops _ s rest r _ n d (matched_before p code _ _ (On rest (moved r number values)) n 1 w.comes
      (room_last at after w.ops m.ops n (op.Goto number) le h w.straight)
      (move_matched p code width loops r q after number rest values h (c ∙ length_values p r args) f k))
  follow lives r {width = width} m n le (leaves {at = at} {after = after} {r = i} {s = s} {rest = rest} {loops = loops}
      {name = name} {args = args} {saved = saved} d xs h c k w f) g =
      let number = declared (state_number p name) in
      let a = all_yield p code width loops r m xs g.vars g.around in
      let q : Machine = record m { at = after; ops = a.ops } in
      let there : Carries p code width after q r loops = let j =
      carries_all p code width loops r m xs g in record {
        vars = j.vars;
        around = j.around;
        came = j.came;
        state = j.state;
      } in
      let values = map (value_of p r) args in
      by_what p code width loops _ s rest r _ n d (matched_before p code _ _ (suspends r number values rest) n 1 a.comes
      (room_last at after a.ops m.ops n (op.Suspend number i) le h a.straight)
      (suspend_matched p code width loops lives r q after number i rest saved values h
      (c ∙ length_values p r args) k w f there))
  follow lives r {width = width} m n le (returns {at = at} {s = s} {rest = rest} {loops = loops} d h) g =
      let o = (out-StateVal r.here.state).cont in
      by_what p code width loops _ s rest r _ n d (matched_within p code (record m { at = at }) (resumes r o) n 1
      (room_one at n op.Resume le h) (resume_matched p code width loops r m at h g g.state.conts refl refl))
  follow lives r {width = width} m n le (fails {at = at} {s = s} {rest = rest} {loops = loops} {name = name} d h) g =
      let start : Machine = record m { at = at } in
      let o = op.Fail (error_number p name) in
      by_what p code width loops _ s rest r _ n d (matched_within p code start
      (Over (ended r (Failed (error_number p name)))) n 1 (room_one at n o le h) (record {
        stopped = stopped (counted start) (Failed (error_number p name));
        runs = machine.stops (ap (λ q. act_at p code q start) h);
        few = le_refl (m.ops + 1);
        stands = record { around = g.around; end = refl; state = g.state };
      }))
  follow lives r {width = width} m n le (jumps_back {at = at} {to = to} {k = i} {slot = slot} {out = out} {stmts = stmts}
      {loops = loops} h there f) g =
      let q : Machine = record m { at = to; ops = m.ops + 1 } in
      let k : Carries p code width to q r loops = carries_on p code width loops r q at to (op.JumpBack to) h (refl, refl)
      (record { vars = g.vars; around = g.around; came = g.came; state = g.state }) in
      matched_before p code (record m { at = at }) q (next_of p stmts r) n 1
      (one p code (op.JumpBack to) (record m { at = at }) q h refl) (room_back at m.ops n (op.JumpBack to) le h)
      (loop_matched r q i slot out there f k)
  follow lives r {width = width} m n le (begins {at = at} {after = after} {slot = slot} {s = s} {rest = rest} {body = body}
      {loops = loops} {x = name} {e = e} d x h lt nest f) g =
      let y = expr_yields p code width loops r m x g.vars g.around in
      let q : Machine = record m { at = after; ops = y.ops } in
      let k : Carries p code width after q r loops = let j =
      carries_expr p code width loops r m x g in record {
        vars = j.vars;
        around = j.around;
        came = j.came;
        state = j.state;
      } in
      by_what p code width loops _ s rest r _ n d (matched_before p code _ _
      (On (each name (set_of (value_of p r e)) body ∷ rest) r) n 1 y.comes
      (room_last at after y.ops m.ops n (op.Put slot) le h y.straight)
      (begin_matched p code width loops r q after slot rest body name (value_of p r e) h lt nest f k))
  follow lives r m n le (ends_loop {at = at} {k = k} {slot = slot} {to = to} {set = set} {s = s} {rest = rest} d e h f) g =
      matched_within p code (record m { at = at }) (next_of p (s ∷ rest) r) n 1 (room_one at n (op.EachNext k slot to) le h)
      (loop_matched r m k slot to h (ends_loop {s = s} d e h f) g)
  follow lives r m n le (turns {at = at} {k = k} {slot = slot} {to = to} {s = s} {rest = rest} d e a h f) g =
      matched_within p code (record m { at = at }) (next_of p (s ∷ rest) r) n 1 (room_one at n (op.EachNext k slot to) le h)
      (loop_matched r m k slot to h (turns {s = s} d e a h f) g)

  few_more : (a b c n s : ℕ) → b ≤ a + n → c ≤ b + n * s → c ≤ a + n * (s + 1)
  few_more a b c n s le more = omega arith

  -- where the statements come to an end, the machine does too, within so many ops for each of their steps
  simulates : SavesAll code → {stmts : List Stmt} {r : Running} {e : Ended} (g : Goes p stmts r e) (m : Machine) →
      Stands p code m stmts r → EndsWithin p code m e (ops_a_step code * steps g)
  simulates lives {stmts = stmts} {r = r} {e = e} (over h) m x =
      let n = ops_a_step code * 1 in
      let d = follow lives r m n (omega arith) x.follows x.carries in
      subst (λ y. Matched p code m y n) h d
  simulates lives {stmts = stmts} {r = r} {e = e} (goes_on {rest = rest} {after = after} h more) m x =
      let n = ops_a_step code in
      let y : Reaches p code m rest after n = subst (λ z. Matched p code m z n) h
      (follow lives r m n (omega arith) x.follows x.carries) in
      let d = simulates lives more y.machine y.stands in
      record {
        stopped = d.stopped;
        runs = y.comes d.stopped d.runs;
        stands = d.stands;
        few = few_more m.ops y.machine.ops d.stopped.ops n (steps more) y.few d.few;
      }

pub simulation : (p : Protocol) (code : Code) → SavesAll code → Simulates p code
simulation p code lives m stmts r e x g =
    let d = simulates p code lives g m x in record { stopped = d.stopped; runs = d.runs; stands = d.stands }

pub takes_few : (p : Protocol) (code : Code) → StopsOnce p code → SavesAll code → TakesFewOps p code
takes_few p code once lives m stmts r e s x g runs =
    let d = simulates p code lives g m x in
    let same : d.stopped ≡ s = once m d.stopped s d.runs runs in
    subst (λ (y : Stopped). y.ops ≤ m.ops + ops_a_step code * steps g) same d.few
