-- No handler holds more statements than the code has ops.
use Rattle.std.proofs.Common.{◌≡◌, ◌∙◌, ℕ, suc, ◌+◌, ◌≤◌, List, [], ◌∷◌, ◌++◌, length, Some, refl, ap, sym, subst, arith}
use Rattle.std.proofs.Common.{length-append}
use Rattle.std.specs.Prelude.{map}
use Rattle.std.specs.List.{flat_map}
use Rattle.std.proofs.Math.Nat.{le_refl}
use Rattle.tw_base.specs.Lists.{Each}
use Rattle.tw_base.specs.declared.name.Name.{Name}
use Rattle.teapot_tree.specs.declared.protocol.Handler.{Handler}
use Rattle.teapot_tree.specs.declared.protocol.Protocol.{Protocol}
use Rattle.teapot_tree.specs.declared.protocol.State.{State}
use Rattle.teapot_tree.specs.declared.stmt.Do.TheOpen.{Do-F}
use Rattle.teapot_tree.specs.declared.stmt.Stmt.{Stmt}
use Rattle.teapot_tree.specs.Bodies.{body_of}
use Rattle.teapot_tree.specs.Paths.{Step, steps_in}
use Rattle.teapot_tree.specs.Rules.{IsAccepted}
use Rattle.teapot_tree.specs.Scopes.{message_number, state_number}
use Rattle.teapot_meaning.specs.Fits.{names_in}
use Rattle.teapot_meaning.specs.Layers.{Layer, what_of}
use Rattle.teapot_meaning.specs.Names.{declared}
use Rattle.teapot_rules.specs.Stmts.{append, layer_body}
use Rattle.teapot_rules.proofs.Appending.{body-cons, steps-append}
use Rattle.teapot_sends.specs.Counts.{HoldAtMost}
use Rattle.handler_code.specs.declared.code.Code.{Code}
use Rattle.handler_code.specs.declared.code.OpCode.{OpCode}
use Rattle.handler_code.specs.declared.code.OpCode.TheVariants as op
use Rattle.compiled_meaning.specs.Compiled.{Piece, all_code, code_of, expr_code, in_order, loops_in, op_list, rests_in, stmt_code}
use Rattle.compiled_meaning.specs.Follows.{plain_op}
use Rattle.compiled_meaning.specs.Whole.{Entry, IsCode, entries_code, entries_from, entries_of, entry_code}
use Rattle.compiled_meaning.proofs.Accepted.{all_fine}
use Rattle.compiled_meaning.proofs.Fine.{Fine}
use Rattle.compiled_meaning.proofs.Fine as fine
use Rattle.compiled_meaning.proofs.Handlers.{AllFine}
use Rattle.compiled_meaning.proofs.Placed.{by_layer, layer_code}

-- ---- steps and ops

-- how many statements stand in these
abbrev held_in : List Stmt → ℕ
held_in stmts = length (steps_in (body_of stmts))

held_first : (s : Stmt) (stmts : List Stmt) (l : Layer) → what_of s ≡ l →
    held_in (s ∷ stmts) ≡ length (steps_in (layer_body s.line l)) + held_in stmts
held_first s stmts l d =
    ap (λ b. length (steps_in b)) (body-cons s stmts)
    ∙ ap (λ z. length (steps_in (append (layer_body s.line z) (body_of stmts)))) d
    ∙ ap length (steps-append (layer_body s.line l) (body_of stmts))
    ∙ length-append (steps_in (layer_body s.line l)) (steps_in (body_of stmts))

both_le : (all here there whole a b : ℕ) → all ≡ here + there → whole ≡ a + b → here ≤ a → there ≤ b → all ≤ whole
both_le all here there whole a b e f le more = omega arith

last_le : (a : List OpCode) (o : OpCode) → 1 ≤ length (a ++ o ∷ [])
last_le a o = omega (arith, length-append a (o ∷ []))

send_le : (a b : List OpCode) (o : OpCode) → 1 ≤ length (a ++ (b ++ o ∷ []))
send_le a b o = omega (arith, length-append a (b ++ o ∷ []), length-append b (o ∷ []))

test_le : (held : List Step) (t a : List OpCode) (o : OpCode) → length held ≤ length a →
    suc (length (held ++ [])) ≤ length (t ++ o ∷ a)
test_le held t a o le = omega (arith, length-append held [], length-append t (o ∷ a))

branch_le : (held more : List Step) (t a b : List OpCode) (o j : OpCode) → length held ≤ length a → length more ≤ length b →
    suc (length (held ++ (more ++ []))) ≤ length (t ++ o ∷ (a ++ j ∷ b))
branch_le held more t a b o j le other =
    omega (
      arith,
      length-append held (more ++ []),
      length-append more [],
      length-append t (o ∷ (a ++ j ∷ b)),
      length-append a (j ∷ b),
    )

loop_le : (held : List Step) (t b : List OpCode) (o k j : OpCode) → length held ≤ length b →
    suc (length (held ++ [])) ≤ length (t ++ o ∷ k ∷ (b ++ j ∷ []))
loop_le held t b o k j le =
    omega (arith, length-append held [], length-append t (o ∷ k ∷ (b ++ j ∷ [])), length-append b (j ∷ []))

-- ---- statements

module _ (p : Protocol) (names : List Name) where
  -- wherever the statements stand, they have as many ops at least
  Covers : List Stmt → Type 0
  Covers stmts = (at r h : ℕ) → held_in stmts ≤ length (code_of p names stmts at r h)

  Covered : ℕ → Layer → Type 0
  Covered line l = (at r h : ℕ) → length (steps_in (layer_body line l)) ≤ length (layer_code p names l at r h)

  first_covers : (s : Stmt) (stmts : List Stmt) (l : Layer) → what_of s ≡ l → Covered s.line l → Covers stmts → Covers (s ∷ stmts)
  unfolding Covers Covered
  first_covers s stmts l d one rest at r h =
      let c = stmt_code p names s at r h in
      let others = code_of p names stmts (at + length c) (r + rests_in c) (h + loops_in c) in
      let own : length (steps_in (layer_body s.line l)) ≤ length c =
      subst (λ (f : Piece). length (steps_in (layer_body s.line l)) ≤ length (f at r h)) (sym (by_layer p names s l d))
      (one at r h) in
      both_le (held_in (s ∷ stmts)) (length (steps_in (layer_body s.line l))) (held_in stmts) (length (c ++ others)) (length c)
      (length others) (held_first s stmts l d) (length-append c others) own
      (rest (at + length c) (r + rests_in c) (h + loops_in c))

  plain_covered : (line : ℕ) (l : Layer) (o : OpCode) → plain_op l ≡ Some o → Covered line l
  unfolding Covered layer_code
  plain_covered line (Do-F.SetTag tag) o e = λ at r h. le_refl 1
  plain_covered line Do-F.Install o e = λ at r h. le_refl 1
  plain_covered line Do-F.Enqueue o e = λ at r h. le_refl 1
  plain_covered line Do-F.WakeUp o e = λ at r h. le_refl 1
  plain_covered line (Do-F.Assign name x) o e = cc
  plain_covered line (Do-F.If x first second) o e = cc
  plain_covered line (Do-F.Send to name args) o e = cc
  plain_covered line (Do-F.SendAll to name args) o e = cc
  plain_covered line (Do-F.SetState name args) o e = cc
  plain_covered line (Do-F.Suspend label name args passed) o e = cc
  plain_covered line (Do-F.Resume name) o e = cc
  plain_covered line (Do-F.ForEach x b stmts) o e = cc
  plain_covered line (Do-F.Each x set stmts) o e = cc
  plain_covered line (Do-F.Error name) o e = cc

  covers : {stmts : List Stmt} → Fine p names stmts → Covers stmts
  unfolding Covers Covered layer_code
  covers fine.none = λ at r h. le_refl 0
  covers (fine.plain {s = s} {rest = stmts} {o = o} e x) = first_covers s stmts (what_of s) refl
      (plain_covered s.line (what_of s) o e) (covers x)
  covers (fine.assigns {s = s} {rest = stmts} {name = name} {e = e} {o = o} d put x) =
      first_covers s stmts _ d (λ at r h. subst (λ q. 1 ≤ length (expr_code p names e ++ op_list q)) (sym put)
      (last_le (expr_code p names e) o)) (covers x)
  covers (fine.tests {s = s} {rest = stmts} {first = first} {e = e} d x y) =
      first_covers s stmts _ d (λ at r h.
      let t = expr_code p names e in
      let start = at + length t + 1 in
      test_le (steps_in (body_of first)) t (code_of p names first start r h) _ (covers x start r h)) (covers y)
  covers (fine.branches {s = s} {rest = stmts} {first = first} {second = second} {e = e} d x y z) =
      first_covers s stmts _ d (λ at r h.
      let t = expr_code p names e in
      let start = at + length t + 1 in
      let a = code_of p names first start r h in
      let to = start + length a + 1 in
      branch_le (steps_in (body_of first)) (steps_in (body_of second)) t a
      (code_of p names second to (r + rests_in a) (h + loops_in a)) _ _ (covers x start r h)
      (covers y to (r + rests_in a) (h + loops_in a))) (covers z)
  covers (fine.sends {s = s} {rest = stmts} {to = to} {name = name} {args = args} d c x) =
      first_covers s stmts _ d (λ at r h. send_le (expr_code p names to) (all_code p names args)
      (op.Send (declared (message_number p name)))) (covers x)
  covers (fine.sends_all {s = s} {rest = stmts} {to = to} {name = name} {args = args} d c x) =
      first_covers s stmts _ d (λ at r h. send_le (expr_code p names to) (all_code p names args)
      (op.SendAll (declared (message_number p name)))) (covers x)
  covers (fine.moves {s = s} {rest = stmts} {name = name} {args = args} d c x) =
      first_covers s stmts _ d (λ at r h. last_le (all_code p names args) (op.Goto (declared (state_number p name)))) (covers x)
  covers (fine.suspends {s = s} {rest = stmts} {label = label} {name = name} {passed = passed} {args = args} d c x) =
      first_covers s stmts _ d (λ at r h. last_le (all_code p names args) (op.Suspend (declared (state_number p name)) r))
      (covers x)
  covers (fine.loops {s = s} {rest = stmts} {body = body} {x = x} {e = e} {k = k} d a y z) =
      first_covers s stmts _ d (λ at r h.
      let t = expr_code p names e in
      let start = at + length t + 1 in
      loop_le (steps_in (body_of body)) t (code_of p names body (start + 1) r (h + 1)) _ _ _ (covers y (start + 1) r (h + 1)))
      (covers z)
  covers (fine.resumes {s = s} {rest = stmts} d x) = first_covers s stmts _ d (λ at r h. le_refl 1) (covers x)
  covers (fine.fails {s = s} {rest = stmts} d x) = first_covers s stmts _ d (λ at r h. le_refl 1) (covers x)

  pub covered : {stmts : List Stmt} → Fine p names stmts → (at r h : ℕ) → held_in stmts ≤ length (code_of p names stmts at r h)
  unfolding Covers
  covered x = covers x

-- ---- handlers

part_le : (n held : ℕ) (body others : List OpCode) (o : OpCode) → held ≤ length body →
    length ((body ++ o ∷ []) ++ others) ≤ n → (held ≤ n) × (length others ≤ n)
part_le n held body others o le room =
    let all = length-append (body ++ o ∷ []) others in
    let own = length-append body (o ∷ []) in
    (omega arith, omega arith)

abbrev Holds : ℕ → Handler → Type 0
Holds n h = length (steps_in (body_of h.body)) ≤ n

entries_hold : (p : Protocol) (n : ℕ) (entries : List Entry) → AllFine p entries → (at r h : ℕ) →
    length (in_order (map (entry_code p) entries) at r h) ≤ n → Each (λ (d : Entry). Holds n d.handler) entries
entries_hold p n [] all at r h room = tt
entries_hold p n (d ∷ entries) all at r h room =
    let names = names_in d.state d.handler in
    let body = code_of p names d.handler.body at r (length names) in
    let c = body ++ op.Done ∷ [] in
    let others = in_order (map (entry_code p) entries) (at + length c) (r + rests_in c) (h + loops_in c) in
    let parts = part_le n (held_in d.handler.body) body others op.Done (covered p names all.0 at r (length names)) room in
    (parts.0, entries_hold p n entries all.1 (at + length c) (r + rests_in c) (h + loops_in c) parts.1)

state_holds : (P : Handler → Type 0) (number : ℕ) (s : State) (hs : List Handler) (entries : List Entry)
    (more : List Handler) → (Each (λ (d : Entry). P d.handler) entries → Each P more) →
    Each (λ (d : Entry). P d.handler) (map (λ h. record { number = number; state = s; handler = h }) hs ++ entries) →
    Each P (hs ++ more)
state_holds P number s [] entries more f all = f all
state_holds P number s (h ∷ hs) entries more f all = (all.0, state_holds P number s hs entries more f all.1)

states_hold : (P : Handler → Type 0) (number : ℕ) (states : List State) →
    Each (λ (d : Entry). P d.handler) (entries_from number states) → Each P (flat_map (λ (s : State). s.handlers) states)
states_hold P number [] all = tt
states_hold P number (s ∷ states) all =
    state_holds P number s s.handlers (entries_from (number + 1) states) (flat_map (λ (t : State). t.handlers) states)
    (states_hold P (number + 1) states) all

pub held : (p : Protocol) (code : Code) → IsAccepted p → IsCode p code → HoldAtMost (length code.ops) p
held p code a compiled =
    let n = length code.ops in
    let room : length (entries_code p (entries_of p)) ≤ n = subst (λ ops. length ops ≤ n) compiled.ops (le_refl n) in
    states_hold (Holds n) 0 p.states (entries_hold p n (entries_of p) (all_fine p a) 0 0 0 room)
