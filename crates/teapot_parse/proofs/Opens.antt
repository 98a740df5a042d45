-- Where the pass is alive, the lines so far can go on.
use Rattle.std.proofs.Common.{◌≡◌, ℕ, suc, true, List, [], ◌∷◌, ◌++◌, Option, Some, IfSome, refl, sym, subst, append_assoc}
use Rattle.std.proofs.lemmas.List.{append-nil}
use Rattle.teapot_parse.specs.declared.judge.Kind.{Kind}
use Rattle.teapot_parse.specs.declared.judge.Kind.TheVariants as k
use Rattle.teapot_parse.specs.declared.judge.Block.{Block}
use Rattle.teapot_parse.specs.declared.judge.Block.TheVariants.{First, Other}
use Rattle.teapot_parse.specs.declared.judge.Place.{Place}
use Rattle.teapot_parse.specs.declared.judge.Place.TheVariants as p
use Rattle.teapot_parse.specs.Nesting.{At, next_of, body_next, closed_by, is_end}
use Rattle.teapot_parse.specs.Shapes.{Body, done, plain, branch, branches, loop, Handlers, States, handler, state, times}
use Rattle.teapot_parse.specs.Shapes.{of_body, of_handlers, of_states, IsNested, CanGoOn}

-- further states, handlers or statements may follow
abbrev InStates : List Kind → Type 0
InStates ks = (ss : States) → IsNested (ks ++ of_states ss)

-- further starts, infos or messages may follow, and then what may follow them
abbrev InStarts : List Kind → Type 0
InStarts ks = (n : ℕ) → InStates (ks ++ times n k.Start)

abbrev InInfos : List Kind → Type 0
InInfos ks = (n : ℕ) → InStarts (ks ++ times n k.Info)

abbrev InMessages : List Kind → Type 0
InMessages ks = (n : ℕ) → InInfos (ks ++ times n k.Message)

abbrev InHandlers : List Kind → Type 0
InHandlers ks = (hs : Handlers) → InStates (ks ++ (of_handlers hs ++ k.End ∷ []))

-- the innermost block may go on as any body, and then the blocks around it
abbrev Open : List Block → List Kind → Type 0
Open [] ks = (b : Body) → InHandlers (ks ++ (of_body b ++ k.End ∷ []))
Open (First ∷ bs) ks = (b : Body) → Open bs (ks ++ (of_body b ++ k.End ∷ []))
    × ((c : Body) → Open bs (ks ++ (of_body b ++ k.End ∷ k.Else ∷ k.Begin ∷ []) ++ (of_body c ++ k.End ∷ [])))
Open (Other ∷ bs) ks = (b : Body) → Open bs (ks ++ (of_body b ++ k.End ∷ []))

abbrev InLocals : List Kind → Type 0
InLocals ks = (n : ℕ) → Open [] (ks ++ times n k.Local)

abbrev pub Stands : List Block → Place → List Kind → Type 0
Stands bs p.Start ks = (bs ≡ []) × (ks ≡ [])
Stands bs p.Messages ks = (bs ≡ []) × InMessages ks
Stands bs p.Infos ks = (bs ≡ []) × InInfos ks
Stands bs p.Starts ks = (bs ≡ []) × InStarts ks
Stands bs p.States ks = (bs ≡ []) × InStates ks
Stands bs p.StateBegin ks = (bs ≡ []) × InHandlers (ks ++ k.Begin ∷ [])
Stands bs p.Handlers ks = (bs ≡ []) × InHandlers ks
Stands bs p.HandlerBegin ks = (bs ≡ []) × InLocals (ks ++ k.Begin ∷ [])
Stands bs p.Locals ks = (bs ≡ []) × InLocals ks
Stands bs p.Body ks = Open bs ks
Stands bs p.BlockBegin ks = Open bs (ks ++ k.Begin ∷ [])
Stands bs p.AfterIf ks = Open bs ks × Open (Other ∷ bs) (ks ++ k.Else ∷ k.Begin ∷ [])

shift : (bs : List Block) (from to : List Kind) (f : Body → Body) →
    ((b : Body) (rest : List Kind) → from ++ (of_body (f b) ++ rest) ≡ to ++ (of_body b ++ rest)) → Open bs from → Open bs to
shift [] from to f e h = λ b. subst InHandlers (e b (k.End ∷ [])) (h (f b))
shift (First ∷ bs) from to f e h = λ b. (
  subst (Open bs) (e b (k.End ∷ [])) (h (f b)).0,
  λ c. subst (λ z. Open bs (z ++ (of_body c ++ k.End ∷ []))) (e b (k.End ∷ k.Else ∷ k.Begin ∷ [])) ((h (f b)).1 c),
)
shift (Other ∷ bs) from to f e h = λ b. subst (Open bs) (e b (k.End ∷ [])) (h (f b))

abbrev Adds : List Kind → Kind → Option At → Type 0
Adds ks kind o = IfSome o (λ s. Stands s.0 s.1 (ks ++ kind ∷ []))

end_adds : (bs : List Block) (ks : List Kind) → Open bs ks → Adds ks k.End (Some (closed_by bs))
end_adds [] ks h = (refl, h done)
end_adds (First ∷ bs) ks h = (
  (h done).0,
  λ c. subst (λ z. Open bs (z ++ (of_body c ++ k.End ∷ [])))
      (sym (append_assoc ks (k.End ∷ []) (k.Else ∷ k.Begin ∷ []))) ((h done).1 c),
)
end_adds (Other ∷ bs) ks h = h done

body_adds : (bs : List Block) (kind : Kind) (ks : List Kind) → Open bs ks → Adds ks kind (body_next bs kind)
body_adds bs k.Plain ks h = shift bs ks (ks ++ k.Plain ∷ []) plain (λ b rest. simp append_assoc) h
body_adds bs k.If ks h = λ x. (
  shift bs ks (ks ++ k.If ∷ [] ++ k.Begin ∷ [] ++ (of_body x ++ k.End ∷ [])) (branch x) (λ b rest. simp append_assoc) h,
  λ c. shift bs ks (ks ++ k.If ∷ [] ++ k.Begin ∷ [] ++ (of_body x ++ k.End ∷ k.Else ∷ k.Begin ∷ [])
      ++ (of_body c ++ k.End ∷ [])) (branches x c) (λ b rest. simp append_assoc) h,
)
body_adds bs k.ForEach ks h = λ x. shift bs ks (ks ++ k.ForEach ∷ [] ++ k.Begin ∷ [] ++ (of_body x ++ k.End ∷ [])) (loop x)
    (λ b rest. simp append_assoc) h
body_adds bs k.End ks h = end_adds bs ks h
body_adds bs _ ks h = tt

locals_add : (bs : List Block) (kind : Kind) (ks : List Kind) → Stands bs p.Locals ks → Adds ks kind (body_next bs kind)
locals_add bs kind ks h = subst (λ c. Adds ks kind (body_next c kind)) (sym h.0)
    (body_adds [] kind ks (subst (Open []) (append-nil ks) (h.1 0)))

state_begins : (ks : List Kind) → InStates ks → InHandlers (ks ++ k.State ∷ [] ++ k.Begin ∷ [])
state_begins ks h hs ss = subst IsNested (simp append_assoc) (h (state hs ss))

to_infos : (ks : List Kind) → InMessages ks → InInfos ks
to_infos ks h = subst InInfos (append-nil ks) (h 0)

to_starts : (ks : List Kind) → InInfos ks → InStarts ks
to_starts ks h = subst InStarts (append-nil ks) (h 0)

to_states : (ks : List Kind) → InStarts ks → InStates ks
to_states ks h = subst InStates (append-nil ks) (h 0)

one_start : (ks : List Kind) → InStarts ks → InStarts (ks ++ k.Start ∷ [])
one_start ks h n = subst InStates (sym (append_assoc ks (k.Start ∷ []) (times n k.Start))) (h (suc n))

one_info : (ks : List Kind) → InInfos ks → InInfos (ks ++ k.Info ∷ [])
one_info ks h n = subst InStarts (sym (append_assoc ks (k.Info ∷ []) (times n k.Info))) (h (suc n))

one_message : (ks : List Kind) → InMessages ks → InMessages (ks ++ k.Message ∷ [])
one_message ks h n = subst InInfos (sym (append_assoc ks (k.Message ∷ []) (times n k.Message))) (h (suc n))

first_line : (ks : List Kind) → ks ≡ [] → InMessages (ks ++ k.Protocol ∷ [])
first_line ks e m i n ss = (record { messages = m; infos = i; starts = n; states = ss }, rw e (simp append_assoc))

adds : (bs : List Block) (place : Place) (kind : Kind) (ks : List Kind) → Stands bs place ks →
    Adds ks kind (next_of bs place kind)
adds bs p.Start k.Protocol ks h = (h.0, first_line ks h.1)
adds bs p.Start _ ks h = tt
adds bs p.Messages k.Message ks h = (h.0, one_message ks h.1)
adds bs p.Messages k.Info ks h = (h.0, one_info ks (to_infos ks h.1))
adds bs p.Messages k.Start ks h = (h.0, one_start ks (to_starts ks (to_infos ks h.1)))
adds bs p.Messages k.State ks h = (h.0, state_begins ks (to_states ks (to_starts ks (to_infos ks h.1))))
adds bs p.Messages _ ks h = tt
adds bs p.Infos k.Info ks h = (h.0, one_info ks h.1)
adds bs p.Infos k.Start ks h = (h.0, one_start ks (to_starts ks h.1))
adds bs p.Infos k.State ks h = (h.0, state_begins ks (to_states ks (to_starts ks h.1)))
adds bs p.Infos _ ks h = tt
adds bs p.Starts k.Start ks h = (h.0, one_start ks h.1)
adds bs p.Starts k.State ks h = (h.0, state_begins ks (to_states ks h.1))
adds bs p.Starts _ ks h = tt
adds bs p.States k.State ks h = (h.0, state_begins ks h.1)
adds bs p.States _ ks h = tt
adds bs p.StateBegin k.Begin ks h = h
adds bs p.StateBegin _ ks h = tt
adds bs p.Handlers k.Handler ks h = (h.0, λ n b hs. subst InStates (simp append_assoc) (h.1 (handler n b hs)))
adds bs p.Handlers k.End ks h = (h.0, h.1 Handlers.none)
adds bs p.Handlers _ ks h = tt
adds bs p.HandlerBegin k.Begin ks h = h
adds bs p.HandlerBegin _ ks h = tt
adds bs p.Locals k.Local ks h = (h.0, λ n. subst (Open []) (sym (append_assoc ks (k.Local ∷ []) (times n k.Local))) (h.1 (suc n)))
adds bs p.Locals kind ks h = locals_add bs kind ks h
adds bs p.Body kind ks h = body_adds bs kind ks h
adds bs p.BlockBegin k.Begin ks h = h
adds bs p.BlockBegin _ ks h = tt
adds bs p.AfterIf k.Else ks h = subst (Open (Other ∷ bs)) (sym (append_assoc ks (k.Else ∷ []) (k.Begin ∷ []))) h.1
adds bs p.AfterIf kind ks h = body_adds bs kind ks h.0

pub stands-adds : (bs : List Block) (place : Place) (kind : Kind) (ks : List Kind) → Stands bs place ks →
    IfSome (next_of bs place kind) (λ s. Stands s.0 s.1 (ks ++ kind ∷ []))
stands-adds bs place kind ks h = adds bs place kind ks h

-- ---- the lines can go on

on : (ks more : List Kind) → CanGoOn (ks ++ more) → CanGoOn ks
on ks more (rest, nested) = (more ++ rest, subst IsNested (append_assoc ks more rest) nested)

nested-on : (ks : List Kind) → IsNested ks → CanGoOn ks
nested-on ks h = ([], subst IsNested (sym (append-nil ks)) h)

states-on : (ks : List Kind) → InStates ks → CanGoOn ks
states-on ks h = on ks [] (nested-on (ks ++ []) (h States.none))

handlers-on : (ks : List Kind) → InHandlers ks → CanGoOn ks
handlers-on ks h = on ks (k.End ∷ []) (states-on (ks ++ k.End ∷ []) (h Handlers.none))

open-on : (bs : List Block) (ks : List Kind) → Open bs ks → CanGoOn ks
open-on [] ks h = on ks (k.End ∷ []) (handlers-on (ks ++ k.End ∷ []) (h done))
open-on (First ∷ bs) ks h = on ks (k.End ∷ []) (open-on bs (ks ++ k.End ∷ []) (h done).0)
open-on (Other ∷ bs) ks h = on ks (k.End ∷ []) (open-on bs (ks ++ k.End ∷ []) (h done))

locals-on : (ks : List Kind) → InLocals ks → CanGoOn ks
locals-on ks h = on ks [] (open-on [] (ks ++ []) (h 0))

pub stands-on : (bs : List Block) (place : Place) (ks : List Kind) → Stands bs place ks → CanGoOn ks
stands-on bs p.Start ks h = (k.Protocol ∷ [], (record { messages = 0; infos = 0; starts = 0; states = States.none }, rw h.1 refl))
stands-on bs p.Messages ks h = states-on ks (to_states ks (to_starts ks (to_infos ks h.1)))
stands-on bs p.Infos ks h = states-on ks (to_states ks (to_starts ks h.1))
stands-on bs p.Starts ks h = states-on ks (to_states ks h.1)
stands-on bs p.States ks h = states-on ks h.1
stands-on bs p.StateBegin ks h = on ks (k.Begin ∷ []) (handlers-on (ks ++ k.Begin ∷ []) h.1)
stands-on bs p.Handlers ks h = handlers-on ks h.1
stands-on bs p.HandlerBegin ks h = on ks (k.Begin ∷ []) (locals-on (ks ++ k.Begin ∷ []) h.1)
stands-on bs p.Locals ks h = locals-on ks h.1
stands-on bs p.Body ks h = open-on bs ks h
stands-on bs p.BlockBegin ks h = on ks (k.Begin ∷ []) (open-on bs (ks ++ k.Begin ∷ []) h)
stands-on bs p.AfterIf ks h = open-on bs ks h.0

nest-now : (ks : List Kind) → InStates ks → IsNested ks
nest-now ks h = subst IsNested (append-nil ks) (h States.none)

pub stands-ends : (bs : List Block) (place : Place) (ks : List Kind) → is_end place ≡ true → Stands bs place ks → IsNested ks
stands-ends bs p.Messages ks e h = nest-now ks (to_states ks (to_starts ks (to_infos ks h.1)))
stands-ends bs p.Infos ks e h = nest-now ks (to_states ks (to_starts ks h.1))
stands-ends bs p.Starts ks e h = nest-now ks (to_states ks h.1)
stands-ends bs p.States ks e h = nest-now ks h.1
stands-ends bs _ ks e h = absurd cc
