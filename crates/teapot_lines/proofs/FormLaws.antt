-- A line is of a form exactly where its tokens spell the form.
use Rattle.std.proofs.Common.{◌≡◌, ℕ, Bool, true, false, cond, List, [], ◌∷◌, ◌++◌, map, Option, Some, None, IfSome, refl, ap}
use Rattle.std.proofs.Common.{sym, ◌∙◌, subst}
use Rattle.std.specs.Prelude.{◌||◌, ◌&&◌, ◌==◌}
use Rattle.std.specs.List.{list_all}
use Rattle.std.proofs.lemmas.Bool.{eqb-true}
use Rattle.std.proofs.lemmas.List.{append-nil}
use Rattle.teapot_tree.specs.declared.keyword.Keyword.{Keyword}
use Rattle.teapot_tree.specs.declared.keyword.Keyword.TheVariants as k
use Rattle.tw_lex.specs.declared.token.Mark.TheVariants as m
use Rattle.teapot_lines.specs.Seen.{Seen, Key, Named, Number, Marked}
use Rattle.teapot_tree.specs.declared.expr.Expr.{Expr}
use Rattle.teapot_lines.specs.declared.cut.Cut.{Cut}
use Rattle.teapot_lines.specs.declared.form.Form.{Form}
use Rattle.teapot_lines.specs.declared.form.Form.TheVariants as f
use Rattle.teapot_lines.specs.declared.form.Typed.{Typed}
use Rattle.teapot_lines.specs.declared.form.Answers.{Answers}
use Rattle.teapot_lines.specs.declared.form.Answers.TheVariants as w
use Rattle.teapot_lines.specs.declared.form.Reach.{Reach}
use Rattle.teapot_lines.specs.declared.form.Reach.TheVariants as r
use Rattle.teapot_tree.specs.declared.protocol.ValType.{ValType}
use Rattle.tw_base.specs.declared.message.Chan.{Chan}
use Rattle.teapot_tree.specs.Parts.{fits}
use Rattle.teapot_lines.specs.Exprs.{spelled}
use Rattle.teapot_lines.specs.Cuts.{cut}
use Rattle.teapot_lines.specs.Reading.{read}
use Rattle.teapot_lines.specs.Lines.{read_protocol, read_message, read_info, read_start, read_state, read_on, read_local}
use Rattle.teapot_lines.specs.Lines.{read_if, read_assign, read_send, read_set_tag, read_set_state, read_suspend, read_resume}
use Rattle.teapot_lines.specs.Lines.{read_error, read_for_each, cont, or_cont, profile_in, carried_in, ended, form_by, form_of}
use Rattle.teapot_lines.specs.Spelling.{spelling, fits_form, cut_form, IsForm, spelled_cont, spelled_carries, start_word}
use Rattle.teapot_lines.specs.Spelling.{send_word}
use Rattle.teapot_lines.specs.Parts.{Got, opened, closed, brace_opened, brace_closed, comma, semicolon, becomes, named, typed}
use Rattle.teapot_lines.specs.Parts.{tagged, channel, param, answers, bracketed, with_front, more_at, listed, spelled_list}
use Rattle.teapot_lines.specs.Parts.{spelled_type, spelled_param, spelled_name, spelled_answers, chan_number}
use Rattle.teapot_lines.proofs.Both.{after, opened-is, closed-is, brace_opened-is, brace_closed-is, comma-is, semicolon-is}
use Rattle.teapot_lines.proofs.Both.{becomes-is, named-is, typed-is, typed-again, tagged-is, tagged-again, channel-is}
use Rattle.teapot_lines.proofs.Both.{channel-again, bracketed-is, answers-is, reads_name, reads_type, reads_param, reads_expr}
use Rattle.teapot_lines.proofs.Both.{more_at-again, more_at-found, listed-again, listed-found, is, same, both, both-true}

map_same : {A : Type 0} (xs : List A) → map same xs ≡ xs
map_same [] = refl
map_same (x ∷ xs) = ap (λ ys. x ∷ ys) (map_same xs)

all_is : {A : Type 0} (xs : List A) → list_all is xs ≡ true
all_is [] = refl
all_is (x ∷ xs) = all_is xs

-- ---- what is read is spelled so

end-is : (ts : List Seen) (g : Form Cut) (P : Form Cut → Type 0) → (ts ≡ [] → P g) → IfSome (ended ts g) P
end-is [] g P h = h refl
end-is (t ∷ ts) g P h = tt

front-nil : {B : Type 0} (r : Got (List B)) (P : List B × List Seen → Type 0) → IfSome r P → IfSome (with_front [] r) P
front-nil None P h = tt
front-nil (Some x) P h = h

send-found : (profile : ℕ) (reach : Reach) (ts : List Seen) →
    IfSome (read_send reach ts) (IsForm profile (Key (send_word reach) ∷ ts))
unfolding read_send
send-found profile reach ts =
    after (opened ts) _ _ _ (opened-is ts) (λ t1 e1.
    after (read t1) _ _ _ (reads_expr.found t1) (λ a ea.
    after (comma a.1) _ _ _ (comma-is a.1) (λ t2 e2.
    after (named t2) _ _ _ (named-is t2) (λ n en.
    after (with_front [] (more_at read n.1)) _ _ _ (front-nil (more_at read n.1) _
    (more_at-found read spelled fits cut reads_expr n.1)) (λ xs es.
    after (closed xs.1) _ _ _ (closed-is xs.1) (λ t3 e3.
    end-is t3 _ _
    (λ e4. (
      f.Send reach ea.0 n.0 es.0,
      both-true (fits ea.0) (list_all fits es.0) ea.1 es.1,
      rw (ea.2, es.2) refl,
      rw (e1, ea.3, e2, en, es.3, e3, e4) refl,
    ))))))))

set_state-found : (profile : ℕ) (ts : List Seen) → IfSome (read_set_state ts) (IsForm profile (Key k.SetState ∷ ts))
unfolding read_set_state
set_state-found profile ts =
    after (opened ts) _ _ _ (opened-is ts) (λ t1 e1.
    after (named t1) _ _ _ (named-is t1) (λ n en.
    after (brace_opened n.1) _ _ _ (brace_opened-is n.1) (λ t2 e2.
    after (listed read t2) _ _ _ (listed-found read spelled fits cut reads_expr t2) (λ xs es.
    after (brace_closed xs.1) _ _ _ (brace_closed-is xs.1) (λ t3 e3.
    after (closed t3) _ _ _ (closed-is t3) (λ t4 e4.
    end-is t4 _ _ (λ e5. (f.SetState n.0 es.0, es.1, rw es.2 refl, rw (e1, en, e2, es.3, e3, e4, e5) refl))))))))

suspend-found : (profile : ℕ) (ts : List Seen) → IfSome (read_suspend ts) (IsForm profile (Key k.Suspend ∷ ts))
unfolding read_suspend
suspend-found profile ts =
    after (opened ts) _ _ _ (opened-is ts) (λ t1 e1.
    after (named t1) _ _ _ (named-is t1) (λ l el.
    after (comma l.1) _ _ _ (comma-is l.1) (λ t2 e2.
    after (named t2) _ _ _ (named-is t2) (λ n en.
    after (brace_opened n.1) _ _ _ (brace_opened-is n.1) (λ t3 e3.
    after (listed read t3) _ _ _ (listed-found read spelled fits cut reads_expr t3) (λ xs es.
    after (semicolon xs.1) _ _ _ (semicolon-is xs.1) (λ t4 e4.
    after (named t4) _ _ _ (named-is t4) (λ p ep.
    after (brace_closed p.1) _ _ _ (brace_closed-is p.1) (λ t5 e5.
    after (closed t5) _ _ _ (closed-is t5) (λ t6 e6.
    end-is t6 _ _
    (λ e7. (
      f.Suspend l.0 n.0 es.0 p.0,
      es.1,
      rw es.2 refl,
      rw (e1, el, e2, en, e3, es.3, e4, ep, e5, e6, e7) refl,
    ))))))))))))

on-found : (profile : ℕ) (ts : List Seen) → IfSome (read_on ts) (IsForm profile (Key k.On ∷ ts))
unfolding read_on
on-found profile ts =
    after (answers ts) _ _ _ (answers-is ts) (λ n en.
    after (opened n.1) _ _ _ (opened-is n.1) (λ t1 e1.
    after (listed named t1) _ _ _ (listed-found named spelled_name is same reads_name t1) (λ xs es.
    after (closed xs.1) _ _ _ (closed-is xs.1) (λ t2 e2.
    end-is t2 _ _ (λ e3. (f.On n.0 es.0, refl, ap (f.On n.0) (sym (map_same es.0) ∙ es.2), rw (en, e1, es.3, e2, e3) refl))))))

if-found : (profile : ℕ) (ts : List Seen) → IfSome (read_if ts) (IsForm profile (Key k.If ∷ ts))
unfolding read_if
if-found profile ts = after (read ts) _ _ _ (reads_expr.found ts)
    (λ a ea. end-is a.1 _ _ (λ e1. (f.If ea.0, ea.1, rw ea.2 refl, rw (ea.3, e1) refl)))

for_each-found : (profile : ℕ) (ts : List Seen) → IfSome (read_for_each ts) (IsForm profile (Key k.ForEach ∷ ts))
unfolding read_for_each
for_each-found profile ts =
    after (named ts) _ _ _ (named-is ts) (λ n en.
    after (read n.1) _ _ _ (reads_expr.found n.1) (λ a ea. end-is a.1 _ _
    (λ e1. (f.ForEach n.0 ea.0, ea.1, rw ea.2 refl, rw (en, ea.3, e1) refl))))

assign-found : (profile : ℕ) (name : List ℕ) (ts : List Seen) → IfSome (read_assign name ts) (IsForm profile (Named name ∷ ts))
unfolding read_assign
assign-found profile name ts =
    after (becomes ts) _ _ _ (becomes-is ts) (λ t1 e1.
    after (read t1) _ _ _ (reads_expr.found t1) (λ a ea. end-is a.1 _ _
    (λ e2. (f.Assign name ea.0, ea.1, rw ea.2 refl, rw (e1, ea.3, e2) refl))))

info-found : (profile : ℕ) (ts : List Seen) → IfSome (read_info ts) (IsForm profile (Key k.Info ∷ ts))
unfolding read_info
info-found profile ts =
    after (named ts) _ _ _ (named-is ts) (λ n en.
    after (typed n.1) _ _ _ (typed-is n.1) (λ y ey. end-is y.1 _ _ (λ e1. (f.Info n.0 y.0, refl, refl, rw (en, ey, e1) refl))))

local-found : (profile : ℕ) (ts : List Seen) → IfSome (read_local ts) (IsForm profile (Key k.Local ∷ ts))
unfolding read_local
local-found profile ts =
    after (named ts) _ _ _ (named-is ts) (λ n en.
    after (typed n.1) _ _ _ (typed-is n.1) (λ y ey. end-is y.1 _ _ (λ e1. (f.Local n.0 y.0, refl, refl, rw (en, ey, e1) refl))))

start-found : (profile : ℕ) (home : Bool) (ts : List Seen) →
    IfSome (read_start home ts) (IsForm profile (Key (start_word home) ∷ ts))
unfolding read_start
start-found profile home ts =
    after (named ts) _ _ _ (named-is ts) (λ n en.
    after (tagged n.1) _ _ _ (tagged-is n.1) (λ y ey. end-is y.1 _ _
    (λ e1. (f.Start home n.0 y.0, refl, refl, rw (en, ey, e1) refl))))

set_tag-found : (profile : ℕ) (ts : List Seen) → IfSome (read_set_tag ts) (IsForm profile (Key k.SetTag ∷ ts))
unfolding read_set_tag
set_tag-found profile ts =
    after (opened ts) _ _ _ (opened-is ts) (λ t1 e1.
    after (tagged t1) _ _ _ (tagged-is t1) (λ y ey.
    after (closed y.1) _ _ _ (closed-is y.1) (λ t2 e2. end-is t2 _ _
    (λ e3. (f.SetTag y.0, refl, refl, rw (e1, ey, e2, e3) refl)))))

resume-found : (profile : ℕ) (ts : List Seen) → IfSome (read_resume ts) (IsForm profile (Key k.Resume ∷ ts))
unfolding read_resume
resume-found profile ts = after (bracketed ts) _ _ _ (bracketed-is ts)
    (λ n en. end-is n.1 _ _ (λ e1. (f.Resume n.0, refl, refl, rw (en, e1) refl)))

error-found : (profile : ℕ) (ts : List Seen) → IfSome (read_error ts) (IsForm profile (Key k.Error ∷ ts))
unfolding read_error
error-found profile ts = after (bracketed ts) _ _ _ (bracketed-is ts)
    (λ n en. end-is n.1 _ _ (λ e1. (f.Error n.0, refl, refl, rw (en, e1) refl)))

-- what stands behind the channel
carried-is : (n : List ℕ) (ys : List ValType) (chan : Chan) (ts : List Seen) →
    IfSome (carried_in n ys chan ts) (λ g. (d : Bool) × (f.Message n ys chan d ≡ g) × (ts ≡ spelled_carries d))
carried-is n ys chan [] = (false, refl, refl)
carried-is n ys chan (Key k.Data ∷ []) = (true, refl, refl)
carried-is n ys chan (Key k.Data ∷ t ∷ ts) = tt
carried-is n ys chan (Key _ ∷ ts) = tt
carried-is n ys chan (Marked _ ∷ ts) = tt
carried-is n ys chan (Named _ ∷ ts) = tt
carried-is n ys chan (Number _ ∷ ts) = tt

some_to : {A : Type 0} (o : Option A) (P Q : A → Type 0) → IfSome o P → ((x : A) → P x → Q x) → IfSome o Q
some_to None P Q h k = tt
some_to (Some x) P Q h k = k x h

message-found : (profile : ℕ) (ts : List Seen) → IfSome (read_message ts) (IsForm profile (Key k.Message ∷ ts))
unfolding read_message
message-found profile ts =
    after (named ts) _ _ _ (named-is ts) (λ n en.
    after (opened n.1) _ _ _ (opened-is n.1) (λ t1 e1.
    after (listed typed t1) _ _ _ (listed-found typed spelled_type is same reads_type t1) (λ ys es.
    after (closed ys.1) _ _ _ (closed-is ys.1) (λ t2 e2.
    after (channel t2) _ _ _ (channel-is t2) (λ c ec.
    some_to (carried_in n.0 ys.0 c.0 c.1) _ _ (carried-is n.0 ys.0 c.0 c.1) (λ g d. (
      f.Message n.0 es.0 c.0 d.0,
      refl,
      ap (λ zs. f.Message n.0 zs c.0 d.0) (sym (map_same es.0) ∙ es.2)
          ∙ d.1,
      rw (en, e1, es.3, e2, ec, d.2) refl,
    )))))))

or_cont-is : (o : Option (List Seen)) (ts : List Seen) → IfSome o (λ us. ts ≡ Marked m.BraceClose ∷ us) →
    IfSome (or_cont o ts) (λ r. ts ≡ spelled_cont r.0 ++ r.1)
or_cont-is (Some us) ts h = h
or_cont-is None ts h =
    after (semicolon ts) _ _ _ (semicolon-is ts) (λ t1 e1.
    after (named t1) _ _ _ (named-is t1) (λ n en.
    after (brace_closed n.1) _ _ _ (brace_closed-is n.1) (λ t2 e2. rw (e1, en, e2) refl)))

state-found : (profile : ℕ) (ts : List Seen) → IfSome (read_state ts) (IsForm profile (Key k.State ∷ ts))
unfolding read_state
state-found profile ts =
    after (named ts) _ _ _ (named-is ts) (λ n en.
    after (brace_opened n.1) _ _ _ (brace_opened-is n.1) (λ t1 e1.
    after (listed param t1) _ _ _ (listed-found param spelled_param is same reads_param t1) (λ xs es.
    after (cont xs.1) _ _ _ (or_cont-is (brace_closed xs.1) xs.1 (brace_closed-is xs.1)) (λ c ec.
    end-is c.1 _ _
    (λ e2. (
      f.State n.0 es.0 c.0,
      refl,
      ap (λ ps. f.State n.0 ps c.0) (sym (map_same es.0) ∙ es.2),
      rw (en, e1, es.3, ec, e2)
          (ap (λ zs. Key k.State ∷ Named n.0 ∷ Marked m.BraceOpen ∷ (spelled_list spelled_param es.0 ++ zs))
          (append-nil (spelled_cont c.0))),
    ))))))

two_profile : (profile : ℕ) (name : List ℕ) (n : ℕ) (b c : Bool) → (profile == 2) ≡ b → (n == 2) ≡ c →
    IfSome (cond (b && c) (Some (f.Protocol name 2)) None) (IsForm profile (Key k.Protocol ∷ Named name ∷ Number n ∷ []))
two_profile profile name n true true d e = let two : n ≡ 2 = eqb-true n 2 e in (f.Protocol name 2, rw d refl, refl, rw two refl)
two_profile profile name n true false d e = tt
two_profile profile name n false c d e = tt

profile-found : (profile : ℕ) (name : List ℕ) (ts : List Seen) →
    IfSome (profile_in profile name ts) (IsForm profile (Key k.Protocol ∷ Named name ∷ ts))
profile-found profile name [] = (f.Protocol name 1, refl, refl, refl)
profile-found profile name (Number n ∷ []) = two_profile profile name n (profile == 2) (n == 2) refl refl
profile-found profile name (Number n ∷ t ∷ ts) = tt
profile-found profile name (Marked _ ∷ ts) = tt
profile-found profile name (Key _ ∷ ts) = tt
profile-found profile name (Named _ ∷ ts) = tt

protocol-found : (profile : ℕ) (ts : List Seen) → IfSome (read_protocol profile ts) (IsForm profile (Key k.Protocol ∷ ts))
unfolding read_protocol
protocol-found profile ts = after (named ts) _ _ _ (named-is ts)
    (λ n en. subst (λ us. IfSome (profile_in profile n.0 n.1) (IsForm profile (Key k.Protocol ∷ us))) (sym en)
    (profile-found profile n.0 n.1))

word-found : (profile : ℕ) (x : Form Expr) (g : Form Cut) (key : Keyword) (ts : List Seen) → fits_form profile x ≡ true →
    cut_form x ≡ g → Key key ∷ [] ≡ spelling x → IfSome (ended ts g) (IsForm profile (Key key ∷ ts))
word-found profile x g key ts h c e = end-is ts g _ (λ e1. (x, h, c, rw e1 e))

by-found : (profile : ℕ) (key : Keyword) (ts : List Seen) → IfSome (form_by profile key ts) (IsForm profile (Key key ∷ ts))
by-found profile k.Protocol ts = protocol-found profile ts
by-found profile k.Message ts = message-found profile ts
by-found profile k.Info ts = info-found profile ts
by-found profile k.HomeStart ts = start-found profile true ts
by-found profile k.CacheStart ts = start-found profile false ts
by-found profile k.State ts = state-found profile ts
by-found profile k.On ts = on-found profile ts
by-found profile k.Default ts = word-found profile f.Default f.Default k.Default ts refl refl refl
by-found profile k.Local ts = local-found profile ts
by-found profile k.Begin ts = word-found profile f.Begin f.Begin k.Begin ts refl refl refl
by-found profile k.End ts = word-found profile f.End f.End k.End ts refl refl refl
by-found profile k.If ts = if-found profile ts
by-found profile k.Else ts = word-found profile f.Else f.Else k.Else ts refl refl refl
by-found profile k.Send ts = send-found profile r.One ts
by-found profile k.SendAll ts = send-found profile r.All ts
by-found profile k.SetTag ts = set_tag-found profile ts
by-found profile k.SetState ts = set_state-found profile ts
by-found profile k.Suspend ts = suspend-found profile ts
by-found profile k.Resume ts = resume-found profile ts
by-found profile k.Error ts = error-found profile ts
by-found profile k.Install ts = word-found profile f.Install f.Install k.Install ts refl refl refl
by-found profile k.Enqueue ts = word-found profile f.Enqueue f.Enqueue k.Enqueue ts refl refl refl
by-found profile k.WakeUp ts = word-found profile f.WakeUp f.WakeUp k.WakeUp ts refl refl refl
by-found profile k.ForEach ts = for_each-found profile ts
by-found profile _ ts = tt

pub form-found : (profile : ℕ) (ts : List Seen) → IfSome (form_of profile ts) (IsForm profile ts)
form-found profile [] = tt
form-found profile (Key key ∷ ts) = by-found profile key ts
form-found profile (Named name ∷ ts) = assign-found profile name ts
form-found profile (Number _ ∷ ts) = tt
form-found profile (Marked _ ∷ ts) = tt

-- ---- what is spelled so is read

cont-again : (c : Option (List ℕ)) → cont (spelled_cont c ++ []) ≡ Some (c, [])
cont-again None = refl
cont-again (Some w) = refl

state-again : (profile : ℕ) (n : List ℕ) (ps : List Typed) (c : Option (List ℕ)) →
    form_of profile (spelling (f.State n ps c)) ≡ Some (f.State n ps c)
unfolding read_state
state-again profile n ps None =
    rw (listed-again param spelled_param is same reads_param ps (Marked m.BraceClose) [] (all_is ps) refl, map_same ps) refl
state-again profile n ps (Some w) =
    rw (
      listed-again param spelled_param is same reads_param ps (Marked m.Semicolon) (Named w ∷ Marked m.BraceClose ∷ [])
          (all_is ps) refl,
      map_same ps,
    ) refl

answers-again : (a : Answers) (ts : List Seen) → answers (spelled_answers a ++ ts) ≡ Some (a, ts)
answers-again w.RdFault ts = refl
answers-again w.WrFault ts = refl
answers-again (w.Named n) ts = refl

profiles : (profile p : ℕ) (b c d : Bool) → (p == 1) ≡ b → (profile == 2) ≡ c → (p == 2) ≡ d → (b || (c && d)) ≡ true →
    (n : List ℕ) → profile_in profile n (cond b [] (Number p ∷ [])) ≡ Some (f.Protocol n p)
profiles profile p true c d e g i h n = let one : p ≡ 1 = eqb-true p 1 e in rw one refl
profiles profile p false true true e g i h n = let two : p ≡ 2 = eqb-true p 2 i in rw (g, two) refl
profiles profile p false true false e g i h n = absurd cc
profiles profile p false false d e g i h n = absurd cc

message-again : (n : List ℕ) (ys : List ValType) (chan : Chan) (d : Bool) →
    carried_in n ys chan (spelled_carries d) ≡ Some (f.Message n ys chan d)
message-again n ys chan true = refl
message-again n ys chan false = refl

pub form-again : (profile : ℕ) (x : Form Expr) → fits_form profile x ≡ true → form_of profile (spelling x) ≡ Some (cut_form x)
unfolding read_protocol read_message read_info read_start read_on read_local read_if read_assign read_send read_set_tag
    read_set_state read_suspend read_resume read_error read_for_each
form-again profile (f.Protocol n p) h = profiles profile p (p == 1) (profile == 2) (p == 2) refl refl refl h n
form-again profile (f.Message n ys c d) h =
    rw (
      listed-again typed spelled_type is same reads_type ys (Marked m.Close) (Number (chan_number c) ∷ spelled_carries d)
          (all_is ys) refl,
      channel-again,
      map_same ys,
    ) (message-again n ys c d)
form-again profile (f.Info n y) h = rw typed-again refl
form-again profile (f.Start true n g) h = rw tagged-again refl
form-again profile (f.Start false n g) h = rw tagged-again refl
form-again profile (f.State n ps c) h = state-again profile n ps c
form-again profile (f.On a ns) h =
    rw (answers-again, listed-again named spelled_name is same reads_name ns (Marked m.Close) [] (all_is ns) refl, map_same ns)
    refl
form-again profile f.Default h = refl
form-again profile (f.Local n y) h = rw typed-again refl
form-again profile f.Begin h = refl
form-again profile f.End h = refl
form-again profile (f.If a) h = rw (reads_expr.again a [] h) refl
form-again profile f.Else h = refl
form-again profile (f.Assign n a) h = rw (reads_expr.again a [] h) refl
form-again profile (f.Send r.One a n xs) h =
    let b = both (fits a) (list_all fits xs) h in
    rw (reads_expr.again a _ b.0, more_at-again read spelled fits cut reads_expr xs (Marked m.Close) [] b.1 refl) refl
form-again profile (f.Send r.All a n xs) h =
    let b = both (fits a) (list_all fits xs) h in
    rw (reads_expr.again a _ b.0, more_at-again read spelled fits cut reads_expr xs (Marked m.Close) [] b.1 refl) refl
form-again profile (f.SetTag g) h = rw tagged-again refl
form-again profile (f.SetState n xs) h =
    rw (listed-again read spelled fits cut reads_expr xs (Marked m.BraceClose) (Marked m.Close ∷ []) h refl) refl
form-again profile (f.Suspend l n xs p) h =
    rw (listed-again read spelled fits cut reads_expr xs (Marked m.Semicolon)
    (Named p ∷ Marked m.BraceClose ∷ Marked m.Close ∷ []) h refl) refl
form-again profile (f.Resume n) h = refl
form-again profile (f.Error n) h = refl
form-again profile f.Install h = refl
form-again profile f.Enqueue h = refl
form-again profile f.WakeUp h = refl
form-again profile (f.ForEach n a) h = rw (reads_expr.again a [] h) refl
