-- The forms of a line, read from its tokens.
use Rattle.std.specs.Prelude.{ℕ, ◌==◌, ◌&&◌, Bool, true, false, if◌then◌else◌, List, [], ◌∷◌, Option, Some, None}
use Rattle.tw_base.specs.Answers.{◌>>?◌}
use Rattle.tw_base.specs.declared.message.Chan.{Chan}
use Rattle.teapot_tree.specs.declared.keyword.Keyword.{Keyword}
use Rattle.teapot_tree.specs.declared.keyword.Keyword.TheVariants as k
use Rattle.teapot_tree.specs.declared.protocol.ValType.{ValType}
use Rattle.teapot_lines.specs.declared.cut.Cut.{Cut}
use Rattle.teapot_lines.specs.declared.form.Form.{Form}
use Rattle.teapot_lines.specs.declared.form.Form.TheVariants as f
use Rattle.teapot_lines.specs.declared.form.Reach.{Reach}
use Rattle.teapot_lines.specs.declared.form.Reach.TheVariants.{One, All}
use Rattle.teapot_lines.specs.Seen.{Seen, Key, Named, Number}
use Rattle.teapot_lines.specs.Parts.{Got, opened, closed, brace_opened, brace_closed, comma, semicolon, becomes, named, typed}
use Rattle.teapot_lines.specs.Parts.{tagged, channel, param, answers, bracketed, with_front, more_at, listed}
use Rattle.teapot_lines.specs.Reading.{read}

abbrev pub Line : Type 0
Line = Option (Form Cut)

-- nothing stands behind the form
abbrev pub ended : List Seen → Form Cut → Line
ended [] form = Some form
ended (t ∷ ts) form = None

-- the number of the profile stands in profile 2 alone
abbrev pub profile_in : ℕ → List ℕ → List Seen → Line
profile_in profile name [] = Some (f.Protocol name 1)
profile_in profile name (Number n ∷ []) = if (profile == 2) && (n == 2) then Some (f.Protocol name 2) else None
profile_in profile name _ = None

-- what may stand behind the channel of a message
abbrev pub carried_in : List ℕ → List ValType → Chan → List Seen → Line
carried_in name types chan [] = Some (f.Message name types chan false)
carried_in name types chan (Key k.Data ∷ []) = Some (f.Message name types chan true)
carried_in name types chan _ = None

-- the end of a state's line
abbrev pub named_cont : List Seen → Got (Option (List ℕ))
named_cont ts = semicolon ts >>? λ t1. named t1 >>? λ n. brace_closed n.1 >>? λ t2. Some (Some n.0, t2)

abbrev pub or_cont : Option (List Seen) → List Seen → Got (Option (List ℕ))
or_cont (Some rest) ts = Some (None, rest)
or_cont None ts = named_cont ts

abbrev pub cont : List Seen → Got (Option (List ℕ))
cont ts = or_cont (brace_closed ts) ts

unfoldable pub read_protocol : ℕ → List Seen → Line
read_protocol profile ts = named ts >>? λ n. profile_in profile n.0 n.1

unfoldable pub read_message : List Seen → Line
read_message ts = named ts >>? λ n. opened n.1 >>? λ t1. listed typed t1 >>? λ ys. closed ys.1 >>? λ t2. channel t2 >>?
    λ c. carried_in n.0 ys.0 c.0 c.1

unfoldable pub read_info : List Seen → Line
read_info ts = named ts >>? λ n. typed n.1 >>? λ y. ended y.1 (f.Info n.0 y.0)

unfoldable pub read_start : Bool → List Seen → Line
read_start home ts = named ts >>? λ n. tagged n.1 >>? λ g. ended g.1 (f.Start home n.0 g.0)

unfoldable pub read_state : List Seen → Line
read_state ts = named ts >>? λ n. brace_opened n.1 >>? λ t1. listed param t1 >>? λ xs. cont xs.1 >>? λ c. ended c.1
    (f.State n.0 xs.0 c.0)

unfoldable pub read_on : List Seen → Line
read_on ts = answers ts >>? λ w. opened w.1 >>? λ t1. listed named t1 >>? λ xs. closed xs.1 >>? λ t2. ended t2 (f.On w.0 xs.0)

unfoldable pub read_local : List Seen → Line
read_local ts = named ts >>? λ n. typed n.1 >>? λ y. ended y.1 (f.Local n.0 y.0)

unfoldable pub read_if : List Seen → Line
read_if ts = read ts >>? λ a. ended a.1 (f.If a.0)

unfoldable pub read_assign : List ℕ → List Seen → Line
read_assign name ts = becomes ts >>? λ t1. read t1 >>? λ a. ended a.1 (f.Assign name a.0)

unfoldable pub read_send : Reach → List Seen → Line
read_send reach ts = opened ts >>? λ t1. read t1 >>? λ a. comma a.1 >>? λ t2. named t2 >>? λ n. with_front []
    (more_at read n.1) >>? λ xs. closed xs.1 >>? λ t3. ended t3 (f.Send reach a.0 n.0 xs.0)

unfoldable pub read_set_tag : List Seen → Line
read_set_tag ts = opened ts >>? λ t1. tagged t1 >>? λ g. closed g.1 >>? λ t2. ended t2 (f.SetTag g.0)

unfoldable pub read_set_state : List Seen → Line
read_set_state ts = opened ts >>? λ t1. named t1 >>? λ n. brace_opened n.1 >>? λ t2. listed read t2 >>?
    λ xs. brace_closed xs.1 >>? λ t3. closed t3 >>? λ t4. ended t4 (f.SetState n.0 xs.0)

unfoldable pub read_suspend : List Seen → Line
read_suspend ts = opened ts >>? λ t1. named t1 >>? λ l. comma l.1 >>? λ t2. named t2 >>? λ n. brace_opened n.1 >>?
    λ t3. listed read t3 >>? λ xs. semicolon xs.1 >>? λ t4. named t4 >>? λ p. brace_closed p.1 >>? λ t5. closed t5 >>?
    λ t6. ended t6 (f.Suspend l.0 n.0 xs.0 p.0)

unfoldable pub read_resume : List Seen → Line
read_resume ts = bracketed ts >>? λ n. ended n.1 (f.Resume n.0)

unfoldable pub read_error : List Seen → Line
read_error ts = bracketed ts >>? λ n. ended n.1 (f.Error n.0)

unfoldable pub read_for_each : List Seen → Line
read_for_each ts = named ts >>? λ n. read n.1 >>? λ a. ended a.1 (f.ForEach n.0 a.0)

abbrev pub form_by : ℕ → Keyword → List Seen → Line
form_by profile k.Protocol ts = read_protocol profile ts
form_by profile k.Message ts = read_message ts
form_by profile k.Info ts = read_info ts
form_by profile k.HomeStart ts = read_start true ts
form_by profile k.CacheStart ts = read_start false ts
form_by profile k.State ts = read_state ts
form_by profile k.On ts = read_on ts
form_by profile k.Default ts = ended ts f.Default
form_by profile k.Local ts = read_local ts
form_by profile k.Begin ts = ended ts f.Begin
form_by profile k.End ts = ended ts f.End
form_by profile k.If ts = read_if ts
form_by profile k.Else ts = ended ts f.Else
form_by profile k.Send ts = read_send One ts
form_by profile k.SendAll ts = read_send All ts
form_by profile k.SetTag ts = read_set_tag ts
form_by profile k.SetState ts = read_set_state ts
form_by profile k.Suspend ts = read_suspend ts
form_by profile k.Resume ts = read_resume ts
form_by profile k.Error ts = read_error ts
form_by profile k.Install ts = ended ts f.Install
form_by profile k.Enqueue ts = ended ts f.Enqueue
form_by profile k.WakeUp ts = ended ts f.WakeUp
form_by profile k.ForEach ts = read_for_each ts
form_by profile _ ts = None

-- the form of a line at a profile, or none
abbrev pub form_of : ℕ → List Seen → Line
form_of profile (Key key ∷ ts) = form_by profile key ts
form_of profile (Named name ∷ ts) = read_assign name ts
form_of profile _ = None
