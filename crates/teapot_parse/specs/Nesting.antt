-- The one pass over the lines with a stack of open blocks.
use Rattle.std.specs.Prelude.{ℕ, ◌+◌, Bool, true, false, if◌then◌else◌, List, [], ◌∷◌, map, Option, Some, None}
use Rattle.std.specs.Option.{option_map}
use Rattle.teapot_lines.specs.declared.cut.Cut.{Cut}
use Rattle.teapot_lines.specs.declared.form.Form.{Form}
use Rattle.teapot_lines.specs.declared.form.Form.TheVariants as f
use Rattle.teapot_parse.specs.declared.placed.Placed.{Placed}
use Rattle.teapot_parse.specs.declared.judge.Kind.{Kind}
use Rattle.teapot_parse.specs.declared.judge.Kind.TheVariants as k
use Rattle.teapot_parse.specs.declared.judge.Block.{Block}
use Rattle.teapot_parse.specs.declared.judge.Block.TheVariants.{First, Other}
use Rattle.teapot_parse.specs.declared.judge.Place.{Place}
use Rattle.teapot_parse.specs.declared.judge.Place.TheVariants.{Start, Messages, Infos, Starts, States, StateBegin, Handlers}
use Rattle.teapot_parse.specs.declared.judge.Place.TheVariants.{HandlerBegin, Locals, Body, BlockBegin, AfterIf}
use Rattle.teapot_parse.specs.declared.judge.Judged.{Judged}
use Rattle.teapot_parse.specs.declared.judge.Judged.TheVariants.{Nested, Bad, Missing}

abbrev pub kind_of : Form Cut → Kind
kind_of (f.Protocol n p) = k.Protocol
kind_of (f.Message n ys c d) = k.Message
kind_of (f.Info n y) = k.Info
kind_of (f.Start h n g) = k.Start
kind_of (f.State n ps c) = k.State
kind_of (f.On a ns) = k.Handler
kind_of f.Default = k.Handler
kind_of (f.Local n y) = k.Local
kind_of f.Begin = k.Begin
kind_of f.End = k.End
kind_of (f.If a) = k.If
kind_of f.Else = k.Else
kind_of (f.ForEach n a) = k.ForEach
kind_of _ = k.Plain

abbrev pub kinds : List Placed → List Kind
kinds ps = map (λ p. kind_of p.form) ps

abbrev pub At : Type 0
At = List Block × Place

abbrev pub closed_by : List Block → At
closed_by [] = ([], Handlers)
closed_by (First ∷ bs) = (bs, AfterIf)
closed_by (Other ∷ bs) = (bs, Body)

abbrev pub body_next : List Block → Kind → Option At
body_next bs k.Plain = Some (bs, Body)
body_next bs k.If = Some (First ∷ bs, BlockBegin)
body_next bs k.ForEach = Some (Other ∷ bs, BlockBegin)
body_next bs k.End = Some (closed_by bs)
body_next bs _ = None

-- declarations stand in the order of their kinds
abbrev pub declared : Place → Kind → Option Place
declared Start k.Protocol = Some Messages
declared Start _ = None
declared Messages k.Message = Some Messages
declared Messages k.Info = Some Infos
declared Messages k.Start = Some Starts
declared Messages k.State = Some StateBegin
declared Messages _ = None
declared Infos k.Info = Some Infos
declared Infos k.Start = Some Starts
declared Infos k.State = Some StateBegin
declared Infos _ = None
declared Starts k.Start = Some Starts
declared Starts k.State = Some StateBegin
declared Starts _ = None
declared States k.State = Some StateBegin
declared States _ = None
declared StateBegin k.Begin = Some Handlers
declared StateBegin _ = None
declared Handlers k.Handler = Some HandlerBegin
declared Handlers k.End = Some States
declared Handlers _ = None
declared HandlerBegin k.Begin = Some Locals
declared HandlerBegin _ = None
declared _ _ = None

abbrev pub next_of : List Block → Place → Kind → Option At
next_of bs Locals k.Local = Some (bs, Locals)
next_of bs Locals kind = body_next bs kind
next_of bs Body kind = body_next bs kind
next_of bs BlockBegin k.Begin = Some (bs, Body)
next_of bs BlockBegin _ = None
next_of bs AfterIf k.Else = Some (Other ∷ bs, BlockBegin)
next_of bs AfterIf kind = body_next bs kind
next_of bs place kind = option_map (λ p. (bs, p)) (declared place kind)

-- nothing need follow
abbrev pub is_end : Place → Bool
is_end Messages = true
is_end Infos = true
is_end Starts = true
is_end States = true
is_end _ = false

abbrev pub go : {A : Type 0} → Option At → A → (List Block → Place → A) → A
go None bad on = bad
go (Some s) bad on = on s.0 s.1

unfoldable pub judged_from : List Block → Place → ℕ → List Kind → Judged
judged_from bs place at [] = if is_end place then Nested else Missing
judged_from bs place at (kind ∷ ks) = go (next_of bs place kind) (Bad at) (λ b p. judged_from b p (at + 1) ks)

abbrev pub judged : List Kind → Judged
judged ks = judged_from [] Start 0 ks
