-- The limits on a protocol, counted line by line.
use Rattle.std.specs.Prelude.{ℕ, ◌+◌, ◌-◌, Bool, true, false, nat_lt, ◌||◌, if◌then◌else◌, List, [], ◌∷◌, length, Option, Some}
use Rattle.std.specs.Prelude.{None}
use Rattle.std.specs.List.{list_any}
use Rattle.teapot_lines.specs.declared.cut.Cut.{Cut}
use Rattle.teapot_lines.specs.declared.cut.Cut.TheVariants.{Deep, Kept}
use Rattle.teapot_lines.specs.declared.form.Form.{Form}
use Rattle.teapot_lines.specs.declared.form.Form.TheVariants as f
use Rattle.teapot_parse.specs.declared.placed.Placed.{Placed}
use Rattle.teapot_parse.specs.declared.count.Counts.{Counts}
use Rattle.teapot_parse.specs.declared.count.Many.{Many}
use Rattle.teapot_parse.specs.declared.count.Many.TheVariants.{States, Messages, Handlers, Infos, Locals, Args, Depth, Nest}
use Rattle.teapot_parse.specs.declared.count.Many.TheVariants.{Loops}

abbrev pub no_counts : Counts
no_counts = record { states = 0; messages = 0; handlers = 0; infos = 0; locals = 0; loops = 0; begins = 0 }

-- a handler begins
abbrev pub one_handler : Counts → Counts
one_handler c = record c { handlers = c.handlers + 1; locals = 0; loops = 0 }

-- with one more line
abbrev pub counted : Counts → Form Cut → Counts
counted c (f.State n ps k) = record c { states = c.states + 1 }
counted c (f.Message n ys k d) = record c { messages = c.messages + 1 }
counted c (f.On a ns) = one_handler c
counted c f.Default = one_handler c
counted c (f.Info n y) = record c { infos = c.infos + 1 }
counted c (f.Local n y) = record c { locals = c.locals + 1 }
counted c (f.ForEach n a) = record c { loops = c.loops + 1 }
counted c f.Begin = record c { begins = c.begins + 1 }
counted c f.End = record c { begins = c.begins - 1 }
counted c _ = c

abbrev pub is_deep : Cut → Bool
is_deep Deep = true
is_deep (Kept n a) = false

-- the first of some limits that are passed, each with its test
abbrev pub first_of : List (Bool × Many) → Option Many
first_of [] = None
first_of (t ∷ ts) = if t.0 then Some t.1 else first_of ts

-- What a line of a body can pass, in the order of Many. Below the Begins of state and handler an If or ForEach at n
-- open Begins is n - 1 deep.
abbrev pub body_tests : Counts → Form Cut → List (Bool × Many)
body_tests c (f.If a) = (is_deep a, Depth) ∷ (nat_lt 17 c.begins, Nest) ∷ []
body_tests c (f.ForEach n a) = (is_deep a, Depth) ∷ (nat_lt 17 c.begins, Nest) ∷ (nat_lt 4 c.loops, Loops) ∷ []
body_tests c (f.Assign n a) = (is_deep a, Depth) ∷ []
body_tests c (f.Send r a n xs) = (is_deep a || list_any is_deep xs, Depth) ∷ []
body_tests c (f.SetState n xs) = (list_any is_deep xs, Depth) ∷ []
body_tests c (f.Suspend l n xs p) = (list_any is_deep xs, Depth) ∷ []
body_tests c _ = []

-- what any line can pass
abbrev pub tests : Counts → Form Cut → List (Bool × Many)
tests c (f.State n ps k) = (nat_lt 64 c.states, States) ∷ (nat_lt 4 (length ps), Args) ∷ []
tests c (f.Message n ys k d) = (nat_lt 64 c.messages, Messages) ∷ (nat_lt 4 (length ys), Args) ∷ []
tests c (f.On a ns) = (nat_lt 1024 c.handlers, Handlers) ∷ []
tests c f.Default = (nat_lt 1024 c.handlers, Handlers) ∷ []
tests c (f.Info n y) = (nat_lt 8 c.infos, Infos) ∷ []
tests c (f.Local n y) = (nat_lt 8 c.locals, Locals) ∷ []
tests c form = body_tests c form

abbrev pub over_in_body : Counts → Form Cut → Option Many
over_in_body c form = first_of (body_tests c form)

abbrev pub over : Counts → Form Cut → Option Many
over c form = first_of (tests c form)

abbrev pub or_over : Option Many → ℕ → Option (Many × ℕ) → Option (Many × ℕ)
or_over (Some what) line rest = Some (what, line)
or_over None line rest = rest

-- the first line at which a limit is passed, and which
unfoldable pub first_over : Counts → List Placed → Option (Many × ℕ)
first_over c [] = None
first_over c (p ∷ ps) = or_over (over (counted c p.form) p.form) p.line (first_over (counted c p.form) ps)
