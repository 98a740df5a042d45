-- How each form is spelled, in tokens.
use Rattle.std.specs.Prelude.{◌≡◌, ℕ, Bool, true, false, ◌&&◌, ◌||◌, ◌==◌, if◌then◌else◌, List, [], ◌∷◌, ◌++◌, map, Option}
use Rattle.std.specs.Prelude.{Some, None}
use Rattle.std.specs.List.{list_all}
use Rattle.tw_lex.specs.declared.token.Mark.TheVariants as m
use Rattle.teapot_tree.specs.declared.keyword.Keyword.{Keyword}
use Rattle.teapot_tree.specs.declared.keyword.Keyword.TheVariants as k
use Rattle.teapot_tree.specs.declared.expr.Expr.{Expr}
use Rattle.teapot_lines.specs.declared.cut.Cut.{Cut}
use Rattle.teapot_lines.specs.declared.form.Form.{Form}
use Rattle.teapot_lines.specs.declared.form.Form.TheVariants as f
use Rattle.teapot_lines.specs.declared.form.Reach.{Reach}
use Rattle.teapot_lines.specs.declared.form.Reach.TheVariants.{One, All}
use Rattle.teapot_lines.specs.Seen.{Seen, Key, Named, Number, Marked}
use Rattle.teapot_tree.specs.Parts.{fits}
use Rattle.teapot_lines.specs.Exprs.{spelled}
use Rattle.teapot_lines.specs.Cuts.{cut}
use Rattle.teapot_lines.specs.Parts.{tails, spelled_list, spelled_type, spelled_param, spelled_name, spelled_answers, word_of}
use Rattle.teapot_lines.specs.Parts.{tag_word, chan_number}

abbrev pub spelled_cont : Option (List ℕ) → List Seen
spelled_cont None = Marked m.BraceClose ∷ []
spelled_cont (Some w) = Marked m.Semicolon ∷ Named w ∷ Marked m.BraceClose ∷ []

-- the number of profile 1 is left out
abbrev pub spelled_profile : ℕ → List Seen
spelled_profile n = if n == 1 then [] else Number n ∷ []

abbrev pub spelled_carries : Bool → List Seen
spelled_carries true = Key k.Data ∷ []
spelled_carries false = []

abbrev pub start_word : Bool → Keyword
start_word true = k.HomeStart
start_word false = k.CacheStart

abbrev pub send_word : Reach → Keyword
send_word One = k.Send
send_word All = k.SendAll

abbrev pub spelled_bracketed : List ℕ → List Seen
spelled_bracketed n = Marked m.Open ∷ Named n ∷ Marked m.Close ∷ []

abbrev pub spelling : Form Expr → List Seen
spelling (f.Protocol n p) = Key k.Protocol ∷ Named n ∷ spelled_profile p
spelling (f.Message n ys c d) = Key k.Message ∷ Named n ∷ Marked m.Open ∷
    (spelled_list spelled_type ys ++ (Marked m.Close ∷ Number (chan_number c) ∷ spelled_carries d))
spelling (f.Info n y) = Key k.Info ∷ Named n ∷ Key (word_of y) ∷ []
spelling (f.Start h n g) = Key (start_word h) ∷ Named n ∷ Key (tag_word g) ∷ []
spelling (f.State n ps c) = Key k.State ∷ Named n ∷ Marked m.BraceOpen ∷ (spelled_list spelled_param ps ++ spelled_cont c)
spelling (f.On w ns) = Key k.On ∷ (spelled_answers w ++ (Marked m.Open ∷ (spelled_list spelled_name ns ++ (Marked m.Close ∷ []))))
spelling f.Default = Key k.Default ∷ []
spelling (f.Local n y) = Key k.Local ∷ Named n ∷ Key (word_of y) ∷ []
spelling f.Begin = Key k.Begin ∷ []
spelling f.End = Key k.End ∷ []
spelling (f.If a) = Key k.If ∷ (spelled a ++ [])
spelling f.Else = Key k.Else ∷ []
spelling (f.Assign n a) = Named n ∷ Marked m.Becomes ∷ (spelled a ++ [])
spelling (f.Send r a n xs) = Key (send_word r) ∷ Marked m.Open ∷
    (spelled a ++ (Marked m.Comma ∷ Named n ∷ (tails spelled xs ++ (Marked m.Close ∷ []))))
spelling (f.SetTag g) = Key k.SetTag ∷ Marked m.Open ∷ Key (tag_word g) ∷ Marked m.Close ∷ []
spelling (f.SetState n xs) = Key k.SetState ∷ Marked m.Open ∷ Named n ∷ Marked m.BraceOpen ∷
    (spelled_list spelled xs ++ (Marked m.BraceClose ∷ Marked m.Close ∷ []))
spelling (f.Suspend l n xs p) = Key k.Suspend ∷ Marked m.Open ∷ Named l ∷ Marked m.Comma ∷ Named n ∷ Marked m.BraceOpen ∷
    (spelled_list spelled xs ++ (Marked m.Semicolon ∷ Named p ∷ Marked m.BraceClose ∷ Marked m.Close ∷ []))
spelling (f.Resume n) = Key k.Resume ∷ spelled_bracketed n
spelling (f.Error n) = Key k.Error ∷ spelled_bracketed n
spelling f.Install = Key k.Install ∷ []
spelling f.Enqueue = Key k.Enqueue ∷ []
spelling f.WakeUp = Key k.WakeUp ∷ []
spelling (f.ForEach n a) = Key k.ForEach ∷ Named n ∷ (spelled a ++ [])

-- whether a profile has all numbers of the form
abbrev pub fits_form : ℕ → Form Expr → Bool
fits_form profile (f.Protocol n p) = (p == 1) || ((profile == 2) && (p == 2))
fits_form profile (f.If a) = fits a
fits_form profile (f.Assign n a) = fits a
fits_form profile (f.Send r a n xs) = fits a && list_all fits xs
fits_form profile (f.SetState n xs) = list_all fits xs
fits_form profile (f.Suspend l n xs p) = list_all fits xs
fits_form profile (f.ForEach n a) = fits a
fits_form profile _ = true

-- what is kept of a form while it is read
abbrev pub cut_form : Form Expr → Form Cut
cut_form (f.Protocol n p) = f.Protocol n p
cut_form (f.Message n ys c d) = f.Message n ys c d
cut_form (f.Info n y) = f.Info n y
cut_form (f.Start h n g) = f.Start h n g
cut_form (f.State n ps c) = f.State n ps c
cut_form (f.On w ns) = f.On w ns
cut_form f.Default = f.Default
cut_form (f.Local n y) = f.Local n y
cut_form f.Begin = f.Begin
cut_form f.End = f.End
cut_form (f.If a) = f.If (cut a)
cut_form f.Else = f.Else
cut_form (f.Assign n a) = f.Assign n (cut a)
cut_form (f.Send r a n xs) = f.Send r (cut a) n (map cut xs)
cut_form (f.SetTag g) = f.SetTag g
cut_form (f.SetState n xs) = f.SetState n (map cut xs)
cut_form (f.Suspend l n xs p) = f.Suspend l n (map cut xs) p
cut_form (f.Resume n) = f.Resume n
cut_form (f.Error n) = f.Error n
cut_form f.Install = f.Install
cut_form f.Enqueue = f.Enqueue
cut_form f.WakeUp = f.WakeUp
cut_form (f.ForEach n a) = f.ForEach n (cut a)

-- the tokens spell a form of the profile, of which this is kept
abbrev pub IsForm : ℕ → List Seen → Form Cut → Type 0
IsForm profile ts g = (x : Form Expr) × (fits_form profile x ≡ true) × (cut_form x ≡ g) × (ts ≡ spelling x)

-- the tokens are the spelling of an expression, of which this is kept, and these tokens behind it
abbrev pub Fronts : List Seen → Cut × List Seen → Type 0
Fronts ts r = (x : Expr) × (fits x ≡ true) × (cut x ≡ r.0) × (ts ≡ spelled x ++ r.1)
