-- What the names of a protocol stand for.
use Rattle.std.specs.Prelude.{ℕ, ◌-◌, ◌^◌, min, ◌++◌, ◌∷◌, List, [], if◌then◌else◌, Option, position, unwrap_or}
use Rattle.std.specs.List.{flat_map, fold, list_any}
use Rattle.std.specs.Str.{bytes_eq}
use Rattle.tw_base.specs.declared.name.Name.{Name}
use Rattle.teapot_tree.specs.declared.protocol.Protocol.{Protocol}
use Rattle.teapot_tree.specs.declared.protocol.State.{State}
use Rattle.teapot_tree.specs.declared.stmt.Do.TheOpen.{Do-F}
use Rattle.teapot_tree.specs.declared.stmt.Stmt.{Stmt, fold-Stmt}

-- the place of an info in their list
abbrev pub info_number : Protocol → Name → Option ℕ
info_number p name = position (λ i. bytes_eq i.name name) p.infos

-- the number of a declared name
abbrev pub declared : Option ℕ → ℕ
declared n = unwrap_or n 0

-- ---- the names of errors

abbrev pub joined : List (List Name) → List Name
joined lists = flat_map (λ names. names) lists

abbrev pub errors_step : Do-F (List Name) (List Name) → List Name
errors_step (Do-F.If e first second) = joined first ++ joined (unwrap_or second [])
errors_step (Do-F.ForEach x e body) = joined body
errors_step (Do-F.Each x set body) = joined body
errors_step (Do-F.Error name) = name ∷ []
errors_step _ = []

-- the errors of a statement, in the order of the text
unfoldable pub errors_of : Stmt → List Name
errors_of = fold-Stmt (List Name) (List Name) errors_step (λ s. s.what)

abbrev pub errors_in : List Stmt → List Name
errors_in stmts = flat_map errors_of stmts

abbrev pub state_errors : State → List Name
state_errors s = flat_map (λ h. errors_in h.body) s.handlers

-- a list of names with one more, where it is new
abbrev pub noted : List Name → Name → List Name
noted names name = if list_any (λ n. bytes_eq n name) names then names else names ++ name ∷ []

-- the table of the errors' names: each once, by its first place in the protocol
unfoldable pub error_names : Protocol → List Name
error_names p = fold noted [] (flat_map state_errors p.states)

-- the number of a name in the table
abbrev pub number_in : List Name → Name → ℕ
number_in names name = min (declared (position (λ n. bytes_eq n name) names)) (2 ^ 32 - 1)

abbrev pub error_number : Protocol → Name → ℕ
error_number p name = number_in (error_names p) name
