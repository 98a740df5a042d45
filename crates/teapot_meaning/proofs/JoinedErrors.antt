-- The errors of a statement by what it does.
use Rattle.std.proofs.Common.{◌≡◌, ◌∙◌, List, [], ◌∷◌, ◌++◌, Some, None, map, refl, ap}
use Rattle.std.specs.List.{flat_map}
use Rattle.std.proofs.lemmas.List.{append-nil}
use Rattle.tw_base.specs.declared.name.Name.{Name}
use Rattle.teapot_tree.specs.declared.stmt.Do.{Do, out-Do, fold-Do, fold_out-Do, map-Do}
use Rattle.teapot_tree.specs.declared.stmt.Do.TheOpen.{Do-F}
use Rattle.teapot_tree.specs.declared.stmt.Stmt.{Stmt, fold-Stmt, fold_out-Stmt}
use Rattle.teapot_meaning.specs.Layers.{Layer, what_of}
use Rattle.teapot_meaning.specs.Names.{errors_in, errors_of, errors_step, joined}

joined_map : {X : Type 0} (f : X → List Name) (xs : List X) → joined (map f xs) ≡ flat_map f xs
joined_map f [] = refl
joined_map f (x ∷ xs) = ap (λ names. f x ++ names) (joined_map f xs)

abbrev pub layer_errors : Layer → List Name
layer_errors (Do-F.If e first None) = errors_in first
layer_errors (Do-F.If e first (Some second)) = errors_in first ++ errors_in second
layer_errors (Do-F.ForEach x e body) = errors_in body
layer_errors (Do-F.Each x set body) = errors_in body
layer_errors (Do-F.Error name) = name ∷ []
layer_errors _ = []

abbrev of_do : Do → List Name
of_do = fold-Do (List Name) (List Name) errors_step (λ s. s.what)

by_layer : (l : Layer) →
    errors_step (map-Do Do Stmt (List Name) (List Name) of_do (fold-Stmt (List Name) (List Name) errors_step (λ s. s.what)) l)
    ≡ layer_errors l
unfolding errors_of
by_layer (Do-F.If e first None) = append-nil _ ∙ joined_map errors_of first
by_layer (Do-F.If e first (Some second)) = rw (joined_map errors_of first, joined_map errors_of second)
by_layer (Do-F.ForEach x e body) = joined_map errors_of body
by_layer (Do-F.Each x set body) = joined_map errors_of body
by_layer (Do-F.Error name) = refl
by_layer _ = refl

pub errors-is : (s : Stmt) → errors_of s ≡ layer_errors (what_of s)
unfolding errors_of
errors-is s = fold_out-Stmt (List Name) (List Name) errors_step (λ x. x.what) s
    ∙ (fold_out-Do (List Name) (List Name) errors_step (λ x. x.what) s.what ∙ by_layer (out-Do s.what))
