-- The names in expressions and their types, over plain data.
use Rattle.std.proofs.Common.{◌≡◌, List, [], ◌∷◌, ◌++◌, Option, Some}
use Rattle.tw_base.specs.declared.name.Name.{Name}
use Rattle.teapot_tree.specs.declared.expr.Expr.TheFolds.{fold-roll-Expr}
use Rattle.teapot_tree.specs.declared.protocol.ValType.{ValType}
use Rattle.teapot_tree.specs.declared.protocol.ValType.TheVariants as ty
use Rattle.teapot_tree.specs.Parts.{names_in}
use Rattle.teapot_tree.specs.Scopes.{Variable, is_of, type_among, type_of, type_of_two, where_of}
use Rattle.stache_tree.specs.Code.{Term, Number, Empty, Src, Home, Var, One, Count, Two, expr_of}

abbrev pub term_names : Term → List Name
term_names (Var name) = name ∷ []
term_names (One a) = term_names a
term_names (Count a) = term_names a
term_names (Two op a b) = term_names a ++ term_names b
term_names _ = []

pub term-names : (e : Term) → names_in (expr_of e) ≡ term_names e
unfolding names_in
term-names (Number n) = rw fold-roll-Expr
term-names Empty = rw fold-roll-Expr
term-names Src = rw fold-roll-Expr
term-names Home = rw fold-roll-Expr
term-names (Var name) = rw fold-roll-Expr
term-names (One a) = rw fold-roll-Expr (rw (term-names a))
term-names (Count a) = rw fold-roll-Expr (rw (term-names a))
term-names (Two op a b) = rw fold-roll-Expr (rw (term-names a, term-names b))

abbrev pub term_type : List Variable → Term → Option ValType
term_type vs (Number n) = Some ty.Int
term_type vs Empty = Some ty.Set
term_type vs Src = Some ty.Node
term_type vs Home = Some ty.Node
term_type vs (Var name) = type_among vs name
term_type vs (One a) = where_of (is_of ty.Node (term_type vs a)) ty.Set
term_type vs (Count a) = where_of (is_of ty.Set (term_type vs a)) ty.Int
term_type vs (Two op a b) = type_of_two op (term_type vs a) (term_type vs b)

pub term-type : (vs : List Variable) (e : Term) → type_of vs (expr_of e) ≡ term_type vs e
unfolding type_of
term-type vs (Number n) = rw fold-roll-Expr
term-type vs Empty = rw fold-roll-Expr
term-type vs Src = rw fold-roll-Expr
term-type vs Home = rw fold-roll-Expr
term-type vs (Var name) = rw fold-roll-Expr
term-type vs (One a) = rw fold-roll-Expr (rw (term-type vs a))
term-type vs (Count a) = rw fold-roll-Expr (rw (term-type vs a))
term-type vs (Two op a b) = rw fold-roll-Expr (rw (term-type vs a, term-type vs b))
