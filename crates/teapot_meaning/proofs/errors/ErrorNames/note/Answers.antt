use Rattle.std.proofs.Common.{◌∙◌, List, ℕ, ap}
use Rattle.std.specs.List.{list_any}
use Rattle.std.specs.Prelude.{map, not}
use Rattle.std.specs.Str.{bytes_eq}
use Rattle.teapot_meaning.specs.Names.{noted}
use Rattle.teapot_meaning.proofs.Distinct.{key_new, key_noted}
use Rattle.teapot_meaning.proofs.errors.ErrorNames.note.Goals as goal

pub returns-clause-new : goal.returns-clause-new
returns-clause-new c =
    let key = c.in_ok-from_slice.field-0 in
    let names = c.args.self.now in
    c.in_ok-is_new.ensures.added ∙
    ap not (key_new (λ v. v.items) c.self.inside.names.keys key.items ∙
    ap (list_any (λ (n : List ℕ). bytes_eq n key.items)) c.self.view_is ∙
    ap (λ (k : List ℕ). list_any (λ (n : List ℕ). bytes_eq n k) names) c.in_ok-from_slice.ensures.items)

pub returns-clause-noted : goal.returns-clause-noted
returns-clause-noted c =
    let key = c.in_ok-from_slice.field-0 in
    ap (map (λ v. v.items)) c.in_ok-is_new.ensures.keys ∙
    key_noted (λ v. v.items) c.self.inside.names.keys key ∙
    ap (λ names. noted names key.items) c.self.view_is ∙
    ap (noted c.args.self.now) c.in_ok-from_slice.ensures.items
