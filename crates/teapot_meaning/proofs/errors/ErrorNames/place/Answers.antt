use Rattle.std.proofs.Common.{◌∙◌, List, ℕ, ap}
use Rattle.std.specs.Prelude.{position}
use Rattle.std.specs.Str.{bytes_eq}
use Rattle.teapot_meaning.proofs.Distinct.{key_place}
use Rattle.teapot_meaning.proofs.errors.ErrorNames.place.Goals as goal

pub returns : goal.returns
returns c =
    c.get_index_of.ensures.index ∙ key_place (λ v. v.items) c.args.name.now c.self.inside.names.keys
    ∙ ap (position (λ (n : List ℕ). bytes_eq n c.args.name.now)) c.self.view_is
