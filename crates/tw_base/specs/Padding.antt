-- Eight words from those in use.
use Rattle.std.specs.Prelude.{◌≡◌, length, take}
use Rattle.std.proofs.Common.{arith}
use Rattle.std.proofs.lemmas.List.{length-take-le, take-append-drop}
use Rattle.tw_base.specs.Datas.{IsPadded, padded}
use Rattle.tw_base.specs.declared.value.Data.TheInside.{Inside}

pub padded-take : (d : Inside) → IsPadded d.len d.words → record
    { words = padded (take d.len d.words); len = length (take d.len d.words) } ≡ d
padded-take d h =
    let few : length (take d.len d.words) ≡ d.len = length-take-le d.len d.words (omega (arith, h.few, h.eight)) in
    let all : padded (take d.len d.words) ≡ d.words = rw (few, ← h.unused) (take-append-drop d.len d.words) in
    λ j. record { words = all j; len = few j }
