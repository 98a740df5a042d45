-- Messages that are posted, in the sketch.
use Rattle.std.proofs.Common.{Bool, true, false, ◌≡◌, ℕ, suc, List, [], ◌∷◌, map, refl, ap, ◌∙◌, if◌then◌else◌}
use Rattle.std.specs.List.{filter}
use Rattle.tw_base.specs.declared.message.Chan.{Chan}
use Rattle.tw_base.specs.declared.message.Message.{Message}
use Rattle.dsm_runs.specs.Messages.{numbered, on_wire as on_wire_there, posted}
use Rattle.block_spots.specs.Sketches.{on_wire}
use Rattle.block_spots.specs.Views.{seen_message}

-- ---- wires

numbered_seen : (k : ℕ) (ms : List Message) → map seen_message (numbered k ms) ≡ map seen_message ms
numbered_seen k [] = refl
numbered_seen k (m ∷ ms) = ap (λ rest. seen_message m ∷ rest) (numbered_seen (suc k) ms)

filter_seen : (f t : ℕ) (c : Chan) (ms : List Message) → map seen_message (filter (on_wire_there f t c) ms)
    ≡ filter (on_wire f t c) (map seen_message ms)
filter_seen f t c [] = refl
filter_seen f t c (m ∷ ms) = go (on_wire f t c (seen_message m)) (filter_seen f t c ms)
  where
    go : (b : Bool) → map seen_message (filter (on_wire_there f t c) ms) ≡ filter (on_wire f t c) (map seen_message ms) →
        map seen_message (if b then m ∷ filter (on_wire_there f t c) ms else filter (on_wire_there f t c) ms)
        ≡ (if b then seen_message m ∷ filter (on_wire f t c) (map seen_message ms)
        else filter (on_wire f t c) (map seen_message ms))
    go true rest = ap (λ r. seen_message m ∷ r) rest
    go false rest = rest

pub posted_seen : (k f t : ℕ) (c : Chan) (ms : List Message) →
    map seen_message (posted k f t c ms) ≡ filter (on_wire f t c) (map seen_message ms)
posted_seen k f t c ms = numbered_seen k (filter (on_wire_there f t c) ms) ∙ filter_seen f t c ms
