use Rattle.std.proofs.Common.{◌≡◌, ℕ, List, [], ◌∷◌, ◌++◌, codes, sym, ap, ◌∙◌, append_assoc}
use Rattle.std.specs.Fmt.{decimal}
use Rattle.std.proofs.lemmas.List.{append-nil}
use Rattle.std.proofs.lemmas.Result.{on_ok_weaker}
use Rattle.journal.specs.Reports.{outcome_words}
use Rattle.printed_text.specs.Lines.{spaced}
use Rattle.printed_text.proofs.Lines.{line-made}
use Rattle.journal.proofs.node_lines.add_node.Goals as goal

abbrev rest_of : List ℕ → List ℕ → List ℕ → List (List ℕ)
rest_of place instructions handled = codes "place" ∷ place ∷ codes "instructions" ∷ instructions ∷ codes "handlers" ∷ handled ∷ []

abbrev written_rest : List ℕ → List ℕ → List ℕ → List ℕ
written_rest place instructions handled = codes " place " ++ (place
    ++ (codes " instructions " ++ (instructions ++ (codes " handlers " ++ (handled ++ 10 ∷ [])))))

rest-written : (place instructions handled : List ℕ) → spaced (rest_of place instructions handled) ++ 10 ∷ []
    ≡ written_rest place instructions handled
rest-written place instructions handled =
    let end : List ℕ = 10 ∷ [] in
    let third : List ℕ = codes " handlers " ++ (handled ++ []) in
    let second : List ℕ = codes " instructions " ++ (instructions ++ third) in
    ap (λ l. codes " place " ++ l)
    (append_assoc place second end ∙ ap (λ l. place ++ (codes " instructions " ++ l))
    (append_assoc instructions third end ∙ ap (λ l. instructions ++ (codes " handlers " ++ (l ++ end))) (append-nil handled)))

pub returns : goal.returns
returns c =
    let ended = c.args.ended.now in
    let first : List (List ℕ) = decimal c.args.node ∷ [] in
    let words : List (List ℕ) = outcome_words c.args.names.now.protocol.now ended.outcome in
    let place : List ℕ = decimal ended.cpu.place in
    let instructions : List ℕ = decimal ended.instructions in
    let handled : List ℕ = decimal ended.handled in
    let begun : c.write.new.self ≡ c.args.out.now ++ (codes "node" ++ spaced first) = simp append-nil c.in_ok-write.ensures in
    on_ok_weaker c.writeln.result
    (λ (e : c.writeln.new.self ≡ c.add_outcome.new.out ++ written_rest place instructions handled).
    line-made c.args.out.now c.write.new.self c.add_outcome.new.out c.writeln.new.self (codes "node") first words
    (rest_of place instructions handled)
    begun c.in_ok-add_outcome.ensures (e ∙ ap (λ l. c.add_outcome.new.out ++ l) (sym (rest-written place instructions handled))))
    c.writeln.ensures
