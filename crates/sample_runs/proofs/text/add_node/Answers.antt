use Rattle.std.proofs.Common.{◌≡◌, ℕ, List, [], ◌∷◌, ◌++◌, codes, sym, ap, ◌∙◌}
use Rattle.std.specs.Fmt.{decimal}
use Rattle.std.proofs.lemmas.List.{append-nil}
use Rattle.std.proofs.lemmas.Result.{on_ok_weaker}
use Rattle.journal.specs.Reports.{outcome_words}
use Rattle.printed_text.specs.Lines.{spaced}
use Rattle.printed_text.proofs.Lines.{line-made}
use Rattle.sample_runs.specs.Summaries.{first_print}
use Rattle.sample_runs.proofs.text.add_node.Goals as goal

print-written : (value : List ℕ) → spaced (codes "print" ∷ value ∷ []) ++ 10 ∷ [] ≡ codes " print " ++ (value ++ 10 ∷ [])
print-written value = ap (λ l. codes " print " ++ (l ++ 10 ∷ [])) (append-nil value)

pub returns : goal.returns
returns c =
    let first : List (List ℕ) = decimal c.args.node ∷ [] in
    let words : List (List ℕ) = outcome_words c.args.names.now.protocol.now c.args.ended.now.outcome in
    let value : List ℕ = decimal (first_print c.args.node c.args.journal.now) in
    let begun : c.write.new.self ≡ c.args.out.now ++ (codes "node" ++ spaced first) = simp append-nil c.in_ok-write.ensures in
    on_ok_weaker c.writeln.result
    (λ (e : c.writeln.new.self ≡ c.add_outcome.new.out ++ (codes " print " ++ (decimal c.first_print-value.result ++ 10 ∷ []))).
    line-made c.args.out.now c.write.new.self c.add_outcome.new.out c.writeln.new.self (codes "node") first words
    (codes "print" ∷ value ∷ [])
    begun c.in_ok-add_outcome.ensures
    (e ∙ ap (λ l. c.add_outcome.new.out ++ (codes " print " ++ (decimal l ++ 10 ∷ []))) c.first_print-value.ensures
    ∙ ap (λ l. c.add_outcome.new.out ++ l) (sym (print-written value))))
    c.writeln.ensures
