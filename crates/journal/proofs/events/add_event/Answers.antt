use Rattle.std.proofs.Common.{◌≡◌, ℕ, List, [], ◌∷◌, ◌++◌, codes, ap, ◌∙◌, append_assoc}
use Rattle.std.specs.Fmt.{decimal}
use Rattle.std.proofs.lemmas.List.{append-nil}
use Rattle.std.proofs.lemmas.Result.{on_ok_weaker}
use Rattle.journal.specs.Reports.{act_words, after_words}
use Rattle.printed_text.specs.Lines.{spaced}
use Rattle.printed_text.proofs.Lines.{line-made}
use Rattle.journal.proofs.events.add_event.Goals as goal

pub returns : goal.returns
returns c =
    let entry = c.args.entry.now in
    let p = c.args.names.now.protocol.now in
    let first : List (List ℕ) = decimal c.args.event ∷ codes "stamp" ∷ decimal entry.stamp ∷ codes "node" ∷ decimal
    entry.node ∷ [] in
    let words : List (List ℕ) = act_words p entry.act in
    let rest : List (List ℕ) = after_words p entry.sends entry.after in
    let begun : c.write.new.self ≡ c.args.out.now ++ (codes "event" ++ spaced first) =
    simp append-nil (rw c.get-node.ensures.value at c.in_ok-write.ensures) in
    on_ok_weaker c.add.result
    (λ (e : c.add.new.self ≡ c.add_after.new.out ++ 10 ∷ []).
    line-made c.args.out.now c.write.new.self c.add_act.new.out c.add.new.self
    (codes "event") first words rest begun c.in_ok-add_act.ensures
    (e ∙ ap (λ l. l ++ 10 ∷ []) c.in_ok-add_after.ensures ∙ append_assoc c.add_act.new.out (spaced rest) (10 ∷ [])))
    c.add.ensures
