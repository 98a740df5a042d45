-- What is read of a message and of a set of sharers is what the table asks for.
use Rattle.std.proofs.Common.{◌≡◌, ◌∙◌, ℕ, ◌<◌, Bool, List, length, refl, ap}
use Rattle.tw_base.specs.NodeSets.{count, has, without}
use Rattle.block_spots.specs.Cases as cases
use Rattle.block_spots.specs.Cases.{Kind, Rest, State, members, without_node}
use Rattle.block_spots.specs.Notes as marks
use Rattle.stache_table.proofs.Sets.{count-is, without-is}
use Rattle.stache_table.specs.Numbered.{row_at}
use Rattle.stache_step.specs.Steps.{kind_of_note}

pub kind_is : (k : Kind) (ws : List ℕ) → kind_of_note (marks.note_of k ws) ≡ k
kind_is cases.RdFault ws = refl
kind_is cases.WrFault ws = refl
kind_is cases.GetRo ws = refl
kind_is cases.GetRw ws = refl
kind_is cases.DataRo ws = refl
kind_is cases.DataRw ws = refl
kind_is cases.Put ws = refl
kind_is cases.Inv ws = refl
kind_is cases.Ack ws = refl
kind_is cases.Recall ws = refl
kind_is cases.RecallRo ws = refl
kind_is cases.PutRo ws = refl

pub others_are : (s : List Bool) (i : ℕ) → length s ≡ 8 → i < 8 → count (without s i) ≡ members 8 (without_node (has s) i)
others_are s i eight below = count-is (without s i) ∙ ap (λ f. members 8 f) (without-is s i eight below)

pub same_row :
    (s t : State) (k l : Kind) (r q : Rest) (others others' acks acks' : ℕ) → s ≡ t → k ≡ l → r ≡ q → others ≡ others' →
    acks ≡ acks' →
    row_at s k r others acks ≡ row_at t l q others' acks'
same_row s t k l r q others others' acks acks' es ek er eo ea =
    ap (λ x. row_at x k r others acks) es ∙ ap (λ x. row_at t x r others acks) ek ∙ ap (λ x. row_at t l x others acks) er
    ∙ ap (λ x. row_at t l q x acks) eo ∙ ap (λ x. row_at t l q others' x) ea
