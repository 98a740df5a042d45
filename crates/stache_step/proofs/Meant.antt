-- The row that applies says what the message does.
use Rattle.std.proofs.Common.{◌≡◌, ◌∙◌, ◌≤◌, ℕ, zero, suc, Bool, false, List, [], ◌∷◌, length, Option, Some, None, refl, sym}
use Rattle.std.proofs.Common.{subst, arith}
use Rattle.tw_base.specs.NodeSets.{has}
use Rattle.tw_base.specs.declared.message.Message.{Message}
use Rattle.teapot_meaning.specs.Bare.{bare_ended}
use Rattle.teapot_meaning.specs.declared.state.Ended.{Ended}
use Rattle.teapot_meaning.specs.declared.state.Here.{Here}
use Rattle.block_spots.specs.Cases as cases
use Rattle.block_spots.specs.Cases.{Effect}
use Rattle.block_spots.specs.Views.{seen_kind, seen_message}
use Rattle.stache_table.specs.Blocks.{IsBlock, Shows, read, seen}
use Rattle.stache_table.specs.Handling.{handle_in}
use Rattle.stache_table.specs.Laws.{BlocksAreRead, RowsSay, TableIsMeaning}
use Rattle.stache_table.specs.Numbered.{SaysIf, row_of}
use Rattle.stache_step.specs.Steps.{IsEndBy, RowIsMeant, row_for}
use Rattle.stache_step.proofs.Within.{IsRow, is_row}

-- no node past the last is a member
pub past_none : (s : List Bool) (n i : ℕ) → length s ≡ n → n ≤ i → has s i ≡ false
unfolding has
past_none [] n i e le = refl
past_none (b ∷ s) n zero e le = absurd (omega arith)
past_none (b ∷ s) n (suc i) e le = past_none s (length s) i refl (omega arith)

-- the effect that shows what the message does is that which the row says
by_row :
    (here : Here) (m : Message) (e : Ended) (row : Option ℕ) (f : Option Effect) → IsRow row → IsBlock here (read here) →
    Shows here.block here.me here.home (read here) (bare_ended e) f →
    SaysIf 8 here.home here.me (row_of row) (seen (read here)) (seen_message m) f → IsEndBy here m e row
by_row here m e (Some k) (Some f) is block shows says =
    let said = subst (λ r. SaysIf 8 here.home here.me r (seen (read here)) (seen_message m) (Some f)) is.1 says in
    (is.0, is.1, record { effect = f; after = shows.0; matches = shows.1; says = said })
by_row here m e (Some k) None is block shows says =
    absurd (subst (λ r. SaysIf 8 here.home here.me r (seen (read here)) (seen_message m) None) is.1 says)
by_row here m e None None is block shows says = record { end = shows.0; kept = shows.1 ∙ sym block.block; sends = shows.2 }
by_row here m e None (Some f) is block shows says = absurd says

pub row_is_meant : TableIsMeaning → RowsSay → BlocksAreRead → (here : Here) (m : Message) (row : Option ℕ) →
    row ≡ row_for here m → RowIsMeant here m row
row_is_meant table say back here m row e p x end shipped block come does =
    let whole : IsBlock here (read here) = subst (λ y. IsBlock here y) (sym (back.literal here x block)) block in
    let shows = table p here (read here) m (seen_kind m.kind) end 8 shipped whole come (omega arith)
    (λ in_ro i le. past_none (read here).set 8 i whole.fits.eight le) does in
    let says = say 8 here.home here.me (seen (read here)) (seen_message m) whole.fits.rest whole.fits.tag in
    subst (λ r. IsEndBy here m end r) (sym e)
    (by_row here m end (row_for here m) (handle_in 8 here.home here.me (seen (read here)) (seen_message m))
    (is_row (read here).state (seen_kind m.kind) (read here).rest
    (cases.members 8 (cases.without_node (has (read here).set) m.from)) (read here).acks) whole shows says)
