-- The doors of compiled code stand in the order of the handlers.
use Rattle.std.proofs.Common.{◌≡◌, ◌∙◌, ℕ, ◌+◌, List, [], ◌∷◌, ◌++◌, length, refl, ap}
use Rattle.std.specs.Prelude.{map}
use Rattle.teapot_tree.specs.declared.protocol.Handler.{Handler}
use Rattle.teapot_tree.specs.declared.protocol.Protocol.{Protocol}
use Rattle.teapot_tree.specs.declared.protocol.State.{State}
use Rattle.handler_code.specs.declared.code.Code.{Code}
use Rattle.handler_code.specs.Doors.{kind_of}
use Rattle.handler_vm.specs.Order.{IsInOrder, Sign, sign_of, signs_from}
use Rattle.compiled_meaning.specs.Compiled.{rests_in}
use Rattle.compiled_meaning.specs.Whole.{Entry, IsCode, doors_from, entries_from, entries_of, entry_code}

module _ (p : Protocol) where
  abbrev sign : Entry → Sign
  sign d = record { state = d.number; on = kind_of p d.handler.on }

  doors_signed : (entries : List Entry) (at r : ℕ) → map sign_of (doors_from p at r entries) ≡ map sign entries
  doors_signed [] at r = refl
  doors_signed (d ∷ entries) at r =
      let ops = entry_code p d at r 0 in
      ap (λ l. sign d ∷ l) (doors_signed entries (at + length ops) (r + rests_in ops))

  state_signed : (number : ℕ) (s : State) (hs : List Handler) (more : List Entry) (rest : List Sign) → map sign more ≡ rest →
      map sign (map (λ h. record { number = number; state = s; handler = h }) hs ++ more)
      ≡ map (λ h. record { state = number; on = kind_of p h.on }) hs ++ rest
  state_signed number s [] more rest e = e
  state_signed number s (h ∷ hs) more rest e =
      ap (λ l. record { state = number; on = kind_of p h.on } ∷ l) (state_signed number s hs more rest e)

  entries_signed : (number : ℕ) (states : List State) → map sign (entries_from number states) ≡ signs_from p number states
  entries_signed number [] = refl
  entries_signed number (s ∷ states) =
      state_signed number s s.handlers (entries_from (number + 1) states) (signs_from p (number + 1) states)
      (entries_signed (number + 1) states)

pub in_order : (p : Protocol) (code : Code) → IsCode p code → IsInOrder p code
in_order p code c = ap (map sign_of) c.doors ∙ (doors_signed p (entries_of p) 0 0 ∙ entries_signed p 0 p.states)
