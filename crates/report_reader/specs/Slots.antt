-- What may stand at one place of a line of a report.
use Rattle.std.specs.Prelude.{ℕ, ◌*◌, ◌==◌, ◌&&◌, ◌||◌, nat_lt, codes, Bool, true, false, List, [], ◌∷◌}
use Rattle.std.specs.Str.{bytes_eq}
use Rattle.tw_base.specs.Shape.{Sizes}
use Rattle.tw_lex.specs.declared.token.Token.{Token}
use Rattle.tw_lex.specs.declared.token.What.{What}
use Rattle.tw_lex.specs.declared.token.What.TheVariants as whats
use Rattle.report_reader.specs.declared.slot.Slot.{Slot as Coded}
use Rattle.report_reader.specs.declared.slot.Slot.TheVariants as coded

pub data Slot : Type 0 where
  Says : List ℕ → Slot
  Name : Slot
  Trap : Slot
  Tag : Slot
  Number : Slot
  Is : ℕ → Slot
  Node : Slot
  Next : Slot
  Register : Slot
  Address : Slot
  Block : Slot
  Channel : Slot

abbrev pub shown : Coded → Slot
shown (coded.Word word) = Says word.now
shown coded.Name = Name
shown coded.Trap = Trap
shown coded.Tag = Tag
shown coded.Number = Number
shown (coded.Is n) = Is n
shown coded.Node = Node
shown coded.Next = Next
shown coded.Register = Register
shown coded.Address = Address
shown coded.Block = Block
shown coded.Channel = Channel

abbrev pub fits_word : Slot → List ℕ → Bool
fits_word (Says wanted) word = bytes_eq word wanted
fits_word Name word = true
fits_word Trap word = bytes_eq word (codes "BadAddress") || bytes_eq word (codes "FellOff")
fits_word Tag word = bytes_eq word (codes "Invalid") || bytes_eq word (codes "ReadOnly") || bytes_eq word (codes "ReadWrite")
fits_word _ word = false

-- so many lines of the kind stand before
abbrev pub fits_number : Sizes → ℕ → Slot → ℕ → Bool
fits_number shape before Number n = true
fits_number shape before (Is wanted) n = n == wanted
fits_number shape before Node n = nat_lt n shape.nodes
fits_number shape before Next n = (n == before) && nat_lt n shape.nodes
fits_number shape before Register n = nat_lt n 16
fits_number shape before Address n = nat_lt n (shape.words * shape.blocks)
fits_number shape before Block n = nat_lt n shape.blocks
fits_number shape before Channel n = nat_lt n 2
fits_number shape before _ n = false

abbrev pub fits_what : Sizes → ℕ → Slot → What → Bool
fits_what shape before slot (whats.Word word) = fits_word slot word
fits_what shape before slot (whats.Number n) = fits_number shape before slot n
fits_what shape before slot (whats.Mark mark) = false

-- as many tokens as places, and each fits its own
unfoldable pub fits : Sizes → ℕ → List Slot → List Token → Bool
fits shape before [] [] = true
fits shape before [] (t ∷ ts) = false
fits shape before (slot ∷ slots) [] = false
fits shape before (slot ∷ slots) (t ∷ ts) = fits_what shape before slot t.what && fits shape before slots ts
