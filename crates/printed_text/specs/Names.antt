-- What is printed for the parts of a protocol, by their numbers in it.
use Rattle.std.specs.Prelude.{ℕ, codes, slice_get, map, unwrap_or, Bool, true, false, List, [], ◌∷◌}
use Rattle.tw_base.specs.declared.entry.End.{End}
use Rattle.tw_base.specs.declared.entry.End.TheVariants as how
use Rattle.tw_base.specs.declared.entry.Trap.{Trap}
use Rattle.tw_base.specs.declared.entry.Trap.TheVariants.{BadAddress, FellOff}
use Rattle.tw_base.specs.declared.message.Chan.{Chan}
use Rattle.tw_base.specs.declared.message.Chan.TheVariants.{Zero, One}
use Rattle.tw_base.specs.declared.message.Kind.{Kind}
use Rattle.tw_base.specs.declared.message.Kind.TheVariants.{RdFault, WrFault, Named}
use Rattle.tw_base.specs.declared.value.Tag.{Tag}
use Rattle.tw_base.specs.declared.value.Tag.TheVariants.{Invalid, ReadOnly, ReadWrite}
use Rattle.teapot_meaning.specs.Names.{error_names}
use Rattle.teapot_tree.specs.declared.protocol.Protocol.{Protocol}

-- the name of this number, nothing where there is none
abbrev pub name_in : List (List ℕ) → ℕ → List ℕ
name_in names number = unwrap_or (slice_get names number) []

abbrev pub message_name : Protocol → ℕ → List ℕ
message_name p number = name_in (map (λ m. m.name) p.messages) number

abbrev pub kind_name : Protocol → Kind → List ℕ
kind_name p RdFault = codes "RD_FAULT"
kind_name p WrFault = codes "WR_FAULT"
kind_name p (Named number) = message_name p number

abbrev pub state_name : Protocol → ℕ → List ℕ
state_name p number = name_in (map (λ s. s.name) p.states) number

-- the name of an error, by its first place among the errors of the protocol
abbrev pub error_name : Protocol → ℕ → List ℕ
error_name p number = name_in (error_names p) number

abbrev pub chan_text : Chan → List ℕ
chan_text Zero = codes "0"
chan_text One = codes "1"

abbrev pub tag_text : Tag → List ℕ
tag_text Invalid = codes "Invalid"
tag_text ReadOnly = codes "ReadOnly"
tag_text ReadWrite = codes "ReadWrite"

-- of a refused store, and of a refused load
abbrev pub fault_text : Bool → List ℕ
fault_text true = codes "WR_FAULT"
fault_text false = codes "RD_FAULT"

abbrev pub trap_text : Trap → List ℕ
trap_text BadAddress = codes "BadAddress"
trap_text FellOff = codes "FellOff"

-- how a handler failed; nothing where it did not
abbrev pub failure_words : Protocol → End → List (List ℕ)
failure_words p how.Fine = []
failure_words p (how.Failed number) = codes "failed" ∷ error_name p number ∷ []
failure_words p how.TooDeep = codes "failed" ∷ codes "TooDeep" ∷ []
