-- The lines that a report has, token by token, without the places of the tokens.
use Rattle.std.specs.Prelude.{ℕ, codes, List, [], ◌∷◌, ◌++◌, map, Option, Some, None}
use Rattle.tw_base.specs.declared.entry.Act.{Act}
use Rattle.tw_base.specs.declared.entry.Act.TheVariants as act
use Rattle.tw_base.specs.declared.entry.After.{After}
use Rattle.tw_base.specs.declared.entry.End.{End}
use Rattle.tw_base.specs.declared.entry.End.TheVariants as how
use Rattle.tw_base.specs.declared.entry.Entry.{Entry}
use Rattle.tw_base.specs.declared.message.Chan.{Chan}
use Rattle.tw_base.specs.declared.message.Chan.TheVariants.{Zero, One}
use Rattle.tw_base.specs.declared.value.Tag.{Tag}
use Rattle.tw_lex.specs.declared.token.Token.{Token}
use Rattle.tw_lex.specs.declared.token.What.{What}
use Rattle.tw_lex.specs.declared.token.What.TheVariants.{Word, Number}
use Rattle.printed_text.specs.Names.{error_name, fault_text, kind_name, state_name, tag_text, trap_text}
use Rattle.teapot_tree.specs.declared.protocol.Protocol.{Protocol}

-- tokens without their places
abbrev pub whats : List Token → List What
whats ts = map (λ t. t.what) ts

-- ---- an event

-- event k, with its stamp and its node
abbrev pub event_tokens : ℕ → ℕ → ℕ → List What
event_tokens k stamp node = Word (codes "event") ∷ Number k ∷ Word (codes "stamp") ∷ Number stamp ∷ Word
    (codes "node") ∷ Number node ∷ []

abbrev pub chan_number : Chan → ℕ
chan_number Zero = 0
chan_number One = 1

-- what the event did
abbrev pub act_tokens : Protocol → Act → List What
act_tokens p (act.Load address value) = Word (codes "ld") ∷ Number address ∷ Number value ∷ []
act_tokens p (act.Store address value) = Word (codes "st") ∷ Number address ∷ Number value ∷ []
act_tokens p (act.Faa address value sum) = Word (codes "faa") ∷ Number address ∷ Number value ∷ Number sum ∷ []
act_tokens p (act.Print value) = Word (codes "print") ∷ Number value ∷ []
act_tokens p act.Halt = Word (codes "halt") ∷ []
act_tokens p (act.Trapped why) = Word (codes "trap") ∷ Word (trap_text why) ∷ []
act_tokens p act.Step = Word (codes "step") ∷ []
act_tokens p (act.Fault store block) = Word (codes "fault") ∷ Word (fault_text store) ∷ Word (codes "block") ∷ Number block ∷ []
act_tokens p (act.Redelivered kind block from) =
    Word (codes "redeliver") ∷ Word (kind_name p kind) ∷ Word (codes "block") ∷ Number block ∷ Word
    (codes "from") ∷ Number from ∷ []
act_tokens p (act.Delivered kind block from chan number) =
    Word (codes "deliver") ∷ Word (kind_name p kind) ∷ Word (codes "block") ∷ Number block ∷ Word (codes "from") ∷ Number from
    ∷ Word (codes "channel") ∷ Number (chan_number chan) ∷ Word (codes "number") ∷ Number number ∷ []

-- how a handler failed; nothing where it did not
abbrev pub failure_tokens : Protocol → End → List What
failure_tokens p how.Fine = []
failure_tokens p (how.Failed number) = Word (codes "failed") ∷ Word (error_name p number) ∷ []
failure_tokens p how.TooDeep = Word (codes "failed") ∷ Word (codes "TooDeep") ∷ []

-- what a handler sent, and how it left its block
abbrev pub left_tokens : Protocol → ℕ → ℕ → Tag → List What
left_tokens p sends state tag = Word (codes "sends") ∷ Number sends ∷ Word (codes "state") ∷ Word (state_name p state) ∷ Word
    (codes "tag") ∷ Word (tag_text tag) ∷ []

-- the same, and how it failed; nothing where no handler ran
abbrev pub after_tokens : Protocol → ℕ → Option After → List What
after_tokens p sends None = []
after_tokens p sends (Some after) = left_tokens p sends after.state after.tag ++ failure_tokens p after.end

-- entry k of a journal, by its place
abbrev pub entry_tokens : Protocol → ℕ × Entry → List What
entry_tokens p event = event_tokens event.0 event.1.stamp event.1.node
    ++ (act_tokens p event.1.act ++ after_tokens p event.1.sends event.1.after)
