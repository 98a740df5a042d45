-- The event that an entry's own line names.
use Rattle.std.proofs.Common.{◌≡◌, ℕ, ◌<◌, List, ◌++◌, Option, Some, None, refl, sym, ap, ◌∙◌, slice_get}
use Rattle.std.specs.Option.{option_map}
use Rattle.std.proofs.lemmas.Bool.{lt-ltb}
use Rattle.std.proofs.lemmas.Option.{slice_get-map}
use Rattle.tw_base.specs.Answers.{◌>>?◌}
use Rattle.tw_base.specs.declared.entry.Act.{Act}
use Rattle.tw_base.specs.declared.entry.Act.TheVariants as act
use Rattle.tw_base.specs.declared.entry.Entry.{Entry}
use Rattle.tw_base.specs.declared.entry.Event.{Event}
use Rattle.tw_base.specs.declared.entry.Event.TheVariants as event
use Rattle.tw_base.specs.declared.message.Chan.{Chan}
use Rattle.tw_base.specs.declared.message.Chan.TheVariants.{Zero, One}
use Rattle.tw_lex.specs.declared.token.Token.{Token}
use Rattle.tw_lex.specs.declared.token.What.{What}
use Rattle.mini_asm.specs.Spelling.{number_at, number_of_token, word_at, word_of}
use Rattle.teapot_tree.specs.declared.protocol.Protocol.{Protocol}
use Rattle.dsm_runs.specs.Worlds.{event_at, event_of}
use Rattle.report_reader.specs.declared.kind.LineKind.{LineKind}
use Rattle.report_reader.specs.declared.kind.LineKind.TheVariants as kinds
use Rattle.printed_lines.specs.Reading.{chan_numbered, event_by, event_in, kind_of, kind_or, node_numbered}
use Rattle.printed_lines.specs.Tokens.{act_tokens, after_tokens, chan_number, entry_tokens, event_tokens, whats}

-- ---- the same of what a line says, without the places of its tokens

abbrev word_in : List What → ℕ → Option (List ℕ)
word_in ws i = slice_get ws i >>? λ w. word_of w

abbrev number_in : List What → ℕ → Option ℕ
number_in ws i = slice_get ws i >>? λ w. number_of_token w

abbrev node_in : List What → ℕ → Option ℕ
node_in ws i = number_in ws i >>? λ n. node_numbered n

abbrev chan_in : List What → ℕ → Option Chan
chan_in ws i = number_in ws i >>? λ n. chan_numbered n

abbrev event_as : LineKind → List What → Option Event
event_as kinds.Redelivered ws = node_in ws 5 >>? λ i. Some (event.Redeliver i)
event_as kinds.Delivered ws = node_in ws 5 >>? λ i. node_in ws 11 >>? λ from. chan_in ws 13 >>? λ chan. Some
    (event.Deliver i from chan)
event_as _ ws = node_in ws 5 >>? λ i. Some (event.Instr i)

mapped : {B : Type 0} (f : What → Option B) (o : Option Token) → (o >>? λ t. f t.what) ≡ (option_map (λ t. t.what) o >>? f)
mapped f None = refl
mapped f (Some t) = refl

word-in : (ts : List Token) (i : ℕ) → word_at ts i ≡ word_in (whats ts) i
word-in ts i = mapped word_of (slice_get ts i) ∙ ap (λ (o : Option What). o >>? word_of) (sym (slice_get-map (λ t. t.what) ts i))

number-in : (ts : List Token) (i : ℕ) → number_at ts i ≡ number_in (whats ts) i
number-in ts i = mapped number_of_token (slice_get ts i) ∙ ap (λ (o : Option What). o >>? number_of_token)
    (sym (slice_get-map (λ t. t.what) ts i))

event-as : (kind : LineKind) (ts : List Token) → event_by kind ts ≡ event_as kind (whats ts)
event-as kinds.Redelivered ts = rw (number-in ts 5) refl
event-as kinds.Delivered ts = rw (number-in ts 5, number-in ts 11, number-in ts 13) refl
event-as kinds.Print ts = rw (number-in ts 5) refl
event-as kinds.Word ts = rw (number-in ts 5) refl
event-as kinds.Register ts = rw (number-in ts 5) refl
event-as kinds.Node ts = rw (number-in ts 5) refl
event-as kinds.Counts ts = rw (number-in ts 5) refl
event-as kinds.Completed ts = rw (number-in ts 5) refl
event-as kinds.Fault ts = rw (number-in ts 5) refl
event-as kinds.History ts = rw (number-in ts 5) refl
event-as kinds.End ts = rw (number-in ts 5) refl

event-of : (ts : List Token) (ws : List What) → whats ts ≡ ws → event_in ts ≡ event_as (kind_or (word_in ws 6)) ws
event-of ts ws is =
    event-as (kind_of ts) ts ∙ ap (λ (o : Option (List ℕ)). event_as (kind_or o) (whats ts)) (word-in ts 6)
    ∙ ap (λ (us : List What). event_as (kind_or (word_in us 6)) us) is

-- ---- of an entry

-- the sender of a message that is delivered has a number below 8
abbrev pub HasSender : Act → Type 0
HasSender (act.Delivered kind block from chan number) = from < 8
HasSender _ = Unit {0}

numbered-chan : (c : Chan) → chan_numbered (chan_number c) ≡ Some c
numbered-chan Zero = refl
numbered-chan One = refl

node-is : (n : ℕ) → n < 8 → node_numbered n ≡ Some n
node-is n lt = rw (lt-ltb n 8 lt) refl

named : (p : Protocol) (k stamp node : ℕ) (a : Act) (rest : List What) → node < 8 → HasSender a →
    let ws : List What = event_tokens k stamp node ++ (act_tokens p a ++ rest) in event_as (kind_or (word_in ws 6)) ws
    ≡ Some (event_at node a)
named p k stamp node (act.Load address value) rest lt from = rw (node-is node lt) refl
named p k stamp node (act.Store address value) rest lt from = rw (node-is node lt) refl
named p k stamp node (act.Faa address value sum) rest lt from = rw (node-is node lt) refl
named p k stamp node (act.Print value) rest lt from = rw (node-is node lt) refl
named p k stamp node act.Halt rest lt from = rw (node-is node lt) refl
named p k stamp node (act.Trapped why) rest lt from = rw (node-is node lt) refl
named p k stamp node act.Step rest lt from = rw (node-is node lt) refl
named p k stamp node (act.Fault store block) rest lt from = rw (node-is node lt) refl
named p k stamp node (act.Redelivered kind block sender) rest lt from = rw (node-is node lt) refl
named p k stamp node (act.Delivered kind block sender chan number) rest lt from =
    rw (node-is node lt, node-is sender from, numbered-chan chan) refl

-- the event that the line names is the entry's
pub event-named : (p : Protocol) (k : ℕ) (e : Entry) (ts : List Token) → whats ts ≡ entry_tokens p (k, e) → e.node < 8 →
    HasSender e.act → event_in ts ≡ Some (event_of e)
event-named p k e ts is lt from = event-of ts (entry_tokens p (k, e)) is
    ∙ named p k e.stamp e.node e.act (after_tokens p e.sends e.after) lt from
