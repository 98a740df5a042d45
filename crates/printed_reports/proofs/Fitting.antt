-- What the lines of a report say has the forms of their kinds.
use Rattle.std.proofs.Common.{◌≡◌, ℕ, ◌<◌, ◌==◌, Bool, true, false, ◌&&◌, List, [], ◌∷◌, Option, Some, None, refl, ap, eq-eqb}
use Rattle.std.specs.Prelude.{nat_lt}
use Rattle.std.specs.List.{list_any}
use Rattle.std.proofs.lemmas.Bool.{lt-ltb}
use Rattle.tw_base.specs.Shape.{Sizes}
use Rattle.tw_base.specs.declared.entry.Act.{Act}
use Rattle.tw_base.specs.declared.entry.Act.TheVariants as act
use Rattle.tw_base.specs.declared.entry.After.{After}
use Rattle.tw_base.specs.declared.entry.End.{End}
use Rattle.tw_base.specs.declared.entry.End.TheVariants as how
use Rattle.tw_base.specs.declared.entry.Entry.{Entry}
use Rattle.tw_base.specs.declared.entry.Trap.{Trap}
use Rattle.tw_base.specs.declared.entry.Trap.TheVariants.{BadAddress, FellOff}
use Rattle.tw_base.specs.declared.message.Chan.{Chan}
use Rattle.tw_base.specs.declared.message.Chan.TheVariants.{Zero, One}
use Rattle.tw_base.specs.declared.message.Kind.{Kind}
use Rattle.tw_base.specs.declared.value.Tag.{Tag}
use Rattle.tw_base.specs.declared.value.Tag.TheVariants.{Invalid, ReadOnly, ReadWrite}
use Rattle.tw_lex.specs.declared.token.Token.{Token}
use Rattle.tw_lex.specs.declared.token.What.{What}
use Rattle.teapot_tree.specs.declared.protocol.Protocol.{Protocol}
use Rattle.printed_text.specs.Names.{tag_text, trap_text}
use Rattle.dsm_runs.specs.declared.outcome.Outcome.{Outcome}
use Rattle.dsm_runs.specs.declared.outcome.Outcome.TheVariants as outcome
use Rattle.dsm_runs.specs.Flat.{is_completed}
use Rattle.dsm_runs.specs.Setups.{Setup, size_of}
use Rattle.report_reader.specs.declared.kind.LineKind.{LineKind}
use Rattle.report_reader.specs.declared.kind.LineKind.TheVariants as kinds
use Rattle.report_reader.specs.Slots.{Slot, Tag as TagSlot, Trap as TrapSlot, fits, fits_what, fits_word}
use Rattle.report_reader.specs.Forms.{forms_of, head_form, is_line}
use Rattle.report_reader.specs.Reading.{event_kinds, is_of}
use Rattle.journal.specs.declared.finals.Final.{Final}
use Rattle.journal.specs.declared.history.Break.{Break}
use Rattle.printed_lines.specs.Tokens.{chan_number, entry_tokens, whats}
use Rattle.printed_reports.specs.Named.{IsActOf, IsBreakOf, IsEntryOf, IsLeft, IsOutcomeOf}
use Rattle.printed_reports.specs.Reports.{count_tokens, head_tokens, history_tokens, node_tokens, print_tokens, register_tokens}
use Rattle.printed_reports.specs.Reports.{word_tokens}

-- ---- forms of what is said

abbrev pub fits_said : Sizes → ℕ → List Slot → List What → Bool
fits_said shape before [] [] = true
fits_said shape before [] (w ∷ ws) = false
fits_said shape before (slot ∷ slots) [] = false
fits_said shape before (slot ∷ slots) (w ∷ ws) = fits_what shape before slot w && fits_said shape before slots ws

pub fits-said : (shape : Sizes) (before : ℕ) (form : List Slot) (ts : List Token)
    → fits shape before form ts ≡ fits_said shape before form (whats ts)
unfolding fits
fits-said shape before [] [] = refl
fits-said shape before [] (t ∷ ts) = refl
fits-said shape before (slot ∷ slots) [] = refl
fits-said shape before (slot ∷ slots) (t ∷ ts) = ap (λ b. fits_what shape before slot t.what && b)
    (fits-said shape before slots ts)

abbrev pub line_said : Sizes → LineKind → ℕ → List What → Bool
line_said shape kind before ws = list_any (λ form. fits_said shape before form ws) (forms_of kind)

pub line-said : (shape : Sizes) (kind : LineKind) (before : ℕ) (ts : List Token)
    → is_line shape kind before ts ≡ line_said shape kind before (whats ts)
line-said shape kind before ts =
    let same : (λ form. fits shape before form ts) ≡
    (λ form. fits_said shape before form (whats ts)) = λ j form. fits-said shape before form ts j in
    ap (λ (test : List Slot → Bool). list_any test (forms_of kind)) same

abbrev pub of_said : Sizes → List LineKind → ℕ → List What → Bool
of_said shape wanted before ws = list_any (λ kind. line_said shape kind before ws) wanted

pub of-said : (shape : Sizes) (wanted : List LineKind) (before : ℕ) (ts : List Token)
    → is_of shape wanted before ts ≡ of_said shape wanted before (whats ts)
of-said shape wanted before ts =
    let same : (λ kind. is_line shape kind before ts) ≡
    (λ kind. line_said shape kind before (whats ts)) = λ j kind. line-said shape kind before ts j in
    ap (λ (test : LineKind → Bool). list_any test wanted) same

-- ---- slots

trap-fits : (why : Trap) → fits_word TrapSlot (trap_text why) ≡ true
trap-fits BadAddress = refl
trap-fits FellOff = refl

tag-fits : (tag : Tag) → fits_word TagSlot (tag_text tag) ≡ true
tag-fits Invalid = refl
tag-fits ReadOnly = refl
tag-fits ReadWrite = refl

chan-fits : (c : Chan) → nat_lt (chan_number c) 2 ≡ true
chan-fits Zero = refl
chan-fits One = refl

-- ---- lines

module _ (s : Setup) where
  abbrev shape : Sizes
  shape = s.shape

  abbrev p : Protocol
  p = s.protocol

  pub head-fits : fits_said shape 0 (head_form s.version shape) (head_tokens s) ≡ true
  head-fits =
      let same : (n : ℕ) → (n == n) ≡ true = λ n. eq-eqb n n refl in
      rw (same s.version, same shape.nodes, same shape.words, same shape.blocks, same shape.budget) refl

  pub print-fits : (k node value : ℕ) → node < shape.nodes → of_said shape (kinds.Print ∷ []) k
      (print_tokens (node, value)) ≡ true
  print-fits k node value lt = let n : nat_lt node shape.nodes ≡ true = lt-ltb node shape.nodes lt in rw n refl

  pub word-fits : (k address value : ℕ) → address < size_of s → of_said shape (kinds.Word ∷ []) k
      (word_tokens (address, value)) ≡ true
  word-fits k address value lt = let a : nat_lt address (size_of s) ≡ true = lt-ltb address (size_of s) lt in rw a refl

  pub register-fits : (k node register value : ℕ) → node < shape.nodes → register < 16 → of_said shape (kinds.Register ∷ []) k
      (register_tokens node (register, value)) ≡ true
  register-fits k node register value lt few =
      let n : nat_lt node shape.nodes ≡ true = lt-ltb node shape.nodes lt in
      let r : nat_lt register 16 ≡ true = lt-ltb register 16 few in
      rw (n, r) refl

  pub node-fits : (k : ℕ) (f : Final) → k < shape.nodes → IsOutcomeOf p f.outcome → of_said shape (kinds.Node ∷ []) k
      (node_tokens p (k, f)) ≡ true
  node-fits k f lt h = by f.outcome h
    where
      n : nat_lt k shape.nodes ≡ true
      n = lt-ltb k shape.nodes lt

      same : (k == k) ≡ true
      same = eq-eqb k k refl

      by : (o : Outcome) → IsOutcomeOf p o → of_said shape (kinds.Node ∷ []) k
          (node_tokens p (k, record f { outcome = o })) ≡ true
      by outcome.Halted h = rw (n, same) refl
      by (outcome.Trapped why) h = rw (n, same, trap-fits why) refl
      by outcome.Spent h = rw (n, same) refl
      by outcome.Stuck h = rw (n, same) refl
      by (outcome.Failed how.Fine) h = absurd h
      by (outcome.Failed (how.Failed number)) h = rw (n, same) refl
      by (outcome.Failed how.TooDeep) h = rw (n, same) refl

  pub count-fits : (k : ℕ) (f : Final) → k < shape.nodes → of_said shape (kinds.Counts ∷ []) k (count_tokens (k, f)) ≡ true
  count-fits k f lt =
      let n : nat_lt k shape.nodes ≡ true = lt-ltb k shape.nodes lt in
      let same : (k == k) ≡ true = eq-eqb k k refl in
      rw (n, same) refl

  pub history-fits : (b : Option Break) → IsBreakOf s b → line_said shape kinds.History 0 (history_tokens b) ≡ true
  history-fits None h = refl
  history-fits (Some b) (node, address) =
      let n : nat_lt b.node shape.nodes ≡ true = lt-ltb b.node shape.nodes node in
      let a : nat_lt b.address (size_of s) ≡ true = lt-ltb b.address (size_of s) address in
      rw (n, a) refl

  -- ---- events

  -- the entry of an event at a node
  abbrev entry_with : ℕ → ℕ → Act → ℕ → Option After → Entry
  entry_with stamp node a sends after = record { stamp = stamp; node = node; act = a; sends = sends; after = after }

  module _ (before k stamp node : ℕ) (lt : node < shape.nodes) where
    n : nat_lt node shape.nodes ≡ true
    n = lt-ltb node shape.nodes lt

    -- the line of an event that did this, where so many stand before
    abbrev ActFits : Act → ℕ → Option After → Type 0
    ActFits a sends after = of_said shape event_kinds before (entry_tokens p (k, entry_with stamp node a sends after)) ≡ true

    -- a handler that ended so
    abbrev with_end : After → End → Option After
    with_end after e = Some (record after { end = e })

    fault-fits : (store : Bool) (block sends : ℕ) (after : After) (e : End) → block < shape.blocks
        → ActFits (act.Fault store block) sends (with_end after e)
    fault-fits store block sends after how.Fine b = rw (n, lt-ltb block shape.blocks b, tag-fits after.tag) refl
    fault-fits store block sends after (how.Failed number) b = rw (n, lt-ltb block shape.blocks b, tag-fits after.tag) refl
    fault-fits store block sends after how.TooDeep b = rw (n, lt-ltb block shape.blocks b, tag-fits after.tag) refl

    redelivered-fits : (message : Kind) (block from sends : ℕ) (after : After) (e : End) → block < shape.blocks
        → from < shape.nodes
        → ActFits (act.Redelivered message block from) sends (with_end after e)
    redelivered-fits message block from sends after how.Fine b f = rw
        (n, lt-ltb block shape.blocks b, lt-ltb from shape.nodes f, tag-fits after.tag) refl
    redelivered-fits message block from sends after (how.Failed number) b f = rw
        (n, lt-ltb block shape.blocks b, lt-ltb from shape.nodes f, tag-fits after.tag) refl
    redelivered-fits message block from sends after how.TooDeep b f = rw
        (n, lt-ltb block shape.blocks b, lt-ltb from shape.nodes f, tag-fits after.tag) refl

    delivered-fits : (message : Kind) (block from number sends : ℕ) (chan : Chan) (after : After) (e : End)
        → block < shape.blocks → from < shape.nodes
        → ActFits (act.Delivered message block from chan number) sends (with_end after e)
    delivered-fits message block from number sends chan after how.Fine b f =
        rw (n, lt-ltb block shape.blocks b, lt-ltb from shape.nodes f, chan-fits chan, tag-fits after.tag) refl
    delivered-fits message block from number sends chan after (how.Failed error) b f =
        rw (n, lt-ltb block shape.blocks b, lt-ltb from shape.nodes f, chan-fits chan, tag-fits after.tag) refl
    delivered-fits message block from number sends chan after how.TooDeep b f =
        rw (n, lt-ltb block shape.blocks b, lt-ltb from shape.nodes f, chan-fits chan, tag-fits after.tag) refl

    act-fits : (a : Act) (sends : ℕ) (after : Option After) → IsActOf s a → IsLeft p (is_completed a) after
        → ActFits a sends after
    act-fits (act.Load address value) sends None h left = rw (n, lt-ltb address (size_of s) h) refl
    act-fits (act.Store address value) sends None h left = rw (n, lt-ltb address (size_of s) h) refl
    act-fits (act.Faa address value sum) sends None h left = rw (n, lt-ltb address (size_of s) h) refl
    act-fits (act.Print value) sends None h left = rw n refl
    act-fits act.Halt sends None h left = rw n refl
    act-fits (act.Trapped why) sends None h left = rw (n, trap-fits why) refl
    act-fits act.Step sends None h left = rw n refl
    act-fits (act.Load address value) sends (Some after) h left = absurd left
    act-fits (act.Store address value) sends (Some after) h left = absurd left
    act-fits (act.Faa address value sum) sends (Some after) h left = absurd left
    act-fits (act.Print value) sends (Some after) h left = absurd left
    act-fits act.Halt sends (Some after) h left = absurd left
    act-fits (act.Trapped why) sends (Some after) h left = absurd left
    act-fits act.Step sends (Some after) h left = absurd left
    act-fits (act.Fault store block) sends None h left = absurd left
    act-fits (act.Redelivered message block from) sends None h left = absurd left
    act-fits (act.Delivered message block from chan number) sends None h left = absurd left
    act-fits (act.Fault store block) sends (Some after) h left = fault-fits store block sends after after.end h
    act-fits (act.Redelivered message block from) sends
        (Some after) h left = redelivered-fits message block from sends after after.end h.1 h.2
    act-fits (act.Delivered message block from chan number) sends (Some after) h left =
        delivered-fits message block from number sends chan after after.end h.1 h.2

  pub event-fits : (before k : ℕ) (e : Entry) → IsEntryOf s e → of_said shape event_kinds before (entry_tokens p (k, e)) ≡ true
  event-fits before k e h = act-fits before k e.stamp e.node h.node e.act e.sends e.after h.act h.left
