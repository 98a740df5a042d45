-- The lines that give a tree within the limits are read as that tree.
use Rattle.std.proofs.Common.{◌≡◌, ℕ, ◌+◌, ◌≤◌, List, [], ◌∷◌, ◌++◌, length, map, None, refl, sym, subst, append_assoc, arith}
use Rattle.std.specs.List.{flat_map}
use Rattle.std.proofs.lemmas.Bool.{le-ltb}
use Rattle.std.proofs.lemmas.List.{length-append, length-map}
use Rattle.tw_base.specs.Lists.{Each}
use Rattle.teapot_tree.specs.declared.protocol.Handler.{Handler}
use Rattle.teapot_tree.specs.declared.protocol.MessageDecl.{MessageDecl}
use Rattle.teapot_tree.specs.declared.protocol.Param.{Param}
use Rattle.teapot_tree.specs.declared.protocol.Protocol.{Protocol}
use Rattle.teapot_tree.specs.declared.protocol.Start.{Start}
use Rattle.teapot_tree.specs.declared.protocol.State.{State}
use Rattle.teapot_lines.specs.declared.form.Form.TheVariants as f
use Rattle.teapot_parse.specs.declared.count.Counts.{Counts}
use Rattle.teapot_parse.specs.Counting.{no_counts, first_over}
use Rattle.teapot_parse.specs.Trees.{Lines, handler_lines, state_lines, message_line, info_line, start_line, lines_of, typed_of}
use Rattle.teapot_parse.proofs.Builds.{cut_lines}
use Rattle.teapot_parse.proofs.Limits.{Below, Passes, Loose, IsWithin, pass-plain, pass-begin, pass-end, pass-handlers}

-- the limits on one state
abbrev pub IsSmall : State → Type 0
IsSmall s = (length s.params ≤ 4) × Each IsWithin s.handlers

pass-state : (s : State) → IsSmall s → (d : Counts) (qs : Lines) → d.begins ≡ 0 → d.states + 1 ≤ 64 →
    d.handlers + length s.handlers ≤ 1024
    → Loose (record d { states = d.states + 1; handlers = d.handlers + length s.handlers }) qs → Loose d (state_lines s ++ qs)
unfolding first_over
pass-state s (few, within) d qs none st ha k l o =
    let hs = s.handlers in
    let n = d.states + 1 in
    let opened = record d { states = n; begins = d.begins + 1 } in
    let ends : Loose (record opened { handlers = d.handlers + length hs }) ((0, f.End) ∷ qs) =
    λ l2 o2. pass-end (record d { states = n; handlers = d.handlers + length hs; locals = l2; loops = o2 }) qs (k l2 o2) in
    let inner = pass-handlers hs within opened ((0, f.End) ∷ qs) (omega arith) ha ends in
    let regroup : flat_map handler_lines hs ++ (0, f.End) ∷ qs ≡ flat_map handler_lines hs ++ (0, f.End) ∷ [] ++ qs =
    sym (append_assoc (flat_map handler_lines hs) ((0, f.End) ∷ []) qs) in
    let begins : Passes (record d { states = n; locals = l; loops = o })
    ((0, f.Begin) ∷ (flat_map handler_lines hs ++ (0, f.End) ∷ [] ++ qs)) =
    pass-begin (record d { states = n; locals = l; loops = o }) (flat_map handler_lines hs ++ (0, f.End) ∷ [] ++ qs)
    (subst (Passes (record opened { locals = l; loops = o })) regroup (inner l o)) in
    λ c b.
    let more = b.states in
    let here : c.states + 1 ≤ 64 = omega arith in
    let args : length (map typed_of s.params) ≤ 4 = subst (λ z. z ≤ 4) (sym (length-map s.params typed_of)) few in
    rw (le-ltb 64 (c.states + 1) here, le-ltb 4 (length (map typed_of s.params)) args)
    (begins (record c { states = c.states + 1 }) (record {
      states = omega arith;
      messages = b.messages;
      handlers = b.handlers;
      infos = b.infos;
      locals = b.locals;
      loops = b.loops;
      begins = b.begins;
    }))

-- fewer states and handlers
fewer-states : (d : Counts) (s s' h h' : ℕ) (qs : Lines) → s ≤ s' → h ≤ h' →
    Loose (record d { states = s'; handlers = h' }) qs → Loose (record d { states = s; handlers = h }) qs
fewer-states d s s' h h' qs le le' k l o c b = k l o c (record {
  states = let x = b.states in omega arith;
  messages = b.messages;
  handlers = let y = b.handlers in omega arith;
  infos = b.infos;
  locals = b.locals;
  loops = b.loops;
  begins = b.begins;
})

abbrev all_handlers : List State → List Handler
all_handlers ss = flat_map (λ (s : State). s.handlers) ss

pass-states : (ss : List State) → Each IsSmall ss → (d : Counts) → d.begins ≡ 0 → d.states + length ss ≤ 64 →
    d.handlers + length (all_handlers ss) ≤ 1024 → Loose d (flat_map state_lines ss)
unfolding first_over
pass-states [] all d none st ha = λ l o c b. refl
pass-states (s ∷ ss) (one, all) d none st ha =
    let sum = length-append s.handlers (all_handlers ss) in
    pass-state s one d (flat_map state_lines ss) none (omega arith) (omega arith)
    (pass-states ss all (record d { states = d.states + 1; handlers = d.handlers + length s.handlers }) none (omega arith)
    (omega arith))

pass-message : (m : MessageDecl) → length m.args ≤ 4 → (d : Counts) (qs : Lines) → d.messages + 1 ≤ 64 →
    Passes (record d { messages = d.messages + 1 }) qs → Passes d (message_line m ∷ qs)
unfolding first_over
pass-message m few d qs le h c b =
    let more = b.messages in
    let here : c.messages + 1 ≤ 64 = omega arith in
    rw (le-ltb 64 (c.messages + 1) here, le-ltb 4 (length m.args) few) (h (record c { messages = c.messages + 1 }) (record {
      states = b.states;
      messages = omega arith;
      handlers = b.handlers;
      infos = b.infos;
      locals = b.locals;
      loops = b.loops;
      begins = b.begins;
    }))

pass-messages : (ms : List MessageDecl) → Each (λ (m : MessageDecl). length m.args ≤ 4) ms → (d : Counts) (qs : Lines) →
    d.messages + length ms ≤ 64 → ((n : ℕ) → Passes (record d { messages = n }) qs) → Passes d (map message_line ms ++ qs)
pass-messages [] all d qs le h = h d.messages
pass-messages (m ∷ ms) (one, all) d qs le h = pass-message m one d (map message_line ms ++ qs) (omega arith)
    (pass-messages ms all (record d { messages = d.messages + 1 }) qs (omega arith) h)

pass-info : (a : Param) (d : Counts) (qs : Lines) → d.infos + 1 ≤ 8 → Passes (record d { infos = d.infos + 1 }) qs →
    Passes d (info_line a ∷ qs)
unfolding first_over
pass-info a d qs le h c b =
    let more = b.infos in
    let here : c.infos + 1 ≤ 8 = omega arith in
    rw (le-ltb 8 (c.infos + 1) here) (h (record c { infos = c.infos + 1 }) (record {
      states = b.states;
      messages = b.messages;
      handlers = b.handlers;
      infos = omega arith;
      locals = b.locals;
      loops = b.loops;
      begins = b.begins;
    }))

pass-infos : (xs : List Param) (d : Counts) (qs : Lines) → d.infos + length xs ≤ 8 →
    ((n : ℕ) → Passes (record d { infos = n }) qs) → Passes d (map info_line xs ++ qs)
pass-infos [] d qs le h = h d.infos
pass-infos (x ∷ xs) d qs le h = pass-info x d (map info_line xs ++ qs) (omega arith)
    (pass-infos xs (record d { infos = d.infos + 1 }) qs (omega arith) h)

pass-starts : (gs : List Start) (d : Counts) (qs : Lines) → Passes d qs → Passes d (map start_line gs ++ qs)
pass-starts [] d qs h = h
pass-starts (g ∷ gs) d qs h = pass-plain (start_line g) d (map start_line gs ++ qs) (λ c. refl) (λ c. refl)
    (pass-starts gs d qs h)

below-same : (c : Counts) → Below c c
below-same c = record {
  states = omega arith;
  messages = omega arith;
  handlers = omega arith;
  infos = omega arith;
  locals = omega arith;
  loops = omega arith;
  begins = omega arith;
}

pub tree-within : (p : Protocol) → length p.states ≤ 64 → length (all_handlers p.states) ≤ 1024 → length p.messages ≤ 64 →
    length p.infos ≤ 8 → Each (λ (m : MessageDecl). length m.args ≤ 4) p.messages → Each IsSmall p.states
    → first_over no_counts (cut_lines (lines_of p)) ≡ None
tree-within p st ha me inf args small =
    let ss = flat_map state_lines p.states in
    let states : (m i : ℕ) → Passes (record no_counts { messages = m; infos = i }) ss =
    λ m i. pass-states p.states small (record no_counts { messages = m; infos = i }) refl (omega arith) (omega arith) 0 0 in
    let starts : (m i : ℕ) → Passes (record no_counts { messages = m; infos = i }) (map start_line p.starts ++ ss) =
    λ m i. pass-starts p.starts (record no_counts { messages = m; infos = i }) ss (states m i) in
    let infos : (m : ℕ) → Passes (record no_counts { messages = m })
    (map info_line p.infos ++ (map start_line p.starts ++ ss)) =
    λ m. pass-infos p.infos (record no_counts { messages = m }) (map start_line p.starts ++ ss) (omega arith) (starts m) in
    pass-plain (p.line, f.Protocol p.name p.profile) no_counts
    (map message_line p.messages ++ (map info_line p.infos ++ (map start_line p.starts ++ ss))) (λ c. refl) (λ c. refl)
    (pass-messages p.messages args no_counts (map info_line p.infos ++ (map start_line p.starts ++ ss))
    (omega arith) infos) no_counts (below-same no_counts)
