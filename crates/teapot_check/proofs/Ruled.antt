-- The least line of a rule, from the least lines of its parts.
use Rattle.std.proofs.Common.{◌≡◌, ℕ, nat_lt, length, is_none, List, ◌++◌, Option}
use Rattle.std.specs.List.{flat_map}
use Rattle.teapot_tree.specs.declared.protocol.Protocol.{Protocol}
use Rattle.teapot_tree.specs.declared.protocol.Start.{Start}
use Rattle.teapot_tree.specs.declared.protocol.State.{State}
use Rattle.teapot_tree.specs.declared.rule.Rule.TheVariants.{Undeclared, Twice, ArgCount, NotTwoStarts}
use Rattle.teapot_tree.specs.Rules.{is_wrong_start}
use Rattle.teapot_tree.specs.Scopes.{state_of}
use Rattle.teapot_rules.specs.Faults.{again_handlers, again_messages, again_params, again_starts, again_states, handler_lines}
use Rattle.teapot_rules.specs.Faults.{in_handlers, lines, names_cont}
use Rattle.teapot_rules.specs.Lists.{least, lesser, line_if}
use Rattle.teapot_rules.proofs.Appending.{least-append, lesser-assoc}

-- ---- lists one after the other

two : (xs ys : List ℕ) (a b : Option ℕ) → a ≡ least xs → b ≡ least ys → lesser a b ≡ least (xs ++ ys)
two xs ys a b e f = let k = least-append xs ys in cc

six : (ms is ss cs hs ns : List ℕ) (own c h n : Option ℕ) → own ≡ lesser (least ms) (lesser (least is) (least ss)) →
    c ≡ least cs → h ≡ least hs → n ≡ least ns
    → lesser own (lesser c (lesser h n)) ≡ least (ms ++ (is ++ (ss ++ (cs ++ (hs ++ ns)))))
six ms is ss cs hs ns own c h n o e f g =
    let k5 = two hs ns h n f g in
    let k4 = two cs (hs ++ ns) c (lesser h n) e k5 in
    let k3 = least-append ss (cs ++ (hs ++ ns)) in
    let k2 = least-append is (ss ++ (cs ++ (hs ++ ns))) in
    let k1 = least-append ms (is ++ (ss ++ (cs ++ (hs ++ ns)))) in
    let a1 = lesser-assoc (least ms) (lesser (least is) (least ss)) (lesser c (lesser h n)) in
    let a2 = lesser-assoc (least is) (least ss) (lesser c (lesser h n)) in
    cc

-- ---- rules

abbrev pub undeclared_at : Protocol → List Start → List ℕ
undeclared_at p ss = flat_map (λ (s : Start). line_if (is_none (state_of p s.state)) s.line) ss

abbrev pub wrong_at : Protocol → List Start → List ℕ
wrong_at p ss = flat_map (λ (s : Start). line_if (is_wrong_start (state_of p s.state)) s.line) ss

pub undeclared_lines : (p : Protocol) (starts inner : Option ℕ) → starts ≡ least (undeclared_at p p.starts) →
    inner ≡ least (in_handlers (handler_lines Undeclared) p) → lesser starts inner ≡ least (lines p Undeclared)
undeclared_lines p starts inner e f = two (undeclared_at p p.starts) (in_handlers (handler_lines Undeclared) p) starts inner e f

pub arg_count_lines : (p : Protocol) (starts inner : Option ℕ) → starts ≡ least (wrong_at p p.starts) →
    inner ≡ least (in_handlers (handler_lines ArgCount) p) → lesser starts inner ≡ least (lines p ArgCount)
arg_count_lines p starts inner e f = two (wrong_at p p.starts) (in_handlers (handler_lines ArgCount) p) starts inner e f

pub two_starts_lines : (p : Protocol) (again few : Option ℕ) → again ≡ least (again_starts p.starts) →
    few ≡ least (line_if (nat_lt (length p.starts) 2) p.line) → lesser again few ≡ least (lines p NotTwoStarts)
two_starts_lines p again few e f = two (again_starts p.starts) (line_if (nat_lt (length p.starts) 2) p.line) again few e f

pub twice_lines : (p : Protocol) (own conts handlers inner : Option ℕ) →
    own ≡ lesser (least (again_messages p.messages)) (lesser (least (again_params p.infos)) (least (again_states p.states)))
    → conts ≡ least (flat_map (λ (s : State). line_if (names_cont s) s.line) p.states)
    → handlers ≡ least (flat_map (λ (s : State). again_handlers s.handlers) p.states)
    → inner ≡ least (in_handlers (handler_lines Twice) p)
    → lesser own (lesser conts (lesser handlers inner)) ≡ least (lines p Twice)
twice_lines p own conts handlers inner o e f g =
    six (again_messages p.messages) (again_params p.infos) (again_states p.states)
    (flat_map (λ (s : State). line_if (names_cont s) s.line) p.states)
    (flat_map (λ (s : State). again_handlers s.handlers) p.states)
    (in_handlers (handler_lines Twice) p) own conts handlers inner o e f g
