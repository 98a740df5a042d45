-- The lines of a report are read kind by kind.
use Rattle.std.proofs.Common.{◌≡◌, ◌⊎◌, ℕ, ◌+◌, ◌==◌, ◌||◌, codes, Bool, true, false, List, [], ◌∷◌, ◌++◌, length, Ok, refl, ap}
use Rattle.std.proofs.Common.{sym, ◌∙◌, inl, inr, arith, eq-eqb}
use Rattle.std.proofs.lemmas.List.{drop_at, take_at}
use Rattle.tw_base.specs.Shape.{Sizes}
use Rattle.tw_lex.specs.declared.token.Line.{Line}
use Rattle.report_reader.specs.declared.kind.LineKind.{LineKind}
use Rattle.report_reader.specs.declared.kind.LineKind.TheVariants as kinds
use Rattle.report_reader.specs.Forms.{is_line}
use Rattle.report_reader.specs.Reading.{behind, event_kinds, front, history_in, past_counts, past_head, past_nodes, read_in}
use Rattle.report_reader.specs.Reading.{report_with, stretch, told_in}
use Rattle.report_laws.specs.Laws.{AreOf, IsLaidOut, LaidOutReportsAreRead}
use Rattle.report_laws.proofs.Keywords.{Opens, apart-of, are_apart, line-begins, opens-before}

-- as many as are of the kinds
stretch-over : (shape : Sizes) (wanted : List LineKind) (k : ℕ) (xs rest : List Line) (ws : List (List ℕ)) →
    are_apart wanted ws ≡ true → AreOf shape wanted k xs → Opens ws rest →
    stretch shape wanted k (xs ++ rest) ≡ length xs
unfolding stretch
stretch-over shape wanted k [] [] ws e a o = absurd o
stretch-over shape wanted k [] (l ∷ ls) ws e a o = rw (apart-of shape wanted k l.tokens ws e o) refl
stretch-over shape wanted k (x ∷ xs) rest ws e a o =
    let later : stretch shape wanted (k + 1) (xs ++ rest) ≡ length xs = stretch-over shape wanted (k + 1) xs rest ws e a.1 o in
    rw (a.0, later) (omega arith)

-- lines of the kinds, and the lines behind them
record Parts (shape : Sizes) (wanted : List LineKind) (xs rest : List Line) : Type 0 where
  count : stretch shape wanted 0 (xs ++ rest) ≡ length xs
  fronts : front shape wanted (xs ++ rest) ≡ xs
  behinds : behind shape wanted (xs ++ rest) ≡ rest

parts : (shape : Sizes) (wanted : List LineKind) (xs rest : List Line) (ws : List (List ℕ)) → are_apart wanted ws ≡ true →
    AreOf shape wanted 0 xs → Opens ws rest → Parts shape wanted xs rest
parts shape wanted xs rest ws e a o =
    let count = stretch-over shape wanted 0 xs rest ws e a o in
    record { count = count; fronts = take_at xs rest _ (sym count); behinds = drop_at xs rest _ (sym count) }

nodes-past : (shape : Sizes) (after : ℕ) (xs rest : List Line) → Parts shape (kinds.Node ∷ []) xs rest →
    length xs ≡ shape.nodes → past_nodes shape after (xs ++ rest) ≡ Ok rest
unfolding past_nodes
nodes-past shape after xs rest p e =
    let all : (stretch shape (kinds.Node ∷ []) 0 (xs ++ rest) == shape.nodes) ≡ true = eq-eqb _ _ (p.count ∙ e) in
    rw all (ap (λ (l : List Line). Ok l) p.behinds)

none-or-all : (n m : ℕ) → (n ≡ 0) ⊎ (n ≡ m) → ((n == 0) || (n == m)) ≡ true
none-or-all n m h = elim h as (λ x. ((n == 0) || (n == m)) ≡ true) [
  | inl none ↦ rw (eq-eqb n 0 none) refl
  | inr all ↦ rw (eq-eqb n m all) (or-true (n == 0))
]
  where
    or-true : (b : Bool) → (b || true) ≡ true
    or-true true = refl
    or-true false = refl

counts-past : (shape : Sizes) (after : ℕ) (xs rest : List Line) → Parts shape (kinds.Counts ∷ []) xs rest →
    (length xs ≡ 0) ⊎ (length xs ≡ shape.nodes) → past_counts shape after (xs ++ rest) ≡ Ok rest
unfolding past_counts
counts-past shape after xs rest p h =
    let n = stretch shape (kinds.Counts ∷ []) 0 (xs ++ rest) in
    let some : ((n == 0) || (n == shape.nodes)) ≡ true = rw p.count (none-or-all (length xs) shape.nodes h) in
    rw some (ap (λ (l : List Line). Ok l) p.behinds)

history-told : (shape : Sizes) (after : ℕ) (history ending : Line) → is_line shape kinds.History 0 history.tokens ≡ true →
    is_line shape kinds.End 0 ending.tokens ≡ true →
    history_in shape after (history ∷ ending ∷ []) ≡ Ok history
unfolding history_in
history-told shape after history ending h e = rw (h, e) refl

told-laid : (version : ℕ) (shape : Sizes) (after : ℕ) (lines prints words registers nodes counts events : List Line)
    (history : Line) →
    (l : IsLaidOut version shape lines prints words registers nodes counts events history) →
    told_in shape after (prints ++ (words ++ (registers ++ (nodes ++ (counts ++ (events ++ (history ∷ l.ending ∷ [])))))))
    ≡ Ok (report_with prints words registers nodes events history)
unfolding told_in
told-laid version shape after lines prints words registers nodes counts events history l =
    let last = history ∷ l.ending ∷ [] in
    let w6 : Opens (codes "history" ∷ []) last = inl (line-begins shape kinds.History 0 history.tokens l.history_is) in
    let w5 = opens-before shape event_kinds 0 events last (codes "event") (codes "history" ∷ [])
    (refl, (refl, (refl, (refl, tt)))) l.events_are w6 in
    let w4 = opens-before shape (kinds.Counts ∷ []) 0 counts (events ++ last) (codes "counts")
    (codes "event" ∷ codes "history" ∷ []) (refl, tt) l.counts_are w5 in
    let w3 = opens-before shape (kinds.Node ∷ []) 0 nodes (counts ++ (events ++ last)) (codes "node")
    (codes "counts" ∷ codes "event" ∷ codes "history" ∷ []) (refl, tt) l.nodes_are w4 in
    let w2 = opens-before shape (kinds.Register ∷ []) 0 registers (nodes ++ (counts ++ (events ++ last))) (codes "register")
    (codes "node" ∷ codes "counts" ∷ codes "event" ∷ codes "history" ∷ []) (refl, tt) l.registers_are w3 in
    let w1 = opens-before shape (kinds.Word ∷ []) 0 words (registers ++ (nodes ++ (counts ++ (events ++ last)))) (codes "word")
    (codes "register" ∷ codes "node" ∷ codes "counts" ∷ codes "event" ∷ codes "history" ∷ []) (refl, tt) l.words_are w2 in
    let p1 = parts shape (kinds.Print ∷ []) prints (words ++ (registers ++ (nodes ++ (counts ++ (events ++ last)))))
    (codes "word" ∷ codes "register" ∷ codes "node" ∷ codes "counts" ∷ codes "event" ∷ codes "history" ∷ []) refl
    l.prints_are w1 in
    let p2 = parts shape (kinds.Word ∷ []) words (registers ++ (nodes ++ (counts ++ (events ++ last))))
    (codes "register" ∷ codes "node" ∷ codes "counts" ∷ codes "event" ∷ codes "history" ∷ []) refl l.words_are w2 in
    let p3 = parts shape (kinds.Register ∷ []) registers (nodes ++ (counts ++ (events ++ last)))
    (codes "node" ∷ codes "counts" ∷ codes "event" ∷ codes "history" ∷ []) refl l.registers_are w3 in
    let p4 = parts shape (kinds.Node ∷ []) nodes (counts ++ (events ++ last))
    (codes "counts" ∷ codes "event" ∷ codes "history" ∷ []) refl l.nodes_are w4 in
    let p5 = parts shape (kinds.Counts ∷ []) counts (events ++ last)
    (codes "event" ∷ codes "history" ∷ []) refl l.counts_are w5 in
    let p6 = parts shape event_kinds events last (codes "history" ∷ []) refl l.events_are w6 in
    rw (
      p1.behinds,
      p2.behinds,
      p3.behinds,
      nodes-past shape after nodes (counts ++ (events ++ last)) p4 l.each_node,
      counts-past shape after counts (events ++ last) p5 l.each_or_none,
      p6.behinds,
      history-told shape after history l.ending l.history_is l.ending_is,
      p6.fronts,
      l.numbers,
      p1.fronts,
      p2.fronts,
      p3.fronts,
      p4.fronts,
    ) refl

pub read-laid : LaidOutReportsAreRead
unfolding read_in past_head
read-laid version shape after lines prints words registers nodes counts events history l =
    rw (l.in_order, l.head_is) (told-laid version shape after lines prints words registers nodes counts events history l)
