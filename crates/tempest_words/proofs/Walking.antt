-- The walk of `clap` beside the words as they are parted, word by word.
use Rattle.std.proofs.Common.{◌≡◌, ℕ, Bool, true, false, List, [], ◌∷◌, ◌++◌, Option, Some, None, is_some, if◌then◌else◌, refl}
use Rattle.std.proofs.Common.{sym, ap, ◌∙◌, subst, codes, inl, inr}
use Rattle.std.specs.Prelude.{take, drop}
use Rattle.std.specs.Option.{option_map}
use Rattle.std.specs.Str.{bytes_eq}
use Rattle.std.proofs.lemmas.Slice.Eq.{bytes_eq-Decides}
use Rattle.tw_base.specs.Answers.{◌>>?◌}
use Rattle.clap.specs.Faults.{turn_fault}
use Rattle.clap.specs.Lexer.{long_of}
use Rattle.clap.specs.Walk.{Row, Text, Walk, arg_by_long, has_row, idle}
use Rattle.tempest_words.specs.declared.request.Asked.{Asked}
use Rattle.tempest_words.specs.Lines.{Line, Read, begins_with_a_dash, line_of, next, on_line, place_word, with_batch}
use Rattle.tempest_words.specs.Lines.{with_counts, with_journal, with_meaning, with_word, words_read}
use Rattle.tempest_words.specs.Words.{asked_by}
use Rattle.tempest_words.proofs.Advancing.{batch_comes, batch_goes, batch_is_refused, batch_waits, ended_late, flag_goes}
use Rattle.tempest_words.proofs.Advancing.{flag_is_refused, long_late, nothing_settles, place_goes, stray_is_refused}
use Rattle.tempest_words.proofs.Advancing.{twice_late, unvalued, value_settles}
use Rattle.tempest_words.proofs.Dashed.{IsDashed, batch-front, batch-named, batch_text, begins-dashed, dashed-begins}
use Rattle.tempest_words.proofs.Dashed.{long-named, named-alone, named-dashed, named-valued}
use Rattle.tempest_words.proofs.Failing.{fails-from}
use Rattle.tempest_words.proofs.Failing as fails
use Rattle.tempest_words.proofs.Rows.{value_row}
use Rattle.tempest_words.proofs.Rules.{IsFlag, LongOf, batch_rule, batch_takes, batched, command_takes, flag_rule, flagged}
use Rattle.tempest_words.proofs.Rules.{long_of_name, number_takes, positional_rule, rules, shape, unknown}
use Rattle.tempest_words.proofs.Settling.{IsFault, Outcome, Pending, Settles, Shows, asked-not, asked-on, asked_from, awaiting}
use Rattle.tempest_words.proofs.Settling.{batch_pending, end_rows-nil, faults-nil, held, idle_at, outcome-here, outcome-on}
use Rattle.tempest_words.proofs.Settling.{refused, taken, waiting_by, walk_at}
use Rattle.tempest_words.proofs.Showing.{has_flag, has_value, shows_batch, shows_command, shows_counts, shows_journal}
use Rattle.tempest_words.proofs.Showing.{shows_meaning, shows_number}
use Rattle.tempest_words.proofs.Turns.{Goes, IsPlain, Looks, dashes, dashes_go, flag_value_is_refused, long, looks, plain}
use Rattle.tempest_words.proofs.Turns.{short, unknown_is_refused}

-- which positional comes next
pub data Placed (l : Line) (position : ℕ) : Type 0 where
  first : l.command ≡ None → l.number ≡ None → position ≡ 1 → Placed l position
  second : (c : Text) → l.command ≡ Some c → l.number ≡ None → position ≡ 2 → Placed l position
  third : (c n : Text) → l.command ≡ Some c → l.number ≡ Some n → position ≡ 3 → Placed l position

placed_same : (l m : Line) (position : ℕ) → m.command ≡ l.command → m.number ≡ l.number → Placed l position → Placed m position
placed_same l m position ec en (first c n p) = first (ec ∙ c) (en ∙ n) p
placed_same l m position ec en (second w c n p) = second w (ec ∙ c) (en ∙ n) p
placed_same l m position ec en (third w v c n p) = third w v (ec ∙ c) (en ∙ n) p

abbrev free : Line → Bool → Read
free l ended = record { line = l; awaits = false; ended = ended }

abbrev waiting : Line → Read
waiting l = record { line = l; awaits = true; ended = false }

-- what comes of these words where nothing waits for a value
abbrev Free : List Text → Type 0
Free ws =
    (rows : List Row) (pending : Pending) (shown : List Row) (l : Line) (position : ℕ) (ended : Bool)
    → Settles rows pending shown → Shows shown l → Placed l position
    → Outcome (walk_at (held rows pending) idle position ended) ws (asked_from (free l ended) ws)

-- and where the batch does
abbrev Waits : List Text → Type 0
Waits ws = (rows : List Row) (l : Line) (position : ℕ) → Shows rows l → Placed l position
    → Outcome (awaiting rows position) ws (asked_from (waiting l) ws)

-- ---- no word is left

free_nil : Free []
free_nil rows pending shown l position ended settles shows placed =
    let w : Walk = walk_at (held rows pending) idle position ended in
    taken l (faults-nil w ∙ settles.fault) (subst (λ rs. Shows rs l) (sym (end_rows-nil w ∙ settles.uses)) shows) refl

waits_nil : Waits []
waits_nil rows l position shows placed = refused
    (subst IsFault (sym (faults-nil (awaiting rows position))) (unvalued rows)) refl

-- ---- a positional

-- what the words ask for where this one is a positional
abbrev placed_asked : Text → List Text → Read → Option Asked
placed_asked x ws r = on_line (with_word x) r >>? (λ q. words_read q ws) >>? line_of >>? asked_by

abbrev asked_with : Read → List Text → Option Line → Option Asked
asked_with r ws o = option_map (λ l. record r { line = l }) o >>? (λ q. words_read q ws) >>? line_of >>? asked_by

module _ (x : Text) (ws : List Text) (rest : Free ws) (rows : List Row) (pending : Pending) (shown : List Row) (l : Line)
    (ended : Bool)
    (settles : Settles rows pending shown) (shows : Shows shown l) (is : ended ≡ false → IsPlain x) where
  place : (position : ℕ) → Placed l position
      → Outcome (walk_at (held rows pending) idle position ended) (x ∷ ws) (placed_asked x ws (free l ended))
  place position (first c n p) =
      let m : Line = record l { command = Some x } in
      let goes = place_goes rows pending shown settles 1 x (codes "command") 1 refl ended is in
      let none : has_row (codes "command") shown ≡ false = has_value shown l shows (codes "command") l.command shows.command
      ∙ ap is_some c in
      let asks : placed_asked x ws (free l ended) ≡ asked_from (free m ended) ws = ap
      (λ o. asked_with (free l ended) ws (place_word o l.number x l)) c in
      subst (λ k. Outcome (walk_at (held rows pending) idle k ended) (x ∷ ws) (placed_asked x ws (free l ended))) (sym p)
      (outcome-on _ _ x ws _ _ goes.fault goes.walks asks
      (rest shown (Some (codes "command", x ∷ [])) (shown ++ value_row (codes "command") x ∷ []) m 2 ended
      (value_settles (positional_rule (codes "command") 1) shown x command_takes none) (shows_command shown l shows x c)
      (second x refl n refl)))
  place position (second w c n p) =
      let m : Line = record l { number = Some x } in
      let goes = place_goes rows pending shown settles 2 x (codes "number") 2 refl ended is in
      let none : has_row (codes "number") shown ≡ false = has_value shown l shows (codes "number") l.number shows.number
      ∙ ap is_some n in
      let asks : placed_asked x ws (free l ended) ≡ asked_from (free m ended) ws =
      ap (λ o. asked_with (free l ended) ws (place_word o l.number x l)) c
      ∙ ap (λ o. asked_with (free l ended) ws (place_word (Some w) o x l)) n in
      subst (λ k. Outcome (walk_at (held rows pending) idle k ended) (x ∷ ws) (placed_asked x ws (free l ended))) (sym p)
      (outcome-on _ _ x ws _ _ goes.fault goes.walks asks
      (rest shown (Some (codes "number", x ∷ [])) (shown ++ value_row (codes "number") x ∷ []) m 3 ended
      (value_settles (positional_rule (codes "number") 2) shown x number_takes none) (shows_number shown l shows x n)
      (third w x c refl refl)))
  place position (third w v c n p) =
      let asks : placed_asked x ws (free l ended) ≡ None =
      ap (λ o. asked_with (free l ended) ws (place_word o l.number x l)) c
      ∙ ap (λ o. asked_with (free l ended) ws (place_word (Some w) o x l)) n in
      subst (λ k. Outcome (walk_at (held rows pending) idle k ended) (x ∷ ws) (placed_asked x ws (free l ended))) (sym p)
      (outcome-here _ x ws _ (stray_is_refused rows pending x ended is) asks)

-- ---- the batch, which is the next word

none_of : {X : Type 0} (o : Option X) → is_some o ≡ false → o ≡ None
none_of None e = refl
none_of (Some x) e = absurd (cc)

module _ (x : Text) (ws : List Text) (rest : Free ws) (rows : List Row) (l : Line) (position : ℕ) (shows : Shows rows l)
    (placed : Placed l position) where
  asks : (b : Bool) → is_some l.batch ≡ b
      → next x (waiting l) ≡ option_map (λ k. free k false) (if b then None else Some (record l { batch = Some x }))
  asks b e = ap (λ t. option_map (λ k. free k false) (if t then None else Some (record l { batch = Some x }))) e

  module _ (new : is_some l.batch ≡ false) where
    later : asked_from (waiting l) (x ∷ ws) ≡ asked_from (free (record l { batch = Some x }) false) ws
    later = asked-on (waiting l) (free (record l { batch = Some x }) false) x ws (asks false new)

    not_asked : IsDashed x → asked_from (waiting l) (x ∷ ws) ≡ None
    not_asked dashed = later
        ∙ fails-from ws (free (record l { batch = Some x }) false) (fails.batch dashed.rest (ap Some dashed.is))

    by_looks : bytes_eq x dashes ≡ false → Looks x → Outcome (awaiting rows position) (x ∷ ws) (asked_from (waiting l) (x ∷ ws))
    by_looks ends (plain is) =
        let comes = batch_comes rows position x is in
        let none : has_row (codes "batch") rows ≡ false = has_value rows l shows (codes "batch") l.batch shows.batch ∙ new in
        outcome-on (awaiting rows position) _ x ws _ _ comes.fault comes.walks later
        (rest rows (Some (codes "batch", x ∷ [])) (rows ++ value_row (codes "batch") x ∷ [])
        (record l { batch = Some x }) position false
        (value_settles batch_rule rows x batch_takes none) (shows_batch rows l shows x (none_of l.batch new))
        (placed_same l (record l { batch = Some x }) position refl refl placed))
    by_looks ends (short dashed is) = outcome-here (awaiting rows position) x ws _ (is true position rows batch_pending)
        (not_asked dashed)
    by_looks ends (long name v named) =
        outcome-here (awaiting rows position) x ws _
        (long_late rows batch_pending (unvalued rows) x name v ends named true position (long_of_name name))
        (not_asked (named-dashed x name v (long-named x name v named)))

    by_dashes : x ≡ dashes → Outcome (awaiting rows position) (x ∷ ws) (asked_from (waiting l) (x ∷ ws))
    by_dashes is =
        let goes : Goes (awaiting rows position) x (walk_at (held rows batch_pending) (waiting_by true) position true) =
        subst (λ y. Goes (awaiting rows position) y (walk_at (held rows batch_pending) (waiting_by true) position true))
        (sym is)
        (dashes_go true position (held rows batch_pending)) in
        outcome-on (awaiting rows position) _ x ws _ _ goes.fault goes.walks (not_asked (record { rest = 45 ∷ []; is = is }))
        (refused (ended_late rows batch_pending (unvalued rows) true position ws) refl)

    by_word : (b : Bool) → bytes_eq x dashes ≡ b → Outcome (awaiting rows position) (x ∷ ws) (asked_from (waiting l) (x ∷ ws))
    by_word true e = by_dashes ((bytes_eq-Decides x dashes).0 e)
    by_word false e = by_looks e (looks x e)

  batch_next : (b : Bool) → is_some l.batch ≡ b → Outcome (awaiting rows position) (x ∷ ws) (asked_from (waiting l) (x ∷ ws))
  batch_next true e =
      refused (twice_late rows position (has_value rows l shows (codes "batch") l.batch shows.batch ∙ e) (x ∷ ws))
      (asked-not (waiting l) x ws (asks true e))
  batch_next false e = by_word e (bytes_eq x dashes) refl

waits_more : (x : Text) (ws : List Text) → Free ws → Waits (x ∷ ws)
waits_more x ws rest rows l position shows placed = batch_next x ws rest rows l position shows placed (is_some l.batch) refl

-- ---- a word where nothing waits

abbrev ask : List Text → Option Read → Option Asked
ask ws o = o >>? (λ q. words_read q ws) >>? line_of >>? asked_by

-- an option that stands at most once
abbrev once : Bool → Line → Option Line
once set m = if set then None else Some m

abbrev on_free : Line → Option Line → Option Read
on_free l o = option_map (λ m. record (free l false) { line = m }) o

module _ (x : Text) (ws : List Text) (rest : Free ws) (waits : Waits ws) (rows : List Row) (pending : Pending)
    (shown : List Row) (l : Line) (position : ℕ)
    (settles : Settles rows pending shown) (shows : Shows shown l) (placed : Placed l position) where
  abbrev here : Walk
  here = idle_at rows pending position

  -- `--`
  ends_here : x ≡ dashes → Outcome here (x ∷ ws) (asked_from (free l true) ws)
  ends_here is =
      let goes : Goes here x (walk_at (held rows pending) idle position true) =
      subst (λ y. Goes here y (walk_at (held rows pending) idle position true)) (sym is)
      (dashes_go false position (held rows pending)) in
      outcome-on here _ x ws _ _ goes.fault goes.walks refl (rest rows pending shown l position true settles shows placed)

  module _ (ends : bytes_eq x dashes ≡ false) where
    -- `--batch`
    waits_here : x ≡ codes "--batch" → Outcome here (x ∷ ws) (asked_from (waiting l) ws)
    waits_here is =
        let goes = batch_waits rows pending shown settles position x ends (ap long_of is) in
        outcome-on here _ x ws _ _ goes.fault goes.walks refl (waits shown l position shows placed)

    -- a flag
    flag_here : (id : Text) (set : Bool) (m : Line) → long_of x ≡ Some (id, None)
        → arg_by_long rules id ≡ Some (flag_rule id) → has_row id shown ≡ set
        → (set ≡ false → Shows (shown ++ value_row id (codes "true") ∷ []) m) → Placed m position
        → Outcome here (x ∷ ws) (ask ws (on_free l (once set m)))
    flag_here id true m named finds there showing still =
        outcome-here here x ws _ (flag_is_refused rows pending shown settles position x id ends named finds there) refl
    flag_here id false m named finds there showing still =
        let goes = flag_goes rows pending shown settles position x id ends named finds there in
        outcome-on here _ x ws _ _ goes.fault goes.walks refl
        (rest (shown ++ value_row id (codes "true") ∷ []) None (shown ++ value_row id (codes "true") ∷ []) m position false
        (nothing_settles (shown ++ value_row id (codes "true") ∷ [])) (showing refl) still)

    -- `--batch=`
    batch_here : (v : Text) (given : Bool) → x ≡ batch_text ++ v → is_some l.batch ≡ given
        → Outcome here (x ∷ ws) (ask ws (on_free l (once given (record l { batch = Some v }))))
    batch_here v true is e =
        let there : has_row (codes "batch") shown ≡ true = has_value shown l shows (codes "batch") l.batch shows.batch ∙ e in
        outcome-here here x ws _
        (batch_is_refused rows pending shown settles position x v ends (ap long_of is ∙ batch-named v) there) refl
    batch_here v false is e =
        let none : has_row (codes "batch") shown ≡ false = has_value shown l shows (codes "batch") l.batch shows.batch ∙ e in
        let goes = batch_goes rows pending shown settles position x v ends (ap long_of is ∙ batch-named v) none in
        outcome-on here _ x ws _ _ goes.fault goes.walks refl
        (rest (shown ++ value_row (codes "batch") v ∷ []) None (shown ++ value_row (codes "batch") v ∷ [])
        (record l { batch = Some v }) position false
        (nothing_settles (shown ++ value_row (codes "batch") v ∷ [])) (shows_batch shown l shows v (none_of l.batch e))
        (placed_same l (record l { batch = Some v }) position refl refl placed))

    -- a word that is no option
    word_here : IsPlain x → Outcome here (x ∷ ws) (ask ws (on_free l (with_word x l)))
    word_here is = place x ws rest rows pending shown l false settles shows (λ e. is) position placed

    -- it asks for nothing where it begins with a dash
    dashed_asks : IsDashed x → ask ws (on_free l (with_word x l)) ≡ None
    dashed_asks dashed = go l.command l.number
      where
        go : (c n : Option Text) → ask ws (on_free l (place_word c n x l)) ≡ None
        go None n = fails-from ws (free (record l { command = Some x }) false) (fails.command dashed.rest (ap Some dashed.is))
        go (Some c) None = fails-from ws (free (record l { number = Some x }) false)
            (fails.number dashed.rest (ap Some dashed.is))
        go (Some c) (Some n) = refl

    module _ (no_journal : bytes_eq x (codes "--journal") ≡ false) (no_counts : bytes_eq x (codes "--counts") ≡ false)
        (no_meaning : bytes_eq x (codes "--meaning") ≡ false)
        (no_batch : bytes_eq x (codes "--batch") ≡ false) (no_value : bytes_eq (take 8 x) batch_text ≡ false) where
      differs : (y : Text) → bytes_eq x y ≡ false → x ≡ y → ⊥
      differs y e is = let same : bytes_eq x y ≡ true = (bytes_eq-Decides x y).1 is in absurd (cc)

      flag_alone : (name : Text) → IsFlag name → x ≡ 45 ∷ 45 ∷ name → ⊥
      flag_alone name (inl is) e = differs (codes "--journal") no_journal (e ∙ ap (λ n. 45 ∷ 45 ∷ n) is)
      flag_alone name (inr (inl is)) e = differs (codes "--counts") no_counts (e ∙ ap (λ n. 45 ∷ 45 ∷ n) is)
      flag_alone name (inr (inr is)) e = differs (codes "--meaning") no_meaning (e ∙ ap (λ n. 45 ∷ 45 ∷ n) is)

      batch_valued : (v : Text) → x ≡ batch_text ++ v → ⊥
      batch_valued v e = let same : bytes_eq (take 8 x) batch_text ≡ true = ap
          (λ y. bytes_eq (take 8 y) batch_text) e in absurd (cc)

      long_refused : (name : Text) (v : Option Text) → long_of x ≡ Some (name, v) → LongOf name (arg_by_long rules name)
          → IsFault (turn_fault shape [] here x)
      long_refused name None named (flagged is finds) = absurd
          (flag_alone name is (named-alone x name (long-named x name None named)))
      long_refused name (Some v) named
          (flagged is finds) = flag_value_is_refused x name v name ends named finds false position (held rows pending)
      long_refused name None named (batched is finds) =
          absurd (differs (codes "--batch") no_batch
          (named-alone x name (long-named x name None named) ∙ ap (λ n. 45 ∷ 45 ∷ n) is))
      long_refused name (Some v) named (batched is finds) =
          absurd (batch_valued v
          (named-valued x name v (long-named x name (Some v) named) ∙ ap (λ n. 45 ∷ 45 ∷ (n ++ 61 ∷ v)) is))
      long_refused name v named (unknown finds) = unknown_is_refused x name v ends named finds false position
          (held rows pending)

      -- a word that begins with a dash, and is no option
      dashed_here : IsDashed x → Looks x → Outcome here (x ∷ ws) None
      dashed_here dashed (plain is) = subst (Outcome here (x ∷ ws)) (dashed_asks dashed) (word_here is)
      dashed_here dashed (short d is) = outcome-here here x ws None (is false position rows pending) refl
      dashed_here dashed (long name v named) = outcome-here here x ws None (long_refused name v named (long_of_name name)) refl

      plain_here : begins_with_a_dash x ≡ false → Looks x → Outcome here (x ∷ ws) (ask ws (on_free l (with_word x l)))
      plain_here e (plain is) = word_here is
      plain_here e (short d is) = let bad : begins_with_a_dash x ≡ true = dashed-begins x d in absurd (cc)
      plain_here e (long name v named) = let bad : begins_with_a_dash x ≡ true = dashed-begins x
          (named-dashed x name v (long-named x name v named)) in absurd (cc)

  is_word : (y : Text) → bytes_eq x y ≡ true → x ≡ y
  is_word y e = (bytes_eq-Decides x y).0 e

  any_here : (e b j c m v d : Bool) → bytes_eq x dashes ≡ e → bytes_eq x (codes "--batch") ≡ b
      → bytes_eq x (codes "--journal") ≡ j → bytes_eq x (codes "--counts") ≡ c
      → bytes_eq x (codes "--meaning") ≡ m → bytes_eq (take 8 x) batch_text ≡ v → begins_with_a_dash x ≡ d
      → Outcome here (x ∷ ws) (ask ws (if e then Some (free l true) else (if b then Some (waiting l) else on_free l
      (if j then with_journal l else
      (if c then with_counts l else
      (if m then with_meaning l else (if v then with_batch (drop 8 x) l else (if d then None else with_word x l))))))))
  any_here true b j c m v d ie ib ij ic im iv id = ends_here (is_word dashes ie)
  any_here false true j c m v d ie ib ij ic im iv id = waits_here ie (is_word (codes "--batch") ib)
  any_here false false true c m v d ie ib ij ic im iv id =
      flag_here ie (codes "journal") l.journal (record l { journal = true })
      (ap long_of (is_word (codes "--journal") ij)) refl (has_flag shown l shows (codes "journal") l.journal shows.journal)
      (shows_journal shown l shows) (placed_same l (record l { journal = true }) position refl refl placed)
  any_here false false false true m v d ie ib ij ic im iv id =
      flag_here ie (codes "counts") l.counts (record l { counts = true }) (ap long_of (is_word (codes "--counts") ic)) refl
      (has_flag shown l shows (codes "counts") l.counts shows.counts)
      (shows_counts shown l shows) (placed_same l (record l { counts = true }) position refl refl placed)
  any_here false false false false true v d ie ib ij ic im iv id =
      flag_here ie (codes "meaning") l.meaning (record l { meaning = true })
      (ap long_of (is_word (codes "--meaning") im)) refl (has_flag shown l shows (codes "meaning") l.meaning shows.meaning)
      (shows_meaning shown l shows) (placed_same l (record l { meaning = true }) position refl refl placed)
  any_here false false false false false true d ie ib ij ic im iv id = batch_here ie (drop 8 x) (is_some l.batch)
      (batch-front x iv) refl
  any_here false false false false false false true ie ib ij ic im iv id = dashed_here ie ij ic im ib iv
      (begins-dashed x id) (looks x ie)
  any_here false false false false false false false ie ib ij ic im iv id = plain_here ie ij ic im ib iv id (looks x ie)

free_more : (x : Text) (ws : List Text) → Free ws → Waits ws → Free (x ∷ ws)
free_more x ws rest waits rows pending shown l position true settles shows placed =
    place x ws rest rows pending shown l true settles shows (λ e. absurd (cc)) position placed
free_more x ws rest waits rows pending shown l position false settles shows placed =
    any_here x ws rest waits rows pending shown l position settles shows placed (bytes_eq x dashes)
    (bytes_eq x (codes "--batch")) (bytes_eq x (codes "--journal"))
    (bytes_eq x (codes "--counts")) (bytes_eq x (codes "--meaning")) (bytes_eq (take 8 x) batch_text)
    (begins_with_a_dash x) refl refl refl refl refl refl refl

pub both : (ws : List Text) → Free ws × Waits ws
both [] = (free_nil, waits_nil)
both (x ∷ ws) = let rest = both ws in (free_more x ws rest.0 rest.1, waits_more x ws rest.0)
