-- A line with a word that begins with a dash where a command, a number or a batch is due: it asks for nothing, whatever follows.
use Rattle.std.proofs.Common.{◌≡◌, ℕ, Bool, true, false, List, [], ◌∷◌, Option, Some, None, is_some, if◌then◌else◌, refl, sym}
use Rattle.std.proofs.Common.{ap, ◌∙◌, codes}
use Rattle.std.specs.Prelude.{take, drop}
use Rattle.std.specs.Option.{option_map}
use Rattle.std.specs.Str.{bytes_eq}
use Rattle.tw_base.specs.Answers.{◌>>?◌}
use Rattle.tempest_words.specs.declared.request.Asked.{Asked}
use Rattle.tempest_words.specs.declared.request.Command.{Command}
use Rattle.tempest_words.specs.Lines.{Line, Read, begins_with_a_dash, line_of, next, on_line, place_word, with_batch}
use Rattle.tempest_words.specs.Lines.{with_counts, with_journal, with_meaning, with_option, with_word, words_read}
use Rattle.tempest_words.specs.Words.{asked_by, batch_of, command_by, command_of, number_of, numbered_command, with_options}
use Rattle.tempest_words.proofs.Settling.{asked_from}

pub data Fails (l : Line) : Type 0 where
  command : (bs : List ℕ) → l.command ≡ Some (45 ∷ bs) → Fails l
  number : (bs : List ℕ) → l.number ≡ Some (45 ∷ bs) → Fails l
  batch : (bs : List ℕ) → l.batch ≡ Some (45 ∷ bs) → Fails l

-- ---- it asks for nothing

dash_command : (bs : List ℕ) (n : Option (List ℕ)) → command_by (45 ∷ bs) n ≡ None
dash_command bs None = refl
dash_command bs (Some n) = go (number_of n)
  where
    go : (o : Option ℕ) → (o >>? numbered_command (45 ∷ bs)) ≡ None
    go None = refl
    go (Some m) = refl

dash_number : (bs : List ℕ) (o : Option (List ℕ)) → (o >>? λ w. command_by w (Some (45 ∷ bs))) ≡ None
dash_number bs None = refl
dash_number bs (Some w) = refl

abbrev asked_of : Line → Option Command → Option Asked
asked_of l o = o >>? λ c. batch_of l.batch >>? with_options l c

dash_batch : (l : Line) (bs : List ℕ) (o : Option Command) → (o >>? λ c. batch_of (Some (45 ∷ bs)) >>? with_options l c) ≡ None
dash_batch l bs None = refl
dash_batch l bs (Some c) = refl

pub fails-asked : (l : Line) → Fails l → asked_by l ≡ None
fails-asked l (command bs e) = ap (λ o. asked_of l (o >>? λ w. command_by w l.number)) e
    ∙ ap (asked_of l) (dash_command bs l.number)
fails-asked l (number bs e) = ap (λ n. asked_of l (l.command >>? λ w. command_by w n)) e
    ∙ ap (asked_of l) (dash_number bs l.command)
fails-asked l (batch bs e) = ap (λ b. command_of l >>? λ c. batch_of b >>? with_options l c) e ∙ dash_batch l bs (command_of l)

-- ---- a word more

abbrev LineFails : Option Line → Type 0
LineFails None = Unit {0}
LineFails (Some l) = Fails l

abbrev ReadFails : Option Read → Type 0
ReadFails None = Unit {0}
ReadFails (Some r) = Fails r.line

same_fails : (l m : Line) → m.command ≡ l.command → m.number ≡ l.number → m.batch ≡ l.batch → Fails l → Fails m
same_fails l m c n b (command bs e) = command bs (c ∙ e)
same_fails l m c n b (number bs e) = number bs (n ∙ e)
same_fails l m c n b (batch bs e) = batch bs (b ∙ e)

once_fails : (set : Bool) (m : Line) → Fails m → LineFails (if set then None else Some m)
once_fails true m f = tt
once_fails false m f = f

batch_fails : (w : List ℕ) (l : Line) → Fails l → LineFails (with_batch w l)
batch_fails w l (command bs e) = once_fails (is_some l.batch) (record l { batch = Some w }) (command bs e)
batch_fails w l (number bs e) = once_fails (is_some l.batch) (record l { batch = Some w }) (number bs e)
batch_fails w l (batch bs e) = go l.batch e
  where
    go : (o : Option (List ℕ)) → o ≡ Some (45 ∷ bs) → LineFails (if is_some o then None else Some (record l { batch = Some w }))
    go None is = absurd (cc)
    go (Some b) is = tt

word_fails : (w : List ℕ) (l : Line) → Fails l → LineFails (with_word w l)
word_fails w l f = go l.command l.number refl refl f
  where
    go : (c n : Option (List ℕ)) → l.command ≡ c → l.number ≡ n → Fails l → LineFails (place_word c n w l)
    go None n ec en (command bs e) = let bad : None ≡ Some (45 ∷ bs) = sym ec ∙ e in absurd (cc)
    go None n ec en (number bs e) = number bs e
    go None n ec en (batch bs e) = batch bs e
    go (Some c) None ec en (command bs e) = command bs e
    go (Some c) None ec en (number bs e) = let bad : None ≡ Some (45 ∷ bs) = sym en ∙ e in absurd (cc)
    go (Some c) None ec en (batch bs e) = batch bs e
    go (Some c) (Some n) ec en f = tt

option_fails : (w : List ℕ) (l : Line) → Fails l → LineFails (with_option w l)
option_fails w l f =
    go (bytes_eq w (codes "--journal")) (bytes_eq w (codes "--counts")) (bytes_eq w (codes "--meaning"))
    (bytes_eq (take 8 w) (codes "--batch=")) (begins_with_a_dash w)
  where
    go : (j c m b d : Bool)
        → LineFails (if j then with_journal l else
        (if c then with_counts l else
        (if m then with_meaning l else (if b then with_batch (drop 8 w) l else (if d then None else with_word w l)))))
    go true c m b d = once_fails l.journal (record l { journal = true })
        (same_fails l (record l { journal = true }) refl refl refl f)
    go false true m b d = once_fails l.counts (record l { counts = true })
        (same_fails l (record l { counts = true }) refl refl refl f)
    go false false true b d = once_fails l.meaning (record l { meaning = true })
        (same_fails l (record l { meaning = true }) refl refl refl f)
    go false false false true d = batch_fails (drop 8 w) l f
    go false false false false true = tt
    go false false false false false = word_fails w l f

on_line_fails : (r : Read) (o : Option Line) → LineFails o → ReadFails (option_map (λ l. record r { line = l }) o)
on_line_fails r None f = tt
on_line_fails r (Some l) f = f

next_fails : (w : List ℕ) (r : Read) → Fails r.line → ReadFails (next w r)
next_fails w r f = go r.awaits r.ended (bytes_eq w (codes "--")) (bytes_eq w (codes "--batch"))
  where
    go : (a e d b : Bool)
        → ReadFails (if a then on_line (with_batch w) (record r { awaits = false }) else (if e then on_line (with_word w) r
        else (if d then Some (record r { ended = true }) else
        (if b then Some (record r { awaits = true }) else on_line (with_option w) r))))
    go true e d b = on_line_fails (record r { awaits = false }) (with_batch w r.line) (batch_fails w r.line f)
    go false true d b = on_line_fails r (with_word w r.line) (word_fails w r.line f)
    go false false true b = f
    go false false false true = f
    go false false false false = on_line_fails r (with_option w r.line) (option_fails w r.line f)

last_fails : (r : Read) → Fails r.line → (line_of r >>? asked_by) ≡ None
last_fails r f = go r.awaits
  where
    go : (a : Bool) → ((if a then None else Some r.line) >>? asked_by) ≡ None
    go true = refl
    go false = fails-asked r.line f

pub fails-from : (ws : List (List ℕ)) (r : Read) → Fails r.line → asked_from r ws ≡ None
fails-from [] r f = last_fails r f
fails-from (w ∷ ws) r f = go (next w r) (next_fails w r f) (fails-from ws)
  where
    go : (o : Option Read) → ReadFails o → ((q : Read) → Fails q.line → asked_from q ws ≡ None)
        → (o >>? λ q. words_read q ws) >>? line_of >>? asked_by ≡ None
    go None f rest = refl
    go (Some q) f rest = rest q f
