-- The turns of the loops over lines.
use Rattle.std.proofs.Common.{◌≡◌, ℕ, ◌+◌, ◌<◌, ◌≤◌, List, [], ◌∷◌, ◌++◌, length, get_or, drop, map, Option, Some, None, Result}
use Rattle.std.proofs.Common.{Ok, Err, refl, ap, sym, ◌∙◌, append_assoc, append-nil}
use Rattle.std.proofs.lemmas.List.{drop_more, drop_all}
use Rattle.tw_base.specs.Answers.{◌>>=◌}
use Rattle.tw_lex.specs.declared.token.Line.{Line}
use Rattle.teapot_lines.specs.declared.cut.Cut.{Cut}
use Rattle.teapot_lines.specs.declared.form.Form.{Form}
use Rattle.teapot_lines.specs.Seen.{seen}
use Rattle.teapot_lines.specs.declared.parts.ReadError.{ReadError}
use Rattle.teapot_lines.specs.declared.parts.ReadError.TheVariants.{Bad, Memory}
use Rattle.teapot_lines.specs.Parts.{Misses}
use Rattle.teapot_lines.specs.Lines.{form_of}
use Rattle.teapot_parse.specs.declared.build.Parts.{Parts}
use Rattle.teapot_parse.specs.declared.count.Counts.{Counts}
use Rattle.teapot_parse.specs.declared.count.Many.{Many}
use Rattle.teapot_parse.specs.declared.reading.ParseError.{ParseError}
use Rattle.teapot_parse.specs.declared.reading.ParseError.TheVariants.{BadLine}
use Rattle.teapot_parse.specs.declared.placed.Placed.{Placed}
use Rattle.teapot_parse.specs.Parsing.{forms_read}
use Rattle.teapot_parse.specs.Counting.{counted, over, first_over}
use Rattle.teapot_parse.specs.Building.{built_on, with_line}

-- an item, and those behind it
pub item-first : {X : Type 0} (xs : List X) (at : ℕ) (x : X) → at < length xs → x ≡ get_or xs at x →
    drop at xs ≡ x ∷ drop (at + 1) xs
item-first xs at x lt is = drop_more xs at x lt ∙ ap (λ y. y ∷ drop (at + 1) xs) (sym is)

-- ---- from the last line on

pub built-last : (s : Parts) (ps : List Placed) (p : Placed) → built_on s (ps ++ p ∷ []) ≡ built_on (with_line p.line p.form s) ps
unfolding built_on
built-last s [] p = refl
built-last s (q ∷ ps) p = ap (with_line q.line q.form) (built-last s ps p)

-- ---- the forms

abbrev pub after_forms : List Placed → Result (List Placed) ParseError → Result (List Placed) ParseError
after_forms done r = r >>= λ ps. Ok (done ++ ps)

regroup : (done : List Placed) (p : Placed) (r : Result (List Placed) ParseError) →
    after_forms done (r >>= λ ps. Ok (p ∷ ps)) ≡ after_forms (done ++ p ∷ []) r
regroup done p (Ok ps) = ap Ok (sym (append_assoc done (p ∷ []) ps))
regroup done p (Err e) = refl

pub bad-misses : {Y : Type 0} (e : ReadError) (due : Option Y) → e ≡ Bad → Misses e due → due ≡ None
bad-misses Bad due is h = h
bad-misses Memory due is h = absurd cc

pub forms-on : (profile : ℕ) (x : Line) (rest : List Line) (form : Form Cut) (done : List Placed)
    (all : Result (List Placed) ParseError) → form_of profile (map (seen profile) x.tokens) ≡ Some form
    → after_forms done (forms_read profile (x ∷ rest)) ≡ all
    → after_forms (done ++ record { line = x.number; form = form } ∷ []) (forms_read profile rest) ≡ all
unfolding forms_read
forms-on profile x rest form done all is so_far =
    let one : forms_read profile (x ∷ rest)
    ≡ (forms_read profile rest >>= λ ps. Ok (record { line = x.number; form = form } ∷ ps)) = rw is refl in
    sym (regroup done (record { line = x.number; form = form }) (forms_read profile rest)) ∙ ap (after_forms done) (sym one)
    ∙ so_far

pub forms-bad : (profile : ℕ) (x : Line) (rest : List Line) (done : List Placed) (all : Result (List Placed) ParseError)
    → form_of profile (map (seen profile) x.tokens) ≡ None → after_forms done (forms_read profile (x ∷ rest)) ≡ all →
    all ≡ Err (BadLine x.number)
unfolding forms_read
forms-bad profile x rest done all is so_far =
    let one : forms_read profile (x ∷ rest) ≡ Err (BadLine x.number) = rw is refl in
    sym so_far ∙ ap (after_forms done) one

pub forms-end : (profile : ℕ) (done : List Placed) (all : Result (List Placed) ParseError) →
    after_forms done (forms_read profile []) ≡ all → all ≡ Ok done
unfolding forms_read
forms-end profile done all so_far = sym so_far ∙ ap Ok (append-nil done)

-- ---- the counts

pub over-on : (ps : List Placed) (at : ℕ) (x : Placed) (c : Counts) (all : Option (Many × ℕ)) → at < length ps →
    x ≡ get_or ps at x → over (counted c x.form) x.form ≡ None
    → first_over c (drop at ps) ≡ all → first_over (counted c x.form) (drop (at + 1) ps) ≡ all
unfolding first_over
over-on ps at x c all lt item is so_far =
    let one : first_over c (x ∷ drop (at + 1) ps) ≡ first_over (counted c x.form) (drop (at + 1) ps) = rw is refl in
    sym one ∙ ap (first_over c) (sym (item-first ps at x lt item)) ∙ so_far

pub over-here : (ps : List Placed) (at : ℕ) (x : Placed) (c : Counts) (what : Many) (all : Option (Many × ℕ)) →
    at < length ps → x ≡ get_or ps at x → over (counted c x.form) x.form ≡ Some what
    → first_over c (drop at ps) ≡ all → all ≡ Some (what, x.line)
unfolding first_over
over-here ps at x c what all lt item is so_far =
    let one : first_over c (x ∷ drop (at + 1) ps) ≡ Some (what, x.line) = rw is refl in
    sym so_far ∙ ap (first_over c) (item-first ps at x lt item) ∙ one

pub over-end : (ps : List Placed) (at : ℕ) (c : Counts) (all : Option (Many × ℕ)) → length ps ≤ at →
    first_over c (drop at ps) ≡ all → all ≡ None
unfolding first_over
over-end ps at c all le so_far = sym so_far ∙ ap (first_over c) (drop_all at ps le)
