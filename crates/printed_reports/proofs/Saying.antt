-- The lines of a report's events, one by one beside the entries that they were printed for.
use Rattle.std.proofs.Common.{◌≡◌, ℕ, suc, ◌+◌, Bool, true, false, List, [], ◌∷◌, length, map, refl, ap}
use Rattle.std.specs.List.{enumerate_from}
use Rattle.tw_base.specs.declared.entry.Entry.{Entry}
use Rattle.tw_lex.specs.declared.token.Line.{Line}
use Rattle.tw_lex.specs.declared.token.What.{What}
use Rattle.teapot_tree.specs.declared.protocol.Protocol.{Protocol}
use Rattle.report_reader.specs.declared.lines.PrintedLine.{PrintedLine}
use Rattle.report_reader.specs.Reading.{printed}
use Rattle.printed_lines.specs.Tokens.{entry_tokens, whats}
use Rattle.printed_reports.specs.Reports.{lines_if, said, told}

-- each line says what its entry did, which has this number
abbrev pub SayFrom : Protocol → ℕ → List Entry → List PrintedLine → Type 0
SayFrom p k [] [] = Unit {0}
SayFrom p k [] (l ∷ ls) = ⊥
SayFrom p k (e ∷ es) [] = ⊥
SayFrom p k (e ∷ es) (l ∷ ls) = (whats l.tokens ≡ entry_tokens p (k, e)) × SayFrom p (k + 1) es ls

pub say-each : (p : Protocol) (k : ℕ) (es : List Entry) (ls : List PrintedLine) → map told ls ≡ map (entry_tokens p)
    (enumerate_from k es) → SayFrom p k es ls
say-each p k [] [] e = tt
say-each p k [] (l ∷ ls) e = absurd cc
say-each p k (x ∷ es) [] e = absurd cc
say-each p k (x ∷ es) (l ∷ ls) e =
    let one : told l ≡ entry_tokens p (k, x) = cc in
    let more : map told ls ≡ map (entry_tokens p) (enumerate_from (k + 1) es) = cc in
    (one, say-each p (k + 1) es ls more)

pub say-length : (p : Protocol) (k : ℕ) (es : List Entry) (ls : List PrintedLine) → SayFrom p k es ls → length ls ≡ length es
say-length p k [] [] h = refl
say-length p k [] (l ∷ ls) h = absurd h
say-length p k (e ∷ es) [] h = absurd h
say-length p k (e ∷ es) (l ∷ ls) (h, hs) = ap suc (say-length p (k + 1) es ls hs)

-- ---- lines that are read

pub printed-said : (ls : List Line) → map told (printed ls) ≡ map said ls
printed-said [] = refl
printed-said (l ∷ ls) = ap (λ ws. said l ∷ ws) (printed-said ls)

pub asked-lines : (asked : Bool) (lines : List (List What)) → asked ≡ true → lines_if asked lines ≡ lines
asked-lines true lines e = refl
asked-lines false lines e = absurd cc
