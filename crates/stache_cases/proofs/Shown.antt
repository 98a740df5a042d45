-- The rows of the code are those of the table.
use Rattle.std.proofs.Common.{◌≡◌, ◌∙◌, ◌++◌, ℕ, List, [], ap}
use Rattle.std.specs.Prelude.{codes}
use Rattle.std.specs.List.{slice_get}
use Rattle.std.specs.Option.{option_map}
use Rattle.std.proofs.lemmas.Option.{slice_get-map}
use Rattle.stache_table.specs.Numbered.{rows}
use Rattle.stache_cases.specs.declared.rows.TheConstants.{ROWS}
use Rattle.stache_cases.specs.Rows.{shown}
use Rattle.stache_cases.specs.Text.{rows_text, table_text}

pub row_at : (k : ℕ) → slice_get ROWS k ≡ option_map shown (slice_get rows k)
row_at k = slice_get-map shown rows k

-- a text that grew by the rows and the last line
pub whole_text : (start grown ended text : List ℕ) → start ≡ [] → grown ≡ start ++ rows_text ROWS →
    ended ≡ grown ++ codes "end\n" → text ≡ ended → text ≡ table_text
whole_text start grown ended text none by_rows by_end is =
    is ∙ by_end ∙ ap (λ l. l ++ codes "end\n") (by_rows ∙ ap (λ l. l ++ rows_text ROWS) none)
