-- The text of the table.
use Rattle.std.specs.Prelude.{ℕ, codes, map, List, [], ◌∷◌, ◌++◌, Option, Some, None}
use Rattle.std.specs.Fmt.{decimal}
use Rattle.std.specs.List.{flat_map, enumerate_from}
use Rattle.tw_base.specs.declared.message.Kind.{Kind}
use Rattle.printed_text.specs.Lines.{line}
use Rattle.printed_text.specs.Names.{kind_name, state_name, tag_text}
use Rattle.stache_tree.specs.Tree.{stache}
use Rattle.stache_table.specs.Numbered.{rows}
use Rattle.stache_cases.specs.declared.rows.Does.{Does}
use Rattle.stache_cases.specs.declared.rows.Does.TheVariants as does
use Rattle.stache_cases.specs.declared.rows.StacheRow.{StacheRow}
use Rattle.stache_cases.specs.declared.rows.When.{When}
use Rattle.stache_cases.specs.declared.rows.When.TheVariants as whens
use Rattle.stache_cases.specs.Rows.{shown}

-- a fault or a message of the protocol; any that has no row of its own is `other`
abbrev pub trigger_text : Option Kind → List ℕ
trigger_text (Some k) = kind_name stache k
trigger_text None = codes "other"

abbrev pub when_text : When → List ℕ
when_text whens.Always = codes "always"
when_text whens.Others = codes "others"
when_text whens.Alone = codes "alone"
when_text whens.More = codes "more"
when_text whens.LastHome = codes "last_home"
when_text whens.LastRw = codes "last_rw"
when_text whens.Home = codes "home"
when_text whens.Ro = codes "ro"
when_text whens.Rw = codes "rw"

abbrev pub does_text : Does → List ℕ
does_text does.DataRoToSrc = codes "data_ro_to_src"
does_text does.DataRwToSrc = codes "data_rw_to_src"
does_text does.DataRoToAsker = codes "data_ro_to_asker"
does_text does.DataRwToAsker = codes "data_rw_to_asker"
does_text does.Wake = codes "wake"
does_text does.InvToSharers = codes "inv_to_sharers"
does_text does.InvToOthers = codes "inv_to_others"
does_text does.RecallToOwner = codes "recall_to_owner"
does_text does.GetRoToHome = codes "get_ro_to_home"
does_text does.GetRwToHome = codes "get_rw_to_home"
does_text does.AckToSrc = codes "ack_to_src"
does_text does.PutToSrc = codes "put_to_src"
does_text does.Defer = codes "defer"
does_text does.Nothing = codes "nothing"

-- a row with its number
abbrev pub row_line : ℕ → StacheRow → List ℕ
row_line k r =
    line (codes "row" ∷ decimal k ∷ state_name stache r.state ∷ trigger_text r.on ∷ when_text r.when
    ∷ codes "goes" ∷ state_name stache r.goes ∷ codes "tag" ∷ tag_text r.tag ∷ codes "does" ∷ does_text r.does ∷ [])

abbrev pub rows_text : List StacheRow → List ℕ
rows_text rs = flat_map (λ q. row_line q.0 q.1) (enumerate_from 0 rs)

-- row after row, and a last line
abbrev pub table_text : List ℕ
table_text = rows_text (map shown rows) ++ line (codes "end" ∷ [])
