-- The rows of the table as the code has them.
use Rattle.std.specs.Option.{option_map}
use Rattle.stache_table.specs.Blocks.{kind_of, number_of}
use Rattle.stache_table.specs.Numbered as numbered
use Rattle.stache_table.specs.Numbered.{TableRow}
use Rattle.stache_cases.specs.declared.rows.Does.{Does}
use Rattle.stache_cases.specs.declared.rows.Does.TheVariants as does
use Rattle.stache_cases.specs.declared.rows.StacheRow.{StacheRow}
use Rattle.stache_cases.specs.declared.rows.When.{When}
use Rattle.stache_cases.specs.declared.rows.When.TheVariants as whens

abbrev pub when_shown : numbered.When → When
when_shown numbered.Always = whens.Always
when_shown numbered.Others = whens.Others
when_shown numbered.Alone = whens.Alone
when_shown numbered.More = whens.More
when_shown numbered.LastHome = whens.LastHome
when_shown numbered.LastRw = whens.LastRw
when_shown numbered.HomeAsks = whens.Home
when_shown numbered.RoAsks = whens.Ro
when_shown numbered.RwAsks = whens.Rw

abbrev pub does_shown : numbered.Does → Does
does_shown numbered.DataRoToSrc = does.DataRoToSrc
does_shown numbered.DataRwToSrc = does.DataRwToSrc
does_shown numbered.DataRoToAsker = does.DataRoToAsker
does_shown numbered.DataRwToAsker = does.DataRwToAsker
does_shown numbered.Wakes = does.Wake
does_shown numbered.InvToSharers = does.InvToSharers
does_shown numbered.InvToOthers = does.InvToOthers
does_shown numbered.RecallToOwner = does.RecallToOwner
does_shown numbered.GetRoToHome = does.GetRoToHome
does_shown numbered.GetRwToHome = does.GetRwToHome
does_shown numbered.AckToSrc = does.AckToSrc
does_shown numbered.PutToSrc = does.PutToSrc
does_shown numbered.Defers = does.Defer
does_shown numbered.Nothing = does.Nothing

-- states and messages by their numbers in the protocol
abbrev pub shown : TableRow → StacheRow
shown r = record {
  state = number_of r.state;
  on = option_map kind_of r.on;
  when = when_shown r.when;
  goes = number_of r.goes;
  tag = r.tag;
  does = does_shown r.does;
}
