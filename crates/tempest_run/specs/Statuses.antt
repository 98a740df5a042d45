-- The exit statuses of the program.
use Rattle.std.specs.Prelude.{ℕ}
use Rattle.tempest_run.specs.declared.status.Status.{Status}
use Rattle.tempest_run.specs.declared.status.Status.TheVariants.{Done, Memory, Usage, ReadFault, WriteFault, TooLong, Refused}
use Rattle.tempest_run.specs.declared.status.Status.TheVariants.{Denied, Unfinished}

abbrev pub code_of : Status → ℕ
code_of Done = 0
code_of Memory = 1
code_of Usage = 2
code_of ReadFault = 3
code_of WriteFault = 4
code_of TooLong = 5
code_of Refused = 6
code_of Denied = 7
code_of Unfinished = 8
