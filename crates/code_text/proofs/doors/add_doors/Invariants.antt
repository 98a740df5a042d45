use Rattle.std.proofs.Common.{◌≡◌, ◌++◌, take}
use Rattle.std.specs.List.{flat_map, enumerate_from}
use Rattle.code_text.specs.Texts.{door_text}
use Rattle.code_text.proofs.doors.add_doors.Given as goal

abbrev pub invariant-loop-number : goal.invariant-loop-number
invariant-loop-number l =
    l.out ≡ l.initial.out ++ flat_map (door_text l.names.protocol.now l.code) (enumerate_from 0 (take l.number l.doors))
