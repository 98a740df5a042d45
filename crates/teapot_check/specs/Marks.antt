-- What tells most names apart.
use Rattle.std.specs.Prelude.{ℕ, ◌+◌, ◌*◌, ◌-◌, List, length, get_or}

-- the first byte, the last one and the length
abbrev pub mark_of : List ℕ → ℕ
mark_of bytes = get_or bytes 0 0 + 256 * get_or bytes (length bytes - 1) 0 + 65536 * length bytes
