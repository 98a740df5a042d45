-- A source and a sink in memory, as their callers see them. Their calls are numbered from 1, and chosen ones fail.
use Rattle.std.specs.Prelude.{ℕ, ◌+◌, ◌-◌, ◌^◌, ◌==◌, ◌||◌, min, Bool, List, ◌++◌, length, take, drop, Result, Ok, Err}
use Rattle.std.specs.List.{list_any}

-- The bytes still to come, how many come at most at a call, the numbers of the calls that fail, how many calls there
-- were, and how many of them failed.
pub record Supply : Type 0 where
  pub left : List ℕ
  pub piece : ℕ
  pub fails : List ℕ
  pub calls : ℕ
  pub faults : ℕ

-- The bytes that it was given, how many it has room for, and the rest as for a source.
pub record Intake : Type 0 where
  pub written : List ℕ
  pub room : ℕ
  pub piece : ℕ
  pub fails : List ℕ
  pub calls : ℕ
  pub faults : ℕ

-- one more, up to the last number that a counter holds
abbrev pub counted : ℕ → ℕ
counted n = min (n + 1) (2 ^ 64 - 1)

-- whether the call after so many is one of those that fail
abbrev pub is_chosen : ℕ → List ℕ → Bool
is_chosen calls fails = list_any (λ call. call == counted calls) fails

abbrev pub read_fails : Supply → Bool
read_fails s = is_chosen s.calls s.fails

-- how many bytes a read into a buffer of this length gives
abbrev pub read_count : Supply → ℕ → ℕ
read_count s len = min (length s.left) (min s.piece len)

abbrev pub after_read : {E : Type 0} → Supply → Result ℕ E → Supply
after_read s (Ok count) = record s { left = drop count s.left; calls = counted s.calls }
after_read s (Err e) = record s { calls = counted s.calls; faults = counted s.faults }

abbrev pub room_left : Intake → ℕ
room_left k = k.room - length k.written

-- a full sink fails at each call
abbrev pub write_fails : Intake → Bool
write_fails k = (room_left k == 0) || is_chosen k.calls k.fails

-- how many bytes of a piece of this length a write takes
abbrev pub write_count : Intake → ℕ → ℕ
write_count k len = min len (min k.piece (room_left k))

abbrev pub after_write : {E : Type 0} → Intake → Result ℕ E → List ℕ → Intake
after_write k (Ok count) bytes = record k { written = k.written ++ take count bytes; calls = counted k.calls }
after_write k (Err e) bytes = record k { calls = counted k.calls; faults = counted k.faults }
