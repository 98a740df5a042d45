-- The walk that merges logs: at each step the log whose next entry comes first gives it.
use Rattle.std.specs.Prelude.{ℕ, zero, suc, ◌+◌, nat_lt, if◌then◌else◌, List, [], Option, Some, None, slice_get, slice_index}
use Rattle.std.specs.Prelude.{slice_set}
use Rattle.std.specs.List.{slice_index_or}
use Rattle.std.specs.Option.{option_map}
use Rattle.tw_base.specs.declared.entry.Entry.{Entry}

-- by node
abbrev pub log_at : List (List Entry) → ℕ → List Entry
log_at logs i = slice_index_or logs i []

abbrev pub next_stamp : List Entry → ℕ → Option ℕ
next_stamp log place = option_map (λ e. e.stamp) (slice_get log place)

-- by node, where the places are those of the next entries
abbrev pub stamps_of : List (List Entry) → List ℕ → ℕ → Option ℕ
stamps_of logs places i = next_stamp (log_at logs i) (slice_index places i)

-- the places, with the next one at node i
abbrev pub moved : List ℕ → ℕ → List ℕ
moved places i = slice_set places i (slice_index places i + 1)

-- the first of a node with a stamp and another, which is behind it at equal stamps
abbrev pub sooner : Option (ℕ × ℕ) → ℕ → Option ℕ → Option (ℕ × ℕ)
sooner first node None = first
sooner None node (Some stamp) = Some (node, stamp)
sooner (Some p) node (Some stamp) = if nat_lt stamp p.1 then Some (node, stamp) else Some p

-- the first of n nodes, and its stamp
abbrev pub first_of : ℕ → (ℕ → Option ℕ) → Option (ℕ × ℕ)
first_of zero stamps = None
first_of (suc n) stamps = sooner (first_of n stamps) n (stamps n)
