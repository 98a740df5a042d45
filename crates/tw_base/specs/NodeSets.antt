-- A set of nodes is eight truth values, one for each node number: whether it is a member.
use Rattle.std.specs.Prelude.{ℕ, zero, suc, ◌+◌, ◌*◌, ◌/◌, ◌%◌, ◌==◌, Bool, true, false, List, [], ◌∷◌, replicate, slice_get}
use Rattle.std.specs.Prelude.{slice_set, unwrap_or}
use Rattle.tw_base.specs.Lists.{one_if, sum_below}

unfoldable pub empty : List Bool
empty = replicate 8 false

unfoldable pub has : List Bool → ℕ → Bool
has s node = unwrap_or (slice_get s node) false

unfoldable pub with : List Bool → ℕ → List Bool
with s node = slice_set s node true

unfoldable pub without : List Bool → ℕ → List Bool
without s node = slice_set s node false

abbrev pub one : ℕ → List Bool
one node = with empty node

-- how many of the nodes are members
unfoldable pub count : List Bool → ℕ
count s = sum_below 8 (λ node. one_if (has s node))

abbrev pub members_from : ℕ → List Bool → List ℕ
members_from node [] = []
members_from node (true ∷ s) = node ∷ members_from (suc node) s
members_from node (false ∷ s) = members_from (suc node) s

-- the members in rising order
unfoldable pub members : List Bool → List ℕ
members s = members_from 0 s

-- ---- as bits of a byte

abbrev pub is_odd : ℕ → Bool
is_odd n = n % 2 == 1

-- the k lowest bits
abbrev pub tests_of : ℕ → ℕ → List Bool
tests_of zero bits = []
tests_of (suc k) bits = is_odd bits ∷ tests_of k (bits / 2)

abbrev pub bits_of : List Bool → ℕ
bits_of [] = 0
bits_of (b ∷ bs) = one_if b + 2 * bits_of bs
