-- Counts of bits kept beside words: how many events the words tell.
use Rattle.std.proofs.Common.{◌≡◌, ◌∙◌, ℕ, zero, suc, ◌+◌, ◌-◌, ◌*◌, ◌^◌, ◌<◌, ◌≤◌, List, [], ◌∷◌, ◌++◌, Option, length, get_or}
use Rattle.std.proofs.Common.{refl, sym, ap, subst, arith, count_ones}
use Rattle.std.specs.Prelude.{map, set, slice_get, slice_index, slice_set, sum, take}
use Rattle.std.specs.List.{All, sum_by}
use Rattle.std.proofs.lemmas.List.{get_or-map, length-map, length-set, map-append, map-set, take_all, take_more}
use Rattle.std.proofs.lemmas.List.Elements.{All-push, All-set}
use Rattle.std.proofs.lemmas.List.Sums.{get_or-le-sum_by, sum-map, sum_by-le, sum_by-set, sum_by_more}
use Rattle.event_masks.specs.Counted.{AreCounted}
use Rattle.tw_base.specs.declared.entry.Event.{Event}
use Rattle.event_masks.specs.Told.{told_at, told_below, told_events}
use Rattle.event_masks.proofs.Telling.{passed_node, picked, small_at, told_one_more}

-- few counts have a small sum
pub few_sum : (words counts : List ℕ) → length words ≤ 8 → counts ≡ map count_ones words → All (λ c. c ≤ 32) counts →
    sum counts < 2 ^ 32
few_sum words counts few is within =
    let size : length counts ≡ length words = ap (λ (cs : List ℕ). length cs) is ∙ length-map words count_ones in
    omega (arith, sum_by-le (λ x. x) 32 counts within, size, few)

pub count_at : (words counts : List ℕ) (i : ℕ) → counts ≡ map count_ones words → i < length words →
    slice_index counts i ≡ count_ones (slice_index words i)
count_at words counts i is l = ap (λ (cs : List ℕ). slice_index cs i) is ∙ get_or-map count_ones words i 0 0 l

-- the sum of the counts is small
pub few_total : (words ones : List ℕ) (all : ℕ) → AreCounted words ones all → all ≤ 256
few_total words ones all a =
    let size : length ones ≡ length words = ap (λ (cs : List ℕ). length cs) a.counts ∙ length-map words count_ones in
    omega (arith, sum_by-le (λ x. x) 32 ones a.within, size, a.few, a.total)

pub count_within : (words ones : List ℕ) (all i : ℕ) → AreCounted words ones all → i < length words → i < length ones
count_within words ones all i a l =
    let size : length ones ≡ length words = ap (λ (cs : List ℕ). length cs) a.counts ∙ length-map words count_ones in
    omega (arith, size, l)

-- the count of one word more
pub counts_more : (words counts now : List ℕ) (i count : ℕ) → i < length words →
    (counts ≡ map count_ones (take i words)) × All (λ c. c ≤ 32) counts → count ≡ count_ones (slice_index words i) → count ≤ 32 →
    now ≡ counts ++ count ∷ [] → (now ≡ map count_ones (take (i + 1) words)) × All (λ c. c ≤ 32) now
counts_more words counts now i count l so_far is low put = (
  put ∙ ap (λ (cs : List ℕ). cs ++ count ∷ []) so_far.0
      ∙ ap (λ c. map count_ones (take i words) ++ c ∷ []) is
      ∙ sym (ap (λ (ws : List ℕ). map count_ones ws) (take_more words i 0 l)
      ∙ map-append count_ones (take i words) (get_or words i 0 ∷ [])),
  subst (λ (cs : List ℕ). All (λ c. c ≤ 32) cs) (sym put) (All-push (λ c. c ≤ 32) counts count so_far.1 low),
)

-- what was read at a place
pub read_is : (xs : List ℕ) (i x : ℕ) → i < length xs → x ≡ get_or xs i x → x ≡ slice_index xs i
read_is [] i x l e = absurd (omega (arith, l))
read_is (y ∷ ys) zero x l e = e
read_is (y ∷ ys) (suc i) x l e = read_is ys i x (omega (arith, l)) e

-- ---- the steps of the walk

pub counted_picked : (words counts : List ℕ) (number node from k more : ℕ) (o : Option Event) → counts ≡ map count_ones words →
    number < length words → from ≡ number → node ≡ number → All (λ w. w < 2 ^ (2 + 2 * length words)) words →
    k ≡ length (told_below (length words) words number) + more → more < slice_index counts from →
    o ≡ slice_get (told_at (length words) node (slice_index words from)) more → o ≡ slice_get (told_events words) k
counted_picked words counts number node from k more o are l same here small is few at =
    let within : from < length words = subst (λ j. j < length words) (sym same) l in
    picked words number node from k more o l same here small is
    (subst (λ n. more < n) (count_at words counts from are within) few) at

pub counted_passed : (words counts : List ℕ) (number from k more : ℕ) → counts ≡ map count_ones words → number < length words →
    from ≡ number → All (λ w. w < 2 ^ (2 + 2 * length words)) words →
    k ≡ length (told_below (length words) words number) + more → slice_index counts from ≤ more →
    k ≡ length (told_below (length words) words (number + 1)) + (more - slice_index counts from)
counted_passed words counts number from k more are l same small is many =
    let within : from < length words = subst (λ j. j < length words) (sym same) l in
    let count : slice_index counts from ≡ count_ones (slice_index words from) = count_at words counts from are within in
    passed_node words number from k more l same small is (subst (λ n. n ≤ more) count many)
    ∙ ap (λ n. length (told_below (length words) words (number + 1)) + (more - n)) (sym count)

-- ---- another word

-- another word in the place of one, and its count in the place of that one's
pub counted_set : (words counts : List ℕ) (total i word count now : ℕ) → AreCounted words counts total → i < length words →
    count ≡ count_ones word → count ≤ 32 → now ≡ total - slice_index counts i + count →
    AreCounted (slice_set words i word) (slice_set counts i count) now
counted_set words counts total i word count now a l is low total_now =
    let size : length counts ≡ length words = ap (λ (cs : List ℕ). length cs) a.counts ∙ length-map words count_ones in
    let within : i < length counts = omega (arith, l, size) in
    let old : slice_index counts i ≤ sum counts = get_or-le-sum_by (λ x. x) counts i 0 within in
    let more : sum (set counts i count) + get_or counts i 0 ≡ sum counts + count = sum_by-set (λ x. x) counts i count 0 within in
    record {
      few = subst (λ k. k ≤ 8) (sym (length-set words i word)) a.few;
      counts = ap (λ (cs : List ℕ). set cs i count) a.counts ∙ ap (λ c. set (map count_ones words) i c) is
          ∙ sym (map-set count_ones words i word);
      within = All-set (λ c. c ≤ 32) counts i count low a.within;
      total = omega (arith, total_now, a.total, old, more);
    }

-- the sum of the counts is how many events the words tell
pub told_sum : (words : List ℕ) → All (λ w. w < 2 ^ (2 + 2 * length words)) words →
    length (told_events words) ≡ sum (map count_ones words)
told_sum words small =
    below (length words) (omega arith) ∙ ap (λ (ws : List ℕ). sum_by count_ones ws)
    (take_all (length words) words (omega arith)) ∙ sym (sum-map count_ones words)
  where
    below : (i : ℕ) → i ≤ length words → length (told_below (length words) words i) ≡ sum_by count_ones (take i words)
    below zero le = refl
    below (suc i) le =
        let l : i < length words = omega (arith, le) in
        let next : i + 1 ≡ suc i = omega arith in
        told_one_more (length words) i (slice_index words i) words refl (small_at words i l small)
        ∙ ap (λ k. k + count_ones (slice_index words i)) (below i (omega (arith, le)))
        ∙ sym (sum_by_more count_ones words i 0 l)
        ∙ ap (λ j. sum_by count_ones (take j words)) next
