-- The names of errors as the keys of a set: what is asked of the keys is what is asked of their bytes.
use Rattle.std.proofs.Common.{◌≡◌, ◌∙◌, ℕ, suc, Bool, true, false, List, [], ◌∷◌, ◌++◌, length, refl, ap, sym}
use Rattle.std.specs.Prelude.{◌+◌, ◌||◌, if◌then◌else◌, cond, map, nat_lt, not, position, Some, None}
use Rattle.std.specs.List.{list_any, prefix_len}
use Rattle.std.specs.Str.{bytes_eq}
use Rattle.std.proofs.lemmas.Bool.Decides.{same_from_decides}
use Rattle.std.proofs.lemmas.Slice.Eq.{bytes_eq-Decides}
use Rattle.teapot_meaning.specs.Names.{noted}

pub bytes_eq_sym : (xs ys : List ℕ) → bytes_eq xs ys ≡ bytes_eq ys xs
bytes_eq_sym xs ys =
    let a = bytes_eq-Decides xs ys in
    let b = bytes_eq-Decides ys xs in
    same_from_decides _ _ a (λ e. sym (b.0 e), λ e. b.1 (sym e))

module _ {K : Type 0} (bytes : K → List ℕ) where
  any_key : (k : List ℕ) (keys : List K) → list_any (λ x. bytes_eq k (bytes x)) keys
      ≡ list_any (λ n. bytes_eq n k) (map bytes keys)
  any_key k [] = refl
  any_key k (x ∷ keys) = ap (λ b. b || list_any (λ y. bytes_eq k (bytes y)) keys) (bytes_eq_sym k (bytes x))
      ∙ ap (λ b. bytes_eq (bytes x) k || b) (any_key k keys)

  map_last : (keys : List K) (k : K) → map bytes (keys ++ k ∷ []) ≡ map bytes keys ++ bytes k ∷ []
  map_last [] k = refl
  map_last (x ∷ keys) k = ap (λ ns. bytes x ∷ ns) (map_last keys k)

  by_test : (b : Bool) (keys : List K) (k : K) → map bytes (if b then keys else keys ++ k ∷ [])
      ≡ (if b then map bytes keys else map bytes keys ++ bytes k ∷ [])
  by_test true keys k = refl
  by_test false keys k = map_last keys k

  -- one key more, where it is new
  pub key_noted : (keys : List K) (k : K) → map bytes (if list_any (λ x. bytes_eq (bytes k) (bytes x)) keys then keys else keys
      ++ k ∷ []) ≡ noted (map bytes keys) (bytes k)
  key_noted keys k = by_test (list_any (λ x. bytes_eq (bytes k) (bytes x)) keys) keys k
      ∙ ap (λ b. if b then map bytes keys else map bytes keys ++ bytes k ∷ []) (any_key (bytes k) keys)

  pub key_new : (keys : List K) (k : List ℕ) → list_any (λ x. bytes_eq k (bytes x)) keys
      ≡ list_any (λ n. bytes_eq n k) (map bytes keys)
  key_new keys k = any_key k keys

  key_prefix : (k : List ℕ) (keys : List K) → prefix_len (λ x. not (bytes_eq k (bytes x))) keys
      ≡ prefix_len (λ n. not (bytes_eq n k)) (map bytes keys)
  key_prefix k [] = refl
  key_prefix k (x ∷ keys) =
      ap (λ b. cond (not b) (1 + (prefix_len (λ y. not (bytes_eq k (bytes y))) keys)) 0) (bytes_eq_sym k (bytes x)) ∙
      ap (λ n. cond (not (bytes_eq (bytes x) k)) (1 + n) 0) (key_prefix k keys)

  key_count : (keys : List K) → length keys ≡ length (map bytes keys)
  key_count [] = refl
  key_count (x ∷ keys) = ap suc (key_count keys)

  -- the place of a key
  pub key_place : (k : List ℕ) (keys : List K) → position (λ x. bytes_eq k (bytes x)) keys
      ≡ position (λ n. bytes_eq n k) (map bytes keys)
  key_place k keys =
      ap (λ n. cond (nat_lt n (length keys)) (Some n) None) (key_prefix k keys) ∙
      ap (λ n. cond (nat_lt (prefix_len (λ y. not (bytes_eq y k)) (map bytes keys)) n)
      (Some (prefix_len (λ y. not (bytes_eq y k)) (map bytes keys))) None) (key_count keys)
