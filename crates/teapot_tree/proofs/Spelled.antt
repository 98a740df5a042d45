-- The tables of keywords, one after the other.
use Rattle.std.proofs.Common.{◌≡◌, ℕ, ◌+◌, ◌<◌, ◌==◌, Bool, true, false, ◌&&◌, codes, List, [], ◌∷◌, ◌++◌, length, map, drop}
use Rattle.std.proofs.Common.{get_or, Option, Some, None, if◌then◌else◌, Bor, refl, ap, sym, subst, ◌∙◌, slice_get}
use Rattle.std.proofs.lemmas.List.{at_drop_more}
use Rattle.std.proofs.lemmas.Option.{none-some}
use Rattle.std.proofs.lemmas.Slice.Eq.{bytes_eq-Decides}
use Rattle.std.specs.Str.{bytes_eq}
use Rattle.std.specs.Option.{option_or}
use Rattle.teapot_tree.specs.declared.keyword.Keyword.{Keyword}
use Rattle.teapot_tree.specs.declared.keyword.Keyword.TheVariants.{ForEach}
use Rattle.teapot_tree.specs.Keywords.{heading_words, statement_words, type_words, value_words, other_words, spelled}
use Rattle.teapot_tree.specs.Keywords.{common_words, begins, beginning, with_letter, keyword_of}

-- an entry before others
entry : (b : Bool) (key : Keyword) (o p q : Option Keyword) → o ≡ option_or p q →
    (if b then Some key else o) ≡ option_or (if b then Some key else p) q
entry true key o p q e = refl
entry false key o p q e = e

spelled_or : (ws : List (List ℕ × Keyword)) (word : List ℕ) (other : Option Keyword) →
    spelled ws word other ≡ option_or (spelled ws word None) other
spelled_or [] word other = refl
spelled_or (w ∷ ws) word other = entry (bytes_eq word w.0) w.1 _ _ other (spelled_or ws word other)

abbrev pub read : Bor (List ℕ) × Keyword → List ℕ × Keyword
read e = (e.0.now, e.1)

-- the rest of a table of references, an entry at a time
pub at_entry : (xs : List (Bor (List ℕ) × Keyword)) (i : ℕ) (d : Bor (List ℕ) × Keyword) (word : List ℕ) (b : Bool) →
    i < length xs → b ≡ bytes_eq word (get_or xs i d).0.now →
    spelled (map read (drop i xs)) word None ≡ (if b then Some (get_or xs i d).1
    else spelled (map read (drop (i + 1) xs)) word None)
at_entry xs i d word b h e =
    at_drop_more (λ (l : List (Bor (List ℕ) × Keyword)). spelled (map read l) word None) xs i d h
    ∙ ap (λ (z : Bool). if z then Some (get_or xs i d).1 else spelled (map read (drop (i + 1) xs)) word None) (sym e)

-- a table before another
spelled_append : (ws vs : List (List ℕ × Keyword)) (word : List ℕ) →
    spelled (ws ++ vs) word None ≡ option_or (spelled ws word None) (spelled vs word None)
spelled_append [] vs word = refl
spelled_append (w ∷ ws) vs word = entry (bytes_eq word w.0) w.1 _ _ _ (spelled_append ws vs word)

-- a word that begins with another letter is not the entry's
other_letter : (letter : ℕ) (bs word : List ℕ) → begins letter word ≡ false → bytes_eq (letter ∷ bs) word ≡ false
other_letter letter bs [] e = refl
other_letter letter bs (b ∷ word) e = ap (λ t. t && bytes_eq bs word) e

begins_as : (letter : ℕ) (bs : List ℕ) (w : List ℕ × Keyword) (ws vs : List (List ℕ × Keyword)) (t : Bool) →
    begins letter w.0 ≡ t → spelled vs (letter ∷ bs) None ≡ spelled ws (letter ∷ bs) None →
    spelled ((if t then w ∷ [] else []) ++ vs) (letter ∷ bs) None ≡ spelled (w ∷ ws) (letter ∷ bs) None
begins_as letter bs w ws vs true e same = ap (λ o. if bytes_eq (letter ∷ bs) w.0 then Some w.1 else o) same
begins_as letter bs w ws vs false e same = same ∙ ap (λ t. if t then Some w.1 else spelled ws (letter ∷ bs) None)
    (sym (other_letter letter bs w.0 e))

-- of a table, the entries that begin as the word does
spelled_beginning : (letter : ℕ) (bs : List ℕ) (ws : List (List ℕ × Keyword)) →
    spelled (beginning letter ws) (letter ∷ bs) None ≡ spelled ws (letter ∷ bs) None
spelled_beginning letter bs [] = refl
spelled_beginning letter bs (w ∷ ws) = begins_as letter bs w ws (beginning letter ws) (begins letter w.0) refl
    (spelled_beginning letter bs ws)

tables : (word : List ℕ) → spelled common_words word None ≡ spelled heading_words word
    (spelled statement_words word (spelled type_words word (spelled value_words word (spelled other_words word None))))
tables word =
    spelled_append heading_words (statement_words ++ type_words ++ value_words ++ other_words) word
    ∙ ap (option_or (spelled heading_words word None)) (spelled_append statement_words
    (type_words ++ value_words ++ other_words) word
    ∙ ap (option_or (spelled statement_words word None)) (spelled_append type_words (value_words ++ other_words) word
    ∙ ap (option_or (spelled type_words word None)) (spelled_append value_words other_words word
    ∙ sym (spelled_or value_words word _))
    ∙ sym (spelled_or type_words word _))
    ∙ sym (spelled_or statement_words word _))
    ∙ sym (spelled_or heading_words word _)

or_none : (o : Option Keyword) → option_or o None ≡ o
or_none None = refl
or_none (Some k) = refl

is_loop : (word : List ℕ) → word ≡ codes "ForEach" → spelled heading_words word (spelled statement_words word (Some ForEach))
    ≡ option_or (spelled common_words word None) (Some ForEach)
is_loop word e = subst (λ w. spelled heading_words w (spelled statement_words w (Some ForEach))
    ≡ option_or (spelled common_words w None) (Some ForEach)) (sym e) refl

by_loop : (word : List ℕ) (two is_it : Bool) → bytes_eq word (codes "ForEach") ≡ is_it →
    spelled heading_words word (spelled statement_words word
    (if two && is_it then Some ForEach else spelled type_words word
    (spelled value_words word (spelled other_words word None))))
    ≡ option_or (spelled common_words word None) (if two && is_it then Some ForEach else None)
by_loop word true true e = is_loop word ((bytes_eq-Decides word (codes "ForEach")).0 e)
by_loop word true false e = sym (or_none (spelled common_words word None) ∙ tables word)
by_loop word false is_it e = sym (or_none (spelled common_words word None) ∙ tables word)

abbrev value_or : ℕ → Option ℕ → ℕ
value_or other None = other
value_or other (Some n) = n

-- a word that begins with a letter: the keyword in the table of that letter, or that of the loop
pub keyword_is : (profile letter : ℕ) (word : List ℕ) → Some letter ≡ slice_get word 0 →
    keyword_of profile word ≡ option_or (spelled (with_letter letter) word None)
    (if (profile == 2) && bytes_eq word (codes "ForEach") then Some ForEach else None)
unfolding keyword_of with_letter
keyword_is profile letter [] e = absurd (none-some letter (sym e))
keyword_is profile letter (b ∷ bs) e =
    by_loop (b ∷ bs) (profile == 2) (bytes_eq (b ∷ bs) (codes "ForEach")) refl
    ∙ ap (λ o. option_or o (if (profile == 2) && bytes_eq (b ∷ bs) (codes "ForEach") then Some ForEach else None))
    (sym (spelled_beginning b bs common_words))
    ∙ ap (λ l. option_or (spelled (beginning l common_words) (b ∷ bs) None)
    (if (profile == 2) && bytes_eq (b ∷ bs) (codes "ForEach") then Some ForEach else None)) (sym (ap (value_or letter) e))

not_two : (two : Bool) → (if two && false then Some ForEach else None) ≡ None
not_two true = refl
not_two false = refl

pub keyword_of_none : (profile : ℕ) (word : List ℕ) → None ≡ slice_get word 0 → keyword_of profile word ≡ None
unfolding keyword_of
keyword_of_none profile [] e = not_two (profile == 2)
keyword_of_none profile (b ∷ bs) e = absurd (none-some b e)

pub two_words : (v w v2 w2 : List ℕ) (k l : Keyword) (word : List ℕ) → v ≡ v2 → w ≡ w2 →
    spelled ((v, k) ∷ (w, l) ∷ []) word None ≡ spelled ((v2, k) ∷ (w2, l) ∷ []) word None
two_words v w v2 w2 k l word e f = ap (λ x. spelled ((x, k) ∷ (w, l) ∷ []) word None) e
    ∙ ap (λ x. spelled ((v2, k) ∷ (x, l) ∷ []) word None) f
