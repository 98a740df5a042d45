-- Where no word may stand: a word is no mark and no number, whether it is a keyword or a name.
use Rattle.std.proofs.Common.{◌≡◌, ℕ, false, List, ◌∷◌, Option, Some, None, refl}
use Rattle.teapot_tree.specs.declared.keyword.Keyword.{Keyword}
use Rattle.teapot_lines.specs.declared.cut.Cut.{Cut}
use Rattle.teapot_lines.specs.declared.reader.Call.{Call}
use Rattle.teapot_lines.specs.declared.reader.Open.{Open}
use Rattle.teapot_lines.specs.Lines.{profile_in}
use Rattle.teapot_lines.specs.Parts.{channel, ends}
use Rattle.teapot_lines.specs.Reading.{at_after, at_bracket}
use Rattle.teapot_lines.specs.Seen.{Seen, seen_word}

pub word_ends_no_list : (word : List ℕ) (key : Option Keyword) (ts : List Seen) → ends (seen_word word key ∷ ts) ≡ false
word_ends_no_list word (Some k) ts = refl
word_ends_no_list word None ts = refl

pub word_is_no_channel : (word : List ℕ) (key : Option Keyword) (ts : List Seen) → channel (seen_word word key ∷ ts) ≡ None
word_is_no_channel word (Some k) ts = refl
word_is_no_channel word None ts = refl

pub word_is_no_profile : (profile : ℕ) (name word : List ℕ) (key : Option Keyword) (ts : List Seen) →
    profile_in profile name (seen_word word key ∷ ts) ≡ None
word_is_no_profile profile name word (Some k) ts = refl
word_is_no_profile profile name word None ts = refl

pub word_is_no_bracket : (held : List Open) (call : Call) (word : List ℕ) (key : Option Keyword) →
    at_bracket held call (seen_word word key) ≡ None
word_is_no_bracket held call word (Some k) = refl
word_is_no_bracket held call word None = refl

pub word_follows_none : (top : Open) (held : List Open) (a : Cut) (word : List ℕ) (key : Option Keyword) →
    at_after (top ∷ held) a (seen_word word key) ≡ None
word_follows_none top held a word (Some k) = refl
word_follows_none top held a word None = refl
