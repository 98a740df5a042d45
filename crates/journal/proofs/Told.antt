-- The words that are told, where every word can be read and all who read it agree.
use Rattle.std.proofs.Common.{◌≡◌, ℕ, ◌+◌, ◌<◌, Bool, true, false, Option, Some, None, arith, refl, sym}
use Rattle.std.specs.Prelude.{unwrap_or}
use Rattle.std.proofs.lemmas.List.FromFn.{fill_by_all}
use Rattle.tw_base.specs.declared.value.Tag.{Tag}
use Rattle.tw_base.specs.declared.value.Tag.TheVariants.{Invalid, ReadOnly, ReadWrite}
use Rattle.block_tags.specs.Copies.{permits}
use Rattle.dsm_runs.specs.Setups.{Setup, block_of, home_of, size_of}
use Rattle.dsm_runs.specs.Worlds.{World}
use Rattle.journal.specs.Gathered.{least_with, tag_in, teller_by, told_by, word_in}
use Rattle.journal.specs.Unbroken.{ReadWordsAreTold}
use Rattle.journal.proofs.Seeking.{missed, passes, within}

-- ---- the node that is asked

abbrev least_node : Setup → World → ℕ → Bool → Option ℕ
least_node s g b store = least_with s.shape.nodes (λ i. tag_in g i b) store

abbrev teller : Setup → World → ℕ → ℕ
teller s g b = teller_by s.shape (tag_in g) b

stores_load : (t : Tag) → permits t true ≡ true → permits t false ≡ true
stores_load ReadWrite h = refl
stores_load ReadOnly h = refl
stores_load Invalid h = absurd cc

-- where some node may read a block, the node whose copy is told may
teller_reads : (s : Setup) (g : World) (b i : ℕ) → i < s.shape.nodes → permits ((g.locals i).blocks b).tag false ≡ true →
    (teller s g b < s.shape.nodes) × (permits ((g.locals (teller s g b)).blocks b).tag false ≡ true)
teller_reads s g b i li may = writer (least_node s g b true) refl
  where
    reader : (o : Option ℕ) → least_node s g b false ≡ o → (unwrap_or o (home_of s b) < s.shape.nodes)
        × (permits ((g.locals (unwrap_or o (home_of s b))).blocks b).tag false ≡ true)
    reader (Some x) e = let below : x < 0 + s.shape.nodes = within
        (λ k. permits ((g.locals k).blocks b).tag false) 0 s.shape.nodes x e in
        (omega (arith, below), passes (λ k. permits ((g.locals k).blocks b).tag false) 0 s.shape.nodes x e)
    reader None e =
        absurd (missed (λ k. permits ((g.locals k).blocks b).tag false) 0 s.shape.nodes i e (omega arith)
        (omega (arith, li)) may)

    writer : (o : Option ℕ) → least_node s g b true ≡ o → (teller s g b < s.shape.nodes)
        × (permits ((g.locals (teller s g b)).blocks b).tag false ≡ true)
    writer (Some x) e = let below : x < 0 + s.shape.nodes = within
        (λ k. permits ((g.locals k).blocks b).tag true) 0 s.shape.nodes x e in rw e
        (omega (arith, below), stores_load _ (passes (λ k. permits ((g.locals k).blocks b).tag true) 0 s.shape.nodes x e))
    writer None e = rw e (reader (least_node s g b false) refl)

pub read_words_are_told : ReadWordsAreTold
read_words_are_told s g words long some agree =
    sym (fill_by_all (told_by s.shape (tag_in g) (word_in s g)) words (size_of s) 0 long (λ a lt.
    let it = some a lt in
    let asked = teller_reads s g (block_of s a) it.node it.within it.may in
    sym (agree (teller s g (block_of s a)) a asked.0 lt asked.1)))
