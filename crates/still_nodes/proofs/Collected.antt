-- What is gathered of nodes that are at rest is that of the state that they stand for.
use Rattle.std.proofs.Common.{◌≡◌, ◌∙◌, ℕ, zero, suc, ◌<◌, List, [], ◌∷◌, Some, length, ap, sym, subst}
use Rattle.std.specs.Prelude.{map, slice_get}
use Rattle.std.proofs.lemmas.List.{length-map}
use Rattle.tw_base.specs.declared.entry.Entry.{Entry}
use Rattle.handler_code.specs.declared.code.Code.{Code}
use Rattle.journal.specs.Finals.{told_finals}
use Rattle.journal.specs.Gathered.{told_words}
use Rattle.journal.proofs.Standing.{told_finals_are, told_words_are}
use Rattle.dsm_runs.specs.Beside.{ReplaysBeside}
use Rattle.dsm_runs.specs.Replays.{Course, begin}
use Rattle.dsm_runs.specs.Setups.{Setup}
use Rattle.dsm_runs.specs.Worlds.{World}
use Rattle.node_meaning.specs.Nodes.{Shown, tally_of}
use Rattle.node_meaning.specs.Tallies.{Counts, Tally, first_tally}
use Rattle.still_meaning.specs.Gathers.{GatheredShown, IsGathered, log_of}
use Rattle.still_meaning.specs.Reading.{end_at, tag_at, word_at}
use Rattle.still_meaning.specs.Stills.{IsAtRest, IsNodeAt, IsStill, AreWhole, StillShown, flight, tallies, tally_in}
use Rattle.still_meaning.proofs.Reading.{stands_as}
use Rattle.still_nodes.proofs.Places.{node_there}
use Rattle.still_nodes.proofs.Quiet.{rest_is_quiet}

-- ---- the logs

abbrev pub logs_of : List Shown → List (List Entry)
logs_of nodes = map (λ n. n.log) nodes

logs_at : (nodes : List Shown) (i : ℕ) (n : Shown) → slice_get nodes i ≡ Some n → log_of (logs_of nodes) i ≡ n.log
logs_at [] i n h = absurd cc
logs_at (x ∷ xs) zero n h = let same : x ≡ n = cc in ap (λ (y : Shown). y.log) same
logs_at (x ∷ xs) (suc i) n h = logs_at xs i n h

-- the log leads node i of this setup and code to the course, and the machine of ops to the tally
abbrev pub LeadsTo : Setup → Code → ℕ → List Entry → Course → Tally → Type 0
LeadsTo s code i log c t = ReplaysBeside (Counts s code) s i (begin s i) (first_tally s i) log c t

replayed : (a : StillShown) (i : ℕ) (n : Shown) (c : Course) (log : List Entry) (t : Tally) →
    IsNodeAt a i n c → log ≡ n.log → t ≡ tally_of n → LeadsTo a.setup a.code i log c t
replayed a i n c log t at same counted =
    let by_setup : LeadsTo a.setup n.code n.me n.log c (tally_of n) =
    subst (λ (s : Setup). LeadsTo s n.code n.me n.log c (tally_of n)) at.setup at.stands.replays in
    let by_code : LeadsTo a.setup a.code n.me n.log c (tally_of n) =
    subst (λ (code : Code). LeadsTo a.setup code n.me n.log c (tally_of n)) at.code by_setup in
    let by_number : LeadsTo a.setup a.code i n.log c (tally_of n) =
    subst (λ k. LeadsTo a.setup a.code k n.log c (tally_of n)) at.me by_code in
    let by_log : LeadsTo a.setup a.code i log c (tally_of n) =
    subst (λ (es : List Entry). LeadsTo a.setup a.code i es c (tally_of n)) (sym same) by_number in
    subst (λ (x : Tally). LeadsTo a.setup a.code i log c x) (sym counted) by_log

-- ---- the whole

-- what was read of the nodes
pub record IsRead (a : StillShown) (r : GatheredShown) : Type 0 where
  pub logs : r.logs ≡ logs_of a.nodes
  pub finals : r.finals ≡ told_finals a.setup.shape.nodes (end_at a)
  pub words : r.words ≡ told_words a.setup.shape (tag_at a) (word_at a)

module _ (a : StillShown) (g : World) (r : GatheredShown) (whole : AreWhole a) (rest : IsAtRest a) (read : IsRead a r)
    (s : IsStill a g) where
  each_replayed : (i : ℕ) → i < a.setup.shape.nodes → LeadsTo a.setup a.code i (log_of r.logs i) (s.ends i) (tallies a i)
  each_replayed i l =
      let n = node_there a g s i l in
      replayed a i n.0 (s.ends i) (log_of r.logs i) (tallies a i) (s.nodes i n.0 n.1)
      (ap (λ (ls : List (List Entry)). log_of ls i) read.logs ∙ logs_at a.nodes i n.0 n.1)
      (ap (λ o. tally_in a.setup i o) n.1)

  pub collected : IsGathered a.setup a.code g r
  collected =
      let stands = stands_as a g s whole.setup.limits in
      record {
        size = ap length read.logs ∙ length-map a.nodes (λ (n : Shown). n.log) ∙ s.count;
        ends = s.ends;
        left = flight a;
        counts = tallies a;
        replay = each_replayed;
        agrees = s.agrees;
        joined = s.joined;
        tells = record {
          quiet = rest_is_quiet a g s rest;
          finals = read.finals ∙ told_finals_are _ _ _ _ _ _ _ _ stands;
          words = read.words ∙ told_words_are _ _ _ _ _ _ _ _ whole.setup.limits stands;
        };
      }
