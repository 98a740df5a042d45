-- What settings keep: a program for each node, of the instructions of the version, and words that are given once.
use Rattle.std.proofs.Common.{◌≡◌, ◌⊎◌, ℕ, zero, suc, ◌<◌, ◌≤◌, Bool, true, false, not, List, [], ◌∷◌, ◌++◌, length, Option}
use Rattle.std.proofs.Common.{Some, None, Result, Ok, Err, position, slice_get, unwrap_or, refl, sym, ap, subst, inl, inr}
use Rattle.std.proofs.Common.{arith, nat_lt}
use Rattle.std.proofs.lemmas.Bool.{eqb-false, ltb-true}
use Rattle.std.proofs.lemmas.List.{length-append}
use Rattle.std.specs.Prelude.{◌==◌, ◌||◌}
use Rattle.tw_base.specs.Answers.{◌>>=◌}
use Rattle.tw_base.specs.Lists.{Each}
use Rattle.mini_asm.specs.declared.instr.Instr.{Instr}
use Rattle.mini_asm.specs.declared.instr.Instr.TheVariants.{Halt}
use Rattle.mini_asm.specs.declared.parse.ProgramError.{ProgramError}
use Rattle.mini_asm.specs.declared.parse.ProgramError.TheVariants.{BadLine, TooLong, LabelTwice, NoLabel, Memory}
use Rattle.mini_asm.specs.Assembled.{program_of}
use Rattle.mini_asm.specs.Programs.{has_faa}
use Rattle.mini_asm.specs.Run.{IsApart, IsInit}
use Rattle.mini_asm.proofs.Versions.{program_of-other}
use Rattle.tempest_input.specs.declared.layout.Section.{Section}
use Rattle.tempest_input.specs.declared.layout.Init.{Init}
use Rattle.tempest_input.specs.declared.error.Why.TheVariants.{OutOfRange, Repeated}
use Rattle.tempest_input.specs.Numbers.{is_given, unless, word_in, words_of}
use Rattle.tempest_input.specs.Settings.{each_below, in_program, parsed, program_at, program_for, program_in}
use Rattle.tempest_input.proofs.Gathering.{gathered-keeps}

pub length-each_below : {X : Type 0} (f : ℕ → X) (n : ℕ) → length (each_below f n) ≡ n
length-each_below f zero = refl
length-each_below f (suc n) = omega (arith, length-append (each_below f n) (f n ∷ []), length-each_below f n)

or_parts : (a b : Bool) → (a || b) ≡ false → (a ≡ false) × (b ≡ false)
or_parts true b e = absurd (cc e)
or_parts false b e = (refl, e)

-- an address that is not given is apart from all that are
apart : (done : List (ℕ × ℕ)) (a : ℕ) → is_given done a ≡ false → IsApart a done
apart [] a e = tt
apart (g ∷ done) a e =
    let p = or_parts (g.0 == a) (is_given done a) e in
    (eqb-false g.0 a p.0, apart done a p.1)

apart-push : (a : ℕ) (done : List (ℕ × ℕ)) (w : ℕ × ℕ) → IsApart a done → ¬ (w.0 ≡ a) → IsApart a (done ++ w ∷ [])
apart-push a [] w h d = (d, tt)
apart-push a (g ∷ done) w h d = (h.0, apart-push a done w h.1 d)

init-push : (size : ℕ) (done : List (ℕ × ℕ)) (w : ℕ × ℕ) → IsInit size done → w.0 < size → IsApart w.0 done →
    IsInit size (done ++ w ∷ [])
init-push size [] w h lt p = (lt, tt, tt)
init-push size (g ∷ done) w h lt p = (h.0, apart-push g.0 done w h.1 (λ e. p.0 (sym e)), init-push size done w h.2 lt p.1)

-- a word that is read is in the memory, and not given before
word : (size : ℕ) (done : List (ℕ × ℕ)) (i : Init) (w : ℕ × ℕ) → word_in size done i ≡ Ok w → (w.0 < size) × IsApart w.0 done
unfolding word_in
word size done i w e = go (nat_lt i.address size) refl (is_given done i.address) refl e
  where
    go : (v : Bool) → nat_lt i.address size ≡ v → (g : Bool) → is_given done i.address ≡ g →
        (unless v i.line OutOfRange >>= λ a. unless (not g) i.line Repeated >>= λ b. Ok (i.address, i.value)) ≡ Ok w →
        (w.0 < size) × IsApart w.0 done
    go true within false once f =
        let same : ◌≡◌ {A = ℕ × ℕ} (i.address, i.value) w = cc f in
        subst (λ (x : ℕ × ℕ). (x.0 < size) × IsApart x.0 done) same (ltb-true i.address size within, apart done i.address once)
    go true within true once f = absurd (cc f)
    go false within g once f = absurd (cc f)

pub words-init : (size : ℕ) (inits : List Init) (init : List (ℕ × ℕ)) → words_of size inits ≡ Ok init → IsInit size init
words-init size inits init e = gathered-keeps (IsInit size) (word_in size) (λ done i w h f.
    let p = word size done i w f in
    init-push size done w h p.0 p.1) [] inits init tt e

-- ---- programs of the first version

abbrev IsPlain : List Instr → Type 0
IsPlain program = has_faa program ≡ false

each-push : {X : Type 0} (P : X → Type 0) (xs : List X) (x : X) → Each P xs → P x → Each P (xs ++ x ∷ [])
each-push P [] x h p = (p, tt)
each-push P (y ∷ xs) x h p = (h.0, each-push P xs x h.1 p)

in_program-ok : (r : Result (List Instr) ProgramError) (p : List Instr) → in_program r ≡ Ok p → r ≡ Ok p
in_program-ok (Ok q) p e = let same : q ≡ p = cc e in ap Ok same
in_program-ok (Err (BadLine line)) p e = absurd (cc e)
in_program-ok (Err (TooLong line)) p e = absurd (cc e)
in_program-ok (Err (LabelTwice line)) p e = absurd (cc e)
in_program-ok (Err (NoLabel line)) p e = absurd (cc e)
in_program-ok (Err Memory) p e = absurd (cc e)

parsed-plain : (version : ℕ) (sections : List Section) (programs : List (List Instr)) → version < 2 →
    parsed version sections ≡ Ok programs → Each IsPlain programs
parsed-plain version sections programs first e = gathered-keeps (Each IsPlain) (program_in version) (λ done s p h f.
    each-push IsPlain done p h (program_of-other version s.body.lines p
    (in_program-ok (program_of version s.body.lines) p f) first)) [] sections programs tt e

found-plain : (programs : List (List Instr)) (k : ℕ) → Each IsPlain programs →
    IsPlain (unwrap_or (slice_get programs k) (Halt ∷ []))
found-plain [] k h = refl
found-plain (p ∷ programs) zero h = h.0
found-plain (p ∷ programs) (suc k) h = found-plain programs k h.1

at-plain : (programs : List (List Instr)) (place : Option ℕ) → Each IsPlain programs → IsPlain (program_at programs place)
at-plain programs None h = refl
at-plain programs (Some k) h = found-plain programs k h

below-plain : (nodes : List ℕ) (programs : List (List Instr)) (n : ℕ) → Each IsPlain programs →
    Each IsPlain (each_below (program_for nodes programs) n)
below-plain nodes programs zero h = tt
below-plain nodes programs (suc n) h =
    each-push IsPlain (each_below (program_for nodes programs) n) (program_for nodes programs n)
    (below-plain nodes programs n h) (at-plain programs (position (λ k. k == n) nodes) h)

pub programs-plain : (version : ℕ) (sections : List Section) (done : List (List Instr)) (nodes : List ℕ) (n : ℕ) →
    parsed version sections ≡ Ok done
    → version ≡ 1 → Each IsPlain (each_below (program_for nodes done) n)
programs-plain version sections done nodes n e one = below-plain nodes done n (parsed-plain version sections done (omega arith) e)

pub version-is : (version : ℕ) → (0 < version) × (version ≤ 2) → (version ≡ 1) ⊎ (version ≡ 2)
version-is zero h = absurd (omega (arith, h.0))
version-is (suc zero) h = inl refl
version-is (suc (suc zero)) h = inr refl
version-is (suc (suc (suc n))) h = absurd (omega (arith, h.1))
