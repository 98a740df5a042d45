use Rattle.std.proofs.Common.{◌≡◌, ℕ, List, [], ◌∷◌, None, Err, map, refl, sym, ap, ◌∙◌, subst, ⊎_elim}
use Rattle.std.specs.String.{string_bytes}
use Rattle.clap.specs.Faults.{fault_of, is_simple_and_free}
use Rattle.tw_base.specs.Answers.{◌>>?◌}
use Rattle.clap.specs.Kinds.{HasKind, IsAmong, Kinds}
use Rattle.clap.specs.Matches.{found_of}
use Rattle.clap.specs.Simple.{app_of, is_simple, matches_of}
use Rattle.clap.specs.Values.{kind_of}
use Rattle.clap.specs.Walk.{rows_of}
use Rattle.clap.specs.declared.error.kind.ErrorKind.{ErrorKind}
use Rattle.tempest_words.specs.declared.words.WordsError.{WordsError}
use Rattle.tempest_words.specs.declared.words.WordsError.TheVariants as errors
use Rattle.tempest_words.specs.Lines.{parted}
use Rattle.tempest_words.specs.Parting.{tempest_app}
use Rattle.tempest_words.specs.Parts.{IsParted}
use Rattle.tempest_words.specs.Words.{asked_by}
use Rattle.tempest_words.proofs.Matching.{refused_words, taken_words}
use Rattle.tempest_words.proofs.Settling.{IsFault}
use Rattle.tempest_words.proofs.parting.parted.Goals as goal

pub returns-in-Ok : goal.returns-in-Ok
returns-in-Ok c =
    let ws : List (List ℕ) = map string_bytes c.args.words.now in
    let app_is : app_of c.in_ok-command.command ≡ tempest_app = c.in_ok-command.ensures in
    let fine : fault_of tempest_app ws ≡ [] = ap (λ a. fault_of a ws) (sym app_is)
    ∙ c.in-Ok.ensures.kinds (ap is_simple_and_free app_is) in
    let found : rows_of (found_of c.in-Ok.matches) ≡ matches_of tempest_app ws =
    (c.in-Ok.ensures.matches (ap is_simple app_is)).0 ∙ ap (λ a. matches_of a ws) app_is in
    let taken = taken_words ws (found_of c.in-Ok.matches) fine found in
    taken.asks ∙ ap asked_by (sym (c.parts_of.ensures taken.line taken.holds))

among-fault : (k : ErrorKind) (ks : Kinds) → IsAmong k ks → IsFault ks
among-fault k [] none = none
among-fault k (x ∷ ks) is = tt

by_error : (ws : List (List ℕ)) (e : WordsError) → (e ≡ errors.Usage → parted ws >>? asked_by ≡ None) → IsParted ws (Err e)
by_error ws errors.Usage refuses = refuses refl
by_error ws errors.Memory refuses = tt

pub returns-in-Err : goal.returns-in-Err
returns-in-Err c =
    let ws : List (List ℕ) = map string_bytes c.args.words.now in
    let app_is : app_of c.in_ok-command.command ≡ tempest_app = c.in_ok-command.ensures in
    let kinds : HasKind (fault_of tempest_app ws) c.in-Err.error =
    subst (λ k. HasKind k c.in-Err.error) (ap (λ a. fault_of a ws) app_is)
    (c.in-Err.ensures.kinds (ap is_simple_and_free app_is)) in
    by_error ws c.error_of.result
    (λ usage. ⊎_elim (λ memory. absurd (c.error_of.ensures usage (c.kind.ensures ∙ memory)))
    (λ among. refused_words ws (among-fault (kind_of c.in-Err.error) (fault_of tempest_app ws) among)) kinds)
