-- What the pass finds out.
use Rattle.std.proofs.Common.{◌≡◌, ℕ, ◌+◌, Bool, true, false, List, [], ◌∷◌, ◌++◌, length, take, Option, Some, None, IfSome}
use Rattle.std.proofs.Common.{refl, ap, sym, ◌∙◌, subst, append_assoc, arith}
use Rattle.std.specs.Prelude.{if◌then◌else◌}
use Rattle.std.proofs.lemmas.List.{append-nil, take_at, length-append}
use Rattle.teapot_parse.specs.declared.judge.Kind.{Kind}
use Rattle.teapot_parse.specs.declared.judge.Block.{Block}
use Rattle.teapot_parse.specs.declared.judge.Place.{Place}
use Rattle.teapot_parse.specs.declared.judge.Place.TheVariants as p
use Rattle.teapot_parse.specs.declared.judge.Judged.TheVariants.{Nested, Bad, Missing}
use Rattle.teapot_parse.specs.Nesting.{At, next_of, is_end, go, judged_from, judged}
use Rattle.teapot_parse.specs.Shapes.{IsNested, CanGoOn}
use Rattle.teapot_parse.specs.Laws.{Judges}
use Rattle.teapot_parse.proofs.Runs.{run, led, run-append, nested-run}
use Rattle.teapot_parse.proofs.Opens.{Stands, stands-adds, stands-on, stands-ends}

-- the lines so far, and where they led
record Here (ks : List Kind) (bs : List Block) (place : Place) : Type 0 where
  pub leads : run [] p.Start ks ≡ Some (bs, place)
  pub stands : Stands bs place ks

place_in : Option At → Place
place_in None = p.Start
place_in (Some s) = s.1

place-is : (o : Option At) (s t : At) → o ≡ Some s → o ≡ Some t → s.1 ≡ t.1
unfolding place_in
place-is o s t d e = ap place_in (sym d ∙ e)

some_none : (o : Option At) (s : At) → o ≡ None → o ≡ Some s → ⊥
some_none o s a b = cc

true_false : (b : Bool) → b ≡ false → b ≡ true → ⊥
true_false b a c = cc

not_nested : (ks : List Kind) (bs : List Block) (place : Place) → Here ks bs place → is_end place ≡ false → IsNested ks → ⊥
not_nested ks bs place here e nested =
    let at_end = nested-run ks nested in
    true_false (is_end place) e (ap is_end (place-is (run [] p.Start ks) (bs, place) ([], at_end.0) here.leads at_end.1)
    ∙ at_end.2)

dead : (ks more : List Kind) → run [] p.Start ks ≡ None → IsNested (ks ++ more) → ⊥
dead ks more stuck nested =
    let at_end = nested-run (ks ++ more) nested in
    some_none (run [] p.Start (ks ++ more)) ([], at_end.0) (run-append ks more [] p.Start
    ∙ ap (λ o. led o (λ b q. run b q more)) stuck) at_end.1

one_more : (ks : List Kind) (kind : Kind) (bs : List Block) (place : Place) → run [] p.Start ks ≡ Some (bs, place) →
    run [] p.Start (ks ++ kind ∷ []) ≡ led (next_of bs place kind) (λ b q. Some (b, q))
unfolding run
one_more ks kind bs place e = run-append ks (kind ∷ []) [] p.Start ∙ ap (λ o. led o (λ b q. run b q (kind ∷ []))) e

judges_end : (ks : List Kind) (bs : List Block) (place : Place) (b : Bool) → is_end place ≡ b → Here ks bs place →
    Judges ks (if b then Nested else Missing)
judges_end ks bs place true e here = stands-ends bs place ks e here.stands
judges_end ks bs place false e here = (stands-on bs place ks here.stands, not_nested ks bs place here e)

judges_next : (kind : Kind) (ks so_far : List Kind) (bs : List Block) (place : Place) (at : ℕ) → at ≡ length so_far →
    Here so_far bs place
    → ((b : List Block) (q : Place) → Here (so_far ++ kind ∷ []) b q →
    Judges (so_far ++ kind ∷ [] ++ ks) (judged_from b q (at + 1) ks))
    → (o : Option At) → next_of bs place kind ≡ o → Judges (so_far ++ kind ∷ ks)
    (go o (Bad at) (λ b q. judged_from b q (at + 1) ks))
judges_next kind ks so_far bs place at is here after None e =
    let one : length (so_far ++ kind ∷ []) ≡ at + 1 = omega (arith, length-append so_far (kind ∷ [])) in
    let all : so_far ++ kind ∷ [] ++ ks ≡ so_far ++ kind ∷ ks = append_assoc so_far (kind ∷ []) ks in
    let front : take (at + 1) (so_far ++ kind ∷ ks) ≡ so_far ++ kind ∷ [] = ap (take (at + 1)) (sym all)
    ∙ take_at (so_far ++ kind ∷ []) ks (at + 1) one in
    let stuck : run [] p.Start (so_far ++ kind ∷ []) ≡ None = one_more so_far kind bs place here.leads
    ∙ ap (λ o. led o (λ b q. Some (b, q))) e in (
      subst CanGoOn (sym (take_at so_far (kind ∷ ks) at (sym is))) (stands-on bs place so_far here.stands),
      λ goes. dead (so_far ++ kind ∷ []) goes.0 stuck (subst (λ z. IsNested (z ++ goes.0)) front goes.1),
    )
judges_next kind ks so_far bs place at is here after (Some s) e =
    let all : so_far ++ kind ∷ [] ++ ks ≡ so_far ++ kind ∷ ks = append_assoc so_far (kind ∷ []) ks in
    let next : Here (so_far ++ kind ∷ []) s.0 s.1 = record {
      leads = one_more so_far kind bs place here.leads ∙ ap (λ o. led o (λ b q. Some (b, q))) e;
      stands = subst (λ o. IfSome o (λ t. Stands t.0 t.1 (so_far ++ kind ∷ []))) e (stands-adds bs place kind so_far here.stands);
    } in
    subst (λ z. Judges z (judged_from s.0 s.1 (at + 1) ks)) all (after s.0 s.1 next)

judges_from : (ks so_far : List Kind) (bs : List Block) (place : Place) (at : ℕ) → at ≡ length so_far → Here so_far bs place →
    Judges (so_far ++ ks) (judged_from bs place at ks)
unfolding judged_from
judges_from [] so_far bs place at is here = subst (λ z. Judges z (if is_end place then Nested else Missing))
    (sym (append-nil so_far)) (judges_end so_far bs place (is_end place) refl here)
judges_from (kind ∷ ks) so_far bs place at is here =
    judges_next kind ks so_far bs place at is here (λ b q next. judges_from ks (so_far ++ kind ∷ []) b q (at + 1)
    (omega (arith, length-append so_far (kind ∷ []))) next) (next_of bs place kind) refl

pub judges-is : (ks : List Kind) → Judges ks (judged ks)
unfolding run
judges-is ks = judges_from ks [] [] p.Start 0 refl (record { leads = refl; stands = (refl, refl) })
