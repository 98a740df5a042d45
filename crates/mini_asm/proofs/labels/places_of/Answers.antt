use Rattle.std.proofs.Common.{◌+◌, arith, ap, refl, sym, ◌∙◌, take}
use Rattle.std.specs.BTreeMap.{get_by}
use Rattle.std.specs.Cmp.Lexicographic.{slice_cmp}
use Rattle.std.specs.Option.{is_some}
use Rattle.std.specs.Ordering.{nat_cmp}
use Rattle.std.proofs.lemmas.Map.Text.{btree_map_updates_str}
use Rattle.mini_asm.specs.declared.parse.ProgramError.TheVariants.{LabelTwice}
use Rattle.mini_asm.specs.Assembled.{place_of, refuse}
use Rattle.mini_asm.proofs.Places.{code_count-take, none_some, twice-found, twice-label, twice-code, places-label, places-code}
use Rattle.mini_asm.proofs.Places.{count-label, count-code, twice-end}
use Rattle.mini_asm.proofs.labels.places_of.Goals as goal
use Rattle.mini_asm.proofs.labels.places_of.Goals.{in-Label+else-is_some+in_ok-insert-in-Label, in-Code}

pub loop-w-init : goal.loop-w-init
unfolding place_of
loop-w-init c = record { places = λ name. rw c.new-places.ensures.empty refl; place = refl; once = refl }

pub returns-then-is_some-clause-fault : goal.returns-then-is_some-clause-fault
returns-then-is_some-clause-fault c =
    let ws = c.args.written.now in
    let w = c.w-item.result in
    let same = c.look.ensures ∙ c.loop-w.invariant.places c.in-Label.name in
    let found = twice-found ws c.loop-w.w-index w c.loop-w-test.true c.w-item.is c.in-Label.name c.in-Label.is c.look.result
    same (sym c.is_some.ensures ∙ c.if-is_some.true) in
    ap (refuse LabelTwice) (sym c.loop-w.invariant.once ∙ found)

pub overflow_add-place : goal.overflow_add-place
overflow_add-place c = omega (arith, code_count-take c.args.written.now c.loop-w.w-index, c.loop-w.invariant.place, c.requires)

pub loop-w-preserved : goal.loop-w-preserved
loop-w-preserved c =
    let ws = c.args.written.now in
    let at = c.loop-w.w-index in
    let w = c.w-item.result in
    elim c.match-w.branch [
      | in-Label+else-is_some+in_ok-insert-in-Label h ↦
          let l = h.in-Label.name in
          let none = none_some _ (ap is_some (sym (h.look.ensures ∙ c.loop-w.invariant.places l)) ∙ sym h.is_some.ensures
          ∙ h.if-is_some.false) in
          record {
            places = λ name.
                ap (λ m. get_by (λ k. slice_cmp nat_cmp name k.now) m) h.places-is
                ∙ btree_map_updates_str h.bytes.result.now c.loop-w.places h.insert.new.self _
                h.in_ok-insert-in-Label.ensures.updates name
                ∙ rw h.bytes.ensures.value (places-label ws at w c.loop-w-test.true c.w-item.is l h.in-Label.is
                (λ q. get_by (λ k. slice_cmp nat_cmp q k.now) c.loop-w.places) c.loop-w.place none
                c.loop-w.invariant.places c.loop-w.invariant.place name);
            place = h.place-is ∙ c.loop-w.invariant.place ∙ sym
                (count-label ws at w c.loop-w-test.true c.w-item.is l h.in-Label.is);
            once = twice-label ws at w c.loop-w-test.true c.w-item.is l h.in-Label.is none ∙ c.loop-w.invariant.once;
          }
      | in-Code h ↦
          record {
            places = λ name.
                ap (λ m. get_by (λ k. slice_cmp nat_cmp name k.now) m) h.places-is
                ∙ c.loop-w.invariant.places name ∙ sym (places-code ws at w c.loop-w-test.true c.w-item.is _ _ h.in-Code.is name);
            place = h.place-is ∙ ap (λ n. n + 1) c.loop-w.invariant.place
                ∙ sym (count-code ws at w c.loop-w-test.true c.w-item.is _ _ h.in-Code.is);
            once = twice-code ws at w c.loop-w-test.true c.w-item.is _ _ h.in-Code.is ∙ c.loop-w.invariant.once;
          }
    ]

pub returns-clause-once : goal.returns-clause-once
returns-clause-once c = sym c.loop-w.invariant.once ∙ twice-end
    (take c.loop-w.w-index c.args.written.now) c.args.written.now c.loop-w.w-index c.loop-w-test.false
