use Rattle.std.proofs.Common.{List, Ok, ap, sym, subst, ◌∙◌}
use Rattle.std.specs.Prelude.{All}
use Rattle.std.specs.BTreeMap.{get_by}
use Rattle.std.specs.Cmp.Lexicographic.{slice_cmp}
use Rattle.std.specs.Ordering.{nat_cmp}
use Rattle.std.proofs.lemmas.Result.{err_from_is_err_and}
use Rattle.mini_asm.specs.declared.form.Written.{Written}
use Rattle.mini_asm.specs.Assembled.{IsForm}
use Rattle.mini_asm.proofs.Places.{code_count-few}
use Rattle.mini_asm.proofs.Codes.{unread, too_long, label_fault, codes_are, code_fault, program-valid}
use Rattle.mini_asm.proofs.parse.parse_program.Goals as goal

pub returns-in_err-read : goal.returns-in_err-read
returns-in_err-read c =
    let p = err_from_is_err_and c.from_residual.result c.from_residual.ensures.1 in
    rw (p.1, p.2) (unread c.args.version c.args.lines.now c.in_err-read.field-0.0 c.in_err-read.ensures.value)

pub returns-in-Some : goal.returns-in-Some
returns-in-Some c =
    let read = c.in_ok-read.ensures.value ∙ ap Ok (sym c.as_slice-written.ensures.value) in
    too_long c.args.version c.args.lines.now c.as_slice-written.result.now read c.in-Some.line
    (sym c.code_line.ensures ∙ c.in-Some.is)

pub places_of-requires : goal.places_of-requires
places_of-requires c = code_count-few 4096 c.as_slice-written.result.now (sym c.code_line.ensures ∙ c.in_default.is)

pub returns-in_err-places : goal.returns-in_err-places
returns-in_err-places c =
    let p = err_from_is_err_and c.from_residual-in_err-places.result c.from_residual-in_err-places.ensures.1 in
    let read = c.in_ok-read.ensures.value ∙ ap Ok (sym c.as_slice-written.ensures.value) in
    let short = sym c.code_line.ensures ∙ c.in_default.is in
    rw (p.1, p.2) (label_fault c.args.version c.args.lines.now c.as_slice-written.result.now read short
    c.in_err-places.field-0.0 c.in_err-places.ensures.fault)

pub returns-in_err-instrs : goal.returns-in_err-instrs
returns-in_err-instrs c =
    let p = err_from_is_err_and c.from_residual-in_err-instrs.result c.from_residual-in_err-instrs.ensures.1 in
    let read = c.in_ok-read.ensures.value ∙ ap Ok (sym c.as_slice-written.ensures.value) in
    let short = sym c.code_line.ensures ∙ c.in_default.is in
    rw (p.1, p.2) (code_fault c.args.version c.args.lines.now c.as_slice-written.result.now read short c.in_ok-places.ensures.once
    (λ name. get_by (λ k. slice_cmp nat_cmp name k.now) c.in_ok-places.places) c.in_ok-places.ensures.places
    c.in_err-instrs.field-0.0 c.in_err-instrs.ensures)

pub of-requires-2 : goal.of-requires-2
of-requires-2 c =
    let read = c.in_ok-read.ensures.value ∙ ap Ok (sym c.as_slice-written.ensures.value) in
    let short = sym c.code_line.ensures ∙ c.in_default.is in
    let forms = subst (λ (ws : List Written). All (λ w. IsForm w.form) ws)
    (sym c.as_slice-written.ensures.value) c.in_ok-read.ensures.valid in
    rw c.of.ensures (program-valid c.args.version c.args.lines.now c.as_slice-written.result.now read short
    c.in_ok-places.ensures.once
    (λ name. get_by (λ k. slice_cmp nat_cmp name k.now) c.in_ok-places.places) c.in_ok-places.ensures.places
    c.in_ok-instrs.instrs.items forms c.in_ok-instrs.ensures)

pub returns : goal.returns
returns c =
    let read = c.in_ok-read.ensures.value ∙ ap Ok (sym c.as_slice-written.ensures.value) in
    let short = sym c.code_line.ensures ∙ c.in_default.is in
    rw (c.of-2.ensures, c.of.ensures)
    (sym (codes_are c.args.version c.args.lines.now c.as_slice-written.result.now read short c.in_ok-places.ensures.once
    (λ name. get_by (λ k. slice_cmp nat_cmp name k.now) c.in_ok-places.places) c.in_ok-places.ensures.places)
    ∙ c.in_ok-instrs.ensures)
