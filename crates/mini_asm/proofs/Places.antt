-- Instructions counted, and labels looked up, line by line.
use Rattle.std.proofs.Common.{◌≡◌, ℕ, zero, suc, ◌+◌, ◌<◌, ◌≤◌, Bool, true, false, cond, List, [], ◌∷◌, ◌++◌, length, get_or}
use Rattle.std.proofs.Common.{drop, take, Option, Some, None, refl, sym, ap, ◌∙◌, arith}
use Rattle.std.specs.List.{filter}
use Rattle.std.specs.Option.{option_map, is_some}
use Rattle.std.specs.Str.{bytes_eq}
use Rattle.std.specs.Prelude.{slice_get}
use Rattle.std.proofs.lemmas.List.{append-nil, drop_more, drop_all, length-append, take_more, take-append-drop}
use Rattle.std.proofs.lemmas.List.Elements.{filter-append}
use Rattle.std.proofs.lemmas.Slice.Eq.{bytes_eq-Decides}
use Rattle.mini_asm.specs.declared.form.Form.{Form}
use Rattle.mini_asm.specs.declared.form.Form.TheVariants.{Label, Code}
use Rattle.mini_asm.specs.declared.form.Written.{Written}
use Rattle.mini_asm.specs.declared.instr.Instr.{Instr}
use Rattle.mini_asm.specs.Assembled.{is_code_form, is_code, code_count, code_line, place_past, place_of, twice}

-- ---- the line of the instruction with a number

module _ (ws : List Written) (at : ℕ) (w : Written) (lt : at < length ws) (is : w ≡ get_or ws at w) where
  pub drop_here : drop at ws ≡ w ∷ drop (at + 1) ws
  drop_here = drop_more ws at w lt ∙ ap (λ x. x ∷ drop (at + 1) ws) (sym is)

  pub take_here : take (at + 1) ws ≡ take at ws ++ w ∷ []
  take_here = take_more ws at w lt ∙ ap (λ x. take at ws ++ x ∷ []) (sym is)

-- a list without an instruction of this number has no more than these
few : (n : ℕ) (cs : List Written) → option_map (λ (w : Written). w.line) (slice_get cs n) ≡ None → length cs ≤ n
few n [] e = omega arith
few zero (c ∷ cs) e = absurd (cc)
few (suc n) (c ∷ cs) e = let h : length cs ≤ n = few n cs e in omega arith

pub code_count-few : (n : ℕ) (ws : List Written) → code_line n ws ≡ None → code_count ws ≤ n
code_count-few n ws e = few n (filter is_code ws) e

-- ---- where labels stand

none_suc : (o : Option ℕ) → option_map suc o ≡ None → o ≡ None
none_suc None e = refl
none_suc (Some n) e = absurd (cc)

pub none_some : (o : Option ℕ) → is_some o ≡ false → o ≡ None
none_some None e = refl
none_some (Some n) e = absurd (cc)

map_cond : (b : Bool) (n : ℕ) (o : Option ℕ) → option_map suc (cond b (Some n) o) ≡ cond b (Some (suc n)) (option_map suc o)
map_cond true n o = refl
map_cond false n o = refl

-- another label before: whether it is the one put behind, and whether these are the one looked for
other_label : (kl kq lq : Bool) (n : ℕ) (at_l at_q after : Option ℕ) → (kq ≡ true → lq ≡ true → kl ≡ true) →
    (at_l ≡ None → after ≡ cond lq (Some n) at_q)
    → cond kl (Some 0) at_l ≡ None → cond kq (Some 0) after ≡ cond lq (Some n) (cond kq (Some 0) at_q)
other_label true kq lq n at_l at_q after same next e = absurd (cc)
other_label false true true n at_l at_q after same next e = let bad : false ≡ true = same refl refl in absurd (cc)
other_label false true false n at_l at_q after same next e = refl
other_label false false lq n at_l at_q after same next e = next e

same_bytes : (k l q : List ℕ) → bytes_eq k q ≡ true → bytes_eq l q ≡ true → bytes_eq k l ≡ true
same_bytes k l q a b =
    let e : k ≡ l = (bytes_eq-Decides k q).0 a ∙ sym ((bytes_eq-Decides l q).0 b) in
    (bytes_eq-Decides k l).1 e

label_after : (form : Form) (w : Written) (ws : List Written) (l q : List ℕ) (after : Option ℕ) →
    (place_of ws l ≡ None → after ≡ cond (bytes_eq l q) (Some (code_count ws)) (place_of ws q))
    → place_past form l (place_of ws l) ≡ None
    → place_past form q after
    ≡ cond (bytes_eq l q) (Some (length (cond (is_code_form form) (w ∷ filter is_code ws) (filter is_code ws))))
    (place_past form q (place_of ws q))
label_after (Label k) w ws l q after next e = other_label _ _ _ (code_count ws) (place_of ws l) (place_of ws q) after
    (same_bytes k l q) next e
label_after (Code i t) w ws l q after next e = rw (next (none_suc _ e)) (map_cond (bytes_eq l q) (code_count ws) (place_of ws q))

-- a label put behind lines where it does not stand
pub place_of-label : (ws : List Written) (line : ℕ) (l q : List ℕ) → place_of ws l ≡ None →
    place_of (ws ++ record { line = line; form = Label l } ∷ []) q ≡ cond (bytes_eq l q) (Some (code_count ws)) (place_of ws q)
unfolding place_of
place_of-label [] line l q e = refl
place_of-label (w ∷ ws) line l q e = label_after w.form w ws l q _ (place_of-label ws line l q) e

pub place_of-code : (ws : List Written) (line : ℕ) (i : Instr) (t : Option (List ℕ)) (q : List ℕ) →
    place_of (ws ++ record { line = line; form = Code i t } ∷ []) q ≡ place_of ws q
unfolding place_of
place_of-code [] line i t q = refl
place_of-code (w ∷ ws) line i t q = ap (place_past w.form q) (place_of-code ws line i t q)

pub code_count-label : (ws : List Written) (line : ℕ) (l : List ℕ) →
    code_count (ws ++ record { line = line; form = Label l } ∷ []) ≡ code_count ws
code_count-label ws line l = ap length (filter-append is_code ws (record { line = line; form = Label l } ∷ [])
    ∙ append-nil (filter is_code ws))

pub code_count-code : (ws : List Written) (line : ℕ) (i : Instr) (t : Option (List ℕ)) →
    code_count (ws ++ record { line = line; form = Code i t } ∷ []) ≡ code_count ws + 1
code_count-code ws line i t = ap length (filter-append is_code ws (record { line = line; form = Code i t } ∷ []))
    ∙ length-append (filter is_code ws) (record { line = line; form = Code i t } ∷ [])

pub code_count-take : (ws : List Written) (at : ℕ) → code_count (take at ws) ≤ code_count ws
code_count-take ws at =
    let e : code_count ws ≡ code_count (take at ws) + code_count (drop at ws) =
    ap code_count (sym (take-append-drop at ws)) ∙ ap length (filter-append is_code (take at ws) (drop at ws))
    ∙ length-append (filter is_code (take at ws)) (filter is_code (drop at ws)) in
    omega (arith, e)

-- one line more
module _ (ws : List Written) (at : ℕ) (w : Written) (lt : at < length ws) (is : w ≡ get_or ws at w) where
  module _ (l : List ℕ) (form : w.form ≡ Label l) where
    is_line : w ≡ record { line = w.line; form = Label l }
    is_line = ap (λ f. record { line = w.line; form = f }) form

    pub take_label : take (at + 1) ws ≡ take at ws ++ record { line = w.line; form = Label l } ∷ []
    take_label = take_here ws at w lt is ∙ ap (λ x. take at ws ++ x ∷ []) is_line

    pub twice-found : (o : Option ℕ) → o ≡ place_of (take at ws) l → is_some o ≡ true →
        twice (take at ws) (drop at ws) ≡ Some w.line
    unfolding twice
    twice-found o same stands =
        let stands_before : is_some (place_of (take at ws) l) ≡ true = ap is_some (sym same) ∙ stands in
        rw (drop_here ws at w lt is, form, stands_before) refl

    pub places-label : (places : List ℕ → Option ℕ) (place : ℕ) → place_of (take at ws) l ≡ None →
        ((q : List ℕ) → places q ≡ place_of (take at ws) q) → place ≡ code_count (take at ws)
        → (q : List ℕ) → cond (bytes_eq l q) (Some place) (places q) ≡ place_of (take (at + 1) ws) q
    places-label places place none so_far count q =
        rw (so_far q, count) (sym (ap (λ x. place_of x q) take_label ∙ place_of-label (take at ws) w.line l q none))

    pub count-label : code_count (take (at + 1) ws) ≡ code_count (take at ws)
    count-label = ap code_count take_label ∙ code_count-label (take at ws) w.line l

    pub twice-label : place_of (take at ws) l ≡ None → twice (take (at + 1) ws) (drop (at + 1) ws)
        ≡ twice (take at ws) (drop at ws)
    unfolding twice
    twice-label none = rw (take_here ws at w lt is) (rw (drop_here ws at w lt is, form, none) refl)

  module _ (i : Instr) (t : Option (List ℕ)) (form : w.form ≡ Code i t) where
    pub take_code : take (at + 1) ws ≡ take at ws ++ record { line = w.line; form = Code i t } ∷ []
    take_code = take_here ws at w lt is ∙ ap (λ f. take at ws ++ record { line = w.line; form = f } ∷ []) form

    pub twice-code : twice (take (at + 1) ws) (drop (at + 1) ws) ≡ twice (take at ws) (drop at ws)
    unfolding twice
    twice-code = rw (take_here ws at w lt is) (rw (drop_here ws at w lt is, form) refl)

    pub places-code : (q : List ℕ) → place_of (take (at + 1) ws) q ≡ place_of (take at ws) q
    places-code q = ap (λ x. place_of x q) take_code ∙ place_of-code (take at ws) w.line i t q

    pub count-code : code_count (take (at + 1) ws) ≡ code_count (take at ws) + 1
    count-code = ap code_count take_code ∙ code_count-code (take at ws) w.line i t

pub twice-end : (before ws : List Written) (at : ℕ) → length ws ≤ at → twice before (drop at ws) ≡ None
unfolding twice
twice-end before ws at le = rw (drop_all at ws le) refl
