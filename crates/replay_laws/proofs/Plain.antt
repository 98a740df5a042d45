-- A line that says what an entry does, and no mark.
use Rattle.std.proofs.Common.{◌≡◌, ℕ, Bool, true, false, List, [], ◌∷◌, ◌++◌, Option, Some, None, refl, ap, ◌∙◌, eq-eqb, ◌&&◌}
use Rattle.std.specs.List.{list_all}
use Rattle.std.proofs.lemmas.Bool.{and_parts}
use Rattle.std.proofs.lemmas.Slice.Eq.{bytes_eq-Decides}
use Rattle.tw_base.specs.declared.entry.Act.{Act}
use Rattle.tw_base.specs.declared.entry.Act.TheVariants as act
use Rattle.tw_base.specs.declared.entry.After.{After}
use Rattle.tw_base.specs.declared.entry.End.{End}
use Rattle.tw_base.specs.declared.entry.End.TheVariants as how
use Rattle.tw_base.specs.declared.entry.Entry.{Entry}
use Rattle.tw_lex.specs.declared.token.What.{What}
use Rattle.tw_lex.specs.declared.token.What.TheVariants.{Word, Number, Mark}
use Rattle.teapot_tree.specs.declared.protocol.Protocol.{Protocol}
use Rattle.printed_lines.specs.Saying.{same_what, says}
use Rattle.printed_lines.specs.Tokens.{act_tokens, after_tokens, entry_tokens, failure_tokens}

abbrev is_plain : What → Bool
is_plain (Word w) = true
is_plain (Number n) = true
is_plain (Mark m) = false

plain-append : (xs ys : List What) → list_all is_plain xs ≡ true → list_all is_plain ys ≡ true →
    list_all is_plain (xs ++ ys) ≡ true
plain-append [] ys h k = k
plain-append (x ∷ xs) ys h k =
    let parts = and_parts (is_plain x) (list_all is_plain xs) h in
    ap (λ (b : Bool). b && list_all is_plain (xs ++ ys)) parts.0 ∙ plain-append xs ys parts.1 k

plain-act : (p : Protocol) (a : Act) → list_all is_plain (act_tokens p a) ≡ true
plain-act p (act.Load address value) = refl
plain-act p (act.Store address value) = refl
plain-act p (act.Faa address value sum) = refl
plain-act p (act.Print value) = refl
plain-act p act.Halt = refl
plain-act p (act.Trapped why) = refl
plain-act p act.Step = refl
plain-act p (act.Fault store block) = refl
plain-act p (act.Redelivered kind block from) = refl
plain-act p (act.Delivered kind block from chan number) = refl

plain-failure : (p : Protocol) (e : End) → list_all is_plain (failure_tokens p e) ≡ true
plain-failure p how.Fine = refl
plain-failure p (how.Failed number) = refl
plain-failure p how.TooDeep = refl

plain-after : (p : Protocol) (sends : ℕ) (o : Option After) → list_all is_plain (after_tokens p sends o) ≡ true
plain-after p sends None = refl
plain-after p sends (Some after) = plain-failure p after.end

plain-entry : (p : Protocol) (k : ℕ) (e : Entry) → list_all is_plain (entry_tokens p (k, e)) ≡ true
plain-entry p k e = plain-append (act_tokens p e.act) (after_tokens p e.sends e.after) (plain-act p e.act)
    (plain-after p e.sends e.after)

same-one : (w : What) → is_plain w ≡ true → same_what w w ≡ true
same-one (Word w) h = (bytes_eq-Decides w w).1 refl
same-one (Number n) h = eq-eqb n n refl
same-one (Mark m) h = absurd (cc h)

says-same : (ds : List What) → list_all is_plain ds ≡ true → says ds ds ≡ true
unfolding says
says-same [] h = refl
says-same (d ∷ ds) h =
    let parts = and_parts (is_plain d) (list_all is_plain ds) h in ap (λ (b : Bool). b && says ds ds) (same-one d parts.0)
    ∙ says-same ds parts.1

-- a line that is an entry's own says so
pub says-entry : (p : Protocol) (k : ℕ) (e : Entry) (ts : List What) → ts ≡ entry_tokens p (k, e) →
    says (entry_tokens p (k, e)) ts ≡ true
says-entry p k e ts is = ap (says (entry_tokens p (k, e))) is ∙ says-same (entry_tokens p (k, e)) (plain-entry p k e)
