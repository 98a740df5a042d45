-- The parts of a line, both ways.
use Rattle.std.proofs.Common.{◌≡◌, ℕ, zero, suc, ◌<◌, ◌≤◌, Bool, true, false, cond, List, [], ◌∷◌, ◌++◌, length, map, Option}
use Rattle.std.proofs.Common.{Some, None, IfSome, refl, ap, sym, ◌∙◌, append_assoc, arith}
use Rattle.std.specs.Prelude.{◌&&◌, ◌==◌}
use Rattle.std.specs.List.{list_all}
use Rattle.std.specs.Option.{option_map}
use Rattle.std.proofs.lemmas.Bool.{eqb-true}
use Rattle.std.proofs.lemmas.List.{length-append}
use Rattle.teapot_tree.specs.declared.keyword.Keyword.{Keyword}
use Rattle.teapot_tree.specs.declared.keyword.Keyword.TheVariants as k
use Rattle.tw_lex.specs.declared.token.Mark.TheVariants as m
use Rattle.teapot_lines.specs.Seen.{Seen, Key, Named, Number, Marked}
use Rattle.teapot_tree.specs.declared.protocol.ValType.{ValType}
use Rattle.teapot_tree.specs.declared.protocol.ValType.TheVariants as t
use Rattle.teapot_lines.specs.declared.reader.Next.TheVariants.{Expr as Begin}
use Rattle.teapot_tree.specs.Parts.{fits}
use Rattle.teapot_lines.specs.Exprs.{spelled}
use Rattle.teapot_lines.specs.Cuts.{cut}
use Rattle.teapot_lines.specs.Reading.{read, read_from}
use Rattle.tw_base.specs.Answers.{◌>>?◌}
use Rattle.tw_base.specs.declared.message.Chan.{Chan}
use Rattle.tw_base.specs.declared.message.Chan.TheVariants as c
use Rattle.tw_base.specs.declared.value.Tag.{Tag}
use Rattle.tw_base.specs.declared.value.Tag.TheVariants as g
use Rattle.teapot_lines.proofs.Marks.{past-is}
use Rattle.teapot_lines.specs.Parts.{Got, opened, closed, brace_opened, brace_closed, comma, semicolon, becomes, ends, named}
use Rattle.teapot_lines.specs.Parts.{typed, tagged, channel, param, answers, bracketed, with_front, if_comma, more, more_at}
use Rattle.teapot_lines.specs.Parts.{listed, tails, spelled_list, spelled_type, spelled_param, spelled_name, spelled_answers}
use Rattle.teapot_lines.specs.Parts.{word_of, tag_word, chan_number}
use Rattle.teapot_lines.proofs.Spells.{read_spelled}
use Rattle.teapot_lines.proofs.Sound.{from-fronts}

pub after : {A B : Type 0} (o : Option A) (P : A → Type 0) (f : A → Option B) (Q : B → Type 0) → IfSome o P →
    ((x : A) → P x → IfSome (f x) Q) → IfSome (o >>? f) Q
after None P f Q h k = tt
after (Some x) P f Q h k = k x h

pub opened-is : (ts : List Seen) → IfSome (opened ts) (λ us. ts ≡ Marked m.Open ∷ us)
opened-is ts = past-is m.Open ts

pub closed-is : (ts : List Seen) → IfSome (closed ts) (λ us. ts ≡ Marked m.Close ∷ us)
closed-is ts = past-is m.Close ts

pub brace_opened-is : (ts : List Seen) → IfSome (brace_opened ts) (λ us. ts ≡ Marked m.BraceOpen ∷ us)
brace_opened-is ts = past-is m.BraceOpen ts

pub brace_closed-is : (ts : List Seen) → IfSome (brace_closed ts) (λ us. ts ≡ Marked m.BraceClose ∷ us)
brace_closed-is ts = past-is m.BraceClose ts

pub comma-is : (ts : List Seen) → IfSome (comma ts) (λ us. ts ≡ Marked m.Comma ∷ us)
comma-is ts = past-is m.Comma ts

pub semicolon-is : (ts : List Seen) → IfSome (semicolon ts) (λ us. ts ≡ Marked m.Semicolon ∷ us)
semicolon-is ts = past-is m.Semicolon ts

pub becomes-is : (ts : List Seen) → IfSome (becomes ts) (λ us. ts ≡ Marked m.Becomes ∷ us)
becomes-is ts = past-is m.Becomes ts

pub named-is : (ts : List Seen) → IfSome (named ts) (λ r. ts ≡ Named r.0 ∷ r.1)
named-is [] = tt
named-is (Marked _ ∷ ts) = tt
named-is (Key _ ∷ ts) = tt
named-is (Named _ ∷ ts) = refl
named-is (Number _ ∷ ts) = tt

typed_by : (key : Keyword) (ts : List Seen) → IfSome (typed (Key key ∷ ts)) (λ r. Key key ∷ ts ≡ Key (word_of r.0) ∷ r.1)
typed_by k.Int ts = refl
typed_by k.Bool ts = refl
typed_by k.Node ts = refl
typed_by k.Set ts = refl
typed_by _ ts = tt

pub typed-is : (ts : List Seen) → IfSome (typed ts) (λ r. ts ≡ Key (word_of r.0) ∷ r.1)
typed-is [] = tt
typed-is (Marked _ ∷ ts) = tt
typed-is (Key key ∷ ts) = typed_by key ts
typed-is (Named _ ∷ ts) = tt
typed-is (Number _ ∷ ts) = tt

pub typed-again : (y : ValType) (ts : List Seen) → typed (Key (word_of y) ∷ ts) ≡ Some (y, ts)
typed-again t.Int ts = refl
typed-again t.Bool ts = refl
typed-again t.Node ts = refl
typed-again t.Set ts = refl

tagged_by : (key : Keyword) (ts : List Seen) → IfSome (tagged (Key key ∷ ts)) (λ r. Key key ∷ ts ≡ Key (tag_word r.0) ∷ r.1)
tagged_by k.Invalid ts = refl
tagged_by k.ReadOnly ts = refl
tagged_by k.ReadWrite ts = refl
tagged_by _ ts = tt

pub tagged-is : (ts : List Seen) → IfSome (tagged ts) (λ r. ts ≡ Key (tag_word r.0) ∷ r.1)
tagged-is [] = tt
tagged-is (Marked _ ∷ ts) = tt
tagged-is (Key key ∷ ts) = tagged_by key ts
tagged-is (Named _ ∷ ts) = tt
tagged-is (Number _ ∷ ts) = tt

pub tagged-again : (tag : Tag) (ts : List Seen) → tagged (Key (tag_word tag) ∷ ts) ≡ Some (tag, ts)
tagged-again g.Invalid ts = refl
tagged-again g.ReadOnly ts = refl
tagged-again g.ReadWrite ts = refl

channel_one : (n : ℕ) (b : Bool) (ts : List Seen) → (n == 1) ≡ b →
    IfSome {T = Chan × List Seen} (option_map (λ chan. (chan, ts)) (cond b (Some c.One) None))
    (λ r. Number n ∷ ts ≡ Number (chan_number r.0) ∷ r.1)
channel_one n true ts e = ap (λ m. Number m ∷ ts) (eqb-true n 1 e)
channel_one n false ts e = tt

channel_by : (n : ℕ) (b : Bool) (ts : List Seen) → (n == 0) ≡ b →
    IfSome {T = Chan × List Seen} (option_map (λ chan. (chan, ts)) (cond b (Some c.Zero) (cond (n == 1) (Some c.One) None)))
    (λ r. Number n ∷ ts ≡ Number (chan_number r.0) ∷ r.1)
channel_by n true ts e = ap (λ m. Number m ∷ ts) (eqb-true n 0 e)
channel_by n false ts e = channel_one n (n == 1) ts refl

pub channel-is : (ts : List Seen) → IfSome (channel ts) (λ r. ts ≡ Number (chan_number r.0) ∷ r.1)
channel-is [] = tt
channel-is (Marked _ ∷ ts) = tt
channel-is (Key _ ∷ ts) = tt
channel-is (Named _ ∷ ts) = tt
channel-is (Number n ∷ ts) = channel_by n (n == 0) ts refl

pub channel-again : (chan : Chan) (ts : List Seen) → channel (Number (chan_number chan) ∷ ts) ≡ Some (chan, ts)
channel-again c.Zero ts = refl
channel-again c.One ts = refl

pub bracketed-is : (ts : List Seen) → IfSome (bracketed ts) (λ r. ts ≡ Marked m.Open ∷ Named r.0 ∷ Marked m.Close ∷ r.1)
bracketed-is ts =
    after (opened ts) _ _ _ (opened-is ts) (λ t1 e1.
    after (named t1) _ _ _ (named-is t1) (λ n en.
    after (closed n.1) _ _ _ (closed-is n.1) (λ t2 e2. rw (e1, en, e2) refl)))

pub answers-is : (ts : List Seen) → IfSome (answers ts) (λ r. ts ≡ spelled_answers r.0 ++ r.1)
answers-is [] = tt
answers-is (Marked _ ∷ ts) = tt
answers-is (Key k.RdFault ∷ ts) = refl
answers-is (Key k.WrFault ∷ ts) = refl
answers-is (Key _ ∷ ts) = tt
answers-is (Named _ ∷ ts) = refl
answers-is (Number _ ∷ ts) = tt

-- ---- items of lists

abbrev pub Spelled : {A B : Type 0} → (A → List Seen) → (A → Bool) → (A → B) → List Seen → B × List Seen → Type 0
Spelled {A} spell ok view ts r = (x : A) × (ok x ≡ true) × (view x ≡ r.0) × (ts ≡ spell x ++ r.1)

pub record IsItem {A B : Type 0} (item : List Seen → Got B) (spell : A → List Seen) (ok : A → Bool) (view : A → B) : Type 0 where
  pub again : (x : A) (rest : List Seen) → ok x ≡ true → item (spell x ++ rest) ≡ Some (view x, rest)
  pub found : (ts : List Seen) → IfSome (item ts) (Spelled spell ok view ts)
  pub at_end : (ts : List Seen) → ends ts ≡ true → item ts ≡ None

abbrev pub is : {A : Type 0} → A → Bool
is x = true

abbrev pub same : {A : Type 0} → A → A
same x = x

pub reads_name : IsItem named spelled_name is same
reads_name = record {
  again = λ x rest h. refl;
  found = found;
  at_end = at_end;
}
  where
    found : (ts : List Seen) → IfSome (named ts) (Spelled spelled_name is same ts)
    found [] = tt
    found (Marked _ ∷ ts) = tt
    found (Key _ ∷ ts) = tt
    found (Named w ∷ ts) = (w, refl, refl, refl)
    found (Number _ ∷ ts) = tt

    at_end : (ts : List Seen) → ends ts ≡ true → named ts ≡ None
    at_end [] e = refl
    at_end (Marked _ ∷ ts) e = refl
    at_end (Key _ ∷ ts) e = refl
    at_end (Named w ∷ ts) e = absurd cc
    at_end (Number _ ∷ ts) e = refl

pub reads_type : IsItem typed spelled_type is same
reads_type = record {
  again = λ x rest h. typed-again x rest;
  found = λ ts. after_type (typed ts) ts (typed-is ts);
  at_end = at_end;
}
  where
    after_type : (o : Got ValType) (ts : List Seen) → IfSome o (λ r. ts ≡ Key (word_of r.0) ∷ r.1) →
        IfSome o (Spelled spelled_type is same ts)
    after_type None ts h = tt
    after_type (Some r) ts h = (r.0, refl, refl, h)

    at_end : (ts : List Seen) → ends ts ≡ true → typed ts ≡ None
    at_end [] e = refl
    at_end (Marked _ ∷ ts) e = refl
    at_end (Key _ ∷ ts) e = absurd cc
    at_end (Named w ∷ ts) e = refl
    at_end (Number _ ∷ ts) e = refl

pub reads_param : IsItem param spelled_param is same
reads_param = record {
  again = λ x rest h. rw typed-again refl;
  found = λ ts. after (named ts) _ _ _ (named-is ts) (λ n en. after (typed n.1) _ _ _ (typed-is n.1)
      (λ y ey. (record { name = n.0; ty = y.0 }, refl, refl, rw (en, ey) refl)));
  at_end = at_end;
}
  where
    at_end : (ts : List Seen) → ends ts ≡ true → param ts ≡ None
    at_end [] e = refl
    at_end (Marked _ ∷ ts) e = refl
    at_end (Key _ ∷ ts) e = refl
    at_end (Named w ∷ ts) e = absurd cc
    at_end (Number _ ∷ ts) e = refl

expr-at_end : (ts : List Seen) → ends ts ≡ true → read ts ≡ None
unfolding read_from
expr-at_end [] e = refl
expr-at_end (Marked m.Close ∷ ts) e = refl
expr-at_end (Marked m.BraceClose ∷ ts) e = refl
expr-at_end (Marked m.Semicolon ∷ ts) e = refl
expr-at_end (Marked _ ∷ ts) e = absurd cc
expr-at_end (Key _ ∷ ts) e = absurd cc
expr-at_end (Named _ ∷ ts) e = absurd cc
expr-at_end (Number _ ∷ ts) e = absurd cc

pub reads_expr : IsItem read spelled fits cut
reads_expr = record {
  again = read_spelled;
  found = λ ts. from-fronts ts [] Begin [] refl;
  at_end = expr-at_end;
}

pub both : (a b : Bool) → (a && b) ≡ true → (a ≡ true) × (b ≡ true)
both true b e = (refl, e)
both false b e = absurd cc

pub both-true : (a b : Bool) → a ≡ true → b ≡ true → (a && b) ≡ true
both-true a b d e = rw (d, e) refl

more-again : {A B : Type 0} (item : List Seen → Got B) (spell : A → List Seen) (ok : A → Bool) (view : A → B) →
    IsItem item spell ok view → (xs : List A) (n : ℕ) (rest : List Seen) → list_all ok xs ≡ true → comma rest ≡ None
    → length xs < n → more item n (tails spell xs ++ rest) ≡ Some (map view xs, rest)
unfolding more
more-again item spell ok view r [] zero rest h none lt = absurd (omega arith)
more-again item spell ok view r [] (suc n) rest h none lt = rw none refl
more-again item spell ok view r (x ∷ xs) zero rest h none lt = absurd (omega arith)
more-again item spell ok view r (x ∷ xs) (suc n) rest h none lt =
    let w = both (ok x) (list_all ok xs) h in
    let one : item (spell x ++ tails spell xs ++ rest) ≡ Some (view x, tails spell xs ++ rest) =
    ap item (append_assoc (spell x) (tails spell xs) rest) ∙ r.again x (tails spell xs ++ rest) w.0 in
    let others = more-again item spell ok view r xs n rest w.1 none (omega arith) in
    rw (one, others) refl

tails-long : {A : Type 0} (spell : A → List Seen) (xs : List A) → length xs ≤ length (tails spell xs)
tails-long spell [] = omega arith
tails-long spell (x ∷ xs) = omega (arith, tails-long spell xs, length-append (spell x) (tails spell xs))

pub more_at-again : {A B : Type 0} (item : List Seen → Got B) (spell : A → List Seen) (ok : A → Bool) (view : A → B) →
    IsItem item spell ok view → (xs : List A) (t : Seen) (rest : List Seen) → list_all ok xs ≡ true
    → comma (t ∷ rest) ≡ None → more_at item (tails spell xs ++ (t ∷ rest)) ≡ Some (map view xs, t ∷ rest)
more_at-again item spell ok view r xs t rest h none =
    more-again item spell ok view r xs (length (tails spell xs ++ (t ∷ rest))) (t ∷ rest) h none
    (omega (arith, tails-long spell xs, length-append (tails spell xs) (t ∷ rest)))

abbrev pub SpelledAll : {A B : Type 0} → ((A → List Seen) → List A → List Seen) → (A → List Seen) → (A → Bool) → (A → B) →
    List Seen → List B × List Seen → Type 0
SpelledAll {A} spell_all spell ok view ts r = (xs : List A) × (list_all ok xs ≡ true) × (map view xs ≡ r.0)
    × (ts ≡ spell_all spell xs ++ r.1)

pub front-found : {B : Type 0} (front : List B) (r : Got (List B)) (P Q : List B × List Seen → Type 0) → IfSome r P →
    ((x : List B × List Seen) → P x → Q (front ++ x.0, x.1)) → IfSome (with_front front r) Q
front-found front None P Q h k = tt
front-found front (Some x) P Q h k = k x h

if_comma-found : {B : Type 0} (o : Option (List Seen)) (ts : List Seen) (go : List Seen → Got (List B))
    (Q : List B × List Seen → Type 0) → IfSome o (λ us. ts ≡ Marked m.Comma ∷ us) → Q ([], ts)
    → ((us : List Seen) → ts ≡ Marked m.Comma ∷ us → IfSome (go us) Q) → IfSome (if_comma o ts go) Q
if_comma-found None ts go Q h q k = q
if_comma-found (Some us) ts go Q h q k = k us h

more-found : {A B : Type 0} (item : List Seen → Got B) (spell : A → List Seen) (ok : A → Bool) (view : A → B) →
    IsItem item spell ok view → (n : ℕ) (ts : List Seen) → IfSome (more item n ts) (SpelledAll tails spell ok view ts)
unfolding more
more-found item spell ok view r zero ts = tt
more-found item spell ok view r (suc n) ts =
    if_comma-found (comma ts) ts _ _ (comma-is ts) ([], refl, refl, refl) (λ us e.
    after (item us) _ _ _ (r.found us) (λ x s. front-found (x.0 ∷ []) (more item n x.1) _ _
    (more-found item spell ok view r n x.1) (λ y z.
    (s.0 ∷ z.0, both-true (ok s.0) (list_all ok z.0) s.1 z.1, rw (s.2, z.2) refl, rw (e, s.3, z.3) (simp append_assoc)))))

pub more_at-found : {A B : Type 0} (item : List Seen → Got B) (spell : A → List Seen) (ok : A → Bool) (view : A → B) →
    IsItem item spell ok view → (ts : List Seen) → IfSome (more_at item ts) (SpelledAll tails spell ok view ts)
more_at-found item spell ok view r ts = more-found item spell ok view r (length ts) ts

-- ---- lists that may be empty

ends-comma : (ts : List Seen) → ends ts ≡ true → comma ts ≡ None
ends-comma [] e = refl
ends-comma (Marked m.Comma ∷ ts) e = absurd cc
ends-comma (Marked _ ∷ ts) e = refl
ends-comma (Key _ ∷ ts) e = refl
ends-comma (Named _ ∷ ts) e = refl
ends-comma (Number _ ∷ ts) e = refl

no_end : {A B : Type 0} (item : List Seen → Got B) (spell : A → List Seen) (ok : A → Bool) (view : A → B) →
    IsItem item spell ok view → (x : A) (rest : List Seen) → ok x ≡ true → (b : Bool) → ends (spell x ++ rest) ≡ b → b ≡ false
no_end item spell ok view r x rest h true e = let one = sym (r.at_end (spell x ++ rest) e) ∙ r.again x rest h in absurd cc
no_end item spell ok view r x rest h false e = refl

pub listed-again : {A B : Type 0} (item : List Seen → Got B) (spell : A → List Seen) (ok : A → Bool) (view : A → B) →
    IsItem item spell ok view → (xs : List A) (t : Seen) (rest : List Seen) → list_all ok xs ≡ true
    → ends (t ∷ rest) ≡ true → listed item (spelled_list spell xs ++ (t ∷ rest)) ≡ Some (map view xs, t ∷ rest)
listed-again item spell ok view r [] t rest h e = rw e refl
listed-again item spell ok view r (x ∷ xs) t rest h e =
    let w = both (ok x) (list_all ok xs) h in
    let regroup : spell x ++ tails spell xs ++ (t ∷ rest) ≡ spell x ++ (tails spell xs ++ (t ∷ rest)) =
    append_assoc (spell x) (tails spell xs) (t ∷ rest) in
    let go : ends (spell x ++ (tails spell xs ++ (t ∷ rest))) ≡ false =
    no_end item spell ok view r x (tails spell xs ++ (t ∷ rest)) w.0 _ refl in
    let one = r.again x (tails spell xs ++ (t ∷ rest)) w.0 in
    let others = more_at-again item spell ok view r xs t rest w.1 (ends-comma (t ∷ rest) e) in
    ap (listed item) regroup ∙ rw (go, one, others) refl

listed_if : {A B : Type 0} (item : List Seen → Got B) (spell : A → List Seen) (ok : A → Bool) (view : A → B) →
    IsItem item spell ok view → (ts : List Seen) (b : Bool)
    → IfSome (cond b (Some ([], ts)) (item ts >>? λ x. with_front (x.0 ∷ []) (more_at item x.1)))
    (SpelledAll spelled_list spell ok view ts)
listed_if item spell ok view r ts true = ([], refl, refl, refl)
listed_if item spell ok view r ts false =
    after (item ts) _ _ _ (r.found ts) (λ x s. front-found (x.0 ∷ []) (more_at item x.1) _ _
    (more_at-found item spell ok view r x.1) (λ y z.
    (s.0 ∷ z.0, both-true (ok s.0) (list_all ok z.0) s.1 z.1, rw (s.2, z.2) refl, rw (s.3, z.3) (simp append_assoc))))

pub listed-found : {A B : Type 0} (item : List Seen → Got B) (spell : A → List Seen) (ok : A → Bool) (view : A → B) →
    IsItem item spell ok view → (ts : List Seen) → IfSome (listed item ts) (SpelledAll spelled_list spell ok view ts)
listed-found item spell ok view r ts = listed_if item spell ok view r ts (ends ts)
