-- The code of a handler in that of its protocol.
use Rattle.std.proofs.Common.{◌≡◌, ℕ, ◌+◌, ◌<◌, ◌≤◌, List, [], ◌∷◌, ◌++◌, length, Some, refl, sym, ap, subst, arith, ◌∙◌}
use Rattle.std.proofs.Common.{length-append, append_assoc}
use Rattle.std.specs.Prelude.{map}
use Rattle.std.proofs.Math.Seq.{get_or-append_seam}
use Rattle.std.proofs.lemmas.Option.{slice_get-get_or}
use Rattle.teapot_tree.specs.declared.protocol.Protocol.{Protocol}
use Rattle.teapot_meaning.specs.Fits.{names_in}
use Rattle.handler_code.specs.declared.code.Code.{Code}
use Rattle.handler_code.specs.declared.code.OpCode.{OpCode}
use Rattle.handler_code.specs.declared.code.OpCode.TheVariants as op
use Rattle.compiled_meaning.specs.Follows.{Follows}
use Rattle.compiled_meaning.specs.Follows as follows
use Rattle.compiled_meaning.specs.Compiled.{Piece, code_of, in_order, loops_in, rests_in}
use Rattle.compiled_meaning.specs.Whole.{Entry, IsCode, entries_code, entries_of, entry_code}
use Rattle.compiled_meaning.proofs.Fine.{Fine}
use Rattle.compiled_meaning.proofs.Places.{HasAt, RestsFollow, has_back, has_front}
use Rattle.compiled_meaning.proofs.Placed.{Leads, placed}
use Rattle.compiled_meaning.proofs.Rests.{NumberedFrom, numbered-append, rests_follow, rests_in-append}
use Rattle.compiled_meaning.proofs.Numbered.{numbers}

abbrev pub AllFine : Protocol → List Entry → Type 0
AllFine p [] = Unit {0}
AllFine p (d ∷ entries) = Fine p (names_in d.state d.handler) d.handler.body × AllFine p entries

-- the code of the handler that stands behind these
abbrev pub body_code : Protocol → List Entry → Entry → List OpCode
body_code p before d =
    let others = entries_code p before in
    let names = names_in d.state d.handler in
    code_of p names d.handler.body (length others) (rests_in others) (length names)

pub append-nil : {A : Type 0} (xs : List A) → xs ++ [] ≡ xs
append-nil [] = refl
append-nil (x ∷ xs) = ap (λ l. x ∷ l) (append-nil xs)

pub has_all : (is pre : List OpCode) → HasAt (pre ++ is) (length pre) is
has_all [] pre = tt
has_all (i ∷ is) pre =
    let within : length pre < length (pre ++ i ∷ is) = omega (arith, length-append pre (i ∷ is)) in
    let here = slice_get-get_or (pre ++ i ∷ is) (length pre) i within ∙ ap Some (get_or-append_seam pre i is i) in
    let n : length (pre ++ i ∷ []) ≡ length pre + 1 = omega (arith, length-append pre (i ∷ [])) in
    let rest = has_all is (pre ++ i ∷ []) in
    let rest' = subst (λ l. HasAt l (length (pre ++ i ∷ [])) is) (append_assoc pre (i ∷ []) is) rest in
    (here, subst (λ m. HasAt (pre ++ i ∷ is) m is) n rest')

-- where the code of one handler stands
pub record Split (f : Entry → Piece) (before after : List Entry) (d : Entry) (at r h : ℕ) : Type 0 where
  pub place : ℕ
  pub rest : ℕ
  pub loop : ℕ
  pub post : List OpCode
  pub place-is : place ≡ at + length (in_order (map f before) at r h)
  pub rest-is : rest ≡ r + rests_in (in_order (map f before) at r h)
  pub same : in_order (map f (before ++ d ∷ after)) at r h ≡ in_order (map f before) at r h ++ (f d place rest loop ++ post)

pub split : (f : Entry → Piece) (before after : List Entry) (d : Entry) (at r h : ℕ) → Split f before after d at r h
split f [] after d at r h = record {
  place = at;
  rest = r;
  loop = h;
  post = in_order (map f after) (at + length (f d at r h)) (r + rests_in (f d at r h)) (h + loops_in (f d at r h));
  place-is = omega arith;
  rest-is = omega arith;
  same = refl;
}
split f (b ∷ before) after d at r h =
    let c = f b at r h in
    let s = split f before after d (at + length c) (r + rests_in c) (h + loops_in c) in
    let pre = in_order (map f before) (at + length c) (r + rests_in c) (h + loops_in c) in
    record {
      place = s.place;
      rest = s.rest;
      loop = s.loop;
      post = s.post;
      place-is = omega (arith, s.place-is, length-append c pre);
      rest-is = omega (arith, s.rest-is, rests_in-append c pre);
      same = ap (λ l. c ++ l) s.same ∙ sym (append_assoc c pre (f d s.place s.rest s.loop ++ s.post));
    }

pub all_numbered : (p : Protocol) (entries : List Entry) (at r h : ℕ) → AllFine p entries →
    NumberedFrom r (in_order (map (entry_code p) entries) at r h)
all_numbered p [] at r h a = tt
all_numbered p (d ∷ entries) at r h a =
    let names = names_in d.state d.handler in
    let body = code_of p names d.handler.body at r (length names) in
    let c = body ++ op.Done ∷ [] in
    numbered-append c _ r (numbered-append body (op.Done ∷ []) r (numbers p names a.0 at r (length names)) (tt, tt))
    (all_numbered p entries (at + length c) (r + rests_in c) (h + loops_in c) a.1)

pub one_fine : (p : Protocol) (before after : List Entry) (d : Entry) → AllFine p (before ++ d ∷ after) →
    Fine p (names_in d.state d.handler) d.handler.body
one_fine p [] after d a = a.0
one_fine p (b ∷ before) after d a = one_fine p before after d a.1

module _ (p : Protocol) (code : Code) (compiled : IsCode p code) (fine : AllFine p (entries_of p)) where
  pub rests : RestsFollow code
  rests =
      rests_follow code (subst (NumberedFrom 0) (sym compiled.ops) (all_numbered p (entries_of p) 0 0 0 fine)) compiled.places

  -- the code of a handler follows its statements
  pub entry_follows : (before after : List Entry) (d : Entry) → entries_of p ≡ before ++ d ∷ after → (width : ℕ) →
      loops_in (body_code p before d) ≤ width → Follows p (names_in d.state d.handler)
      (length (names_in d.state d.handler) + width) code (length (entries_code p before)) d.handler.body []
  unfolding Leads
  entry_follows before after d e width room =
      let names = names_in d.state d.handler in
      let pre = entries_code p before in
      let body = body_code p before d in
      let s = split (entry_code p) before after d 0 0 0 in
      let place : s.place ≡ length pre = omega (arith, s.place-is) in
      let rest : s.rest ≡ rests_in pre = omega (arith, s.rest-is) in
      let ops = compiled.ops ∙ ap (entries_code p) e ∙ s.same in
      let stands = has_front (pre ++ (entry_code p d s.place s.rest s.loop ++ s.post)) (length pre)
      (entry_code p d s.place s.rest s.loop) s.post (has_all (entry_code p d s.place s.rest s.loop ++ s.post) pre) in
      let there = subst (λ o. HasAt o (length pre) (entry_code p d s.place s.rest s.loop)) (sym ops) stands in
      let moved = subst (λ q. HasAt code.ops (length pre) (entry_code p d q s.rest s.loop)) place there in
      let has : HasAt code.ops (length pre) (body ++ op.Done ∷ []) =
      subst (λ q. HasAt code.ops (length pre) (entry_code p d (length pre) q s.loop)) rest moved in
      let done = (has_back code.ops (length pre) body (op.Done ∷ []) has).0 in
      let f = placed p names code (length names + width) rests (one_fine p before after d (subst (AllFine p) e fine))
      (length pre) (rests_in pre) (length names) [] [] (omega arith) (omega arith)
      (has_front code.ops (length pre) body (op.Done ∷ []) has) (follows.ends done) in
      subst (λ stmts. Follows p names (length names + width) code (length pre) stmts []) (append-nil d.handler.body) f
