-- A block is read off what stands at its node.
use Rattle.std.proofs.Common.{◌≡◌, ◌∙◌, ℕ, [], ◌∷◌, Option, Some, None, refl, ap, sym, subst}
use Rattle.tw_base.specs.declared.value.Value.TheVariants as v
use Rattle.teapot_tree.specs.declared.stmt.Do.{out-roll-Do}
use Rattle.teapot_meaning.specs.Bare.{bare_cont}
use Rattle.teapot_meaning.specs.declared.state.Cont.{Cont, out-roll-Cont}
use Rattle.teapot_meaning.specs.declared.state.Here.{Here}
use Rattle.teapot_meaning.specs.declared.state.StateVal.{out-StateVal, out-roll-StateVal}
use Rattle.teapot_meaning.proofs.Lines.{cont-out, opt, state-out}
use Rattle.block_spots.specs.Cases as cases
use Rattle.block_spots.specs.Cases.{HomeRw, HomeRo, HomeExcl, HomeAcks, HomePut, CacheInv, CacheRo, CacheRw, CacheWaitRo}
use Rattle.block_spots.specs.Cases.{CacheWaitRw, NoRest, OfHome, OfRo, OfRw, OfCache}
use Rattle.block_spots.specs.Views.{state_numbered}
use Rattle.stache_table.specs.Blocks.{LeftFits, left_of, number_of, reads}
use Rattle.stache_table.specs.Runs.{cont_if}
use Rattle.stache_table.proofs.Told.{left-bare, left_cont, numbered, reads-bare}
use Rattle.stache_l_table.specs.Blocks.{Block, ChosenFits, IsBlock, IsLiteral, RestFits, chosen_of, here_of, later_in, read}
use Rattle.stache_l_table.specs.Blocks.{rest_at, second_in}
use Rattle.stache_l_table.specs.Laws.{BlocksAreRead}
use Rattle.stache_l_table.proofs.Bares.{is_block}

later-read : (me : ℕ) (s : cases.State) (r : cases.Rest) (left k : ℕ) → RestFits s r →
    reads (cont_if (later_in me s left k r)) ≡ r
later-read me HomeAcks OfHome left k fits = rw (out-roll-Cont, out-roll-Do)
later-read me HomeAcks (OfRo a) left k fits = rw (out-roll-Cont, out-roll-Do)
later-read me HomeAcks (OfRw a) left k fits = rw (out-roll-Cont, out-roll-Do)
later-read me HomePut OfHome left k fits = rw (out-roll-Cont, out-roll-Do)
later-read me HomePut (OfRo a) left k fits = rw (out-roll-Cont, out-roll-Do)
later-read me HomePut (OfRw a) left k fits = rw (out-roll-Cont, out-roll-Do)
later-read me CacheWaitRo OfCache left k fits = rw (out-roll-Cont, out-roll-Do)
later-read me CacheWaitRw OfCache left k fits = rw (out-roll-Cont, out-roll-Do)
later-read me HomeRw NoRest left k fits = refl
later-read me HomeRo NoRest left k fits = refl
later-read me HomeExcl NoRest left k fits = refl
later-read me CacheInv NoRest left k fits = refl
later-read me CacheRo NoRest left k fits = refl
later-read me CacheRw NoRest left k fits = refl
later-read me _ _ left k fits = absurd fits

left-read : (me : ℕ) (s : cases.State) (r : cases.Rest) (left k : ℕ) → RestFits s r → LeftFits s left →
    left_of (cont_if (later_in me s left k r)) ≡ left
left-read me HomeAcks OfHome left k fits is = left_cont (rest_at HomeAcks OfHome) me left
left-read me HomeAcks (OfRo a) left k fits is = ap (λ z. (out-StateVal z.saved).state) (out-roll-Cont _)
    ∙ ap (λ z. z.state) (out-roll-StateVal _)
left-read me HomeAcks (OfRw a) left k fits is = left_cont (rest_at HomeAcks (OfRw a)) a left
left-read me HomePut OfHome left k fits is = left_cont (rest_at HomePut OfHome) me left
left-read me HomePut (OfRo a) left k fits is = left_cont (rest_at HomePut (OfRo a)) a left
left-read me HomePut (OfRw a) left k fits is = left_cont (rest_at HomePut (OfRw a)) a left
left-read me CacheWaitRo OfCache left k fits is = left_cont (rest_at CacheWaitRo OfCache) me left
left-read me CacheWaitRw OfCache left k fits is = left_cont (rest_at CacheWaitRw OfCache) me left
left-read me HomeRw NoRest left k fits is = sym is
left-read me HomeRo NoRest left k fits is = sym is
left-read me HomeExcl NoRest left k fits is = sym is
left-read me CacheInv NoRest left k fits is = sym is
left-read me CacheRo NoRest left k fits is = sym is
left-read me CacheRw NoRest left k fits is = sym is
left-read me _ _ left k fits is = absurd fits

chosen-read : (me : ℕ) (s : cases.State) (r : cases.Rest) (left k : ℕ) → RestFits s r → ChosenFits s r k →
    chosen_of (cont_if (later_in me s left k r)) ≡ k
chosen-read me HomeAcks OfHome left k fits is = rw out-roll-Cont (sym is)
chosen-read me HomeAcks (OfRo a) left k fits is = rw out-roll-Cont
chosen-read me HomeAcks (OfRw a) left k fits is = rw out-roll-Cont (sym is)
chosen-read me HomePut OfHome left k fits is = rw out-roll-Cont (sym is)
chosen-read me HomePut (OfRo a) left k fits is = rw out-roll-Cont (sym is)
chosen-read me HomePut (OfRw a) left k fits is = rw out-roll-Cont (sym is)
chosen-read me CacheWaitRo OfCache left k fits is = rw out-roll-Cont (sym is)
chosen-read me CacheWaitRw OfCache left k fits is = rw out-roll-Cont (sym is)
chosen-read me HomeRw NoRest left k fits is = sym is
chosen-read me HomeRo NoRest left k fits is = sym is
chosen-read me HomeExcl NoRest left k fits is = sym is
chosen-read me CacheInv NoRest left k fits is = sym is
chosen-read me CacheRo NoRest left k fits is = sym is
chosen-read me CacheRw NoRest left k fits is = sym is
chosen-read me _ _ left k fits is = absurd fits

chosen-bare : (c : Option Cont) → chosen_of (opt bare_cont c) ≡ chosen_of c
chosen-bare (Some k) = ap (λ z. second_in z.vars) (cont-out k)
chosen-bare None = refl

literal : (here : Here) (x : Block) → IsBlock here x → read here ≡ x
literal here x is =
    let shown = ap (λ h. out-StateVal h.state) is.block ∙ out-roll-StateVal _ in
    let state : (out-StateVal here.state).state ≡ number_of x.base.state =
    ap (λ z. z.state) (sym (state-out here.state) ∙ shown) in
    let cont : opt bare_cont (out-StateVal here.state).cont ≡ cont_if
    (later_in here.me x.base.state x.base.left x.chosen x.base.rest) =
    ap (λ z. z.cont) (sym (state-out here.state) ∙ shown) in
    let rest : reads (out-StateVal here.state).cont ≡ x.base.rest = sym (reads-bare (out-StateVal here.state).cont)
    ∙ (ap reads cont ∙ later-read here.me x.base.state x.base.rest x.base.left x.chosen is.fits.rest) in
    let left : left_of (out-StateVal here.state).cont ≡ x.base.left = sym (left-bare (out-StateVal here.state).cont)
    ∙ (ap left_of cont ∙ left-read here.me x.base.state x.base.rest x.base.left x.chosen is.fits.rest is.fits.left) in
    let infos : here.infos ≡ v.Set x.base.set ∷ v.Node x.base.owner ∷ v.Int x.base.acks ∷ [] = ap (λ h. h.infos) is.block in
    let named : state_numbered (out-StateVal here.state).state ≡ x.base.state = ap state_numbered state ∙ numbered x.base.state in
    let chosen : chosen_of (out-StateVal here.state).cont ≡ x.chosen = sym (chosen-bare (out-StateVal here.state).cont)
    ∙ (ap chosen_of cont ∙ chosen-read here.me x.base.state x.base.rest x.base.left x.chosen is.fits.rest is.fits.chosen) in
    joined here x named rest left chosen infos (ap (λ h. h.tag) is.block) (ap (λ h. h.words) is.block)
  where
    joined : (here : Here) (x : Block) → state_numbered (out-StateVal here.state).state ≡ x.base.state →
        reads (out-StateVal here.state).cont ≡ x.base.rest → left_of (out-StateVal here.state).cont ≡ x.base.left →
        chosen_of (out-StateVal here.state).cont ≡ x.chosen →
        here.infos ≡ v.Set x.base.set ∷ v.Node x.base.owner ∷ v.Int x.base.acks ∷ [] → here.tag ≡ x.base.tag →
        here.words ≡ x.base.words → read here ≡ x
    joined here x s r l k i t w = rw (s, r, l, k, i, t, w)

pub blocks_are_read : BlocksAreRead
blocks_are_read = record {
  literal = literal;
  back = λ me home b x fits. (is_block me home b x fits).block
      ∙ ap (here_of me home b) (sym (literal (here_of me home b x) x (is_block me home b x fits)));
}

-- ---- a block without the rest of a GET_RO that met two sharers has no node chosen

unchosen : (me : ℕ) (s : cases.State) (r : cases.Rest) (left k : ℕ) → RestFits s r →
    ChosenFits s r (chosen_of (cont_if (later_in me s left k r)))
unchosen me HomeAcks OfHome left k fits = rw out-roll-Cont refl
unchosen me HomeAcks (OfRo a) left k fits = tt
unchosen me HomeAcks (OfRw a) left k fits = rw out-roll-Cont refl
unchosen me HomePut OfHome left k fits = rw out-roll-Cont refl
unchosen me HomePut (OfRo a) left k fits = rw out-roll-Cont refl
unchosen me HomePut (OfRw a) left k fits = rw out-roll-Cont refl
unchosen me CacheWaitRo OfCache left k fits = rw out-roll-Cont refl
unchosen me CacheWaitRw OfCache left k fits = rw out-roll-Cont refl
unchosen me HomeRw NoRest left k fits = refl
unchosen me HomeRo NoRest left k fits = refl
unchosen me HomeExcl NoRest left k fits = refl
unchosen me CacheInv NoRest left k fits = refl
unchosen me CacheRo NoRest left k fits = refl
unchosen me CacheRw NoRest left k fits = refl
unchosen me _ _ left k fits = absurd fits

pub chosen-fits : (here : Here) → IsLiteral here → RestFits (read here).base.state (read here).base.rest →
    ChosenFits (read here).base.state (read here).base.rest (read here).chosen
chosen-fits here is fits =
    let x = read here in
    let shown = ap (λ h. out-StateVal h.state) is ∙ out-roll-StateVal _ in
    let cont : opt bare_cont (out-StateVal here.state).cont ≡ cont_if
    (later_in here.me x.base.state x.base.left x.chosen x.base.rest) =
    ap (λ z. z.cont) (sym (state-out here.state) ∙ shown) in
    let same : x.chosen ≡ chosen_of (cont_if (later_in here.me x.base.state x.base.left x.chosen x.base.rest)) =
    sym (chosen-bare (out-StateVal here.state).cont) ∙ ap chosen_of cont in
    subst (λ k. ChosenFits x.base.state x.base.rest k) (sym same)
    (unchosen here.me x.base.state x.base.rest x.base.left x.chosen fits)
