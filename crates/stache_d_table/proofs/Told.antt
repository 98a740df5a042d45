-- A block is read off what stands at its node.
use Rattle.std.proofs.Common.{◌≡◌, ◌∙◌, ℕ, List, [], ◌∷◌, Option, Some, None, refl, ap, sym}
use Rattle.tw_base.specs.declared.value.Value.TheVariants as v
use Rattle.teapot_tree.specs.Bare.{bare_all}
use Rattle.teapot_tree.specs.declared.expr.Expr.{out-roll-Expr}
use Rattle.teapot_tree.specs.declared.stmt.Do.{out-roll-Do}
use Rattle.teapot_tree.specs.declared.stmt.Do.TheOpen.{Do-F}
use Rattle.teapot_tree.specs.declared.stmt.Stmt.{Stmt}
use Rattle.teapot_meaning.specs.Bare.{bare_cont}
use Rattle.teapot_meaning.specs.Layers.{Layer, what_of}
use Rattle.teapot_meaning.specs.declared.state.Cont.{Cont, out-Cont, out-roll-Cont}
use Rattle.teapot_meaning.specs.declared.state.Here.{Here}
use Rattle.teapot_meaning.specs.declared.state.StateVal.{out-StateVal, out-roll-StateVal}
use Rattle.teapot_meaning.proofs.Lines.{bare_layer, cont-out, opt, state-out, what-bare}
use Rattle.block_spots.specs.Cases as cases
use Rattle.block_spots.specs.Cases.{HomeRw, HomeRo, HomeExcl, HomeAcks, HomePut, CacheInv, CacheRo, CacheRw, CacheWaitRo}
use Rattle.block_spots.specs.Cases.{CacheWaitRw, NoRest, OfHome, OfLoad, OfRo, OfRw, OfCache}
use Rattle.block_spots.specs.Views.{state_numbered}
use Rattle.stache_table.specs.Blocks.{Block, LeftFits, left_of, number_of, sender_in}
use Rattle.stache_table.proofs.Told.{left-bare, left_cont, numbered}
use Rattle.stache_d_table.specs.Blocks.{IsBlock, RestFits, here_of, later_in, read, reads, rest_at, rest_by, rest_from}
use Rattle.stache_d_table.specs.Laws.{BlocksAreRead}
use Rattle.stache_table.specs.Runs.{cont_if}
use Rattle.stache_d_table.proofs.Bares.{is_block}

rest_by-bare : (l : Layer) (n : ℕ) → rest_by (bare_layer l) n ≡ rest_by l n
rest_by-bare (Do-F.If e first second) n = refl
rest_by-bare (Do-F.ForEach x e body) n = refl
rest_by-bare (Do-F.Each x set body) n = refl
rest_by-bare Do-F.WakeUp n = refl
rest_by-bare _ n = refl

rest_from-bare : (stmts : List Stmt) (n : ℕ) → rest_from (bare_all stmts) n ≡ rest_from stmts n
rest_from-bare [] n = refl
rest_from-bare (s ∷ stmts) n = ap (λ l. rest_by l n) (what-bare s) ∙ rest_by-bare (what_of s) n

reads-bare : (c : Option Cont) → reads (opt bare_cont c) ≡ reads c
reads-bare (Some k) = ap (λ z. rest_from z.rest (sender_in z.vars)) (cont-out k)
    ∙ rest_from-bare (out-Cont k).rest (sender_in (out-Cont k).vars)
reads-bare None = refl

later-read : (me : ℕ) (s : cases.State) (r : cases.Rest) (left : ℕ) → RestFits s r → reads (cont_if (later_in me s left r)) ≡ r
later-read me HomeAcks OfHome left fits = rw (out-roll-Cont, out-roll-Do)
later-read me HomeAcks (OfRw a) left fits = rw (out-roll-Cont, out-roll-Do)
later-read me HomePut OfHome left fits = rw (out-roll-Cont, out-roll-Do)
later-read me HomePut OfLoad left fits = rw (out-roll-Cont, out-roll-Do, out-roll-Expr)
later-read me HomePut (OfRo a) left fits = rw (out-roll-Cont, out-roll-Do, out-roll-Expr)
later-read me HomePut (OfRw a) left fits = rw (out-roll-Cont, out-roll-Do)
later-read me CacheWaitRo OfCache left fits = rw (out-roll-Cont, out-roll-Do)
later-read me CacheWaitRw OfCache left fits = rw (out-roll-Cont, out-roll-Do)
later-read me _ NoRest left fits = refl
later-read me _ _ left fits = absurd fits

left-read : (me : ℕ) (s : cases.State) (r : cases.Rest) (left : ℕ) → RestFits s r → LeftFits s left →
    left_of (cont_if (later_in me s left r)) ≡ left
left-read me HomeAcks OfHome left fits is = left_cont (rest_at HomeAcks OfHome) me left
left-read me HomeAcks (OfRw a) left fits is = left_cont (rest_at HomeAcks (OfRw a)) a left
left-read me HomePut OfHome left fits is = left_cont (rest_at HomePut OfHome) me left
left-read me HomePut OfLoad left fits is = left_cont (rest_at HomePut OfLoad) me left
left-read me HomePut (OfRo a) left fits is = left_cont (rest_at HomePut (OfRo a)) a left
left-read me HomePut (OfRw a) left fits is = left_cont (rest_at HomePut (OfRw a)) a left
left-read me CacheWaitRo OfCache left fits is = left_cont (rest_at CacheWaitRo OfCache) me left
left-read me CacheWaitRw OfCache left fits is = left_cont (rest_at CacheWaitRw OfCache) me left
left-read me HomeRw NoRest left fits is = sym is
left-read me HomeRo NoRest left fits is = sym is
left-read me HomeExcl NoRest left fits is = sym is
left-read me CacheInv NoRest left fits is = sym is
left-read me CacheRo NoRest left fits is = sym is
left-read me CacheRw NoRest left fits is = sym is
left-read me _ _ left fits is = absurd fits

literal : (here : Here) (x : Block) → IsBlock here x → read here ≡ x
literal here x is =
    let shown = ap (λ h. out-StateVal h.state) is.block ∙ out-roll-StateVal _ in
    let state : (out-StateVal here.state).state ≡ number_of x.state = ap (λ z. z.state) (sym (state-out here.state) ∙ shown) in
    let cont : opt bare_cont (out-StateVal here.state).cont ≡ cont_if (later_in here.me x.state x.left x.rest) =
    ap (λ z. z.cont) (sym (state-out here.state) ∙ shown) in
    let rest : reads (out-StateVal here.state).cont ≡ x.rest = sym (reads-bare (out-StateVal here.state).cont)
    ∙ (ap reads cont ∙ later-read here.me x.state x.rest x.left is.fits.rest) in
    let left : left_of (out-StateVal here.state).cont ≡ x.left = sym (left-bare (out-StateVal here.state).cont)
    ∙ (ap left_of cont ∙ left-read here.me x.state x.rest x.left is.fits.rest is.fits.left) in
    let infos : here.infos ≡ v.Set x.set ∷ v.Node x.owner ∷ v.Int x.acks ∷ [] = ap (λ h. h.infos) is.block in
    let named : state_numbered (out-StateVal here.state).state ≡ x.state = ap state_numbered state ∙ numbered x.state in
    joined here x named rest left infos (ap (λ h. h.tag) is.block) (ap (λ h. h.words) is.block)
  where
    joined : (here : Here) (x : Block) → state_numbered (out-StateVal here.state).state ≡ x.state →
        reads (out-StateVal here.state).cont ≡ x.rest → left_of (out-StateVal here.state).cont ≡ x.left →
        here.infos ≡ v.Set x.set ∷ v.Node x.owner ∷ v.Int x.acks ∷ [] → here.tag ≡ x.tag → here.words ≡ x.words → read here ≡ x
    joined here x s r l i t w = rw (s, r, l, i, t, w)

pub blocks_are_read : BlocksAreRead
blocks_are_read = record {
  literal = literal;
  back = λ me home b x fits. (is_block me home b x fits).block
      ∙ ap (here_of me home b) (sym (literal (here_of me home b x) x (is_block me home b x fits)));
}
