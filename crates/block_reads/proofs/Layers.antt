-- A block and its continuation with every line 0, part by part.
use Rattle.std.proofs.Common.{◌≡◌, ◌≤◌, arith, ℕ, zero, suc, List, [], Option, Some, None, refl, ap, sym, ◌∙◌}
use Rattle.std.specs.Prelude.{◌↔◌}
use Rattle.tw_base.specs.declared.value.Data.{Data}
use Rattle.tw_base.specs.declared.value.Value.{Value}
use Rattle.teapot_tree.specs.Bare.{bare_all}
use Rattle.teapot_tree.specs.declared.stmt.Stmt.{Stmt}
use Rattle.teapot_meaning.specs.Bare.{bare_cont, bare_val}
use Rattle.teapot_meaning.specs.declared.state.Bound.{Bound}
use Rattle.teapot_meaning.specs.declared.state.Cont.{Cont, roll-Cont, out-Cont, roll-out-Cont, out-roll-Cont, fold_out-Cont}
use Rattle.teapot_meaning.specs.declared.state.StateVal.{StateVal, roll-StateVal, out-StateVal, roll-out-StateVal}
use Rattle.teapot_meaning.specs.declared.state.StateVal.{out-roll-StateVal, fold_out-StateVal, map-StateVal}
use Rattle.stache_tree.specs.Code.{Code, stmts_of}
use Rattle.block_spots.specs.Cases.{CacheInv, NoRest}
use Rattle.block_spots.specs.Views.{state_numbered}
use Rattle.stache_table.specs.Blocks.{number_of}
use Rattle.stache_check.specs.declared.directory.Directory.{Directory}
use Rattle.stache_check.specs.declared.directory.Directory.TheVariants.{Stache, StacheD, StacheL}
use Rattle.block_reads.specs.Tables.{reads_under}
use Rattle.block_reads.specs.Whose.{opt}
use Rattle.stache_table.specs.Runs.{alone, cont_of, state_val, cont_if, Later}

pub state-out : (s : StateVal) → out-StateVal (bare_val s) ≡ record
    { state = (out-StateVal s).state; args = (out-StateVal s).args; cont = opt bare_cont (out-StateVal s).cont }
unfolding bare_val bare_cont
state-out s =
    rw fold_out-StateVal (rw out-roll-StateVal (by_cont (out-StateVal s).state (out-StateVal s).args (out-StateVal s).cont))
  where
    by_cont : (n : ℕ) (args : List Value) (c : Option Cont) →
        map-StateVal Cont StateVal Cont StateVal bare_cont bare_val (record { state = n; args = args; cont = c })
        ≡ record { state = n; args = args; cont = opt bare_cont c }
    by_cont n args (Some k) = refl
    by_cont n args None = refl

pub cont-out : (k : Cont) → out-Cont (bare_cont k) ≡ record {
  rest = bare_all (out-Cont k).rest;
  vars = (out-Cont k).vars;
  came = (out-Cont k).came;
  saved = bare_val (out-Cont k).saved;
}
unfolding bare_val bare_cont
cont-out k = rw fold_out-Cont (rw out-roll-Cont refl)

no_cont : (c : Option Cont) → opt bare_cont c ≡ None → c ≡ None
no_cont None e = refl
no_cont (Some k) e = absurd cc

-- a state without arguments and continuation
pub alone-parts : (s : StateVal) (n : ℕ) → (bare_val s ≡ alone n) ↔
    (((out-StateVal s).state ≡ n) × ((out-StateVal s).args ≡ []) × ((out-StateVal s).cont ≡ None))
alone-parts s n = (
  λ h. (
    simp (state-out, out-roll-StateVal) at (ap (λ (z : StateVal). (out-StateVal z).state) h),
    simp (state-out, out-roll-StateVal) at (ap (λ (z : StateVal). (out-StateVal z).args) h),
    no_cont _ (simp (state-out, out-roll-StateVal) at (ap (λ (z : StateVal). (out-StateVal z).cont) h)),
  ),
  λ h. sym (roll-out-StateVal (bare_val s)) ∙ ap roll-StateVal (state-out s) ∙ whole _ _ _ h.0 h.1 h.2,
)
  where
    whole : (m : ℕ) (args : List Value) (c : Option Cont) → m ≡ n → args ≡ [] → c ≡ None →
        roll-StateVal (record { state = m; args = args; cont = opt bare_cont c }) ≡ alone n
    whole m args c i j k = let q = ap (opt bare_cont) k in cc

-- a continuation that was saved by this code
pub cont-parts : (k : Cont) (c : Code) (vars : List Bound) (n : ℕ) →
    (bare_cont k ≡ cont_of (record { rest = c; vars = vars; came = None; state = n })) ↔
    ((bare_all (out-Cont k).rest ≡ stmts_of c) × ((out-Cont k).vars ≡ vars) × ((out-Cont k).came ≡ None)
    × (bare_val (out-Cont k).saved ≡ alone n))
cont-parts k c vars n = (
  λ h. (
    simp (cont-out, out-roll-Cont) at (ap (λ (z : Cont). (out-Cont z).rest) h),
    simp (cont-out, out-roll-Cont) at (ap (λ (z : Cont). (out-Cont z).vars) h),
    simp (cont-out, out-roll-Cont) at (ap (λ (z : Cont). (out-Cont z).came) h),
    simp (cont-out, out-roll-Cont) at (ap (λ (z : Cont). (out-Cont z).saved) h),
  ),
  λ h. sym (roll-out-Cont (bare_cont k)) ∙ ap roll-Cont (cont-out k) ∙ whole _ _ _ _ h.0 h.1 h.2 h.3,
)
  where
    whole : (rest : List Stmt) (vs : List Bound) (came : Option Data) (s : StateVal) → rest ≡ stmts_of c → vs ≡ vars →
        came ≡ None → s ≡ alone n →
        roll-Cont (record { rest = rest; vars = vs; came = came; saved = s })
        ≡ cont_of (record { rest = c; vars = vars; came = None; state = n })
    whole rest vs came s i j l m = cc

-- a state whose continuation is given in the notation
pub state-parts : (s : StateVal) (n : ℕ) (l : Option Later) →
    (bare_val s ≡ state_val n l) ↔ (((out-StateVal s).state ≡ n) × ((out-StateVal s).args ≡ [])
    × (opt bare_cont (out-StateVal s).cont ≡ cont_if l))
state-parts s n l = (
  λ h. (
    simp (state-out, out-roll-StateVal) at (ap (λ (z : StateVal). (out-StateVal z).state) h),
    simp (state-out, out-roll-StateVal) at (ap (λ (z : StateVal). (out-StateVal z).args) h),
    simp (state-out, out-roll-StateVal) at (ap (λ (z : StateVal). (out-StateVal z).cont) h),
  ),
  λ h. sym (roll-out-StateVal (bare_val s)) ∙ ap roll-StateVal (state-out s) ∙ whole _ _ _ h.0 h.1 h.2,
)
  where
    whole : (m : ℕ) (args : List Value) (c : Option Cont) → m ≡ n → args ≡ [] → c ≡ cont_if l →
        roll-StateVal (record { state = m; args = args; cont = c }) ≡ state_val n l
    whole m args c i j k = cc

-- past the last state
pub past_state : (n : ℕ) → 10 ≤ n → state_numbered n ≡ CacheInv
past_state zero h = absurd (omega arith)
past_state (suc zero) h = absurd (omega arith)
past_state (suc (suc zero)) h = absurd (omega arith)
past_state (suc (suc (suc zero))) h = absurd (omega arith)
past_state (suc (suc (suc (suc zero)))) h = absurd (omega arith)
past_state (suc (suc (suc (suc (suc zero))))) h = absurd (omega arith)
past_state (suc (suc (suc (suc (suc (suc zero)))))) h = absurd (omega arith)
past_state (suc (suc (suc (suc (suc (suc (suc zero))))))) h = absurd (omega arith)
past_state (suc (suc (suc (suc (suc (suc (suc (suc zero)))))))) h = absurd (omega arith)
past_state (suc (suc (suc (suc (suc (suc (suc (suc (suc zero))))))))) h = absurd (omega arith)
past_state (suc (suc (suc (suc (suc (suc (suc (suc (suc (suc n)))))))))) h = refl

pub past : (n : ℕ) → 10 ≤ n → number_of (state_numbered n) ≡ 5
past n h = ap number_of (past_state n h)

-- without a continuation none is read
pub reads_none : (d : Directory) → reads_under d None ≡ NoRest
reads_none Stache = refl
reads_none StacheD = refl
reads_none StacheL = refl

pub ruleset parts = (alone-parts, cont-parts)

pub ruleset places = (state-parts, past)
