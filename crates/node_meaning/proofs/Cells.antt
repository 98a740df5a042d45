-- The cell of a block where the machine of ops has stopped, and the nodes in it.
use Rattle.std.proofs.Common.{◌≡◌, ℕ, zero, suc, ◌+◌, ◌-◌, ◌≤◌, List, [], ◌∷◌, ◌++◌, length, take, drop, ap, sym, ◌∙◌, arith}
use Rattle.std.proofs.Common.{length-append, length-drop}
use Rattle.std.specs.Prelude.{map, replicate, slice_get}
use Rattle.std.proofs.Math.Seq.{take-append_seam}
use Rattle.std.proofs.lemmas.List.{length-take}
use Rattle.tw_base.specs.Lists.{Each}
use Rattle.tw_base.specs.declared.value.Value.{Value}
use Rattle.tw_base.specs.declared.value.Value.TheVariants as v
use Rattle.teapot_tree.specs.declared.protocol.Protocol.{Protocol}
use Rattle.handler_code.specs.Doors.{filled}
use Rattle.handler_code.specs.Machine.{Saved, Stopped, state_arity}
use Rattle.handler_vm.specs.declared.cell.Cell.{Cell}
use Rattle.handler_vm.specs.Chains.{widened}
use Rattle.handler_vm.specs.Leaves.{HasState, kept_of}
use Rattle.value_nodes.specs.Within.{AreWithin, IsSavedWithin, IsValueWithin}
use Rattle.dsm_runs.proofs.Lists.{Each-append}

front : (xs ys : List Value) (n : ℕ) → length xs ≡ n → take n (xs ++ ys) ≡ xs
front xs ys n e = ap (λ k. take k (xs ++ ys)) (sym e) ∙ take-append_seam xs ys

-- The infos of the stop are as many as the protocol has, where the cell's infos are as many as they were.
infos_long : (p : Protocol) (old new : Cell) (s : Stopped) → HasState p old new s → length new.infos ≡ length old.infos
    → length p.infos ≤ length old.infos → length s.around.infos ≡ length p.infos
infos_long p old new s has same long =
    let all : length new.infos ≡ length s.around.infos + length (drop (length p.infos) old.infos) = ap length has.infos
    ∙ length-append s.around.infos (drop (length p.infos) old.infos) in
    let rest : length (drop (length p.infos) old.infos) ≡ length old.infos - length p.infos = length-drop (length p.infos)
    old.infos in
    omega (arith, all, rest, same, long)

-- The cell is the stop's, as the machine of ops sees it.
pub cell_is : (p : Protocol) (old new : Cell) (s : Stopped) → HasState p old new s → length new.infos ≡ length old.infos
    → length p.infos ≤ length old.infos
    → kept_of p new ≡ record { state = s.state; args = s.args; infos = s.around.infos }
cell_is p old new s has same long = λ j. record { state = has.state j; args = args j; infos = infos j }
  where
    args : take (state_arity (slice_get p.states new.state)) new.args ≡ s.args
    args =
        ap (λ n. take (state_arity (slice_get p.states n)) new.args) has.state
        ∙ ap (take (state_arity (slice_get p.states s.state))) has.args
        ∙ front s.args (replicate (4 - length s.args) (v.Int 0)) (state_arity (slice_get p.states s.state)) has.arity

    infos : take (length p.infos) new.infos ≡ s.around.infos
    infos = ap (take (length p.infos)) has.infos ∙ front s.around.infos (drop (length p.infos) old.infos) (length p.infos)
        (infos_long p old new s has same long)

-- as many values are there as are taken
pub taken_long : (n : ℕ) (xs : List Value) → length (take n xs) ≡ n → n ≤ length xs
taken_long n xs e = omega (arith, length-take n xs, e)

-- ---- nodes

zeros_within : (n k : ℕ) → AreWithin n (replicate k (v.Int 0))
zeros_within n zero = tt
zeros_within n (suc k) = (tt, zeros_within n k)

filled_within : (n slots : ℕ) (xs : List Value) → AreWithin n xs → AreWithin n (filled slots xs)
filled_within n slots xs h = Each-append (IsValueWithin n) xs (replicate (slots - length xs) (v.Int 0)) h
    (zeros_within n (slots - length xs))

pub widened_within : (n : ℕ) (chain : List Saved) → Each (IsSavedWithin n) chain → Each (IsSavedWithin n) (map widened chain)
widened_within n [] h = tt
widened_within n (x ∷ xs) h = ((filled_within n 21 x.values h.0.0, h.0.1), widened_within n xs h.1)
