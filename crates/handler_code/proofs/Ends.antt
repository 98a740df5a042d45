-- A machine comes to one end alone.
use Rattle.std.proofs.Common.{◌≡◌, subst}
use Rattle.teapot_tree.specs.declared.protocol.Protocol.{Protocol}
use Rattle.handler_code.specs.declared.code.Code.{Code}
use Rattle.handler_code.specs.Doors.{EntersOnce, entered}
use Rattle.handler_code.specs.Machine.{Machine, Move, Next, Runs, stops, moves, Stopped}

carried : (p : Protocol) (code : Code) (x : Move) (a b : Machine) (e : Stopped) → x ≡ Next a → x ≡ Next b → Runs p code b e →
    Runs p code a e
carried p code x a b e h k r = let same : b ≡ a = cc in subst (λ m. Runs p code m e) same r

pub one_stop : (p : Protocol) (code : Code) {m : Machine} {a b : Stopped} → Runs p code m a → Runs p code m b → a ≡ b
one_stop p code (stops h) (stops k) = cc
one_stop p code (stops h) (moves k y) = cc
one_stop p code (moves h x) (stops k) = cc
one_stop p code (moves h x) (moves k y) = one_stop p code x (carried p code _ _ _ _ h k y)

pub one_entrance : (p : Protocol) (code : Code) → EntersOnce p code
one_entrance p code me home block tag words cell chain m a b x y =
    let same : y.door ≡ x.door = cc (x.is_door, y.is_door) in
    one_stop p code x.runs (subst (λ d. Runs p code (entered p d me home block tag words cell chain m) b) same y.runs)
