-- ForEach is no keyword in profile 1.
use Rattle.std.proofs.Common.{◌≡◌, Bool, true, false, cond, List, Option, Some, None, ℕ}
use Rattle.std.specs.Prelude.{codes}
use Rattle.std.specs.Str.{bytes_eq}
use Rattle.teapot_tree.specs.declared.keyword.Keyword.{Keyword}
use Rattle.teapot_tree.specs.declared.keyword.Keyword.TheVariants as k
use Rattle.teapot_tree.specs.Keywords.{keyword_of}

skips : (b : Bool) (key : Keyword) (rest : Option Keyword) → (Some key ≡ Some k.ForEach → ⊥) → (rest ≡ Some k.ForEach → ⊥) →
    cond b (Some key) rest ≡ Some k.ForEach → ⊥
skips true key rest other below e = other e
skips false key rest other below e = below e

none : None ≡ Some k.ForEach → ⊥
none e = cc

other-Protocol : Some k.Protocol ≡ Some k.ForEach → ⊥
other-Protocol e = cc

other-Message : Some k.Message ≡ Some k.ForEach → ⊥
other-Message e = cc

other-Info : Some k.Info ≡ Some k.ForEach → ⊥
other-Info e = cc

other-HomeStart : Some k.HomeStart ≡ Some k.ForEach → ⊥
other-HomeStart e = cc

other-CacheStart : Some k.CacheStart ≡ Some k.ForEach → ⊥
other-CacheStart e = cc

other-State : Some k.State ≡ Some k.ForEach → ⊥
other-State e = cc

other-On : Some k.On ≡ Some k.ForEach → ⊥
other-On e = cc

other-Default : Some k.Default ≡ Some k.ForEach → ⊥
other-Default e = cc

other-Local : Some k.Local ≡ Some k.ForEach → ⊥
other-Local e = cc

other-Begin : Some k.Begin ≡ Some k.ForEach → ⊥
other-Begin e = cc

other-End : Some k.End ≡ Some k.ForEach → ⊥
other-End e = cc

other-If : Some k.If ≡ Some k.ForEach → ⊥
other-If e = cc

other-Else : Some k.Else ≡ Some k.ForEach → ⊥
other-Else e = cc

other-Send : Some k.Send ≡ Some k.ForEach → ⊥
other-Send e = cc

other-SendAll : Some k.SendAll ≡ Some k.ForEach → ⊥
other-SendAll e = cc

other-SetTag : Some k.SetTag ≡ Some k.ForEach → ⊥
other-SetTag e = cc

other-SetState : Some k.SetState ≡ Some k.ForEach → ⊥
other-SetState e = cc

other-Suspend : Some k.Suspend ≡ Some k.ForEach → ⊥
other-Suspend e = cc

other-Resume : Some k.Resume ≡ Some k.ForEach → ⊥
other-Resume e = cc

other-Error : Some k.Error ≡ Some k.ForEach → ⊥
other-Error e = cc

other-Install : Some k.Install ≡ Some k.ForEach → ⊥
other-Install e = cc

other-Enqueue : Some k.Enqueue ≡ Some k.ForEach → ⊥
other-Enqueue e = cc

other-WakeUp : Some k.WakeUp ≡ Some k.ForEach → ⊥
other-WakeUp e = cc

other-Int : Some k.Int ≡ Some k.ForEach → ⊥
other-Int e = cc

other-Bool : Some k.Bool ≡ Some k.ForEach → ⊥
other-Bool e = cc

other-Node : Some k.Node ≡ Some k.ForEach → ⊥
other-Node e = cc

other-Set : Some k.Set ≡ Some k.ForEach → ⊥
other-Set e = cc

other-Invalid : Some k.Invalid ≡ Some k.ForEach → ⊥
other-Invalid e = cc

other-ReadOnly : Some k.ReadOnly ≡ Some k.ForEach → ⊥
other-ReadOnly e = cc

other-ReadWrite : Some k.ReadWrite ≡ Some k.ForEach → ⊥
other-ReadWrite e = cc

other-True : Some k.True ≡ Some k.ForEach → ⊥
other-True e = cc

other-False : Some k.False ≡ Some k.ForEach → ⊥
other-False e = cc

other-Empty : Some k.Empty ≡ Some k.ForEach → ⊥
other-Empty e = cc

other-Src : Some k.Src ≡ Some k.ForEach → ⊥
other-Src e = cc

other-SelfNode : Some k.SelfNode ≡ Some k.ForEach → ⊥
other-SelfNode e = cc

other-Home : Some k.Home ≡ Some k.ForEach → ⊥
other-Home e = cc

other-One : Some k.One ≡ Some k.ForEach → ⊥
other-One e = cc

other-Not : Some k.Not ≡ Some k.ForEach → ⊥
other-Not e = cc

other-Count : Some k.Count ≡ Some k.ForEach → ⊥
other-Count e = cc

other-Has : Some k.Has ≡ Some k.ForEach → ⊥
other-Has e = cc

other-With : Some k.With ≡ Some k.ForEach → ⊥
other-With e = cc

other-Without : Some k.Without ≡ Some k.ForEach → ⊥
other-Without e = cc

other-Data : Some k.Data ≡ Some k.ForEach → ⊥
other-Data e = cc

other-RdFault : Some k.RdFault ≡ Some k.ForEach → ⊥
other-RdFault e = cc

other-WrFault : Some k.WrFault ≡ Some k.ForEach → ⊥
other-WrFault e = cc

pub no-for_each : (w : List ℕ) → keyword_of 1 w ≡ Some k.ForEach → ⊥
unfolding keyword_of
no-for_each w = skips (bytes_eq w (codes "Protocol")) k.Protocol _ other-Protocol
    (skips (bytes_eq w (codes "Message")) k.Message _ other-Message
    (skips (bytes_eq w (codes "Info")) k.Info _ other-Info (skips
    (bytes_eq w (codes "HomeStart")) k.HomeStart _ other-HomeStart
    (skips (bytes_eq w (codes "CacheStart")) k.CacheStart _ other-CacheStart
    (skips (bytes_eq w (codes "State")) k.State _ other-State
    (skips (bytes_eq w (codes "On")) k.On _ other-On (skips (bytes_eq w (codes "Default")) k.Default _ other-Default
    (skips (bytes_eq w (codes "Local")) k.Local _ other-Local
    (skips (bytes_eq w (codes "Begin")) k.Begin _ other-Begin
    (skips (bytes_eq w (codes "End")) k.End _ other-End (skips (bytes_eq w (codes "If")) k.If _ other-If
    (skips (bytes_eq w (codes "Else")) k.Else _ other-Else (skips (bytes_eq w (codes "Send")) k.Send _ other-Send
    (skips (bytes_eq w (codes "SendAll")) k.SendAll _ other-SendAll
    (skips (bytes_eq w (codes "SetTag")) k.SetTag _ other-SetTag
    (skips (bytes_eq w (codes "SetState")) k.SetState _ other-SetState
    (skips (bytes_eq w (codes "Suspend")) k.Suspend _ other-Suspend
    (skips (bytes_eq w (codes "Resume")) k.Resume _ other-Resume
    (skips (bytes_eq w (codes "Error")) k.Error _ other-Error
    (skips (bytes_eq w (codes "Install")) k.Install _ other-Install
    (skips (bytes_eq w (codes "Enqueue")) k.Enqueue _ other-Enqueue
    (skips (bytes_eq w (codes "WakeUp")) k.WakeUp _ other-WakeUp
    (skips (bytes_eq w (codes "Int")) k.Int _ other-Int (skips (bytes_eq w (codes "Bool")) k.Bool _ other-Bool
    (skips (bytes_eq w (codes "Node")) k.Node _ other-Node (skips (bytes_eq w (codes "Set")) k.Set _ other-Set
    (skips (bytes_eq w (codes "Invalid")) k.Invalid _ other-Invalid
    (skips (bytes_eq w (codes "ReadOnly")) k.ReadOnly _ other-ReadOnly
    (skips (bytes_eq w (codes "ReadWrite")) k.ReadWrite _ other-ReadWrite
    (skips (bytes_eq w (codes "True")) k.True _ other-True (skips (bytes_eq w (codes "False")) k.False _ other-False
    (skips (bytes_eq w (codes "Empty")) k.Empty _ other-Empty
    (skips (bytes_eq w (codes "src")) k.Src _ other-Src (skips (bytes_eq w (codes "self")) k.SelfNode _ other-SelfNode
    (skips (bytes_eq w (codes "home")) k.Home _ other-Home (skips (bytes_eq w (codes "One")) k.One _ other-One
    (skips (bytes_eq w (codes "Not")) k.Not _ other-Not (skips (bytes_eq w (codes "Count")) k.Count _ other-Count
    (skips (bytes_eq w (codes "Has")) k.Has _ other-Has (skips (bytes_eq w (codes "With")) k.With _ other-With
    (skips (bytes_eq w (codes "Without")) k.Without _ other-Without
    (skips (bytes_eq w (codes "data")) k.Data _ other-Data (skips (bytes_eq w (codes "RD_FAULT")) k.RdFault _ other-RdFault
    (skips (bytes_eq w (codes "WR_FAULT")) k.WrFault _ other-WrFault none))))))))))))))))))))))))))))))))))))))))))))
