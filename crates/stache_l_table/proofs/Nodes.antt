-- The table speaks of n nodes, the meaning of eight: they agree where no other is a member.
use Rattle.std.proofs.Common.{◌≡◌, ℕ, zero, suc, ◌+◌, ◌-◌, ◌≤◌, Bool, false, refl, subst, arith, zero-add, suc-add}
use Rattle.block_spots.specs.Cases.{Here, Kind, Message, State, HomeRo, GetRo}
use Rattle.stache_table.proofs.Nodes as stache
use Rattle.stache_table.proofs.Nodes.{members-is}
use Rattle.stache_l_table.specs.Handling.{greatest, handle_by, home_ro}

greatest_past : (n d : ℕ) (s : ℕ → Bool) → ((i : ℕ) → n ≤ i → s i ≡ false) → greatest (d + n) s ≡ greatest n s
greatest_past n zero s none = rw zero-add
greatest_past n (suc d) s none = rw suc-add (rw (none (d + n) (omega arith)) (greatest_past n d s none))

greatest-is : (n : ℕ) (s : ℕ → Bool) → n ≤ 8 → ((i : ℕ) → n ≤ i → s i ≡ false) → greatest 8 s ≡ greatest n s
greatest-is n s le none =
    let e : (8 - n) + n ≡ 8 = omega arith in
    subst (λ k. greatest k s ≡ greatest n s) e (greatest_past n (8 - n) s none)

home_ro-is : (n home me : ℕ) (h : Here) (m : Message) (k : Kind) → n ≤ 8 → ((i : ℕ) → n ≤ i → h.sharers i ≡ false) →
    home_ro 8 me h m k ≡ home_ro n me h m k
home_ro-is n home me h m GetRo le none = rw (members-is n h.sharers le none, greatest-is n h.sharers le none)
home_ro-is n home me h m k le none = stache.home_ro-is n home me h m k le none

pub handle-is : (s : State) (n home me : ℕ) (h : Here) (m : Message) → n ≤ 8 →
    (s ≡ HomeRo → (i : ℕ) → n ≤ i → h.sharers i ≡ false) → handle_by s 8 home me h m ≡ handle_by s n home me h m
handle-is HomeRo n home me h m le none = home_ro-is n home me h m m.kind le (none refl)
handle-is _ n home me h m le none = refl
