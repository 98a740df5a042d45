-- Only the row that applies says what the message does.
use Rattle.std.proofs.Common.{◌≡◌, ◌∙◌, ℕ, zero, suc, true, false, Option, Some, None, refl, sym, ap, subst, arith}
use Rattle.std.specs.Prelude.{◌-◌, [], if◌then◌else◌, nat_lt, slice_get}
use Rattle.std.proofs.lemmas.Option.{same_Some}
use Rattle.tw_base.specs.declared.message.Message.{Message}
use Rattle.teapot_meaning.specs.declared.state.Ended.{Ended}
use Rattle.teapot_meaning.specs.declared.state.Here.{Here}
use Rattle.block_spots.specs.Cases as cases
use Rattle.block_spots.specs.Cases.{Effect, Kind, Rest, State, No, Stale, Ack, Put, NoRest, OfHome, OfLoad, OfCache, OfRo, OfRw}
use Rattle.block_spots.specs.Cases.{HomeAcks, HomePut, members, without_node}
use Rattle.block_spots.specs.Views.{seen_kind, seen_message}
use Rattle.stache_table.specs.Blocks.{Block, IsBlock, Matches, Shows, kept_of, read, seen}
use Rattle.stache_table.specs.Handling.{handle_by, handle_in, home_acks, home_put, last_ack, put_came}
use Rattle.stache_table.specs.Laws.{BlocksAreRead, TableIsMeaning}
use Rattle.stache_table.specs.Numbered.{Says, TableRow, last_row, put_row, row_at, rows}
use Rattle.stache_step.specs.Steps.{OnlyRow, row_for}
use Rattle.stache_step.proofs.Meant.{past_none}
use Rattle.stache_step.proofs.Seen.{same_row}

-- ---- a message that has a row of its own is not put off

abbrev IsNotKept : Option Effect → Type 0
IsNotKept (Some f) = f.kept ≡ No
IsNotKept None = Unit {0}

last_keeps : (me : ℕ) (h : cases.Here) (m : cases.Message) (rest : Rest) → IsNotKept (last_ack me h m rest)
last_keeps me h m OfHome = refl
last_keeps me h m (OfRw a) = refl
last_keeps me h m (OfRo a) = tt
last_keeps me h m NoRest = tt
last_keeps me h m OfLoad = tt
last_keeps me h m OfCache = tt

put_keeps : (me : ℕ) (h : cases.Here) (m : cases.Message) (rest : Rest) → IsNotKept (put_came me h m rest)
put_keeps me h m OfHome = refl
put_keeps me h m (OfRw a) = refl
put_keeps me h m (OfRo a) = refl
put_keeps me h m NoRest = tt
put_keeps me h m OfLoad = tt
put_keeps me h m OfCache = tt

ack_keeps : (me : ℕ) (h : cases.Here) (m : cases.Message) → IsNotKept (home_acks me h m Ack)
ack_keeps me h m =
    elim (nat_lt 1 h.acks)
    as (λ b. IsNotKept
    (if b then Some (record { here = record h { acks = h.acks - 1 }; sends = []; kept = No; freed = false; woke = false })
    else last_ack me h m h.rest)) [
      | true ↦ refl
      | false ↦ last_keeps me h m h.rest
    ]

acks_keep : (n home me : ℕ) (h : cases.Here) (m : cases.Message) → h.state ≡ HomeAcks → m.kind ≡ Ack →
    IsNotKept (handle_in n home me h m)
acks_keep n home me h m es ek =
    subst (λ s. IsNotKept (handle_by s n home me h m)) (sym es)
    (subst (λ k. IsNotKept (home_acks me h m k)) (sym ek) (ack_keeps me h m))

puts_keep : (n home me : ℕ) (h : cases.Here) (m : cases.Message) → h.state ≡ HomePut → m.kind ≡ Put →
    IsNotKept (handle_in n home me h m)
puts_keep n home me h m es ek =
    subst (λ s. IsNotKept (handle_by s n home me h m)) (sym es)
    (subst (λ k. IsNotKept (home_put me h m k)) (sym ek) (put_keeps me h m h.rest))

not_late :
    (b me home : ℕ) (x y : Block) (e : Ended) (f : Effect) (g : Option Effect) → IsNotKept g → Shows b me home x e g →
    Matches b me home e f y → f.kept ≡ Stale → ⊥
not_late b me home x y e f (Some g) keeps shows matches stale =
    let real = ap kept_of keeps in
    let told = ap kept_of stale in
    absurd (cc (real, told, shows.1.kept, matches.kept))
not_late b me home x y e f None keeps shows matches stale = absurd (cc (shows.0, matches.end))

-- ---- by the number of the row

acks_other : (k : Kind) (rest : Rest) (others acks : ℕ) → (k ≡ Ack → ⊥) → row_at HomeAcks k rest others acks ≡ Some 14
acks_other Ack rest others acks differs = absurd (differs refl)
acks_other _ rest others acks differs = refl

put_other : (k : Kind) (rest : Rest) (others acks : ℕ) → (k ≡ Put → ⊥) → row_at HomePut k rest others acks ≡ Some 18
put_other Put rest others acks differs = absurd (differs refl)
put_other _ rest others acks differs = refl

-- a message that is put off has no row of its own
record Late (h : cases.Here) (m : cases.Message) (f : Effect) : Type 0 where
  acks : f.kept ≡ Stale → h.state ≡ HomeAcks → m.kind ≡ Ack → ⊥
  puts : f.kept ≡ Stale → h.state ≡ HomePut → m.kind ≡ Put → ⊥

abbrev at : cases.Here → cases.Message → Option ℕ
at h m = row_at h.state m.kind h.rest (members 8 (without_node h.sharers m.from)) h.acks

own : (h : cases.Here) (m : cases.Message) (s : State) (k : Kind) → h.state ≡ s → m.kind ≡ k →
    at h m ≡ row_at s k h.rest (members 8 (without_node h.sharers m.from)) h.acks
own h m s k es ek = same_row _ _ _ _ _ _ _ _ _ _ es ek refl refl refl

in_state : (h : cases.Here) (m : cases.Message) (s : State) → h.state ≡ s →
    at h m ≡ row_at s m.kind h.rest (members 8 (without_node h.sharers m.from)) h.acks
in_state h m s es = same_row _ _ _ _ _ _ _ _ _ _ es refl refl refl refl

numbered : (home me : ℕ) (h : cases.Here) (m : cases.Message) (f : Effect) → Late h m f → (k : ℕ) (r : TableRow) →
    slice_get rows k ≡ Some r → Says 8 home me r h m f → at h m ≡ Some k
numbered home me h m f late zero r e is =
    let says = subst (λ (q : TableRow). Says 8 home me q h m f) (sym (same_Some _ _ e)) is in
    own h m cases.HomeRw cases.GetRo says.state says.on
numbered home me h m f late (suc zero) r e is =
    let says = subst (λ (q : TableRow). Says 8 home me q h m f) (sym (same_Some _ _ e)) is in
    own h m cases.HomeRw cases.GetRw says.state says.on
numbered home me h m f late (suc (suc zero)) r e is =
    let says = subst (λ (q : TableRow). Says 8 home me q h m f) (sym (same_Some _ _ e)) is in
    own h m cases.HomeRo cases.RdFault says.state says.on
numbered home me h m f late (suc (suc (suc zero))) r e is =
    let says = subst (λ (q : TableRow). Says 8 home me q h m f) (sym (same_Some _ _ e)) is in
    own h m cases.HomeRo cases.WrFault says.state says.on
numbered home me h m f late (suc (suc (suc (suc zero)))) r e is =
    let says = subst (λ (q : TableRow). Says 8 home me q h m f) (sym (same_Some _ _ e)) is in
    own h m cases.HomeRo cases.GetRo says.state says.on
numbered home me h m f late (suc (suc (suc (suc (suc zero))))) r e is =
    let says = subst (λ (q : TableRow). Says 8 home me q h m f) (sym (same_Some _ _ e)) is in
    own h m cases.HomeRo cases.GetRw says.state says.on ∙ ap (λ b. if b then Some 5 else Some 6) says.when
numbered home me h m f late (suc (suc (suc (suc (suc (suc zero)))))) r e is =
    let says = subst (λ (q : TableRow). Says 8 home me q h m f) (sym (same_Some _ _ e)) is in
    own h m cases.HomeRo cases.GetRw says.state says.on ∙ ap (λ b. if b then Some 5 else Some 6) says.when
numbered home me h m f late (suc (suc (suc (suc (suc (suc (suc zero))))))) r e is =
    let says = subst (λ (q : TableRow). Says 8 home me q h m f) (sym (same_Some _ _ e)) is in
    own h m cases.HomeExcl cases.RdFault says.state says.on
numbered home me h m f late (suc (suc (suc (suc (suc (suc (suc (suc zero)))))))) r e is =
    let says = subst (λ (q : TableRow). Says 8 home me q h m f) (sym (same_Some _ _ e)) is in
    own h m cases.HomeExcl cases.WrFault says.state says.on
numbered home me h m f late (suc (suc (suc (suc (suc (suc (suc (suc (suc zero))))))))) r e is =
    let says = subst (λ (q : TableRow). Says 8 home me q h m f) (sym (same_Some _ _ e)) is in
    own h m cases.HomeExcl cases.GetRo says.state says.on
numbered home me h m f late (suc (suc (suc (suc (suc (suc (suc (suc (suc (suc zero)))))))))) r e is =
    let says = subst (λ (q : TableRow). Says 8 home me q h m f) (sym (same_Some _ _ e)) is in
    own h m cases.HomeExcl cases.GetRw says.state says.on
numbered home me h m f late (suc (suc (suc (suc (suc (suc (suc (suc (suc (suc (suc zero))))))))))) r e is =
    let says = subst (λ (q : TableRow). Says 8 home me q h m f) (sym (same_Some _ _ e)) is in
    own h m cases.HomeAcks cases.Ack says.state says.on ∙ ap (λ b. if b then Some 11 else last_row h.rest) says.when
numbered home me h m f late (suc (suc (suc (suc (suc (suc (suc (suc (suc (suc (suc (suc zero)))))))))))) r e is =
    let says = subst (λ (q : TableRow). Says 8 home me q h m f) (sym (same_Some _ _ e)) is in
    own h m cases.HomeAcks cases.Ack says.state says.on ∙ ap (λ b. if b then Some 11 else last_row h.rest) says.when.0
    ∙ ap last_row says.when.1
numbered home me h m f late (suc (suc (suc (suc (suc (suc (suc (suc (suc (suc (suc (suc (suc zero))))))))))))) r e is =
    let says = subst (λ (q : TableRow). Says 8 home me q h m f) (sym (same_Some _ _ e)) is in
    own h m cases.HomeAcks cases.Ack says.state says.on ∙ ap (λ b. if b then Some 11 else last_row h.rest) says.when.0
    ∙ ap last_row says.when.1
numbered home me h m f late (suc (suc (suc (suc (suc (suc (suc (suc (suc (suc (suc (suc (suc (suc zero)))))))))))))) r e is =
    let says = subst (λ (q : TableRow). Says 8 home me q h m f) (sym (same_Some _ _ e)) is in
    in_state h m cases.HomeAcks says.state ∙ acks_other m.kind _ _ _ (late.acks says.kept says.state)
numbered home me h m f late (suc (suc (suc (suc (suc (suc (suc (suc (suc (suc (suc (suc (suc (suc (suc zero))))))))))))))) r e
    is =
    let says = subst (λ (q : TableRow). Says 8 home me q h m f) (sym (same_Some _ _ e)) is in
    own h m cases.HomePut cases.Put says.state says.on ∙ ap put_row says.when
numbered home me h m f late
    (suc (suc (suc (suc (suc (suc (suc (suc (suc (suc (suc (suc (suc (suc (suc (suc zero)))))))))))))))) r e is =
    let says = subst (λ (q : TableRow). Says 8 home me q h m f) (sym (same_Some _ _ e)) is in
    own h m cases.HomePut cases.Put says.state says.on ∙ ap put_row says.when
numbered home me h m f late
    (suc (suc (suc (suc (suc (suc (suc (suc (suc (suc (suc (suc (suc (suc (suc (suc (suc zero))))))))))))))))) r e is =
    let says = subst (λ (q : TableRow). Says 8 home me q h m f) (sym (same_Some _ _ e)) is in
    own h m cases.HomePut cases.Put says.state says.on ∙ ap put_row says.when
numbered home me h m f late
    (suc (suc (suc (suc (suc (suc (suc (suc (suc (suc (suc (suc (suc (suc (suc (suc (suc (suc zero)))))))))))))))))) r e is =
    let says = subst (λ (q : TableRow). Says 8 home me q h m f) (sym (same_Some _ _ e)) is in
    in_state h m cases.HomePut says.state ∙ put_other m.kind _ _ _ (late.puts says.kept says.state)
numbered home me h m f late
    (suc (suc (suc (suc (suc (suc (suc (suc (suc (suc (suc (suc (suc (suc (suc (suc (suc (suc (suc zero))))))))))))))))))) r e
    is =
    let says = subst (λ (q : TableRow). Says 8 home me q h m f) (sym (same_Some _ _ e)) is in
    own h m cases.CacheInv cases.RdFault says.state says.on
numbered home me h m f late
    (suc (suc (suc (suc
    (suc (suc (suc (suc (suc (suc (suc (suc (suc (suc (suc (suc (suc (suc (suc (suc zero)))))))))))))))))))) r e is =
    let says = subst (λ (q : TableRow). Says 8 home me q h m f) (sym (same_Some _ _ e)) is in
    own h m cases.CacheInv cases.WrFault says.state says.on
numbered home me h m f late
    (suc (suc (suc (suc
    (suc (suc (suc (suc (suc (suc (suc (suc (suc (suc (suc (suc (suc (suc (suc (suc (suc zero))))))))))))))))))))) r e is =
    let says = subst (λ (q : TableRow). Says 8 home me q h m f) (sym (same_Some _ _ e)) is in
    own h m cases.CacheRo cases.WrFault says.state says.on
numbered home me h m f late
    (suc (suc (suc (suc
    (suc (suc (suc (suc (suc (suc (suc (suc (suc (suc (suc (suc (suc (suc (suc (suc (suc (suc zero)))))))))))))))))))))) r e
    is =
    let says = subst (λ (q : TableRow). Says 8 home me q h m f) (sym (same_Some _ _ e)) is in
    own h m cases.CacheRo cases.Inv says.state says.on
numbered home me h m f late
    (suc (suc (suc (suc
    (suc (suc (suc (suc (suc (suc (suc (suc (suc (suc (suc (suc (suc (suc (suc (suc (suc (suc (suc zero)))))))))))))))))))))))
    r e is =
    let says = subst (λ (q : TableRow). Says 8 home me q h m f) (sym (same_Some _ _ e)) is in
    own h m cases.CacheRw cases.Recall says.state says.on
numbered home me h m f late
    (suc (suc (suc (suc
    (suc (suc (suc (suc
    (suc (suc (suc (suc (suc (suc (suc (suc (suc (suc (suc (suc (suc (suc (suc (suc zero)))))))))))))))))))))))) r e is =
    let says = subst (λ (q : TableRow). Says 8 home me q h m f) (sym (same_Some _ _ e)) is in
    own h m cases.CacheWaitRo cases.DataRo says.state says.on
numbered home me h m f late
    (suc (suc (suc (suc
    (suc (suc (suc (suc
    (suc (suc (suc (suc (suc (suc (suc (suc (suc (suc (suc (suc (suc (suc (suc (suc (suc zero))))))))))))))))))))))))) r e is =
    let says = subst (λ (q : TableRow). Says 8 home me q h m f) (sym (same_Some _ _ e)) is in
    own h m cases.CacheWaitRw cases.DataRw says.state says.on
numbered home me h m f late
    (suc (suc (suc (suc
    (suc (suc (suc (suc
    (suc (suc (suc (suc (suc (suc (suc (suc (suc (suc (suc (suc (suc (suc (suc (suc (suc (suc zero)))))))))))))))))))))))))) r
    e is =
    let says = subst (λ (q : TableRow). Says 8 home me q h m f) (sym (same_Some _ _ e)) is in
    own h m cases.CacheWaitRw cases.Inv says.state says.on
numbered home me h m f late
    (suc (suc (suc (suc
    (suc (suc (suc (suc
    (suc (suc (suc (suc (suc (suc (suc (suc (suc (suc (suc (suc (suc (suc (suc (suc (suc (suc (suc k)))))))))))))))))))))))))))
    r e is = absurd (cc e)

pub only_row : TableIsMeaning → BlocksAreRead → (here : Here) (m : Message) (row : Option ℕ) → row ≡ row_for here m →
    OnlyRow here m row
only_row table back here m row e p x end k r shipped block come does at_k ends =
    let h = seen (read here) in
    let sm = seen_message m in
    let whole : IsBlock here (read here) = subst (λ y. IsBlock here y) (sym (back.literal here x block)) block in
    let shows = table p here (read here) m (seen_kind m.kind) end 8 shipped whole come (omega arith)
    (λ in_ro i le. past_none (read here).set 8 i whole.fits.eight le) does in
    let late : Late h sm ends.effect = record {
      acks = λ stale es ek. not_late _ _ _ _ _ _ _ _ (acks_keep 8 here.home here.me h sm es ek) shows ends.matches stale;
      puts = λ stale es ek. not_late _ _ _ _ _ _ _ _ (puts_keep 8 here.home here.me h sm es ek) shows ends.matches stale;
    } in
    e ∙ numbered here.home here.me h sm ends.effect late k r at_k ends.says
