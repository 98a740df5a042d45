-- A look at an op is a look at the instruction of the plain program.
use Rattle.std.proofs.Common.{◌≡◌, ℕ, ◌+◌, ◌*◌, ◌<◌, ◌⊎◌, inl, inr, Bool, true, false, nat_lt, if◌then◌else◌, List, [], ◌∷◌}
use Rattle.std.proofs.Common.{slice_get, slice_index, Option, Some, None, IfSome, refl, ap, sym, ◌∙◌, subst}
use Rattle.std.proofs.lemmas.Bool.{ltb-true, lt-ltb}
use Rattle.std.proofs.lemmas.Option.{none-some}
use Rattle.tw_base.specs.declared.entry.Trap.TheVariants.{BadAddress}
use Rattle.block_tags.specs.Copies.{Copies}
use Rattle.mini_asm.specs.Machine.{wrap, access, fetch_and_add, asks}
use Rattle.mini_asm.specs.Programs.{HasRegisters, IsProgram}
use Rattle.mini_asm.specs.declared.cpu.Next.{Next}
use Rattle.mini_asm.specs.declared.cpu.Next.TheVariants as nexts
use Rattle.mini_asm.specs.declared.instr.Instr.{Instr}
use Rattle.mini_asm.specs.declared.instr.Instr.TheVariants.{Ld, St, Beq, Faa}
use Rattle.blizzard_guard.specs.declared.guarding.GuardOp.{GuardOp}
use Rattle.blizzard_guard.specs.declared.guarding.GuardOp.TheVariants.{Check, Do}
use Rattle.blizzard_guard.specs.declared.processor.Look.TheVariants.{Refused, Goes}
use Rattle.blizzard_guard.specs.Guarding.{check_of, first_op, moved}
use Rattle.blizzard_guard.specs.Running.{IsAccessOf, IsAnswered, MayGoAt, MayGo, LookedAt, check_here, instr_here}
use Rattle.blizzard_guard.proofs.Standing.{Standing, AtEnd, AtPlain, AtAccess, is_check, no_check, instr_of, registers_moved}
use Rattle.blizzard_guard.proofs.Standing.{base_of}

-- ---- what an instruction asks for

asks_moved : (f : ℕ → ℕ) (i : Instr) (regs : List ℕ) (size : ℕ) → asks (Some (moved f i)) regs size ≡ asks (Some i) regs size
asks_moved f (Beq a b place) regs size = refl
asks_moved f _ regs size = refl

may_go_plain : (m : Copies) (i : Instr) (regs : List ℕ) (size : ℕ) → check_of i ≡ [] → MayGo m (asks (Some i) regs size)
may_go_plain m (Ld d a n) regs size e = cc
may_go_plain m (St s a n) regs size e = cc
may_go_plain m (Faa d s a n) regs size e = cc
may_go_plain m _ regs size e = tt

-- an access asks for the word at the address of its check
abbrev Asks : Next → Bool → ℕ → ℕ → Type 0
Asks n store address size =
    (value : ℕ) × ((n ≡ access store address value size) ⊎ ((true ≡ store) × (n ≡ fetch_and_add address value size)))

asks_access : (i : Instr) (store : Bool) (base offset : ℕ) (regs : List ℕ) (size : ℕ) → check_of i ≡ Check store base offset ∷ []
    → Asks (asks (Some i) regs size) store (wrap (slice_index regs base + offset)) size
asks_access (Ld d a n) store base offset regs size e =
    let s : false ≡ store = cc in
    let b : a ≡ base = cc in
    let o : n ≡ offset = cc in (
      0,
      inl (ap (λ (t : Bool). access t (wrap (slice_index regs a + n)) 0 size) s
          ∙ ap (λ k. access store (wrap (slice_index regs k + n)) 0 size) b
          ∙ ap (λ k. access store (wrap (slice_index regs base + k)) 0 size) o),
    )
asks_access (St r a n) store base offset regs size e =
    let s : true ≡ store = cc in
    let b : a ≡ base = cc in
    let o : n ≡ offset = cc in
    let v = slice_index regs r in (
      v,
      inl (ap (λ (t : Bool). access t (wrap (slice_index regs a + n)) v size) s
          ∙ ap (λ k. access store (wrap (slice_index regs k + n)) v size) b
          ∙ ap (λ k. access store (wrap (slice_index regs base + k)) v size) o),
    )
asks_access (Faa d r a n) store base offset regs size e =
    let s : true ≡ store = cc in
    let b : a ≡ base = cc in
    let o : n ≡ offset = cc in
    let v = slice_index regs r in (
      v,
      inr (
        s,
        ap (λ k. fetch_and_add (wrap (slice_index regs k + n)) v size) b
            ∙ ap (λ k. fetch_and_add (wrap (slice_index regs base + k)) v size) o,
      ),
    )
asks_access _ store base offset regs size e = cc

-- ---- an address, and its tag

answered : (m : Copies) (store : Bool) (address : ℕ) → MayGoAt m store address
    → nat_lt address (m.shape.words * m.shape.blocks) ≡ true → IsAnswered m store address true
answered m store address may e =
    let good : address < m.shape.words * m.shape.blocks = ltb-true address (m.shape.words * m.shape.blocks) e in
    record { good = good; tag = may good }

go_access : (m : Copies) (store : Bool) (address value : ℕ) (b : Bool) → (b ≡ true → IsAnswered m store address true)
    → MayGo m (if b then nexts.Access store address value else nexts.Trap BadAddress)
go_access m store address value true h = h refl
go_access m store address value false h = tt

go_add : (m : Copies) (address value : ℕ) (b : Bool) → (b ≡ true → IsAnswered m true address true)
    → MayGo m (if b then nexts.Faa address value else nexts.Trap BadAddress)
go_add m address value true h = h refl
go_add m address value false h = tt

may_go_by : (m : Copies) (n : Next) (store : Bool) (address : ℕ) → Asks n store address (m.shape.words * m.shape.blocks)
    → MayGoAt m store address → MayGo m n
may_go_by m n store address (value, inl e) may =
    subst (MayGo m) (sym e) (go_access m store address value (nat_lt address (m.shape.words * m.shape.blocks))
    (answered m store address may))
may_go_by m n store address (value, inr h) may =
    let may' : MayGoAt m true address = subst (λ (s : Bool). MayGoAt m s address) (sym h.0) may in
    subst (MayGo m) (sym h.1) (go_add m address value (nat_lt address (m.shape.words * m.shape.blocks))
    (answered m true address may'))

access_by : (m : Copies) (n : Next) (store : Bool) (address : ℕ) → Asks n store address (m.shape.words * m.shape.blocks)
    → nat_lt address (m.shape.words * m.shape.blocks) ≡ true → IsAccessOf n store address
access_by m n store address (value, inl e) good =
    let at : access store address value (m.shape.words * m.shape.blocks) ≡ nexts.Access store address value = rw good refl in
    subst (λ (x : Next). IsAccessOf x store address) (sym (e ∙ at)) (refl, refl)
access_by m n store address (value, inr h) good =
    let at : fetch_and_add address value (m.shape.words * m.shape.blocks) ≡ nexts.Faa address value = rw good refl in
    subst (λ (x : Next). IsAccessOf x store address) (sym (h.1 ∙ at)) (sym h.0, refl)

-- ---- a look

-- where a check stands nothing else does
clash : (o o' : Option GuardOp) (store : Bool) (base offset : ℕ) → check_here o ≡ Some (store, base, offset) → o ≡ o'
    → check_here o' ≡ None → ⊥
clash o o' store base offset found here none = none-some (store, base, offset) (sym none ∙ sym (ap check_here here) ∙ found)

goes : (m : Copies) (n asked : Next) → asked ≡ n → MayGo m n → LookedAt n m (Goes asked)
goes m n asked e may = (e, subst (MayGo m) (sym e) may)

-- at an op that is no check
pub look_plain : (p : List Instr) (k : ℕ) (ops : List GuardOp) (at : ℕ) (regs : List ℕ) (m : Copies) (size : ℕ)
    → Standing p k ops at
    → check_here (slice_get ops at) ≡ None
    → LookedAt (asks (slice_get p k) regs size) m (Goes (asks (instr_here (slice_get ops at)) regs size))
look_plain p k ops at regs m size (AtEnd e here) none =
    goes m (asks (slice_get p k) regs size) (asks (instr_here (slice_get ops at)) regs size) (rw (e, here) refl) (rw e tt)
look_plain p k ops at regs m size (AtPlain i e check here) none =
    goes m (asks (slice_get p k) regs size) (asks (instr_here (slice_get ops at)) regs size)
    (rw (e, here) (asks_moved (first_op p) i regs size)) (rw e (may_go_plain m i regs size check))
look_plain p k ops at regs m size (AtAccess i store base offset e check here next) none =
    absurd (no_check (slice_get ops at) store base offset none here)

-- at a check that nothing refuses
pub look_hit : (p : List Instr) (k : ℕ) (ops : List GuardOp) (at : ℕ) (regs : List ℕ) (m : Copies) (store : Bool)
    (base offset : ℕ) → Standing p k ops at
    → check_here (slice_get ops at) ≡ Some (store, base, offset) → MayGoAt m store (wrap (slice_index regs base + offset))
    → LookedAt (asks (slice_get p k) regs (m.shape.words * m.shape.blocks)) m
    (Goes (asks (instr_here (slice_get ops (at + 1))) regs (m.shape.words * m.shape.blocks)))
look_hit p k ops at regs m store base offset (AtEnd e here) found may =
    absurd (clash (slice_get ops at) None store base offset found here refl)
look_hit p k ops at regs m store base offset (AtPlain i e check here) found may =
    absurd (clash (slice_get ops at) (Some (Do (moved (first_op p) i))) store base offset found here refl)
look_hit p k ops at regs m store base offset (AtAccess i store' base' offset' e check here next) found may =
    let is : slice_get ops at ≡ Some (Check store base offset) = is_check (slice_get ops at) store base offset found in
    let same : Check store' base' offset' ≡ Check store base offset = cc in
    let size = m.shape.words * m.shape.blocks in
    goes m (asks (slice_get p k) regs size) (asks (instr_here (slice_get ops (at + 1))) regs size)
    (rw (e, next) (asks_moved (first_op p) i regs size))
    (rw e (may_go_by m (asks (Some i) regs size) store (wrap (slice_index regs base + offset))
    (asks_access i store base offset regs size (check ∙ ap (λ (o : GuardOp). o ∷ []) same)) may))

-- at a check that refuses its access
pub look_miss : (p : List Instr) (k : ℕ) (ops : List GuardOp) (at : ℕ) (regs : List ℕ) (m : Copies) (store : Bool)
    (base offset address : ℕ) → Standing p k ops at
    → check_here (slice_get ops at) ≡ Some (store, base, offset) → address ≡ wrap (slice_index regs base + offset)
    → IsAnswered m store (wrap (slice_index regs base + offset)) false
    → LookedAt (asks (slice_get p k) regs (m.shape.words * m.shape.blocks)) m (Refused store address)
look_miss p k ops at regs m store base offset address (AtEnd e here) found where_ refuses =
    absurd (clash (slice_get ops at) None store base offset found here refl)
look_miss p k ops at regs m store base offset address (AtPlain i e check here) found where_ refuses =
    absurd (clash (slice_get ops at) (Some (Do (moved (first_op p) i))) store base offset found here refl)
look_miss p k ops at regs m store base offset address (AtAccess i store' base' offset' e check here next) found where_ refuses =
    let is : slice_get ops at ≡ Some (Check store base offset) = is_check (slice_get ops at) store base offset found in
    let same : Check store' base' offset' ≡ Check store base offset = cc in
    let size = m.shape.words * m.shape.blocks in
    let there = wrap (slice_index regs base + offset) in
    let asked : Asks (asks (Some i) regs size) store there size = asks_access i store base offset regs size (check
    ∙ ap (λ (o : GuardOp). o ∷ []) same) in
    subst (λ a. LookedAt (asks (slice_get p k) regs size) m (Refused store a)) (sym where_)
    (rw e (access_by m (asks (Some i) regs size) store there asked (lt-ltb there size refuses.good)), refuses)

-- ---- registers

in_range : (p : List Instr) (k : ℕ) (i : Instr) (o : Option GuardOp) → IsProgram p → slice_get p k ≡ Some i
    → o ≡ Some (Do (moved (first_op p) i)) → IfSome (instr_here o) HasRegisters
in_range p k i o valid e is = rw is (registers_moved (first_op p) i (instr_of p k i valid e).0)

-- at an op
pub registers_at : (p : List Instr) (k : ℕ) (ops : List GuardOp) (at : ℕ) → IsProgram p → Standing p k ops at
    → IfSome (instr_here (slice_get ops at)) HasRegisters
registers_at p k ops at valid (AtEnd e here) = rw here tt
registers_at p k ops at valid (AtPlain i e check here) = in_range p k i (slice_get ops at) valid e here
registers_at p k ops at valid (AtAccess i store base offset e check here next) = rw here tt

-- behind a check
pub registers_behind : (p : List Instr) (k : ℕ) (ops : List GuardOp) (at : ℕ) (store : Bool) (base offset : ℕ) → IsProgram p
    → Standing p k ops at
    → check_here (slice_get ops at) ≡ Some (store, base, offset) → IfSome (instr_here (slice_get ops (at + 1))) HasRegisters
registers_behind p k ops at store base offset valid (AtEnd e here) found =
    absurd (clash (slice_get ops at) None store base offset found here refl)
registers_behind p k ops at store base offset valid (AtPlain i e check here) found =
    absurd (clash (slice_get ops at) (Some (Do (moved (first_op p) i))) store base offset found here refl)
registers_behind p k ops at store base offset valid (AtAccess i store' base' offset' e check here next) found = in_range p k
    i (slice_get ops (at + 1)) valid e next

-- a check's base is a register
pub base_below : (p : List Instr) (k : ℕ) (ops : List GuardOp) (at : ℕ) (store : Bool) (base offset : ℕ) → IsProgram p
    → Standing p k ops at
    → check_here (slice_get ops at) ≡ Some (store, base, offset) → base < 16
base_below p k ops at store base offset valid (AtEnd e here) found =
    absurd (clash (slice_get ops at) None store base offset found here refl)
base_below p k ops at store base offset valid (AtPlain i e check here) found =
    absurd (clash (slice_get ops at) (Some (Do (moved (first_op p) i))) store base offset found here refl)
base_below p k ops at store base offset valid (AtAccess i store' base' offset' e check here next) found =
    let is : slice_get ops at ≡ Some (Check store base offset) = is_check (slice_get ops at) store base offset found in
    let same : base' ≡ base = cc in
    subst (λ n. n < 16) same (base_of i store' base' offset' check (instr_of p k i valid e).0)
