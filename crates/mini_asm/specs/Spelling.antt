-- How a line of the assembly is spelled: a label, or an instruction.
use Rattle.std.specs.Prelude.{ℕ, ◌-◌, ◌==◌, ◌&&◌, if◌then◌else◌, nat_le, slice_get, codes, Bool, true, false, List, [], ◌∷◌}
use Rattle.std.specs.Prelude.{length, Option, Some, None}
use Rattle.std.specs.Str.{bytes_eq}
use Rattle.std.specs.Option.{is_some}
use Rattle.tw_base.specs.Answers.{◌>>?◌}
use Rattle.tw_lex.specs.Bytes.{is_digit}
use Rattle.tw_lex.specs.declared.token.Mark.{Mark}
use Rattle.tw_lex.specs.declared.token.Mark.TheVariants.{Colon, Open, Close, BraceOpen, BraceClose, Comma, Semicolon, Becomes}
use Rattle.tw_lex.specs.declared.token.Mark.TheVariants.{Plus, Minus, Equal, Unequal, Less, LessEqual, Both, Either}
use Rattle.tw_lex.specs.declared.token.Token.{Token}
use Rattle.tw_lex.specs.declared.token.What.{What}
use Rattle.tw_lex.specs.declared.token.What.TheVariants as whats
use Rattle.mini_asm.specs.declared.form.Form.{Form}
use Rattle.mini_asm.specs.declared.form.Form.TheVariants.{Label, Code}
use Rattle.mini_asm.specs.declared.instr.Instr.{Instr}
use Rattle.mini_asm.specs.declared.instr.Instr.TheVariants as instrs
use Rattle.mini_asm.specs.declared.instr.Keyword.{Keyword}
use Rattle.mini_asm.specs.declared.instr.Keyword.TheVariants.{Li, Mov, Add, Sub, And, Or, Xor, Ld, St, Beq, Bne, Blt, Jmp}
use Rattle.mini_asm.specs.declared.instr.Keyword.TheVariants.{Print, Halt, Faa}

-- ---- words

-- r0 to r15
abbrev pub register_named : List ℕ → Option ℕ
register_named (r ∷ d ∷ []) = if (r == 114) && is_digit d then Some (d - 48) else None
register_named (r ∷ c ∷ d ∷ []) = if (r == 114) && (c == 49) && nat_le 48 d && nat_le d 53 then Some (d - 38) else None
register_named other = None

abbrev pub label_unless : Option ℕ → List ℕ → Option (List ℕ)
label_unless None w = Some w
label_unless (Some r) w = None

-- any word but a register may be a label
abbrev pub label_named : List ℕ → Option (List ℕ)
label_named w = label_unless (register_named w) w

abbrev pub keyword_named : List ℕ → Option Keyword
keyword_named w =
    if bytes_eq w (codes "li") then Some Li else
    (if bytes_eq w (codes "mov") then Some Mov else
    (if bytes_eq w (codes "add") then Some Add else
    (if bytes_eq w (codes "sub") then Some Sub else
    (if bytes_eq w (codes "and") then Some And else
    (if bytes_eq w (codes "or") then Some Or else
    (if bytes_eq w (codes "xor") then Some Xor else
    (if bytes_eq w (codes "ld") then Some Ld else
    (if bytes_eq w (codes "st") then Some St else
    (if bytes_eq w (codes "beq") then Some Beq else
    (if bytes_eq w (codes "bne") then Some Bne else
    (if bytes_eq w (codes "blt") then Some Blt else
    (if bytes_eq w (codes "jmp") then Some Jmp else
    (if bytes_eq w (codes "print") then Some Print else
    (if bytes_eq w (codes "halt") then Some Halt else
    (if bytes_eq w (codes "faa") then Some Faa else None)))))))))))))))

-- `faa` is there from version 2 on
abbrev pub is_of_version : ℕ → Keyword → Bool
is_of_version version Faa = nat_le 2 version
is_of_version version Li = true
is_of_version version Mov = true
is_of_version version Add = true
is_of_version version Sub = true
is_of_version version And = true
is_of_version version Or = true
is_of_version version Xor = true
is_of_version version Ld = true
is_of_version version St = true
is_of_version version Beq = true
is_of_version version Bne = true
is_of_version version Blt = true
is_of_version version Jmp = true
is_of_version version Print = true
is_of_version version Halt = true

-- ---- tokens

abbrev pub word_of : What → Option (List ℕ)
word_of (whats.Word w) = Some w
word_of (whats.Number n) = None
word_of (whats.Mark m) = None

abbrev pub number_of_token : What → Option ℕ
number_of_token (whats.Word w) = None
number_of_token (whats.Number n) = Some n
number_of_token (whats.Mark m) = None

abbrev pub is_colon_mark : Mark → Bool
is_colon_mark Colon = true
is_colon_mark Open = false
is_colon_mark Close = false
is_colon_mark BraceOpen = false
is_colon_mark BraceClose = false
is_colon_mark Comma = false
is_colon_mark Semicolon = false
is_colon_mark Becomes = false
is_colon_mark Plus = false
is_colon_mark Minus = false
is_colon_mark Equal = false
is_colon_mark Unequal = false
is_colon_mark Less = false
is_colon_mark LessEqual = false
is_colon_mark Both = false
is_colon_mark Either = false

abbrev pub is_colon : What → Bool
is_colon (whats.Word w) = false
is_colon (whats.Number n) = false
is_colon (whats.Mark m) = is_colon_mark m

abbrev pub word_at : List Token → ℕ → Option (List ℕ)
word_at ts i = slice_get ts i >>? λ t. word_of t.what

abbrev pub register_at : List Token → ℕ → Option ℕ
register_at ts i = word_at ts i >>? λ w. register_named w

abbrev pub number_at : List Token → ℕ → Option ℕ
number_at ts i = slice_get ts i >>? λ t. number_of_token t.what

abbrev pub label_at : List Token → ℕ → Option (List ℕ)
label_at ts i = word_at ts i >>? λ w. label_named w

abbrev pub keyword_at : List Token → ℕ → Option Keyword
keyword_at ts i = word_at ts i >>? λ w. keyword_named w

-- ---- operands, which follow the keyword

abbrev pub register_number : List Token → Option (ℕ × ℕ)
register_number ts = if length ts == 3 then (register_at ts 1 >>? λ d. number_at ts 2 >>? λ n. Some (d, n)) else None

abbrev pub one_register : List Token → Option ℕ
one_register ts = if length ts == 2 then register_at ts 1 else None

abbrev pub two_registers : List Token → Option (ℕ × ℕ)
two_registers ts = if length ts == 3 then (register_at ts 1 >>? λ d. register_at ts 2 >>? λ a. Some (d, a)) else None

abbrev pub three_registers : List Token → Option (ℕ × ℕ × ℕ)
three_registers ts =
    if length ts == 4 then (register_at ts 1 >>? λ d. register_at ts 2 >>? λ a. register_at ts 3 >>? λ b. Some (d, a, b))
    else None

abbrev pub register_address : List Token → Option (ℕ × ℕ × ℕ)
register_address ts =
    if length ts == 4 then (register_at ts 1 >>? λ d. register_at ts 2 >>? λ a. number_at ts 3 >>? λ n. Some (d, a, n))
    else None

abbrev pub two_registers_label : List Token → Option (ℕ × ℕ)
two_registers_label ts =
    if length ts == 4 then (register_at ts 1 >>? λ a. register_at ts 2 >>? λ b. label_at ts 3 >>? λ l. Some (a, b)) else None

abbrev pub has_one_label : List Token → Bool
has_one_label ts = (length ts == 2) && is_some (label_at ts 1)

abbrev pub two_registers_address : List Token → Option (ℕ × ℕ × ℕ × ℕ)
two_registers_address ts =
    if length ts == 5
    then (register_at ts 1 >>? λ d. register_at ts 2 >>? λ s. register_at ts 3 >>? λ a. number_at ts 4 >>? λ n. Some
    (d, s, a, n)) else None

-- ---- lines

-- the instruction of a line with this keyword; the place of a jump is still 0
unfoldable pub instr_with : Keyword → List Token → Option Instr
instr_with Li ts = register_number ts >>? λ r. Some (instrs.Li r.0 r.1)
instr_with Mov ts = two_registers ts >>? λ r. Some (instrs.Mov r.0 r.1)
instr_with Add ts = three_registers ts >>? λ r. Some (instrs.Add r.0 r.1 r.2)
instr_with Sub ts = three_registers ts >>? λ r. Some (instrs.Sub r.0 r.1 r.2)
instr_with And ts = three_registers ts >>? λ r. Some (instrs.And r.0 r.1 r.2)
instr_with Or ts = three_registers ts >>? λ r. Some (instrs.Or r.0 r.1 r.2)
instr_with Xor ts = three_registers ts >>? λ r. Some (instrs.Xor r.0 r.1 r.2)
instr_with Ld ts = register_address ts >>? λ r. Some (instrs.Ld r.0 r.1 r.2)
instr_with St ts = register_address ts >>? λ r. Some (instrs.St r.0 r.1 r.2)
instr_with Beq ts = two_registers_label ts >>? λ r. Some (instrs.Beq r.0 r.1 0)
instr_with Bne ts = two_registers_label ts >>? λ r. Some (instrs.Bne r.0 r.1 0)
instr_with Blt ts = two_registers_label ts >>? λ r. Some (instrs.Blt r.0 r.1 0)
instr_with Jmp ts = if has_one_label ts then Some (instrs.Jmp 0) else None
instr_with Print ts = one_register ts >>? λ a. Some (instrs.Print a)
instr_with Halt ts = if length ts == 1 then Some instrs.Halt else None
instr_with Faa ts = two_registers_address ts >>? λ r. Some (instrs.Faa r.0 r.1 r.2 r.3)

unfoldable pub instr_of : ℕ → List Token → Option Instr
instr_of version ts = keyword_at ts 0 >>? λ k. if is_of_version version k then instr_with k ts else None

-- where in its line a jump names its label
abbrev pub target_at : Instr → Option ℕ
target_at (instrs.Beq a b place) = Some 3
target_at (instrs.Bne a b place) = Some 3
target_at (instrs.Blt a b place) = Some 3
target_at (instrs.Jmp place) = Some 1
target_at (instrs.Li d n) = None
target_at (instrs.Mov d a) = None
target_at (instrs.Add d a b) = None
target_at (instrs.Sub d a b) = None
target_at (instrs.And d a b) = None
target_at (instrs.Or d a b) = None
target_at (instrs.Xor d a b) = None
target_at (instrs.Ld d a n) = None
target_at (instrs.St s a n) = None
target_at (instrs.Print a) = None
target_at instrs.Halt = None
target_at (instrs.Faa d s a n) = None

-- the label that an instruction jumps to
abbrev pub target_of : Instr → List Token → Option (List ℕ)
target_of i ts = target_at i >>? λ k. label_at ts k

-- a word and a colon
abbrev pub label_of : List Token → Option (List ℕ)
label_of ts = if length ts == 2 then (slice_get ts 1 >>? λ t. if is_colon t.what then label_at ts 0 else None) else None

abbrev pub label_or : Option (List ℕ) → Option Form → Option Form
label_or (Some l) code = Some (Label l)
label_or None code = code

-- what a line is, if it is a line of the assembly
unfoldable pub form_of : ℕ → List Token → Option Form
form_of version ts = label_or (label_of ts) (instr_of version ts >>? λ i. Some (Code i (target_of i ts)))
