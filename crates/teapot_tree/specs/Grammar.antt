-- Which trees the grammar gives.
use Rattle.std.specs.Prelude.{◌≡◌, ◌≤◌, ◌⊎◌, ℕ, nat_le, Bool, true, false, ◌==◌, ◌&&◌, ◌||◌, List, [], ◌∷◌, length, None}
use Rattle.std.specs.List.{list_all}
use Rattle.tw_base.specs.declared.name.Name.{Name}
use Rattle.tw_base.specs.Lists.{Each}
use Rattle.teapot_tree.specs.declared.expr.Expr.{Expr}
use Rattle.teapot_tree.specs.declared.protocol.Handler.{Handler}
use Rattle.teapot_tree.specs.declared.protocol.MessageDecl.{MessageDecl}
use Rattle.teapot_tree.specs.declared.protocol.Param.{Param}
use Rattle.teapot_tree.specs.declared.protocol.Protocol.{Protocol}
use Rattle.teapot_tree.specs.declared.protocol.State.{State}
use Rattle.teapot_tree.specs.declared.protocol.Trigger.{Trigger}
use Rattle.teapot_tree.specs.declared.protocol.Trigger.TheVariants as t
use Rattle.teapot_tree.specs.Bodies.{body_of}
use Rattle.teapot_tree.specs.Keywords.{keyword_of}
use Rattle.teapot_tree.specs.Parts.{fits, depth, nest, loops, eaches, handlers_of, exprs_of, names_of}

-- a letter or `_`
abbrev pub is_letter : ℕ → Bool
is_letter b = (nat_le 65 b && nat_le b 90) || (nat_le 97 b && nat_le b 122) || (b == 95)

abbrev pub is_letter_or_digit : ℕ → Bool
is_letter_or_digit b = is_letter b || (nat_le 48 b && nat_le b 57)

abbrev pub starts_word : List ℕ → Bool
starts_word [] = false
starts_word (b ∷ bs) = is_letter b

-- a word that the profile allows as a name
pub record IsName (profile : ℕ) (w : Name) : Type 0 where
  pub first : starts_word w ≡ true
  pub others : list_all is_letter_or_digit w ≡ true
  pub short : length w ≤ 64
  pub free : keyword_of profile w ≡ None

abbrev pub NoArgsOf : Trigger → List Name → Type 0
NoArgsOf t.RdFault args = Unit {0}
NoArgsOf t.WrFault args = Unit {0}
NoArgsOf (t.Named n) args = Unit {0}
NoArgsOf t.Default args = args ≡ []

-- the handler for all else has no arguments
abbrev pub NoDefaultArgs : Handler → Type 0
NoDefaultArgs h = NoArgsOf h.on h.args

-- a state stands on one line, and so its arguments do
abbrev pub OnOneLine : State → Type 0
OnOneLine s = Each (λ (a : Param). a.line ≡ s.line) s.params

-- a tree that the grammar gives
pub record IsTree (p : Protocol) : Type 0 where
  pub profiles : (p.profile ≡ 1) ⊎ (p.profile ≡ 2)
  pub names : Each (IsName p.profile) (names_of p)
  pub numbers : Each (λ (h : Handler). Each (λ (e : Expr). fits e ≡ true) (exprs_of h)) (handlers_of p)
  pub default_args : Each NoDefaultArgs (handlers_of p)
  pub no_each : Each (λ (h : Handler). eaches (body_of h.body) ≡ 0) (handlers_of p)
  pub no_loop : p.profile ≡ 1 → Each (λ (h : Handler). loops (body_of h.body) ≡ 0) (handlers_of p)
  pub param_lines : Each OnOneLine p.states
  pub few_states : length p.states ≤ 64
  pub few_messages : length p.messages ≤ 64
  pub few_handlers : length (handlers_of p) ≤ 1024
  pub few_infos : length p.infos ≤ 8
  pub few_locals : Each (λ (h : Handler). length h.locals ≤ 8) (handlers_of p)
  pub few_message_args : Each (λ (m : MessageDecl). length m.args ≤ 4) p.messages
  pub few_params : Each (λ (s : State). length s.params ≤ 4) p.states
  pub shallow : Each (λ (h : Handler). Each (λ (e : Expr). depth e ≤ 16) (exprs_of h)) (handlers_of p)
  pub little_nest : Each (λ (h : Handler). nest (body_of h.body) ≤ 16) (handlers_of p)
  pub few_loops : Each (λ (h : Handler). loops (body_of h.body) ≤ 4) (handlers_of p)
