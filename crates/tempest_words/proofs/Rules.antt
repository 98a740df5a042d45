-- The arguments of the command as it is built, and what a use of each does.
use Rattle.std.proofs.Common.{◌≡◌, ◌⊎◌, ℕ, ◌||◌, Bool, true, false, cond, List, [], ◌∷◌, ◌++◌, Option, Some, None, refl, sym}
use Rattle.std.proofs.Common.{ap, ◌∙◌, codes, inl, inr}
use Rattle.std.specs.Str.{bytes_eq}
use Rattle.std.proofs.lemmas.List.{append-nil}
use Rattle.std.proofs.lemmas.Slice.Eq.{bytes_eq-Decides}
use Rattle.clap.specs.Faults.{use_fault}
use Rattle.clap.specs.Simple.{Shape, built, new_rule, new_shape}
use Rattle.clap.specs.Walk.{Row, Rule, Text, arg_by_id, arg_by_long, arg_by_short, has_row, is_multiple, more_values}
use Rattle.clap.specs.Walk.{takes_several, used, with_values, without}
use Rattle.clap.specs.declared.builder.action.ArgAction.TheVariants.{Set, SetTrue}
use Rattle.clap.specs.declared.builder.value_parser.ValueParser.TheVariants as parsers
use Rattle.clap.specs.declared.builder.value_parser.Reading.TheVariants.{AsWritten}
use Rattle.clap.specs.declared.error.kind.ErrorKind.TheVariants as kind
use Rattle.clap.specs.declared.parser.matches.ValueSource.TheVariants.{CommandLine}
use Rattle.tempest_words.specs.Parting.{tempest_app}
use Rattle.tempest_words.proofs.Rows.{at_row-new, value_row}

-- ---- the arguments

abbrev pub positional_rule : Text → ℕ → Rule
positional_rule id place =
    record (new_rule id) {
      action = Some Set;
      range = Some
          (record { start_inclusive = 1; end_inclusive = 1 });
      parser = Some parsers.String;
      index = Some place;
    }

abbrev pub flag_rule : Text → Rule
flag_rule id = record (new_rule id) {
  long = Some id;
  action = Some SetTrue;
  range = Some (record { start_inclusive = 0; end_inclusive = 0 });
  parser = Some parsers.Bool;
  defaults = codes "false" ∷ [];
  missing = codes "true" ∷ [];
}

abbrev pub batch_rule : Rule
batch_rule = record (new_rule (codes "batch")) {
  long = Some (codes "batch");
  action = Some Set;
  range = Some (record { start_inclusive = 1; end_inclusive = 1 });
  parser = Some parsers.String;
}

abbrev pub rules : List Rule
rules =
    positional_rule (codes "command") 1 ∷ positional_rule (codes "number") 2 ∷ flag_rule (codes "journal") ∷ flag_rule
    (codes "counts")
    ∷ flag_rule (codes "meaning") ∷ batch_rule ∷ []

abbrev pub shape : Shape
shape = record (new_shape (codes "tempest")) {
  rules = rules;
  no_binary_name = true;
  disable_help_flag = true;
  disable_help_subcommand = true;
  is_built = true;
}

pub built-top : (built tempest_app).top ≡ shape
built-top = refl

-- ---- the argument of a long name

name_is : (id name : Text) → bytes_eq id name ≡ true → name ≡ id
name_is id name e = sym ((bytes_eq-Decides id name).0 e)

abbrev pub IsFlag : Text → Type 0
IsFlag id = (id ≡ codes "journal") ⊎ ((id ≡ codes "counts") ⊎ (id ≡ codes "meaning"))

pub data LongOf (name : Text) (found : Option Rule) : Type 0 where
  flagged : IsFlag name → found ≡ Some (flag_rule name) → LongOf name found
  batched : name ≡ codes "batch" → found ≡ Some batch_rule → LongOf name found
  unknown : found ≡ None → LongOf name found

abbrev found_by : Bool → Bool → Bool → Bool → Option Rule
found_by j c m b =
    cond (j || false) (Some (flag_rule (codes "journal"))) (cond (c || false) (Some (flag_rule (codes "counts")))
    (cond (m || false) (Some (flag_rule (codes "meaning"))) (cond (b || false) (Some batch_rule) None)))

pub long_of_name : (name : Text) → LongOf name (arg_by_long rules name)
long_of_name name =
    go (bytes_eq (codes "journal") name) (bytes_eq (codes "counts") name) (bytes_eq (codes "meaning") name)
    (bytes_eq (codes "batch") name) refl refl refl refl
  where
    go : (j c m b : Bool) → bytes_eq (codes "journal") name ≡ j → bytes_eq (codes "counts") name ≡ c
        → bytes_eq (codes "meaning") name ≡ m
        → bytes_eq (codes "batch") name ≡ b → LongOf name (found_by j c m b)
    go true c m b ej ec em eb = let is = name_is _ name ej in flagged (inl is) (ap (λ n. Some (flag_rule n)) (sym is))
    go false true m b ej ec em eb = let is = name_is _ name ec in flagged (inr (inl is)) (ap (λ n. Some (flag_rule n)) (sym is))
    go false false true b ej ec em eb = let is = name_is _ name em in flagged (inr (inr is))
        (ap (λ n. Some (flag_rule n)) (sym is))
    go false false false true ej ec em eb = batched (name_is _ name eb) refl
    go false false false false ej ec em eb = unknown refl

pub none_is_short : (c : ℕ) → arg_by_short rules c ≡ None
none_is_short c = refl

-- ---- one use

pub value-used : (id value : Text) (rows : List Row) → has_row id rows ≡ false
    → with_values id AsWritten CommandLine (value ∷ []) (without id rows) ≡ rows ++ value_row id value ∷ []
value-used id value rows none =
    ap (with_values id AsWritten CommandLine (value ∷ [])) (at_row-new id (λ _. []) [] rows none ∙ append-nil rows)
    ∙ at_row-new id (more_values CommandLine (value ∷ [])) (value_row id value ∷ []) rows none

-- an argument that takes one value, once
pub record TakesOne (a : Rule) : Type 0 where
  pub by_id : arg_by_id rules a.id ≡ Some a
  pub fault_new : (value : Text) (rows : List Row) → has_row a.id rows ≡ false → use_fault false a (value ∷ []) rows ≡ []
  pub uses : (value : Text) (rows : List Row) → has_row a.id rows ≡ false
      → used a (value ∷ []) rows ≡ rows ++ value_row a.id value ∷ []
  pub several : takes_several a ≡ false
  pub multiple : is_multiple a ≡ false
  pub trails : a.trailing_var_arg ≡ false

pub positional-takes : (id : Text) (place : ℕ) → arg_by_id rules id ≡ Some (positional_rule id place)
    → TakesOne (positional_rule id place)
positional-takes id place by_id = record {
  by_id = by_id;
  fault_new = λ value rows none. rw none refl;
  uses = λ value rows none. value-used id value rows none;
  several = refl;
  multiple = refl;
  trails = refl;
}

pub command_takes : TakesOne (positional_rule (codes "command") 1)
command_takes = positional-takes (codes "command") 1 refl

pub number_takes : TakesOne (positional_rule (codes "number") 2)
number_takes = positional-takes (codes "number") 2 refl

pub batch_takes : TakesOne batch_rule
batch_takes = record {
  by_id = refl;
  fault_new = λ value rows none. rw none refl;
  uses = λ value rows none. value-used (codes "batch") value rows none;
  several = refl;
  multiple = refl;
  trails = refl;
}

pub batch-again : (value : Text) (rows : List Row) → has_row (codes "batch") rows ≡ true
    → use_fault false batch_rule (value ∷ []) rows ≡ kind.ArgumentConflict ∷ []
batch-again value rows there = rw there refl

pub flag-new : (id : Text) (rows : List Row) → has_row id rows ≡ false → use_fault false (flag_rule id) [] rows ≡ []
flag-new id rows none = rw none refl

pub flag-again : (id : Text) (rows : List Row) → has_row id rows ≡ true
    → use_fault false (flag_rule id) [] rows ≡ kind.ArgumentConflict ∷ []
flag-again id rows there = rw there refl

pub flag-used : (id : Text) (rows : List Row) → has_row id rows ≡ false
    → used (flag_rule id) [] rows ≡ rows ++ value_row id (codes "true") ∷ []
flag-used id rows none = value-used id (codes "true") rows none
