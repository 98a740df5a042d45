-- A report has the prints of its journal.
use Rattle.std.proofs.Common.{◌≡◌, ℕ, List, [], ◌∷◌, ◌++◌, refl, ap, ◌∙◌}
use Rattle.std.specs.List.{flat_map}
use Rattle.tw_base.specs.declared.entry.Act.{Act}
use Rattle.tw_base.specs.declared.entry.Act.TheVariants as act
use Rattle.tw_base.specs.declared.entry.Entry.{Entry}
use Rattle.journal.specs.Laws.{ReportPrints, print_text, prints_of, with_print}
use Rattle.journal.specs.Reports.{print_line, print_of, report_of}

one_print : (node : ℕ) (a : Act) (rest : List (ℕ × ℕ)) → flat_map print_text (with_print node a rest) ≡ print_of node a
    ++ flat_map print_text rest
one_print node (act.Print value) rest = refl
one_print node (act.Load address value) rest = refl
one_print node (act.Store address value) rest = refl
one_print node (act.Faa address value sum) rest = refl
one_print node act.Halt rest = refl
one_print node (act.Trapped why) rest = refl
one_print node act.Step rest = refl
one_print node (act.Fault store block) rest = refl
one_print node (act.Redelivered kind block from) rest = refl
one_print node (act.Delivered kind block from chan number) rest = refl

all_prints : (journal : List Entry) → flat_map print_text (prints_of journal) ≡ flat_map print_line journal
all_prints [] = refl
all_prints (e ∷ es) = one_print e.node e.act (prints_of es) ∙ ap (λ rest. print_line e ++ rest) (all_prints es)

pub printed : ReportPrints
unfolding report_of
printed s journal finals words broken options = rw (all_prints journal) refl
