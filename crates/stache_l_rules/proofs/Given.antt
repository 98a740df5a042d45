-- The grammar gives the literal tree of Stache_L.
use Rattle.std.proofs.Common.{◌≡◌, true, refl, arith, inr}
use Rattle.std.specs.List.{list_all}
use Rattle.teapot_tree.specs.Grammar.{IsTree}
use Rattle.teapot_tree.specs.Keywords.{keyword_of}
use Rattle.stache_l_tree.specs.Tree.{stache_l, states_l}
use Rattle.stache_rules.proofs.Given.{IsGoodHead, good_code, good_door, good_term, good_told, is_name, tree-of}
use Rattle.stache_l_rules.proofs.Doors.{told_l, told_l-is}

all-told : list_all (good_told 2) told_l ≡ true
unfolding is_name good_term good_code good_door good_told keyword_of
all-told = refl

head-is : IsGoodHead stache_l
unfolding states_l is_name keyword_of
head-is = record {
  profiles = inr refl;
  names = refl;
  few_states = omega arith;
  few_messages = omega arith;
  few_handlers = omega arith;
  few_infos = omega arith;
  few_message_args = refl;
}

pub tree-is : IsTree stache_l
tree-is = tree-of stache_l told_l told_l-is all-told head-is
