-- The grammar gives the literal tree of Stache_D.
use Rattle.std.proofs.Common.{◌≡◌, true, refl, arith, inl}
use Rattle.std.specs.List.{list_all}
use Rattle.teapot_tree.specs.Grammar.{IsTree}
use Rattle.teapot_tree.specs.Keywords.{keyword_of}
use Rattle.stache_d_tree.specs.Tree.{stache_d, states_d}
use Rattle.stache_rules.proofs.Given.{IsGoodHead, good_code, good_door, good_term, good_told, is_name, tree-of}
use Rattle.stache_d_rules.proofs.Doors.{told_d, told_d-is}

all-told : list_all (good_told 1) told_d ≡ true
unfolding is_name good_term good_code good_door good_told keyword_of
all-told = refl

head-is : IsGoodHead stache_d
unfolding states_d is_name keyword_of
head-is = record {
  profiles = inl refl;
  names = refl;
  few_states = omega arith;
  few_messages = omega arith;
  few_handlers = omega arith;
  few_infos = omega arith;
  few_message_args = refl;
}

pub tree-is : IsTree stache_d
tree-is = tree-of stache_d told_d told_d-is all-told head-is
