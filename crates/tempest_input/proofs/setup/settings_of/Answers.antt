use Rattle.std.proofs.Common.{subst}
use Rattle.mini_asm.specs.Run.{IsInit}
use Rattle.tempest_input.proofs.Valid.{length-each_below, programs-plain, version-is, words-init}
use Rattle.tempest_input.proofs.setup.settings_of.Goals as goal

pub invariant_of-result : goal.invariant_of-result
invariant_of-result c = record {
  version = version-is _ c.in_ok-shape.ensures.version;
  plain = λ one. rw (c.of-2.ensures, c.in_ok-programs-2.ensures, c.deref-2.ensures.value)
      (programs-plain c.args.layout.version.value c.items-3.result.now c.in_ok-programs.programs.items c.deref.result.now
      c.nodes-2.result c.in_ok-programs.ensures one);
  programs = rw (c.of-2.ensures, c.in_ok-programs-2.ensures, c.nodes-2.ensures.value) (length-each_below _ _);
  init = rw c.of.ensures (subst (λ n. IsInit n c.in_ok-init.init.items) c.size.ensures.value
      (words-init _ _ _ c.in_ok-init.ensures));
}
