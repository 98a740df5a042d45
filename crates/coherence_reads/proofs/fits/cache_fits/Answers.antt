use Rattle.std.proofs.Common.{sym, subst}
use Rattle.std.specs.Bool.{Decides}
use Rattle.coherence_reads.specs.Seeing.{CacheFits, here_in, which}
use Rattle.coherence_reads.specs.declared.part.Part.{Part}
use Rattle.coherence_reads.proofs.fits.cache_fits.Goals as goal

pub returns-in-First : goal.returns-in-First
returns-in-First c =
    λ w s h. subst (λ (q : Part). Decides c.has_tag.result (CacheFits c.args.directory
    (which q) w c.args.nodes c.args.home_node (here_in c.args.home.now) c.args.node s)) (sym c.in-First.is)
    (c.has_tag.ensures c.args.directory w c.args.nodes c.args.home_node c.args.node _ (here_in c.args.home.now) s h)

pub returns-in-Second : goal.returns-in-Second
returns-in-Second c =
    λ w s h. subst (λ (q : Part). Decides c.has_rest.result (CacheFits c.args.directory
    (which q) w c.args.nodes c.args.home_node (here_in c.args.home.now) c.args.node s)) (sym c.in-Second.is)
    (c.has_rest.ensures w c.args.node _ (here_in c.args.home.now) s h)

pub returns-in-Third : goal.returns-in-Third
returns-in-Third c =
    λ w s h. subst (λ (q : Part). Decides c.has_its_notes.result
    (CacheFits c.args.directory (which q) w c.args.nodes c.args.home_node (here_in c.args.home.now) c.args.node s))
    (sym c.in-Third.is) (c.has_its_notes.ensures w c.args.nodes c.args.home_node c.args.node _ (here_in c.args.home.now) s h)

pub returns-in-Fourth : goal.returns-in-Fourth
returns-in-Fourth c =
    λ w s h. subst (λ (q : Part). Decides c.has_one_request.result
    (CacheFits c.args.directory (which q) w c.args.nodes c.args.home_node (here_in c.args.home.now) c.args.node s))
    (sym c.in-Fourth.is) (c.has_one_request.ensures c.args.directory w c.args.nodes c.args.home_node _ s h)

pub returns-in-Fifth : goal.returns-in-Fifth
returns-in-Fifth c =
    λ w s h. subst (λ (q : Part). Decides c.stands_so.result
    (CacheFits c.args.directory (which q) w c.args.nodes c.args.home_node (here_in c.args.home.now) c.args.node s))
    (sym c.in-Fifth.is) (c.stands_so.ensures w c.args.nodes c.args.home_node _ s h)

pub returns-in-Sixth : goal.returns-in-Sixth
returns-in-Sixth c =
    λ w s h. subst (λ (q : Part). Decides c.has_copy.result (CacheFits c.args.directory
    (which q) w c.args.nodes c.args.home_node (here_in c.args.home.now) c.args.node s)) (sym c.in-Sixth.is)
    (c.has_copy.ensures w c.args.nodes c.args.home_node c.args.node s h)
