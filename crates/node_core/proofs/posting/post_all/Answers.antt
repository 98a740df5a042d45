use Rattle.std.proofs.Common.{refl}
use Rattle.node_meaning.specs.Sending.{stamped}
use Rattle.node_core.proofs.Posted.{one_posted}
use Rattle.node_core.proofs.posting.post_all.Goals as goal

pub loop-message-preserved : goal.loop-message-preserved
loop-message-preserved c =
    one_posted c.args.stamp c.args.sends.now c.loop-message.message-index c.message-item.result
    (stamped c.args.stamp c.message-item.result)
    c.args.out.now c.loop-message.out c.post.new.self c.loop-message-test.true c.message-item.is refl
    c.post.ensures.waiting c.post.ensures.posted c.post.ensures.room c.loop-message.invariant
