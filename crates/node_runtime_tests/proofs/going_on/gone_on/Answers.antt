use Rattle.node_runtime.proofs.Ran.{logs_of, run_of}
use Rattle.node_runtime_tests.proofs.going_on.gone_on.Goals as goal

pub returns-clause-logs : goal.returns-clause-logs
returns-clause-logs g c =
    logs_of c.gone_on_named.result c.args.setup.now c.args.code.now c.gathered_logs_are_a_run.ensures.logs c.gone_on_named.ensures

pub returns-clause-run : goal.returns-clause-run
returns-clause-run g c =
    run_of c.gone_on_named.result c.args.setup.now c.args.code.now c.gathered_logs_are_a_run.ensures.run c.shape.ensures.valid
    c.requires.code c.gone_on_named.ensures
