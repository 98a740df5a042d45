use Rattle.node_runtime.proofs.Ran.{logs_of, run_of}
use Rattle.node_runtime.proofs.run.run_threads.Goals as goal

pub returns-clause-logs : goal.returns-clause-logs
returns-clause-logs g c =
    logs_of c.run_named.result c.args.setup.now c.args.code.now c.gathered_logs_are_a_run.ensures.logs c.run_named.ensures

pub returns-clause-run : goal.returns-clause-run
returns-clause-run g c =
    run_of c.run_named.result c.args.setup.now c.args.code.now c.gathered_logs_are_a_run.ensures.run c.shape.ensures.valid
    c.requires.code c.run_named.ensures
