use Rattle.script_main.proofs.tests.promises.ends_for_a_cause.Goals as goal

pub returns-clause-unread : goal.returns-clause-unread
returns-clause-unread g c = c.run_on.ensures.conducts.unread

pub returns-clause-only : goal.returns-clause-only
returns-clause-only g c = c.run_on.ensures.conducts.only

pub returns-clause-too_long : goal.returns-clause-too_long
returns-clause-too_long g c = c.run_on.ensures.conducts.too_long

pub returns-clause-read_fault : goal.returns-clause-read_fault
returns-clause-read_fault g c = c.run_on.ensures.conducts.read_fault

pub returns-clause-early : goal.returns-clause-early
returns-clause-early g c = c.run_on.ensures.conducts.early

pub returns-clause-write_fault : goal.returns-clause-write_fault
returns-clause-write_fault g c = c.run_on.ensures.conducts.write_fault
