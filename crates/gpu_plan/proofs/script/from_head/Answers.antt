use Rattle.std.proofs.Common.{ap, subst, arith, length, rules}
use Rattle.script_lines.specs.Text.{lines_of}
use Rattle.script_lines.specs.Outcome.{GivesScript}
use Rattle.gpu_plan.proofs.Whole.{head_skips, head_there, head_none}
use Rattle.gpu_plan.proofs.script.from_head.Goals as goal

pub returns-in-None : goal.returns-in-None
returns-in-None c = head_none c.loop-line.number (lines_of c.loop-line.lines.rest.now) _ c.in-None.ensures.steps.0 c.loop-line.invariant.said

pub returns-then-not-is_skipped : goal.returns-then-not-is_skipped
returns-then-not-is_skipped c =
    let e = head_there c.loop-line.number (lines_of c.loop-line.lines.rest.now) (lines_of c.next.new.self.rest.now) c.in-Some.line.now c.version_of.result _ c.in-Some.ensures.steps (search rules) c.version_of.ensures.said c.loop-line.invariant.said in
    subst (GivesScript (λ plans. plans) c.from_version.result) e c.from_version.ensures

pub loop-line-preserved : goal.loop-line-preserved
loop-line-preserved c = record {
  said = head_skips c.loop-line.number (lines_of c.loop-line.lines.rest.now) (lines_of c.next.new.self.rest.now) c.in-Some.line.now _ c.in-Some.ensures.steps (search rules) c.loop-line.invariant.said;
  numbers = omega (arith, ap length c.in-Some.ensures.steps);
}
