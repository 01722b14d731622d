-- The plan that the code keeps, as clauses see it.
use Rattle.pir_io.specs.declared.plan.Plan.{Plan}
use Rattle.pir_io.specs.Plan.{CallPlan}

abbrev pub call_plan : Plan → CallPlan
call_plan plan = record { fail = plan.fail.items; calls = plan.calls }
