use Rattle.guarded_routes.proofs.Links.{none_above, one_way, way_of}
use Rattle.guarded_routes.proofs.laws.functions_have_ways.Goals as goal

pub returns-clause-way : goal.returns-clause-way
returns-clause-way c = λ platform domain function guarded own. way_of platform guarded domain function own

pub returns-clause-only : goal.returns-clause-only
returns-clause-only c = λ platform lower one other guarded way also. one_way platform guarded lower one other way also

pub returns-clause-top : goal.returns-clause-top
returns-clause-top c = λ platform guarded. none_above platform guarded
