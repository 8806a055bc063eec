use Rattle.std.proofs.Common.{inl, inr}
use Rattle.guarded_routes.proofs.Begins.{accesses_down, submits, ticks_up}
use Rattle.guarded_routes.proofs.Replies.{answers_below, carried_down, carried_up, delivers_alone}
use Rattle.guarded_routes.proofs.laws.emissions_are_sound.Goals as goal

pub returns-clause-submitted : goal.returns-clause-submitted
returns-clause-submitted c = λ platform domain function number bytes state made emission guarded legal sent. inl (submits platform guarded domain function number bytes state made emission legal sent)

pub returns-clause-ticked : goal.returns-clause-ticked
returns-clause-ticked c = λ platform domain function number state made emission guarded legal sent. inl (ticks_up platform guarded domain function number state made emission legal sent)

pub returns-clause-accessed : goal.returns-clause-accessed
returns-clause-accessed c = λ platform domain number access state made emission guarded legal sent well. accesses_down platform guarded domain number state access made emission legal sent well

pub returns-clause-carried : goal.returns-clause-carried
returns-clause-carried c = λ platform frame number state made emission guarded sound request flies legal sent well. carried_down platform guarded frame number state made emission sound request flies legal sent well

pub returns-clause-answered : goal.returns-clause-answered
returns-clause-answered c = λ platform function frame number state made emission guarded listed sound request flies legal sent well. inr (carried_up platform guarded frame number function state made emission listed sound request flies legal sent well)

pub returns-clause-refused : goal.returns-clause-refused
returns-clause-refused c = λ platform function frame number state made emission guarded sound parties flies legal sent well. answers_below platform guarded frame number function state made emission sound parties flies legal sent well

pub returns-clause-delivered : goal.returns-clause-delivered
returns-clause-delivered c = λ share state number made legal. delivers_alone share state number made legal
