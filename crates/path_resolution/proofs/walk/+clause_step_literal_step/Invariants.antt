-- The two steps call each other. A clause step marks a literal before the literal step from it, so that twice the unmarked literals fall, and a
-- literal step stands one above the clause steps of its complement. What each loop knows is Leaving and Stepping; their laws are in Steps.
use Rattle.std.proofs.Common.{◌+◌}
use Rattle.path_resolution.specs.InnerWalk.{unmarked}
use Rattle.path_resolution.proofs.Steps.{Stepping, Leaving}
use Rattle.path_resolution.proofs.walk.+clause_step_literal_step.Given as goal

-- The measures: twice the unmarked literals, and one more for a literal step.
abbrev pub decreases-clause_step : goal.decreases-clause_step
decreases-clause_step l = unmarked l.marks.now + unmarked l.marks.now

abbrev pub decreases-literal_step : goal.decreases-literal_step
decreases-literal_step l = unmarked l.marks.now + unmarked l.marks.now + 1

-- The clause step: every literal passed that the clause may be left by is marked.
abbrev pub invariant-clause_step-loop-i : goal.invariant-clause_step-loop-i
invariant-clause_step-loop-i l = Leaving l.clauses l.entry l.start l.initial.marks l.marks l.i

-- The literal step: of the chain of the variable, every clause behind that is entered by the complement is left.
abbrev pub invariant-literal_step-loop-at : goal.invariant-literal_step-loop-at
invariant-literal_step-loop-at l = Stepping l.clauses l.first l.next l.fn.from.0 l.initial.marks l.marks l.at

abbrev pub decreases-literal_step-loop-at : goal.decreases-literal_step-loop-at
decreases-literal_step-loop-at l = l.at
