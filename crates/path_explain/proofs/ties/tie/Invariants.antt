-- The invariant (Tying): the entries before i are tied, and the clause that entry i stands in has the number.
use Prim.Native.Nat.{ℕ}
use Rattle.path_explain.proofs.Tying.{Tying}
use Rattle.path_explain.proofs.ties.tie.Given as goal

abbrev pub invariant-loop-i : goal.invariant-loop-i
invariant-loop-i l = (start : ℕ) × Tying l.clauses l.begins l.first l.next l.number start l.i
