-- The earlier part of an order; and what reading promises by one order, it promises by another that says as much.
use Rattle.std.specs.Prelude.{Ok, Err}
use Rattle.terms.specs.Says.{Answer}
use Rattle.terms.specs.declared.Loaded.{Loaded}
use Rattle.std.proofs.Common.{ℕ, List, [], ◌∷◌, ◌++◌}
use Rattle.terms.specs.Refusals.{Causes, NoneOf}
use Rattle.terms.proofs.Orders.{Carries}
use Rattle.formula.specs.Lent.{Formula}
use Rattle.file_format.specs.Causes.{Lent}
use Rattle.file_format.specs.Promises.{Loading}

-- none of an order's earlier causes
pub none_first : (order more : List Causes) → NoneOf (order ++ more) → NoneOf order
none_first [] more none = tt
none_first (causes ∷ later) more none = (none.0, none_first later more none.1)

pub carry_loading : (read : Formula) (file : List ℕ) (lent lent' : Lent) (answer : Answer Loaded) (order order' : List Causes)
    → Carries order order' → Loading order read file lent lent' answer → Loading order' read file lent lent' answer
carry_loading read file lent lent' (Ok _) order order' c (none, held) = (c.none none, held)
carry_loading read file lent lent' (Err refusal) order order' c (first, kept) = (c.first _ _ first, kept)
