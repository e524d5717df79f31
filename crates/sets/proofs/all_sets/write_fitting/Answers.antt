-- That there is room is told before anything is written, so that the pass either has room for every record or is not made.
use Prim.Native.Nat.{ℕ}
use mathlib.Core.Path.{◌≡◌, refl, ap, ap₂, ◌∙◌, subst}
use mathlib.Core.Bool.{Bool, cond}
use mathlib.Core.List.{List}
use native.Mathlib.Omega.{arith}
use lib.ListN.{length}
use lib.Seq.{sets}
use Rattle.sets.specs.InnerPassed.{SetsUpto, TellsRoom}
use Rattle.sets.proofs.AllSets.{sets_small}
use Rattle.sets.proofs.all_sets.write_fitting.Goals as goal

pub returns-then-not-sets_fit : goal.returns-then-not-sets_fit
returns-then-not-sets_fit c =
    let Upto : ℕ → List ℕ → Type 0 = let a = c.args in
    SetsUpto a.pass.scheme a.pass.n a.prefix.now a.clauses.now a.classes.now a.parents.now in
    let told : (b : Bool) → c.sets_fit.result ≡ b → TellsRoom b Upto c.args.pass.n (length c.args.out.now) =
    λ b is. subst (λ b. TellsRoom b Upto c.args.pass.n (length c.args.out.now)) is c.sets_fit.ensures.told in
    record { listed = (refl, refl, told _ c.if-not-sets_fit.true, c.sets_fit.ensures.kept) }

pub pass_sets-end-requires : goal.pass_sets-end-requires
pass_sets-end-requires c =
    let Upto : ℕ → List ℕ → Type 0 = let a = c.args in
    SetsUpto a.pass.scheme a.pass.n a.prefix.now a.clauses.now a.classes.now a.parents.now in
    let told : (b : Bool) → c.sets_fit.result ≡ b → TellsRoom b Upto c.args.pass.n (length c.args.out.now) =
    λ b is. subst (λ b. TellsRoom b Upto c.args.pass.n (length c.args.out.now)) is c.sets_fit.ensures.told in
    let room = told _ c.if-not-sets_fit.false in
    let size = ap length c.sets_fit.ensures.kept in
    record {
      ready = c.requires.ready;
      room = λ _ m list l r. let fits = room m list l r in omega arith;
    }

pub overflow_cast-result : goal.overflow_cast-result
overflow_cast-result c =
    let a = c.args in
    let n = a.pass.n in
    let few = c.requires.ready.sound.few in
    let (list, r, size, _) = c.pass_sets-end.ensures.put in
    let small =
    sets_small a.pass.scheme n a.prefix.now a.clauses.now a.classes.now a.parents.now few n list (omega arith) r in
    omega arith

pub returns : goal.returns
returns c =
    let Upto : ℕ → List ℕ → Type 0 = let a = c.args in
    SetsUpto a.pass.scheme a.pass.n a.prefix.now a.clauses.now a.classes.now a.parents.now in
    let told : (b : Bool) → c.sets_fit.result ≡ b → TellsRoom b Upto c.args.pass.n (length c.args.out.now) =
    λ b is. subst (λ b. TellsRoom b Upto c.args.pass.n (length c.args.out.now)) is c.sets_fit.ensures.told in
    let n = c.args.pass.n in
    let room = told _ c.if-not-sets_fit.false in
    let same = c.sets_fit.ensures.kept in
    let (list, r, size, put) = c.pass_sets-end.ensures.put in
    let stored = put ∙ ap₂ (λ (b : Bool) (o : List ℕ). cond b (sets o 0 list) o) c.requires.writing same in
    record { listed = (list, r, size, room n list (omega arith) r, stored) }
