-- Where the tops that both signs have are several, they are flagged, and the line is that by the flags. Where there is one at most, its own flag alone
-- would flag it, and the run to which its row leads is its set, empty where there is none: so that the line is again that by flags.
use Prim.Native.Nat.{ℕ, ◌≤◌}
use mathlib.Core.Path.{◌≡◌, refl, sym, ap, ◌∙◌, subst, subst₂}
use mathlib.Core.Bool.{Bool}
use mathlib.Core.List.{List}
use mathlib.Core.Logic.{◌↔◌}
use native.Mathlib.Omega.{arith}
use lib.IntN.{ℤ}
use lib.ListN.{length, get_or}
use Rattle.std.specs.Prelude.{None, Some, Ok}
use Rattle.terms.specs.InnerPairs.{low_of, high_of}
use Rattle.terms.specs.declared.Scheme.TheVariants.{Strict}
use Rattle.forest_members.specs.declared.Asked.TheVariants.{Set}
use Rattle.forest_members.specs.InnerPicked.{pick}
use Rattle.forest_entries.specs.InnerFlags.{Takes, Via}
use Rattle.sets_occurrences.specs.InnerThreads.{Together, EnteredBy}
use Rattle.sets_occurrences.specs.InnerSoleTops.{Is, SoleOf}
use Rattle.sets_subtrees.specs.InnerRuns.{Run, Within, Led, only, having}
use Rattle.sets_record.proofs.Soles.{sole_entering, takes_some, sole_is, having_none, sole_within}
use Rattle.listing_lines.specs.Lines.{universal_line, LineIn}
use Rattle.listing.proofs.Printed.{picked_small, none_picked, sole_picked}
use Rattle.listing.proofs.Flagged.{line_flagged}
use Rattle.listing.proofs.line_of.Goals as goal

-- What both signs of x have ...
abbrev Both : ℕ → List ℕ → List ℤ → ℕ → ℕ → Type 0
Both n tops clauses x e = Takes Strict (λ (sign : Bool). Via n tops (Together clauses sign x) e)

-- ... is one of the variables, where it is the sole top ...
low : (n : ℕ) (tops : List ℕ) (clauses : List ℤ) (x top : ℕ) → ((e : ℕ) → Is top e ↔ Both n tops clauses x e) → Within n tops → top ≤ n
low n tops clauses x top sole within = sole_within Strict n tops (λ (sign : Bool). Together clauses sign x) top sole within

-- ... whose row, unpacked, leads to all that have it.
leads : (n : ℕ) (tops lead after : List ℕ) (top row head size : ℕ) → Led n tops lead after → top ≤ n → row ≡ get_or lead top 0
    → (head ≡ low_of row) × (size ≡ high_of row) → Run after head (having n tops top) × (size ≡ length (having n tops top))
leads n tops lead after top row head size led within read (first, counted) =
    let (starts, counts) = led top within in
    (subst (λ (v : ℕ). Run after v (having n tops top)) (sym (first ∙ ap low_of read)) starts, counted ∙ ap high_of read ∙ counts)

pub returns-in-Ok-None : goal.returns-in-Ok-None
returns-in-Ok-None c =
    let a = c.args in
    let (few, _, _, closed, _) = c.requires.tied in
    let sole = sole_is Strict a.n a.tops.now (λ sign. Together a.clauses.now sign a.x.0) None c.in-Ok-None.field-0-is c.in-Ok-None.ensures.sole in
    let call = c.universal_line in
    let entered : EnteredBy Strict a.n a.tops.now a.clauses.now a.x.0 (only 0) = sole_entering 0 sole in
    record {
      stored =
          line_flagged few closed c.requires.own entered
          (subst₂ (λ (e m : List ℕ). LineIn (universal_line a.x.0 a.level.0 e m) a.line.now call.new.out call.result)
          (sym (none_picked a.n a.tops.now)) (sym (having_none a.n a.tops.now)) call.ensures.stored);
    }

pub run_line-requires : goal.run_line-requires
run_line-requires c =
    let a = c.args in
    let top = c.in-Ok-Some.top.0 in
    let (few, x, level, _, _) = c.requires.tied in
    let sole =
    sole_is Strict a.n a.tops.now (λ sign. Together a.clauses.now sign a.x.0) (Some c.in-Ok-Some.top) c.in-Ok-Some.field-0-is c.in-Ok-Some.ensures.sole in
    let within = low a.n a.tops.now a.clauses.now a.x.0 top sole c.requires.led.0 in
    let small = picked_small (pick Set a.n (only top) a.tops.now) a.n few in
    let most : top ≤ 4096 = omega arith in
    let (starts, size) =
    leads a.n a.tops.now a.lead.now a.after.now top _ _ _ c.requires.led.1 within c.row_at.ensures.read c.unpack.ensures.both in
    record { small = ((having a.n a.tops.now top, starts, size, small), most, omega arith, level, c.requires.led.2) }

pub returns-in-Err : goal.returns-in-Err
returns-in-Err c =
    let (few, _, _, closed, _) = c.requires.tied in
    let (flags, entered, stored) = c.flagged_line.ensures.stored in
    record { stored = line_flagged few closed c.requires.own entered stored }

pub returns-in-Ok-Some : goal.returns-in-Ok-Some
returns-in-Ok-Some c =
    let a = c.args in
    let top = c.in-Ok-Some.top.0 in
    let (few, _, _, closed, _) = c.requires.tied in
    let sole =
    sole_is Strict a.n a.tops.now (λ sign. Together a.clauses.now sign a.x.0) (Some c.in-Ok-Some.top) c.in-Ok-Some.field-0-is c.in-Ok-Some.ensures.sole in
    let within = low a.n a.tops.now a.clauses.now a.x.0 top sole c.requires.led.0 in
    let (starts, _) =
    leads a.n a.tops.now a.lead.now a.after.now top _ _ _ c.requires.led.1 within c.row_at.ensures.read c.unpack.ensures.both in
    let members = having a.n a.tops.now top in
    let call = c.run_line in
    let entered : EnteredBy Strict a.n a.tops.now a.clauses.now a.x.0 (only top) = sole_entering top sole in
    let own = subst (λ t. SoleOf (Ok t) (Both a.n a.tops.now a.clauses.now a.x.0)) c.in-Ok-Some.field-0-is c.in-Ok-Some.ensures.sole in
    let some = takes_some Strict a.n a.tops.now (λ sign. Together a.clauses.now sign a.x.0) ((own top).0 refl) in
    let listed = sole_picked a.n a.tops.now top some few within in
    record {
      stored =
          line_flagged few closed c.requires.own entered
          (subst (λ (e : List ℕ). LineIn (universal_line a.x.0 a.level.0 e members) a.line.now call.new.line call.result) listed
          (call.ensures.stored members starts));
    }
