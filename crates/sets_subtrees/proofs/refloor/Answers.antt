-- Tops over the level of x stay with their runs; others are refilled by retop and tied anew, in tables of the same lengths.
use mathlib.Core.Path.{◌≡◌, refl, sym, ◌∙◌}
use native.Mathlib.Omega.{arith}
use borrow.Author.Tests.{eqb-true, eqb-false}
use Rattle.formula.specs.Meaning.{level}
use Rattle.forest_tables.proofs.Agreeing.{lawful}
use Rattle.sets_subtrees.specs.InnerRuns.{Within}
use Rattle.sets_subtrees.proofs.Linked.{tops_within}
use Rattle.sets_subtrees.proofs.refloor.Goals as goal

pub returns-then-eq : goal.returns-then-eq
returns-then-eq c =
    let own_level : c.level_at-level.result.0 ≡ level c.args.prefix.now c.args.x.0 = let (sound, formed, small, levelled) = c.requires.sound in
    c.level_at-level.ensures.read ∙ levelled.1.level_is c.args.x.0 small in
    record {
      floored = c.requires.floored;
      own = (eqb-true _ _ (sym c.eq.ensures ∙ c.if-eq.true) ∙ own_level, λ same. refl);
    }

pub retop-floor-requires : goal.retop-floor-requires
retop-floor-requires c =
    let (sound, formed, small, levelled) = c.requires.sound in
    let floored = c.requires.floored in
    let few = sound.few in
    let rows = floored.rows in
    record {
      sound = (sound, formed, omega arith);
      levelled = (small, levelled);
      topped = (floored.over, floored.known);
    }

pub link_runs-requires : goal.link_runs-requires
link_runs-requires c =
    let within : Within c.args.n c.retop-floor.new.tops = let (sound, formed, small, levelled) = c.requires.sound in
    tops_within c.retop-floor.new.tops (lawful c.args.n c.args.prefix.now) formed c.retop-floor.ensures.topped.0.rows in
    let few = c.requires.sound.0.few in
    let floored = c.requires.floored in
    let links = floored.links in
    let heads = floored.heads in
    let over = c.retop-floor.ensures.topped.0 in
    record { within = (few, over.most, over.none, within, omega arith, omega arith) }

pub returns : goal.returns
returns c =
    let own_level : c.level_at-level.result.0 ≡ level c.args.prefix.now c.args.x.0 = let (sound, formed, small, levelled) = c.requires.sound in
    c.level_at-level.ensures.read ∙ levelled.1.level_is c.args.x.0 small in
    let within : Within c.args.n c.retop-floor.new.tops = let (sound, formed, small, levelled) = c.requires.sound in
    tops_within c.retop-floor.new.tops (lawful c.args.n c.args.prefix.now) formed c.retop-floor.ensures.topped.0.rows in
    let floored = c.requires.floored in
    let (over, known) = c.retop-floor.ensures.topped in
    let own = c.retop-floor.ensures.own in
    let link = c.link_runs in
    record {
      floored = record {
        known = known;
        over = over;
        within = within;
        led = link.ensures.led;
        rows = c.retop-floor.auto.tops ∙ floored.rows;
        heads = link.auto.lead ∙ floored.heads;
        links = link.auto.after ∙ floored.links;
      };
      own = (own, λ same. absurd (eqb-false _ _ (sym c.eq.ensures ∙ c.if-eq.false) (same ∙ own ∙ sym own_level)));
    }
