-- What gather finds of the universals is what tie_places asks; no more is gathered than there are entries.
use native.Mathlib.Omega.{arith}
use Rattle.sets_occurrences.proofs.thread_by.Goals as goal

pub gather-count-requires : goal.gather-count-requires
gather-count-requires c =
    let (sound, heads, links, none, room, room', covered) = c.requires.sound in
    record { sound = (sound, room, room', covered) }

pub tie_places-requires : goal.tie_places-requires
tie_places-requires c =
    let (sound, heads, links, none, room, room', covered) = c.requires.sound in
    let gather = c.gather-count in
    let few = gather.ensures.gathered.few in
    let size = gather.auto.places in
    let size' = gather.auto.starts in
    record {
      sound = (sound, links, none);
      gathered = (omega arith, omega arith, (c.args.universals.now, heads, gather.ensures.gathered));
    }

pub returns : goal.returns
returns c = record { threaded = c.tie_places.ensures.threaded c.args.universals.now c.gather-count.ensures.gathered }
