use Rattle.cr_tables.proofs.Tabled.{counted, places_are}
use Rattle.cr_tables.proofs.class_tables.all_places.Goals as goal

pub places_by-requires : goal.places_by-requires
places_by-requires c = counted c.args.lookup.now.core.now c.class_count-count.result c.args.lines.now c.class_count-count.ensures c.requires.lines

pub returns : goal.returns
returns c =
    places_are c.args.lookup.now.core.now c.class_count-count.result c.args.lines.now c.in_ok-places.places.items c.class_count-count.ensures c.requires.lines c.in_ok-places.ensures
